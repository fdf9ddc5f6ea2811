-- The parts one after the other; what the message keeps is kept of its parts.
use Rattle.std.proofs.Common.{◌≡◌, ℕ, List, ◌++◌, ap, ap₂, subst, ◌∙◌, append_assoc}
use Rattle.ptl_types.specs.Filled.{filled}
use Rattle.ptl_types.specs.Messages.{FillsHeader}
use Rattle.message_codec.specs.Encoding.{codes, words, double_words, NumbersFit}
use Rattle.message_codec.proofs.encoding.put_message.Goals as goal

joined : (a b c d : List ℕ) → ((a ++ b) ++ c) ++ d ≡ a ++ (b ++ (c ++ d))
joined a b c d = append_assoc (a ++ b) c d ∙ append_assoc a b (c ++ d)

pub returns-clause-ok : goal.returns-clause-ok
returns-clause-ok c =
    let m = c.args.message.now in
    let h = c.header-header.result.now in
    let out = c.args.out.now.items in
    c.in_ok-extend_from_slice.ensures.items
    ∙ ap₂ (λ (xs ys : List ℕ). xs ++ ys)
    (c.in_ok-put_numbers.ensures.ok ∙ ap (λ (l : List ℕ). l ++ (words h ++ double_words h)) c.in_ok-put_codes.ensures)
    (c.as_slice.ensures ∙ c.bytes.ensures.list)
    ∙ joined out (codes h) (words h ++ double_words h) m.bytes
    ∙ ap (λ x. out ++ (codes x ++ ((words x ++ double_words x) ++ m.bytes))) c.header-header.ensures

pub returns-clause-has : goal.returns-clause-has
returns-clause-has c =
    let m = c.args.message.now in
    let room = c.bytes.result.now.room in
    record {
      fit = subst NumbersFit c.header-header.ensures c.in_ok-put_numbers.ensures.fit;
      fills = (room, subst (λ (l : List ℕ). FillsHeader m.header (filled l room)) c.bytes.ensures.list c.bytes.ensures.kept);
    }
