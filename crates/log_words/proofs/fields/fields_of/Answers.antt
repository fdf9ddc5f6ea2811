use Rattle.std.proofs.Common.{◌≡◌, ℕ, List, [], take, Option, false, sym, ap, subst, ◌∙◌}
use Rattle.std.specs.Prelude.{Ok}
use Rattle.std.specs.List.{list_any}
use Rattle.log_words.specs.Words.{Word, Rest, key_of, value_of}
use Rattle.log_words.specs.Reading.{same_key, with_fields}
use Rattle.log_words.proofs.FieldSteps.{parted, when_more}
use Rattle.log_words.proofs.fields.fields_of.Goals as goal

pub loop-word-preserved : goal.loop-word-preserved
loop-word-preserved g c =
    let n = c.loop-word.count in
    let first = c.again-first.result.words in
    let w = c.in-Some.word in
    let later = c.next_of_call.new.self in
    let x = c.loop-word.of in
    let all = parted n first w later.words (c.loop-word.invariant.left ∙ ap (λ (r : Rest). r.words) c.in-Some.ensures.some) in
    let new : list_any (same_key w) (take n first) ≡ false =
    subst (λ (r : Rest). list_any (same_key w) (take n r.words) ≡ false) c.again.ensures.same (sym c.if-has_key.ensures) in
    let by_key = ap (λ (t : List ℕ). g.T.HasFields.set t c.field-value.result.1 x) c.field-value.ensures.key in
    let by_value = ap (λ (o : Option Word). g.T.HasFields.set (key_of w) o x) c.field-value.ensures.value in
    let said : g.T.HasFields.set (key_of w) (value_of w) x ≡ Ok c.in-Ok.of = sym (c.in-Ok.ensures ∙ by_key ∙ by_value) in
    let read =
    when_more g.T.HasFields.set (with_fields g.T.HasFields.set [] c.args.words.now.words c.args.words.now.past c.args.plain) (take n first)
    c.loop-word.words later w x c.in-Ok.of c.loop-word.invariant.reads c.in-Some.ensures.some c.in-Some.ensures.inside new said in
    record { reads = rw all.0 read; left = all.1; at_most = c.loop-word.invariant.at_most; within = all.2 }
