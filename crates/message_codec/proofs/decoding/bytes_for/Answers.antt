-- By the rules: of all kinds but a get the bytes are those that came, and a get came without any.
use Rattle.std.proofs.Common.{◌≡◌, [], length, ap, sym, subst, ◌∙◌}
use Rattle.std.proofs.lemmas.Result.{IfOk-weaker}
use Rattle.ptl_types.specs.Filled.{Filled, filled}
use Rattle.ptl_types.specs.Messages.{FillsHeader}
use Rattle.message_codec.proofs.Rules.{get_brings_none, get_fills, others_fill}
use Rattle.message_codec.proofs.decoding.bytes_for.Goals as goal

pub returns-then-is_get-clause-list : goal.returns-then-is_get-clause-list
returns-then-is_get-clause-list c =
    let h = c.args.header.now in
    let list = c.args.list.now in
    let none = get_brings_none h list (sym c.is_get.ensures ∙ c.if-is_get.true) c.requires in
    IfOk-weaker c.with_room.result (λ (b : Filled). b ≡ filled [] h.length) (λ (b : Filled). b.list ≡ list)
    (λ b e. ap (λ (x : Filled). x.list) e ∙ sym none) c.with_room.ensures

pub returns-then-is_get-clause-fills : goal.returns-then-is_get-clause-fills
returns-then-is_get-clause-fills c =
    let h = c.args.header.now in
    let fills = get_fills h c.args.list.now (sym c.is_get.ensures ∙ c.if-is_get.true) c.requires in
    IfOk-weaker c.with_room.result (λ (b : Filled). b ≡ filled [] h.length) (λ (b : Filled). FillsHeader h b)
    (λ b e. subst (λ (x : Filled). FillsHeader h x) (sym e) fills) c.with_room.ensures

pub returns-clause-fills : goal.returns-clause-fills
returns-clause-fills c =
    let h = c.args.header.now in
    let list = c.args.list.now in
    let fills = others_fill h list (sym c.is_get.ensures ∙ c.if-is_get.false) c.requires in
    IfOk-weaker c.of.result (λ (b : Filled). b ≡ filled list (length list)) (λ (b : Filled). FillsHeader h b)
    (λ b e. subst (λ (x : Filled). FillsHeader h x) (sym e) fills) c.of.ensures
