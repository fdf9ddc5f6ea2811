use Rattle.std.proofs.Common.{◌+◌, ◌*◌, sym, ap, ◌∙◌, arith}
use Rattle.triggered_ops.proofs.Hanging.{belongs-within, home-stray, home-lists}
use Rattle.triggered_ops.proofs.lists.home.Goals as goal

pub overflow_mul-result : goal.overflow_mul-result
overflow_mul-result c = let w = belongs-within c.args.stamps.now c.args.ct (sym c.belongs.ensures ∙ c.if-belongs.true) in
    omega (arith, w, c.requires)

pub overflow_add-result : goal.overflow_add-result
overflow_add-result c = let w = belongs-within c.args.stamps.now c.args.ct (sym c.belongs.ensures ∙ c.if-belongs.true) in
    omega (arith, w, c.requires, c.side.ensures.at_most)

pub returns-then-belongs : goal.returns-then-belongs
returns-then-belongs c = ap (λ n. 2 * c.args.ct.slot + n) c.side.ensures.same
    ∙ sym (home-lists c.args.stamps.now c.args.ct c.args.due (sym c.belongs.ensures ∙ c.if-belongs.true))

pub returns-else-belongs : goal.returns-else-belongs
returns-else-belongs c = sym (home-stray c.args.stamps.now c.args.ct c.args.due (sym c.belongs.ensures ∙ c.if-belongs.false))
