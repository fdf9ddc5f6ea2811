use Rattle.std.proofs.Common.{◌≡◌, [], drop, true, sym, ap, ◌∙◌, arith, refl}
use Rattle.std.proofs.lemmas.List.{drop_all}
use Rattle.log_lines.proofs.Plain.{allowed, fine, fine_is, fine_next, fine_stops}
use Rattle.log_lines.proofs.lines.is_plain.Goals as goal

pub loop-b-init : goal.loop-b-init
loop-b-init c = refl

pub returns-then-ends_empty : goal.returns-then-ends_empty
returns-then-ends_empty c =
    sym (fine_stops c.loop-b.begins c.loop-b.b-index c.args.line.now (omega arith) (sym c.if-ends_empty.ensures))
    ∙ c.loop-b.invariant ∙ fine_is true c.args.line.now

pub loop-b-preserved : goal.loop-b-preserved
loop-b-preserved c =
    fine_next c.loop-b.begins _ c.loop-b.b-index c.args.line.now (omega arith) c.loop-b.invariant (allowed _ (sym c.if-is_barred.ensures))
    (sym c.if-ends_empty.ensures)

pub returns : goal.returns
returns c =
    let none : drop c.loop-b.b-index c.args.line.now ≡ [] = drop_all c.loop-b.b-index c.args.line.now (omega arith) in
    ap (λ bs. fine c.loop-b.begins bs) (sym none) ∙ c.loop-b.invariant ∙ fine_is true c.args.line.now
