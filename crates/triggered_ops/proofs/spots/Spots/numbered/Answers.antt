use Rattle.std.proofs.Common.{Some, sym, ap, ◌∙◌}
use Rattle.std.specs.Prelude.{option_map}
use Rattle.triggered_ops.specs.Operations.{numbered}
use Rattle.triggered_ops.proofs.Passing.{shown-at, shown-within}
use Rattle.triggered_ops.proofs.spots.Spots.numbered.Goals as goal

pub number-requires : goal.number-requires
number-requires g c = shown-within c.args.self.now.spots c.args.place (c.in-Some.action.now, c.in-Some.ct, c.in-Some.threshold)
    c.in-Some.ensures.found

pub returns-in-Some-clause-found : goal.returns-in-Some-clause-found
returns-in-Some-clause-found g c =
    let s = shown-at c.args.self.now.spots c.args.place c.in-Some.action.now c.in-Some.ct c.in-Some.threshold c.in-Some.ensures.found in
    ap (option_map numbered) s.is ∙ ap (λ t. Some t) s.shown_is
    ∙ ap (λ n. Some (n, c.in-Some.action.now, c.in-Some.ct, c.in-Some.threshold)) (sym c.number.ensures)
