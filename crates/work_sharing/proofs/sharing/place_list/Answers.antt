use Rattle.std.proofs.Common.{◌<◌, arith, length, rules}
use Rattle.work_sharing.proofs.Placed.{given-first, place-first}
use Rattle.work_sharing.proofs.sharing.place_list.Goals as goal

pub bounds-places-index : goal.bounds-places-index
bounds-places-index g c =
    let first = given-first g.F.Fn c.args.f.now _ _ _ _ _ c.in-Some.ensures.steps.0 c.loop-index.invariant.given in omega (arith, first.0)

pub offset_bounds-places-index : goal.offset_bounds-places-index
offset_bounds-places-index g c =
    let first = given-first g.F.Fn c.args.f.now _ _ _ _ _ c.in-Some.ensures.steps.0 c.loop-index.invariant.given in
    let low : c.in-Some.index < length c.loop-index.places = omega (arith, first.0) in search rules

pub loop-index-preserved-in-Some : goal.loop-index-preserved-in-Some
loop-index-preserved-in-Some g c =
    let i = c.loop-index.invariant in place-first g.F.Fn c.args.f.now _ _ _ _ _ _ c.in-Some.ensures.steps.0 i.given i.shared

pub loop-index-preserved : goal.loop-index-preserved
loop-index-preserved g c =
    let i = c.loop-index.invariant in place-first g.F.Fn c.args.f.now _ _ _ _ _ _ c.in-Some.ensures.steps.0 i.given i.shared
