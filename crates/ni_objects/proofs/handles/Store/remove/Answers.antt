use Rattle.std.proofs.Common.{◌≡◌, Some, None, sym, refl, arith}
use Rattle.std.proofs.lemmas.Bool.Decides.{nat_tests}
use Rattle.ni_model.specs.Tables.{lookup}
use Rattle.ni_objects.proofs.handles.StoreLemmas.{held_in, lookup-read, there_live, IsSome-there, none_of}
use Rattle.ni_objects.proofs.handles.Removal.{table-without, filter-absent}
use Rattle.ni_objects.proofs.handles.Store.remove.Goals as goal

pub remove-requires : goal.remove-requires
remove-requires g c =
    let x = there_live c.args.h c.self.inside.slab c.self.inside.given c.self.inside.limit c.args.self.now c.self.view_is
    (c.is_live.ensures.0 c.if-is_live.true) in
    IsSome-there _ x.0 x.1

pub returns-then-is_live-clause-value : goal.returns-then-is_live-clause-value
returns-then-is_live-clause-value g c =
    let x = there_live c.args.h c.self.inside.slab c.self.inside.given c.self.inside.limit c.args.self.now c.self.view_is
    (c.is_live.ensures.0 c.if-is_live.true) in
    let same : x.0 ≡ c.remove.result = cc (x.1, c.remove.ensures.value) in
    let stamp : c.remove.result.stamp ≡ c.args.h.stamp = cc (x.2, same) in
    let e : held_in c.args.h (Some c.remove.result) ≡ _ = lookup-read c.args.h c.self.inside.slab c.self.inside.given c.self.inside.limit
    c.args.self.now (Some c.remove.result) c.self.view_is (sym c.remove.ensures.value) in
    grind (arith, nat_tests, e, stamp)

pub returns-then-is_live-clause-rest : goal.returns-then-is_live-clause-rest
returns-then-is_live-clause-rest g c =
    let x = there_live c.args.h c.self.inside.slab c.self.inside.given c.self.inside.limit c.args.self.now c.self.view_is
    (c.is_live.ensures.0 c.if-is_live.true) in
    table-without c.args.h c.self.inside.slab c.remove.new.self c.self.inside.given c.self.inside.limit c.args.self.now x.0 c.self.view_is
    x.1 x.2 c.remove.ensures.slots

pub returns-else-is_live-clause-rest : goal.returns-else-is_live-clause-rest
returns-else-is_live-clause-rest g c =
    let none : lookup c.args.h c.args.self.now.live ≡ None = none_of _ _ c.is_live.ensures c.if-is_live.false in
    rw (filter-absent c.args.h c.args.self.now.live none) refl
