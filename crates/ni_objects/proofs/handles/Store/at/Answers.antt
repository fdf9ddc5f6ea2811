use Rattle.std.proofs.Common.{◌≡◌, Some, None, is_some, arith, refl, ap, sym, ◌∙◌}
use Rattle.std.proofs.lemmas.Bool.Decides.{nat_tests}
use Rattle.slab.specs.Slab.{get}
use Rattle.ni_objects.proofs.handles.StoreLemmas.{lookup-read, held_in, there_live, same_by_parts, stamp_at}
use Rattle.ni_objects.proofs.handles.Slots.{has_slot-table, only-table}
use Rattle.ni_objects.proofs.handles.Store.at.Goals as goal

pub returns-in-Some-clause-found : goal.returns-in-Some-clause-found
returns-in-Some-clause-found g c =
    let at : Some c.in-Some.held.now ≡ get c.self.inside.slab c.args.slot = grind (arith, c.get.ensures, c.in-Some.is) in
    let e : held_in (record { slot = c.args.slot; stamp = c.in-Some.held.now.stamp }) (Some c.in-Some.held.now) ≡ _ =
    lookup-read (record { slot = c.args.slot; stamp = c.in-Some.held.now.stamp }) c.self.inside.slab c.self.inside.given
    c.self.inside.limit c.args.self.now (Some c.in-Some.held.now) c.self.view_is at in
    (refl, grind (arith, nat_tests, e))

pub returns-in-Some-clause-alone : goal.returns-in-Some-clause-alone
returns-in-Some-clause-alone g c = λ h same some.
    let at : get c.self.inside.slab c.args.slot ≡ Some c.in-Some.held.now = grind (arith, c.get.ensures, c.in-Some.is) in
    let x = there_live h c.self.inside.slab c.self.inside.given c.self.inside.limit c.args.self.now c.self.view_is some in
    same_by_parts h c.args.slot c.in-Some.held.now.stamp (sym same)
    (stamp_at c.self.inside.slab h.slot c.args.slot x.0 c.in-Some.held.now h.stamp same x.1 at x.2)

pub returns-in-None-clause-none : goal.returns-in-None-clause-none
returns-in-None-clause-none g c =
    let at : get c.self.inside.slab c.args.slot ≡ None = grind (arith, c.get.ensures, c.in-None.is) in
    has_slot-table c.args.slot c.self.inside.slab c.self.inside.given c.self.inside.limit c.args.self.now c.self.view_is ∙ ap is_some at

pub returns-in-Some-clause-only : goal.returns-in-Some-clause-only
returns-in-Some-clause-only g c =
    let at : get c.self.inside.slab c.args.slot ≡ Some c.in-Some.held.now = grind (arith, c.get.ensures, c.in-Some.is) in
    only-table c.self.inside.slab c.self.inside.given c.self.inside.limit c.args.slot c.args.self.now c.in-Some.held.now c.self.view_is at
