use Rattle.std.proofs.Common.{◌≡◌, Some, None, arith}
use Rattle.std.proofs.lemmas.Bool.Decides.{nat_tests}
use Rattle.ni_objects.proofs.handles.StoreLemmas.{lookup-read, held_in}
use Rattle.ni_objects.proofs.handles.Store.get.Goals as goal
use Rattle.ni_objects.proofs.handles.Store.get.Goals.{in_default-via-in-Some+else-held-h, in_default-via-in_default}

pub returns-in-Some : goal.returns-in-Some
returns-in-Some g c =
    let e : held_in c.args.h (Some c.in-Some.held.now) ≡ _ = lookup-read c.args.h c.self.inside.slab c.self.inside.given
    c.self.inside.limit c.args.self.now (Some c.in-Some.held.now) c.self.view_is (grind (arith, c.get.ensures, c.in-Some.is)) in
    grind (arith, nat_tests, e)

pub returns-in_default : goal.returns-in_default
returns-in_default g c =
    elim c.in_default.branch [
      | in_default-via-in-Some+else-held-h w ↦
          let e : held_in c.args.h (Some w.in-Some.held.now) ≡ _ = lookup-read c.args.h c.self.inside.slab c.self.inside.given
          c.self.inside.limit c.args.self.now (Some w.in-Some.held.now) c.self.view_is (grind (arith, c.get.ensures, w.in-Some.is)) in
          grind (arith, nat_tests, e, w.if-held-h.false)
      | in_default-via-in_default w ↦
          lookup-read c.args.h c.self.inside.slab c.self.inside.given c.self.inside.limit c.args.self.now None c.self.view_is
          (grind (arith, c.get.ensures, w.in_default.is))
    ]
