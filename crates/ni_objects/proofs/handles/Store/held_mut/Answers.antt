use Rattle.std.proofs.Common.{◌≡◌, Some, sym, arith, refl}
use Rattle.std.proofs.lemmas.Bool.Decides.{nat_tests}
use Rattle.ni_objects.proofs.handles.StoreLemmas.{lookup-read, held_in, there_live, IsSome-there, table-write, change-once, IsTable-write}
use Rattle.ni_objects.proofs.handles.Store.held_mut.Goals as goal

pub index_mut-held-requires : goal.index_mut-held-requires
index_mut-held-requires g c =
    let x = there_live c.args.h c.self.inside.slab c.self.inside.given c.self.inside.limit c.args.self.now c.self.view_is c.requires in
    IsSome-there _ x.0 x.1

pub returns : goal.returns
returns g c =
    let x = there_live c.args.h c.self.inside.slab c.self.inside.given c.self.inside.limit c.args.self.now c.self.view_is c.requires in
    let same : x.0 ≡ c.index_mut-held.result.now = cc (x.1, c.index_mut-held.ensures.value) in
    let stamp : c.index_mut-held.result.now.stamp ≡ c.args.h.stamp = cc (x.2, same) in (
      (
        refl,
        λ w. table-write c.args.h c.self.inside.slab c.self.inside.given c.self.inside.limit c.args.self.now
            c.index_mut-held.result.now w c.self.view_is c.index_mut-held.ensures.value stamp,
      ),
      record {
        writes_back = tt;
        once = λ f. change-once f c.args.h c.self.inside.slab c.self.inside.given c.self.inside.limit c.args.self.now
            c.index_mut-held.result.now c.self.view_is c.index_mut-held.ensures.value stamp;
        value =
            let e : held_in c.args.h (Some c.index_mut-held.result.now) ≡ _ = lookup-read c.args.h c.self.inside.slab c.self.inside.given
            c.self.inside.limit c.args.self.now (Some c.index_mut-held.result.now) c.self.view_is
            (sym c.index_mut-held.ensures.value) in
            grind (arith, nat_tests, e, stamp);
      },
    )

pub invariant_of-self-lent : goal.invariant_of-self-lent
invariant_of-self-lent g c = λ w. IsTable-write c.args.h.slot c.self.inside.slab c.self.inside.given c.self.inside.limit
    c.index_mut-held.result.now w c.self.invariant c.index_mut-held.ensures.value
