-- The marks are those of a world around the nodes.
use Rattle.std.proofs.Common.{◌≡◌, length, ap, arith, subst, sym}
use Rattle.std.proofs.lemmas.List.{with_items_is}
use Rattle.std.specs.Vec.{with_items}
use Rattle.worlds.specs.FrameState.{FrameState}
use Rattle.worlds.specs.Frames.{IsClosed, MayClose}
use Rattle.worlds.specs.World.{WorldState}
use Rattle.worlds.proofs.Framed.{left_closed, left_fields, lent_many, lent_tasks}
use Rattle.worlds.proofs.frame.Frame.into_world.Goals as goal

pub mark_all-requires : goal.mark_all-requires
mark_all-requires c =
    let s = c.self.inside in
    let may = subst (λ (f : FrameState). MayClose f c.args.nodes.items) (sym c.self.view_is) c.requires in
    let a = c.deref_mut.ensures.value in
    record {
      sized = c.self.invariant.bare.sized;
      nodes = lent_many s.job s.traffic c.self.invariant c.args.nodes.items may c.deref_mut.result.now a;
      tasks = lent_tasks s.job s.traffic c.self.invariant c.args.nodes.items may c.deref_mut.result.now a;
    }

pub around-requires : goal.around-requires
around-requires c =
    let s = c.self.inside in
    let may = subst (λ (f : FrameState). MayClose f c.args.nodes.items) (sym c.self.view_is) c.requires in
    let a = c.deref_mut.ensures.value in
    let l = c.mark_all.auto.nodes in
    let x = ap length a in
    let n = c.args.nodes.ok.0 in
    let v = c.mark_all.ensures in
    let same = with_items_is c.args.nodes c.mark_all.new.nodes (let h : length c.mark_all.new.nodes ≡ c.args.nodes.len =
    omega (arith, l, x, n) in h) in
    left_fields s.job s.traffic c.self.invariant c.args.nodes.items may c.deref_mut.result.now a c.mark_all.new.nodes
    (with_items c.args.nodes c.mark_all.new.nodes).items same v.size v.same v.kept c.mark_all.new.traffic v.setting v.lanes v.counted

pub returns : goal.returns
returns c =
    let s = c.self.inside in
    let may = subst (λ (f : FrameState). MayClose f c.args.nodes.items) (sym c.self.view_is) c.requires in
    let a = c.deref_mut.ensures.value in
    let l = c.mark_all.auto.nodes in
    let x = ap length a in
    let n = c.args.nodes.ok.0 in
    let v = c.mark_all.ensures in
    let same = with_items_is c.args.nodes c.mark_all.new.nodes (let h : length c.mark_all.new.nodes ≡ c.args.nodes.len =
    omega (arith, l, x, n) in h) in
    subst (λ (f : FrameState). IsClosed f c.args.nodes.items c.around.result) c.self.view_is
    (subst (λ (w : WorldState). IsClosed (let f : FrameState = record
    { schedule = s.job.schedule; inputs = s.job.inputs; lanes = s.traffic.lanes } in f) c.args.nodes.items w) (sym c.around.ensures)
    (left_closed s.job s.traffic c.self.invariant c.args.nodes.items may c.deref_mut.result.now a c.mark_all.new.nodes
    (with_items c.args.nodes c.mark_all.new.nodes).items same v.size v.same v.kept c.mark_all.new.traffic v.setting v.lanes v.counted))
