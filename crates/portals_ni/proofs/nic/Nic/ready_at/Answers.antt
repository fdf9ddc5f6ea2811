use Rattle.std.proofs.Common.{◌<◌, ℕ, List, length, ap, sym, subst, ◌∙◌}
use Rattle.std.specs.List.{slice_get}
use Rattle.ni_model.specs.Ready.{ready_numbers}
use Rattle.ni_model.specs.State.{State}
use Rattle.portals_ni.proofs.Readies.{due-are}
use Rattle.portals_ni.proofs.nic.Nic.ready_at.Goals as goal

pub ready_at-requires : goal.ready_at-requires
ready_at-requires c =
    let n = c.self.inside in
    let kept = rw c.waiting-waiting.ensures.value at c.len-many.ensures.kept in
    rw c.waiting-waiting.ensures.value
    (subst (λ (xs : List ℕ). c.args.i < length xs) (due-are n.cts n.pending kept.rising c.self.invariant.sound.told)
    (subst (λ (s : State). c.args.i < length (ready_numbers s)) (sym c.self.view_is) c.requires))

pub returns : goal.returns
returns c =
    let n = c.self.inside in
    let kept = rw c.waiting-waiting.ensures.value at c.ready_at.ensures.kept in
    let found = rw c.waiting-waiting.ensures.value at c.ready_at.ensures.value in
    record {
      value = rw (← c.self.view_is) (ap (λ (xs : List ℕ). slice_get xs c.args.i)
          (due-are n.cts n.pending kept.rising c.self.invariant.sound.told) ∙ found);
    }
