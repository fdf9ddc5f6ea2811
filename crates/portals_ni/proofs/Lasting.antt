-- What an interface tells of its state, from what it keeps of its parts.
use Rattle.std.proofs.Common.{◌≡◌, ◌<◌, ℕ, List, subst}
use Rattle.std.proofs.lemmas.List.Elements.{All-map, All-weaker}
use Rattle.ptl_types.specs.declared.handles.Count.{Count}
use Rattle.ptl_types.specs.declared.calls.Limits.{Limits}
use Rattle.ptl_types.specs.declared.calls.TriggeredOp.{TriggeredOp}
use Rattle.ni_model.specs.Tables.{Table}
use Rattle.ni_model.specs.Queues.{Waiting}
use Rattle.ni_model.specs.Arrive.{Side}
use Rattle.ni_model.specs.Conditions.{MayStart}
use Rattle.ni_model.specs.State.{State, Posted}
use Rattle.initiator_engine.specs.Initiators.{Initiating}
use Rattle.triggered_ops.specs.Operations.{IsKept, posted}
use Rattle.triggered_ops.proofs.Rising.{AllPairs-map}
use Rattle.portals_ni.specs.Pendings.{action_in}
use Rattle.portals_ni.specs.Lasting.{Lasts, CanFire}
use Rattle.portals_ni.specs.Sound.{IsArmed, IsWhole, state_of}
use Rattle.portals_ni.proofs.Firing.{Op, Ops, length-posted}

-- the limit of entries is the target's
may-start : (d : TriggeredOp) (ranks n : ℕ) (l : Limits) → l.entries ≡ n → MayStart d ranks l → MayStart d ranks (record l { entries = n })
may-start d ranks n l e may = let P : ℕ → Type 0 = λ x. MayStart d ranks (record l { entries = x }) in subst P e may

pub lasts : (t : Side) (r : List ℕ) (c : Table Count) (e : Table Waiting) (i : Initiating) (ops : Ops) (d v : ℕ) →
    IsWhole t r c e i ops d v → IsKept ops → Lasts (state_of t r c e i ops d v)
lasts t r c e i ops d v is kept =
    let s : State = state_of t r c e i ops d v in
    record {
      rising = AllPairs-map (λ (p q : Posted). p.number < q.number) (posted action_in) ops.waiting kept.rising;
      were_given = All-map (λ (p : Posted). p.number < ops.given) (posted action_in) ops.waiting kept.were_given;
      numbers = kept.numbers;
      at_most = rw (length-posted ops.waiting) kept.limited;
      firing = All-map (CanFire s) (posted action_in) ops.waiting
          (All-weaker (λ (w : Op). IsArmed i.mds i.ranks i.limits w.action) (λ (w : Op). CanFire s (posted action_in w))
          (λ w armed. record {
            may_start = may-start w.action.action i.ranks t.limit i.limits is.sound.limit armed.may;
            fits =
                armed.fits;
            counts = armed.counts;
          }) ops.waiting is.sound.armed);
      bound = is.sound.bound;
      linked = is.sound.parts;
      sums = is.stands.sums;
      names = is.stands.names;
    }
