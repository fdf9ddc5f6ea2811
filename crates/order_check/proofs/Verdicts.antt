-- The verdict on what was taken.
use Rattle.std.proofs.Common.{ℕ, ◌+◌, ◌<◌, ◌≡◌, [], refl, sym, ap₂, subst, inl, inr, arith, length}
use Rattle.op_laws.proofs.OpLaws.{op_laws}
use Rattle.op_laws.proofs.Starts.{combined-starts}
use Rattle.op_laws.proofs.Swaps.{combined-swaps}
use Rattle.ptl_types.specs.declared.steps.Cause.TheVariants.{NotAtRest}
use Rattle.cuts.specs.view.Slots.{Slots}
use Rattle.cuts.specs.histories.Plans.{system_of}
use Rattle.cuts.specs.histories.System.{Histories, System}
use Rattle.cuts.specs.orders.Taking.{IsStuckAt, Lists, listed}
use Rattle.cuts.specs.orders.Verdict.{IsVerdict, IsWhole, Says, Waits}
use Rattle.cuts.specs.declared.orders.Verdict.{Verdict}
use Rattle.cuts.specs.declared.orders.Verdict.TheVariants.{Fails, Holds}
use Rattle.cuts.proofs.orders.Holding.{are_listed}
use Rattle.cuts.proofs.orders.Slotless.{slotless}
use Rattle.cuts.proofs.orders.Steps.{reached_moves}
use Rattle.schedule_compiler.specs.Jobs.{JobOf}
use Rattle.worlds.specs.World.{AreSlots, WorldState, histories_in, ranks_in, scene_in}
use Rattle.worlds.proofs.Ends.{given_slots, slots_given}
use Rattle.schedule_compiler.specs.Schedules.{ScheduleOf}
use Rattle.order_check.specs.Listing.{IsListed}
use Rattle.order_check.specs.Open.{IsQuiet}
use Rattle.order_check.specs.Work.{IsUnfinished, IsWork}
use Rattle.order_check.proofs.Open.{known_here, known_there, may_allowed, quiet_by, rests_by}

-- what was taken goes as far as it can
module _ (w : WorldState) (lists : Lists) (work : IsWork w lists []) where
  abbrev slots : ℕ → Slots
  slots = given_slots w

  agree : AreSlots w slots
  agree = slots_given w work.driven.standing

  abbrev k : System
  k = ranks_in w slots

  stuck_at : (r : ℕ) → r < k.count → IsStuckAt k lists (histories_in w) r
  stuck_at r h e next may =
      let here = known_here w work.driven.standing slots agree r h in
      elim (work.looked r here) [
        | inl i ↦ absurd i
        | inr stuck ↦ stuck (listed e) next
            (may_allowed w work.driven.standing slots agree (work.driven.reached slots agree) r e here may)
      ]

  said : (v : Verdict) → Says k lists (histories_in w) v → IsVerdict k lists v
  said v says =
      let so = reached_moves k (scene_in w).world (scene_in w).held (work.driven.reached slots agree) in
      record {
        moves = so.moves;
        taken = record {
          made = so.made;
          listed = are_listed k lists so.moves so.made (λ r h. subst (λ (u : Histories). IsListed lists u r) so.same
              (work.driven.listed r (known_here w work.driven.standing slots agree r h)));
          stuck = λ r h. subst (λ (u : Histories). IsStuckAt k lists u r) so.same (stuck_at r h);
        };
        says = subst (λ (u : Histories). Says k lists u v) so.same says;
      }

  -- whatever slots are given out
  pub verdict_on : (v : Verdict) → Says k lists (histories_in w) v → (others : ℕ → Slots)
      → IsVerdict (system_of w.schedule.plan w.inputs others) lists v
  verdict_on v says others =
      let is = work.driven.standing in
      slotless combined-starts w.schedule.plan w.inputs is.sound
      is.fit (combined-swaps op_laws) slots others lists v (said v says)

  pub unfinished_says : (v : Verdict) → IsUnfinished w lists v → Says k lists (histories_in w) v
  unfinished_says v u =
      subst (Says k lists (histories_in w)) (sym u.says)
      (known_there w work.driven.standing slots agree u.rank u.known, refl, inl (u.step, u.stops, refl))

  module _ (whole : (r : ℕ) → r < w.schedule.plan.ranks → IsWhole lists (histories_in w) r) where
    pub quiet_says : ((r : ℕ) → r < w.schedule.plan.ranks → IsQuiet w r) → Says k lists (histories_in w) Holds
    quiet_says quiet r h =
        let here = known_here w work.driven.standing slots agree r h in
        (whole r here, rests_by w work.driven.standing slots agree (work.driven.reached slots agree) r here (quiet r here))

    pub restless_says : (r : ℕ) → r < w.schedule.plan.ranks → ((q : ℕ) → q < r → IsQuiet w q) → (IsQuiet w r → ⊥)
        → Says k lists (histories_in w) (Fails r (length (histories_in w r) + 1) NotAtRest)
    restless_says r h lower restless = (
      known_there w work.driven.standing slots agree r h,
      refl,
      inr (waits, refl),
    )
      where
        waits : Waits k lists (histories_in w) r
        waits = record {
          whole = λ q l. whole q (known_here w work.driven.standing slots agree q l);
          lower = λ q l. rests_by w work.driven.standing slots agree (work.driven.reached slots agree) q (below q l) (lower q l);
          restless = λ rests. restless (quiet_by w work.driven.standing slots agree (work.driven.reached slots agree) r h rests);
        }
          where
            below : (q : ℕ) → q < r → q < w.schedule.plan.ranks
            below q l = omega (arith, l, h)

-- of a job
pub of_job : (w : WorldState) (job : JobOf) (lists : Lists) (v : Verdict) → w.schedule ≡ job.schedule → w.inputs ≡ job.inputs
    → ((slots : ℕ → Slots) → IsVerdict (system_of w.schedule.plan w.inputs slots) lists v)
    → (slots : ℕ → Slots) → IsVerdict (system_of job.schedule.plan job.inputs slots) lists v
of_job w job lists v schedule inputs h slots =
    subst (λ k. IsVerdict k lists v) (ap₂ (λ (o : ScheduleOf) given. system_of o.plan given slots) schedule inputs) (h slots)
