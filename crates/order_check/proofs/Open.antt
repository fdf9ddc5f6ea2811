-- What a world allows of a rank is what is enabled there, under any slots that agree with it.
use Rattle.std.proofs.Common.{ℕ, zero, suc, false, ◌<◌, ◌≡◌, ◌∙◌, ◌++◌, List, [], ◌∷◌, refl, sym, ap, subst, arith, length, append-nil}
use Rattle.std.proofs.Common.{IsTrue, count_by}
use Rattle.ptl_types.specs.Messages.{Sent}
use Rattle.ptl_types.specs.declared.headers.Lane.{Lane}
use Rattle.ptl_types.specs.declared.headers.Lane.TheVariants.{Answer, Request}
use Rattle.ptl_types.specs.declared.steps.LocalStep.{LocalStep}
use Rattle.ptl_types.specs.declared.steps.LocalStep.TheVariants.{Start as Starts, Receive as Receives, Fire as Fires}
use Rattle.ni_model.specs.Ready.{is_ready}
use Rattle.plan_core.specs.Members.{In}
use Rattle.cuts.specs.view.Slots.{Slots}
use Rattle.cuts.specs.histories.History.{Local, got, is_start}
use Rattle.cuts.specs.histories.History.Local.{Start, Receive, Fire}
use Rattle.cuts.specs.histories.Moment.{IsEnabled}
use Rattle.cuts.specs.histories.System.{Histories, System, sent_by, state_at}
use Rattle.cuts.specs.orders.Chosen.{Scene, enabled_steps}
use Rattle.cuts.specs.orders.Reached.{IsReached}
use Rattle.cuts.specs.orders.Taking.{MayTake, listed}
use Rattle.cuts.specs.orders.Verdict.{Rests}
use Rattle.cuts.specs.declared.orders.Step.TheVariants.{Deliver}
use Rattle.cuts.proofs.orders.Parts.{same-front}
use Rattle.cuts.proofs.orders.Steps.{beyond, may, reached_moves}
use Rattle.cuts.proofs.windows.Listed.{enabled_listed}
use Rattle.worlds.specs.Standing.{IsStanding}
use Rattle.worlds.specs.World.{AreSlots, WorldState, histories_in, ranks_in, scene_in, steps_in}
use Rattle.worlds.proofs.Listed.{IsOffered, offered, ready_is}
use Rattle.worlds.proofs.Steps.{widest as all_enabled}
use Rattle.order_check.specs.Open.{HearsNoneOf, IsOpen, IsQuiet, step_at, widest}

-- on each lane, what was received and then what is held is what was sent
pub balanced : (k : System) (z : Scene) → IsReached k z.world z.held → (s d : ℕ) (lane : Lane)
    → got (z.world d) s lane ++ z.held s d lane ≡ sent_by k z.world s d lane
balanced k z reached s d lane =
    let so = reached_moves k z.world z.held reached in
    subst (λ (v : Histories). got (v d) s lane ++ z.held s d lane ≡ sent_by k v s d lane) (sym so.same) (so.balanced s d lane)

module _ (w : WorldState) (is : IsStanding w) (slots : ℕ → Slots) (agree : AreSlots w slots) where
  abbrev k : System
  k = ranks_in w slots

  abbrev z : Scene
  z = scene_in w

  pub known_there : (r : ℕ) → r < w.schedule.plan.ranks → r < k.count
  known_there r h = h

  pub known_here : (r : ℕ) → r < k.count → r < w.schedule.plan.ranks
  known_here r h = h

  -- ---- what is allowed is listed, and nothing else
  pub enabled_at : (r : ℕ) (e : LocalStep) → r < w.schedule.plan.ranks → IsOpen w r e → In (step_at r e) (enabled_steps k z)
  enabled_at r Starts h allows = enabled_listed k z r Start (known_there r h) allows
  enabled_at r (Fires t) h allows =
      enabled_listed k z r (Fire t) (known_there r h) (subst (λ s. IsTrue (is_ready s t)) (is.nic slots agree r h) allows)
  enabled_at r (Receives s lane) h allows = at (z.held s r lane) refl
    where
      at : (ms : List Sent) → z.held s r lane ≡ ms → In (Deliver s r lane) (enabled_steps k z)
      at [] q = let a = ap length q in let b = allows.1 in absurd (omega (arith, a, b))
      at (m ∷ later) q = enabled_listed k z r (Receive s lane m) (known_there r h) (known_there s allows.0, (later, q))

  pub is_listed : w.window ≡ widest → (r : ℕ) (e : LocalStep) → r < w.schedule.plan.ranks → IsOpen w r e
      → In (step_at r e) (steps_in w slots)
  is_listed wide r e h allows =
      subst (λ xs. In (step_at r e) xs) (sym (all_enabled w slots is agree (omega (arith, wide)))) (enabled_at r e h allows)

  open_at : (r : ℕ) (e : LocalStep) → r < w.schedule.plan.ranks → IsOffered k z (step_at r e) → IsOpen w r e
  open_at r Starts h o = o.1
  open_at r (Receives s lane) h o = (known_here s o.0, o.2)
  open_at r (Fires t) h o =
      subst (λ s. IsTrue (is_ready s t)) (sym (is.nic slots agree r h)) (ready_is (state_at k z.world r) t o.1)

  pub is_allowed : w.window ≡ widest → (r : ℕ) (e : LocalStep) → r < w.schedule.plan.ranks → In (step_at r e) (steps_in w slots)
      → IsOpen w r e
  is_allowed wide r e h i =
      open_at r e h (offered k z (step_at r e)
      (subst (λ xs. In (step_at r e) xs) (all_enabled w slots is agree (omega (arith, wide))) i))

  -- ---- by histories alone
  allowed_by : (r : ℕ) (x : Local) → r < w.schedule.plan.ranks → IsEnabled k z.world z.held r x → IsOpen w r (listed x)
  allowed_by r Start h e = e
  allowed_by r (Fire t) h e = subst (λ s. IsTrue (is_ready s t)) (sym (is.nic slots agree r h)) e
  allowed_by r (Receive s lane m) h e = (known_here s e.0, (let q = ap length e.1.1 in omega (arith, q)))

  module _ (reached : IsReached k z.world z.held) where
    pub may_allowed : (r : ℕ) (x : Local) → r < w.schedule.plan.ranks → MayTake k (histories_in w) r x → IsOpen w r (listed x)
    may_allowed r x h m =
        let so = reached_moves k z.world z.held reached in
        let e = may k so.moves r x z.held so.balanced (subst (λ (v : Histories). MayTake k v r x) so.same m) (beyond k so.moves so.made) in
        allowed_by r x h (subst (λ (v : Histories). IsEnabled k v z.held r x) (sym so.same) e)

    pub rests_by : (r : ℕ) → r < w.schedule.plan.ranks → IsQuiet w r → Rests k (histories_in w) r
    rests_by r h quiet = record {
      started = quiet.started;
      idle = λ t. subst (λ s. is_ready s t ≡ false) (is.nic slots agree r h) (quiet.idle t);
      empty = λ s lane l. sym (append-nil (got (histories_in w r) s lane))
          ∙ ap (λ v. got (histories_in w r) s lane ++ v) (sym (quiet.hears s (known_here s l) lane)) ∙ balanced k z reached s r lane;
    }

    pub quiet_by : (r : ℕ) → r < w.schedule.plan.ranks → Rests k (histories_in w) r → IsQuiet w r
    quiet_by r h rests = record {
      started = rests.started;
      idle = λ t. subst (λ s. is_ready s t ≡ false) (sym (is.nic slots agree r h)) (rests.idle t);
      hears = λ s l lane. same-front (got (histories_in w r) s lane) (z.held s r lane) []
          (balanced k z reached s r lane ∙ sym (rests.empty s lane (known_there s l)) ∙ sym (append-nil (got (histories_in w r) s lane)));
    }

-- ---- what is heard
-- a message that waits is heard
pub waiting : (w : WorldState) (r s : ℕ) (lane : Lane) → IsOpen w r (Receives s lane) → HearsNoneOf w r s → ⊥
waiting w r s lane allows none = let a = ap length (none lane) in let b = allows.1 in omega (arith, a, b)

none_in : (ms : List Sent) → (0 < length ms → ⊥) → ms ≡ []
none_in [] h = refl
none_in (m ∷ ms) h = absurd (h (omega arith))

pub not_waiting : (w : WorldState) (r s : ℕ) (lane : Lane) → s < w.schedule.plan.ranks → (IsOpen w r (Receives s lane) → ⊥)
    → (scene_in w).held s r lane ≡ []
not_waiting w r s lane h closed = none_in ((scene_in w).held s r lane) (λ some. closed (h, some))

pub both_lanes : (P : Lane → Type 0) → P Request → P Answer → (lane : Lane) → P lane
both_lanes P request answer Request = request
both_lanes P request answer Answer = answer

pub begun : (w : WorldState) (r : ℕ) → (IsOpen w r Starts → ⊥) → 0 < count_by is_start (histories_in w r)
begun w r closed = at (count_by is_start (histories_in w r)) closed
  where
    at : (n : ℕ) → (n ≡ 0 → ⊥) → 0 < n
    at zero h = absurd (h refl)
    at (suc n) h = omega arith
