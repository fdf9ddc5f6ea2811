-- A world after a listed step.
use Rattle.std.proofs.Common.{ℕ, false, cond, ◌&&◌, ◌<◌, ◌≡◌, ◌⊎◌, ◌∙◌, ◌++◌, List, [], ◌∷◌, Option, Some, None, refl, sym, ap, ap₂, subst}
use Rattle.std.proofs.Common.{inl, inr, arith, length, map, filter, count_by, append-nil, append_assoc, IsTrue}
use Rattle.std.proofs.lemmas.Bool.{cases_eq, ne_eqb}
use Rattle.std.proofs.lemmas.List.{map-append}
use Rattle.std.proofs.lemmas.List.Elements.{filter-append}
use Rattle.op_laws.proofs.OpLaws.{op_laws}
use Rattle.op_laws.proofs.Starts.{combined-starts}
use Rattle.op_laws.proofs.Swaps.{combined-swaps}
use Rattle.ptl_types.specs.Messages.{Sent}
use Rattle.ptl_types.specs.declared.headers.Lane.{Lane}
use Rattle.ptl_types.specs.declared.steps.LocalStep.{LocalStep}
use Rattle.ptl_types.specs.declared.steps.LocalStep.TheVariants.{Start as Starts, Receive as Receives, Fire as Fires}
use Rattle.ni_model.specs.Ready.{is_ready, target_at}
use Rattle.ni_model.specs.State.{State}
use Rattle.cuts.specs.view.Slots.{Slots}
use Rattle.cuts.specs.histories.History.{Local, and_then, got, is_for, is_lane, is_start, made_by, sent, state}
use Rattle.cuts.specs.histories.History.Local.{Start, Receive, Fire}
use Rattle.cuts.specs.histories.Moment.{IsEnabled}
use Rattle.cuts.specs.histories.Plans.{system_of}
use Rattle.cuts.specs.histories.System.{Histories, System, sent_by, state_at}
use Rattle.cuts.proofs.histories.Fronts.{made-append}
use Rattle.cuts.proofs.histories.LaneAnswers.{answer_target}
use Rattle.cuts.proofs.histories.Origin.{target_answers}
use Rattle.cuts.proofs.rest.Next.{next_held}
use Rattle.cuts.specs.orders.Chosen.{Scene, delivered, step_made}
use Rattle.cuts.specs.orders.Reached.{IsReached}
use Rattle.cuts.specs.orders.Reached.IsReached.{Stepped}
use Rattle.cuts.specs.orders.Taking.{IsNext, Lists, listed, with_step}
use Rattle.cuts.proofs.orders.Choosing.{listed_made}
use Rattle.cuts.proofs.orders.Ending.{elsewhere, here}
use Rattle.cuts.proofs.orders.Parts.{same-front}
use Rattle.rank_node.proofs.Sending.{fired-target, rank_of}
use Rattle.schedule_compiler.specs.Schedules.{ScheduleOf}
use Rattle.worlds.specs.Later.{IsLater}
use Rattle.worlds.specs.Standing.{IsStanding}
use Rattle.worlds.specs.World.{AreSlots, WorldState, histories_in, nic_in, ranks_in, scene_in}
use Rattle.worlds.proofs.Ends.{given_slots, slots_given}
use Rattle.order_check.specs.Listing.{IsListed}
use Rattle.order_check.specs.Open.{IsOpen, step_at, message_for}
use Rattle.order_check.specs.Work.{IsDriven}
use Rattle.order_check.proofs.Open.{balanced, enabled_at, known_there}

-- ---- the local step that is made
pub record IsGrown (k : System) (z : Scene) (r : ℕ) (e : LocalStep) : Type 0 where
  pub step : Local
  pub named : listed step ≡ e
  pub enabled : IsEnabled k z.world z.held r step
  pub world : (step_made k (step_at r e) z).world ≡ with_step r step z.world

pub grown_by : (k : System) (w : WorldState) (r : ℕ) (e : LocalStep) → IsOpen w r e
    → ((s : ℕ) → s < w.schedule.plan.ranks → s < k.count) → nic_in w r ≡ state_at k (histories_in w) r → IsGrown k (scene_in w) r e
grown_by k w r Starts allows known nic = record { step = Start; named = refl; enabled = allows; world = refl }
grown_by k w r (Fires t) allows known nic = record {
  step = Fire t;
  named = refl;
  enabled = subst (λ s. IsTrue (is_ready s t)) nic allows;
  world = refl;
}
grown_by k w r (Receives s lane) allows known nic = at ((scene_in w).held s r lane) refl
  where
    at : (ms : List Sent) → (scene_in w).held s r lane ≡ ms → IsGrown k (scene_in w) r (Receives s lane)
    at [] q = let a = ap length q in let b = allows.1 in absurd (omega (arith, a, b))
    at (m ∷ later) q = record {
      step = Receive s lane m;
      named = refl;
      enabled = (known s allows.0, (later, q));
      world = ap (λ (ms : List Sent). (delivered k s r lane ms (scene_in w)).world) q;
    }

-- ---- whom its message is for
module _ (w : WorldState) (is : IsStanding w) (slots : ℕ → Slots) (agree : AreSlots w slots) (r : ℕ) (hr : r < w.schedule.plan.ranks) where
  source_is : (s : ℕ) (lane : Lane) (m : Sent) → IsEnabled (ranks_in w slots) (scene_in w).world (scene_in w).held r (Receive s lane m)
      → m.header.source ≡ s
  source_is s lane m e =
      (next_held combined-starts w.schedule.plan w.inputs is.sound
      is.fit (combined-swaps op_laws) slots (scene_in w).world (scene_in w).held
      (is.moment slots agree) false r s lane m e.1.0 (known_there w is slots agree r hr) e.0 e.1.1).0

  pub told_is : (x : Local) (m : Sent) → IsEnabled (ranks_in w slots) (scene_in w).world (scene_in w).held r x
      → made_by (state_at (ranks_in w slots) (histories_in w) r) x ≡ Some m → message_for w r (listed x) ≡ Some m.header.target
  told_is Start m e q = cc
  told_is (Fire t) m e q =
      let s = state_at (ranks_in w slots) (histories_in w) r in
      ap (λ (v : State). target_at v t) (is.nic slots agree r hr) ∙ sym (fired-target s t) ∙ ap rank_of q
  told_is (Receive s lane n) m e q =
      let a = (target_answers (state_at (ranks_in w slots) (histories_in w) r) n m q).1 in
      ap (λ v. Some v) (sym (source_is s lane n e) ∙ sym (answer_target a.ok a.length a.bytes n.header m a.is))

-- ---- what is sent to a rank for which the message isn't
none_for : (q : ℕ) (lane : Lane) (o : Option Sent) → ((m : Sent) → o ≡ Some m → m.header.target ≡ q → ⊥)
    → filter (is_for q lane) (and_then o []) ≡ []
none_for q lane None h = refl
none_for q lane (Some m) h = ap (λ b. cond (b && is_lane lane m.header.kind) (m ∷ []) []) (ne_eqb m.header.target q (h m refl))

sent_here : (k : System) (w : Histories) (r : ℕ) (x : Local) (q : ℕ)
    → ((m : Sent) → made_by (state_at k w r) x ≡ Some m → m.header.target ≡ q → ⊥)
    → (lane : Lane) → sent_by k (with_step r x w) r q lane ≡ sent_by k w r q lane
sent_here k w r x q h lane =
    ap (λ v. sent (k.go r) (k.first r) v q lane) (here r x w)
    ∙ ap (filter (is_for q lane)) (made-append (k.go r) (k.first r) (w r) (x ∷ []))
    ∙ filter-append (is_for q lane) _ _
    ∙ ap (λ v. sent_by k w r q lane ++ v) (none_for q lane (made_by (state_at k w r) x) h)
    ∙ append-nil (sent_by k w r q lane)

is_told : (to : Option ℕ) (q : ℕ) → (to ≡ Some q) ⊎ (to ≡ Some q → ⊥)
is_told None q = inr (λ e. cc)
is_told (Some d) q = elim (cases_eq d q) [ inl e ↦ inl (ap (λ v. Some v) e) | inr n ↦ inr (λ e. n (cc)) ]

same_ranks : (w v : WorldState) (slots : ℕ → Slots) → IsLater w v → ranks_in v slots ≡ ranks_in w slots
same_ranks w v slots on = ap₂ (λ (o : ScheduleOf) given. system_of o.plan given slots) on.schedule on.inputs

-- the step was made
abbrev pub IsMade : ℕ → LocalStep → WorldState → WorldState → Type 0
IsMade r e w v = (slots : ℕ → Slots) → AreSlots v slots → scene_in v ≡ step_made (ranks_in w slots) (step_at r e) (scene_in w)

module _ (w v : WorldState) (lists : Lists) (driven : IsDriven w lists) (r : ℕ) (hr : r < w.schedule.plan.ranks) (e : LocalStep)
    (allows : IsOpen w r e) (stood : IsStanding v) (later : IsLater w v) (made : IsMade r e w v) where
  abbrev slots : ℕ → Slots
  slots = given_slots v

  agrees : AreSlots v slots
  agrees = slots_given v stood

  agreed : AreSlots w slots
  agreed = later.slots slots agrees

  abbrev k : System
  k = ranks_in w slots

  pub grown : IsGrown k (scene_in w) r e
  grown = grown_by k w r e allows (λ s h. known_there w driven.standing slots agreed s h) (driven.standing.nic slots agreed r hr)

  pub histories_are : histories_in v ≡ with_step r grown.step (histories_in w)
  histories_are = ap (λ (z : Scene). z.world) (made slots agrees) ∙ grown.world

  pub same_at : (q : ℕ) → (r ≡ q → ⊥) → histories_in v q ≡ histories_in w q
  same_at q n = ap (λ (h : Histories). h q) histories_are ∙ elsewhere r grown.step (histories_in w) q n

  pub grown_at : histories_in v r ≡ histories_in w r ++ grown.step ∷ []
  grown_at = ap (λ (h : Histories). h r) histories_are ∙ here r grown.step (histories_in w)

  -- ---- reached, whatever slots will be given
  pub reached_on : (s : ℕ → Slots) → AreSlots v s → IsReached (ranks_in v s) (scene_in v).world (scene_in v).held
  reached_on s agree =
      let old = later.slots s agree in
      let i = enabled_at w driven.standing s old r e hr allows in
      subst (λ j. IsReached j (scene_in v).world (scene_in v).held) (sym (same_ranks w v s later))
      (subst (λ (y : Scene). IsReached (ranks_in w s) y.world y.held) (sym (made s agree))
      (Stepped (driven.reached s old) (listed_made (ranks_in w s) (scene_in w) (step_at r e) i)))

  -- ---- another rank
  module _ (q : ℕ) (hq : q < w.schedule.plan.ranks) (n : r ≡ q → ⊥) where
    nic_same : nic_in v q ≡ nic_in w q
    nic_same =
        stood.nic slots agrees q (let a = ap (λ (o : ScheduleOf). o.plan.ranks) later.schedule in omega (arith, hq, a))
        ∙ ap (λ j. state_at j (histories_in v) q) (same_ranks w v slots later)
        ∙ ap (λ h. state (k.go q) (k.first q) h) (same_at q n)
        ∙ sym (driven.standing.nic slots agreed q hq)

    held_same : (s : ℕ) (lane : Lane) → sent_by k (histories_in v) s q lane ≡ sent_by k (histories_in w) s q lane
        → (scene_in v).held s q lane ≡ (scene_in w).held s q lane
    held_same s lane same =
        let there = subst (λ j. IsReached j (scene_in v).world (scene_in v).held) (same_ranks w v slots later) (reached_on slots agrees) in
        same-front (got (histories_in w q) s lane) ((scene_in v).held s q lane) ((scene_in w).held s q lane)
        (ap (λ h. got h s lane ++ (scene_in v).held s q lane) (sym (same_at q n))
        ∙ balanced k (scene_in v) there s q lane ∙ same ∙ sym (balanced k (scene_in w) (driven.reached slots agreed) s q lane))

    elsewhere_sent : (s : ℕ) (lane : Lane) → (r ≡ s → ⊥) → sent_by k (histories_in v) s q lane ≡ sent_by k (histories_in w) s q lane
    elsewhere_sent s lane o = ap (λ h. sent (k.go s) (k.first s) h q lane) (same_at s o)

    here_sent : (lane : Lane) → (message_for w r e ≡ Some q → ⊥) → sent_by k (histories_in v) r q lane ≡ sent_by k (histories_in w) r q lane
    here_sent lane o =
        ap (λ (h : Histories). sent_by k h r q lane) histories_are
        ∙ sent_here k (histories_in w) r grown.step q
        (λ m a b. o (ap (message_for w r) (sym grown.named) ∙ told_is w driven.standing slots agreed r hr grown.step m grown.enabled a
        ∙ ap (λ x. Some x) b)) lane

    -- what it may do now it could do before, or it waits for the message that was sent
    pub opened_by : (f : LocalStep) → IsOpen v q f
        → IsOpen w q f ⊎ ((lane : Lane) × (f ≡ Receives r lane) × (message_for w r e ≡ Some q))
    opened_by Starts o = inl (subst (λ h. count_by is_start h ≡ 0) (same_at q n) o)
    opened_by (Fires t) o = inl (subst (λ s. IsTrue (is_ready s t)) nic_same o)
    opened_by (Receives s lane) o =
        let a = ap (λ (o : ScheduleOf). o.plan.ranks) later.schedule in
        let b = o.0 in
        let known : s < w.schedule.plan.ranks = omega (arith, a, b) in
        elim (cases_eq r s) [
          | inr d ↦ inl (known, subst (λ ms. 0 < length ms) (held_same s lane (elsewhere_sent s lane d)) o.1)
          | inl i ↦ elim (is_told (message_for w r e) q) [
            | inl t ↦ inr (lane, ap (λ a. Receives a lane) (sym i), t)
            | inr d ↦ inl (
              known,
              subst (λ ms. 0 < length ms)
                  (held_same s lane (subst (λ a. sent_by k (histories_in v) a q lane ≡ sent_by k (histories_in w) a q lane) i
                  (here_sent lane d))) o.1,
            )
          ]
        ]

  -- ---- the lists
  listed_here : IsNext lists (histories_in w) r e → IsListed lists (histories_in v) r
  listed_here next = (
    next.0,
    ap (λ h. map listed h ++ next.0) grown_at
        ∙ ap (λ (xs : List LocalStep). xs ++ next.0) (map-append listed (histories_in w r) (grown.step ∷ []))
        ∙ append_assoc (map listed (histories_in w r)) (listed grown.step ∷ []) next.0
        ∙ ap (λ f. map listed (histories_in w r) ++ f ∷ next.0) grown.named
        ∙ next.1,
  )

  listed_on : IsNext lists (histories_in w) r e → (q : ℕ) → q < v.schedule.plan.ranks → IsListed lists (histories_in v) q
  listed_on next q h = elim (cases_eq r q) [
    | inl i ↦ subst (λ a. IsListed lists (histories_in v) a) i (listed_here next)
    | inr n ↦ (let p = driven.listed q (let a = ap (λ (o : ScheduleOf). o.plan.ranks) later.schedule in omega (arith, a, h)) in
        (p.0, ap (λ h. map listed h ++ p.0) (same_at q n) ∙ p.1))
  ]

  pub driven_on : IsNext lists (histories_in w) r e → IsDriven v lists
  driven_on next = record {
    standing = stood;
    wide = later.window ∙ driven.wide;
    reached = reached_on;
    listed = listed_on next;
  }
