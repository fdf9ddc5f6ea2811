-- The possible steps of a world: each may be made and stands once, and under a wide window they are the enabled ones.
use Rattle.std.proofs.Common.{ℕ, Bool, true, false, ◌^◌, ◌<◌, ◌≤◌, ◌≡◌, List, [], ◌∷◌, Option, Some, None, refl, ap, ap₂, inl, inr, arith}
use Rattle.std.proofs.Common.{count_by, filter, length, if◌then◌else◌, lt-ltb}
use Rattle.std.proofs.lemmas.Bool.{cases_Bool, ltb-true}
use Rattle.std.proofs.lemmas.List.Sums.{count_by-le-length, length-filter}
use Rattle.op_laws.proofs.Starts.{combined-starts}
use Rattle.ptl_types.specs.Messages.{Sent}
use Rattle.ptl_types.specs.declared.headers.Lane.{Lane}
use Rattle.ptl_types.specs.declared.headers.Lane.TheVariants.{Answer, Request}
use Rattle.ni_model.specs.Ready.{fired}
use Rattle.plan_core.specs.calls.Lanes.{goes_along, lane_links, lane_messages}
use Rattle.plan_core.proofs.Lists.{Distinct-filter, In-filter_cases}
use Rattle.plan_core.specs.Members.{Distinct, In}
use Rattle.plan_core.specs.Plan.{Plan, all_links}
use Rattle.plan_core.specs.Sound.{SoundPlan}
use Rattle.plan_core.specs.Values.{Inputs}
use Rattle.cuts.specs.view.Slots.{Slots}
use Rattle.cuts.specs.histories.Cut.{is_stray}
use Rattle.cuts.specs.histories.History.{Local}
use Rattle.cuts.specs.histories.History.Local.{Start as Started, Receive as Received, Fire as Fired}
use Rattle.cuts.specs.histories.Moment.{HasWindow, IsEnabled, IsPossible}
use Rattle.cuts.specs.histories.Plans.{system_of}
use Rattle.cuts.specs.histories.System.{System, state_at}
use Rattle.cuts.proofs.orders.Distinct.{once_each}
use Rattle.cuts.proofs.orders.Rising.{ready_rise}
use Rattle.cuts.specs.orders.Chosen.{Scene, enabled_steps}
use Rattle.cuts.specs.declared.orders.Step.{Step}
use Rattle.cuts.specs.declared.orders.Step.TheVariants.{Deliver, Fire, Start}
use Rattle.cuts.proofs.rest.LaneCuts.{lane_few}
use Rattle.cuts.proofs.rest.Moments.{target_known}
use Rattle.cuts.proofs.windows.Counted.{length-from_to}
use Rattle.cuts.proofs.windows.Lanes.{held_few}
use Rattle.cuts.specs.windows.Named.{named}
use Rattle.cuts.specs.windows.Places.{lane_place}
use Rattle.cuts.specs.windows.Possible.{finds_room, is_possible, possible_steps}
use Rattle.worlds.specs.parts.Layout.{lane_at}
use Rattle.worlds.proofs.parts.Held.{held_here}
use Rattle.worlds.proofs.parts.Sets.{part_le}
use Rattle.worlds.proofs.parts.Strays.{none_count, owned_and_strays}
use Rattle.worlds.specs.Standing.{IsStanding}
use Rattle.worlds.specs.World.{AreSlots, WorldState, ranks_in, scene_in, steps_in}
use Rattle.worlds.proofs.Listed.{IsOffered, offered, ready_is}

-- ---- a listed step may be made
abbrev pub MayBeMade : System → ℕ → Scene → Step → Type 0
MayBeMade k window z x =
    (r : ℕ) × ((e : Local) × ((named r e ≡ x) × (r < k.count) × IsEnabled k z.world z.held r e × IsPossible k z.world z.held window r e))

module _ (k : System) (window : ℕ) (z : Scene) where
  has_window : (r : ℕ) (o : Option Sent) → finds_room window z r o ≡ true → HasWindow z.held window r o
  has_window r None e = tt
  has_window r (Some m) e = ltb-true (length (z.held r m.header.target Request)) window e

  goes : (s d : ℕ) (lane : Lane) (m : Sent) → is_possible k window z (Deliver s d lane) ≡ true
      → IsPossible k z.world z.held window d (Received s lane m)
  goes s d Answer m e = tt
  goes s d Request m e = ltb-true (length (z.held d s Answer)) window e

  may_be_made : (x : Step) → IsOffered k z x → is_possible k window z x ≡ true → MayBeMade k window z x
  may_be_made (Start r) is e = (r, (Started, (refl, is.0, is.1, tt)))
  may_be_made (Fire r t) is e = (
    r,
    (
      Fired t,
      (
        refl,
        is.0,
        ready_is (state_at k z.world r) t is.1,
        has_window r
            (fired (state_at k z.world r) t).message e,
      ),
    ),
  )
  may_be_made (Deliver s d lane) is e = at (z.held s d lane) refl
    where
      at : (ms : List Sent) → z.held s d lane ≡ ms → MayBeMade k window z (Deliver s d lane)
      at [] q = let a = is.2 in let b = ap length q in absurd (omega (arith, a, b))
      at (m ∷ later) q = (d, (Received s lane m, (refl, is.1, (is.0, (later, q)), goes s d lane m e)))

  pub listed_may : (x : Step) → In x (possible_steps k window z) → MayBeMade k window z x
  listed_may x i = let q = In-filter_cases (is_possible k window z) x (enabled_steps k z) i in may_be_made x (offered k z x q.0) q.1

-- ---- where no lane between ranks is full
pub filter-all : {X : Type 0} (p : X → Bool) (xs : List X) → ((x : X) → In x xs → p x ≡ true) → filter p xs ≡ xs
filter-all p [] e = refl
filter-all p (x ∷ xs) e = ap₂ (λ b ys. if b then x ∷ ys else ys) (e x (inl refl)) (filter-all p xs (λ y i. e y (inr i)))

module _ (p : Plan) (inputs : Inputs) (sound : SoundPlan p (length inputs)) (slots : ℕ → Slots) (window : ℕ) (z : Scene)
    (small : (s d : ℕ) (lane : Lane) → s < p.ranks → d < p.ranks → length (z.held s d lane) < window) where
  abbrev ranks : System
  ranks = system_of p inputs slots

  room : (r t : ℕ) → r < p.ranks → (o : Option Sent) → (fired (state_at ranks z.world r) t).message ≡ o → finds_room window z r o ≡ true
  room r t h None e = refl
  room r t h (Some m) e = lt-ltb _ _ (small r m.header.target Request h (target_known p inputs sound slots z.world r t m e))

  each : (x : Step) → IsOffered ranks z x → is_possible ranks window z x ≡ true
  each (Start r) is = refl
  each (Fire r t) is = room r t is.0 (fired (state_at ranks z.world r) t).message refl
  each (Deliver s d Answer) is = refl
  each (Deliver s d Request) is = lt-ltb _ _ (small d s Answer is.1 is.0)

  pub all_possible : possible_steps ranks window z ≡ enabled_steps ranks z
  all_possible = filter-all (is_possible ranks window z) (enabled_steps ranks z) (λ x i. each x (offered ranks z x i))

-- a lane carries fewer messages than the plan has links
links_small : (p : Plan) (inputs : ℕ) → SoundPlan p inputs → (s d : ℕ) → length (lane_links p s d) < 2 ^ 32
links_small p inputs sound s d =
    let a = length-filter (goes_along p s d) (all_links p) in
    let b = count_by-le-length (goes_along p s d) (all_links p) in
    let c = length-from_to 0 (length p.links) in
    let e = sound.few_together in
    omega (arith, a, b, c, e)

pub lane_small : (p : Plan) (inputs : ℕ) → SoundPlan p inputs → (s d : ℕ) (lane : Lane) → lane_messages p s d lane < 2 ^ 32
lane_small p inputs sound s d Request = links_small p inputs sound s d
lane_small p inputs sound s d Answer = at p.remote (links_small p inputs sound d s)
  where
    at : (b : Bool) → length (lane_links p d s) < 2 ^ 32 → (if b then length (lane_links p d s) else 0) < 2 ^ 32
    at true at_most = at_most
    at false at_most = omega arith

-- ---- of a world
module _ (w : WorldState) (slots : ℕ → Slots) (is : IsStanding w) (agree : AreSlots w slots) where
  pub once : Distinct (steps_in w slots)
  once =
      Distinct-filter (is_possible (ranks_in w slots) w.window (scene_in w)) (enabled_steps (ranks_in w slots) (scene_in w))
      (once_each (ranks_in w slots) (scene_in w)
      (λ r h. ready_rise combined-starts w.schedule.plan w.inputs is.sound
      is.fit slots (scene_in w).world (is.moment slots agree).cut r h))

  strays_on : (s d : ℕ) (lane : Lane) → s < w.schedule.plan.ranks → d < w.schedule.plan.ranks
      → count_by is_stray ((scene_in w).held s d lane) ≤ w.spare
  strays_on s d Answer hs hd = let a = none_count ((scene_in w).held s d Answer) clean in omega (arith, a)
    where
      asks : Answer ≡ Request → ⊥
      asks e = cc

      clean : (m : Sent) → In m ((scene_in w).held s d Answer) → is_stray m ≡ false
      clean m i = elim (cases_Bool (is_stray m)) [
        | inr e ↦ e
        | inl e ↦ absurd (asks ((is.moment slots agree).strays s d Answer m hs hd i e).asks)
      ]
  strays_on s d Request hs hd =
      let held_there = ap (count_by is_stray) (held_here w.schedule.plan.ranks w.lanes s d Request hs hd) in
      let part = part_le (λ q. count_by is_stray (lane_at w.lanes (lane_place w.schedule.plan.ranks q d Request)).messages) s 0
      w.schedule.plan.ranks
      (omega arith) (omega (arith, hs)) in
      let at_most = is.at_most d hd in
      omega (arith, held_there, part, at_most)

  held_small : (s d : ℕ) (lane : Lane) → s < w.schedule.plan.ranks → d < w.schedule.plan.ranks
      → length ((scene_in w).held s d lane) < 2 ^ 33
  held_small s d lane hs hd =
      let a = owned_and_strays ((scene_in w).held s d lane) in
      let b = strays_on s d lane hs hd in
      let moment = is.moment slots agree in
      let at_most = held_few (ranks_in w slots) (scene_in w) s d lane (lane_messages w.schedule.plan s d lane) moment hs hd
      (lane_few combined-starts w.schedule.plan w.inputs is.sound is.fit slots
      (scene_in w).world moment.cut s d lane hs hd) in
      let small = lane_small w.schedule.plan (length w.inputs) is.sound s d lane in
      let spare = is.spare in
      omega (arith, a, b, at_most, small, spare)

  pub widest : 2 ^ 33 ≤ w.window → steps_in w slots ≡ enabled_steps (ranks_in w slots) (scene_in w)
  widest wide = all_possible w.schedule.plan w.inputs is.sound slots w.window (scene_in w)
      (λ s d lane hs hd. let a = held_small s d lane hs hd in omega (arith, a, wide))
