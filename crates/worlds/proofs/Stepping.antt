-- A world after a step.
use Rattle.std.proofs.Common.{ℕ, suc, ◌<◌, ◌≤◌, ◌≡◌, ◌∙◌, List, [], ◌∷◌, ◌++◌, Some, refl, sym, ap, ap₂, subst, arith, length, count_by}
use Rattle.std.proofs.Common.{get_or, append_assoc, append-nil}
use Rattle.std.proofs.lemmas.Option.{same_Some, slice_get-get_or, slice_get_within}
use Rattle.std.specs.List.{slice_get}
use Rattle.plan_core.specs.Members.{In}
use Rattle.cuts.specs.view.Slots.{Slots}
use Rattle.cuts.specs.histories.Cut.{IsPrefixOf, is_received_stray}
use Rattle.cuts.specs.histories.Plans.{system_of}
use Rattle.cuts.specs.histories.System.{System}
use Rattle.cuts.proofs.orders.Choosing.{In-get}
use Rattle.cuts.specs.orders.Chosen.{Scene, step_made}
use Rattle.cuts.specs.declared.orders.Step.{Step}
use Rattle.cuts.proofs.windows.Falling.{falls}
use Rattle.cuts.proofs.windows.Lanes.{begins}
use Rattle.cuts.specs.windows.Left.{steps_left}
use Rattle.cuts.specs.windows.Possible.{possible_steps}
use Rattle.schedule_compiler.specs.Schedules.{ScheduleOf}
use Rattle.worlds.specs.Standing.{IsStanding}
use Rattle.worlds.specs.Later.{IsLater}
use Rattle.worlds.specs.Runs.{IsRun, Running, chosen_run, chosen_step}
use Rattle.worlds.specs.Runs.IsRun.{Stepped}
use Rattle.worlds.specs.World.{AreSlots, WorldState, histories_in, ranks_in, scene_in, steps_in}
use Rattle.worlds.proofs.Ends.{given_slots, slots_given}

-- what stands at a number is a member
pub In-slice_get : {X : Type 0} (xs : List X) (i : ℕ) (x : X) → slice_get xs i ≡ Some x → In x xs
In-slice_get xs i x e = subst (λ y. In y xs) (same_Some (get_or xs i x) x (sym (slice_get-get_or xs i x h) ∙ e)) (In-get xs i x h)
  where
    h : i < length xs
    h = slice_get_within xs i x e

-- the step was made
abbrev pub IsMade : Step → WorldState → WorldState → Type 0
IsMade x w v = (slots : ℕ → Slots) → AreSlots v slots → scene_in v ≡ step_made (ranks_in w slots) x (scene_in w)

-- it is possible
abbrev pub MayMake : Step → WorldState → Type 0
MayMake x w = (slots : ℕ → Slots) → AreSlots w slots → In x (steps_in w slots)

-- each history begins with what it was
pub begins_with : (w v : WorldState) (x : Step) → IsStanding v → IsMade x w v → (r : ℕ) → IsPrefixOf (histories_in w r) (histories_in v r)
begins_with w v x stood made r =
    subst (λ (z : Scene). IsPrefixOf (histories_in w r) (z.world r)) (sym (made (given_slots v) (slots_given v stood)))
    (begins (ranks_in w (given_slots v)) (scene_in w) x r)

pub prefix_on : {A : Type 0} (xs ys zs : List A) → IsPrefixOf xs ys → IsPrefixOf ys zs → IsPrefixOf xs zs
prefix_on xs ys zs a b = (a.0 ++ b.0, sym (append_assoc xs a.0 b.0) ∙ ap (λ q. q ++ b.0) a.1 ∙ b.1)

pub same_world : (w : WorldState) → IsLater w w
same_world w = record {
  schedule = refl;
  inputs = refl;
  window = refl;
  spare = refl;
  begins = λ r. ([], append-nil (histories_in w r));
  slots = λ slots agree. agree;
}

pub later_on : (u w v : WorldState) → IsLater u w → IsLater w v → IsLater u v
later_on u w v a b = record {
  schedule = b.schedule ∙ a.schedule;
  inputs = b.inputs ∙ a.inputs;
  window = b.window ∙ a.window;
  spare = b.spare ∙ a.spare;
  begins = λ r. prefix_on (histories_in u r) (histories_in w r) (histories_in v r) (a.begins r) (b.begins r);
  slots = λ slots agree. a.slots slots (b.slots slots agree);
}

-- ---- a step leaves fewer
abbrev pub left_in : WorldState → ℕ
left_in w = steps_left w.schedule.plan w.spare (scene_in w)

pub fallen : (w v : WorldState) (x : Step) → IsStanding w → IsStanding v → IsLater w v → MayMake x w → IsMade x w v → left_in v < left_in w
fallen w v x is stood on may made =
    let slots = given_slots v in
    let agree = slots_given v stood in
    let same : left_in v ≡ steps_left w.schedule.plan w.spare (step_made (ranks_in w slots) x (scene_in w)) =
    ap₂ (λ (o : ScheduleOf) n. steps_left o.plan n (scene_in v)) on.schedule on.spare
    ∙ ap (steps_left w.schedule.plan w.spare) (made slots agree) in
    let less = falls w.schedule.plan w.inputs is.sound
    is.fit
    slots w.spare (scene_in w) w.window x (is.moment slots (on.slots slots agree)) (may slots (on.slots slots agree))
    (λ r h. subst (λ (z : Scene). count_by is_received_stray (z.world r) ≤ w.spare) (made slots agree) (at_most r h)) in
    omega (arith, same, less)
  where
    at_most : (r : ℕ) → r < w.schedule.plan.ranks → count_by is_received_stray (histories_in v r) ≤ w.spare
    at_most r h =
        let b = ap (λ (o : ScheduleOf). o.plan.ranks) on.schedule in
        let c = stood.at_most r (omega (arith, h, b)) in
        let d = on.spare in
        omega (arith, c, d)

-- ---- possible steps lead on
abbrev pub LeadsTo : WorldState → WorldState → Type 0
LeadsTo u w = (slots : ℕ → Slots) → AreSlots w slots → IsRun (ranks_in u slots) u.window (scene_in u) (scene_in w)

same_ranks : (u w : WorldState) (slots : ℕ → Slots) → IsLater u w → ranks_in w slots ≡ ranks_in u slots
same_ranks u w slots on = ap₂ (λ (o : ScheduleOf) given. system_of o.plan given slots) on.schedule on.inputs

same_steps : (u w : WorldState) (slots : ℕ → Slots) → IsLater u w → possible_steps (ranks_in u slots) u.window (scene_in w) ≡ steps_in w
    slots
same_steps u w slots on = ap₂ (λ q t. possible_steps q t (scene_in w)) (sym (same_ranks u w slots on)) (sym on.window)

pub leads_on : (u w v : WorldState) (x : Step) → LeadsTo u w → IsLater u w → IsLater w v → MayMake x w → IsMade x w v → LeadsTo u v
leads_on u w v x so begun on may made slots agree =
    let old = on.slots slots agree in
    subst (λ (z : Scene). IsRun (ranks_in u slots) u.window (scene_in u) z)
    (sym (made slots agree ∙ ap (λ q. step_made q x (scene_in w)) (same_ranks u w slots begun)))
    (Stepped x (so slots old) (subst (λ xs. In x xs) (sym (same_steps u w slots begun)) (may slots old)))

-- ---- a chosen step is the next of its run
module _ {C : Type 0} (answer : C → ℕ → ℕ) (after : C → ℕ → C) where
  abbrev at_world : WorldState → C → Running C
  at_world w c = record { scene = scene_in w; chooser = c }

  -- of some number of steps
  abbrev pub IsRunOf : WorldState → C → WorldState → C → Type 0
  IsRunOf u b w c = (slots : ℕ → Slots) → AreSlots w slots
      → (n : ℕ) × (chosen_run (ranks_in u slots) u.window answer after n (at_world u b) ≡ at_world w c)

  pub no_run : (u : WorldState) (b : C) → IsRunOf u b u b
  no_run u b slots agree = (0, refl)

  -- the step that stands at the number that was answered
  pub next_chosen : (k : System) (xs : List Step) (c d : C) (i : ℕ) (x : Step) (z y : Scene) → i ≡ answer c (length xs)
      → slice_get xs i ≡ Some x → d ≡ after c (length xs)
      → y ≡ step_made k x z → chosen_step k answer after xs (let q : Running C = record { scene = z; chooser = c } in q) ≡
      (let q : Running C = record { scene = y; chooser = d } in q)
  next_chosen k [] c d i x z y a s e m = absurd (no_member (In-slice_get [] i x s))
    where
      no_member : In x [] → ⊥
      no_member h = h
  next_chosen k (first ∷ xs) c d i x z y a s e m =
      let h = slice_get_within (first ∷ xs) i x s in
      let is : get_or (first ∷ xs) (answer c (length (first ∷ xs))) first ≡ x =
      ap (λ j. get_or (first ∷ xs) j first) (sym a) ∙ same_Some (get_or (first ∷ xs) i first) x
      (sym (slice_get-get_or (first ∷ xs) i first h) ∙ s) in
      ap₂ (λ w v. let q : Running C = record { scene = w; chooser = v } in q) (ap (λ u. step_made k u z) is ∙ sym m) (sym e)

  pub run_more : (u w v : WorldState) (b c d : C) (n i : ℕ) (x : Step) → IsRunOf u b w c → IsLater u w → IsLater w v
      → ((slots : ℕ → Slots) → AreSlots w slots → n ≡ length (steps_in w slots)) → i ≡ answer c n → d ≡ after c n
      → ((slots : ℕ → Slots) → AreSlots w slots → slice_get (steps_in w slots) i ≡ Some x) → IsMade x w v → IsRunOf u b v d
  run_more u w v b c d n i x run begun on number a e stands made slots agree =
      let old = on.slots slots agree in
      let so = run slots old in
      let same = same_ranks u w slots begun in
      let list = same_steps u w slots begun in (
        suc so.0,
        ap (λ q. chosen_step (ranks_in u slots) answer after (possible_steps (ranks_in u slots) u.window q.scene) q) so.1
            ∙ ap (λ xs. chosen_step (ranks_in u slots) answer after xs (at_world w c)) list
            ∙ next_chosen (ranks_in u slots) (steps_in w slots) c d i x (scene_in w) (scene_in v)
            (a ∙ ap (answer c) (number slots old)) (stands slots old) (e ∙ ap (after c) (number slots old))
            (made slots agree ∙ ap (λ q. step_made q x (scene_in w)) same),
      )
