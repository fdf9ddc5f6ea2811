-- In a choice world every enabled step is possible under the widest window: a lane holds at most a message for each step of the text.
use Rattle.std.proofs.Common.{ℕ, true, ◌<◌, ◌≤◌, ◌≡◌, List, Option, Some, None, length, map, refl, subst, arith, lt-ltb}
use Rattle.coll_lang.specs.declared.choices.ChoiceKind.{ChoiceKind}
use Rattle.ptl_types.specs.Handles.{top}
use Rattle.ptl_types.specs.Messages.{Sent}
use Rattle.ptl_types.specs.declared.headers.Lane.{Lane}
use Rattle.ptl_types.specs.declared.headers.Lane.TheVariants.{Answer, Request}
use Rattle.ni_model.specs.Ready.{fired, ready_numbers}
use Rattle.plan_core.proofs.Lists.{In-map_cases}
use Rattle.plan_core.specs.Members.{In}
use Rattle.cuts.specs.histories.System.{System, state_at}
use Rattle.cuts.specs.orders.Chosen.{Scene, enabled_steps, firings_at}
use Rattle.cuts.specs.orders.Reached.{IsReached}
use Rattle.cuts.specs.declared.orders.Step.{Step}
use Rattle.cuts.specs.declared.orders.Step.TheVariants.{Deliver, Fire, Start}
use Rattle.cuts.specs.windows.Places.{fires_at}
use Rattle.cuts.specs.windows.Possible.{finds_room, is_possible, possible_steps}
use Rattle.worlds.proofs.Listed.{IsOffered, offered, ready_is}
use Rattle.worlds.proofs.Steps.{filter-all}
use Rattle.plan_choice.specs.texts.view.Install.{Slots}
use Rattle.plan_choice.specs.texts.laws.Decided.{IsInRange, choice_system}
use Rattle.plan_choice.proofs.texts.laws.Agreement.{Agrees}
use Rattle.plan_choice.proofs.texts.laws.Ends.{lane_few}
use Rattle.plan_choice.proofs.texts.laws.Resting.{agrees_reached}
use Rattle.plan_choice.proofs.texts.laws.Traffic.{firing_makes}

module _ (n : ℕ) (ks : List ChoiceKind) (slots : ℕ → Slots) (in_range : IsInRange n ks) (at_most : length ks ≤ 64) (z : Scene)
    (reached : IsReached (choice_system n ks slots) z.world z.held) where
  abbrev k : System
  k = choice_system n ks slots

  agrees : Agrees n ks slots z.world z.held
  agrees = agrees_reached n ks slots in_range z.world z.held reached

  small : (s d : ℕ) (lane : Lane) → s < n → d < n → length (z.held s d lane) < top
  small s d lane hs hd = let a = lane_few n ks slots in_range z.world z.held agrees s d lane hs hd in omega (arith, a, at_most)

  room : (r t : ℕ) → r < n → In t (ready_numbers (state_at k z.world r)) → (o : Option Sent) → (fired (state_at k z.world r) t).message ≡ o
      → finds_room top z r o ≡ true
  room r t h i None e = refl
  room r t h i (Some m) e =
      lt-ltb _ _ (small r m.header.target Request h
      (firing_makes n ks slots in_range z.world z.held agrees r t m (ready_is (state_at k z.world r) t i) e).in_range)

  each : (x : Step) → IsOffered k z x → is_possible k top z x ≡ true
  each (Start r) is = refl
  each (Fire r t) is = room r t is.0 is.1 (fired (state_at k z.world r) t).message refl
  each (Deliver s d Answer) is = refl
  each (Deliver s d Request) is = lt-ltb _ _ (small d s Answer is.1 is.0)

  pub possible_all : possible_steps k top z ≡ enabled_steps k z
  possible_all = filter-all (is_possible k top z) (enabled_steps k z) (λ x i. each x (offered k z x i))

  pub fires_all : (r : ℕ) → r < n → fires_at k top z r ≡ map (Fire r) (ready_numbers (state_at k z.world r))
  fires_all r h = filter-all (is_possible k top z) (firings_at k z r) (λ x i.
      let u = In-map_cases (Fire r) x (ready_numbers (state_at k z.world r)) i in
      subst (λ y. is_possible k top z y ≡ true) u.2 (each (Fire r u.0) (h, u.1)))
