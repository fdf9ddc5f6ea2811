-- The enabled steps of a moment in their fixed order, what each does, and the run that a list of words chooses. Strays are left aside.
use Rattle.std.specs.Prelude.{ℕ, zero, suc, ◌&&◌, ◌==◌, ◌%◌, ◌<◌, ◌≡◌, nat_lt, List, [], ◌∷◌, ◌++◌, map, flat_map, length, get_or}
use Rattle.std.specs.Prelude.{count_by, if◌then◌else◌}
use Rattle.ptl_types.specs.Messages.{Sent}
use Rattle.ptl_types.specs.declared.headers.Lane.{Lane}
use Rattle.ptl_types.specs.declared.headers.Lane.TheVariants.{Request, Answer}
use Rattle.ni_model.specs.Ready.{ready_numbers}
use Rattle.plan_core.specs.Plan.{from_to}
use Rattle.cuts.specs.histories.History.{Local, is_start, same_lane}
use Rattle.cuts.specs.histories.History.Local.{Start as Started, Receive as Received, Fire as Fired}
use Rattle.cuts.specs.histories.System.{Histories, System, state_at}
use Rattle.cuts.specs.histories.Moment.{Lanes, sent_more}
use Rattle.cuts.specs.orders.Taking.{with_step}
use Rattle.cuts.specs.declared.orders.Step.{Step}
use Rattle.cuts.specs.declared.orders.Step.TheVariants.{Start, Deliver, Fire}

-- histories, and what is on its way
pub record Scene : Type 0 where
  pub world : Histories
  pub held : Lanes

-- at first: nothing was done, and the lanes are empty
abbrev pub first_scene : Scene
first_scene = record { world = λ r. []; held = λ s d lane. [] }

-- ---- the enabled steps: starts by rank; deliveries by source, target, request before answer; firings by rank, then number

-- the start of rank r, where it has not been
abbrev pub start_at : Scene → ℕ → List Step
start_at z r = if nat_lt 0 (count_by is_start (z.world r)) then [] else Start r ∷ []

-- the delivery of the first message of these
abbrev pub first_of : ℕ → ℕ → Lane → List Sent → List Step
first_of s d lane [] = []
first_of s d lane (m ∷ later) = Deliver s d lane ∷ []

-- on both lanes from s to d
abbrev pub deliveries_between : Scene → ℕ → ℕ → List Step
deliveries_between z s d = first_of s d Request (z.held s d Request) ++ first_of s d Answer (z.held s d Answer)

-- the firings at rank r: operations wait in the order of their numbers
abbrev pub firings_at : System → Scene → ℕ → List Step
firings_at k z r = map (Fire r) (ready_numbers (state_at k z.world r))

-- all of them
abbrev pub enabled_steps : System → Scene → List Step
enabled_steps k z =
    flat_map (start_at z) (from_to 0 k.count)
    ++ (flat_map (λ s. flat_map (deliveries_between z s) (from_to 0 k.count)) (from_to 0 k.count)
    ++ flat_map (firings_at k z) (from_to 0 k.count))

-- ---- what a step does

-- rank r makes a local step; what it sends goes to the ends of lanes
abbrev pub grown : System → ℕ → Local → Scene → Scene
grown k r e z = record { world = with_step r e z.world; held = λ s d lane. z.held s d lane ++ sent_more k z.world r e s d lane }

-- these messages are left on one lane
abbrev pub with_lane : ℕ → ℕ → Lane → List Sent → Scene → Scene
with_lane s d lane ms z = record z { held = λ q u l. if (q == s) && ((u == d) && same_lane l lane) then ms else z.held q u l }

-- the first message of the lane is received
abbrev pub delivered : System → ℕ → ℕ → Lane → List Sent → Scene → Scene
delivered k s d lane [] z = z
delivered k s d lane (m ∷ later) z =
    record {
      world = with_step d (Received s lane m) z.world;
      held = λ q u l. (with_lane s d lane later z).held q u l ++ sent_more k z.world d (Received s lane m) q u l;
    }

-- by its kind
abbrev pub step_made : System → Step → Scene → Scene
step_made k (Start r) z = grown k r Started z
step_made k (Deliver s d lane) z = delivered k s d lane (z.held s d lane) z
step_made k (Fire r t) z = grown k r (Fired t) z

-- ---- the chosen run

-- of these steps the one that the word names is made, if there is any
abbrev pub choose : System → List Step → ℕ → Scene → Scene
choose k [] word z = z
choose k (x ∷ xs) word z = step_made k (get_or (x ∷ xs) (word % length (x ∷ xs)) x) z

-- after so many words, the first one first
abbrev pub chosen : System → (ℕ → ℕ) → ℕ → Scene
chosen k words zero = first_scene
chosen k words (suc n) = let z = chosen k words n in choose k (enabled_steps k z) (words n) z

-- these are the histories of the chosen run, of which no step is left
pub record IsChosen (k : System) (words : ℕ → ℕ) (w : Histories) : Type 0 where
  pub steps : ℕ
  pub ended : enabled_steps k (chosen k words steps) ≡ []
  pub world : (r : ℕ) → r < k.count → w r ≡ (chosen k words steps).world r
