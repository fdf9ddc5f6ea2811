-- What a plan is evaluated for, and what its links find.
use Rattle.std.specs.Prelude.{ℕ, ◌≡◌, ◌<◌, List, [], length, get_or}
use Rattle.plan_core.specs.Plan.{Plan, cell, link}
use Rattle.plan_core.specs.Sound.{AreInputsOf, SoundLink, SoundPlan}
use Rattle.plan_core.specs.Values.{Inputs}

-- a sound plan with its inputs: each has a list for each rank, and each list is as long as its cell
pub record IsGiven (p : Plan) (inputs : Inputs) : Type 0 where
  pub sound : SoundPlan p (length inputs)
  pub rows : (b : ℕ) → b < length inputs → length (get_or inputs b []) ≡ p.ranks
  pub fits : AreInputsOf p inputs

-- each input has a list for each of so many ranks, each as long as is said of that input
pub record AreLists (ranks : ℕ) (lengths : List ℕ) (inputs : Inputs) : Type 0 where
  pub many : length inputs ≡ length lengths
  pub rows : (b : ℕ) → b < length inputs → length (get_or inputs b []) ≡ ranks
  pub long : (b r : ℕ) → b < length inputs → r < ranks → length (get_or (get_or inputs b []) r []) ≡ get_or lengths b 0

-- link l comes to cell c, and its source is one of those cells whose bytes these are, of its cell's length
pub record IsReady (p : Plan) (before : List (List ℕ)) (c l : ℕ) : Type 0 where
  pub known : l < length p.links
  pub sound : SoundLink p l
  pub target : (link p l).target ≡ c
  pub source : (link p l).source < length before
  pub carries : length (get_or before (link p l).source []) ≡ (cell p (link p l).source).length
