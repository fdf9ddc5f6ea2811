-- What a step does to the buffers that are there.
use Rattle.std.specs.Prelude.{◌≡◌, ℕ, suc, ◌<◌, true, List, Some, length, drop}
use Rattle.coll_shape.specs.declared.types.CollStep.{CollStep}
use Rattle.coll_shape.specs.Outline.{Outline, step_at, group_at}
use Rattle.coll_shape.specs.Collectives.{source_of, result_of, asks_of}
use Rattle.coll_shape.specs.WellFormed.{and_one, made_upto}
use Rattle.coll_shape.specs.Meaning.{Lists, lists_of, made_lists, meant_upto, taken, type_read}
use Rattle.coll_meaning.specs.Lengths.{AreAsked}
use Rattle.coll_meaning.specs.Needed.{is_needed}

-- the steps after step k
abbrev pub later : Outline → ℕ → List CollStep
later o k = drop (suc k) o.steps

-- step k finds A as it asks
abbrev pub FindsAsked : Outline → ℕ → Lists → Type 0
FindsAsked o k held =
    (a : ℕ) → source_of (step_at o k) ≡ Some a
    → AreAsked (asks_of (step_at o k)) (type_read o (step_at o k)) (taken (group_at o k) (lists_of held a))

-- Step k was made: what is needed later stays, and its result is there if it is needed later.
pub record IsMade (o : Outline) (kept : List ℕ) (k : ℕ) (old new : Lists) : Type 0 where
  pub many : length new ≡ and_one (result_of (step_at o k)) (length old)
  pub others : (b : ℕ) → b < length old → is_needed kept (later o k) b ≡ true → lists_of new b ≡ lists_of old b
  pub made : (a : ℕ) → source_of (step_at o k) ≡ Some a → is_needed kept (later o k) (length old) ≡ true
      → lists_of new (length old) ≡ made_lists o.ranks (group_at o k) (type_read o (step_at o k)) (step_at o k) (lists_of old a)

-- before step k: what is needed from there on is there
pub record IsThere (o : Outline) (kept : List ℕ) (inputs : Lists) (k : ℕ) (held : Lists) : Type 0 where
  pub many : length held ≡ made_upto o k
  pub same : (b : ℕ) → b < made_upto o k → is_needed kept (drop k o.steps) b ≡ true → lists_of held b ≡ lists_of (meant_upto o inputs k) b
