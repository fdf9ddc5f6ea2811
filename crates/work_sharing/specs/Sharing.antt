-- What the calls at some indices gave.
use Rattle.std.specs.Prelude.{ℕ, ◌<◌, List, length, All, Option, Some, IfSome, slice_index_or}
use Rattle.std.specs.Fn.{FnReturns}
use denote.Param.Members.{Shared}

module _ {F X : Type 0} (g : Shared F (ℕ × Unit {0}) (Option X)) (f : F) where
  -- a call of f at this index may give this value
  abbrev pub Gives : ℕ → X → Type 0
  Gives i x = FnReturns g f (i, tt) (Some x)

  -- this value, beside its index below count, is what a call gave
  abbrev pub IsGiven : ℕ → ℕ × X → Type 0
  IsGiven count p = (p.0 < count) × Gives p.0 p.1

  -- each of these is
  abbrev pub AreGiven : ℕ → List (ℕ × X) → Type 0
  AreGiven count xs = All (IsGiven count) xs

  -- so is each value that lies at the place of its index, of which some may be empty
  abbrev pub AreShared : List (Option X) → Type 0
  AreShared ys = (i : ℕ) (d : Option X) → i < length ys → IfSome (slice_index_or ys i d) (Gives i)
