-- What a source and a sink mean to those who use them.
use Rattle.std.specs.Prelude.{ℕ, ◌≡◌, List, [], ◌++◌, Option, Some, None}

-- a source: the bytes that it has left, where it tells them, and how many of its reads failed
pub record Inflow : Type 0 where
  pub left : Option (List ℕ)
  pub faults : ℕ

-- a sink: the bytes that it took, where it tells them, how many of its calls failed, and how often it was finished
pub record Outflow : Type 0 where
  pub taken : Option (List ℕ)
  pub faults : ℕ
  pub finishes : ℕ

-- These bytes went from the front of what was left. A source that tells goes on to tell, and one that doesn't never does.
abbrev pub GivesFront : Option (List ℕ) → Option (List ℕ) → List ℕ → Type 0
GivesFront None new bytes = new ≡ None
GivesFront (Some rest) None bytes = ⊥
GivesFront (Some rest) (Some left) bytes = rest ≡ bytes ++ left

-- nothing is left
abbrev pub IsAtEnd : Option (List ℕ) → Type 0
IsAtEnd None = Unit {0}
IsAtEnd (Some left) = left ≡ []

-- these bytes came to the end of what was taken. A sink that tells no more never tells again.
abbrev pub Appends : Option (List ℕ) → Option (List ℕ) → List ℕ → Type 0
Appends None new bytes = new ≡ None
Appends (Some taken) None bytes = Unit {0}
Appends (Some taken) (Some now) bytes = now ≡ taken ++ bytes
