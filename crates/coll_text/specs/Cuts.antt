-- What the readers of words answer.
use denote.Ref.{Bor}
use Rattle.std.specs.Prelude.{◌≡◌, ℕ, ◌≤◌, ◌^◌, List, [], Option, Some, None, ◌==◌, IsSomeAnd, if◌then◌else◌}
use Rattle.std.specs.List.{slice_split, list_all}
use Rattle.coll_text.specs.Text.{is_digit, with_digits}
use Rattle.coll_text.specs.declared.numerals.Number.{Number}
use Rattle.coll_text.specs.declared.numerals.Number.TheVariants.{Malformed, Huge, Small}

-- the pieces after a separator, if there was one
abbrev pub parts_after : ℕ → Option (Bor (List ℕ)) → List (List ℕ)
parts_after separator None = []
parts_after separator (Some rest) = slice_split (λ b. b == separator) rest.now

-- the word is that number, or is none, or one too large to hold
abbrev pub ReadsNumber : Number → Option ℕ → Type 0
ReadsNumber Malformed number = number ≡ None
ReadsNumber Huge number = IsSomeAnd number (λ n. 2 ^ 64 ≤ n)
ReadsNumber (Small n) number = number ≡ Some n

-- what is held of a number: itself, or that it is too large
abbrev pub Holds : Option ℕ → ℕ → Type 0
Holds (Some held) number = held ≡ number
Holds None number = 2 ^ 64 ≤ number

-- a number that begins so, if the others are digits
abbrev pub goes_on : ℕ → List ℕ → Option ℕ
goes_on front others = if list_all is_digit others then Some (with_digits front others) else None
