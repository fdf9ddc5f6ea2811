-- A text that is cut has a piece.
use Rattle.std.proofs.Common.{◌≡◌, ℕ, ◌==◌, List, [], length, ap, arith}
use Rattle.std.specs.List.{slice_split}
use Rattle.std.proofs.lemmas.List.Splits.{length-slice_split}

pub not_empty : (separator : ℕ) (text : List ℕ) → slice_split (λ b. b == separator) text ≡ [] → ⊥
not_empty separator text e = omega (arith, length-slice_split (λ b. b == separator) text, ap length e)
