-- Where two lists differ.
use Rattle.std.specs.Prelude.{ℕ, ◌+◌, ◌==◌, List, [], ◌∷◌, Option, Some, None, if◌then◌else◌}

-- the first place at which they differ, or one of them ends, counted from i on
unfoldable pub difference_from : ℕ → List ℕ → List ℕ → Option ℕ
difference_from i [] [] = None
difference_from i [] (y ∷ ys) = Some i
difference_from i (x ∷ xs) [] = Some i
difference_from i (x ∷ xs) (y ∷ ys) = if x == y then difference_from (i + 1) xs ys else Some i
