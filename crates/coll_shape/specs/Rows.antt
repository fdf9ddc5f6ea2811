-- A list cut into rows of one length.
use Rattle.std.specs.Prelude.{ℕ, zero, suc, List, [], ◌∷◌, ◌++◌, take, drop}

-- m rows of n each
abbrev pub in_rows : {X : Type 0} → ℕ → ℕ → List X → List (List X)
in_rows n zero xs = []
in_rows n (suc m) xs = take n xs ∷ in_rows n m (drop n xs)

-- the rows one after the other
abbrev pub joined : {X : Type 0} → List (List X) → List X
joined [] = []
joined (xs ∷ xss) = xs ++ joined xss
