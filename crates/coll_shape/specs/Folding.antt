-- What collectives make of the members' lists: folds, concatenations and blocks. Lists are bytes, and stand in order of places.
use Rattle.std.specs.Prelude.{ℕ, zero, suc, ◌*◌, ◌/◌, List, [], ◌∷◌, length, map, get_or}
use Rattle.std.specs.List.{flat_map}
use Rattle.ptl_types.specs.declared.elements.AtomicOp.{AtomicOp}
use Rattle.ptl_types.specs.declared.elements.ElemType.{ElemType}
use Rattle.ptl_types.specs.Elements.{combined, part, starting}
use Rattle.number_lists.specs.Numbers.{from_to}

-- the list at place i
abbrev pub at : List (List ℕ) → ℕ → List ℕ
at xs i = get_or xs i []

-- the fold of lists, in order, from z: op(so far, next) of each element
abbrev pub folded : AtomicOp → ElemType → List (List ℕ) → List ℕ → List ℕ
folded o ty [] z = z
folded o ty (x ∷ xs) z = folded o ty xs (combined o ty z x)

-- the lists at the places from 0 to m - 1
abbrev pub front : ℕ → List (List ℕ) → List (List ℕ)
front m xs = map (at xs) (from_to 0 m)

-- the elementwise fold of the first m lists from the operation's starting value
abbrev pub reduced : AtomicOp → ElemType → ℕ → List (List ℕ) → List ℕ
reduced o ty m xs = folded o ty (front m xs) (starting o ty (length (at xs 0)))

-- the fold of the places before i, where there are some
abbrev pub before_place : AtomicOp → ElemType → List (List ℕ) → ℕ → List ℕ
before_place o ty xs zero = []
before_place o ty xs (suc j) = reduced o ty (suc j) xs

-- all lists, one after the other
abbrev pub joined_lists : List (List ℕ) → List ℕ
joined_lists xs = flat_map (at xs) (from_to 0 (length xs))

-- block i of a list that has one for each of m places
abbrev pub block : ℕ → ℕ → List ℕ → List ℕ
block m i x = part (i * (length x / m)) (length x / m) x

-- block i of each list
abbrev pub exchanged : List (List ℕ) → ℕ → List ℕ
exchanged xs i =
    flat_map (λ q. part (i * (length (at xs i) / length xs)) (length (at xs i) / length xs) (at xs q)) (from_to 0 (length xs))
