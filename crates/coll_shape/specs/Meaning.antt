-- What a description means: each buffer's list at each rank, in bytes. No trees, rounds, counters or messages.
use Rattle.std.specs.Prelude.{ℕ, zero, suc, ◌==◌, ◌≡◌, ◌<◌, List, Option, Some, None, [], ◌∷◌, ◌++◌, if◌then◌else◌, length, map, get_or}
use Rattle.std.specs.Prelude.{All}
use Rattle.ptl_types.specs.declared.elements.ElemType.{ElemType}
use Rattle.number_lists.specs.Numbers.{from_to}
use Rattle.coll_shape.specs.declared.types.CollStep.{CollStep}
use Rattle.coll_shape.specs.Folding.{at}
use Rattle.coll_shape.specs.Outline.{Outline, buffer_at, group_at, list_bytes, read_buffer, step_at}
use Rattle.coll_shape.specs.Collectives.{source_of, list_after}

-- for each input, for each rank, a list of bytes
abbrev pub Lists : Type 0
Lists = List (List (List ℕ))

-- the place of rank r among the members, and what f says of it, else `other`
abbrev pub place_from : ℕ → List ℕ → ℕ → Option ℕ
place_from i [] r = None
place_from i (m ∷ ms) r = if m == r then Some i else place_from (suc i) ms r

abbrev pub at_place : {X : Type 0} → (ℕ → X) → X → Option ℕ → X
at_place f other None = other
at_place f other (Some i) = f i

-- the lists of A at the members
abbrev pub taken : List ℕ → List (List ℕ) → List (List ℕ)
taken g lists = map (at lists) g

-- a step's lists put at the members, the empty list elsewhere
abbrev pub made_lists : ℕ → List ℕ → ElemType → CollStep → List (List ℕ) → List (List ℕ)
made_lists n g ty step lists =
    map (λ r. at_place (list_after ty step (taken g lists)) [] (place_from 0 g r)) (from_to 0 n)

-- for each buffer its list at each rank: a step appends those of the buffer that it makes
abbrev pub lists_of : Lists → ℕ → List (List ℕ)
lists_of bs a = get_or bs a []

abbrev pub with_step : ℕ → List ℕ → ElemType → CollStep → Lists → Option ℕ → Lists
with_step n g ty step bs None = bs
with_step n g ty step bs (Some a) = bs ++ made_lists n g ty step (lists_of bs a) ∷ []

-- the type of the buffer that is read
abbrev pub type_read : Outline → CollStep → ElemType
type_read o step = (read_buffer o (source_of step)).ty

-- after the first k steps on these inputs
unfoldable pub meant_upto : Outline → Lists → ℕ → Lists
meant_upto o inputs zero = inputs
meant_upto o inputs (suc k) =
    with_step o.ranks (group_at o k) (type_read o (step_at o k)) (step_at o k) (meant_upto o inputs k) (source_of (step_at o k))

-- the buffers after all steps
unfoldable pub meaning_of : Outline → Lists → Lists
meaning_of o inputs = meant_upto o inputs (length o.steps)

-- a list of bytes for each input and rank, of its length
pub record AreInputs (o : Outline) (inputs : Lists) : Type 0 where
  pub many : length inputs ≡ o.inputs
  pub ranks : (b : ℕ) → b < o.inputs → length (get_or inputs b []) ≡ o.ranks
  pub long : (b r : ℕ) → b < o.inputs → r < o.ranks → length (get_or (get_or inputs b []) r []) ≡ list_bytes (buffer_at o b)
  pub bytes : (b r : ℕ) → b < o.inputs → r < o.ranks → All (λ x. x < 256) (get_or (get_or inputs b []) r [])
