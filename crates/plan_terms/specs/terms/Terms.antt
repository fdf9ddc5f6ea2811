-- What bytes are computed from. A place is a number: the first ones are those of the inputs' bytes, and each term has eight more, which
-- have its value. What stands at the places follows from the inputs.
use Rattle.std.specs.Prelude.{ℕ, zero, suc, ◌+◌, ◌*◌, ◌/◌, ◌%◌, ◌<◌, ◌≤◌, ◌≡◌, List, [], ◌∷◌, length, map, get_or}
use Rattle.ptl_types.specs.declared.elements.AtomicOp.{AtomicOp}
use Rattle.ptl_types.specs.declared.elements.ElemType.{ElemType}
use Rattle.ptl_types.specs.Elements.{little_endian, pattern}
use Rattle.ptl_types.specs.Operations.{bytes_of, op, start_value}
use Rattle.number_lists.specs.Numbers.{from_to}
use Rattle.plan_terms.specs.declared.terms.term.Member.{Member}
use Rattle.plan_terms.specs.declared.terms.term.Making.{Making}
use Rattle.plan_terms.specs.declared.terms.term.Making.TheVariants.{Bytes, Fold}

-- what is computed: of which members, and how
pub record Term : Type 0 where
  pub making : Making
  pub members : List Member

-- The terms so far. Each of so many input cells has so many places, its list's bytes from the first one on.
pub record Table : Type 0 where
  pub ranks : ℕ
  pub cells : ℕ
  pub stride : ℕ
  pub terms : List Term

-- past the last
abbrev pub no_member : Member
no_member = record { word = 0; times = 0 }

abbrev pub no_term : Term
no_term = record { making = Bytes; members = [] }

-- the first place of term r
abbrev pub place_of_term : Table → ℕ → ℕ
place_of_term t r = t.cells * t.stride + 8 * r

-- ---- values, where V tells the byte at each place

-- w bytes from a place on, as a number
abbrev pub word_at : (ℕ → ℕ) → ℕ → ℕ → ℕ
word_at V w s = pattern (map V (from_to s w))

-- f, so many times
abbrev pub again : ℕ → (ℕ → ℕ) → ℕ → ℕ
again zero f z = z
again (suc n) f z = again n f (f z)

-- each member's word is combined as many times as it says
abbrev pub fold_from : (ℕ → ℕ) → AtomicOp → ElemType → List Member → ℕ → ℕ
fold_from V o ty [] z = z
fold_from V o ty (m ∷ ms) z = fold_from V o ty ms (again m.times (λ y. op o ty y (word_at V (bytes_of ty) m.word)) z)

-- from the starting value on
abbrev pub fold_of : (ℕ → ℕ) → AtomicOp → ElemType → List Member → ℕ
fold_of V o ty ms = fold_from V o ty ms (start_value o ty)

-- the bytes at the members' places, as a number
abbrev pub bytes_at : (ℕ → ℕ) → List Member → ℕ
bytes_at V ms = pattern (map (λ (m : Member). V m.word) ms)

abbrev pub made_value : (ℕ → ℕ) → Making → List Member → ℕ
made_value V Bytes ms = bytes_at V ms
made_value V (Fold o ty) ms = fold_of V o ty ms

abbrev pub term_value : (ℕ → ℕ) → Term → ℕ
term_value V x = made_value V x.making x.members

-- for each input, for each rank, a list of bytes; that of input cell i
abbrev pub Lists : Type 0
Lists = List (List (List ℕ))

abbrev pub input_at : ℕ → Lists → ℕ → List ℕ
input_at ranks inputs i = get_or (get_or inputs (i / ranks) []) (i % ranks) []

-- the bytes at the places are those of these inputs, and of the terms
pub record IsSolution (t : Table) (inputs : Lists) (V : ℕ → ℕ) : Type 0 where
  pub small : (s : ℕ) → V s < 256
  pub given : (i : ℕ) → i < t.cells → length (input_at t.ranks inputs i) ≤ t.stride
      → map V (from_to (i * t.stride) (length (input_at t.ranks inputs i))) ≡ input_at t.ranks inputs i
  pub terms : (r : ℕ) → r < length t.terms
      → map V (from_to (place_of_term t r) 8) ≡ little_endian 8 (term_value V (get_or t.terms r no_term))

-- some bytes are
pub record Solved (t : Table) (inputs : Lists) : Type 0 where
  pub at : ℕ → ℕ
  pub is : IsSolution t inputs at

-- u has all terms of t: what stands at the places of u stands at those of t
pub record Keeps (t u : Table) : Type 0 where
  pub ranks : u.ranks ≡ t.ranks
  pub cells : u.cells ≡ t.cells
  pub stride : u.stride ≡ t.stride
  pub solution : (inputs : Lists) (V : ℕ → ℕ) → IsSolution u inputs V → IsSolution t inputs V

-- ---- how large a table may be, and that each term is made of what stands before it

-- the bytes that are read from a member's place on
abbrev pub read_bytes : Making → ℕ
read_bytes Bytes = 1
read_bytes (Fold o ty) = bytes_of ty

abbrev pub AreBefore : ℕ → Making → List Member → Type 0
AreBefore first making ms = (k : ℕ) → k < length ms → (get_or ms k no_member).word + read_bytes making ≤ first

pub record IsTable (t : Table) : Type 0 where
  pub room : place_of_term t (length t.terms) < 4294967296
  pub before : (r : ℕ) → r < length t.terms
      → AreBefore (place_of_term t r) (get_or t.terms r no_term).making (get_or t.terms r no_term).members
