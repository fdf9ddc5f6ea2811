-- Inputs that may show that a result isn't what is meant.
use Rattle.std.specs.Prelude.{ℕ, ◌+◌, ◌*◌, ◌/◌, ◌%◌, ◌<◌, ◌≡◌, List, [], ◌∷◌, length, map, get_or, All}
use Rattle.number_lists.specs.Numbers.{from_to}
use Rattle.coll_shape.specs.Meaning.{Lists}
use Rattle.coll_shape.specs.Outline.{Outline, buffer_at, list_bytes}
use Rattle.coll_shape.specs.Rows.{in_rows}

-- so many bytes
pub record IsListOf (n : ℕ) (list : List ℕ) : Type 0 where
  pub long : length list ≡ n
  pub bytes : All (λ x. x < 256) list

-- a list for each input and rank, of its length
pub record AreWitnesses (o : Outline) (lists : List (List ℕ)) : Type 0 where
  pub many : length lists ≡ o.inputs * o.ranks
  pub each : (i : ℕ) → i < o.inputs * o.ranks → IsListOf (list_bytes (buffer_at o (i / o.ranks))) (get_or lists i [])

-- ---- bytes by their numbers
-- One of the four bytes of a number, the one that counts so many. No list has more than 32768 bytes, so byte k of list i has a number of
-- its own, and none has the number 0.
abbrev pub numbered_byte : ℕ → ℕ → ℕ → ℕ
numbered_byte unit i k = (i * 32768 + k % 32768 + 1) / unit % 256

-- what the four count
abbrev pub number_units : List ℕ
number_units = 1 ∷ 256 ∷ 65536 ∷ 16777216 ∷ []

-- list i, of n bytes
abbrev pub numbered_list : ℕ → ℕ → ℕ → List ℕ
numbered_list unit i n = map (numbered_byte unit i) (from_to 0 n)

-- the lists of all inputs, rank by rank in each
abbrev pub numbered_lists : Outline → ℕ → List (List ℕ)
numbered_lists o unit = map (λ i. numbered_list unit i (list_bytes (buffer_at o (i / o.ranks)))) (from_to 0 (o.inputs * o.ranks))

abbrev pub numbered : Outline → ℕ → Lists
numbered o unit = in_rows o.ranks o.inputs (numbered_lists o unit)
