-- Maps as lists of their entries by rising key: keys that are words, and keys that are numbers.
use Rattle.std.specs.Prelude.{ℕ, List, map, Option, Bool}
use Rattle.std.specs.Ordering.{nat_cmp}
use Rattle.std.specs.Cmp.Lexicographic.{slice_cmp}
use Rattle.std.specs.BTreeMap.{BTreeMap, insert_entry, is_at}
use Rattle.std.specs.Map.{lookup, remove_entry}
use Rattle.std.specs.Global.{Vec}

-- what stands at each word
abbrev pub Words : Type 0 → Type 0
Words X = List (List ℕ × X)

-- the key is this word
abbrev pub at_word : List ℕ → List ℕ → Bool
at_word w = is_at (slice_cmp nat_cmp w)

abbrev pub word_lookup : {X : Type 0} → List ℕ → Words X → Option X
word_lookup w = lookup (at_word w)

abbrev pub with_word : {X : Type 0} → List ℕ → X → Words X → Words X
with_word w x ws = insert_entry (slice_cmp nat_cmp) ws w x

abbrev pub without_word : {X : Type 0} → List ℕ → Words X → Words X
without_word w = remove_entry (at_word w)

-- an entry whose key is the bytes of a vector
abbrev pub by_bytes : {X : Type 0} → Vec ℕ × X → List ℕ × X
by_bytes e = (e.0.items, e.1)

-- a map as this list
abbrev pub words_of : {X : Type 0} → BTreeMap (Vec ℕ) X → Words X
words_of m = map by_bytes m.entries

-- what stands at each number
abbrev pub Numbers : Type 0 → Type 0
Numbers X = List (ℕ × X)

abbrev pub at_number : ℕ → ℕ → Bool
at_number n = is_at (nat_cmp n)

abbrev pub number_lookup : {X : Type 0} → ℕ → Numbers X → Option X
number_lookup n = lookup (at_number n)

abbrev pub with_number : {X : Type 0} → ℕ → X → Numbers X → Numbers X
with_number n x ns = insert_entry nat_cmp ns n x

abbrev pub without_number : {X : Type 0} → ℕ → Numbers X → Numbers X
without_number n = remove_entry (at_number n)
