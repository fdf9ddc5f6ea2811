-- What is said of places, of words and of members: all of it for whatever stands at the places.
use Rattle.std.specs.Prelude.{ℕ, ◌+◌, ◌<◌, ◌≤◌, ◌≡◌, List, get_or, length, map}
use Rattle.std.specs.List.{flat_map}
use Rattle.ptl_types.specs.declared.elements.AtomicOp.{AtomicOp}
use Rattle.ptl_types.specs.declared.elements.ElemType.{ElemType}
use Rattle.ptl_types.specs.Elements.{combined, little_endian, pattern}
use Rattle.ptl_types.specs.Operations.{bytes_of, op, span, start_value}
use Rattle.number_lists.specs.Numbers.{from_to}
use Rattle.plan_terms.specs.declared.terms.term.Member.{Member}
use Rattle.plan_terms.specs.declared.terms.term.Making.{Making}
use Rattle.plan_terms.specs.terms.Terms.{IsSolution, Lists, Table, again, fold_from, fold_of, made_value, no_member, word_at}

-- the starting value changes it no more
abbrev pub IsSettled : AtomicOp → ElemType → ℕ → Type 0
IsSettled o ty z = op o ty z (start_value o ty) ≡ z

-- so many times are as good as n times
abbrev pub AreTimes : AtomicOp → ℕ → ℕ → Type 0
AreTimes o all n = (ty : ElemType) (x z : ℕ) → x < span ty → z < span ty → IsSettled o ty z
    → again n (λ y. op o ty y x) z ≡ again all (λ y. op o ty y x) z

-- the fold of `new` is that of `old` with this word so many times more
abbrev pub IsMore : AtomicOp → ElemType → List Member → List Member → ℕ → ℕ → Type 0
IsMore o ty old new word times = (V : ℕ → ℕ)
    → fold_of V o ty new ≡ again times (λ y. op o ty y (word_at V (bytes_of ty) word)) (fold_of V o ty old)

-- the fold of `new` is that of `old`, gone on with with these members
abbrev pub AreMore : AtomicOp → ElemType → List Member → List Member → List Member → Type 0
AreMore o ty old new ms = (V : ℕ → ℕ) → fold_of V o ty new ≡ fold_from V o ty ms (fold_of V o ty old)

-- by rising places, each once
abbrev pub AreRising : List Member → Type 0
AreRising ms = (i : ℕ) → i + 1 < length ms → (get_or ms i no_member).word < (get_or ms (i + 1) no_member).word

-- at places up to this one
abbrev pub AreUpTo : ℕ → List Member → Type 0
AreUpTo word ms = (i : ℕ) → i < length ms → (get_or ms i no_member).word ≤ word

-- the eight places from s on have the value of this term
abbrev pub IsPlaceOf : Table → ℕ → Making → List Member → Type 0
IsPlaceOf t s making ms = (inputs : Lists) (V : ℕ → ℕ) → IsSolution t inputs V
    → map V (from_to s 8) ≡ little_endian 8 (made_value V making ms)

-- the word at s is that of these places
abbrev pub IsWordOf : Table → ℕ → List ℕ → Type 0
IsWordOf t s places = (inputs : Lists) (V : ℕ → ℕ) → IsSolution t inputs V → word_at V (length places) s ≡ pattern (map V places)

-- the word at s is the fold of these members
abbrev pub IsFoldAt : Table → AtomicOp → ElemType → ℕ → List Member → Type 0
IsFoldAt t o ty s ms = (inputs : Lists) (V : ℕ → ℕ) → IsSolution t inputs V → word_at V (bytes_of ty) s ≡ fold_of V o ty ms

-- the bytes from s on are those of the fold of these members
abbrev pub AreFoldsBytes : Table → AtomicOp → ElemType → ℕ → List Member → Type 0
AreFoldsBytes t o ty s ms = (inputs : Lists) (V : ℕ → ℕ) → IsSolution t inputs V
    → map V (from_to s (bytes_of ty)) ≡ little_endian (bytes_of ty) (fold_of V o ty ms)

-- the fold of `new` is that of `old` with the word at s
abbrev pub IsCombined : Table → AtomicOp → ElemType → List Member → List Member → ℕ → Type 0
IsCombined t o ty old new s = (inputs : Lists) (V : ℕ → ℕ) → IsSolution t inputs V
    → fold_of V o ty new ≡ op o ty (fold_of V o ty old) (word_at V (bytes_of ty) s)

-- the bytes of folds, one element each
abbrev pub folds_bytes : (ℕ → ℕ) → AtomicOp → ElemType → List (List Member) → List ℕ
folds_bytes V o ty mss = flat_map (λ ms. little_endian (bytes_of ty) (fold_of V o ty ms)) mss

-- each fold of `new` is that of `old` with the element of these places
abbrev pub AreCombined : Table → AtomicOp → ElemType → List (List Member) → List (List Member) → List ℕ → Type 0
AreCombined t o ty old new places = (inputs : Lists) (V : ℕ → ℕ) → IsSolution t inputs V
    → folds_bytes V o ty new ≡ combined o ty (folds_bytes V o ty old) (map V places)

-- the fold of a single value is that value
abbrev pub IsPlain : AtomicOp → Type 0
IsPlain o = (ty : ElemType) (x : ℕ) → x < span ty → op o ty (start_value o ty) x ≡ x
