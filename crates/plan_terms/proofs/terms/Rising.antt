-- Members by rising places, each once.
use Rattle.std.proofs.Common.{ℕ, ◌≡◌, ◌≢◌, ◌<◌, ◌≤◌, ◌+◌, List, [], ◌∷◌, ◌++◌, suc, length, get_or, set, take, drop}
use Rattle.std.proofs.Common.{ap, ◌∙◌, sym, inl, inr, arith}
use Rattle.std.proofs.Common.{length-append, subst}
use Rattle.std.proofs.lemmas.Bool.{cases_eq, cases_lt}
use Rattle.std.proofs.lemmas.List.{get_or-set_other, get_or-set_same, get_or-take, get_or_append_left, get_or_push, length-drop, length-set}
use Rattle.std.proofs.lemmas.List.{length-take-le}
use Rattle.plan_terms.specs.declared.terms.term.Member.{Member}
use Rattle.plan_terms.specs.terms.Terms.{no_member}
use Rattle.plan_terms.specs.terms.Folds.{AreRising, AreUpTo}

-- ---- the same words
rising_words : (ms ns : List Member) → length ns ≤ length ms
    → ((i : ℕ) → i < length ns → (get_or ns i no_member).word ≡ (get_or ms i no_member).word) → AreRising ms → AreRising ns
rising_words ms ns short same rising i h =
    let a = same i (omega (arith, h)) in
    let b = same (i + 1) h in
    let r = rising i (omega (arith, h, short)) in
    omega (arith, a, b, r)

up_to_words : (ms ns : List Member) (word : ℕ) → length ns ≤ length ms
    → ((i : ℕ) → i < length ns → (get_or ns i no_member).word ≡ (get_or ms i no_member).word) → AreUpTo word ms → AreUpTo word ns
up_to_words ms ns word short same up i h =
    let a = same i h in
    let r = up i (omega (arith, h, short)) in
    omega (arith, a, r)

-- ---- a member with another number of times
set_word : (ms : List Member) (at : ℕ) (m : Member) → at < length ms → m.word ≡ (get_or ms at no_member).word → (i : ℕ)
    → (get_or (set ms at m) i no_member).word ≡ (get_or ms i no_member).word
set_word ms at m h word i =
    elim (cases_eq i at) [
      | inl e ↦ ap (λ k. (get_or (set ms at m) k no_member).word) e
          ∙ ap (λ (n : Member). n.word) (get_or-set_same ms at m no_member h)
          ∙ word
          ∙ ap (λ k. (get_or ms k no_member).word) (sym e)
      | inr ne ↦ ap (λ (n : Member). n.word) (get_or-set_other ms at i m no_member ne)
    ]

pub set_rising : (ms : List Member) (at : ℕ) (m : Member) → at < length ms → m.word ≡ (get_or ms at no_member).word
    → AreRising ms → AreRising (set ms at m)
set_rising ms at m h word =
    let long = length-set ms at m in
    rising_words ms (set ms at m) (omega (arith, long)) (λ i k. set_word ms at m h word i)

pub set_up_to : (ms : List Member) (at : ℕ) (m : Member) → at < length ms → m.word ≡ (get_or ms at no_member).word → (word : ℕ)
    → AreUpTo word ms → AreUpTo word (set ms at m)
set_up_to ms at m h same word =
    let long = length-set ms at m in
    up_to_words ms (set ms at m) word (omega (arith, long)) (λ i k. set_word ms at m h same i)

-- ---- without the last member
shorter : (ms : List Member) (at : ℕ) → at + 1 ≡ length ms → length (take at ms ++ drop (suc at) ms) ≡ at
shorter ms at h =
    let a = length-append (take at ms) (drop (suc at) ms) in
    let b = length-take-le at ms (omega (arith, h)) in
    let d = length-drop (suc at) ms in
    omega (arith, a, b, d, h)

removed_word : (ms : List Member) (at : ℕ) → at + 1 ≡ length ms → (i : ℕ) → i < length (take at ms ++ drop (suc at) ms)
    → (get_or (take at ms ++ drop (suc at) ms) i no_member).word ≡ (get_or ms i no_member).word
removed_word ms at h i k =
    let short = shorter ms at h in
    let b = length-take-le at ms (omega (arith, h)) in
    ap (λ (n : Member). n.word) (get_or_append_left (take at ms) (drop (suc at) ms) no_member i (omega (arith, k, short, b))
    ∙ get_or-take at ms i no_member (omega (arith, k, short)))

pub remove_rising : (ms : List Member) (at : ℕ) → at + 1 ≡ length ms → AreRising ms → AreRising (take at ms ++ drop (suc at) ms)
remove_rising ms at h =
    let short = shorter ms at h in
    rising_words ms (take at ms ++ drop (suc at) ms) (omega (arith, short, h)) (removed_word ms at h)

pub remove_up_to : (ms : List Member) (at : ℕ) → at + 1 ≡ length ms → (word : ℕ) → AreUpTo word ms
    → AreUpTo word (take at ms ++ drop (suc at) ms)
remove_up_to ms at h word =
    let short = shorter ms at h in
    up_to_words ms (take at ms ++ drop (suc at) ms) word (omega (arith, short, h)) (removed_word ms at h)

-- ---- a member more
pub push_rising : (ms : List Member) (m : Member)
    → ((at : ℕ) → at + 1 ≡ length ms → (get_or ms at no_member).word ≢ m.word)
    → AreRising ms → AreUpTo m.word ms → AreRising (ms ++ m ∷ [])
push_rising ms m other rising up i h =
    let long = length-append ms (m ∷ []) in
    let within : i < length ms = omega (arith, h, long) in
    let here = ap (λ (n : Member). n.word) (get_or_append_left ms (m ∷ []) no_member i within) in
    elim (cases_lt (i + 1) (length ms)) [
      | inl k ↦ (let next = ap (λ (n : Member). n.word) (get_or_append_left ms (m ∷ []) no_member (i + 1) k) in
          let r = rising i k in
          omega (arith, here, next, r))
      | inr k ↦ (let last : i + 1 ≡ length ms = omega (arith, k, within) in
          let next = ap (λ (n : Member). n.word) (get_or_push ms m no_member (i + 1) (sym last)) in
          let ne = other i last in
          let r = up i within in
          omega (arith, here, next, ne, r))
    ]

pub push_up_to : (ms : List Member) (m : Member) → AreUpTo m.word ms → AreUpTo m.word (ms ++ m ∷ [])
push_up_to ms m up i h =
    let long = length-append ms (m ∷ []) in
    elim (cases_lt i (length ms)) [
      | inl k ↦ (let here = ap (λ (n : Member). n.word) (get_or_append_left ms (m ∷ []) no_member i k) in
          let r = up i k in
          omega (arith, here, r))
      | inr k ↦ (let here = ap (λ (n : Member). n.word) (get_or_push ms m no_member i (omega (arith, k, h, long))) in
          omega (arith, here))
    ]

-- ---- two lists at once
-- members of both, up to the next of each
pub record AreMergedTo (ms ns all : List Member) (i j : ℕ) : Type 0 where
  pub rising : AreRising all
  pub first : i < length ms → AreUpTo (get_or ms i no_member).word all
  pub second : j < length ns → AreUpTo (get_or ns j no_member).word all

up_to_more : (v w : ℕ) (ms : List Member) → v ≤ w → AreUpTo v ms → AreUpTo w ms
up_to_more v w ms h up i k = let r = up i k in omega (arith, r, h)

none_merged : (first second : List Member) → AreMergedTo first second [] 0 0
none_merged first second = record {
  rising = λ i h. absurd (omega (arith, h));
  first = λ h i k. absurd (omega (arith, k));
  second = λ h i k. absurd (omega (arith, k));
}

one_merged : (first second old new : List Member) (i j : ℕ) → AreRising first → i < length first
    → (j < length second → (get_or first i no_member).word ≤ (get_or second j no_member).word)
    → AreMergedTo first second old i j
    → (AreRising old → AreUpTo (get_or first i no_member).word old → AreRising new)
    → (AreUpTo (get_or first i no_member).word old → AreUpTo (get_or first i no_member).word new)
    → AreMergedTo first second new (i + 1) j
one_merged first second old new i j rising h before so_far goes up = record {
  rising = goes so_far.rising (so_far.first h);
  first = λ k. let r = rising i k in
      up_to_more (get_or first i no_member).word (get_or first (i + 1) no_member).word new (omega (arith, r)) (up (so_far.first h));
  second = λ k. up_to_more (get_or first i no_member).word (get_or second j no_member).word new (before k) (up (so_far.first h));
}

other_way : (first second all : List Member) (i j : ℕ) → AreMergedTo first second all i j → AreMergedTo second first all j i
other_way first second all i j so_far = record { rising = so_far.rising; first = so_far.second; second = so_far.first }

-- where both lists are rising
abbrev pub IsMergedTo : List Member → List Member → List Member → ℕ → ℕ → Type 0
IsMergedTo first second all i j = AreRising first → AreRising second → AreMergedTo first second all i j

pub merged_none : (first second : List Member) → IsMergedTo first second [] 0 0
merged_none first second f s = none_merged first second

pub merged_first : (first second old new all : List Member) (i j k n : ℕ) → i < length first → k ≡ i + 1 → n ≡ j → all ≡ new
    → (j < length second → (get_or first i no_member).word ≤ (get_or second j no_member).word)
    → IsMergedTo first second old i j
    → (AreRising old → AreUpTo (get_or first i no_member).word old → AreRising new)
    → (AreUpTo (get_or first i no_member).word old → AreUpTo (get_or first i no_member).word new)
    → IsMergedTo first second all k n
merged_first first second old new all i j k n h ek en e before so_far goes up f s =
    subst₃ ek en e (one_merged first second old new i j f h before (so_far f s) goes up)
  where
    subst₃ : k ≡ i + 1 → n ≡ j → all ≡ new → AreMergedTo first second new (i + 1) j → AreMergedTo first second all k n
    subst₃ a b c m =
        subst (λ x. AreMergedTo first second all x n) (sym a)
        (subst (λ y. AreMergedTo first second all (i + 1) y) (sym b)
        (subst (λ (z : List Member). AreMergedTo first second z (i + 1) j) (sym c) m))

pub merged_second : (first second old new all : List Member) (i j k n : ℕ) → j < length second → k ≡ i → n ≡ j + 1 → all ≡ new
    → (i < length first → (get_or second j no_member).word ≤ (get_or first i no_member).word)
    → IsMergedTo first second old i j
    → (AreRising old → AreUpTo (get_or second j no_member).word old → AreRising new)
    → (AreUpTo (get_or second j no_member).word old → AreUpTo (get_or second j no_member).word new)
    → IsMergedTo first second all k n
merged_second first second old new all i j k n h ek en e before so_far goes up f s =
    other_way second first all n k
    (merged_first second first old new all j i n k h en ek e before (λ s' f'. other_way first second old i j (so_far f' s')) goes up s f)
