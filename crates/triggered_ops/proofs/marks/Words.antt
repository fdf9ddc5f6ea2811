-- What a bit of a word is among the marks of all words.
use Rattle.std.proofs.Common.{◌≡◌, ℕ, zero, suc, ◌+◌, ◌-◌, ◌*◌, ◌/◌, ◌%◌, ◌^◌, ◌<◌, ◌≤◌, List, [], ◌∷◌, ◌++◌, length, take, drop, get_or}
use Rattle.std.proofs.Common.{set, sum, replicate, refl, sym, ap, subst, ◌∙◌, inl, inr, arith, zero-add, length-append, length-set}
use Rattle.std.proofs.Math.Nat.{pow-suc, div-one}
use Rattle.std.proofs.Math.Seq.{take-append-add}
use Rattle.std.proofs.lemmas.Nat.{shr-shr}
use Rattle.std.proofs.lemmas.List.{set-append_left, set-append_right, take-append-le, get_or_append_left, get_or-append-add}
use Rattle.std.proofs.lemmas.List.{replicate-append-replicate, map-set, length-map}
use Rattle.std.proofs.lemmas.List.Folds.{sum_by-replicate}
use Rattle.std.proofs.lemmas.List.Sums.{sum_by-append, sum_by-cons, sum_by-set}
use Rattle.std.proofs.lemmas.Bool.{cases_lt}
use Rattle.std.specs.Int.Count.{ones_step, ones, count_trailing_zeros}
use lib.Count.{under}
use Rattle.triggered_ops.specs.marks.Bits.{bits, marks_of, counts_of, IsMarks}

-- ---- the bits of a word
pub length-bits : (n w : ℕ) → length (bits n w) ≡ n
unfolding bits
length-bits zero w = refl
length-bits (suc n) w = ap (λ k. suc k) (length-bits n (w / 2))

pub bits-zero : (n : ℕ) → bits n 0 ≡ replicate n 0
unfolding bits
bits-zero zero = refl
bits-zero (suc n) = ap (λ r. 0 ∷ r) (bits-zero n)

pub sum-cons : (c : ℕ) (cs : List ℕ) → sum (c ∷ cs) ≡ c + sum cs
sum-cons c cs = sum_by-cons (λ (n : ℕ). n) c cs

pub sum-bits-le : (n w : ℕ) → sum (bits n w) ≤ n
unfolding bits
sum-bits-le zero w = omega arith
sum-bits-le (suc n) w =
    let rest = sum-bits-le n (w / 2) in
    let here = sum-cons (w % 2) (bits n (w / 2)) in
    omega (arith, rest, here)

half : (w j : ℕ) → w / 2 / 2 ^ j ≡ w / 2 ^ (suc j)
half w j = shr-shr w 1 j ∙ ap (λ k. w / 2 ^ k) (omega arith)

pub get-bits : (n w j : ℕ) → j < n → get_or (bits n w) j 0 ≡ w / 2 ^ j % 2
unfolding bits
get-bits zero w j lt = absurd (omega (arith, lt))
get-bits (suc n) w zero lt = ap (λ k. k % 2) (sym (div-one w))
get-bits (suc n) w (suc j) lt = get-bits n (w / 2) j (omega (arith, lt)) ∙ ap (λ k. k % 2) (half w j)

-- the half of a word in which bit j + 1 is set or not is one in which bit j is
pub bits-set : (n w j : ℕ) → j < n → w / 2 ^ j % 2 ≡ 0 → bits n (w + 2 ^ j) ≡ set (bits n w) j 1
unfolding bits
bits-set zero w j lt is = absurd (omega (arith, lt))
bits-set (suc n) w zero lt is =
    let even : w % 2 ≡ 0 = ap (λ k. k % 2) (sym (div-one w)) ∙ is in
    let low : (w + 1) % 2 ≡ 1 = omega (arith, even) in
    let high : (w + 1) / 2 ≡ w / 2 = omega (arith, even) in
    λ i. low i ∷ bits n (high i)
bits-set (suc n) w (suc j) lt is =
    let double : 2 ^ suc j ≡ 2 ^ j * 2 = pow-suc 2 j in
    let low : (w + 2 ^ suc j) % 2 ≡ w % 2 = omega (arith, double) in
    let high : (w + 2 ^ suc j) / 2 ≡ w / 2 + 2 ^ j = omega (arith, double) in
    let rest = bits-set n (w / 2) j (omega (arith, lt)) (ap (λ k. k % 2) (half w j) ∙ is) in
    λ i. low i ∷ (ap (λ v. bits n v) high ∙ rest) i

pub bits-unset : (n w j : ℕ) → j < n → w / 2 ^ j % 2 ≡ 1 → (2 ^ j ≤ w) × (bits n (w - 2 ^ j) ≡ set (bits n w) j 0)
unfolding bits
bits-unset zero w j lt is = absurd (omega (arith, lt))
bits-unset (suc n) w zero lt is =
    let odd : w % 2 ≡ 1 = ap (λ k. k % 2) (sym (div-one w)) ∙ is in
    let low : (w - 1) % 2 ≡ 0 = omega (arith, odd) in
    let high : (w - 1) / 2 ≡ w / 2 = omega (arith, odd) in
    (omega (arith, odd), λ i. low i ∷ bits n (high i))
bits-unset (suc n) w (suc j) lt is =
    let double : 2 ^ suc j ≡ 2 ^ j * 2 = pow-suc 2 j in
    let rest = bits-unset n (w / 2) j (omega (arith, lt)) (ap (λ k. k % 2) (half w j) ∙ is) in
    let le = rest.0 in
    let low : (w - 2 ^ suc j) % 2 ≡ w % 2 = omega (arith, double, le) in
    let high : (w - 2 ^ suc j) / 2 ≡ w / 2 - 2 ^ j = omega (arith, double, le) in
    (omega (arith, double, le), λ i. low i ∷ (ap (λ v. bits n v) high ∙ rest.1) i)

pub set-fits : (n w j : ℕ) → j < n → w < 2 ^ n → w / 2 ^ j % 2 ≡ 0 → w + 2 ^ j < 2 ^ n
set-fits zero w j lt fits is = absurd (omega (arith, lt))
set-fits (suc n) w zero lt fits is =
    let even : w % 2 ≡ 0 = ap (λ k. k % 2) (sym (div-one w)) ∙ is in
    let double : 2 ^ suc n ≡ 2 ^ n * 2 = pow-suc 2 n in
    omega (arith, even, double, fits)
set-fits (suc n) w (suc j) lt fits is =
    let whole : 2 ^ suc n ≡ 2 ^ n * 2 = pow-suc 2 n in
    let double : 2 ^ suc j ≡ 2 ^ j * 2 = pow-suc 2 j in
    let rest = set-fits n (w / 2) j (omega (arith, lt)) (omega (arith, whole, fits)) (ap (λ k. k % 2) (half w j) ∙ is) in
    omega (arith, whole, double, rest)

-- a bit that changes changes the sum
pub sum-set : (xs : List ℕ) (j v : ℕ) → j < length xs → sum (set xs j v) + get_or xs j 0 ≡ sum xs + v
sum-set xs j v lt = sum_by-set (λ (n : ℕ). n) xs j v 0 lt

pub sum-append : (xs ys : List ℕ) → sum (xs ++ ys) ≡ sum xs + sum ys
sum-append xs ys = sum_by-append (λ (n : ℕ). n) xs ys

-- ---- among all marks
pub length-marks : (n : ℕ) (ws : List ℕ) → length (marks_of n ws) ≡ n * length ws
unfolding marks_of
length-marks n [] = omega arith
length-marks n (w ∷ ws) =
    let step : n * suc (length ws) ≡ n * length ws + n = grind arith in
    length-append (bits n w) (marks_of n ws) ∙ omega (arith, length-bits n w, length-marks n ws, step)

pub marks-zero : (n k : ℕ) → marks_of n (replicate k 0) ≡ replicate (n * k) 0
unfolding marks_of
marks-zero n zero = ap (λ k. replicate k 0) (let none : 0 ≡ n * 0 = omega arith in none)
marks-zero n (suc k) =
    let step : n + n * k ≡ n * suc k = grind arith in
    (λ i. bits-zero n i ++ marks-zero n k i) ∙ replicate-append-replicate n (n * k) 0 ∙ ap (λ m. replicate m 0) step

pub sum-marks : (n : ℕ) (ws : List ℕ) → sum (marks_of n ws) ≡ sum (counts_of n ws)
unfolding marks_of
sum-marks n [] = refl
sum-marks n (w ∷ ws) = sum-append (bits n w) (marks_of n ws) ∙ ap (λ k. sum (bits n w) + k) (sum-marks n ws)
    ∙ sym (sum-cons (sum (bits n w)) (counts_of n ws))

-- the place of bit j of word k
module _ (n j : ℕ) where
  later : (k : ℕ) → n * suc k + j ≡ n + (n * k + j)
  later k = let step : n * suc k ≡ n + n * k = grind arith in omega (arith, step)

  first : n * zero + j ≡ j
  first = omega arith

  pub set-marks : (ws : List ℕ) (k w v : ℕ) → k < length ws → j < n → bits n w ≡ set (bits n (get_or ws k 0)) j v →
      marks_of n (set ws k w) ≡ set (marks_of n ws) (n * k + j) v
  unfolding marks_of
  set-marks [] k w v lt inside is = absurd (omega (arith, lt))
  set-marks (x ∷ ws) zero w v lt inside is =
      let l = length-bits n x in
      ap (λ r. r ++ marks_of n ws) is ∙ sym (set-append_left (bits n x) (marks_of n ws) j v (omega (arith, l, inside)))
      ∙ ap (λ p. set (bits n x ++ marks_of n ws) p v) (sym first)
  set-marks (x ∷ ws) (suc k) w v lt inside is =
      let l = length-bits n x in
      let p : n * suc k + j - n ≡ n * k + j = omega (arith, later k) in
      ap (λ r. bits n x ++ r) (set-marks ws k w v (omega (arith, lt)) inside is ∙ ap (λ q. set (marks_of n ws) q v) (sym p))
      ∙ sym (set-append_right (bits n x) (marks_of n ws) n (n * suc k + j) v l (omega (arith, later k)))

  pub get-marks : (ws : List ℕ) (k : ℕ) → k < length ws → j < n → get_or (marks_of n ws) (n * k + j) 0 ≡ get_or (bits n (get_or ws k 0)) j 0
  unfolding marks_of
  get-marks [] k lt inside = absurd (omega (arith, lt))
  get-marks (x ∷ ws) zero lt inside =
      let l = length-bits n x in
      ap (λ p. get_or (bits n x ++ marks_of n ws) p 0) first ∙ get_or_append_left (bits n x) (marks_of n ws) 0 j (omega (arith, l, inside))
  get-marks (x ∷ ws) (suc k) lt inside =
      let l = length-bits n x in
      ap (λ p. get_or (bits n x ++ marks_of n ws) p 0) (later k ∙ ap (λ m. m + (n * k + j)) (sym l))
      ∙ get_or-append-add (bits n x) (marks_of n ws) (n * k + j) 0
      ∙ get-marks ws k (omega (arith, lt)) inside

  pub take-marks : (ws : List ℕ) (k : ℕ) → k < length ws → j < n → sum (take (n * k + j) (marks_of n ws)) ≡ sum (take k (counts_of n ws))
      + sum (take j (bits n (get_or ws k 0)))
  unfolding marks_of
  take-marks [] k lt inside = absurd (omega (arith, lt))
  take-marks (x ∷ ws) zero lt inside =
      let l = length-bits n x in
      ap (λ p. sum (take p (bits n x ++ marks_of n ws))) first
      ∙ ap sum (take-append-le j (bits n x) (marks_of n ws) (omega (arith, l, inside))) ∙ sym (zero-add (sum (take j (bits n x))))
  take-marks (x ∷ ws) (suc k) lt inside =
      let l = length-bits n x in
      let rest = take-marks ws k (omega (arith, lt)) inside in
      let head = sum-cons (sum (bits n x)) (take k (counts_of n ws)) in
      ap (λ p. sum (take p (bits n x ++ marks_of n ws))) (later k ∙ ap (λ m. m + (n * k + j)) (sym l))
      ∙ ap sum (take-append-add (bits n x) (marks_of n ws) (n * k + j)) ∙ sum-append (bits n x) (take (n * k + j) (marks_of n ws))
      ∙ omega (arith, rest, head)

-- ---- how many are set
pub sum-ones : (n w : ℕ) → w < 2 ^ n → sum (bits n w) ≡ ones w
unfolding bits ones
sum-ones zero w lt = let none : w ≡ 0 = omega (arith, lt) in rw none refl
sum-ones (suc n) w lt =
    let whole : 2 ^ suc n ≡ 2 ^ n * 2 = pow-suc 2 n in
    sum-cons (w % 2) (bits n (w / 2)) ∙ ap (λ k. w % 2 + k) (sum-ones n (w / 2) (omega (arith, whole, lt))) ∙ sym (ones_step w)

-- ---- a bit that is as it is to be
pub set-same : (xs : List ℕ) (i v : ℕ) → get_or xs i 0 ≡ v → i < length xs → set xs i v ≡ xs
set-same [] i v e lt = absurd (omega (arith, lt))
set-same (x ∷ xs) zero v e lt = ap (λ y. y ∷ xs) (sym e)
set-same (x ∷ xs) (suc i) v e lt = ap (λ r. x ∷ r) (set-same xs i v e (omega (arith, lt)))

pub bits-same : (n w j v : ℕ) → j < n → w / 2 ^ j % 2 ≡ v → bits n w ≡ set (bits n w) j v
bits-same n w j v lt is = let l = length-bits n w in sym (set-same (bits n w) j v (get-bits n w j lt ∙ is) (omega (arith, l, lt)))

-- ---- the search for a bit
pub record IsSearch (n word i rest left bit : ℕ) : Type 0 where
  pub within : bit ≤ n
  pub rest_is : drop bit (bits n word) ≡ bits (n - bit) rest
  pub before : sum (take bit (bits n word)) + left ≡ i
  pub has : left < sum (bits (n - bit) rest)

drop-head : (xs : List ℕ) (b x : ℕ) (ys : List ℕ) → drop b xs ≡ x ∷ ys → (get_or xs b 0 ≡ x) × (drop (suc b) xs ≡ ys) ×
    (sum (take (suc b) xs) ≡ sum (take b xs) + x)
drop-head [] zero x ys e = cc
drop-head [] (suc b) x ys e = cc
drop-head (z ∷ xs) zero x ys e =
    let here : z ≡ x = cc in
    let rest : xs ≡ ys = cc in
    (here, rest, sum-cons z [] ∙ ap (λ k. k + 0) here ∙ omega arith)
drop-head (z ∷ xs) (suc b) x ys e =
    let r = drop-head xs b x ys e in
    (r.0, r.1, sum-cons z (take (suc b) xs) ∙ ap (λ k. z + k) r.2 ∙ omega (arith, sum-cons z (take b xs)))

-- what is left begins with the lowest bit of the rest
module _ (n word i rest left bit : ℕ) (s : IsSearch n word i rest left bit) where
  none_left : (m : ℕ) → n - bit ≡ m → m ≡ 0 → ⊥
  unfolding bits
  none_left m e z = let h : left < sum (bits 0 rest) = subst (λ k. left < sum (bits k rest)) (e ∙ z) s.has in omega (arith, h)

  pub search-more : bit < n
  search-more = elim (cases_lt bit n) [
    | inl lt ↦ lt
    | inr le ↦ absurd (none_left (n - bit) refl (omega (arith, le)))
  ]

  opened : (m : ℕ) → n - bit ≡ suc m → (drop bit (bits n word) ≡ rest % 2 ∷ bits m (rest / 2)) × (left < rest % 2 + sum (bits m (rest / 2)))
  unfolding bits
  opened m e = (
    s.rest_is ∙ ap (λ k. bits k rest) e,
    let h : left < sum (bits (suc m) rest) = subst (λ k. left < sum (bits k rest)) e s.has in
        let c = sum-cons (rest % 2) (bits m (rest / 2)) in
        omega (arith, h, c),
  )

  pub search-step : (b : ℕ) → b ≡ suc bit → rest % 2 ≤ left → IsSearch n word i (rest / 2) (left - rest % 2) b
  search-step b next le =
      let lt = search-more in
      let o = opened (n - b) (omega (arith, lt, next)) in
      let d = drop-head (bits n word) bit (rest % 2) (bits (n - b) (rest / 2)) o.0 in
      record {
        within = omega (arith, lt, next);
        rest_is = ap (λ k. drop k (bits n word)) next ∙ d.1;
        before = let sums : sum (take b (bits n word)) ≡ sum (take bit (bits n word)) + rest % 2 =
            ap (λ k. sum (take k (bits n word))) next ∙ d.2 in omega (arith, sums, s.before, le);
        has = let h = o.1 in omega (arith, h, le);
      }

  pub search-end : left < rest % 2 → (sum (take bit (bits n word)) ≡ i) × (get_or (bits n word) bit 0 ≡ 1)
  search-end lt =
      let more = search-more in
      let m = n - suc bit in
      let o = opened m (omega (arith, more)) in
      let d = drop-head (bits n word) bit (rest % 2) (bits m (rest / 2)) o.0 in
      let one : rest % 2 ≡ 1 = omega (arith, lt) in
      let none : left ≡ 0 = omega (arith, lt) in
      (omega (arith, none, s.before), d.0 ∙ one)

-- several bits at once
pub search-jump : (z n word i rest left bit b c : ℕ) → IsSearch n word i rest left bit → sum (bits z rest) ≡ c → c ≤ left → b ≡ bit + z →
    IsSearch n word i (rest / 2 ^ z) (left - c) b
unfolding bits
search-jump zero n word i rest left bit b c s e le at =
    let none : c ≡ 0 = sym e in
    let same : left ≡ left - c = omega (arith, none) in
    let here : bit ≡ b = omega (arith, at) in
    subst (λ r. IsSearch n word i r (left - c) b) (sym (div-one rest))
    (subst (λ l. IsSearch n word i rest l b) same (subst (λ k. IsSearch n word i rest left k) here s))
search-jump (suc z) n word i rest left bit b c s e le at =
    let head = sum-cons (rest % 2) (bits z (rest / 2)) in
    let more = sum (bits z (rest / 2)) in
    let parts : rest % 2 + more ≡ c = sym head ∙ e in
    let first = search-step n word i rest left bit s (suc bit) refl (omega (arith, parts, le)) in
    let then = search-jump z n word i (rest / 2) (left - rest % 2) (suc bit) b more first refl (omega (arith, parts, le))
    (omega (arith, at)) in
    let less : left - rest % 2 - more ≡ left - c = omega (arith, parts) in
    subst (λ r. IsSearch n word i r (left - c) b) (half rest z) (subst (λ l. IsSearch n word i (rest / 2 / 2 ^ z) l b) less then)

pub passed-one : (w : ℕ) → sum (bits 1 w) ≡ w % 2
unfolding bits
passed-one w = sum-cons (w % 2) [] ∙ omega arith

pub passed-zeros : (k w : ℕ) → sum (bits (count_trailing_zeros k w) w) ≡ 0
unfolding bits count_trailing_zeros
passed-zeros zero w = refl
passed-zeros (suc k) w = go (w % 2) refl (passed-zeros k (w / 2))
  where
    go : (d : ℕ) → w % 2 ≡ d → sum (bits (count_trailing_zeros k (w / 2)) (w / 2)) ≡ 0 →
        sum (bits (under d (count_trailing_zeros k (w / 2))) w) ≡ 0
    go zero e rest = sum-cons (w % 2) (bits (count_trailing_zeros k (w / 2)) (w / 2)) ∙ omega (arith, e, rest)
    go (suc d) e rest = refl

pub some-zeros : (k w : ℕ) → w % 2 ≡ 0 → 1 ≤ count_trailing_zeros (suc k) w
unfolding count_trailing_zeros
some-zeros k w e = go (w % 2) e
  where
    go : (d : ℕ) → d ≡ 0 → 1 ≤ under d (count_trailing_zeros k (w / 2))
    go zero e = omega arith
    go (suc d) e = absurd (omega (arith, e))

pub search-begin : (n word i : ℕ) → i < sum (bits n word) → IsSearch n word i word i 0
search-begin n word i lt = record {
  within = omega arith;
  rest_is = ap (λ k. bits k word) (omega arith);
  before = omega arith;
  has = subst (λ k. i < sum (bits k word)) (omega arith) lt;
}

pub counts-zero : (n k : ℕ) → counts_of n (replicate k 0) ≡ replicate k 0
counts-zero n zero = refl
counts-zero n (suc k) =
    let none : sum (bits n 0) ≡ 0 = ap sum (bits-zero n) ∙ sum_by-replicate (λ (x : ℕ). x) n 0 ∙ omega arith in
    λ i. none i ∷ counts-zero n k i

-- ---- all of them
pub sum-counts : (words counts value : List ℕ) → IsMarks words counts → marks_of 64 words ≡ value → sum counts ≡ sum value
sum-counts words counts value m is = ap sum m.counted ∙ sym (sum-marks 64 words) ∙ ap sum is

pub length-counts : (words counts : List ℕ) → IsMarks words counts → length counts ≡ length words
length-counts words counts m = ap length m.counted ∙ length-map words (λ w. sum (bits 64 w))

pub counts-set : (words counts : List ℕ) (k w n : ℕ) → IsMarks words counts → n ≡ sum (bits 64 w) → IsMarks (set words k w) (set counts k n)
counts-set words counts k w n m is = record {
  counted = (λ i. set (m.counted i) k (is i)) ∙ sym (map-set (λ v. sum (bits 64 v)) words k w);
  at_most = omega (arith, m.at_most, length-set words k w);
}

-- ---- the word of a place
module _ (words value : List ℕ) (place : ℕ) (is : marks_of 64 words ≡ value) (lt : place < length value) where
  pub word-within : place / 64 < length words
  word-within = let l = length-marks 64 words in let v = ap length is in omega (arith, l, v, lt)

  parts : 64 * (place / 64) + place % 64 ≡ place
  parts = omega arith

  pub place-set : (w v : ℕ) → bits 64 w ≡ set (bits 64 (get_or words (place / 64) 0)) (place % 64) v →
      marks_of 64 (set words (place / 64) w) ≡ set value place v
  place-set w v e =
      set-marks 64 (place % 64) words (place / 64) w v word-within (omega arith) e ∙ ap (λ p. set (marks_of 64 words) p v) parts
      ∙ ap (λ xs. set xs place v) is

-- the place of a bit
pub place-found : (words value : List ℕ) (k j rest i : ℕ) → marks_of 64 words ≡ value → k < length words → j < 64 →
    sum (take k (counts_of 64 words)) + rest ≡ i
    → sum (take j (bits 64 (get_or words k 0))) ≡ rest → get_or (bits 64 (get_or words k 0)) j 0 ≡ 1
    → (k * 64 + j < length value) × (sum (take (k * 64 + j) value) ≡ i) × (get_or value (k * 64 + j) 0 ≡ 1)
place-found words value k j rest i is lt inside before some one =
    let at : 64 * k + j ≡ k * 64 + j = omega arith in
    let P : ℕ → List ℕ → Type 0 = λ p xs. (p < length xs) × (sum (take p xs) ≡ i) × (get_or xs p 0 ≡ 1) in
    let l = length-marks 64 words in
    let sums = take-marks 64 j words k lt inside in
    let all : P (64 * k + j) (marks_of 64 words) = (
      omega (arith, l, lt, inside),
      omega (arith, sums, before, some),
      get-marks 64 j words k lt inside ∙ one,
    ) in
    subst (λ p. P p value) at (subst (λ xs. P (64 * k + j) xs) is all)
