-- Lists that are filled up with one entry.
use Rattle.std.proofs.Common.{◌≡◌, ℕ, zero, suc, ◌+◌, ◌-◌, ◌<◌, ◌≤◌, true, List, [], ◌∷◌, ◌++◌, length, get_or, set, replicate, Option}
use Rattle.std.proofs.Common.{None, refl, sym, ap, ◌∙◌, inl, inr, arith}
use Rattle.std.specs.Option.{is_some}
use Rattle.std.proofs.lemmas.Bool.{cases_lt}
use Rattle.std.proofs.lemmas.List.{length-append, length-set, length-replicate, get_or_append_left, get_or-append_right, get_or-replicate}
use Rattle.std.proofs.lemmas.List.{get_or_past, set-append_left, set-append_right, append_assoc, replicate-append-replicate}
use Rattle.chain_list.specs.Places.{filled_up}

module _ {X : Type 0} where
  set-replicate : (n i : ℕ) (b y : X) → i < n → set (replicate n b) i y ≡ replicate i b ++ y ∷ replicate (n - i - 1) b
  set-replicate zero i b y lt = absurd (omega arith)
  set-replicate (suc n) zero b y lt = let e : n ≡ suc n - 0 - 1 = omega arith in ap (λ k. y ∷ replicate k b) e
  set-replicate (suc n) (suc i) b y lt =
      let e : n - i - 1 ≡ suc n - suc i - 1 = omega arith in
      ap (λ r. b ∷ r) (set-replicate n i b y (omega arith) ∙ ap (λ k. replicate i b ++ y ∷ replicate k b) e)

  module _ (xs : List X) (len : ℕ) (b : X) where
    pub length-filled : length xs ≤ len → length (filled_up xs len b) ≡ len
    length-filled le = omega (arith, length-append xs (replicate (len - length xs) b), length-replicate (len - length xs) b)

    pub get-held : (i : ℕ) (d : X) → i < length xs → get_or (filled_up xs len b) i d ≡ get_or xs i d
    get-held i d lt = get_or_append_left xs (replicate (len - length xs) b) d i lt

    pub get-blank : (i : ℕ) (d : X) → length xs ≤ i → i < len → get_or (filled_up xs len b) i d ≡ b
    get-blank i d le lt = get_or-append_right xs (replicate (len - length xs) b) (length xs) i d refl le
        ∙ get_or-replicate (len - length xs) (i - length xs) b d (omega arith)

    pub set-held : (i : ℕ) (y : X) → i < length xs → filled_up (set xs i y) len b ≡ set (filled_up xs len b) i y
    set-held i y lt = ap (λ n. set xs i y ++ replicate (len - n) b) (length-set xs i y)
        ∙ sym (set-append_left xs (replicate (len - length xs) b) i y lt)

    -- filled up to a place, and the place then put behind
    pub set-blank : (i : ℕ) (y : X) → length xs ≤ i → i < len → filled_up (filled_up xs i b ++ y ∷ []) len b ≡ set (filled_up xs len b) i y
    set-blank i y le lt =
        let j = i - length xs in
        let n = len - length xs in
        let long : length (filled_up xs i b ++ y ∷ []) ≡ i + 1 =
        omega (arith, length-append (filled_up xs i b) (y ∷ []), length-append xs (replicate j b), length-replicate j b) in
        let rest : len - length (filled_up xs i b ++ y ∷ []) ≡ n - j - 1 = omega (arith, long) in
        ap (λ k. (filled_up xs i b ++ y ∷ []) ++ replicate k b) rest
        ∙ append_assoc (filled_up xs i b) (y ∷ []) (replicate (n - j - 1) b)
        ∙ append_assoc xs (replicate j b) (y ∷ replicate (n - j - 1) b)
        ∙ ap (λ r. xs ++ r) (sym (set-replicate n j b y (omega arith)))
        ∙ sym (set-append_right xs (replicate n b) (length xs) i y refl le)

    -- filled up further
    pub filled-more : (k : ℕ) → length xs ≤ len → filled_up xs (len + k) b ≡ filled_up xs len b ++ replicate k b
    filled-more k le =
        let e : len + k - length xs ≡ len - length xs + k = omega arith in
        ap (λ n. xs ++ replicate n b) e ∙ ap (λ r. xs ++ r) (sym (replicate-append-replicate (len - length xs) k b))
        ∙ sym (append_assoc xs (replicate (len - length xs) b) (replicate k b))

  -- filled up with one entry, and from there on with another
  pub filled-on : (xs : List X) (len : ℕ) (b c : X) (k : ℕ) → length xs ≤ len → filled_up (filled_up xs len b) (len + k) c ≡ filled_up xs
      len b ++ replicate k c
  filled-on xs len b c k le =
      let e : len + k - length (filled_up xs len b) ≡ k = omega (arith, length-filled xs len b le) in
      ap (λ n. filled_up xs len b ++ replicate n c) e

-- nothing, as an option of a type
abbrev nothing_in : (Y : Type 0) → Option Y
nothing_in Y = None

-- what lies at a place where further ones are empty
pub get_or-empties : (Y : Type 0) (l : List (Option Y)) (k i : ℕ) → get_or (l ++ replicate k None) i None ≡ get_or l i None
get_or-empties Y l k i = elim (cases_lt i (length l)) [
  | inl lt ↦ get_or_append_left l (replicate k None) None i lt
  | inr le ↦ get_or-append_right l (replicate k None) (length l) i None refl le ∙ no_more Y k (i - length l) ∙ sym (get_or_past l i None le)
]
  where
    no_more : (Y : Type 0) (k i : ℕ) → get_or (replicate k (nothing_in Y)) i None ≡ None
    no_more Y k i = elim (cases_lt i k) [
      | inl lt ↦ get_or-replicate k i None None lt
      | inr le ↦ get_or_past (replicate k None) i None
          (omega (arith, length-replicate k (nothing_in Y)))
    ]

-- a place that holds something is among the filled ones
held-within : (Y : Type 0) (l : List (Option Y)) (i : ℕ) → is_some (get_or l i None) ≡ true → i < length l
held-within Y l i e = elim (cases_lt i (length l)) [
  | inl lt ↦ lt
  | inr le ↦ let none : get_or l i None ≡ None = get_or_past l i None le in cc
]

pub held-filled : (Y : Type 0) (l : List (Option Y)) (len i : ℕ) → is_some (get_or (filled_up l len None) i None) ≡ true → i < length l
held-filled Y l len i e = held-within Y l i (ap is_some (sym (get_or-empties Y l (len - length l) i)) ∙ e)
