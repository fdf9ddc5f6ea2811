-- Words of bits: which entries lie in a cell, and which are into a step.
use Rattle.std.proofs.Common.{ℕ, Bool, true, false, cond, ◌&&◌, ◌||◌, ◌≡◌, ◌+◌, ◌-◌, ◌*◌, ◌%◌, ◌^◌, ◌<◌, ◌≤◌, ◌==◌, nat_lt, List}
use Rattle.std.proofs.Common.{ap, ap₂, ◌∙◌, sym, length, get_or, set, ltb, max, inl, inr, refl, arith, not}
use Rattle.std.specs.Int.{bit_at, w128}
use Rattle.std.specs.Int.RustNames.{bit_or}
use Rattle.std.proofs.lemmas.Bool.{and_left, and_parts, cases_Bool, cases_eq, cases_lt, eq-eqb, eqb-true, le-ltb, lt-ltb, ltb-false}
use Rattle.std.proofs.lemmas.Bool.{ltb-true, ne_eqb, or_left, or_right}
use Rattle.std.proofs.lemmas.List.{get_or-set_other, get_or-set_same}
use Rattle.std.proofs.lemmas.Nat.Bits.{bit_at-lt, bit_at-zero, bit_at_or, bit_at_set_other, bit_at_set_same}
use Rattle.mark_judge.specs.declared.entry_bits.Bits.{Bits}
use Rattle.mark_judge.specs.declared.entries.Entry.{Entry}
use Rattle.mark_judge.specs.Tables.{AreMasks, does_lack, entry_at, has_bit, lacks_one, no_bits}
use Rattle.mark_judge.proofs.Tests.{and-false, and-true, none_below, or-false, or_assoc}

-- ---- bits of a number
most_one : (x y : ℕ) → x < 2 → y < 2 → (max x y == 1) ≡ ((x == 1) || (y == 1))
most_one x y h k =
    elim (cases_eq x 1) [
      | inl e ↦ eq-eqb (max x y) 1 (omega (arith, h, k, e)) ∙ sym (or_left (x == 1) (y == 1) (eq-eqb x 1 e))
      | inr ne ↦ ap (λ v. v == 1) (let q : max x y ≡ y = omega (arith, h, k, ne) in q)
          ∙ sym (ap (λ t. t || (y == 1)) (ne_eqb x 1 ne))
    ]

number_joined : (a b j : ℕ) → (bit_at (bit_or a b) j == 1) ≡ ((bit_at a j == 1) || (bit_at b j == 1))
number_joined a b j = ap (λ v. v == 1) (bit_at_or a b j) ∙ most_one (bit_at a j) (bit_at b j) (bit_at-lt a j) (bit_at-lt b j)

number_with : (a k j : ℕ) → k < 128 → (bit_at (bit_or a (1 * 2 ^ k % 2 ^ 128)) j == 1) ≡ ((bit_at a j == 1) || (j == k))
number_with a k j h =
    elim (cases_eq j k) [
      | inl e ↦ ap (λ i. bit_at (bit_or a (1 * 2 ^ k % 2 ^ 128)) i == 1) e
          ∙ ap (λ v. v == 1) (bit_at_set_same w128 a k h)
          ∙ sym (or_right (bit_at a j == 1) (j == k) (eq-eqb j k e))
      | inr ne ↦ ap (λ v. v == 1) (bit_at_set_other w128 a k h j ne)
          ∙ sym (ap (λ t. (bit_at a j == 1) || t) (ne_eqb j k ne) ∙ or-false (bit_at a j == 1))
    ]

-- ---- and of two of them
both : (t a b c d e f : Bool) → a ≡ (b || c) → d ≡ (e || f) → cond t a d ≡ (cond t b e || cond t c f)
both true a b c d e f h k = h
both false a b c d e f h k = k

pub bits_joined : (a b : Bits) (low high j : ℕ) → low ≡ bit_or a.low b.low → high ≡ bit_or a.high b.high
    → has_bit (record { low = low; high = high }) j ≡ (has_bit a j || has_bit b j)
bits_joined a b low high j l h =
    both (nat_lt j 128) (bit_at low j == 1) (bit_at a.low j == 1) (bit_at b.low j == 1)
    (bit_at high (j - 128) == 1) (bit_at a.high (j - 128) == 1) (bit_at b.high (j - 128) == 1)
    (ap (λ n. bit_at n j == 1) l ∙ number_joined a.low b.low j)
    (ap (λ n. bit_at n (j - 128) == 1) h ∙ number_joined a.high b.high (j - 128))

one_part : (t a b c x : Bool) → (t ≡ true → a ≡ (b || x)) → (t ≡ false → x ≡ false) → cond t a c ≡ (cond t b c || x)
one_part true a b c x h k = h refl
one_part false a b c x h k = sym (ap (λ y. c || y) (k refl) ∙ or-false c)

other_part : (t a b c x : Bool) → (t ≡ false → a ≡ (b || x)) → (t ≡ true → x ≡ false) → cond t c a ≡ (cond t c b || x)
other_part true a b c x h k = sym (ap (λ y. c || y) (k refl) ∙ or-false c)
other_part false a b c x h k = h refl

pub bits_with_low : (a : Bits) (low k j : ℕ) → k < 128 → low ≡ bit_or a.low (1 * 2 ^ k % 2 ^ 128)
    → has_bit (record { low = low; high = a.high }) j ≡ (has_bit a j || (j == k))
bits_with_low a low k j h l =
    one_part (nat_lt j 128) (bit_at low j == 1) (bit_at a.low j == 1) (bit_at a.high (j - 128) == 1) (j == k)
    (λ t. ap (λ n. bit_at n j == 1) l ∙ number_with a.low k j h)
    (λ t. let u = ltb-false j 128 t in ne_eqb j k (λ e. absurd (omega (arith, h, u, e))))

pub bits_with_high : (a : Bits) (high k j : ℕ) → 128 ≤ k → k < 256 → high ≡ bit_or a.high (1 * 2 ^ (k - 128) % 2 ^ 128)
    → has_bit (record { low = a.low; high = high }) j ≡ (has_bit a j || (j == k))
bits_with_high a high k j h below l =
    other_part (nat_lt j 128) (bit_at high (j - 128) == 1) (bit_at a.high (j - 128) == 1) (bit_at a.low j == 1) (j == k)
    (λ t. ap (λ n. bit_at n (j - 128) == 1) l ∙ number_with a.high (k - 128) (j - 128) (omega (arith, h, below))
    ∙ ap (λ x. (bit_at a.high (j - 128) == 1) || x) (same_place (ltb-false j 128 t)))
    (λ t. let u = ltb-true j 128 t in ne_eqb j k (λ e. absurd (omega (arith, h, u, e))))
  where
    same_place : 128 ≤ j → (j - 128 == k - 128) ≡ (j == k)
    same_place u =
        elim (cases_eq j k) [
          | inl e ↦ ap (λ n. n - 128 == k - 128) e ∙ eq-eqb (k - 128) (k - 128) refl ∙ sym (eq-eqb j k e)
          | inr ne ↦ ne_eqb (j - 128) (k - 128) (λ e. ne (omega (arith, h, u, e))) ∙ sym (ne_eqb j k ne)
        ]

-- ---- which entries lie in a cell
-- entry k is noted at its cell
pub bits_begun : (words : List Bits) (cell k : ℕ) (v : Bits) → cell < length words
    → ((j : ℕ) → has_bit v j ≡ (has_bit (get_or words cell no_bits) j || (j == k))) → (c j : ℕ)
    → has_bit (get_or (set words cell v) c no_bits) j ≡ (has_bit (get_or words c no_bits) j || ((j == k) && (cell == c)))
bits_begun words cell k v h is c j =
    elim (cases_eq c cell) [
      | inl e ↦ ap (λ i. has_bit (get_or (set words cell v) i no_bits) j) e
          ∙ ap (λ w. has_bit w j) (get_or-set_same words cell v no_bits h)
          ∙ is j
          ∙ ap (λ i. has_bit (get_or words i no_bits) j || (j == k)) (sym e)
          ∙ ap (λ t. has_bit (get_or words c no_bits) j || t) (sym (ap (λ t. (j == k) && t) (eq-eqb cell c (sym e)) ∙ and-true (j == k)))
      | inr ne ↦ ap (λ w. has_bit w j) (get_or-set_other words cell c v no_bits ne)
          ∙ sym (ap (λ t. has_bit (get_or words c no_bits) j || t)
          (ap (λ t. (j == k) && t) (ne_eqb cell c (λ q. ne (sym q))) ∙ and-false (j == k)) ∙ or-false (has_bit (get_or words c no_bits) j))
    ]

-- no cell has its number
pub bits_kept : (words : List Bits) (cell k : ℕ) → length words ≤ cell → (c j : ℕ) → c < length words
    → has_bit (get_or words c no_bits) j ≡ (has_bit (get_or words c no_bits) j || ((j == k) && (cell == c)))
bits_kept words cell k h c j low =
    sym (ap (λ t. has_bit (get_or words c no_bits) j || t)
    (ap (λ t. (j == k) && t) (ne_eqb cell c (λ q. absurd (omega (arith, h, low, q)))) ∙ and-false (j == k))
    ∙ or-false (has_bit (get_or words c no_bits) j))

-- of the entries before place k it is noted at which place f holds
abbrev pub AreNotedTo : (ℕ → ℕ → Bool) → ℕ → ℕ → List Bits → Type 0
AreNotedTo f n k words = (c j : ℕ) → c < n → has_bit (get_or words c no_bits) j ≡ (ltb j k && f c j)

-- in which cell each lies
abbrev pub AreBegunTo : List Entry → ℕ → ℕ → List Bits → Type 0
AreBegunTo es = AreNotedTo (λ c j. (entry_at es j).cell == c)

-- into which step each is
abbrev pub AreMasksTo : List Entry → ℕ → ℕ → List Bits → Type 0
AreMasksTo es = AreNotedTo (λ s j. (entry_at es j).step == s)

test_more : (f : ℕ → Bool) (j k : ℕ) → ((ltb j k && f j) || ((j == k) && f k)) ≡ (ltb j (k + 1) && f j)
test_more f j k =
    elim (cases_eq j k) [
      | inl e ↦ ap₂ (λ a b. (a && f j) || (b && f k)) (le-ltb j k (omega (arith, e))) (eq-eqb j k e)
          ∙ ap f (sym e)
          ∙ sym (ap (λ a. a && f j) (lt-ltb j (k + 1) (omega (arith, e))))
      | inr ne ↦ ap (λ b. (ltb j k && f j) || (b && f k)) (ne_eqb j k ne)
          ∙ or-false (ltb j k && f j)
          ∙ ap (λ a. a && f j) (same_order ne)
    ]
  where
    same_order : (j ≡ k → ⊥) → ltb j k ≡ ltb j (k + 1)
    same_order ne =
        elim (cases_lt j k) [
          | inl h ↦ lt-ltb j k h ∙ sym (lt-ltb j (k + 1) (omega (arith, h)))
          | inr h ↦ le-ltb j k h ∙ sym (le-ltb j (k + 1) (omega (arith, h, ne)))
        ]

pub none_noted : (f : ℕ → ℕ → Bool) (n : ℕ) (words : List Bits)
    → ((c j : ℕ) → c < n → has_bit (get_or words c no_bits) j ≡ false) → AreNotedTo f n 0 words
none_noted f n words none c j h = none c j h ∙ sym (ap (λ a. a && f c j) (le-ltb j 0 (omega arith)))

pub noted_more : (f : ℕ → ℕ → Bool) (n k : ℕ) (old new : List Bits) → length old ≡ n → AreNotedTo f n k old
    → ((c j : ℕ) → c < length old →
    has_bit (get_or new c no_bits) j ≡ (has_bit (get_or old c no_bits) j || ((j == k) && f c k)))
    → AreNotedTo f n (k + 1) new
noted_more f n k old new many before noted c j h =
    noted c j (omega (arith, many, h))
    ∙ ap (λ t. t || ((j == k) && f c k)) (before c j h)
    ∙ test_more (f c) j k

-- all are
pub noted_all : (f : ℕ → ℕ → Bool) (n k count : ℕ) (words : List Bits) → count ≤ k → AreNotedTo f n k words → (c j : ℕ) → c < n → j < count
    → has_bit (get_or words c no_bits) j ≡ f c j
noted_all f n k count words all noted c j h low =
    noted c j h ∙ ap (λ a. a && f c j) (lt-ltb j k (omega (arith, all, low)))

-- ---- which entries lead to a cell
-- one link more
pub gathered_more : (own : Bool) (before one : Bool) (word : Bool) (all : Bool) → word ≡ (own || before) → all ≡ (before || one)
    → (word || one) ≡ (own || all)
gathered_more own before one word all e f = ap (λ t. t || one) e ∙ or_assoc own before one ∙ ap (λ t. own || t) (sym f)

-- ---- no entry
pub no_bit : (j : ℕ) → has_bit no_bits j ≡ false
no_bit j =
    elim (cases_Bool (nat_lt j 128)) [
      | inl t ↦ ap (λ b. cond b (bit_at 0 j == 1) (bit_at 0 (j - 128) == 1)) t ∙ ap (λ n. n == 1) (bit_at-zero j)
      | inr f ↦ ap (λ b. cond b (bit_at 0 j == 1) (bit_at 0 (j - 128) == 1)) f ∙ ap (λ n. n == 1) (bit_at-zero (j - 128))
    ]

-- the cells below c have none
abbrev pub AreClearTo : ℕ → List Bits → Type 0
AreClearTo c words = (d j : ℕ) → d < c → has_bit (get_or words d no_bits) j ≡ false

pub clear_more : (words : List Bits) (c : ℕ) → c < length words → AreClearTo c words → AreClearTo (c + 1) (set words c no_bits)
clear_more words c low clear d j h =
    elim (cases_eq d c) [
      | inl e ↦ ap (λ i. has_bit (get_or (set words c no_bits) i no_bits) j) e
          ∙ ap (λ w. has_bit w j) (get_or-set_same words c no_bits no_bits low)
          ∙ no_bit j
      | inr ne ↦ ap (λ w. has_bit w j) (get_or-set_other words c d no_bits no_bits ne) ∙ clear d j (omega (arith, h, ne))
    ]

-- ---- masks of steps
-- all entries of a mask are among these
pub all_among : (a m both : Bits) → ((both.low == a.low) && (both.high == a.high)) ≡ true
    → ((j : ℕ) → has_bit both j ≡ (has_bit a j || has_bit m j)) → (j : ℕ) → has_bit m j ≡ true → has_bit a j ≡ true
all_among a m both same joined j h =
    let q = and_parts (both.low == a.low) (both.high == a.high) same in
    ap₂ (λ x y. cond (nat_lt j 128) (bit_at x j == 1) (bit_at y (j - 128) == 1)) (sym (eqb-true both.low a.low q.0))
    (sym (eqb-true both.high a.high q.1))
    ∙ joined j
    ∙ or_right (has_bit a j) (has_bit m j) h

-- so none of the step is lacking
pub none_lacked : (es : List Entry) (masks : List Bits) (bits : Bits) (step : ℕ) → AreMasks es masks → step < length masks
    → ((k : ℕ) → has_bit (get_or masks step no_bits) k ≡ true → has_bit bits k ≡ true) → lacks_one bits es step ≡ false
none_lacked es masks bits step are within all =
    none_below (does_lack bits es step) (length es)
    (λ k h. elim (cases_Bool ((entry_at es k).step == step)) [
      | inl t ↦ ap₂ (λ a b. a && not b) t (all k (are step k within h ∙ t))
      | inr f ↦ and_left ((entry_at es k).step == step) (not (has_bit bits k)) f
    ])
