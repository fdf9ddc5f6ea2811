-- Buckets lie below their number, and an entry that takes a message is on one of the threads of its match bits.
use Rattle.std.proofs.Common.{◌≡◌, ℕ, zero, suc, ◌+◌, ◌-◌, ◌*◌, ◌/◌, ◌%◌, ◌^◌, ◌<◌, ◌≤◌, Bool, true, false, cond, nat_eq, nat_lt, ◌||◌}
use Rattle.std.proofs.Common.{bit_and, bit_xor, refl, sym, ap, subst, ◌∙◌, inl, inr, ◌⊎◌, arith}
use Rattle.std.proofs.lemmas.Bool.{eq-eqb, ne_eqb, eqb-true, and_parts, lt-ltb, le-ltb}
use Rattle.std.proofs.lemmas.Bool.Decides.{eqb_tells, leb_tells}
use Rattle.std.proofs.lemmas.Nat.{and_mask, xor_mod, mul-mod_first, div_below, mul-le, and_assoc, and_xor_apart}
use Rattle.std.proofs.lemmas.Nat.Bits.{and_high}
use Rattle.std.specs.Int.Bits.{xor_self, xor_zero_l, xor_zero_r, xor_assoc}
use Rattle.ptl_types.specs.declared.headers.Header.{Header}
use Rattle.ptl_types.specs.Matching.{bits_match, is_match}
use Rattle.ni_model.specs.declared.Linked.{Linked}
use Rattle.ni_model.specs.Lists.{fits}
use Rattle.match_lists.specs.Buckets.{bucket_of, buckets_of, thread_of, whole_thread, upper_48, upper_24, upper_48_thread, upper_24_thread}
use Rattle.match_lists.specs.Buckets.{last_thread, is_one, may_take}

-- the upper half of a product of 64 bits
pub half_below : (n : ℕ) → n % 2 ^ 64 / 2 ^ 32 < 2 ^ 32
half_below n = let lt : n % 2 ^ 64 < 2 ^ 64 = omega arith in omega arith

pub bucket-lt : (buckets bits : ℕ) → 0 < buckets → bucket_of buckets bits < buckets
unfolding bucket_of
bucket-lt buckets bits lt =
    let h : ℕ = (bits * 0x9E3779B97F4A7C15) % 2 ^ 64 / 2 ^ 32 in
    let at_most : h < 2 ^ 32 = half_below (bits * 0x9E3779B97F4A7C15) in
    let more : suc h * buckets ≤ 2 ^ 32 * buckets = mul-le (suc h) buckets (2 ^ 32) buckets at_most (omega arith) in
    div_below (h * buckets) (2 ^ 32) buckets (omega arith) (omega (arith, more))

pub bucket-le : (buckets bits : ℕ) → bucket_of buckets bits ≤ buckets
unfolding bucket_of
bucket-le zero bits = let e : (bits * 0x9E3779B97F4A7C15) % 2 ^ 64 / 2 ^ 32 * 0 / 2 ^ 32 ≡ 0 = omega arith in omega (arith, e)
bucket-le (suc n) bits = let lt = bucket-lt (suc n) bits (omega arith) in omega arith

-- bits that match are the same, as far as 64 bits go
xor-same : (a b : ℕ) → bit_xor a b ≡ 0 → a ≡ b
xor-same a b e = sym (xor_zero_r a) ∙ ap (λ n. bit_xor a n) (sym e) ∙ sym (xor_assoc a a b) ∙ ap (λ n. bit_xor n b) (xor_self a)
    ∙ xor_zero_l b

match-same : (a b : ℕ) → bits_match 0 a b ≡ true → a % 2 ^ 64 ≡ b % 2 ^ 64
match-same a b e =
    let none : bit_and (bit_xor a b) (2 ^ 64 - 1) ≡ 0 = eqb-true (bit_and (bit_xor a b) (2 ^ 64 - 1 - 0)) 0 e in
    xor-same (a % 2 ^ 64) (b % 2 ^ 64) (sym (xor_mod a b 64) ∙ sym (and_mask (bit_xor a b) 64) ∙ none)

bucket-same : (buckets a b : ℕ) → a % 2 ^ 64 ≡ b % 2 ^ 64 → bucket_of buckets a ≡ bucket_of buckets b
unfolding bucket_of
bucket-same buckets a b e =
    ap (λ n. n / 2 ^ 32 * buckets / 2 ^ 32) (sym (mul-mod_first a 0x9E3779B97F4A7C15 (2 ^ 64))
    ∙ ap (λ n. (n * 0x9E3779B97F4A7C15) % 2 ^ 64) e ∙ mul-mod_first b 0x9E3779B97F4A7C15 (2 ^ 64))

-- bits that match are the same under a mask of bits that aren't ignored
masked-same : (mask ignored a b : ℕ) → bit_and (2 ^ 64 - 1 - ignored) mask ≡ mask → bits_match ignored a b ≡ true →
    bit_and a mask ≡ bit_and b mask
masked-same mask ignored a b seen e =
    let none : bit_and (bit_xor a b) (2 ^ 64 - 1 - ignored) ≡ 0 = eqb-true (bit_and (bit_xor a b) (2 ^ 64 - 1 - ignored)) 0 e in
    let off : bit_and (bit_xor a b) mask ≡ 0 =
    ap (λ m. bit_and (bit_xor a b) m) (sym seen) ∙ sym (and_assoc mask (bit_xor a b) (2 ^ 64 - 1 - ignored))
    ∙ ap (λ n. bit_and n mask) none in
    let other : bit_xor a (bit_xor a b) ≡ b = sym (xor_assoc a a b) ∙ ap (λ n. bit_xor n b) (xor_self a) ∙ xor_zero_l b in
    sym (and_xor_apart mask a (bit_xor a b) off) ∙ ap (λ n. bit_and n mask) other

seen_48 : (ignored : ℕ) → ignored < 2 ^ 16 → bit_and (2 ^ 64 - 1 - ignored) upper_48 ≡ upper_48
seen_48 ignored lt = and_high (2 ^ 64 - 1 - ignored) 48 16 ∙ omega arith

seen_24 : (ignored : ℕ) → ignored < 2 ^ 40 → bit_and (2 ^ 64 - 1 - ignored) upper_24 ≡ upper_24
seen_24 ignored lt = and_high (2 ^ 64 - 1 - ignored) 24 40 ∙ omega arith

lt_tells : (a b : ℕ) → ((nat_lt a b ≡ true) × (a < b)) ⊎ ((nat_lt a b ≡ false) × (b ≤ a))
lt_tells a b = elim (leb_tells b a) [ inl t ↦ inr (le-ltb a b t.1, t.1) | inr f ↦ inl (lt-ltb a b f.1, f.1) ]

pub thread-le : (limit : ℕ) (x : Linked) → thread_of limit x ≤ last_thread limit
thread-le limit x =
    let n = buckets_of limit in
    let m = x.entry.match_bits in
    elim (eqb_tells x.entry.ignore_bits 0) [
      | inl t ↦ rw t.0 (let le = bucket-le n m in omega arith)
      | inr f ↦ rw f.0 (elim (lt_tells x.entry.ignore_bits (2 ^ 16)) [
        | inl t ↦ rw t.0 (let le = bucket-le n (bit_and m upper_48) in omega arith)
        | inr g ↦ rw g.0 (elim (lt_tells x.entry.ignore_bits (2 ^ 40)) [
          | inl t ↦ rw t.0 (let le = bucket-le n (bit_and m upper_24) in omega arith)
          | inr h ↦ rw h.0 (omega arith)
        ])
      ])
    ]

-- ---- one of four
is-first : (t a b c d : ℕ) → t ≡ a → is_one t a b c d ≡ true
is-first t a b c d e = let q = eq-eqb t a e in rw q refl

is-second : (t a b c d : ℕ) → t ≡ b → is_one t a b c d ≡ true
is-second t a b c d e = let q = eq-eqb t b e in rw q (elim (nat_eq t a) as (λ z. ((z || true) || (nat_eq t c || nat_eq t d)) ≡ true)
    [ true ↦ refl | false ↦ refl ])

or-true : (z : Bool) → (z || true) ≡ true
or-true true = refl
or-true false = refl

is-third : (t a b c d : ℕ) → t ≡ c → is_one t a b c d ≡ true
is-third t a b c d e = let q = eq-eqb t c e in rw q (or-true (nat_eq t a || nat_eq t b))

is-fourth : (t a b c d : ℕ) → t ≡ d → is_one t a b c d ≡ true
is-fourth t a b c d e = let q = eq-eqb t d e in rw q (ap (λ z. (nat_eq t a || nat_eq t b) || z) (or-true (nat_eq t c))
    ∙ or-true (nat_eq t a || nat_eq t b))

-- an entry that takes a message is on one of the threads of its match bits
pub thread-takes : (limit : ℕ) (h : Header) (x : Linked) → fits h x ≡ true → may_take limit h.match_bits x ≡ true
thread-takes limit h x f =
    let n = buckets_of limit in
    let m = x.entry.match_bits in
    let ignored = x.entry.ignore_bits in
    let t = thread_of limit x in
    let whole = whole_thread limit h.match_bits in
    let by_48 = upper_48_thread limit h.match_bits in
    let by_24 = upper_24_thread limit h.match_bits in
    let last = last_thread limit in
    let matched : is_match x.entry h ≡ true = (and_parts (is_match x.entry h) _ f).0 in
    let bits : bits_match ignored h.match_bits m ≡ true = (and_parts (bits_match ignored h.match_bits m) _ matched).0 in
    elim (eqb_tells ignored 0) [
      | inl z ↦
          let same = match-same h.match_bits m (subst (λ i. bits_match i h.match_bits m ≡ true) z.1 bits) in
          let at : t ≡ whole = ap (λ b. cond b (whole_thread limit m)
          (cond (nat_lt ignored (2 ^ 16)) (upper_48_thread limit m)
          (cond (nat_lt ignored (2 ^ 40)) (upper_24_thread limit m) last))) z.0
          ∙ sym (bucket-same n h.match_bits m same) in
          is-first t whole by_48 by_24 last at
      | inr p ↦ elim (lt_tells ignored (2 ^ 16)) [
        | inl z ↦
            let same = masked-same upper_48 ignored h.match_bits m (seen_48 ignored z.1) bits in
            let at : t ≡ by_48 = rw (p.0, z.0) (ap (λ k. n + bucket_of n k) (sym same)) in
            is-second t whole by_48 by_24 last at
        | inr q ↦ elim (lt_tells ignored (2 ^ 40)) [
          | inl z ↦
              let same = masked-same upper_24 ignored h.match_bits m (seen_24 ignored z.1) bits in
              let at : t ≡ by_24 = rw (p.0, q.0, z.0) (ap (λ k. 2 * n + bucket_of n k) (sym same)) in
              is-third t whole by_48 by_24 last at
          | inr z ↦
              let at : t ≡ last = rw (p.0, q.0, z.0) refl in
              is-fourth t whole by_48 by_24 last at
        ]
      ]
    ]

abbrev pub num : Bool → ℕ
num b = cond b 1 0

-- of four that differ it is at most one
one-of-four : (t a b c d : ℕ) → a < b → b < c → c < d → num (nat_eq t a) + num (nat_eq t b) + (num (nat_eq t c) + num (nat_eq t d)) ≤ num
    (is_one t a b c d)
one-of-four t a b c d ab bc cd = elim (eqb_tells t a) [
  | inl e ↦
      let nb = ne_eqb t b (λ s. omega (arith, e.1)) in
      let nc = ne_eqb t c (λ s. omega (arith, e.1)) in
      let nd = ne_eqb t d (λ s. omega (arith, e.1)) in rw (e.0, nb, nc, nd) (omega arith)
  | inr e ↦ elim (eqb_tells t b) [
    | inl f ↦
        let nc = ne_eqb t c (λ s. omega (arith, f.1)) in
        let nd = ne_eqb t d (λ s. omega (arith, f.1)) in rw (e.0, f.0, nc, nd) (omega arith)
    | inr f ↦ elim (eqb_tells t c) [
      | inl g ↦ let nd = ne_eqb t d (λ s. omega (arith, g.1)) in rw (e.0, f.0, g.0, nd) (omega arith)
      | inr g ↦ elim (eqb_tells t d) [ inl i ↦ rw (e.0, f.0, g.0, i.0) (omega arith) | inr i ↦ rw (e.0, f.0, g.0, i.0) (omega arith) ]
    ]
  ]
]

pub thread-counts : (limit bits : ℕ) (x : Linked)
    → num (nat_eq (thread_of limit x) (whole_thread limit bits)) + num (nat_eq (thread_of limit x) (upper_48_thread limit bits))
    + (num (nat_eq (thread_of limit x) (upper_24_thread limit bits)) + num (nat_eq (thread_of limit x) (last_thread limit))) ≤ num
    (may_take limit bits x)
thread-counts limit bits x =
    let n = buckets_of limit in
    let some : 0 < n = omega arith in
    let first = bucket-lt n bits some in
    let second = bucket-lt n (bit_and bits upper_48) some in
    let third = bucket-lt n (bit_and bits upper_24) some in
    one-of-four (thread_of limit x) (whole_thread limit bits) (upper_48_thread limit bits) (upper_24_thread limit bits) (last_thread limit)
    (omega (arith, first)) (omega (arith, second)) (omega (arith, third))
