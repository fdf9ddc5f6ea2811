-- A renaming that takes one handle more to that of the other run keeps handles apart.
use Rattle.std.proofs.Common.{◌⊎◌, inl, inr, ◌≡◌, ℕ, ◌==◌, ◌<◌, true, false, ◌&&◌, refl, ap, ap₂, sym, ◌∙◌, cond, arith}
use Rattle.std.proofs.lemmas.Bool.Decides.{nat_tests}
use Rattle.ptl_types.specs.declared.handles.Handle.{Handle}
use Rattle.ptl_types.specs.Handles.{same_handle, top}
use Rattle.log_words.specs.declared.call_fields.said.TheConstants.{NO_HANDLE}
use Rattle.log_answers.specs.declared.owed.Sort.{Sort}
use Rattle.log_answers.specs.declared.owed.Sort.TheVariants.{Counter, Queue, Descriptor, Entry}
use Rattle.slot_laws.specs.Renaming.{KeepsApart}
use Rattle.slot_laws.proofs.terms.Scenes.{AreRenamings, Renamings}
use Rattle.slot_laws.proofs.terms.Pairing.{exchanged, with_exchange, with_pair}
use Rattle.slot_laws.proofs.terms.Counting.{same_sort}

exchanged_same : (p q a b : ℕ) → (exchanged p q a == exchanged p q b) ≡ (a == b)
exchanged_same p q a b = grind (arith, nat_tests)

stamp_kept : (stamp p q : ℕ) (f : Handle → Handle) → KeepsApart f → (x : Handle) → (with_exchange stamp p q f x).stamp ≡ x.stamp
stamp_kept stamp p q f keeps x =
    elim (x.stamp == stamp) as (λ b. (cond b (record x { slot = exchanged p q x.slot }) (f x)).stamp ≡ x.stamp) [
      | true ↦ refl
      | false ↦ keeps.stamp x
    ]

stamps_apart : (a b : Handle) → (a.stamp == b.stamp) ≡ false → same_handle a b ≡ false
stamps_apart a b e = rw e refl

exchange_apart : (stamp p q : ℕ) (f : Handle → Handle) → KeepsApart f → KeepsApart (with_exchange stamp p q f)
exchange_apart stamp p q f keeps = record {
  stamp = stamp_kept stamp p q f keeps;
  same = λ a b. elim (a.stamp == stamp) as (λ c. (a.stamp == stamp) ≡ c →
      same_handle (cond c (record a { slot = exchanged p q a.slot }) (f a)) (with_exchange stamp p q f b) ≡ same_handle a b) [
        | true ↦ λ i. elim (b.stamp == stamp) as (λ c. (b.stamp == stamp) ≡ c →
            same_handle (record a { slot = exchanged p q a.slot }) (cond c (record b { slot = exchanged p q b.slot }) (f b))
            ≡ same_handle a b) [
              | true ↦ λ j. ap (λ c. (a.stamp == b.stamp) && c) (exchanged_same p q a.slot b.slot)
              | false ↦ λ j. let apart : (a.stamp == b.stamp) ≡ false = grind (arith, nat_tests) in
                  stamps_apart (record a { slot = exchanged p q a.slot }) (f b) (ap (λ n. a.stamp == n) (keeps.stamp b) ∙ apart)
                  ∙ sym (stamps_apart a b apart)
            ] refl
        | false ↦ λ i. elim (b.stamp == stamp) as (λ c. (b.stamp == stamp) ≡ c →
            same_handle (f a) (cond c (record b { slot = exchanged p q b.slot }) (f b)) ≡ same_handle a b) [
              | true ↦ λ j. let apart : (a.stamp == b.stamp) ≡ false = grind (arith, nat_tests) in
                  stamps_apart (f a) (record b { slot = exchanged p q b.slot }) (ap (λ n. n == b.stamp) (keeps.stamp a) ∙ apart)
                  ∙ sym (stamps_apart a b apart)
              | false ↦ λ j. keeps.same a b
            ] refl
      ] refl;
}

pair_apart : (rank : ℕ) (sort : Sort) (h h' : Handle) (g : Renamings) (k : ℕ) (s : Sort) → KeepsApart (g k s) →
    KeepsApart (with_pair rank sort h h' g k s)
pair_apart rank sort h h' g k s keeps =
    elim ((k == rank) && same_sort s sort) as (λ b. KeepsApart (cond b (with_exchange h.stamp h.slot h'.slot (g k s)) (g k s))) [
      | true ↦ exchange_apart h.stamp h.slot h'.slot (g k s) keeps
      | false ↦ keeps
    ]

exchange_none : (stamp p q : ℕ) (f : Handle → Handle) → stamp < top → f NO_HANDLE ≡ NO_HANDLE →
    with_exchange stamp p q f NO_HANDLE ≡ NO_HANDLE
exchange_none stamp p q f below none =
    let other : (top == stamp) ≡ false = grind (arith, nat_tests) in
    ap (λ b. cond b (record NO_HANDLE { slot = exchanged p q NO_HANDLE.slot }) (f NO_HANDLE)) other ∙ none

pair_none : (rank : ℕ) (sort : Sort) (h h' : Handle) (g : Renamings) (k : ℕ) (s : Sort) → h.stamp < top → g k s NO_HANDLE ≡ NO_HANDLE →
    with_pair rank sort h h' g k s NO_HANDLE ≡ NO_HANDLE
pair_none rank sort h h' g k s below none =
    elim ((k == rank) && same_sort s sort) as (λ b. (cond b (with_exchange h.stamp h.slot h'.slot (g k s)) (g k s)) NO_HANDLE ≡ NO_HANDLE) [
      | true ↦ exchange_none h.stamp h.slot h'.slot (g k s) below none
      | false ↦ none
    ]

pub pair_are : (rank : ℕ) (sort : Sort) (h h' : Handle) (g : Renamings) → h.stamp < top → AreRenamings g →
    AreRenamings (with_pair rank sort h h' g)
pair_are rank sort h h' g below are = record {
  apart = λ k. record {
    ct = pair_apart rank sort h h' g k Counter (are.apart k).ct;
    eq = pair_apart rank sort h h' g k Queue (are.apart k).eq;
    me = pair_apart rank sort h h' g k Entry (are.apart k).me;
    md = λ n. pair_apart rank sort h h' g n Descriptor ((are.apart k).md n);
  };
  none = λ k. record {
    ct = pair_none rank sort h h' g k Counter below (are.none k).ct;
    eq = pair_none rank sort h h' g k Queue below (are.none k).eq;
    me = pair_none rank sort h h' g k Entry below (are.none k).me;
    md = λ n. pair_none rank sort h h' g n Descriptor below ((are.none k).md n);
  };
}

same_sort-self : (s : Sort) → same_sort s s ≡ true
same_sort-self Counter = refl
same_sort-self Queue = refl
same_sort-self Descriptor = refl
same_sort-self Entry = refl

-- it takes the one to the other
pub pair_takes : (rank : ℕ) (sort : Sort) (h h' : Handle) (g : Renamings) → h'.stamp ≡ h.stamp → with_pair rank sort h h' g rank sort h ≡ h'
pair_takes rank sort h h' g same =
    let here : ((rank == rank) && same_sort sort sort) ≡ true = rw (same_sort-self sort) (grind (arith, nat_tests)) in
    let stamp : (h.stamp == h.stamp) ≡ true = grind (arith, nat_tests) in
    let slot : exchanged h.slot h'.slot h.slot ≡ h'.slot = grind (arith, nat_tests) in
    ap (λ b. (cond b (with_exchange h.stamp h.slot h'.slot (g rank sort)) (g rank sort)) h) here
    ∙ ap (λ b. cond b (record h { slot = exchanged h.slot h'.slot h.slot }) (g rank sort h)) stamp
    ∙ ap₂ (λ m n. record { slot = m; stamp = n }) slot (sym same)

-- and leaves those of another stamp
pub pair_leaves : (rank : ℕ) (sort : Sort) (h h' : Handle) (g : Renamings) (k : ℕ) (s : Sort) (x : Handle) →
    ((k == rank) && same_sort s sort) ≡ false ⊎ ((x.stamp == h.stamp) ≡ false) → with_pair rank sort h h' g k s x ≡ g k s x
pair_leaves rank sort h h' g k s x (inl other) =
    ap (λ b. (cond b (with_exchange h.stamp h.slot h'.slot (g k s)) (g k s)) x) other
pair_leaves rank sort h h' g k s x (inr other) =
    elim ((k == rank) && same_sort s sort) as (λ b. (cond b (with_exchange h.stamp h.slot h'.slot (g k s)) (g k s)) x ≡ g k s x) [
      | true ↦ ap (λ b. cond b (record x { slot = exchanged h.slot h'.slot x.slot }) (g k s x)) other
      | false ↦ refl
    ]

pub same_sort-true : (s t : Sort) → same_sort s t ≡ true → s ≡ t
same_sort-true Counter Counter e = refl
same_sort-true Counter Queue e = cc
same_sort-true Counter Descriptor e = cc
same_sort-true Counter Entry e = cc
same_sort-true Queue Counter e = cc
same_sort-true Queue Queue e = refl
same_sort-true Queue Descriptor e = cc
same_sort-true Queue Entry e = cc
same_sort-true Descriptor Counter e = cc
same_sort-true Descriptor Queue e = cc
same_sort-true Descriptor Descriptor e = refl
same_sort-true Descriptor Entry e = cc
same_sort-true Entry Counter e = cc
same_sort-true Entry Queue e = cc
same_sort-true Entry Descriptor e = cc
same_sort-true Entry Entry e = refl
