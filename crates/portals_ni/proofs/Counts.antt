-- Which counting events a change leaves as they are.
use Rattle.std.proofs.Common.{◌≡◌, ℕ, true, false, List, [], ◌∷◌, ◌++◌, Option, Some, None, Result, Ok, Err, is_some, not, filter}
use Rattle.std.proofs.Common.{if◌then◌else◌, refl, ◌∙◌, arith}
use Rattle.std.specs.Prelude.{OnOk, OnErr, option_map}
use Rattle.std.proofs.lemmas.Bool.Decides.{nat_tests}
use Rattle.ptl_types.specs.declared.handles.Handle.{Handle}
use Rattle.ptl_types.specs.declared.handles.Count.{Count}
use Rattle.ptl_types.specs.declared.calls.NiFault.{NiFault}
use Rattle.ptl_types.specs.declared.calls.NiFault.TheVariants.{Stale, CountFull}
use Rattle.ptl_types.specs.Handles.{same_handle}
use Rattle.ni_model.specs.Counts.{passes_end}
use Rattle.ni_model.specs.Append.{need}
use Rattle.ni_model.specs.Refusals.{ct_set_fault}
use Rattle.ni_objects.proofs.handles.StoreLemmas.{change-absent}
use Rattle.initiator_engine.specs.Initiators.{by_fault}
use Rattle.ni_model.specs.declared.IndexedHeader.{IndexedHeader}
use Rattle.ni_model.specs.Tables.{Live, Table, lookup, change, changed, is_live, names, with_new}
use Rattle.ni_model.specs.Counts.{successes, bump, counted}
use Rattle.ni_model.specs.Append.{each_counted}

-- ---- handles

pub same-apart : (x h k : Handle) → same_handle x k ≡ true → same_handle h k ≡ false → same_handle x h ≡ false
same-apart x h k there apart = grind (arith, nat_tests)

same-too : (x k h : Handle) → same_handle k h ≡ true → same_handle x h ≡ false → same_handle x k ≡ false
same-too x k h same apart = grind (arith, nat_tests)

-- ---- a thing that is changed stays live, and the others stay as they are

module _ {A : Type 0} where
  pub live-change : (k h : Handle) (f : A → A) (xs : List (Live A)) → is_some (lookup k (change h f xs)) ≡ is_some (lookup k xs)
  live-change k h f [] = refl
  live-change k h f (x ∷ xs) =
      elim (same_handle x.handle k) as (λ b. is_some (if b then Some (if same_handle x.handle h then f x.value else x.value) else lookup k
      (change h f xs)) ≡ is_some (if b then Some x.value else lookup k xs)) [
        | true ↦ refl
        | false ↦ live-change k h f xs
      ]

  pub lookup-change : (k h : Handle) (f : A → A) (xs : List (Live A)) → same_handle h k ≡ false → lookup k (change h f xs) ≡ lookup k xs
  lookup-change k h f [] apart = refl
  lookup-change k h f (x ∷ xs) apart = grind (arith, same-apart x.handle h k, lookup-change k h f xs apart)

  pub lookup-changed : (h : Handle) (f : A → A) (xs : List (Live A)) → lookup h (change h f xs) ≡ option_map f (lookup h xs)
  lookup-changed h f [] = refl
  lookup-changed h f (x ∷ xs) =
      elim (same_handle x.handle h) as (λ b. (if b then Some (if b then f x.value else x.value) else lookup h (change h f xs))
      ≡ option_map f (if b then Some x.value else lookup h xs)) [
        | true ↦ refl
        | false ↦ lookup-changed h f xs
      ]

  pub lookup-push : (k : Handle) (x : Live A) (xs : List (Live A)) → is_some (lookup k xs) ≡ true → lookup k (xs ++ x ∷ []) ≡ lookup k xs
  lookup-push k x [] live = cc
  lookup-push k x (y ∷ ys) live =
      elim (same_handle y.handle k) as (λ b. is_some (if b then Some y.value else lookup k ys) ≡ true →
      (if b then Some y.value else lookup k (ys ++ x ∷ [])) ≡ (if b then Some y.value else lookup k ys)) [
        | true ↦ λ is. refl
        | false ↦ λ is. lookup-push k x ys is
      ] live

  pub lookup-without : (k h : Handle) (xs : List (Live A)) → same_handle k h ≡ false →
      lookup k (filter (λ (x : Live A). not (same_handle x.handle h)) xs) ≡ lookup k xs
  lookup-without k h [] apart = refl
  lookup-without k h (x ∷ xs) apart = grind (arith, same-apart x.handle k h, lookup-without k h xs apart)

  pub lookup-gone : (k h : Handle) (xs : List (Live A)) → same_handle k h ≡ true →
      lookup k (filter (λ (x : Live A). not (same_handle x.handle h)) xs) ≡ None
  lookup-gone k h [] same = refl
  lookup-gone k h (x ∷ xs) same = grind (arith, same-too x.handle k h, lookup-gone k h xs same)

  pub live-push : (k : Handle) (x : Live A) (xs : List (Live A)) → is_some (lookup k xs) ≡ true → is_some (lookup k (xs ++ x ∷ [])) ≡ true
  live-push k x xs live = rw (lookup-push k x xs live) live

  -- a change that changes nothing
  pub change-same : (h : Handle) (xs : List (Live A)) → change h (λ x. x) xs ≡ xs
  change-same h [] = refl
  change-same h (x ∷ xs) =
      rw (change-same h xs)
      (elim (same_handle x.handle h) as (λ b. (record { handle = x.handle; value = if b then x.value else x.value }) ∷ xs ≡ x ∷ xs)
      [ true ↦ refl | false ↦ refl ])

-- a counting event holds what it is set to, where the sum fits
dead : (o : Option Count) (fault : NiFault) → Err fault ≡ by_fault (need (is_some o) Stale (need true CountFull None)) → o ≡ None
dead None fault e = refl
dead (Some c) fault e = cc

pub set-whole : (res : Result (Unit {0}) NiFault) (ct : Handle) (to : Count) (cts new : Table Count) →
    res ≡ by_fault (ct_set_fault ct to cts) → passes_end to ≡ false → OnOk res (new ≡ changed ct (λ (c : Count). to) cts) →
    OnErr res (new ≡ cts) → new ≡ changed ct (λ (c : Count). to) cts
set-whole (Ok x) ct to cts new is fits ok err = ok
set-whole (Err fault) ct to cts new is fits ok err =
    let none : lookup ct cts.live ≡ None = dead (lookup ct cts.live) fault (is ∙ rw fits refl) in
    err ∙ rw (change-absent (λ (c : Count). to) ct cts.live none) refl

-- every counting event but the one named is as it was, and all that were live are
pub record ChangesAt (ct : Option Handle) (old new : Table Count) : Type 0 where
  pub others : (k : Handle) → names ct k ≡ false → is_live k old ≡ true → lookup k new.live ≡ lookup k old.live
  pub live : (k : Handle) → is_live k old ≡ true → is_live k new ≡ true

pub changes-none : (ct : Option Handle) (cts : Table Count) → ChangesAt ct cts cts
changes-none ct cts = record { others = λ k apart is. refl; live = λ k is. is }

pub changes-one : (h : Handle) (f : Count → Count) (cts : Table Count) → ChangesAt (Some h) cts (changed h f cts)
changes-one h f cts = record { others = λ k apart is. lookup-change k h f cts.live apart; live = λ k is. live-change k h f cts.live ∙ is }

pub changes-counted : (ct : Option Handle) (by : Count) (cts : Table Count) → ChangesAt ct cts (counted ct by cts)
changes-counted None by cts = changes-none None cts
changes-counted (Some h) by cts = changes-one h (bump by) cts

pub changes-twice : (ct : Option Handle) (a b c : Table Count) → ChangesAt ct a b → ChangesAt ct b c → ChangesAt ct a c
changes-twice ct a b c p q = record {
  others = λ k apart is. q.others k apart (p.live k is) ∙ p.others k apart is;
  live = λ k is. q.live k (p.live k is);
}

pub changes-each : (ct : Option Handle) (found : List IndexedHeader) (cts : Table Count) → ChangesAt ct cts (each_counted ct found cts)
changes-each ct [] cts = changes-none ct cts
changes-each ct (a ∷ found) cts = changes-twice ct cts (counted ct (successes 1) cts) _ (changes-counted ct (successes 1) cts)
    (changes-each ct found (counted ct (successes 1) cts))

pub changes-new : (ct : Option Handle) (slot : ℕ) (w : Count) (cts : Table Count) → ChangesAt ct cts (with_new slot w cts)
changes-new ct slot w cts = record {
  others = λ k apart is. lookup-push k _ cts.live is;
  live = λ k is. live-push k _ cts.live is;
}
