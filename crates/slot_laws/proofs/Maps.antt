-- Maps as lists of their entries by rising key: what stands at a key after one entry more or less, and under a map of the values.
use Rattle.std.proofs.Common.{◌≡◌, ℕ, Bool, true, false, ◌==◌, List, [], ◌∷◌, map, Option}
use Rattle.std.proofs.Common.{Some, None, option_map, cond, refl, ap, ◌∙◌, arith}
use Rattle.std.specs.declared.cmp.Ordering.{Ordering}
use Rattle.std.specs.declared.cmp.Ordering.TheVariants.{Less, Equal, Greater}
use Rattle.std.specs.Ordering.{match_ordering, nat_cmp, ordering_reverse, is_eq}
use Rattle.std.specs.BTreeMap.{insert_entry, is_at}
use Rattle.std.specs.Map.{keys_of, lookup, remove_entry}
use Rattle.std.specs.Cmp.{IsTotalOrder, eq_by_cmp_equiv}
use Rattle.std.specs.Cmp.Lexicographic.{slice_cmp}
use Rattle.std.specs.List.{AllByRecursion}
use Rattle.std.specs.List.Sorted.{IsStrictlySortedBy}
use Rattle.std.proofs.lemmas.Bool.Decides.{nat_tests}
use Rattle.std.proofs.lemmas.Cmp.{alike_right, nat_cmp_total, nat_list_cmp_total, tied_itself}
use Rattle.std.proofs.lemmas.Map.{lookup-remove_entry}
use Rattle.std.proofs.lemmas.Map.Keys.{IsDistinct-from_sorted}
use Rattle.std.proofs.lemmas.Map.Views.{tells_apart}
use Rattle.std.proofs.lemmas.Map.Lookups.{exact_bytes}
use Rattle.log_answers.specs.names.Keys.{Numbers, Words, at_number, at_word, number_lookup}
use Rattle.log_answers.specs.names.Keys.{with_number, with_word, without_number, without_word}
use Rattle.log_answers.specs.names.Keys.{word_lookup}

cond_twice : {A : Type 0} (b : Bool) (x y z : A) → cond b x z ≡ cond b x (cond b y z)
cond_twice true x y z = refl
cond_twice false x y z = refl

all_above : {K : Type 0} {R : K → K → Ordering} → IsTotalOrder R → (k e : K) (ks : List K) → R k e ≡ Less →
    AllByRecursion (λ y. R e y ≡ Less) ks → AllByRecursion (λ y. R k y ≡ Less) ks
all_above o k e [] less all = tt
all_above o k e (y ∷ ks) less all = (o.trans k e y less all.0, all_above o k e ks less all.1)

-- ---- one entry more, and one less, under any order

module _ {K X : Type 0} {R : K → K → Ordering} (o : IsTotalOrder R) where
  -- the list may be in any order
  pub lookup-insert_entry : (q k : K) (v : X) (es : List (K × X)) →
      lookup (is_at (R q)) (insert_entry R es k v) ≡ cond (is_at (R q) k) (Some v) (lookup (is_at (R q)) es)
  lookup-insert_entry q k v [] = refl
  lookup-insert_entry q k v (e ∷ es) = by_order (R k e.0) refl (lookup-insert_entry q k v es)
    where
      -- a key that is equal to both would make them equal
      later : (a b : Ordering) (l m : Option X) → R q k ≡ a → R q e.0 ≡ b → R k e.0 ≡ Greater → l ≡ cond (is_eq a) (Some v) m →
          cond (is_eq b) (Some e.1) l ≡ cond (is_eq a) (Some v) (cond (is_eq b) (Some e.1) m)
      later Equal Equal l m i j is more = let same : R q e.0 ≡ R k e.0 = o.congr q k e.0 i in cc
      later Equal Less l m i j is more = more
      later Equal Greater l m i j is more = more
      later Less b l m i j is more = ap (cond (is_eq b) (Some e.1)) more
      later Greater b l m i j is more = ap (cond (is_eq b) (Some e.1)) more

      by_order : (r : Ordering) → R k e.0 ≡ r →
          lookup (is_at (R q)) (insert_entry R es k v) ≡ cond (is_at (R q) k) (Some v) (lookup (is_at (R q)) es) →
          lookup (is_at (R q)) (match_ordering r ((k, v) ∷ e ∷ es) ((e.0, v) ∷ es) (e ∷ insert_entry R es k v))
          ≡ cond (is_at (R q) k) (Some v) (cond (is_at (R q) e.0) (Some e.1) (lookup (is_at (R q)) es))
      by_order Less is more = refl
      by_order Equal is more =
          rw (alike_right o k e.0 q is) (cond_twice (is_at (R q) e.0) (Some v) (Some e.1) (lookup (is_at (R q)) es))
      by_order Greater is more =
          later (R q k) (R q e.0) (lookup (is_at (R q)) (insert_entry R es k v)) (lookup (is_at (R q)) es) refl refl is more

  -- with a key twice, the second would be found once the first is gone
  pub lookup-removed : (q k : K) (es : List (K × X)) → IsStrictlySortedBy R (keys_of es) →
      lookup (is_at (R q)) (remove_entry (is_at (R k)) es) ≡ cond (is_at (R k) q) None (lookup (is_at (R q)) es)
  lookup-removed q k es rising =
      lookup-remove_entry (eq_by_cmp_equiv o) (is_at (R k)) ((eq_by_cmp_equiv o).congr k) q es
      (IsDistinct-from_sorted R (keys_of es) rising)

  all_inserted : (P : K → Type 0) (k : K) (v : X) (es : List (K × X)) → P k → AllByRecursion P (keys_of es) →
      AllByRecursion P (keys_of (insert_entry R es k v))
  all_inserted P k v [] here all = (here, tt)
  all_inserted P k v (e ∷ es) here all = by_order (R k e.0) (all_inserted P k v es here all.1)
    where
      by_order : (r : Ordering) → AllByRecursion P (keys_of (insert_entry R es k v)) →
          AllByRecursion P (keys_of (match_ordering r ((k, v) ∷ e ∷ es) ((e.0, v) ∷ es) (e ∷ insert_entry R es k v)))
      by_order Less more = (here, all)
      by_order Equal more = all
      by_order Greater more = (all.0, more)

  pub rising-insert_entry : (k : K) (v : X) (es : List (K × X)) → IsStrictlySortedBy R (keys_of es) →
      IsStrictlySortedBy R (keys_of (insert_entry R es k v))
  unfolding IsStrictlySortedBy
  rising-insert_entry k v [] rising = (tt, tt)
  rising-insert_entry k v (e ∷ es) rising = by_order (R k e.0) refl (rising-insert_entry k v es rising.1)
    where
      by_order : (r : Ordering) → R k e.0 ≡ r → IsStrictlySortedBy R (keys_of (insert_entry R es k v)) →
          IsStrictlySortedBy R (keys_of (match_ordering r ((k, v) ∷ e ∷ es) ((e.0, v) ∷ es) (e ∷ insert_entry R es k v)))
      by_order Less is more = ((is, all_above o k e.0 (keys_of es) is rising.0), rising)
      by_order Equal is more = rising
      by_order Greater is more = (all_inserted (λ y. R e.0 y ≡ Less) k v es (o.antisymm e.0 k ∙ ap ordering_reverse is) rising.0, more)

all_left : {K X : Type 0} (P : K → Type 0) (test : K → Bool) (es : List (K × X)) → AllByRecursion P (keys_of es) →
    AllByRecursion P (keys_of (remove_entry test es))
all_left P test [] all = tt
all_left P test (e ∷ es) all = by_test (test e.0) (all_left P test es all.1)
  where
    by_test : (b : Bool) → AllByRecursion P (keys_of (remove_entry test es)) →
        AllByRecursion P (keys_of (cond b es (e ∷ remove_entry test es)))
    by_test true more = all.1
    by_test false more = (all.0, more)

pub rising-remove_entry : {K X : Type 0} (R : K → K → Ordering) (test : K → Bool) (es : List (K × X)) → IsStrictlySortedBy R (keys_of es) →
    IsStrictlySortedBy R (keys_of (remove_entry test es))
unfolding IsStrictlySortedBy
rising-remove_entry R test [] rising = tt
rising-remove_entry R test (e ∷ es) rising = by_test (test e.0) (rising-remove_entry R test es rising.1)
  where
    by_test : (b : Bool) → IsStrictlySortedBy R (keys_of (remove_entry test es)) →
        IsStrictlySortedBy R (keys_of (cond b es (e ∷ remove_entry test es)))
    by_test true more = rising.1
    by_test false more = (all_left (λ y. R e.0 y ≡ Less) test es rising.0, more)

-- ---- keys that are numbers, and keys that are words

pub at_number_is : (a b : ℕ) → at_number a b ≡ (a == b)
at_number_is a b = grind (arith, nat_tests)

pub at_word-same : (w : List ℕ) → at_word w w ≡ true
at_word-same w = ap is_eq (tied_itself nat_list_cmp_total w)

pub at_word-true : (v w : List ℕ) → at_word v w ≡ true → v ≡ w
at_word-true v w e = tells_apart exact_bytes v w e

module _ {X : Type 0} where
  pub number_put : (q k : ℕ) (x : X) (ns : Numbers X) → number_lookup q (with_number k x ns) ≡ cond (q == k) (Some x) (number_lookup q ns)
  number_put q k x ns =
      lookup-insert_entry nat_cmp_total q k x ns ∙ ap (λ b. cond b (Some x) (number_lookup q ns)) (at_number_is q k)

  pub number_gone : (q k : ℕ) (ns : Numbers X) → IsStrictlySortedBy nat_cmp (keys_of ns) →
      number_lookup q (without_number k ns) ≡ cond (k == q) None (number_lookup q ns)
  number_gone q k ns rising =
      lookup-removed nat_cmp_total q k ns rising ∙ ap (λ b. cond b None (number_lookup q ns)) (at_number_is k q)

  pub word_put : (q w : List ℕ) (x : X) (ws : Words X) → word_lookup q (with_word w x ws) ≡ cond (at_word q w) (Some x) (word_lookup q ws)
  word_put q w x ws = lookup-insert_entry nat_list_cmp_total q w x ws

  pub word_gone : (q w : List ℕ) (ws : Words X) → IsStrictlySortedBy (slice_cmp nat_cmp) (keys_of ws) →
      word_lookup q (without_word w ws) ≡ cond (at_word w q) None (word_lookup q ws)
  word_gone q w ws rising = lookup-removed nat_list_cmp_total q w ws rising

-- ---- the same function of each value

-- the keys stay
abbrev pub mapped : {K X Y : Type 0} → (X → Y) → List (K × X) → List (K × Y)
mapped {K} {X} {Y} g es = map {B = K × Y} (λ (e : K × X). (e.0, g e.1)) es

module _ {K X Y : Type 0} (g : X → Y) where
  pub lookup-mapped : (test : K → Bool) (es : List (K × X)) → lookup test (mapped g es) ≡ option_map g (lookup test es)
  lookup-mapped test [] = refl
  lookup-mapped test (e ∷ es) = by_test (test e.0) (lookup-mapped test es)
    where
      by_test : (b : Bool) → lookup test (mapped g es) ≡ option_map g (lookup test es) →
          cond b (Some (g e.1)) (lookup test (mapped g es)) ≡ option_map g (cond b (Some e.1) (lookup test es))
      by_test true more = refl
      by_test false more = more

  pub remove_entry-mapped : (test : K → Bool) (es : List (K × X)) → remove_entry test (mapped g es) ≡ mapped g (remove_entry test es)
  remove_entry-mapped test [] = refl
  remove_entry-mapped test (e ∷ es) = by_test (test e.0) (remove_entry-mapped test es)
    where
      by_test : (b : Bool) → remove_entry test (mapped g es) ≡ mapped g (remove_entry test es) →
          cond b (mapped g es) ((e.0, g e.1) ∷ remove_entry test (mapped g es)) ≡ mapped g (cond b es (e ∷ remove_entry test es))
      by_test true more = refl
      by_test false more = ap (λ l. (e.0, g e.1) ∷ l) more

  pub insert_entry-mapped : (R : K → K → Ordering) (k : K) (v : X) (es : List (K × X)) →
      insert_entry R (mapped g es) k (g v) ≡ mapped g (insert_entry R es k v)
  insert_entry-mapped R k v [] = refl
  insert_entry-mapped R k v (e ∷ es) = by_order (R k e.0) (insert_entry-mapped R k v es)
    where
      by_order : (r : Ordering) → insert_entry R (mapped g es) k (g v) ≡ mapped g (insert_entry R es k v) →
          match_ordering r ((k, g v) ∷ (e.0, g e.1) ∷ mapped g es) ((e.0, g v) ∷ mapped g es)
          ((e.0, g e.1) ∷ insert_entry R (mapped g es) k (g v))
          ≡ mapped g (match_ordering r ((k, v) ∷ e ∷ es) ((e.0, v) ∷ es) (e ∷ insert_entry R es k v))
      by_order Less more = refl
      by_order Equal more = refl
      by_order Greater more = ap (λ l. (e.0, g e.1) ∷ l) more
