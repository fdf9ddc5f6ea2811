-- Lines that lead on, one after the other, and tests that pass.
use Rattle.std.proofs.Common.{◌≡◌, ℕ, zero, suc, ◌+◌, ◌<◌, ◌≤◌, List, [], ◌∷◌, ◌++◌, length, take, get_or, Some, None, Bool, true, false}
use Rattle.std.proofs.Common.{cond, refl, sym, ap, ◌∙◌, arith, subst}
use Rattle.std.specs.Prelude.{nat_lt, nat_le}
use Rattle.std.specs.List.{flat_map, position, position_or_len}
use Rattle.std.specs.Str.{bytes_eq}
use Rattle.std.proofs.lemmas.Bool.Decides.{nat_tests}
use Rattle.std.proofs.lemmas.List.{take_more}
use Rattle.std.proofs.lemmas.List.Sums.{position_or_len_is}
use Rattle.std.proofs.lemmas.Slice.Eq.{bytes_eq-Decides}
use Rattle.coll_lang.specs.Language.{Past}
use Rattle.coll_lang.specs.declared.stage.Stage.{Stage}
use Rattle.coll_lang.proofs.Leading.{Leads, then, Wider}

-- the same at another stage
abbrev pub at : Stage → Past → Past
at s p = record p { stage = s }

-- what lines lead to, at some stage that allows so much
pub record Led (past : Past) (bytes : List ℕ) (next : Past) (wide : Stage) : Type 0 where
  pub stage : Stage
  pub wider : Wider stage wide
  pub leads : Leads past (at stage next) bytes

pub led_none : (s : Stage) (p : Past) (wide : Stage) → Wider s wide → Led (at s p) [] p wide
led_none s p wide wider = record { stage = s; wider = wider; leads = λ final rest h k. h k }

-- lines that lead on to what other lines lead from, whatever the stage
pub lead_then : (past : Past) (x y : List ℕ) (mid next : Past) (wide : Stage) → Led past x mid wide
    → ((s : Stage) → Wider s wide → Leads (at s mid) next y)
    → Leads past next (x ++ y)
lead_then past x y mid next wide l f = then past (at l.stage mid) next x y l.leads (f l.stage l.wider)

-- the texts of so many things, from number k on
abbrev pub texts : (ℕ → List ℕ) → ℕ → ℕ → List ℕ
texts item k zero = []
texts item k (suc m) = item k ++ texts item (suc k) m

-- each leads from what is said before it to what is said after it
pub each_leads : (st : ℕ → Past) (item : ℕ → List ℕ) (wide : Stage) (n : ℕ)
    → ((i : ℕ) → i < n → (s : Stage) → Wider s wide → Leads (at s (st i)) (at wide (st (suc i))) (item i))
    → (k m : ℕ) → k + m ≡ n → (s : Stage) → Wider s wide → Led (at s (st k)) (texts item k m) (st n) wide
each_leads st item wide n h k zero e s w =
    subst (λ v. Led (at s (st k)) [] (st v) wide) (let z : k ≡ n = omega (arith, e) in z) (led_none s (st k) wide w)
each_leads st item wide n h k (suc m) e s w =
    let rest = each_leads st item wide n h (suc k) m (omega (arith, e)) wide (λ form x. x) in
    record {
      stage = rest.stage;
      wider = rest.wider;
      leads = then (at s (st k)) (at wide (st (suc k))) (at rest.stage (st n)) (item k) (texts item (suc k) m)
          (h k (omega (arith, e)) s w) rest.leads;
    }

texts-shift : (item other : ℕ → List ℕ) (k m : ℕ) → ((i : ℕ) → item (suc i) ≡ other i) → texts item (suc k) m ≡ texts other k m
texts-shift item other k zero h = refl
texts-shift item other k (suc m) h =
    ap (λ (x : List ℕ). x ++ texts item (suc (suc k)) m) (h k) ∙ ap (λ (x : List ℕ). other k ++ x) (texts-shift item other (suc k) m h)

pub texts-list : {X : Type 0} (f : X → List ℕ) (xs : List X) (d : X) → flat_map f xs ≡ texts (λ i. f (get_or xs i d)) 0 (length xs)
texts-list f [] d = refl
texts-list f (x ∷ xs) d =
    ap (λ (y : List ℕ). f x ++ y)
    (texts-list f xs d ∙ sym (texts-shift (λ i. f (get_or (x ∷ xs) i d)) (λ i. f (get_or xs i d)) 0 (length xs) (λ i. refl)))

-- ---- tests
pub isnt_above : (n most : ℕ) → n ≤ most → nat_lt most n ≡ false
isnt_above n most le = grind (arith, nat_tests)

pub isnt_full : (n most : ℕ) → n < most → nat_le most n ≡ false
isnt_full n most lt = grind (arith, nat_tests)

pub is_below : (n m : ℕ) → n < m → nat_lt n m ≡ true
is_below n m lt = grind (arith, nat_tests)

pub same_below : (n : ℕ) → nat_lt n n ≡ false
same_below n = grind (arith, nat_tests)

differ : (x y : List ℕ) → (x ≡ y → ⊥) → bytes_eq x y ≡ false
differ x y ne = go (bytes_eq x y) refl
  where
    go : (b : Bool) → bytes_eq x y ≡ b → b ≡ false
    go true e = absurd (ne ((bytes_eq-Decides x y).0 e))
    go false e = refl

same : (x : List ℕ) → bytes_eq x x ≡ true
same x = (bytes_eq-Decides x x).1 refl

-- ---- names
pub name_missing : {X : Type 0} (name_of : X → List ℕ) (xs : List X) (d : X) (name : List ℕ)
    → ((i : ℕ) → i < length xs → name_of (get_or xs i d) ≡ name → ⊥) → position (λ x. bytes_eq (name_of x) name) xs ≡ None
name_missing {X = X} name_of xs d name h =
    let p : X → Bool = λ x. bytes_eq (name_of x) name in
    let first : position_or_len p xs ≡ length xs =
    position_or_len_is p xs (length xs) d (omega arith) (λ k below. differ (name_of (get_or xs k d)) name (h k below))
    (λ lt. absurd (none (length xs) lt)) in
    ap (λ n. cond (nat_lt n (length xs)) (Some n) None) first ∙ ap (λ t. cond t (Some (length xs)) None) (same_below (length xs))
  where
    none : (n : ℕ) → n < n → ⊥
    none n lt = omega arith

pub name_found : {X : Type 0} (name_of : X → List ℕ) (xs : List X) (d : X) (i : ℕ) → i < length xs
    → ((k : ℕ) → k < i → name_of (get_or xs k d) ≡ name_of (get_or xs i d) → ⊥)
    → position (λ x. bytes_eq (name_of x) (name_of (get_or xs i d))) xs ≡ Some i
name_found {X = X} name_of xs d i lt h =
    let name = name_of (get_or xs i d) in
    let p : X → Bool = λ x. bytes_eq (name_of x) name in
    let first : position_or_len p xs ≡ i =
    position_or_len_is p xs i d (omega (arith, lt)) (λ k below. differ (name_of (get_or xs k d)) name (h k below)) (λ _. same name) in
    ap (λ n. cond (nat_lt n (length xs)) (Some n) None) first ∙ ap (λ t. cond t (Some i) None) (is_below i (length xs) lt)

-- the front of a list
pub take-next : {X : Type 0} (xs : List X) (i : ℕ) (d : X) → i < length xs → take (suc i) xs ≡ take i xs ++ get_or xs i d ∷ []
take-next xs i d l = ap (λ n. take n xs) (let e : suc i ≡ i + 1 = omega arith in e) ∙ take_more xs i d l
