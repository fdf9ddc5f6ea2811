-- What is ready and finds its lane open, lane by lane and one after the other.
use Rattle.std.proofs.Common.{◌≡◌, ◌<◌, ◌≤◌, ◌==◌, ℕ, zero, suc, ◌+◌, ◌-◌, Bool, true, false, not, ◌&&◌, List, [], ◌∷◌, Option, Some, None}
use Rattle.std.proofs.Common.{IsSome, length, filter, drop, nat_lt, get_or, if◌then◌else◌, refl, ap, ap₂, ◌∙◌, sym, subst, arith, add-zero}
use Rattle.std.specs.Prelude.{slice_get}
use Rattle.std.proofs.lemmas.Bool.Decides.{nat_tests}
use Rattle.std.proofs.lemmas.List.{drop_more}
use Rattle.std.proofs.lemmas.Option.{get_or_from_slice_get, slice_get_within}
use Rattle.ptl_types.specs.declared.handles.Count.{Count}
use Rattle.ni_model.specs.Ready.{is_rank, is_ready, is_ready_op, posted_at, ready_numbers}
use Rattle.ni_model.specs.State.{Posted, State}
use Rattle.ni_model.specs.Tables.{Table}
use Rattle.rank_node.specs.Gates.{goes_out}
use Rattle.rank_node.proofs.Shut.{none-shut, shut_in}

-- ---- the lanes one after the other

-- it isn't for a rank below k whose lane is closed
abbrev pub open_below : List Bool → ℕ → Option ℕ → Bool
open_below closed k None = true
open_below closed k (Some d) = not (nat_lt d k && get_or closed d false)

-- those of a list of operations
abbrev pub below_of : List Bool → ℕ → (ℕ → Option ℕ) → List ℕ → List ℕ
below_of closed k target xs = filter (λ t. open_below closed k (target t)) xs

filter-same : (p q : ℕ → Bool) (xs : List ℕ) → ((x : ℕ) → p x ≡ q x) → filter p xs ≡ filter q xs
filter-same p q [] e = refl
filter-same p q (x ∷ xs) e = ap₂ (λ b ys. if b then x ∷ ys else ys) (e x) (filter-same p q xs e)

filter-all : (p : ℕ → Bool) (xs : List ℕ) → ((x : ℕ) → p x ≡ true) → filter p xs ≡ xs
filter-all p [] e = refl
filter-all p (x ∷ xs) e = ap₂ (λ b ys. if b then x ∷ ys else ys) (e x) (filter-all p xs e)

-- before the first
below-none : (closed : List Bool) (o : Option ℕ) → open_below closed 0 o ≡ true
below-none closed None = refl
below-none closed (Some d) = let e : nat_lt d 0 ≡ false = grind (arith, nat_tests) in ap (λ b. not (b && get_or closed d false)) e

pub start-all : (closed : List Bool) (target : ℕ → Option ℕ) (xs : List ℕ) → below_of closed 0 target xs ≡ xs
start-all closed target xs = filter-all _ xs (λ x. below-none closed (target x))

-- after the last
order : (d k : ℕ) → nat_lt d k ≡ true → d < k
order d k e = grind (arith, nat_tests)

past : (d k : ℕ) → nat_lt d k ≡ false → k ≤ d
past d k e = grind (arith, nat_tests)

get-past : (closed : List Bool) (d : ℕ) → length closed ≤ d → get_or closed d false ≡ false
get-past [] d le = refl
get-past (b ∷ closed) zero le = absurd (omega arith)
get-past (b ∷ closed) (suc d) le = get-past closed d (omega arith)

below-last : (closed : List Bool) (o : Option ℕ) → open_below closed (length closed) o ≡ goes_out closed o
below-last closed None = refl
below-last closed (Some d) =
    elim (nat_lt d (length closed)) as (λ b. nat_lt d (length closed) ≡ b →
    not (b && get_or closed d false) ≡ not (get_or closed d false)) [
      | true ↦ λ e. refl
      | false ↦ λ e. ap not (sym (get-past closed d (past d (length closed) e)))
    ] refl

pub end-all : (closed : List Bool) (target : ℕ → Option ℕ) (xs : List ℕ) → below_of closed (length closed) target xs ≡ filter
    (λ t. goes_out closed (target t)) xs
end-all closed target xs = filter-same _ _ xs (λ x. below-last closed (target x))

-- one lane more that is open
nat_lt-suc : (d k : ℕ) → (d == k) ≡ false → nat_lt d (k + 1) ≡ nat_lt d k
nat_lt-suc d k e = grind (arith, nat_tests)

nat_lt-self : (d k : ℕ) → (d == k) ≡ true → nat_lt d k ≡ false
nat_lt-self d k e = grind (arith, nat_tests)

nat_lt-next : (d k : ℕ) → (d == k) ≡ true → nat_lt d (k + 1) ≡ true
nat_lt-next d k e = grind (arith, nat_tests)

is-equal : (d k : ℕ) → (d == k) ≡ true → d ≡ k
is-equal d k e = grind (arith, nat_tests)

and-false : (b : Bool) → (b && false) ≡ false
and-false true = refl
and-false false = refl

below-open : (closed : List Bool) (k : ℕ) (o : Option ℕ) → get_or closed k false ≡ false →
    open_below closed k o ≡ open_below closed (k + 1) o
below-open closed k None free = refl
below-open closed k (Some d) free =
    elim (d == k) as (λ b. (d == k) ≡ b → open_below closed k (Some d) ≡ open_below closed (k + 1) (Some d)) [
      | true ↦ λ e.
          let here : get_or closed d false ≡ false = ap (λ n. get_or closed n false) (is-equal d k e) ∙ free in
          ap (λ b. not (nat_lt d k && b)) here ∙ ap not (and-false (nat_lt d k)) ∙ sym (ap not (and-false (nat_lt d (k + 1))))
          ∙ sym (ap (λ b. not (nat_lt d (k + 1) && b)) here)
      | false ↦ λ e. ap (λ b. not (b && get_or closed d false)) (sym (nat_lt-suc d k e))
    ] refl

pub turn-open : (closed : List Bool) (k : ℕ) (target : ℕ → Option ℕ) (xs : List ℕ) → get_or closed k false ≡ false →
    below_of closed k target xs ≡ below_of closed (k + 1) target xs
turn-open closed k target xs free = filter-same _ _ xs (λ x. below-open closed k (target x) free)

-- one that is closed
record Splits (a b c : Bool) : Type 0 where
  pub sum : (n m l : ℕ) → n ≡ m + l → (if a then suc n else n) ≡ (if b then suc m else m) + (if c then suc l else l)

below-closed : (closed : List Bool) (k : ℕ) (o : Option ℕ) → get_or closed k false ≡ true →
    Splits (open_below closed k o) (open_below closed (k + 1) o) (is_rank k o)
below-closed closed k None shut = record { sum = λ n m l e. omega arith }
below-closed closed k (Some d) shut =
    elim (d == k) as (λ b. (d == k) ≡ b → Splits (open_below closed k (Some d)) (open_below closed (k + 1) (Some d)) b) [
      | true ↦ λ e.
          let here : get_or closed d false ≡ true = ap (λ n. get_or closed n false) (is-equal d k e) ∙ shut in
          rw (nat_lt-self d k e, nat_lt-next d k e, here) (record { sum = λ n m l q. omega arith })
      | false ↦ λ e. rw (nat_lt-suc d k e) (at (not (nat_lt d k && get_or closed d false)))
    ] refl
  where
    at : (b : Bool) → Splits b b false
    at true = record { sum = λ n m l e. omega arith }
    at false = record { sum = λ n m l e. omega arith }

length-if : (b : Bool) (x : ℕ) (ys : List ℕ) → length (if b then x ∷ ys else ys) ≡ (if b then suc (length ys) else length ys)
length-if true x ys = refl
length-if false x ys = refl

pub turn-closed : (closed : List Bool) (k : ℕ) (target : ℕ → Option ℕ) (xs : List ℕ) → get_or closed k false ≡ true →
    length (below_of closed k target xs) ≡ length (below_of closed (k + 1) target xs) + length (filter (λ t. is_rank k (target t)) xs)
turn-closed closed k target [] shut = refl
turn-closed closed k target (x ∷ xs) shut =
    length-if (open_below closed k (target x)) x (below_of closed k target xs)
    ∙ (below-closed closed k (target x) shut).sum (length (below_of closed k target xs)) (length (below_of closed (k + 1) target xs))
    (length (filter (λ t. is_rank k (target t)) xs)) (turn-closed closed k target xs shut)
    ∙ ap₂ (λ a b. a + b) (sym (length-if (open_below closed (k + 1) (target x)) x (below_of closed (k + 1) target xs)))
    (sym (length-if (is_rank k (target x)) x (filter (λ t. is_rank k (target t)) xs)))

-- either
pub turn-lane : (closed : List Bool) (k : ℕ) (target : ℕ → Option ℕ) (xs : List ℕ) →
    length (below_of closed k target xs) ≡ length (below_of closed (k + 1) target xs)
    + (if get_or closed k false then length (filter (λ t. is_rank k (target t)) xs) else 0)
turn-lane closed k target xs =
    elim (get_or closed k false) as (λ b. get_or closed k false ≡ b →
    length (below_of closed k target xs) ≡ length (below_of closed (k + 1) target xs)
    + (if b then length (filter (λ t. is_rank k (target t)) xs) else 0)) [
      | true ↦ λ shut. turn-closed closed k target xs shut
      | false ↦ λ free. ap length (turn-open closed k target xs free) ∙ sym (add-zero (length (below_of closed (k + 1) target xs)))
    ] refl

-- no lane is closed, as it is told
pub is-none : (b : Bool) (n : ℕ) → b ≡ false → b ≡ nat_lt 0 n → n ≡ 0
is-none b n e told = let q : nat_lt 0 n ≡ false = sym told ∙ e in grind (arith, nat_tests)

-- where no lane is closed all are open
pub none-closed : (closed : List Bool) (target : ℕ → Option ℕ) (xs : List ℕ) → shut_in closed ≡ 0 →
    filter (λ t. goes_out closed (target t)) xs ≡ xs
none-closed closed target xs none = filter-all _ xs (λ x. at (target x))
  where
    at : (o : Option ℕ) → goes_out closed o ≡ true
    at None = refl
    at (Some d) = ap not (none-shut closed d none)

-- ---- the ready ones one after the other

-- what passes a filter passes its test
first-passes : (p : ℕ → Bool) (x : ℕ) (ys : List ℕ) → ((i y : ℕ) → slice_get ys i ≡ Some y → p y ≡ true) → (i y : ℕ) → p x ≡ true →
    slice_get (x ∷ ys) i ≡ Some y → p y ≡ true
first-passes p x ys rest zero y ok got = let same : x ≡ y = cc in ap p (sym same) ∙ ok
first-passes p x ys rest (suc i) y ok got = rest i y got

passes : (p : ℕ → Bool) (xs : List ℕ) (i y : ℕ) → slice_get (filter p xs) i ≡ Some y → p y ≡ true
passes p [] i y e = cc
passes p (x ∷ xs) i y e =
    elim (p x) as (λ b. p x ≡ b → slice_get (if b then x ∷ filter p xs else filter p xs) i ≡ Some y → p y ≡ true) [
      | true ↦ λ ok got. first-passes p x (filter p xs) (passes p xs) i y ok got
      | false ↦ λ fails got. passes p xs i y got
    ] refl e

waits : (cts : Table Count) (o : Option Posted) → is_ready_op cts o ≡ true → IsSome o
waits cts None e = absurd cc
waits cts (Some p) e = refl

-- so the operation at a position waits
pub ready-posted : (s : State) (i t : ℕ) → slice_get (ready_numbers s) i ≡ Some t → IsSome (posted_at t s.pending)
ready-posted s i t e = waits s.cts (posted_at t s.pending) (passes (is_ready s) _ i t e)

-- and an operation that is ready waits
pub is-posted : (s : State) (t : ℕ) → is_ready s t ≡ true → IsSome (posted_at t s.pending)
is-posted s t e = waits s.cts (posted_at t s.pending) e

-- what is still to look at, and how far the wanted one is
pub record IsAhead (p : ℕ → Bool) (xs : List ℕ) (i position rest : ℕ) : Type 0 where
  pub same : slice_get (filter p (drop position xs)) rest ≡ slice_get (filter p xs) i
  pub there : rest < length (filter p (drop position xs))

pub ahead-first : (p : ℕ → Bool) (xs : List ℕ) (i : ℕ) → i < length (filter p xs) → IsAhead p xs i 0 i
ahead-first p xs i lt = record { same = refl; there = lt }

front : (xs : List ℕ) (position t : ℕ) → slice_get xs position ≡ Some t → drop position xs ≡ t ∷ drop (position + 1) xs
front xs position t e =
    let lt = slice_get_within xs position t e in
    drop_more xs position t lt ∙ ap (λ y. y ∷ drop (position + 1) xs) (get_or_from_slice_get xs position t t e)

-- at a position where t stands
pub ahead-found : (p : ℕ → Bool) (xs : List ℕ) (i position rest t : ℕ) → slice_get xs position ≡ Some t → IsAhead p xs i position rest →
    p t ≡ true → rest ≡ 0 → slice_get (filter p xs) i ≡ Some t
ahead-found p xs i position rest t e a ok none =
    let same : slice_get (filter p (drop position xs)) 0 ≡ slice_get (filter p xs) i =
    subst (λ n. slice_get (filter p (drop position xs)) n ≡ slice_get (filter p xs) i) none a.same in
    let there : slice_get (if p t then t ∷ filter p (drop (position + 1) xs) else filter p (drop (position + 1) xs)) 0 ≡ slice_get
    (filter p xs) i = subst (λ ys. slice_get (filter p ys) 0 ≡ slice_get (filter p xs) i) (front xs position t e) same in
    sym (subst (λ b. slice_get (if b then t ∷ filter p (drop (position + 1) xs) else filter p (drop (position + 1) xs)) 0 ≡ slice_get
    (filter p xs) i) ok there)

pub ahead-next : (p : ℕ → Bool) (xs : List ℕ) (i position rest t : ℕ) → slice_get xs position ≡ Some t → IsAhead p xs i position rest →
    p t ≡ true → (rest ≡ 0 → ⊥) → IsAhead p xs i (position + 1) (rest - 1)
ahead-next p xs i position zero t e a ok some = absurd (some refl)
ahead-next p xs i position (suc rest) t e a ok some =
    let same : slice_get (if p t then t ∷ filter p (drop (position + 1) xs) else filter p (drop (position + 1) xs)) (suc rest) ≡ slice_get
    (filter p xs) i = subst (λ ys. slice_get (filter p ys) (suc rest) ≡ slice_get (filter p xs) i) (front xs position t e) a.same in
    let there : suc rest < length (if p t then t ∷ filter p (drop (position + 1) xs) else filter p (drop (position + 1) xs)) =
    subst (λ ys. suc rest < length (filter p ys)) (front xs position t e) a.there in
    let same2 : slice_get (t ∷ filter p (drop (position + 1) xs)) (suc rest) ≡ slice_get (filter p xs) i =
    subst (λ b. slice_get (if b then t ∷ filter p (drop (position + 1) xs) else filter p (drop (position + 1) xs)) (suc rest)
    ≡ slice_get (filter p xs) i) ok same in
    let there2 : suc rest < length (t ∷ filter p (drop (position + 1) xs)) =
    subst (λ b. suc rest < length (if b then t ∷ filter p (drop (position + 1) xs) else filter p (drop (position + 1) xs))) ok there
    in
    let one : suc rest - 1 ≡ rest = omega arith in
    subst (IsAhead p xs i (position + 1)) (sym one) (record { same = same2; there = omega arith })

pub ahead-passed : (p : ℕ → Bool) (xs : List ℕ) (i position rest t : ℕ) → slice_get xs position ≡ Some t → IsAhead p xs i position rest →
    p t ≡ false → IsAhead p xs i (position + 1) rest
ahead-passed p xs i position rest t e a fails =
    let same : slice_get (if p t then t ∷ filter p (drop (position + 1) xs) else filter p (drop (position + 1) xs)) rest ≡ slice_get
    (filter p xs) i = subst (λ ys. slice_get (filter p ys) rest ≡ slice_get (filter p xs) i) (front xs position t e) a.same in
    let there : rest < length (if p t then t ∷ filter p (drop (position + 1) xs) else filter p (drop (position + 1) xs)) =
    subst (λ ys. rest < length (filter p ys)) (front xs position t e) a.there in
    record {
      same = subst (λ b. slice_get (if b then t ∷ filter p (drop (position + 1) xs) else filter p (drop (position + 1) xs)) rest
          ≡ slice_get (filter p xs) i) fails same;
      there = subst (λ b. rest < length (if b then t ∷ filter p (drop (position + 1) xs) else filter p (drop (position + 1) xs))) fails
          there;
    }

drop-all : (xs : List ℕ) (n : ℕ) → length xs ≤ n → drop n xs ≡ []
drop-all [] zero le = refl
drop-all [] (suc n) le = refl
drop-all (x ∷ xs) zero le = absurd (omega arith)
drop-all (x ∷ xs) (suc n) le = drop-all xs n (omega arith)

-- after the last there is none
pub ahead-ends : (p : ℕ → Bool) (xs : List ℕ) (i position rest : ℕ) → length xs ≤ position → IsAhead p xs i position rest → ⊥
ahead-ends p xs i position rest le a = let there : rest < 0 = subst (λ ys. rest < length (filter p ys)) (drop-all xs position le) a.there
    in absurd (omega arith)
