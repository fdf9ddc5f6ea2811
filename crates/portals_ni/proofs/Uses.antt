-- What pending operations name, as they come, go and are told.
use Rattle.std.proofs.Common.{◌≡◌, ℕ, ◌+◌, ◌*◌, ◌<◌, ◌≤◌, ◌^◌, ◌-◌, ◌==◌, Bool, true, false, not, ◌||◌, nat_lt, List, [], ◌∷◌, ◌++◌, Option}
use Rattle.std.proofs.Common.{Some, None, map, filter, find, length, replicate, if◌then◌else◌, refl, ap, sym, subst, ◌∙◌, arith}
use Rattle.std.specs.Prelude.{All, AllPairs, IfSome, sum_by, slice_get, option_map}
use Rattle.std.proofs.lemmas.Bool.Decides.{nat_tests}
use Rattle.std.proofs.lemmas.Option.{get_or_from_slice_get, slice_get_within}
use Rattle.std.proofs.lemmas.List.Elements.{All-head, All-tail}
use Rattle.std.proofs.lemmas.List.Filters.{length-filter_both}
use Rattle.std.proofs.lemmas.List.Kept.{AllPairs-filter}
use Rattle.std.proofs.lemmas.List.Sums.{sum_by-cons, sum_by-append}
use Rattle.ptl_types.specs.declared.handles.Handle.{Handle}
use Rattle.ptl_types.specs.declared.calls.TriggeredOp.{TriggeredOp}
use Rattle.ptl_types.specs.declared.calls.TriggeredOp.TheVariants.{Put, Get, Atomic, FetchAtomic, Swap, Inc, Set}
use Rattle.ptl_types.specs.Handles.{same_handle}
use Rattle.ni_model.specs.Tables.{names}
use Rattle.ni_model.specs.Refusals.{action_names_ct, action_names_md, operation_names_ct, operation_names_md}
use Rattle.triggered_ops.specs.Operations.{Operation, Operations, is_number, waits_on, waiting_on, cancelled, shown, action_of, told_if}
use Rattle.triggered_ops.specs.Operations.{told_where, without_number, operation_at, no_operations, posted, posted_all}
use Rattle.triggered_ops.proofs.Rising.{Rises, pairs-head, pairs-tail, length-filter_le}
use Rattle.triggered_ops.proofs.Found.{find-behind}
use Rattle.ni_objects.specs.users.Rows.{one_if_slot, one_at, count_at, incremented, decremented, more, fewer, Counts}
use Rattle.ni_objects.proofs.users.RowLemmas.{counts-same, counts-none, counts-incremented, counts-decremented, counts-more, counts-fewer}
use Rattle.ni_objects.proofs.users.RowLemmas.{counts-at_most, add-room, one-at_most, names-step}
use Rattle.portals_ni.specs.declared.posted_op.PostedOp.{PostedOp}
use Rattle.portals_ni.specs.Answers.{action_counter}
use Rattle.portals_ni.specs.Pendings.{action_in}
use Rattle.portals_ni.specs.Uses.{put_md, get_md, ct_uses, md_uses, AreUsed, cts_with, mds_with, cts_without, mds_without, CtsAlone}
use Rattle.portals_ni.specs.Uses.{MdsAlone}

abbrev Op : Type 0
Op = Operation PostedOp

-- ---- sums over operations

uses-mapped : (f : Op → ℕ) (g : Op → Op) (ws : List Op) → ((w : Op) → f (g w) ≡ f w) → sum_by f (map g ws) ≡ sum_by f ws
uses-mapped f g [] same = refl
uses-mapped f g (w ∷ ws) same = omega (arith, sum_by-cons f (g w) (map g ws), sum_by-cons f w ws, same w, uses-mapped f g ws same)

uses-push : (f : Op → ℕ) (ws : List Op) (w : Op) → sum_by f (ws ++ w ∷ []) ≡ sum_by f ws + f w
uses-push f ws w = omega (arith, sum_by-append f ws (w ∷ []), sum_by-cons f w [])

-- none has this number
none-without : (t : ℕ) (ws : List Op) → find (is_number t) ws ≡ None → filter (λ p. not (is_number t p)) ws ≡ ws
none-without t [] e = refl
none-without t (w ∷ ws) e =
    elim (w.number == t) as (λ b. (if b then Some w else find (is_number t) ws) ≡ None →
    (if not b then w ∷ filter (λ p. not (is_number t p)) ws else filter (λ p. not (is_number t p)) ws) ≡ w ∷ ws) [
      | true ↦ λ f. cc
      | false ↦ λ f. ap (λ (xs : List Op). w ∷ xs) (none-without t ws f)
    ] e

same-number : (a b : ℕ) → (a == b) ≡ true → a ≡ b
same-number a b e = grind (arith, nat_tests)

uses-without : (f : Op → ℕ) (t : ℕ) (ws : List Op) (w : Op) → AllPairs Rises ws → find (is_number t) ws ≡ Some w →
    sum_by f ws ≡ sum_by f (filter (λ p. not (is_number t p)) ws) + f w
uses-without f t [] w all e = cc
uses-without f t (x ∷ xs) w all e =
    let rest : List Op = filter (λ p. not (is_number t p)) xs in
    elim (x.number == t) as (λ b. (x.number == t) ≡ b → (if b then Some x else find (is_number t) xs) ≡ Some w →
    sum_by f (x ∷ xs) ≡ sum_by f (if not b then x ∷ rest else rest) + f w) [
      | true ↦ λ is g.
          let same : x ≡ w = cc in
          let gone : rest ≡ xs = none-without t xs (find-behind t x xs (same-number x.number t is) (pairs-head Rises x xs all)) in
          omega (arith, sum_by-cons f x xs, ap (sum_by f) gone, ap f same)
      | false ↦ λ is g. omega (arith, sum_by-cons f x xs, sum_by-cons f x rest, uses-without f t xs w (pairs-tail Rises x xs all) g)
    ] refl e

uses-at_most : (f : Op → ℕ) (ws : List Op) → ((w : Op) → f w ≤ 2) → sum_by f ws ≤ 2 * length ws
uses-at_most f [] at_most = omega arith
uses-at_most f (w ∷ ws) at_most = omega (arith, sum_by-cons f w ws, at_most w, uses-at_most f ws at_most)

-- ---- the rows

pub used-none : (limit a b : ℕ) → AreUsed (no_operations limit) (replicate a 0) (replicate b 0)
used-none limit a b = record {
  counters = counts-none (λ k. 0) a (λ k. refl);
  descriptors = counts-none (λ k. 0) b (λ k. refl);
}

pub used-told : (test : Op → Bool) (sum : ℕ) (ops : Operations PostedOp) (cts mds : List ℕ) → AreUsed ops cts mds →
    AreUsed (told_where test sum ops) cts mds
used-told test sum ops cts mds u = record {
  counters = counts-same (λ k. sum_by (ct_uses k) ops.waiting) (λ k. sum_by (ct_uses k) (map (told_if test sum) ops.waiting)) cts
      u.counters (λ k. uses-mapped (ct_uses k) (told_if test sum) ops.waiting (λ w. refl));
  descriptors = counts-same (λ k. sum_by (md_uses k) ops.waiting) (λ k. sum_by (md_uses k) (map (told_if test sum) ops.waiting)) mds
      u.descriptors (λ k. uses-mapped (md_uses k) (told_if test sum) ops.waiting (λ w. refl));
}

module _ (f g : ℕ → ℕ) (row : List ℕ) (c : Counts f row) where
  cts-come : (ct : Handle) (d : TriggeredOp) → ((k : ℕ) → g k ≡ f k + (one_if_slot ct.slot k + one_at (action_counter d) k)) →
      Counts g (cts_with ct d row)
  cts-come ct d up =
      let first = λ (k : ℕ). f k + one_if_slot ct.slot k in
      counts-more first g (incremented ct.slot row) (counts-incremented f first row c ct.slot (λ k. refl)) (action_counter d)
      (λ k. omega (arith, up k))

  cts-go : (ct : Handle) (d : TriggeredOp) → ((k : ℕ) → f k ≡ g k + (one_if_slot ct.slot k + one_at (action_counter d) k)) →
      Counts g (cts_without ct d row)
  cts-go ct d down =
      let first = λ (k : ℕ). g k + one_at (action_counter d) k in
      counts-fewer first g (decremented ct.slot row) (counts-decremented f first row c ct.slot (λ k. omega (arith, down k)))
      (action_counter d) (λ k. refl)

  mds-come : (d : TriggeredOp) → ((k : ℕ) → g k ≡ f k + (one_at (get_md d) k + one_at (put_md d) k)) → Counts g (mds_with d row)
  mds-come d up =
      let first = λ (k : ℕ). f k + one_at (get_md d) k in
      counts-more first g (more (get_md d) row) (counts-more f first row c (get_md d) (λ k. refl)) (put_md d) (λ k. omega (arith, up k))

  mds-go : (d : TriggeredOp) → ((k : ℕ) → f k ≡ g k + (one_at (get_md d) k + one_at (put_md d) k)) → Counts g (mds_without d row)
  mds-go d down =
      let first = λ (k : ℕ). g k + one_at (put_md d) k in
      counts-fewer first g (fewer (get_md d) row) (counts-fewer f first row c (get_md d) (λ k. omega (arith, down k))) (put_md d)
      (λ k. refl)

pub used-posted : (ops new : Operations PostedOp) (w : Op) (cts mds : List ℕ) → AreUsed ops cts mds →
    new.waiting ≡ ops.waiting ++ w ∷ [] → AreUsed new (cts_with w.ct w.action.action cts) (mds_with w.action.action mds)
used-posted ops new w cts mds u e = record {
  counters = cts-come (λ k. sum_by (ct_uses k) ops.waiting) (λ k. sum_by (ct_uses k) new.waiting) cts u.counters w.ct w.action.action
      (λ k. ap (sum_by (ct_uses k)) e ∙ uses-push (ct_uses k) ops.waiting w);
  descriptors = mds-come (λ k. sum_by (md_uses k) ops.waiting) (λ k. sum_by (md_uses k) new.waiting) mds u.descriptors w.action.action
      (λ k. ap (sum_by (md_uses k)) e ∙ uses-push (md_uses k) ops.waiting w);
}

pub used-taken : (ops : Operations PostedOp) (t : ℕ) (w : Op) (cts mds : List ℕ) → AreUsed ops cts mds → AllPairs Rises ops.waiting →
    operation_at t ops ≡ Some w → AreUsed (without_number t ops) (cts_without w.ct w.action.action cts) (mds_without w.action.action mds)
used-taken ops t w cts mds u all at = record {
  counters = cts-go (λ k. sum_by (ct_uses k) ops.waiting) (λ k. sum_by (ct_uses k) (without_number t ops).waiting) cts u.counters w.ct
      w.action.action (λ k. uses-without (ct_uses k) t ops.waiting w all at);
  descriptors = mds-go (λ k. sum_by (md_uses k) ops.waiting) (λ k. sum_by (md_uses k) (without_number t ops).waiting) mds u.descriptors
      w.action.action (λ k. uses-without (md_uses k) t ops.waiting w all at);
}

-- by what was shown of it, and the action that was taken
taken-op : (o : Option Op) (b a : PostedOp) (h : Handle) (th : ℕ) → option_map shown o ≡ Some (b, h, th) → option_map action_of o ≡ Some a →
    (w : Op) × (o ≡ Some w) × (w.ct ≡ h) × (w.action ≡ a)
taken-op None b a h th e f = cc
taken-op (Some w) b a h th e f =
    let same : shown w ≡ (b, h, th) = cc in
    let action : w.action ≡ a = cc in
    (w, refl, ap (λ (s : PostedOp × Handle × ℕ). s.1) same, action)

pub used-gone : (ops : Operations PostedOp) (t : ℕ) (b a : PostedOp) (h : Handle) (th : ℕ) (cts mds : List ℕ) → AreUsed ops cts mds →
    AllPairs Rises ops.waiting → option_map shown (operation_at t ops) ≡ Some (b, h, th) →
    option_map action_of (operation_at t ops) ≡ Some a
    → AreUsed (without_number t ops) (cts_without h a.action cts) (mds_without a.action mds)
used-gone ops t b a h th cts mds u all e f =
    let w = taken-op (operation_at t ops) b a h th e f in
    let k = used-taken ops t w.0 cts mds u all w.1 in
    subst (λ (x : PostedOp). AreUsed (without_number t ops) (cts_without h x.action cts) (mds_without x.action mds)) w.3
    (subst (λ (x : Handle). AreUsed (without_number t ops) (cts_without x w.0.action.action cts) (mds_without w.0.action.action mds)) w.2 k)

-- one that was shown can be taken
pub shown-taken : (o : Option Op) (b : PostedOp) (h : Handle) (th : ℕ) (r : Option PostedOp) → option_map shown o ≡ Some (b, h, th) →
    r ≡ option_map action_of o → r ≡ None → ⊥
shown-taken None b h th r e f none = cc
shown-taken (Some w) b h th r e f none = cc

-- ---- all that wait on a counting event go, one after the other

less-left : (t : ℕ) (ws : List Op) (w : Op) → find (is_number t) ws ≡ Some w → length (filter (λ p. not (is_number t p)) ws) < length ws
less-left t [] w e = cc
less-left t (x ∷ xs) w e =
    let rest : List Op = filter (λ p. not (is_number t p)) xs in
    elim (x.number == t) as (λ b. (if b then Some x else find (is_number t) xs) ≡ Some w →
    length (if not b then x ∷ rest else rest) < length (x ∷ xs)) [
      | true ↦ λ f. omega (arith, length-filter_le (λ (p : Op). not (is_number t p)) xs)
      | false ↦ λ f. omega (arith, less-left t xs w f)
    ] e

some-waits : (ct : Handle) (o : Option Op) → option_map (waits_on ct) o ≡ Some true → (w : Op) × (o ≡ Some w) × (waits_on ct w ≡ true)
some-waits ct None e = cc
some-waits ct (Some w) e = let waits : waits_on ct w ≡ true = cc in (w, refl, waits)

pub fewer-wait : (ct : Handle) (t : ℕ) (ops : Operations PostedOp) → option_map (waits_on ct) (operation_at t ops) ≡ Some true →
    length (without_number t ops).waiting < length ops.waiting
fewer-wait ct t ops e = let w = some-waits ct (operation_at t ops) e in less-left t ops.waiting w.0 w.1

abbrev others : Handle → List Op → List Op
others ct ws = filter (λ p. not (waits_on ct p)) ws

others-same : (ct : Handle) (t : ℕ) (ws : List Op) → AllPairs Rises ws → option_map (waits_on ct) (find (is_number t) ws) ≡ Some true →
    others ct (filter (λ p. not (is_number t p)) ws) ≡ others ct ws
others-same ct t [] all e = refl
others-same ct t (x ∷ xs) all e =
    let rest : List Op = filter (λ p. not (is_number t p)) xs in
    elim (x.number == t) as (λ b. (x.number == t) ≡ b → option_map (waits_on ct) (if b then Some x else find (is_number t) xs) ≡ Some true
    → others ct (if not b then x ∷ rest else rest) ≡ others ct (x ∷ xs)) [
      | true ↦ λ is f.
          let waits : waits_on ct x ≡ true = cc in
          let gone : rest ≡ xs = none-without t xs (find-behind t x xs (same-number x.number t is) (pairs-head Rises x xs all)) in
          rw (waits, gone) refl
      | false ↦ λ is f.
          let same : others ct rest ≡ others ct xs = others-same ct t xs (pairs-tail Rises x xs all) f in
          rw same refl
    ] refl e

pub still-cancelled : (ct : Handle) (t : ℕ) (ops : Operations PostedOp) → AllPairs Rises ops.waiting →
    option_map (waits_on ct) (operation_at t ops) ≡ Some true → cancelled ct (without_number t ops) ≡ cancelled ct ops
still-cancelled ct t ops all e = ap (λ (ws : List Op). record ops { waiting = ws }) (others-same ct t ops.waiting all e)

pub still-rising : (t : ℕ) (ops : Operations PostedOp) → AllPairs Rises ops.waiting → AllPairs Rises (without_number t ops).waiting
still-rising t ops all = AllPairs-filter Rises (λ (p : Op). not (is_number t p)) ops.waiting all

others-all : (ct : Handle) (ws : List Op) → filter (waits_on ct) ws ≡ [] → others ct ws ≡ ws
others-all ct [] e = refl
others-all ct (x ∷ xs) e =
    elim (waits_on ct x) as (λ b. (if b then x ∷ filter (waits_on ct) xs else filter (waits_on ct) xs) ≡ [] →
    (if not b then x ∷ others ct xs else others ct xs) ≡ x ∷ xs) [
      | true ↦ λ f. cc
      | false ↦ λ f. ap (λ (ws : List Op). x ∷ ws) (others-all ct xs f)
    ] e

pub none-cancelled : (ct : Handle) (ops : Operations PostedOp) → waiting_on ct ops ≡ [] → cancelled ct ops ≡ ops
none-cancelled ct ops e = ap (λ (ws : List Op). record ops { waiting = ws }) (others-all ct ops.waiting e)

pub length-parts : (ct : Handle) (ops : Operations PostedOp) → length (waiting_on ct ops) + length (cancelled ct ops).waiting ≡ length
    ops.waiting
length-parts ct ops = length-filter_both (waits_on ct) (λ p. not (waits_on ct p)) (λ _. refl) ops.waiting

-- ---- there is room to count an operation more

ct-at_most : (k : ℕ) (w : Op) → ct_uses k w ≤ 2
ct-at_most k w = omega (arith, one-at_most (Some w.ct) k, one-at_most (action_counter w.action.action) k)

md-at_most : (k : ℕ) (w : Op) → md_uses k w ≤ 2
md-at_most k w = omega (arith, one-at_most (get_md w.action.action) k, one-at_most (put_md w.action.action) k)

pub room-raise : (ops : Operations PostedOp) (cts mds : List ℕ) (ct : Handle) → AreUsed ops cts mds → length ops.waiting < 2 ^ 32 →
    count_at ct.slot cts < 2 ^ 64 - 1
room-raise ops cts mds ct u small =
    omega (
      arith,
      counts-at_most (λ k. sum_by (ct_uses k) ops.waiting) (2 * length ops.waiting) ct.slot cts u.counters
          (uses-at_most (ct_uses ct.slot) ops.waiting (ct-at_most ct.slot)),
    )

pub room-counter : (ops : Operations PostedOp) (cts mds : List ℕ) (ct : Handle) (o : Option Handle) → AreUsed ops cts mds →
    length ops.waiting < 2 ^ 32 → IfSome o (λ h. count_at h.slot (incremented ct.slot cts) < 2 ^ 64 - 1)
room-counter ops cts mds ct o u small =
    let first = λ (k : ℕ). sum_by (ct_uses k) ops.waiting + one_if_slot ct.slot k in
    add-room first (2 * length ops.waiting + 1) (incremented ct.slot cts) o
    (counts-incremented (λ k. sum_by (ct_uses k) ops.waiting) first cts u.counters ct.slot (λ k. refl))
    (λ k. omega (arith, uses-at_most (ct_uses k) ops.waiting (ct-at_most k), one-at_most (Some ct) k)) (omega arith)

pub room-get : (ops : Operations PostedOp) (cts mds : List ℕ) (o : Option Handle) → AreUsed ops cts mds → length ops.waiting < 2 ^ 32 →
    IfSome o (λ h. count_at h.slot mds < 2 ^ 64 - 1)
room-get ops cts mds o u small =
    add-room (λ k. sum_by (md_uses k) ops.waiting) (2 * length ops.waiting) mds o u.descriptors
    (λ k. uses-at_most (md_uses k) ops.waiting (md-at_most k)) (omega arith)

pub room-put : (ops : Operations PostedOp) (cts mds : List ℕ) (p o : Option Handle) → AreUsed ops cts mds → length ops.waiting < 2 ^ 32 →
    IfSome o (λ h. count_at h.slot (more p mds) < 2 ^ 64 - 1)
room-put ops cts mds p o u small =
    let first = λ (k : ℕ). sum_by (md_uses k) ops.waiting + one_at p k in
    add-room first (2 * length ops.waiting + 1) (more p mds) o (counts-more (λ k. sum_by (md_uses k) ops.waiting) first mds u.descriptors
    p (λ k. refl))
    (λ k. omega (arith, uses-at_most (md_uses k) ops.waiting (md-at_most k), one-at_most p k)) (omega arith)

-- ---- what is named is what is counted

counter-named : (ct : Handle) (d : TriggeredOp) → action_names_ct ct d ≡ names (action_counter d) ct
counter-named ct (Put a) = refl
counter-named ct (Get g) = refl
counter-named ct (Atomic a op ty) = refl
counter-named ct (FetchAtomic g a op ty) = refl
counter-named ct (Swap g a op ty operand) = refl
counter-named ct (Inc h by) = refl
counter-named ct (Set h to) = refl

or-none : (a : Bool) → a ≡ (a || false)
or-none true = refl
or-none false = refl

mds-named : (md : Handle) (d : TriggeredOp) → action_names_md md d ≡ (names (get_md d) md || names (put_md d) md)
mds-named md (Put a) = refl
mds-named md (Get g) = or-none (same_handle g.md md)
mds-named md (Atomic a op ty) = refl
mds-named md (FetchAtomic g a op ty) = refl
mds-named md (Swap g a op ty operand) = refl
mds-named md (Inc h by) = refl
mds-named md (Set h to) = refl

or-both : (a b c : Bool) → ((a || b) || c) ≡ (a || (b || c))
or-both true b c = refl
or-both false b c = refl

ops-name-ct : (ct : Handle) (ws : List Op) → All (CtsAlone ct) ws → operation_names_ct ct (map (posted action_in) ws) ≡ nat_lt 0
    (sum_by (ct_uses ct.slot) ws)
ops-name-ct ct [] all = refl
ops-name-ct ct (w ∷ ws) all =
    let alone = All-head (CtsAlone ct) w ws all in
    let rest : Bool = operation_names_ct ct (map (posted action_in) ws) in
    let n : ℕ = sum_by (ct_uses ct.slot) ws in
    let whole : one_at (Some w.ct) ct.slot + (one_at (action_counter w.action.action) ct.slot + n) ≡ sum_by (ct_uses ct.slot) (w ∷ ws) =
    omega (arith, sum_by-cons (ct_uses ct.slot) w ws) in
    ap (λ b. (same_handle w.ct ct || b) || rest) (counter-named ct w.action.action)
    ∙ or-both (same_handle w.ct ct) (names (action_counter w.action.action) ct) rest
    ∙ names-step ct (Some w.ct) (names (action_counter w.action.action) ct || rest) (one_at (action_counter w.action.action) ct.slot + n)
    alone.0
    (names-step ct (action_counter w.action.action) rest n alone.1 (ops-name-ct ct ws (All-tail (CtsAlone ct) w ws all)))
    ∙ ap (λ m. nat_lt 0 m) whole

ops-name-md : (md : Handle) (ws : List Op) → All (MdsAlone md) ws → operation_names_md md (map (posted action_in) ws) ≡ nat_lt 0
    (sum_by (md_uses md.slot) ws)
ops-name-md md [] all = refl
ops-name-md md (w ∷ ws) all =
    let alone = All-head (MdsAlone md) w ws all in
    let rest : Bool = operation_names_md md (map (posted action_in) ws) in
    let n : ℕ = sum_by (md_uses md.slot) ws in
    let whole : one_at (get_md w.action.action) md.slot + (one_at (put_md w.action.action) md.slot + n) ≡ sum_by (md_uses md.slot)
    (w ∷ ws) =
    omega (arith, sum_by-cons (md_uses md.slot) w ws) in
    ap (λ b. b || rest) (mds-named md w.action.action)
    ∙ or-both (names (get_md w.action.action) md) (names (put_md w.action.action) md) rest
    ∙ names-step md (get_md w.action.action) (names (put_md w.action.action) md || rest) (one_at (put_md w.action.action) md.slot + n)
    alone.0
    (names-step md (put_md w.action.action) rest n alone.1 (ops-name-md md ws (All-tail (MdsAlone md) w ws all)))
    ∙ ap (λ m. nat_lt 0 m) whole

pub used-ct : (ct : Handle) (n : ℕ) (ops : Operations PostedOp) (cts mds : List ℕ) → AreUsed ops cts mds →
    slice_get cts ct.slot ≡ Some n → All (CtsAlone ct) ops.waiting → nat_lt 0 n ≡ operation_names_ct ct (posted_all action_in ops).waiting
used-ct ct n ops cts mds u at all =
    let uses : n ≡ sum_by (ct_uses ct.slot) ops.waiting = sym (get_or_from_slice_get cts ct.slot n 0 at)
    ∙ u.counters ct.slot (slice_get_within cts ct.slot n at) in
    ap (λ m. nat_lt 0 m) uses ∙ sym (ops-name-ct ct ops.waiting all)

pub used-md : (md : Handle) (n : ℕ) (ops : Operations PostedOp) (cts mds : List ℕ) → AreUsed ops cts mds →
    slice_get mds md.slot ≡ Some n → All (MdsAlone md) ops.waiting → nat_lt 0 n ≡ operation_names_md md (posted_all action_in ops).waiting
used-md md n ops cts mds u at all =
    let uses : n ≡ sum_by (md_uses md.slot) ops.waiting = sym (get_or_from_slice_get mds md.slot n 0 at)
    ∙ u.descriptors md.slot (slice_get_within mds md.slot n at) in
    ap (λ m. nat_lt 0 m) uses ∙ sym (ops-name-md md ops.waiting all)
