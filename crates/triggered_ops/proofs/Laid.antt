-- What always holds of the pending operations, after each call.
use Rattle.std.proofs.Common.{◌≡◌, ℕ, suc, ◌+◌, ◌*◌, ◌/◌, ◌^◌, ◌<◌, ◌≤◌, true, false, cond, List, [], ◌∷◌, ◌++◌, map, filter, find, length}
use Rattle.std.proofs.Common.{get_or, replicate, Option, Some, None, refl, sym, ap, subst, ◌∙◌, inl, inr, arith, length-append}
use Rattle.std.specs.Prelude.{All, AllPairs, is_some, option_map, slice_get}
use Rattle.std.proofs.lemmas.List.{length-map}
use Rattle.std.proofs.lemmas.List.Elements.{All-nil, All-head, All-tail, All-push, All-weaker}
use Rattle.std.proofs.lemmas.Bool.{eq-eqb, ne_eqb}
use Rattle.std.proofs.lemmas.Bool.Decides.{eqb_tells}
use Rattle.ptl_types.specs.declared.handles.Handle.{Handle}
use Rattle.std.proofs.lemmas.List.Quantifiers.{all_pairs_push}
use Rattle.chain_list.specs.threads.Threads.{Woven, woven}
use Rattle.triggered_ops.specs.declared.spots.Spot.{Spot}
use Rattle.triggered_ops.specs.Operations.{Operation, Operations, IsKept, operation_at, is_number, is_due, is_due_op, waits_on, told_if}
use Rattle.triggered_ops.specs.Hung.{WaitsOn, IsHung, IsLaid, IsSame, IsThinner}
use Rattle.triggered_ops.specs.Layout.{Spotted, no_spots, numbers_of, operations_in, operations_of, operation, op_with, before_all, op_at}
use Rattle.triggered_ops.specs.Layout.{wait_with, wait_at}
use Rattle.triggered_ops.proofs.Found.{all-operations, rising-operations, find-behind, found-here}
use Rattle.triggered_ops.proofs.Entering.{none-hung}
use Rattle.triggered_ops.proofs.Places.{same-length, wait-within, waits-is, wait_for, op-wait}
use Rattle.triggered_ops.proofs.Rising.{Rises, length-filter_le, pairs-head, pairs-tail}

module _ {D : Type 0} where
  -- the value keeps what a caller is told
  pub laid-kept : (s : Spotted D) (w : Woven) (stamps : List ℕ) (given limit : ℕ) → IsLaid s w stamps given limit → given < 2 ^ 32 →
      IsKept (operations_of s given limit)
  laid-kept s w stamps given limit l numbers = record {
    rising = rising-operations s.spots l.rising;
    were_given = all-operations (λ n. n < given) s.spots l.below;
    limited = l.limited;
    numbers = numbers;
  }

  -- what hangs lies within the threads
  pub laid-within : (s : Spotted D) (w : Woven) (stamps : List ℕ) (given limit : ℕ) → IsLaid s w stamps given limit →
      length s.spots ≤ w.places
  laid-within s w stamps given limit l = omega (arith, l.places, l.fits)

  -- and there is room for more, where fewer wait than may
  pub laid-room : (s : Spotted D) (w : Woven) (stamps : List ℕ) (given limit : ℕ) → IsLaid s w stamps given limit →
      length (operations_in s.spots) < limit → length (operations_in s.spots) < s.room
  laid-room s w stamps given limit l lt = omega (arith, l.room, lt)

  -- places that keep their numbers
  pub laid-same : (s t : Spotted D) (w v : Woven) (stamps : List ℕ) (given limit : ℕ) → IsLaid s w stamps given limit → IsSame s t →
      IsHung (wait_at t.spots) v stamps → v.places ≡ w.places → length (operations_in t.spots) ≤ length (operations_in s.spots)
      → IsLaid t v stamps given limit
  laid-same s t w v stamps given limit l same hung places fewer = record {
    rising = subst (AllPairs (λ a b. a < b)) (sym same.numbers) l.rising;
    below = subst (All (λ n. n < given)) (sym same.numbers) l.below;
    limited = omega (arith, fewer, l.limited);
    fits = let n = same-length s t same in omega (arith, n, same.room, l.fits);
    hung = hung;
    places = places ∙ l.places ∙ sym same.room;
    room = same.room ∙ l.room;
    small = l.small;
    at_most = l.at_most;
  }

  -- one more is posted
  pub laid-posted : (s t u : Spotted D) (w v : Woven) (stamps stamps2 : List ℕ) (given limit : ℕ) → IsLaid s w stamps given limit →
      length (operations_in s.spots) < limit → IsThinner (numbers_of s.spots) (numbers_of t.spots)
      → numbers_of u.spots ≡ numbers_of t.spots ++ given ∷ [] → length t.spots < s.room → u.room ≡ s.room →
      length (operations_in u.spots) ≡ length (operations_in s.spots) + 1 → IsHung (wait_at u.spots) v stamps2 → v.places ≡ w.places →
      length stamps2 ≡ length stamps
      → IsLaid u v stamps2 (given + 1) limit
  laid-posted s t u w v stamps stamps2 given limit l less thin numbers short room more hung places long =
      let rising = thin.rising l.rising in
      let below = thin.below given l.below in
      record {
        rising = subst (AllPairs (λ a b. a < b)) (sym numbers) (all_pairs_push (λ a b. a < b) (numbers_of t.spots) given rising below);
        below = subst (All (λ n. n < given + 1)) (sym numbers)
            (All-push (λ n. n < given + 1) (numbers_of t.spots) given
            (All-weaker (λ n. n < given) (λ n. n < given + 1) (λ n lt. omega arith) (numbers_of t.spots) below) (omega arith));
        limited = omega (arith, more, less);
        fits =
            let a = length-map u.spots (λ (x : Spot D). x.number) in
            let b = length-map t.spots (λ (x : Spot D). x.number) in
            let e = ap length numbers in
            let f = length-append (numbers_of t.spots) (given ∷ []) in
            omega (arith, a, b, e, f, short, room);
        hung = hung;
        places = places ∙ l.places ∙ sym room;
        room = room ∙ l.room;
        small = l.small;
        at_most = omega (arith, long, l.at_most);
      }

  pub told-length : (s t : Spotted D) (ct : Handle) (sum : ℕ) → operations_in t.spots ≡ map (told_if (waits_on ct) sum)
      (operations_in s.spots) → length (operations_in t.spots) ≡ length (operations_in s.spots)
  told-length s t ct sum e = ap length e ∙ length-map (operations_in s.spots) (told_if (waits_on ct) sum)

  -- what wasn't given isn't found
  none-given : (t : ℕ) (os : List (Operation D)) → All (λ p. p.number < t) os → find (is_number t) os ≡ None
  none-given t [] all = refl
  none-given t (o ∷ os) all =
      let lt : o.number < t = All-head (λ (p : Operation D). p.number < t) o os all in
      let other : is_number t o ≡ false = ne_eqb o.number t (λ e. omega (arith, lt, e)) in
      rw other (none-given t os (All-tail (λ (p : Operation D). p.number < t) o os all))

  pub not-given : (ops : Operations D) → IsKept ops → operation_at ops.given ops ≡ None
  not-given ops kept = none-given ops.given ops.waiting kept.were_given

  -- ---- the due ones
  pub length-due : (ss : List (Spot D)) → length (filter is_due (operations_in ss)) ≤ length (operations_in ss)
  length-due ss = length-filter_le is_due (operations_in ss)

  pub due-numbers_long : (ss : List (Spot D)) → length (map (λ (p : Operation D). p.number) (filter is_due (operations_in ss))) ≡ length
      (filter is_due (operations_in ss))
  due-numbers_long ss = length-map (filter is_due (operations_in ss)) (λ (p : Operation D). p.number)

  -- the first of them is ready
  pub first-due : (os : List (Operation D)) (t : ℕ) → AllPairs Rises os →
      slice_get (map (λ (p : Operation D). p.number) (filter is_due os)) 0 ≡ Some t → is_due_op (find (is_number t) os) ≡ true
  first-due [] t all e = cc
  first-due (o ∷ os) t all e =
      elim o.due as (λ b. o.due ≡ b → slice_get (map (λ (p : Operation D). p.number) (cond b (o ∷ filter is_due os) (filter is_due os))) 0
      ≡ Some t → is_due_op (find (is_number t) (o ∷ os)) ≡ true) [
        | true ↦ λ d f.
            let number : o.number ≡ t = cc in
            let here : is_number t o ≡ true = eq-eqb o.number t number in
            rw here d
        | false ↦ λ d f.
            let rest = first-due os t (pairs-tail Rises o os all) f in
            elim (eqb_tells o.number t) [
              | inl same ↦
                  let none : find (is_number t) os ≡ None = find-behind t o os same.1 (pairs-head Rises o os all) in
                  let no : is_due_op (find (is_number t) os) ≡ false = ap is_due_op none in
                  let f : true ≡ false = sym rest ∙ no in
                  cc
              | inr other ↦ rw other.0 rest
            ]
      ] refl e

  pub none-due : (os : List (Operation D)) → length (filter is_due os) ≡ 0 → (t : ℕ) → is_due_op (find (is_number t) os) ≡ false
  none-due [] e t = refl
  none-due (o ∷ os) e t =
      elim o.due as (λ b. o.due ≡ b → length (cond b (o ∷ filter is_due os) (filter is_due os)) ≡ 0 →
      is_due_op (find (is_number t) (o ∷ os)) ≡ false) [
        | true ↦ λ d f. absurd (omega (arith, f))
        | false ↦ λ d f. elim (is_number t o) as (λ b. is_due_op (cond b (Some o) (find (is_number t) os)) ≡ false) [
          | true ↦ d
          | false ↦ none-due os f t
        ]
      ] refl e

  -- ---- none at first
  pub laid-none : (s : Spotted D) (w : Woven) (stamps : List ℕ) (events limit : ℕ) → s ≡ no_spots (limit + limit / 4) →
      w ≡ woven (replicate (2 * events + 1) []) (limit + limit / 4) → length stamps ≡ events → limit ≤ 2 ^ 27 → events ≤ 2 ^ 27
      → IsLaid s w stamps 0 limit
  laid-none s w stamps events limit es ew long small at_most =
      let hung = none-hung w stamps (2 * events + 1) (limit + limit / 4) ew (omega (arith, long)) in
      let places : w.places ≡ limit + limit / 4 = ap (λ (v : Woven). v.places) ew in
      subst (λ (t : Spotted D). IsLaid t w stamps 0 limit) (sym es) (record {
        rising = λ i j d lt within. absurd (omega (arith, within));
        below = All-nil (λ n. n < 0);
        limited = omega arith;
        fits = omega arith;
        hung = hung;
        places = places;
        room = refl;
        small = small;
        at_most = omega (arith, long, at_most);
      })

  -- ---- one by its number, of those that wait
  pub find-view : (s : Spotted D) (given limit t : ℕ) (ops : Operations D) → operations_of s given limit ≡ ops →
      find (is_number t) (operations_in s.spots) ≡ operation_at t ops
  find-view s given limit t ops e = ap (operation_at t) e

  -- ---- those that wait on a counting event
  pub waiting-found : (s : Spotted D) (p : ℕ) (ct : Handle) → AllPairs (λ a b. a < b) (numbers_of s.spots) → WaitsOn ct (wait_at s.spots p)
      → (p < length s.spots) × (option_map (waits_on ct) (find (is_number (get_or (numbers_of s.spots) p 0)) (operations_in s.spots))
      ≡ Some true)
  waiting-found s p ct rising on =
      let x = waits-is ct (wait_at s.spots p) on in
      let lt = wait-within s.spots p (ap is_some x.1) in (
        lt,
        ap (option_map (waits_on ct)) (found-here s.spots (get_or (numbers_of s.spots) p 0) p rising (lt, refl))
            ∙ go (op_at s.spots p) (subst (WaitsOn ct) (op-wait s.spots p) on),
      )
    where
      go : (o : Option (Operation D)) → WaitsOn ct (option_map wait_for o) → option_map (waits_on ct) o ≡ Some true
      go None w = absurd w
      go (Some o) w = ap (λ b. Some b) w

  pub waiting-none : (ss : List (Spot D)) (ct : Handle) → ((p : ℕ) → WaitsOn ct (wait_at ss p) → ⊥) →
      filter (waits_on ct) (operations_in ss) ≡ []
  waiting-none [] ct h = refl
  waiting-none (s ∷ ss) ct h = go s.action (h 0) (waiting-none ss ct (λ p. h (suc p)))
    where
      go : (o : Option D) → (WaitsOn ct (wait_with s o) → ⊥) → filter (waits_on ct) (operations_in ss) ≡ [] →
          filter (waits_on ct) (before_all (op_with s o) (operations_in ss)) ≡ []
      go None n rest = rest
      go (Some d) n rest = elim (waits_on ct (operation s d)) as (λ b. waits_on ct (operation s d) ≡ b →
          cond b (operation s d ∷ filter (waits_on ct) (operations_in ss)) (filter (waits_on ct) (operations_in ss)) ≡ []) [
            | true ↦ λ is. absurd (n is)
            | false ↦ λ is. rest
          ] refl
