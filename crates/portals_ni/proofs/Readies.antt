-- The ready operations by their numbers, as the model has them and as the pending ones do.
use Rattle.std.proofs.Common.{◌≡◌, ℕ, zero, suc, ◌+◌, ◌==◌, ◌<◌, Bool, true, false, List, [], ◌∷◌, Option, Some, None, find, filter, drop}
use Rattle.std.proofs.Common.{length, if◌then◌else◌, refl, ap, ◌∙◌, arith}
use Rattle.std.specs.Prelude.{All, AllPairs, map, option_map}
use Rattle.std.specs.List.{slice_get}
use Rattle.std.proofs.lemmas.Bool.{eq-eqb}
use Rattle.std.proofs.lemmas.Bool.Decides.{nat_tests}
use Rattle.std.proofs.lemmas.List.Elements.{All-head, All-tail, All-cons, All-nil}
use Rattle.ptl_types.specs.declared.handles.Count.{Count}
use Rattle.ptl_types.specs.declared.handles.Handle.{Handle}
use Rattle.ni_model.specs.State.{Posted}
use Rattle.ni_model.specs.Ready as model
use Rattle.ni_model.specs.Ready.{is_ready_op, message_target, target_of}
use Rattle.ni_model.specs.Tables.{Table}
use Rattle.triggered_ops.specs.Operations.{is_number, is_due, is_due_op, due_numbers, shown, posted, posted_all}
use Rattle.triggered_ops.proofs.Rising.{Rises, pairs-head, pairs-tail}
use Rattle.portals_ni.specs.declared.posted_op.PostedOp.{PostedOp}
use Rattle.portals_ni.specs.Pendings.{action_in}
use Rattle.portals_ni.specs.Sound.{IsTold}
use Rattle.portals_ni.proofs.Firing.{Op, Ops, find-posted, ready-is}

-- an operation that waits after others is found by its number
later : (w : Op) (ws vs : List Op) → All (λ (v : Op). w.number < v.number) vs → All (λ (v : Op). find (is_number v.number) ws ≡ Some v) vs
    → All (λ (v : Op). find (is_number v.number) (w ∷ ws) ≡ Some v) vs
later w ws [] above all = All-nil (λ (v : Op). find (is_number v.number) (w ∷ ws) ≡ Some v)
later w ws (v ∷ vs) above all =
    let lt : w.number < v.number = All-head (λ (v : Op). w.number < v.number) v vs above in
    let other : (w.number == v.number) ≡ false = grind (arith, nat_tests) in
    All-cons (λ (v : Op). find (is_number v.number) (w ∷ ws) ≡ Some v) v vs
    (rw other (All-head (λ (v : Op). find (is_number v.number) ws ≡ Some v) v vs all))
    (later w ws vs (All-tail (λ (v : Op). w.number < v.number) v vs above)
    (All-tail (λ (v : Op). find (is_number v.number) ws ≡ Some v) v vs all))

-- each is found by its number
pub self-found : (ws : List Op) → AllPairs Rises ws → All (λ (v : Op). find (is_number v.number) ws ≡ Some v) ws
self-found [] rising = All-nil (λ (v : Op). find (is_number v.number) [] ≡ Some v)
self-found (w ∷ ws) rising =
    let same : (w.number == w.number) ≡ true = eq-eqb w.number w.number refl in
    All-cons (λ (v : Op). find (is_number v.number) (w ∷ ws) ≡ Some v) w ws
    (rw same refl)
    (later w ws ws (pairs-head Rises w ws rising) (self-found ws (pairs-tail Rises w ws rising)))

-- a test of numbers that agrees with a test of operations
by-number : (f : ℕ → Bool) (p : Op → Bool) (ws : List Op) → All (λ (w : Op). f w.number ≡ p w) ws →
    filter f (map (λ (w : Op). w.number) ws) ≡ map (λ (w : Op). w.number) (filter p ws)
by-number f p [] all = refl
by-number f p (w ∷ ws) all =
    let rest = by-number f p ws (All-tail (λ (w : Op). f w.number ≡ p w) w ws all) in
    rw (All-head (λ (w : Op). f w.number ≡ p w) w ws all)
    (elim (p w) as (λ b. (if b then w.number ∷ filter f (map (λ (w : Op). w.number) ws) else filter f (map (λ (w : Op). w.number) ws))
    ≡ map (λ (w : Op). w.number) (if b then w ∷ filter p ws else filter p ws)) [
      | true ↦ ap (λ xs. w.number ∷ xs) rest
      | false ↦ rest
    ])

numbers-posted : (ws : List Op) → map (λ (p : Posted). p.number) (map (posted action_in) ws) ≡ map (λ (w : Op). w.number) ws
numbers-posted [] = refl
numbers-posted (w ∷ ws) = rw (numbers-posted ws) refl

ready-found : (cts : Table Count) (ops : Ops) (vs : List Op) → All (IsTold cts) ops.waiting →
    All (λ (v : Op). find (is_number v.number) ops.waiting ≡ Some v) vs →
    All (λ (v : Op). is_ready_op cts (model.posted_at v.number (posted_all action_in ops)) ≡ is_due v) vs
ready-found cts ops [] told found = All-nil (λ (v : Op). is_ready_op cts (model.posted_at v.number (posted_all action_in ops)) ≡ is_due v)
ready-found cts ops (v ∷ vs) told found =
    All-cons (λ (v : Op). is_ready_op cts (model.posted_at v.number (posted_all action_in ops)) ≡ is_due v) v vs
    (ready-is v.number cts ops told ∙ ap is_due_op (All-head (λ (v : Op). find (is_number v.number) ops.waiting ≡ Some v) v vs found))
    (ready-found cts ops vs told (All-tail (λ (v : Op). find (is_number v.number) ops.waiting ≡ Some v) v vs found))

pub due-are : (cts : Table Count) (ops : Ops) → AllPairs Rises ops.waiting → All (IsTold cts) ops.waiting →
    filter (λ t. is_ready_op cts (model.posted_at t (posted_all action_in ops)))
    (map (λ (p : Posted). p.number) (posted_all action_in ops).waiting) ≡ due_numbers ops
due-are cts ops rising told =
    ap (filter (λ t. is_ready_op cts (model.posted_at t (posted_all action_in ops)))) (numbers-posted ops.waiting)
    ∙ by-number (λ t. is_ready_op cts (model.posted_at t (posted_all action_in ops))) is_due ops.waiting
    (ready-found cts ops ops.waiting told (self-found ops.waiting rising))

-- ---- those whose message is for one rank

module _ {A : Type 0} where
  -- the first of the rest
  pub counted-on : (f : A → Bool) (xs : List A) (i : ℕ) (x : A) → slice_get xs i ≡ Some x →
      length (filter f (drop i xs)) ≡ (if f x then 1 else 0) + length (filter f (drop (suc i) xs))
  counted-on f [] i x is = cc
  counted-on f (y ∷ ys) zero x is =
      let same : y ≡ x = cc in
      rw same
      (elim (f x) as (λ b. length (if b then x ∷ filter f ys else filter f ys) ≡ (if b then 1 else 0) + length (filter f ys)) [
        | true ↦ omega arith
        | false ↦ omega arith
      ])
  counted-on f (y ∷ ys) (suc i) x is = counted-on f ys i x is

-- what is found of a number is what is posted under it
pub target-found : (t : ℕ) (ops : Ops) (a : PostedOp) (ct : Handle) (threshold : ℕ) → option_map shown (find (is_number t) ops.waiting)
    ≡ Some (a, ct, threshold) → target_of (model.posted_at t (posted_all action_in ops)) ≡ message_target a.action
target-found t ops a ct threshold is = rw (find-posted t ops.waiting) (split (find (is_number t) ops.waiting) is)
  where
    split : (o : Option Op) → option_map shown o ≡ Some (a, ct, threshold) → target_of (option_map (posted action_in) o) ≡ message_target
        a.action
    split None e = cc
    split (Some w) e = let all : shown w ≡ (a, ct, threshold) = cc in let same : w.action ≡ a =
        ap (λ (p : PostedOp × Handle × ℕ). p.0) all in rw same refl

pub target-none : (t : ℕ) (ops : Ops) → find (is_number t) ops.waiting ≡ None → target_of (model.posted_at t (posted_all action_in ops))
    ≡ None
target-none t ops is = rw (find-posted t ops.waiting, is) refl
