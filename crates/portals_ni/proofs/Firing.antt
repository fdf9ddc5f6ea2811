-- The pending operations as the model has them: which are ready, and what firing one does.
use Rattle.std.proofs.Common.{◌≡◌, ℕ, ◌==◌, Bool, true, false, not, List, [], ◌∷◌, ◌++◌, Option, Some, None, nat_le, length, find, filter}
use Rattle.std.proofs.Common.{if◌then◌else◌, refl, sym, subst, ap, ◌∙◌, arith}
use Rattle.std.specs.Prelude.{All, map, option_map}
use Rattle.std.proofs.lemmas.Bool.Decides.{nat_tests}
use Rattle.std.proofs.lemmas.List.Elements.{All-push}
use Rattle.ptl_types.specs.declared.handles.Handle.{Handle}
use Rattle.ptl_types.specs.declared.handles.Count.{Count}
use Rattle.ptl_types.specs.declared.calls.Limits.{Limits}
use Rattle.ptl_types.specs.declared.calls.TriggeredOp.{TriggeredOp}
use Rattle.ptl_types.specs.declared.calls.TriggeredOp.TheVariants.{Put, Get, Atomic, FetchAtomic, Swap, Inc, Set}
use Rattle.ni_model.specs.declared.Bound.{Bound}
use Rattle.ni_model.specs.Tables.{Table, lookup}
use Rattle.ni_model.specs.Counts.{total}
use Rattle.ni_model.specs.State.{State, Posted, home_of, with_home}
use Rattle.ni_model.specs.Ready as model
use Rattle.ni_model.specs.Ready.{is_reached, is_ready_op, fires, done, fired_op, fired}
use Rattle.ni_model.specs.Starts.{started}
use Rattle.target_engine.proofs.Within.{find_has}
use Rattle.initiator_engine.specs.Initiators.{is_start}
use Rattle.triggered_ops.specs.Operations.{Operation, Operations, is_number, waits_on, action_of, operation_at, is_due_op, is_ready}
use Rattle.triggered_ops.specs.Operations.{with_posted, told, without_number, waiting_on, cancelled, posted, posted_all}
use Rattle.portals_ni.specs.declared.posted_op.PostedOp.{PostedOp}
use Rattle.portals_ni.specs.Answers.{action_counts}
use Rattle.portals_ni.specs.Pendings.{action_in}
use Rattle.portals_ni.specs.Sound.{IsArmed, IsTold}
use Rattle.portals_ni.proofs.Told.{posted-tells, told-again}

abbrev pub Op : Type 0
Op = Operation PostedOp

abbrev pub Ops : Type 0
Ops = Operations PostedOp

-- ---- lists of operations, and what the model has of them

pub find-posted : (t : ℕ) (ws : List Op) → find (model.is_number t) (map (posted action_in) ws) ≡ option_map (posted action_in)
    (find (is_number t) ws)
find-posted t [] = refl
find-posted t (w ∷ ws) =
    elim (w.number == t) as (λ b. (if b then Some (posted action_in w) else find (model.is_number t) (map (posted action_in) ws))
    ≡ option_map
    (posted action_in) (if b then Some w else find (is_number t) ws)) [
      | true ↦ refl
      | false ↦ find-posted t ws
    ]

filter-posted : (p : Op → Bool) (q : Posted → Bool) (ws : List Op) → ((w : Op) → q (posted action_in w) ≡ p w) →
    filter q (map (posted action_in) ws) ≡ map (posted action_in) (filter p ws)
filter-posted p q [] same = refl
filter-posted p q (w ∷ ws) same =
    rw (same w)
    (elim (p w) as (λ b. (if b then posted action_in w ∷ filter q (map (posted action_in) ws) else filter q (map (posted action_in) ws))
    ≡ map
    (posted action_in) (if b then w ∷ filter p ws else filter p ws)) [
      | true ↦ ap (λ xs. posted action_in w ∷ xs) (filter-posted p q ws same)
      | false ↦ filter-posted p q ws same
    ])

pub length-posted : (ws : List Op) → length (map (posted action_in) ws) ≡ length ws
length-posted [] = refl
length-posted (w ∷ ws) = rw (length-posted ws) refl

pub posted-without : (t : ℕ) (ops : Ops) → posted_all action_in (without_number t ops) ≡ model.without_number t (posted_all action_in ops)
posted-without t ops = rw (filter-posted (λ w. not (is_number t w)) (λ p. not (model.is_number t p)) ops.waiting (λ w. refl)) refl

pub posted-cancelled : (ct : Handle) (ops : Ops) → posted_all action_in (cancelled ct ops) ≡ model.cancelled ct (posted_all action_in ops)
posted-cancelled ct ops = rw (filter-posted (λ w. not (waits_on ct w)) (λ p. not (model.waits_on ct p)) ops.waiting (λ w. refl)) refl

pub length-waiting : (ct : Handle) (ops : Ops) → length (waiting_on ct ops) ≡ length
    (filter (model.waits_on ct) (posted_all action_in ops).waiting)
length-waiting ct ops = rw (filter-posted (waits_on ct) (model.waits_on ct) ops.waiting (λ w. refl), length-posted (waiting_on ct ops)) refl

map-push : (ws : List Op) (w : Op) → map (posted action_in) (ws ++ w ∷ []) ≡ map (posted action_in) ws ++ posted action_in w ∷ []
map-push [] w = refl
map-push (v ∷ ws) w = rw (map-push ws w) refl

posted-push : (a : PostedOp) (ct : Handle) (threshold sum : ℕ) (ops : Ops) → posted_all action_in (with_posted a ct threshold sum ops)
    ≡ model.with_posted a.action ct threshold (posted_all action_in ops)
posted-push a ct threshold sum ops = rw (map-push ops.waiting _) refl

-- ---- readiness

reached-told : (o : Option Count) (threshold : ℕ) (due : Bool) → option_map (λ c. nat_le threshold (total c)) o ≡ Some due →
    is_reached o threshold ≡ due
reached-told None threshold due e = cc
reached-told (Some c) threshold due e = let same : nat_le threshold (total c) ≡ due = cc in same

ready-told : (t : ℕ) (cts : Table Count) (o : Option Op) → ((w : Op) → o ≡ Some w → IsTold cts w) →
    is_ready_op cts (option_map (posted action_in) o) ≡ is_due_op o
ready-told t cts None knows = refl
ready-told t cts (Some w) knows = reached-told (lookup w.ct cts.live) w.threshold w.due (knows w refl)

pub ready-is : (t : ℕ) (cts : Table Count) (ops : Ops) → All (IsTold cts) ops.waiting →
    is_ready_op cts (model.posted_at t (posted_all action_in ops)) ≡ is_ready t ops
ready-is t cts ops all = rw (find-posted t ops.waiting) (ready-told t cts (operation_at t ops)
    (λ w e. find_has (IsTold cts) (is_number t) ops.waiting w all e))

none-due : (o : Option Op) → option_map action_of o ≡ None → is_due_op o ≡ false
none-due None e = refl
none-due (Some w) e = cc

-- what doesn't wait isn't ready
pub ready-none : (t : ℕ) (cts : Table Count) (ops : Ops) → All (IsTold cts) ops.waiting → option_map action_of (operation_at t ops) ≡ None →
    is_ready_op cts (model.posted_at t (posted_all action_in ops)) ≡ false
ready-none t cts ops all e = ready-is t cts ops all ∙ none-due (operation_at t ops) e

-- ---- an operation is taken out

find-number : (t : ℕ) (ws : List Op) (w : Op) → find (is_number t) ws ≡ Some w → w.number ≡ t
find-number t [] w e = cc
find-number t (v ∷ ws) w e =
    elim (v.number == t) as (λ b. (v.number == t) ≡ b → (if b then Some v else find (is_number t) ws) ≡ Some w → w.number ≡ t) [
      | true ↦ λ is e. let same : v ≡ w = cc in let num : v.number ≡ t = grind (arith, nat_tests) in ap (λ (x : Op). x.number) (sym same)
          ∙ num
      | false ↦ λ is e. find-number t ws w e
    ] refl e

-- the operation that an action was taken out of
pub taken : (t : ℕ) (o : Option Op) (a : PostedOp) → option_map action_of o ≡ Some a → (w : Op) × (o ≡ Some w) × (w.action ≡ a)
taken t None a e = cc
taken t (Some w) a e = let same : w.action ≡ a = cc in (w, refl, same)

pub taken-armed : (t : ℕ) (ops : Ops) (a : PostedOp) (mds : Table Bound) (ranks : ℕ) (limits : Limits) →
    option_map action_of (operation_at t ops) ≡ Some a → All (λ w. IsArmed mds ranks limits w.action) ops.waiting →
    IsArmed mds ranks limits a
taken-armed t ops a mds ranks limits e all =
    let w = taken t (operation_at t ops) a e in
    subst (IsArmed mds ranks limits) w.2 (find_has (λ (x : Op). IsArmed mds ranks limits x.action) (is_number t) ops.waiting w.0 all w.1)

fired-at : (s : State) (t : ℕ) (ops : Ops) (a : PostedOp) (w : Op) → s.pending ≡ posted_all action_in ops → operation_at t ops ≡ Some w →
    w.action ≡ a → fired_op s (model.posted_at t s.pending) ≡ done (record s { pending = posted_all action_in (without_number t ops) })
    a.action
fired-at s t ops a w is at same =
    let found : model.posted_at t s.pending ≡ Some (posted action_in w) = rw (is, find-posted t ops.waiting, at) refl in
    let number : w.number ≡ t = find-number t ops.waiting w at in
    let rest : model.without_number w.number s.pending ≡ posted_all action_in (without_number t ops) =
    rw (number, is) (sym (posted-without t ops)) in
    rw (found, rest, same) refl

pub fired-is : (s : State) (t : ℕ) (ops : Ops) (a : PostedOp) → s.pending ≡ posted_all action_in ops →
    option_map action_of (operation_at t ops) ≡ Some a → fired s t ≡ done
    (record s { pending = posted_all action_in (without_number t ops) })
    a.action
unfolding fired
fired-is s t ops a is e =
    let w = taken t (operation_at t ops) a e in fired-at s t ops a w.0 is w.1 w.2

-- ---- what its action does

pub done-start : (s : State) (d : TriggeredOp) → is_start d ≡ true → done s d ≡ fires (with_home (started s.rank (home_of s) d).home s)
    (started s.rank (home_of s) d).message
done-start s (Put a) is = refl
done-start s (Get g) is = refl
done-start s (Atomic a op ty) is = refl
done-start s (FetchAtomic g a op ty) is = refl
done-start s (Swap g a op ty operand) is = refl
done-start s (Inc ct by) is = cc
done-start s (Set ct to) is = cc

pub done-count : (s : State) (d : TriggeredOp) → is_start d ≡ false → done s d ≡ fires (record s { cts = action_counts d s.cts }) None
done-count s (Put a) is = cc
done-count s (Get g) is = cc
done-count s (Atomic a op ty) is = cc
done-count s (FetchAtomic g a op ty) is = cc
done-count s (Swap g a op ty operand) is = cc
done-count s (Inc ct by) is = refl
done-count s (Set ct to) is = refl

-- ---- an operation more

pub post-told : (ct : Handle) (c : Count) (cts : Table Count) (ops : Ops) (a : PostedOp) (threshold : ℕ) → lookup ct cts.live ≡ Some c →
    All (IsTold cts) ops.waiting → All (IsTold cts) (with_posted a ct threshold (total c) (told ct (total c) ops)).waiting
post-told ct c cts ops a threshold now all =
    All-push (IsTold cts) (told ct (total c) ops).waiting _ (told-again ct c cts ops now all)
    (ap (option_map (λ x. nat_le threshold (total x))) now)

-- whether it is due is forgotten
pub posted-new : (a : PostedOp) (ct : Handle) (threshold sum : ℕ) (ops left : Ops) →
    left ≡ with_posted a ct threshold sum (told ct sum ops) → posted_all action_in left ≡ model.with_posted a.action ct threshold
    (posted_all action_in ops)
posted-new a ct threshold sum ops left made = ap (posted_all action_in) made ∙ posted-push a ct threshold sum (told ct sum ops)
    ∙ ap (model.with_posted a.action ct threshold) (posted-tells ct sum ops)
