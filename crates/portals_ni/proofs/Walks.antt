-- A walk over the pending operations, and what it tells of what they name.
use Rattle.std.proofs.Common.{◌≡◌, ℕ, ◌+◌, ◌<◌, ◌≤◌, ◌==◌, nat_lt, Bool, true, false, ◌||◌, List, [], ◌∷◌, Some, Result, Ok, Err, find}
use Rattle.std.proofs.Common.{length, if◌then◌else◌, refl, sym, ap, subst, ◌∙◌, arith}
use Rattle.std.specs.Prelude.{All, map, option_map, OnErr, IfOk}
use Rattle.std.proofs.lemmas.Bool.Decides.{nat_tests}
use Rattle.std.proofs.lemmas.List.Elements.{All-head, All-tail, All-cons, All-nil}
use Rattle.ptl_types.specs.declared.handles.Handle.{Handle}
use Rattle.ptl_types.specs.declared.handles.Count.{Count}
use Rattle.ptl_types.specs.declared.calls.Limits.{Limits}
use Rattle.ptl_types.specs.declared.calls.NiFault.{NiFault}
use Rattle.ptl_types.specs.Handles.{same_handle}
use Rattle.ni_model.specs.declared.Bound.{Bound}
use Rattle.ni_model.specs.Tables.{Table, without}
use Rattle.ni_model.specs.Arrive.{Side}
use Rattle.ni_model.specs.Refusals.{action_names_md, action_names_ct, operation_names_md, operation_names_ct}
use Rattle.initiator_engine.specs.Initiators.{Initiating, with_mds}
use Rattle.triggered_ops.specs.Operations.{Operation, Operations, is_number, numbered, posted, posted_all}
use Rattle.portals_ni.specs.declared.posted_op.PostedOp.{PostedOp}
use Rattle.portals_ni.specs.Pendings.{action_in}
use Rattle.portals_ni.specs.Sound.{IsArmed, IsTold, IsSound}
use Rattle.portals_ni.proofs.Told.{reaches}
use Rattle.portals_ni.proofs.Counts.{lookup-without}
use Rattle.portals_ni.proofs.Homes.{neither, fits-on, holds-without, skips-md, bound-without}

-- a test of what an operation names
abbrev pub Test : Type 0
Test = PostedOp → Handle → Bool

-- some operation passes it
abbrev pub some_op : Test → List (Operation PostedOp) → Bool
some_op f [] = false
some_op f (w ∷ ws) = f w.action w.ct || some_op f ws

-- those below a number don't
abbrev pub NoneBelow : Test → ℕ → List (Operation PostedOp) → Type 0
NoneBelow f from ws = All (λ (q : Operation PostedOp). q.number < from → f q.action q.ct ≡ false) ws

pub walk-start : (f : Test) (ws : List (Operation PostedOp)) → NoneBelow f 0 ws
walk-start f [] = All-nil (λ (q : Operation PostedOp). q.number < 0 → f q.action q.ct ≡ false)
walk-start f (w ∷ ws) = All-cons (λ (q : Operation PostedOp). q.number < 0 → f q.action q.ct ≡ false) w ws (λ lt. absurd (omega arith))
    (walk-start f ws)

-- from a number on, no other waits up to the one that was found
abbrev pub AloneAt : ℕ → ℕ × PostedOp × Handle × ℕ → List (Operation PostedOp) → Type 0
AloneAt from p ws = All (λ (q : Operation PostedOp). from ≤ q.number → q.number ≤ p.0 → numbered q ≡ p) ws

same-parts : (q : Operation PostedOp) (n : ℕ) (a : PostedOp) (h : Handle) (th : ℕ) (f : Test) → numbered q ≡ (n, a, h, th) →
    f a h ≡ false → f q.action q.ct ≡ false
same-parts q n a h th f e none = let P : ℕ × PostedOp × Handle × ℕ → Type 0 = λ p. f p.1 p.2 ≡ false in subst P (sym e) none

walk-one : (f : Test) (from n : ℕ) (a : PostedOp) (h : Handle) (th : ℕ) (q : Operation PostedOp) →
    (q.number < from → f q.action q.ct ≡ false) → (from ≤ q.number → q.number ≤ n → numbered q ≡ (n, a, h, th)) → f a h ≡ false →
    q.number < n + 1 → f q.action q.ct ≡ false
walk-one f from n a h th q below alone none lt =
    elim (nat_lt q.number from) as (λ b. nat_lt q.number from ≡ b → f q.action q.ct ≡ false) [
      | true ↦ λ is. below (grind (arith, nat_tests))
      | false ↦ λ is. same-parts q n a h th f (alone (grind (arith, nat_tests)) (omega arith)) none
    ] refl

pub walk-next : (f : Test) (from n : ℕ) (a : PostedOp) (h : Handle) (th : ℕ) (ws : List (Operation PostedOp)) → NoneBelow f from ws →
    AloneAt from (n, a, h, th) ws → f a h ≡ false → NoneBelow f (n + 1) ws
walk-next f from n a h th [] below alone none = All-nil (λ (q : Operation PostedOp). q.number < n + 1 → f q.action q.ct ≡ false)
walk-next f from n a h th (w ∷ ws) below alone none =
    All-cons (λ (q : Operation PostedOp). q.number < n + 1 → f q.action q.ct ≡ false) w ws
    (walk-one f from n a h th w (All-head (λ (q : Operation PostedOp). q.number < from → f q.action q.ct ≡ false) w ws below)
    (All-head (λ (q : Operation PostedOp). from ≤ q.number → q.number ≤ n → numbered q ≡ (n, a, h, th)) w ws alone) none)
    (walk-next f from n a h th ws (All-tail (λ (q : Operation PostedOp). q.number < from → f q.action q.ct ≡ false) w ws below)
    (All-tail (λ (q : Operation PostedOp). from ≤ q.number → q.number ≤ n → numbered q ≡ (n, a, h, th)) w ws alone) none)

pub walk-end : (f : Test) (from : ℕ) (ws : List (Operation PostedOp)) → NoneBelow f from ws →
    All (λ (q : Operation PostedOp). q.number < from) ws → some_op f ws ≡ false
walk-end f from [] below all = refl
walk-end f from (w ∷ ws) below all =
    let first : f w.action w.ct ≡ false = All-head (λ (q : Operation PostedOp). q.number < from → f q.action q.ct ≡ false) w ws below
    (All-head (λ (q : Operation PostedOp). q.number < from) w ws all) in
    let rest : some_op f ws ≡ false = walk-end f from ws (All-tail (λ (q : Operation PostedOp). q.number < from → f q.action q.ct ≡ false) w
    ws below) (All-tail (λ (q : Operation PostedOp). q.number < from) w ws all) in
    rw (first, rest) refl

or-true : (a : Bool) → a || true ≡ true
or-true true = refl
or-true false = refl

pub walk-found : (f : Test) (t : ℕ) (a : PostedOp) (h : Handle) (th : ℕ) (ws : List (Operation PostedOp)) →
    option_map numbered (find (is_number t) ws) ≡ Some (t, a, h, th) → f a h ≡ true → some_op f ws ≡ true
walk-found f t a h th [] e is = cc
walk-found f t a h th (w ∷ ws) e is =
    elim (w.number == t) as (λ b. option_map numbered (if b then Some w else find (is_number t) ws) ≡ Some (t, a, h, th) →
    some_op f (w ∷ ws) ≡ true) [
      | true ↦ λ e.
          let same : numbered w ≡ (t, a, h, th) = cc in
          let P : ℕ × PostedOp × Handle × ℕ → Type 0 = λ p. f p.1 p.2 ≡ true in
          let first : f w.action w.ct ≡ true = subst P (sym same) is in
          rw first refl
      | false ↦ λ e. rw (walk-found f t a h th ws e is) (or-true (f w.action w.ct))
    ] e

-- ---- descriptors

abbrev pub uses_md : Handle → Test
uses_md md = λ a h. action_names_md md a.action

pub md-named : (md : Handle) (ws : List (Operation PostedOp)) → operation_names_md md (map (posted action_in) ws) ≡ some_op (uses_md md) ws
md-named md [] = refl
md-named md (w ∷ ws) = rw (md-named md ws) refl

-- ---- counting events

abbrev pub uses_ct : Handle → Test
uses_ct ct = λ a h. same_handle h ct || action_names_ct ct a.action

pub ct-named : (ct : Handle) (ws : List (Operation PostedOp)) → operation_names_ct ct (map (posted action_in) ws) ≡ some_op (uses_ct ct) ws
ct-named ct [] = refl
ct-named ct (w ∷ ws) = rw (ct-named ct ws) refl

-- ---- what none of them names may go

armed-without : (md : Handle) (mds : Table Bound) (ranks : ℕ) (limits : Limits) (ws : List (Operation PostedOp)) →
    operation_names_md md (map (posted action_in) ws) ≡ false → All (λ w. IsArmed mds ranks limits w.action) ws →
    All (λ w. IsArmed (without md mds) ranks limits w.action) ws
armed-without md mds ranks limits [] none all = All-nil (λ (w : Operation PostedOp). IsArmed (without md mds) ranks limits w.action)
armed-without md mds ranks limits (w ∷ ws) none all =
    let apart = neither (action_names_md md w.action.action) (operation_names_md md (map (posted action_in) ws)) none in
    let is : IsArmed mds ranks limits w.action = All-head (λ (v : Operation PostedOp). IsArmed mds ranks limits v.action) w ws all in
    All-cons (λ (v : Operation PostedOp). IsArmed (without md mds) ranks limits v.action) w ws
    (record {
      fits = fits-on (λ k. same_handle k md) mds (without md mds) w.action.action (holds-without md mds)
          (sym (skips-md md w.action.action) ∙ apart.0) is.fits;
      may = is.may;
      room = is.room;
      counts = is.counts;
    })
    (armed-without md mds ranks limits ws apart.1 (All-tail (λ (v : Operation PostedOp). IsArmed mds ranks limits v.action) w ws all))

pub released-sound : (t : Side) (r : List ℕ) (c : Table Count) (i : Initiating) (ops : Operations PostedOp) (md : Handle) →
    IsSound t r c i ops → operation_names_md md (posted_all action_in ops).waiting ≡ false →
    IsSound t r c (with_mds (without md i.mds) i) ops
released-sound t r c i ops md is none = record {
  rank = is.rank;
  limit = is.limit;
  parts = is.parts;
  bound = bound-without (length r) md i.mds is.bound;
  armed = armed-without md i.mds i.ranks i.limits ops.waiting none is.armed;
  told = is.told;
}

told-without : (ct : Handle) (cts : Table Count) (ws : List (Operation PostedOp)) →
    operation_names_ct ct (map (posted action_in) ws) ≡ false → All (IsTold cts) ws → All (IsTold (without ct cts)) ws
told-without ct cts [] none all = All-nil (IsTold (without ct cts))
told-without ct cts (w ∷ ws) none all =
    let apart = neither (same_handle w.ct ct || action_names_ct ct w.action.action) (operation_names_ct ct (map (posted action_in) ws))
    none in
    let other = neither (same_handle w.ct ct) (action_names_ct ct w.action.action) apart.0 in
    All-cons (IsTold (without ct cts)) w ws
    (ap (option_map (reaches w)) (lookup-without w.ct ct cts.live other.0) ∙ All-head (IsTold cts) w ws all)
    (told-without ct cts ws apart.1 (All-tail (IsTold cts) w ws all))

pub freed-sound : (t : Side) (r : List ℕ) (c : Table Count) (i : Initiating) (ops : Operations PostedOp) (ct : Handle) →
    IsSound t r c i ops → operation_names_ct ct (posted_all action_in ops).waiting ≡ false → IsSound t r (without ct c) i ops
freed-sound t r c i ops ct is none = record {
  rank = is.rank;
  limit = is.limit;
  parts = is.parts;
  bound = is.bound;
  armed = is.armed;
  told = told-without ct c ops.waiting none is.told;
}

-- a release, by its answer
pub release-sound : (t : Side) (r : List ℕ) (c : Table Count) (i j : Initiating) (ops : Operations PostedOp) (md : Handle)
    (res : Result (Unit {0}) NiFault) → IsSound t r c i ops → operation_names_md md (posted_all action_in ops).waiting ≡ false →
    OnErr res (j ≡ i) → IfOk res (λ _. j ≡ with_mds (without md i.mds) i) → IsSound t r c j ops
release-sound t r c i j ops md (Ok x) is none unchanged released =
    subst (λ y. IsSound t r c y ops) (sym released) (released-sound t r c i ops md is none)
release-sound t r c i j ops md (Err fault) is none unchanged released = subst (λ y. IsSound t r c y ops) (sym unchanged) is
