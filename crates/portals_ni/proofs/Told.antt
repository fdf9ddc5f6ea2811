-- The pending operations are due by how far their counting events are.
use Rattle.std.proofs.Common.{◌≡◌, ℕ, nat_le, Bool, true, false, List, [], ◌∷◌, Option, Some, None, is_some, if◌then◌else◌, refl, sym, ap}
use Rattle.std.proofs.Common.{◌∙◌, arith}
use Rattle.std.specs.Prelude.{All, map, option_map}
use Rattle.std.proofs.lemmas.Bool.Decides.{nat_tests}
use Rattle.std.proofs.lemmas.List.Elements.{All-head, All-tail, All-cons, All-nil}
use Rattle.ptl_types.specs.declared.handles.Handle.{Handle}
use Rattle.ptl_types.specs.declared.handles.Count.{Count}
use Rattle.ptl_types.specs.Handles.{same_handle}
use Rattle.ni_model.specs.Tables.{Table, lookup, names}
use Rattle.ni_model.specs.Counts.{total}
use Rattle.triggered_ops.specs.Operations.{Operation, Operations, waits_on, told, told_if, posted, posted_all}
use Rattle.ni_objects.proofs.users.SumLemmas.{same-is}
use Rattle.portals_ni.specs.declared.posted_op.PostedOp.{PostedOp}
use Rattle.portals_ni.specs.Pendings.{action_in, tell_at, told_by}
use Rattle.portals_ni.specs.Sound.{IsTold}
use Rattle.portals_ni.proofs.Counts.{ChangesAt, changes-none}

pub same-sym : (a b : Handle) → same_handle a b ≡ same_handle b a
same-sym a b = grind (arith, nat_tests)

-- a count that reaches its threshold
abbrev pub reaches : Operation PostedOp → Count → Bool
reaches w c = nat_le w.threshold (total c)

some-there : {A B : Type 0} (f : A → B) (o : Option A) (v : B) → option_map f o ≡ Some v → is_some o ≡ true
some-there f None v e = cc
some-there f (Some x) v e = refl

-- what was told of a counter that did not change
stays : (ct : Option Handle) (old new : Table Count) (w : Operation PostedOp) → ChangesAt ct old new → IsTold old w →
    names ct w.ct ≡ false → IsTold new w
stays ct old new w changes is apart = ap (option_map (reaches w))
    (changes.others w.ct apart (some-there (reaches w) (lookup w.ct old.live) w.due is)) ∙ is

-- what is told of the one that did
anew : (h : Handle) (c : Count) (old new : Table Count) (w : Operation PostedOp) → ChangesAt (Some h) old new →
    lookup h new.live ≡ Some c → IsTold old w → IsTold new (told_if (waits_on h) (total c) w)
anew h c old new w changes now is =
    elim (same_handle w.ct h) as (λ b. same_handle w.ct h ≡ b →
    IsTold new (record w { due = if b then nat_le w.threshold (total c) else w.due })) [
      | true ↦ λ same. let e : w.ct ≡ h = same-is w.ct h same in ap (λ k. option_map (reaches w) (lookup k new.live)) e
          ∙ ap (option_map (reaches w)) now
      | false ↦ λ apart. stays (Some h) old new w changes is (same-sym h w.ct ∙ apart)
    ] refl

gone : (h : Handle) (old new : Table Count) (w : Operation PostedOp) → ChangesAt (Some h) old new → lookup h new.live ≡ None →
    IsTold old w → IsTold new w
gone h old new w changes now is =
    elim (same_handle h w.ct) as (λ b. same_handle h w.ct ≡ b → IsTold new w) [
      | true ↦ λ same.
          let e : h ≡ w.ct = same-is h w.ct same in
          let live : is_some (lookup w.ct new.live) ≡ true = changes.live w.ct (some-there (reaches w) (lookup w.ct old.live) w.due is) in
          let none : lookup w.ct new.live ≡ None = ap (λ k. lookup k new.live) (sym e) ∙ now in
          cc
      | false ↦ λ apart. stays (Some h) old new w changes is apart
    ] refl

each-none : (old new : Table Count) (ws : List (Operation PostedOp)) → ChangesAt None old new → All (IsTold old) ws → All (IsTold new) ws
each-none old new [] changes all = All-nil (IsTold new)
each-none old new (w ∷ ws) changes all = All-cons (IsTold new) w ws (stays None old new w changes (All-head (IsTold old) w ws all) refl)
    (each-none old new ws changes (All-tail (IsTold old) w ws all))

each-gone : (h : Handle) (old new : Table Count) (ws : List (Operation PostedOp)) → ChangesAt (Some h) old new →
    lookup h new.live ≡ None → All (IsTold old) ws → All (IsTold new) ws
each-gone h old new [] changes now all = All-nil (IsTold new)
each-gone h old new (w ∷ ws) changes now all = All-cons (IsTold new) w ws (gone h old new w changes now (All-head (IsTold old) w ws all))
    (each-gone h old new ws changes now (All-tail (IsTold old) w ws all))

each-anew : (h : Handle) (c : Count) (old new : Table Count) (ws : List (Operation PostedOp)) → ChangesAt (Some h) old new →
    lookup h new.live ≡ Some c → All (IsTold old) ws → All (IsTold new) (map (told_if (waits_on h) (total c)) ws)
each-anew h c old new [] changes now all = All-nil (IsTold new)
each-anew h c old new (w ∷ ws) changes now all =
    All-cons (IsTold new) (told_if (waits_on h) (total c) w) (map (told_if (waits_on h) (total c)) ws)
    (anew h c old new w changes now (All-head (IsTold old) w ws all))
    (each-anew h c old new ws changes now (All-tail (IsTold old) w ws all))

at-told : (h : Handle) (o : Option Count) (old new : Table Count) (ops : Operations PostedOp) → ChangesAt (Some h) old new →
    lookup h new.live ≡ o → All (IsTold old) ops.waiting → All (IsTold new) (tell_at h o ops).waiting
at-told h None old new ops changes now all = each-gone h old new ops.waiting changes now all
at-told h (Some c) old new ops changes now all = each-anew h c old new ops.waiting changes now all

-- a counter's change, told to those that wait on it
pub all-told : (ct : Option Handle) (old new : Table Count) (ops : Operations PostedOp) → ChangesAt ct old new →
    All (IsTold old) ops.waiting → All (IsTold new) (told_by ct new ops).waiting
all-told None old new ops changes all = each-none old new ops.waiting changes all
all-told (Some h) old new ops changes all = at-told h (lookup h new.live) old new ops changes refl all

-- what stands already is told again
pub told-again : (h : Handle) (c : Count) (cts : Table Count) (ops : Operations PostedOp) → lookup h cts.live ≡ Some c →
    All (IsTold cts) ops.waiting → All (IsTold cts) (told h (total c) ops).waiting
told-again h c cts ops now all = each-anew h c cts cts ops.waiting (changes-none (Some h) cts) now all

-- ---- telling changes nothing else

pub posted-told : (test : Operation PostedOp → Bool) (sum : ℕ) (ws : List (Operation PostedOp)) →
    map (posted action_in) (map (told_if test sum) ws) ≡ map (posted action_in) ws
posted-told test sum [] = refl
posted-told test sum (w ∷ ws) = rw (posted-told test sum ws) refl

pub posted-tells : (ct : Handle) (sum : ℕ) (ops : Operations PostedOp) → posted_all action_in (told ct sum ops) ≡ posted_all action_in ops
posted-tells ct sum ops = rw (posted-told (waits_on ct) sum ops.waiting) refl

pub posted-tell_at : (h : Handle) (o : Option Count) (ops : Operations PostedOp) → posted_all action_in (tell_at h o ops) ≡ posted_all
    action_in ops
posted-tell_at h None ops = refl
posted-tell_at h (Some c) ops = posted-tells h (total c) ops

pub posted-told_by : (ct : Option Handle) (cts : Table Count) (ops : Operations PostedOp) →
    posted_all action_in (told_by ct cts ops) ≡ posted_all action_in ops
posted-told_by None cts ops = refl
posted-told_by (Some h) cts ops = posted-tell_at h (lookup h cts.live) ops

-- the actions stay, and what holds of each
pub actions-told : (P : PostedOp → Type 0) (test : Operation PostedOp → Bool) (sum : ℕ) (ws : List (Operation PostedOp)) →
    All (λ w. P w.action) ws → All (λ w. P w.action) (map (told_if test sum) ws)
actions-told P test sum [] all = all
actions-told P test sum (w ∷ ws) all =
    All-cons (λ (x : Operation PostedOp). P x.action) (told_if test sum w) (map (told_if test sum) ws)
    (All-head (λ (x : Operation PostedOp). P x.action) w ws all)
    (actions-told P test sum ws (All-tail (λ (x : Operation PostedOp). P x.action) w ws all))

actions-tell_at : (P : PostedOp → Type 0) (h : Handle) (o : Option Count) (ops : Operations PostedOp) → All (λ w. P w.action) ops.waiting →
    All (λ w. P w.action) (tell_at h o ops).waiting
actions-tell_at P h None ops all = all
actions-tell_at P h (Some c) ops all = actions-told P (waits_on h) (total c) ops.waiting all

pub actions-told_by : (P : PostedOp → Type 0) (ct : Option Handle) (cts : Table Count) (ops : Operations PostedOp) →
    All (λ w. P w.action) ops.waiting → All (λ w. P w.action) (told_by ct cts ops).waiting
actions-told_by P None cts ops all = all
actions-told_by P (Some h) cts ops all = actions-tell_at P h (lookup h cts.live) ops all
