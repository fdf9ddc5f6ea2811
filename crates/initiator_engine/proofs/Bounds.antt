-- A descriptor that is found has what each has.
use Rattle.std.proofs.Common.{◌≡◌, ℕ, true, false, List, [], ◌∷◌, Option, Some, None, if◌then◌else◌, subst}
use Rattle.std.specs.Prelude.{All, ◌+◌, ◌≤◌, nat_le}
use Rattle.std.proofs.Common.{arith}
use Rattle.std.proofs.lemmas.Bool.Decides.{nat_tests}
use Rattle.ptl_types.specs.declared.calls.PutArgs.{PutArgs}
use Rattle.ni_model.specs.Refusals.{put_fits, holds_part}
use Rattle.ni_model.specs.Conditions.{IsBoundIn}
use Rattle.initiator_engine.specs.Initiators.{AreBoundIn}
use Rattle.std.proofs.lemmas.List.Elements.{All-head, All-tail}
use Rattle.ptl_types.specs.declared.handles.Handle.{Handle}
use Rattle.ptl_types.specs.Handles.{same_handle}
use Rattle.ni_model.specs.Tables.{Live, Table, lookup}
use Rattle.ni_model.specs.Answers.{bound_at}
use Rattle.ni_model.specs.declared.Bound.{Bound}

pub lookup_has : {A : Type 0} (P : A → Type 0) (h : Handle) (xs : List (Live A)) (v : A) → All (λ x. P x.value) xs →
    lookup h xs ≡ Some v → P v
lookup_has P h [] v all e = cc
lookup_has P h (x ∷ xs) v all e =
    elim (same_handle x.handle h) as (λ b. (if b then Some x.value else lookup h xs) ≡ Some v → P v) [
      | true ↦ λ is. let g : x.value ≡ v = cc in subst P g (All-head (λ x. P x.value) x xs all)
      | false ↦ λ is. lookup_has P h xs v (All-tail (λ x. P x.value) x xs all) is
    ] e

pub bound_has : (P : Bound → Type 0) (h : Option Handle) (mds : Table Bound) (v : Bound) → All (λ x. P x.value) mds.live →
    bound_at h mds ≡ Some v → P v
bound_has P None mds v all e = cc
bound_has P (Some h) mds v all e = lookup_has P h mds.live v all e

-- the part that put arguments name lies in the region
pub part-fits : (n : ℕ) (a : PutArgs) (mds : Table Bound) (b : Bound) → AreBoundIn n mds → put_fits a mds ≡ true →
    lookup a.md mds.live ≡ Some b → b.md.start + a.local_offset + a.length ≤ n
part-fits n a mds b all fits e =
    let P : Option Bound → Type 0 = λ o. holds_part o a.local_offset a.length ≡ true in
    let fit : nat_le (a.local_offset + a.length) b.md.length ≡ true = subst P e fits in
    let part : b.md.start + b.md.length ≤ n = lookup_has (IsBoundIn n) a.md mds.live b all e in
    grind (arith, nat_tests)
