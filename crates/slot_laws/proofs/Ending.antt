-- How a call ends under renamed handles.
use Rattle.std.proofs.Common.{◌≡◌, Option, Some, None, refl}
use Rattle.ptl_types.specs.declared.calls.NiFault.{NiFault}
use Rattle.ni_model.specs.State.{State}
use Rattle.ni_model.specs.Calls.{ends_by}
use Rattle.slot_laws.specs.Renaming.{Renaming}
use Rattle.slot_laws.specs.Renamed.{renamed}
use Rattle.slot_laws.proofs.terms.Answered.{renamed_done, renamed_result}

pub ends_by_as : {A : Type 0} (r : Renaming) (f : A → A) (o : Option NiFault) (old new : State) (x : A) →
    ends_by o (renamed r old) (renamed r new) (f x) ≡ renamed_done r (renamed_result f) (ends_by o old new x)
ends_by_as r f None old new x = refl
ends_by_as r f (Some fault) old new x = refl

pub ends_by_same : {A : Type 0} (r : Renaming) (o : Option NiFault) (old new : State) (x : A) →
    ends_by o (renamed r old) (renamed r new) x ≡ renamed_done r (λ y. y) (ends_by o old new x)
ends_by_same r None old new x = refl
ends_by_same r (Some fault) old new x = refl

-- with what it was handed renamed: the same fault, or the new state and the answer renamed
pub ends_by_renamed : {A : Type 0} (r : Renaming) (f : A → A) {o' : Option NiFault} {new' : State} {x' : A} (o : Option NiFault)
    (old new : State) (x : A) → o' ≡ o → new' ≡ renamed r new → x' ≡ f x →
    ends_by o' (renamed r old) new' x' ≡ renamed_done r (renamed_result f) (ends_by o old new x)
ends_by_renamed r f o old new x fault state answer = rw (fault, state, answer) (ends_by_as r f o old new x)

-- where the answer holds no handle
pub ends_by_alike : {A : Type 0} (r : Renaming) {o' : Option NiFault} {new' : State} {x' : A} (o : Option NiFault)
    (old new : State) (x : A) → o' ≡ o → new' ≡ renamed r new → x' ≡ x →
    ends_by o' (renamed r old) new' x' ≡ renamed_done r (λ y. y) (ends_by o old new x)
ends_by_alike r o old new x fault state answer = rw (fault, state, answer) (ends_by_same r o old new x)
