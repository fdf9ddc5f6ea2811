-- How a call ends, by the fault that it finds.
use Rattle.std.proofs.Common.{◌≡◌, ℕ, false, suc, ◌+◌, ◌≤◌, List, [], ◌∷◌, Option, Some, None, Ok, Err, refl, arith}
use Rattle.std.proofs.lemmas.Bool.Decides.{nat_tests}
use Rattle.ptl_types.specs.declared.calls.NiFault.{NiFault}
use Rattle.ptl_types.specs.declared.calls.NiFault.TheVariants.{NoMemory}
use Rattle.ni_model.specs.Tables.{Live, has_slot}
use Rattle.ni_model.specs.State.{State}
use Rattle.ni_model.specs.Calls.{ends, ends_by, MayLackMemory, enough, lacking}
use Rattle.initiator_engine.specs.Initiators.{by_fault}

pub ends-refused : {A : Type 0} (o : Option NiFault) (fault : NiFault) (old new : State) (x : A) → o ≡ Some fault →
    ends old (Err fault) ≡ ends_by o old new x
ends-refused o fault old new x e = rw e refl

pub ends-done : {A : Type 0} (o : Option NiFault) (old new : State) (x : A) → o ≡ None → ends new (Ok x) ≡ ends_by o old new x
ends-done o old new x e = rw e refl

-- ---- what an engine answered

pub fault-is : (o : Option NiFault) (fault : NiFault) → by_fault o ≡ Err fault → o ≡ Some fault
fault-is None fault e = cc
fault-is (Some f) fault e = cc

pub no-fault : (o : Option NiFault) → by_fault o ≡ Ok tt → o ≡ None
no-fault None e = refl
no-fault (Some f) e = cc

-- ---- running out of memory

pub enough-done : {A : Type 0} (o : Option NiFault) (old new : State) (x : A) → o ≡ None →
    MayLackMemory (ends_by o old new x) old (ends new (Ok x))
enough-done o old new x e = rw e enough

pub enough-refused : {A : Type 0} (o : Option NiFault) (fault : NiFault) (old new : State) (x : A) → o ≡ Some fault →
    MayLackMemory (ends_by o old new x) old (ends old (Err fault))
enough-refused o fault old new x e = rw e enough

pub lacks : {A : Type 0} (o : Option NiFault) (old new : State) (x : A) → o ≡ None →
    MayLackMemory (ends_by o old new x) old (ends old (Err NoMemory))
lacks o old new x e = rw e (lacking refl)

-- ---- some slot is free, also where a call is refused

past : {A : Type 0} → List (Live A) → ℕ
past [] = 0
past (x ∷ xs) = suc (x.handle.slot + past xs)

unused : {A : Type 0} (n : ℕ) (xs : List (Live A)) → past xs ≤ n → has_slot n xs ≡ false
unfolding past
unused n [] le = refl
unused n (x ∷ xs) le = grind (arith, nat_tests, unused n xs (omega arith))

pub free_slot : {A : Type 0} → List (Live A) → ℕ
free_slot xs = past xs

pub is-free : {A : Type 0} (xs : List (Live A)) → has_slot (free_slot xs) xs ≡ false
unfolding free_slot
is-free xs = unused (past xs) xs (omega arith)
