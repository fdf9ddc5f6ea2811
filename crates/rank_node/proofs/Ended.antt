-- What the answer of a call says of the state that it left.
use Rattle.std.proofs.Common.{◌≡◌, ℕ, Bool, false, Option, Some, None, Result, Ok, Err, refl, ap, ◌∙◌, sym}
use Rattle.ptl_types.specs.declared.handles.Handle.{Handle}
use Rattle.ptl_types.specs.declared.entries.Entry.{Entry}
use Rattle.ptl_types.specs.declared.entries.List.{List as EntryList}
use Rattle.ptl_types.specs.declared.entries.List.TheVariants.{Priority, Overflow}
use Rattle.ptl_types.specs.declared.calls.NiFault.{NiFault}
use Rattle.ptl_types.specs.declared.calls.Appended.TheVariants.{Linked}
use Rattle.ptl_types.specs.declared.calls.NiFault.TheVariants.{NoMemory}
use Rattle.ni_model.specs.Tables.{handle}
use Rattle.ni_model.specs.Append.{append, append_fault}
use Rattle.ni_model.specs.State.{State, parts_of, with_parts}
use Rattle.ni_model.specs.Calls.{Done, ends, ends_by, Makes, MayLackMemory, me_append}
use Rattle.ni_model.specs.Calls.MayLackMemory.{enough, lacking}

-- a call that answers Ok was not refused
pub record Went {A : Type 0} (q new : State) (a x : A) : Type 0 where
  pub state : q ≡ new
  pub answer : a ≡ x

pub went : {A : Type 0} (o : Option NiFault) (old new q : State) (x a : A) → ends q (Ok a) ≡ ends_by o old new x → Went q new a x
went {A} None old new q x a e =
    let answers : Ok a ≡ Ok x = ap (λ (d : Done (Result A NiFault)). d.answer) e in
    record { state = ap (λ (d : Done (Result A NiFault)). d.state) e; answer = cc }
went {A} (Some fault) old new q x a e =
    let answers : Ok a ≡ Err fault = ap (λ (d : Done (Result A NiFault)). d.answer) e in
    absurd cc

-- nor did it lack memory
had_memory : {A : Type 0} (call end : Done (Result A NiFault)) (old q : State) (a : A) → MayLackMemory call old end →
    end ≡ ends q (Ok a) → ends q (Ok a) ≡ call
had_memory call end old q a enough e = sym e
had_memory {A} call end old q a (lacking ok) e =
    let answers : Err NoMemory ≡ Ok a = ap (λ (d : Done (Result A NiFault)). d.answer) e in
    absurd cc

pub went_with : {A : Type 0} (o : Option NiFault) (old new q : State) (x a : A) → MayLackMemory (ends_by o old new x) old (ends q (Ok a))
    → Went q new a x
went_with o old new q x a may = went o old new q x a (had_memory (ends_by o old new x) (ends q (Ok a)) old q a may refl)

-- a thing that was made has some slot
pub record Got (q : State) (h : Handle) (given : ℕ) (new : ℕ → State) : Type 0 where
  pub state : q ≡ new h.slot
  pub stamp : h.stamp ≡ given

pub got : (taken : ℕ → Bool) (o : Option NiFault) (old q : State) (given : ℕ) (new : ℕ → State) (h : Handle) →
    Makes taken (λ slot. ends_by o old (new slot) (handle slot given)) (ends q (Ok h)) → Got q h given new
got taken o old q given new h makes =
    let w = went o old (new makes.slot) q (handle makes.slot given) h makes.ended in
    record { state = w.state ∙ ap new (sym (ap (λ (k : Handle). k.slot) w.answer)); stamp = ap (λ (k : Handle). k.stamp) w.answer }

-- a persistent entry is linked, in either list
pub linked-persistent : (slot pt : ℕ) (list : EntryList) (e : Entry) (s : State) → e.use_once ≡ false →
    (append slot pt list e (parts_of s)).appended ≡ Linked (handle slot s.entries_given)
unfolding append
linked-persistent slot pt Priority e s persistent = rw persistent refl
linked-persistent slot pt Overflow e s persistent = refl

pub linked : (taken : ℕ → Bool) (pt : ℕ) (list : EntryList) (e : Entry) (old q : State) (h : Handle) → e.use_once ≡ false →
    Makes taken (λ slot. me_append slot pt list e old) (ends q (Ok (Linked h))) →
    Got q h old.entries_given (λ slot. with_parts (append slot pt list e (parts_of old)).parts old)
linked taken pt list e old q h persistent makes =
    let w = went (append_fault pt e (parts_of old)) old (with_parts (append makes.slot pt list e (parts_of old)).parts old) q
    (append makes.slot pt list e (parts_of old)).appended (Linked h) makes.ended in
    let same : Linked h ≡ Linked (handle makes.slot old.entries_given) = w.answer ∙ linked-persistent makes.slot pt list e old persistent in
    let is : h ≡ handle makes.slot old.entries_given = cc in
    record {
      state = w.state ∙ ap (λ (k : Handle). with_parts (append k.slot pt list e (parts_of old)).parts old) (sym is);
      stamp =
          ap (λ (k : Handle). k.stamp) is;
    }

-- a call that answers a fault changed nothing
pub record Refused (o : Option NiFault) (q old : State) (fault : NiFault) : Type 0 where
  pub is : o ≡ Some fault
  pub state : q ≡ old

pub refused : {A : Type 0} (o : Option NiFault) (old new q : State) (x : A) (fault : NiFault) → ends q (Err fault) ≡ ends_by o old new x →
    Refused o q old fault
refused {A} None old new q x fault e =
    let answers : Err fault ≡ Ok x = ap (λ (d : Done (Result A NiFault)). d.answer) e in
    absurd cc
refused {A} (Some f) old new q x fault e =
    let answers : Err fault ≡ Err f = ap (λ (d : Done (Result A NiFault)). d.answer) e in
    record { is = cc; state = ap (λ (d : Done (Result A NiFault)). d.state) e }
