-- What each call of an interface leaves as it was: the live things, the known match entries, and how many of each were made.
use Rattle.std.specs.Prelude.{◌≡◌, ℕ, ◌+◌, true, false, ◌&&◌, ◌||◌, not, ◌==◌, ◌⊎◌, Result, Ok, Err}
use Rattle.ptl_types.specs.declared.handles.Handle.{Handle}
use Rattle.ptl_types.specs.declared.calls.Appended.{Appended}
use Rattle.ptl_types.specs.declared.calls.Appended.TheVariants.{Linked as IsLinked, Consumed}
use Rattle.ptl_types.specs.declared.calls.NiFault.{NiFault}
use Rattle.ptl_types.specs.Handles.{same_handle}
use Rattle.ni_model.specs.Tables.{Table, handle, has_slot, is_live}
use Rattle.ni_model.specs.State.{State}
use Rattle.ni_model.specs.Calls.{Done}
use Rattle.slot_laws.specs.Alike.{is_known}

-- ---- tables

-- the same handles are live
pub record Lasts {A : Type 0} (t t' : Table A) : Type 0 where
  pub given : t'.given ≡ t.given
  pub live : (h : Handle) → is_live h t' ≡ is_live h t
  pub slots : (slot : ℕ) → has_slot slot t'.live ≡ has_slot slot t.live

-- one handle more is live, with this slot and the next stamp
pub record Gains {A : Type 0} (slot : ℕ) (t t' : Table A) : Type 0 where
  pub given : t'.given ≡ t.given + 1
  pub live : (h : Handle) → is_live h t' ≡ (same_handle (handle slot t.given) h || is_live h t)
  pub slots : (k : ℕ) → has_slot k t'.live ≡ (has_slot k t.live || slot == k)

-- this handle is live no more
pub record Loses {A : Type 0} (gone : Handle) (t t' : Table A) : Type 0 where
  pub given : t'.given ≡ t.given
  pub live : (h : Handle) → is_live h t' ≡ (is_live h t && not (same_handle h gone))
  pub slots : (slot : ℕ) → has_slot slot t'.live ≡ true → has_slot slot t.live ≡ true

-- ---- a whole interface

-- no thing of the tables comes or goes, so many match entries were made, and those that are known may be
pub record Leaves (given : ℕ) (MayBeKnown : Handle → Type 0) (s s' : State) : Type 0 where
  pub rank : s'.rank ≡ s.rank
  pub ranks : s'.ranks ≡ s.ranks
  pub limits : s'.limits ≡ s.limits
  pub cts : Lasts s.cts s'.cts
  pub eqs : Lasts s.eqs s'.eqs
  pub mds : Lasts s.mds s'.mds
  pub entries : s'.entries_given ≡ given
  pub known : (h : Handle) → is_known h s' ≡ true → MayBeKnown h

-- no handle comes or goes, but that a match entry may be known no more
abbrev pub Keeps : State → State → Type 0
Keeps s s' = Leaves s.entries_given (λ h. is_known h s ≡ true) s s'

-- one match entry more may be known, with this slot and the next stamp
abbrev pub Links : ℕ → State → State → Type 0
Links slot s s' = Leaves (s.entries_given + 1) (λ h. (is_known h s ≡ true) ⊎ (h ≡ handle slot s.entries_given)) s s'

-- ---- calls

-- a call is refused and changes nothing, or answers and leaves what it says
pub data Alters {A : Type 0} (Leaves : State → A → Type 0) (s : State) (d : Done (Result A NiFault)) : Type 0 where
  refused : (fault : NiFault) → d.answer ≡ Err fault → d.state ≡ s → Alters Leaves s d
  altered : (x : A) → d.answer ≡ Ok x → Leaves d.state x → Alters Leaves s d

-- a thing was made under this handle, and all else is as it was
pub record Created {A : Type 0} (slot : ℕ) (t t' : Table A) (s rest : State) (h : Handle) : Type 0 where
  pub named : h ≡ handle slot t.given
  pub gains : Gains slot t t'
  pub keeps : Keeps s rest

-- the thing of this handle was freed, and all else is as it was
pub record Freed {A : Type 0} (gone : Handle) (t t' : Table A) (s rest : State) : Type 0 where
  pub loses : Loses gone t t'
  pub keeps : Keeps s rest

-- a counting event was made
abbrev pub CreatesCount : ℕ → State → State → Handle → Type 0
CreatesCount slot s s' h = Created slot s.cts s'.cts s (record s' { cts = s.cts }) h

-- an event queue was made
abbrev pub CreatesQueue : ℕ → State → State → Handle → Type 0
CreatesQueue slot s s' h = Created slot s.eqs s'.eqs s (record s' { eqs = s.eqs }) h

-- a descriptor was bound
abbrev pub CreatesBound : ℕ → State → State → Handle → Type 0
CreatesBound slot s s' h = Created slot s.mds s'.mds s (record s' { mds = s.mds }) h

-- a counting event was freed
abbrev pub FreesCount : Handle → State → State → Type 0
FreesCount ct s s' = Freed ct s.cts s'.cts s (record s' { cts = s.cts })

-- an event queue was freed
abbrev pub FreesQueue : Handle → State → State → Type 0
FreesQueue eq s s' = Freed eq s.eqs s'.eqs s (record s' { eqs = s.eqs })

-- a descriptor was released
abbrev pub FreesBound : Handle → State → State → Type 0
FreesBound md s s' = Freed md s.mds s'.mds s (record s' { mds = s.mds })

-- an entry was linked under this handle, or took a header
abbrev pub Appends : ℕ → State → State → Appended → Type 0
Appends slot s s' (IsLinked h) = (h ≡ handle slot s.entries_given) × Links slot s s'
Appends slot s s' (Consumed u) = Keeps s s'

-- the entry is known no more
pub record Unlinks (me : Handle) (s s' : State) : Type 0 where
  pub keeps : Keeps s s'
  pub gone : is_known me s' ≡ false
