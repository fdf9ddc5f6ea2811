-- No match entry has the handle that no thing has: not in a new interface, and not after any call.
use Rattle.std.proofs.Common.{◌≡◌, ℕ, zero, suc, Bool, true, false, ◌||◌, not, nat_le, List, Option, Some, None, Ok}
use Rattle.std.proofs.Common.{refl, ap, sym, ◌∙◌, subst, inl, inr, ◌⊎◌}
use Rattle.std.specs.Prelude.{replicate}
use Rattle.std.proofs.lemmas.Bool.{or_parts, true≢false}
use Rattle.ptl_types.specs.declared.handles.Handle.{Handle}
use Rattle.ptl_types.specs.declared.entries.Entry.{Entry}
use Rattle.ptl_types.specs.declared.entries.List.{List as EntryList}
use Rattle.ptl_types.specs.declared.calls.Appended.TheVariants.{Linked as IsLinked, Consumed}
use Rattle.ptl_types.specs.declared.calls.Limits.{Limits}
use Rattle.ptl_types.specs.declared.calls.NiFault.{NiFault}
use Rattle.ptl_types.specs.Handles.{top}
use Rattle.ni_model.specs.Tables.{handle}
use Rattle.ni_model.specs.Refusals.{is_linked_anywhere}
use Rattle.ni_model.specs.Append.{append, append_fault, is_allocated, linked_count}
use Rattle.ni_model.specs.State.{State, opened, parts_of, side_of, with_parts}
use Rattle.ni_model.specs.Calls.{ends_by, me_append}
use Rattle.initiator_engine.proofs.Starting.{need-later, need-test}
use Rattle.portals_ni.proofs.Kept.{not-false}
use Rattle.log_words.specs.declared.call_fields.said.TheConstants.{NO_HANDLE}
use Rattle.slot_laws.proofs.terms.Lasting.{Alters, altered, refused, Appends, Keeps}
use Rattle.slot_laws.specs.Alike.{KnownIn}
use Rattle.slot_laws.proofs.Leaving.{me_append_leaves}

abbrev pub NothingKnown : State → Type 0
NothingKnown s = KnownIn s NO_HANDLE → ⊥

-- ---- a new interface

pub none_linked : (h : Handle) (n : ℕ) → is_linked_anywhere h (replicate n None) ≡ false
none_linked h zero = refl
none_linked h (suc n) = none_linked h n

pub opened_nothing : (rank ranks : ℕ) (limits : Limits) (region : List ℕ) → NothingKnown (opened rank ranks limits region)
opened_nothing rank ranks limits region is =
    true≢false (sym is ∙ ap (λ b. b || false) (none_linked NO_HANDLE limits.pts))

-- ---- calls

pub keeps_nothing : (s s' : State) → Keeps s s' → NothingKnown s → NothingKnown s'
keeps_nothing s s' keeps nothing is = nothing (keeps.known NO_HANDLE is)

-- a stamp is given where stamps are left
append_below : (pt : ℕ) (e : Entry) (s : State) → append_fault pt e (parts_of s) ≡ None → s.entries_given ≡ top → ⊥
append_below pt e s none last =
    let full : Bool = nat_le s.limits.entries (linked_count (side_of s)) in
    let room : not (full || nat_le top s.entries_given) ≡ true =
    need-test _ _ _ (need-later _ _ _ (need-later (is_allocated pt (side_of s)) _ _ none)) in
    let below : nat_le top s.entries_given ≡ false =
    (or_parts full (nat_le top s.entries_given) (not-false (full || nat_le top s.entries_given) room)).1 in
    true≢false (ap (nat_le top) (sym last) ∙ below)

links_not_nothing : (slot pt : ℕ) (list : EntryList) (e : Entry) (s : State) (h : Handle) →
    (me_append slot pt list e s).answer ≡ Ok (IsLinked h) → NO_HANDLE ≡ handle slot s.entries_given → ⊥
links_not_nothing slot pt list e s h is same =
    by_fault (append_fault pt e (parts_of s)) (append_below pt e s) is
  where
    by_fault : (o : Option NiFault) → (o ≡ None → s.entries_given ≡ top → ⊥) →
        (ends_by o s (with_parts (append slot pt list e (parts_of s)).parts s) (append slot pt list e (parts_of s)).appended).answer
        ≡ Ok (IsLinked h) → ⊥
    by_fault None below links = below refl (ap (λ (x : Handle). x.stamp) (sym same))
    by_fault (Some fault) below links = cc

append_nothing_by : (slot pt : ℕ) (list : EntryList) (e : Entry) (s : State) → Alters (Appends slot s) s (me_append slot pt list e s) →
    NothingKnown s → NothingKnown (me_append slot pt list e s).state
append_nothing_by slot pt list e s (refused fault answer state) nothing is = nothing (subst (λ n. KnownIn n NO_HANDLE) state is)
append_nothing_by slot pt list e s (altered (IsLinked h) answer leaves) nothing is = known_or_new (leaves.1.known NO_HANDLE is)
  where
    known_or_new : (KnownIn s NO_HANDLE) ⊎ (NO_HANDLE ≡ handle slot s.entries_given) → ⊥
    known_or_new (inl known) = nothing known
    known_or_new (inr new) = links_not_nothing slot pt list e s h answer new
append_nothing_by slot pt list e s (altered (Consumed u) answer leaves) nothing is = nothing (leaves.known NO_HANDLE is)

pub append_nothing : (slot pt : ℕ) (list : EntryList) (e : Entry) (s : State) → NothingKnown s →
    NothingKnown (me_append slot pt list e s).state
append_nothing slot pt list e s nothing is =
    append_nothing_by slot pt list e s (me_append_leaves slot pt list e s) nothing is
