-- What the words of a call name, at two interfaces that differ in the slots of handles alone.
use Rattle.std.proofs.Common.{◌≡◌, ℕ, List, Option, Some, None, option_map, refl, ap, ap₂, sym, ◌∙◌}
use Rattle.std.specs.Prelude.{unwrap_or}
use Rattle.ptl_types.specs.declared.handles.Handle.{Handle}
use Rattle.ptl_types.specs.declared.calls.TriggeredOp.{TriggeredOp}
use Rattle.ptl_types.specs.declared.calls.TriggeredOp.TheVariants.{Put, Get, Atomic, FetchAtomic, Swap, Inc, Set}
use Rattle.log_words.specs.Words.{Word}
use Rattle.log_words.specs.declared.call_fields.said.TheConstants.{NO_HANDLE}
use Rattle.log_words.specs.declared.call_fields.said.EntrySaid.{EntrySaid}
use Rattle.log_words.specs.declared.call_fields.said.MdSaid.{MdSaid}
use Rattle.log_lines.specs.declared.calls.TriggeredOpSaid.{TriggeredOpSaid}
use Rattle.log_answers.specs.declared.names.postings.Postings.{Postings}
use Rattle.log_answers.specs.declared.owed.Sort.{Sort}
use Rattle.log_answers.specs.declared.owed.Sort.TheVariants.{Counter, Queue, Descriptor, Entry}
use Rattle.log_answers.specs.names.Names.{thing_of}
use Rattle.log_answers.specs.names.Postings.{number_of}
use Rattle.log_seats.specs.Answers.{deed_of, deed_with, entry_of, md_of, sort_of}
use Rattle.log_seats.specs.Seats.{handle_if, handle_of, names_at, operation_of}
use Rattle.log_seats.specs.declared.seats.Seat.{Seat}
use Rattle.slot_laws.specs.Renaming.{Renaming}
use Rattle.slot_laws.specs.Renamed.{renamed_action, renamed_entry, renamed_md}
use Rattle.slot_laws.specs.Told.{renaming_of}
use Rattle.slot_laws.specs.Alike.{KeepsNone, AlikeButEntries}

-- a sort whose things have a table
abbrev pub HasTable : Sort → Type 0
HasTable Entry = ⊥
HasTable _ = Unit {0}

-- ---- handles

none_renamed : (r : Renaming) → KeepsNone r → (rank : ℕ) (sort : Sort) → renaming_of r rank sort NO_HANDLE ≡ NO_HANDLE
none_renamed r k rank Counter = k.ct
none_renamed r k rank Queue = k.eq
none_renamed r k rank Descriptor = k.md rank
none_renamed r k rank Entry = k.me

or_none_renamed : (f : Handle → Handle) (o : Option Handle) → f NO_HANDLE ≡ NO_HANDLE →
    unwrap_or (option_map f o) NO_HANDLE ≡ f (unwrap_or o NO_HANDLE)
or_none_renamed f None none = sym none
or_none_renamed f (Some h) none = refl

module _ (r : Renaming) (s t : Seat) (near : AlikeButEntries r s t) where
  pub thing_of_renamed : (sort : Sort) → HasTable sort → (w : List ℕ) →
      thing_of w (names_at sort t) ≡ option_map (renaming_of r s.nic.rank sort) (thing_of w (names_at sort s))
  thing_of_renamed Counter is w = near.counters.things w
  thing_of_renamed Queue is w = near.queues.things w
  thing_of_renamed Descriptor is w = near.descriptors.things w
  thing_of_renamed Entry is w = absurd is

  pub handle_of_renamed : KeepsNone r → (sort : Sort) → HasTable sort → (w : Word) →
      handle_of sort t w ≡ renaming_of r s.nic.rank sort (handle_of sort s w)
  handle_of_renamed k sort is w =
      ap (λ (o : Option Handle). unwrap_or o NO_HANDLE) (thing_of_renamed sort is w.text)
      ∙ or_none_renamed (renaming_of r s.nic.rank sort) (thing_of w.text (names_at sort s)) (none_renamed r k s.nic.rank sort)

  pub handle_if_renamed : KeepsNone r → (sort : Sort) → HasTable sort → (w : Option Word) →
      handle_if sort t w ≡ option_map (renaming_of r s.nic.rank sort) (handle_if sort s w)
  handle_if_renamed k sort is None = refl
  handle_if_renamed k sort is (Some w) = ap Some (handle_of_renamed k sort is w)

  pub operation_of_alike : (w : Word) → operation_of t w ≡ operation_of s w
  operation_of_alike w = ap (λ (p : Postings). number_of w.text p) near.operations

  -- ---- entries, descriptors and operations with their handles

  pub entry_of_renamed : KeepsNone r → (e : EntrySaid) → entry_of t e ≡ renamed_entry r (entry_of s e)
  entry_of_renamed k e = ap (λ (ct : Option Handle). record e.entry { ct = ct }) (handle_if_renamed k Counter tt e.ct)

  pub md_of_renamed : KeepsNone r → (m : MdSaid) → md_of t m ≡ renamed_md r (md_of s m)
  md_of_renamed k m =
      ap₂ (λ (eq ct : Option Handle). record m.md { eq = eq; ct = ct }) (handle_if_renamed k Queue tt m.eq)
      (handle_if_renamed k Counter tt m.ct)

  deed_with_renamed : (d : TriggeredOp) (on back : Handle) →
      deed_with d (renaming_of r s.nic.rank (sort_of d) on) (r.md s.nic.rank back) ≡ renamed_action r s.nic.rank (deed_with d on back)
  deed_with_renamed (Put a) on back = refl
  deed_with_renamed (Get g) on back = refl
  deed_with_renamed (Atomic a op ty) on back = refl
  deed_with_renamed (FetchAtomic g a op ty) on back = refl
  deed_with_renamed (Swap g a op ty operand) on back = refl
  deed_with_renamed (Inc ct by) on back = refl
  deed_with_renamed (Set ct to) on back = refl

  sort_has_table : (d : TriggeredOp) → HasTable (sort_of d)
  sort_has_table (Put a) = tt
  sort_has_table (Get g) = tt
  sort_has_table (Atomic a op ty) = tt
  sort_has_table (FetchAtomic g a op ty) = tt
  sort_has_table (Swap g a op ty operand) = tt
  sort_has_table (Inc ct by) = tt
  sort_has_table (Set ct to) = tt

  pub deed_of_renamed : KeepsNone r → (d : TriggeredOpSaid) → deed_of t d ≡ renamed_action r s.nic.rank (deed_of s d)
  deed_of_renamed k d =
      ap₂ (deed_with d.deed) (handle_of_renamed k (sort_of d.deed) (sort_has_table d.deed) d.on)
      (ap (λ (o : Option Handle). unwrap_or o NO_HANDLE) (handle_if_renamed k Descriptor tt d.back)
      ∙ or_none_renamed (r.md s.nic.rank) (handle_if Descriptor s d.back) (k.md s.nic.rank))
      ∙ deed_with_renamed d.deed (handle_of (sort_of d.deed) s d.on) (unwrap_or (handle_if Descriptor s d.back) NO_HANDLE)
