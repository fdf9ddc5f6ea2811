-- What calls of tables, and calls that ask, leave: things of a slot each, and words of those that are live alone.
use Rattle.std.proofs.Common.{◌≡◌, ℕ, nat_lt, length, Bool, true, false, ◌||◌, not, ◌==◌, List, [], ◌∷◌, Option, Some, None}
use Rattle.std.proofs.Common.{Result, Ok, Err, refl, ap, sym, ◌∙◌, is_some, cond, inl, inr, ◌⊎◌}
use Rattle.std.proofs.lemmas.Bool.{and_from, and_parts, eq-eqb, or_left, or_right, true≢false}
use Rattle.ptl_types.specs.declared.handles.Handle.{Handle}
use Rattle.ptl_types.specs.declared.entries.Descriptor.{Descriptor}
use Rattle.ptl_types.specs.declared.entries.UnexpectedHeader.{UnexpectedHeader}
use Rattle.ptl_types.specs.declared.calls.NiFault.{NiFault}
use Rattle.ptl_types.specs.Handles.{same_handle}
use Rattle.ni_model.specs.Tables.{Live as LiveThing, Table, handle, has_slot, is_live, lookup, with_new, without}
use Rattle.ni_model.specs.Counts.{successes}
use Rattle.ni_model.specs.State.{State}
use Rattle.ni_model.specs.Queues.{queue}
use Rattle.ni_model.specs.Refusals.{alloc_fault, bind_fault, ct_free_fault, eq_free_fault, release_fault}
use Rattle.ni_model.specs.Calls as calls
use Rattle.ni_model.specs.Calls.{Done, ends, ends_by}
use Rattle.guarded_ni.specs.declared.faults.Misuse.TheVariants as misuses
use Rattle.guarded_ni.specs.Misuses.{unless}
use Rattle.log_answers.specs.declared.names.names.Names.{Names}
use Rattle.log_answers.specs.declared.owed.Owed.TheVariants as owed
use Rattle.log_answers.specs.declared.owed.Sort.TheVariants.{Counter, Queue, Descriptor as Md}
use Rattle.log_answers.specs.names.Names.{cleared, word_of}
use Rattle.log_seats.specs.Answers.{after, counts, fault_word, found, frees, lane_owed, misuse_word, new, number, outside}
use Rattle.log_seats.specs.Answers.{reads, ready_at_owed, ready_owed, says, tells, told, unless_misused, yes}
use Rattle.log_seats.specs.declared.seats.Seat.{Seat}
use Rattle.slot_laws.specs.Naming.{IsRising, OnlyAtItsSlot, WordsKnown}
use Rattle.slot_laws.proofs.terms.Lasting.{Gains, Loses}
use Rattle.slot_laws.specs.Alike.{IsConsistent, IsConsistentAfter, Live, SlotsApart}
use Rattle.slot_laws.proofs.Lasting.{gains_new as gains_with_new, loses_without}
use Rattle.slot_laws.proofs.Named.{AreRising}
use Rattle.slot_laws.proofs.SeatAsks.{lane_plain, plain_none, ready_at_plain, ready_owed_plain}
use Rattle.slot_laws.proofs.SeatOrder.{Stays, asks_stays, found_none, misused_stays, stays_ordered, told_none}
use Rattle.slot_laws.proofs.Naming.{cleared_known, same_handle-apart}
use Rattle.ni_objects.proofs.users.SumLemmas.{same-is, same-self}

-- ---- tables

module _ {A : Type 0} where
  -- a live thing has its slot
  slot_of_live : (h : Handle) (xs : List (LiveThing A)) → is_some (lookup h xs) ≡ true → has_slot h.slot xs ≡ true
  slot_of_live h [] e = e
  slot_of_live h (x ∷ xs) e =
      elim (same_handle x.handle h) as (λ b. same_handle x.handle h ≡ b → is_some (cond b (Some x.value) (lookup h xs)) ≡ true →
      ((x.handle.slot == h.slot) || has_slot h.slot xs) ≡ true) [
        | true ↦ λ same is.
            or_left (x.handle.slot == h.slot) _
            (eq-eqb x.handle.slot h.slot (ap (λ (k : Handle). k.slot) (same-is x.handle h same)))
        | false ↦ λ apart is. or_right (x.handle.slot == h.slot) _ (slot_of_live h xs is)
      ] refl e

  -- so none is live at a slot that is free
  not_at_free : (slot : ℕ) (t : Table A) → has_slot slot t.live ≡ false → (h : Handle) → Live t h → h.slot ≡ slot → ⊥
  not_at_free slot t free h live there =
      true≢false (sym (slot_of_live h t.live live) ∙ ap (λ n. has_slot n t.live) there ∙ free)

  pub only_one : (h : Handle) (t : Table A) (n : Names) → WordsKnown (Live t) n → SlotsApart (Live t) → Live t h → OnlyAtItsSlot h n
  only_one h t n words apart live k there has = apart k h (words k has) live there

module _ {A : Type 0} (t t' : Table A) (n : Names) where
  -- ---- one thing more, at a slot that was free

  module _ (slot : ℕ) (gains : Gains slot t t') where
    pub gains_words : WordsKnown (Live t) n → WordsKnown (Live t') n
    gains_words words h has = gains.live h ∙ or_right (same_handle (handle slot t.given) h) _ (words h has)

    gained : (h : Handle) → Live t' h → (Live t h) ⊎ (handle slot t.given ≡ h)
    gained h live = by_test (same_handle (handle slot t.given) h) refl (sym (gains.live h) ∙ live)
      where
        by_test : (b : Bool) → same_handle (handle slot t.given) h ≡ b → (b || is_live h t) ≡ true → (Live t h) ⊎ (handle slot t.given ≡ h)
        by_test true same is = inr (same-is (handle slot t.given) h same)
        by_test false apart is = inl is

    pub gains_apart : has_slot slot t.live ≡ false → SlotsApart (Live t) → SlotsApart (Live t')
    gains_apart free apart a b here there same = by_age (gained a here) (gained b there)
      where
        by_age : (Live t a) ⊎ (handle slot t.given ≡ a) → (Live t b) ⊎ (handle slot t.given ≡ b) → a ≡ b
        by_age (inl old) (inl old') = apart a b old old' same
        by_age (inl old) (inr new) = absurd (not_at_free slot t free a old (same ∙ ap (λ (k : Handle). k.slot) (sym new)))
        by_age (inr new) (inl old) = absurd (not_at_free slot t free b old (sym same ∙ ap (λ (k : Handle). k.slot) (sym new)))
        by_age (inr new) (inr new') = sym new ∙ new'

    pub gains_new : has_slot slot t.live ≡ false → WordsKnown (Live t) n →
        Live t' (handle slot t.given) × (word_of (handle slot t.given) n ≡ None)
    gains_new free words = (
      gains.live (handle slot t.given) ∙ or_left (same_handle (handle slot t.given) (handle slot t.given)) _
          (same-self (handle slot t.given)),
      by_word (word_of (handle slot t.given) n) refl,
    )
      where
        by_word : (o : Option (List ℕ)) → word_of (handle slot t.given) n ≡ o → o ≡ None
        by_word None e = refl
        by_word (Some w) e = absurd (not_at_free slot t free (handle slot t.given) (words (handle slot t.given) (ap is_some e)) refl)

  -- ---- one is gone, and its word

  module _ (gone : Handle) (loses : Loses gone t t') where
    pub loses_apart : SlotsApart (Live t) → SlotsApart (Live t')
    loses_apart apart a b here there same = apart a b (was a here) (was b there) same
      where
        was : (h : Handle) → Live t' h → Live t h
        was h live =
            let parts : (is_live h t ≡ true) × (not (same_handle h gone) ≡ true) =
            and_parts (is_live h t) (not (same_handle h gone)) (sym (loses.live h) ∙ live) in parts.0

    pub loses_words : IsRising n → WordsKnown (Live t) n → WordsKnown (Live t') (cleared gone.slot n)
    loses_words rising words h has =
        let left : Live t h × (h.slot ≡ gone.slot → ⊥) = cleared_known (Live t) gone.slot n rising words h has in
        loses.live h
        ∙ and_from (is_live h t) (not (same_handle h gone)) left.0
        (ap not (same_handle-apart h gone (λ e. left.1 (sym e))))

-- ---- calls that ask

module _ (s : Seat) where
  pub ct_get_stays : (ct : Handle) → Stays s (after s (told counts (calls.ct_get ct s.nic)))
  ct_get_stays ct = asks_stays s _ (told_none counts (λ c. refl) (calls.ct_get ct s.nic))

  pub awaits_stays : (md : Handle) → Stays s (after s (told number (calls.awaits md s.nic)))
  awaits_stays md = asks_stays s _ (told_none number (λ n. refl) (calls.awaits md s.nic))

  -- `awaits_any` and `is_ready`
  pub yes_stays : (b : Bool) → Stays s (after s (yes b))
  yes_stays b = asks_stays s (yes b) refl

  -- `headers`, `ready_count`, `ready_count_to`, `pending`, `drops` and `violations`
  pub number_stays : (n : ℕ) → Stays s (after s (number n))
  number_stays n = asks_stays s (number n) refl

  pub header_stays : (o : Option UnexpectedHeader) → Stays s (after s (found o))
  header_stays o = asks_stays s (found o) (found_none o)

  pub ready_stays : (ts : List ℕ) → Stays s (after s (ready_owed ts))
  ready_stays ts = asks_stays s (ready_owed ts) (plain_none (ready_owed ts) (ready_owed_plain ts))

  pub ready_at_stays : (o : Option ℕ) → Stays s (after s (ready_at_owed o))
  ready_at_stays o = asks_stays s (ready_at_owed o) (plain_none (ready_at_owed o) (ready_at_plain o))

  pub lane_of_stays : (o : Option ℕ) → Stays s (after s (lane_owed s.nic o))
  lane_of_stays o = asks_stays s (lane_owed s.nic o) (plain_none (lane_owed s.nic o) (lane_plain s.nic o))

  pub read_stays : (start n : ℕ) → Stays s (reads start n s)
  read_stays start n = misused_stays (outside s.nic start n) s (after s (owed.Part start n)) (asks_stays s (owed.Part start n) refl)

-- ---- by the fault

by_done : {A : Type 0} (P : Done (Result A NiFault) → Type 0) (o : Option NiFault) (old new : State) (x : A) →
    ((fault : NiFault) → P (ends old (Err fault))) → (o ≡ None → P (ends new (Ok x))) → P (ends_by o old new x)
by_done P None old new x refused made = made refl
by_done P (Some fault) old new x refused made = refused fault

-- ---- calls that make a thing at a slot that is free

module _ (slot : ℕ) (s : Seat) (ordered : IsConsistent s) where
  pub ct_alloc_ordered : has_slot slot s.nic.cts.live ≡ false → IsConsistentAfter (tells (new Counter) (calls.ct_alloc slot s.nic) s)
  ct_alloc_ordered free =
      let t = with_new slot (successes 0) s.nic.cts in
      let gains : Gains slot s.nic.cts t = gains_with_new slot (successes 0) s.nic.cts in
      by_done (λ d. IsConsistentAfter (tells (new Counter) d s)) (alloc_fault s.nic.cts) s.nic (record s.nic { cts = t })
      (handle slot s.nic.cts.given)
      (λ fault. stays_ordered s _ (asks_stays s (says (fault_word fault)) refl) ordered)
      (λ none. record {
        seat = record {
          counters = gains_words s.nic.cts t s.counters slot gains ordered.counters;
          queues = ordered.queues;
          descriptors = ordered.descriptors;
          cts = gains_apart s.nic.cts t s.counters slot gains free ordered.cts;
          eqs = ordered.eqs;
          mds = ordered.mds;
          entries = ordered.entries;
          nothing = ordered.nothing;
        };
        is_new = gains_new s.nic.cts t s.counters slot gains free ordered.counters;
      })

  eq_told_ordered : (room : ℕ) → has_slot slot s.nic.eqs.live ≡ false →
      IsConsistentAfter (tells (new Queue) (calls.eq_alloc slot room s.nic) s)
  eq_told_ordered room free =
      let t = with_new slot (queue room [] false) s.nic.eqs in
      let gains : Gains slot s.nic.eqs t = gains_with_new slot (queue room [] false) s.nic.eqs in
      by_done (λ d. IsConsistentAfter (tells (new Queue) d s)) (alloc_fault s.nic.eqs) s.nic (record s.nic { eqs = t })
      (handle slot s.nic.eqs.given)
      (λ fault. stays_ordered s _ (asks_stays s (says (fault_word fault)) refl) ordered)
      (λ none. record {
        seat = record {
          counters = ordered.counters;
          queues = gains_words s.nic.eqs t s.queues slot gains ordered.queues;
          descriptors = ordered.descriptors;
          cts = ordered.cts;
          eqs = gains_apart s.nic.eqs t s.queues slot gains free ordered.eqs;
          mds = ordered.mds;
          entries = ordered.entries;
          nothing = ordered.nothing;
        };
        is_new = gains_new s.nic.eqs t s.queues slot gains free ordered.queues;
      })

  pub eq_alloc_ordered : (room : ℕ) → has_slot slot s.nic.eqs.live ≡ false →
      IsConsistentAfter (unless_misused (unless (nat_lt 0 room) misuses.NoRoom) s (tells (new Queue) (calls.eq_alloc slot room s.nic) s))
  eq_alloc_ordered room free =
      elim (unless (nat_lt 0 room) misuses.NoRoom) as (λ m.
      IsConsistentAfter (unless_misused m s (tells (new Queue) (calls.eq_alloc slot room s.nic) s))) [
        | None ↦ eq_told_ordered room free
        | Some m ↦ stays_ordered s _ (asks_stays s (says (misuse_word m)) refl) ordered
      ]

  pub md_bind_ordered : (md : Descriptor) → has_slot slot s.nic.mds.live ≡ false →
      IsConsistentAfter (tells (new Md) (calls.md_bind slot md s.nic) s)
  md_bind_ordered md free =
      let t = with_new slot (calls.bound md) s.nic.mds in
      let gains : Gains slot s.nic.mds t = gains_with_new slot (calls.bound md) s.nic.mds in
      by_done (λ d. IsConsistentAfter (tells (new Md) d s)) (bind_fault md (length s.nic.memory) s.nic.cts s.nic.eqs s.nic.mds) s.nic
      (record s.nic { mds = t }) (handle slot s.nic.mds.given)
      (λ fault. stays_ordered s _ (asks_stays s (says (fault_word fault)) refl) ordered)
      (λ none. record {
        seat = record {
          counters = ordered.counters;
          queues = ordered.queues;
          descriptors = gains_words s.nic.mds t s.descriptors slot gains ordered.descriptors;
          cts = ordered.cts;
          eqs = ordered.eqs;
          mds = gains_apart s.nic.mds t s.descriptors slot gains free ordered.mds;
          entries = ordered.entries;
          nothing = ordered.nothing;
        };
        is_new = gains_new s.nic.mds t s.descriptors slot gains free ordered.descriptors;
      })

-- ---- calls that free a thing: its word is gone with it, where words stand by rising key

module _ (s : Seat) (rising : AreRising s) (ordered : IsConsistent s) where
  pub ct_free_ordered : (ct : Handle) → IsConsistentAfter (frees Counter ct (calls.ct_free ct s.nic) s)
  ct_free_ordered ct =
      let t = without ct s.nic.cts in
      let loses : Loses ct s.nic.cts t = loses_without ct s.nic.cts in
      by_done (λ d. IsConsistentAfter (frees Counter ct d s)) (ct_free_fault ct s.nic.cts s.nic.indices s.nic.mds s.nic.pending) s.nic
      (record s.nic { cts = t }) tt
      (λ fault. stays_ordered s _ (asks_stays s (says (fault_word fault)) refl) ordered)
      (λ none. record {
        seat = record {
          counters = loses_words s.nic.cts t s.counters ct loses rising.counters ordered.counters;
          queues = ordered.queues;
          descriptors = ordered.descriptors;
          cts = loses_apart s.nic.cts t s.counters ct loses ordered.cts;
          eqs = ordered.eqs;
          mds = ordered.mds;
          entries = ordered.entries;
          nothing = ordered.nothing;
        };
        is_new = tt;
      })

  pub eq_free_ordered : (eq : Handle) → IsConsistentAfter (frees Queue eq (calls.eq_free eq s.nic) s)
  eq_free_ordered eq =
      let t = without eq s.nic.eqs in
      let loses : Loses eq s.nic.eqs t = loses_without eq s.nic.eqs in
      by_done (λ d. IsConsistentAfter (frees Queue eq d s)) (eq_free_fault eq s.nic.eqs s.nic.indices s.nic.mds) s.nic
      (record s.nic { eqs = t }) tt
      (λ fault. stays_ordered s _ (asks_stays s (says (fault_word fault)) refl) ordered)
      (λ none. record {
        seat = record {
          counters = ordered.counters;
          queues = loses_words s.nic.eqs t s.queues eq loses rising.queues ordered.queues;
          descriptors = ordered.descriptors;
          cts = ordered.cts;
          eqs = loses_apart s.nic.eqs t s.queues eq loses ordered.eqs;
          mds = ordered.mds;
          entries = ordered.entries;
          nothing = ordered.nothing;
        };
        is_new = tt;
      })

  pub md_release_ordered : (md : Handle) → IsConsistentAfter (frees Md md (calls.md_release md s.nic) s)
  md_release_ordered md =
      let t = without md s.nic.mds in
      let loses : Loses md s.nic.mds t = loses_without md s.nic.mds in
      by_done (λ d. IsConsistentAfter (frees Md md d s)) (release_fault md s.nic.mds s.nic.pending) s.nic (record s.nic { mds = t }) tt
      (λ fault. stays_ordered s _ (asks_stays s (says (fault_word fault)) refl) ordered)
      (λ none. record {
        seat = record {
          counters = ordered.counters;
          queues = ordered.queues;
          descriptors = loses_words s.nic.mds t s.descriptors md loses rising.descriptors ordered.descriptors;
          cts = ordered.cts;
          eqs = ordered.eqs;
          mds = loses_apart s.nic.mds t s.descriptors md loses ordered.mds;
          entries = ordered.entries;
          nothing = ordered.nothing;
        };
        is_new = tt;
      })
