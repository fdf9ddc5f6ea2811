-- What calls of counting events, event queues and descriptors leave at two interfaces of a log that differ in slots alone.
use Rattle.std.proofs.Common.{◌≡◌, ℕ, Bool, true, false, nat_lt, [], length, Option, Some, None, Result}
use Rattle.std.proofs.Common.{refl, ap, ap₂, sym, subst, ◌∙◌}
use Rattle.ptl_types.specs.declared.handles.Handle.{Handle}
use Rattle.ptl_types.specs.declared.handles.Count.{Count}
use Rattle.ptl_types.specs.declared.entries.Descriptor.{Descriptor}
use Rattle.ptl_types.specs.declared.calls.NiFault.{NiFault}
use Rattle.ptl_types.specs.declared.calls.EqGot.{EqGot}
use Rattle.ptl_types.specs.declared.calls.EqGot.TheVariants.{Got, Empty, Dropped}
use Rattle.portals_ni.proofs.Stands.{by-fault}
use Rattle.initiator_engine.proofs.Starting.{need-test}
use Rattle.ni_model.specs.Tables.{handle, is_live, with_new, without}
use Rattle.ni_model.specs.Queues.{Waiting, queue}
use Rattle.ni_model.specs.Refusals.{alloc_fault, bind_fault, ct_free_fault, eq_free_fault, release_fault}
use Rattle.ni_model.specs.State.{State}
use Rattle.ni_model.specs.Calls.{Done, ct_alloc, ct_free, ct_inc, ct_set, ends_by, eq_alloc, eq_free, eq_get, md_bind}
use Rattle.ni_model.specs.Calls.{md_release, with_bound, with_counter}
use Rattle.guarded_ni.specs.declared.faults.Misuse.{Misuse}
use Rattle.guarded_ni.specs.declared.faults.Misuse.TheVariants as misuses
use Rattle.guarded_ni.specs.Misuses.{unless}
use Rattle.log_words.specs.Words.{Word}
use Rattle.log_words.specs.declared.call_fields.said.MdSaid.{MdSaid}
use Rattle.log_answers.specs.declared.owed.Sort.{Sort}
use Rattle.log_answers.specs.declared.owed.Sort.TheVariants.{Counter, Queue, Descriptor as Md}
use Rattle.log_seats.specs.Answers.{after, fault_word, frees, got, md_of, new, ok, says, tells, unless_misused}
use Rattle.log_seats.specs.Seats.{handle_of, with_nic, without_thing}
use Rattle.log_seats.specs.declared.seats.Seat.{Seat}
use Rattle.slot_laws.specs.Renaming.{IsRenaming, Renaming}
use Rattle.slot_laws.specs.Renamed.{renamed, renamed_bound, renamed_md, renamed_table, renamed_things}
use Rattle.slot_laws.proofs.terms.Answered.{renamed_done, renamed_result}
use Rattle.slot_laws.specs.Told.{HoldsOfNamed, renamed_owed, renaming_of}
use Rattle.slot_laws.specs.Alike.{AftersAlike, IsConsistent, KeepsNone, KnownIn, Live, AlikeButEntries, SeatsAlike}
use Rattle.slot_laws.specs.Naming.{OnlyAtItsSlot}
use Rattle.slot_laws.proofs.Refusing.{alloc_fault_renamed, bind_fault_renamed}
use Rattle.slot_laws.proofs.Calling.{ct_alloc_renamed, ct_free_renamed, ct_inc_renamed, ct_set_renamed, eq_alloc_renamed}
use Rattle.slot_laws.proofs.Calling.{eq_free_renamed, eq_get_renamed, md_bind_renamed, md_release_renamed}
use Rattle.slot_laws.proofs.Leaving.{ct_inc_keeps, ct_set_keeps, eq_get_keeps}
use Rattle.slot_laws.proofs.Handles.{handle_of_renamed, md_of_renamed}
use Rattle.slot_laws.proofs.TableOrder.{only_one}
use Rattle.slot_laws.proofs.SameNames.{cleared_renamed}
use Rattle.slot_laws.proofs.Base.{is_live_renamed}
use Rattle.slot_laws.proofs.SeatAnswers.{leaves_alike, near_with_nic, tells_alike, tells_kept, tells_ok, unless_alike}

-- ---- a new thing: where the call isn't refused, the renaming takes its handle to that of the other run

-- a call that is refused is so in both
refused_renamed : {A : Type 0} (r : Renaming) (f : A → A) (o o' : Option NiFault) (fault : NiFault) (old new new' : State) (x x' : A) →
    o' ≡ o → o ≡ Some fault → ends_by o' (renamed r old) new' x' ≡ renamed_done r (renamed_result f) (ends_by o old new x)
refused_renamed r f o o' fault old new new' x x' same is = rw (same, is) refl

-- the same ends in both, where the two handles need be one only if it isn't refused
made_renamed : {A : Type 0} (r : Renaming) (f : A → A) (o o' : Option NiFault) (old new new' : State) (x x' : A) → o' ≡ o →
    (o ≡ None → ends_by o' (renamed r old) new' x' ≡ renamed_done r (renamed_result f) (ends_by o old new x)) →
    ends_by o' (renamed r old) new' x' ≡ renamed_done r (renamed_result f) (ends_by o old new x)
made_renamed r f o o' old new new' x x' same made = by_fault o refl
  where
    by_fault : (p : Option NiFault) → o ≡ p →
        ends_by o' (renamed r old) new' x' ≡ renamed_done r (renamed_result f) (ends_by o old new x)
    by_fault None none = made none
    by_fault (Some fault) is = refused_renamed r f o o' fault old new new' x x' same is

-- told to the log
made_alike : (r : Renaming) (s t : Seat) (sort : Sort) (o : Option NiFault) (made : State) (h : Handle)
    (d' : Done (Result Handle NiFault)) → SeatsAlike r s t →
    d' ≡ renamed_done r (renamed_result (renaming_of r s.nic.rank sort)) (ends_by o s.nic made h) →
    made.rank ≡ s.nic.rank → ((k : Handle) → KnownIn made k → KnownIn s.nic k) →
    AftersAlike r (tells (new sort) (ends_by o s.nic made h) s) (tells (new sort) d' t)
made_alike r s t sort o made h d' a done rank known =
    tells_alike r s t (new sort) (renaming_of r s.nic.rank sort) (ends_by o s.nic made h) d' a done (λ k. refl)
    (by-fault (λ n. n.rank ≡ s.nic.rank) o s.nic made h refl (λ none. rank))
    (λ k is other. by-fault (λ n. KnownIn n k → KnownIn s.nic k) o s.nic made h (λ old. old) (λ none. known k) is)
    (λ k is. tt)

pub is_kept : (b : Bool) (m : Misuse) → unless b m ≡ None → b ≡ true
is_kept true m e = refl
is_kept false m e = cc

module _ (r : Renaming) (s t : Seat) (a : SeatsAlike r s t) (slot slot' : ℕ) where
  pub ct_alloc_alike : (alloc_fault s.nic.cts ≡ None → r.ct (handle slot s.nic.cts.given) ≡ handle slot' s.nic.cts.given) →
      AftersAlike r (tells (new Counter) (ct_alloc slot s.nic) s) (tells (new Counter) (ct_alloc slot' t.nic) t)
  ct_alloc_alike is =
      made_alike r s t Counter (alloc_fault s.nic.cts) (with_counter slot s.nic) (handle slot s.nic.cts.given) (ct_alloc slot' t.nic) a
      (ap (ct_alloc slot') a.near.nic
      ∙ made_renamed r r.ct (alloc_fault s.nic.cts) (alloc_fault (renamed_things r.ct s.nic.cts)) s.nic (with_counter slot s.nic)
      (with_counter slot' (renamed r s.nic)) (handle slot s.nic.cts.given) (handle slot' s.nic.cts.given)
      (alloc_fault_renamed r.ct (λ (c : Count). c) s.nic.cts)
      (λ none. ct_alloc_renamed r slot slot' s.nic (is none)))
      refl (λ k known. known)

  eq_alloc_told : (room : ℕ) → (alloc_fault s.nic.eqs ≡ None → r.eq (handle slot s.nic.eqs.given) ≡ handle slot' s.nic.eqs.given) →
      AftersAlike r (tells (new Queue) (eq_alloc slot room s.nic) s) (tells (new Queue) (eq_alloc slot' room t.nic) t)
  eq_alloc_told room is =
      let made : State = record s.nic { eqs = with_new slot (queue room [] false) s.nic.eqs } in
      let made' : State =
      record (renamed r s.nic) { eqs = with_new slot' (queue room [] false) (renamed_things r.eq s.nic.eqs) } in
      made_alike r s t Queue (alloc_fault s.nic.eqs) made (handle slot s.nic.eqs.given) (eq_alloc slot' room t.nic) a
      (ap (eq_alloc slot' room) a.near.nic
      ∙ made_renamed r r.eq (alloc_fault s.nic.eqs) (alloc_fault (renamed_things r.eq s.nic.eqs)) s.nic made made'
      (handle slot s.nic.eqs.given) (handle slot' s.nic.eqs.given) (alloc_fault_renamed r.eq (λ (q : Waiting). q) s.nic.eqs)
      (λ none. eq_alloc_renamed r slot slot' room s.nic (is none)))
      refl (λ k known. known)

  -- only where there is room for an event
  pub eq_alloc_alike : (room : ℕ) →
      (nat_lt 0 room ≡ true → alloc_fault s.nic.eqs ≡ None → r.eq (handle slot s.nic.eqs.given) ≡ handle slot' s.nic.eqs.given) →
      AftersAlike r (unless_misused (unless (nat_lt 0 room) misuses.NoRoom) s (tells (new Queue) (eq_alloc slot room s.nic) s))
      (unless_misused (unless (nat_lt 0 room) misuses.NoRoom) t (tells (new Queue) (eq_alloc slot' room t.nic) t))
  eq_alloc_alike room is =
      unless_alike r s t (unless (nat_lt 0 room) misuses.NoRoom) (unless (nat_lt 0 room) misuses.NoRoom)
      (tells (new Queue) (eq_alloc slot room s.nic) s) (tells (new Queue) (eq_alloc slot' room t.nic) t) a refl
      (λ kept. eq_alloc_told room (is (is_kept (nat_lt 0 room) misuses.NoRoom kept)))

  pub md_bind_alike : IsRenaming r → KeepsNone r → (md : MdSaid) →
      (bind_fault (md_of s md) (length s.nic.memory) s.nic.cts s.nic.eqs s.nic.mds ≡ None →
      r.md s.nic.rank (handle slot s.nic.mds.given) ≡ handle slot' s.nic.mds.given) →
      AftersAlike r (tells (new Md) (md_bind slot (md_of s md) s.nic) s) (tells (new Md) (md_bind slot' (md_of t md) t.nic) t)
  md_bind_alike k none md is =
      let said : Descriptor = md_of s md in
      let made : State = with_bound slot said s.nic in
      let made' : State = with_bound slot' (renamed_md r said) (renamed r s.nic) in
      made_alike r s t Md (bind_fault said (length s.nic.memory) s.nic.cts s.nic.eqs s.nic.mds) made (handle slot s.nic.mds.given)
      (md_bind slot' (md_of t md) t.nic) a
      (ap₂ (md_bind slot') (md_of_renamed r s t a.near none md) a.near.nic
      ∙ made_renamed r (r.md s.nic.rank) (bind_fault said (length s.nic.memory) s.nic.cts s.nic.eqs s.nic.mds)
      (bind_fault (renamed_md r said) (length s.nic.memory) (renamed_things r.ct s.nic.cts) (renamed_things r.eq s.nic.eqs)
      (renamed_table (r.md s.nic.rank) (renamed_bound r) s.nic.mds))
      s.nic made made' (handle slot s.nic.mds.given) (handle slot' s.nic.mds.given)
      (bind_fault_renamed r k s.nic.rank said (length s.nic.memory) s.nic.cts s.nic.eqs s.nic.mds)
      (λ fits. md_bind_renamed r k slot slot' said s.nic (is fits)))
      refl (λ h known. known)

-- ---- counts are set and added, and events are taken

got_same : (r : Renaming) (rank : ℕ) (e : EqGot) → got e ≡ renamed_owed r rank (got e)
got_same r rank (Got e) = refl
got_same r rank Empty = refl
got_same r rank Dropped = refl

got_known : (Known : Handle → Type 0) (e : EqGot) → HoldsOfNamed Known (got e)
got_known Known (Got e) = tt
got_known Known Empty = tt
got_known Known Dropped = tt

module _ (r : Renaming) (k : IsRenaming r) (none : KeepsNone r) (s t : Seat) (a : SeatsAlike r s t) (w : Word) where
  pub ct_set_alike : (to : Count) →
      AftersAlike r (tells ok (ct_set (handle_of Counter s w) to s.nic) s) (tells ok (ct_set (handle_of Counter t w) to t.nic) t)
  ct_set_alike to =
      tells_ok r s t (ct_set (handle_of Counter s w) to s.nic) (ct_set (handle_of Counter t w) to t.nic) a
      (ap₂ (λ h n. ct_set h to n) (handle_of_renamed r s t a.near none Counter tt w) a.near.nic
      ∙ ct_set_renamed r k (handle_of Counter s w) to s.nic)
      (ct_set_keeps (handle_of Counter s w) to s.nic)

  pub ct_inc_alike : (by : Count) →
      AftersAlike r (tells ok (ct_inc (handle_of Counter s w) by s.nic) s) (tells ok (ct_inc (handle_of Counter t w) by t.nic) t)
  ct_inc_alike by =
      tells_ok r s t (ct_inc (handle_of Counter s w) by s.nic) (ct_inc (handle_of Counter t w) by t.nic) a
      (ap₂ (λ h n. ct_inc h by n) (handle_of_renamed r s t a.near none Counter tt w) a.near.nic
      ∙ ct_inc_renamed r k (handle_of Counter s w) by s.nic)
      (ct_inc_keeps (handle_of Counter s w) by s.nic)

  pub eq_get_alike : AftersAlike r (tells got (eq_get (handle_of Queue s w) s.nic) s) (tells got (eq_get (handle_of Queue t w) t.nic) t)
  eq_get_alike =
      tells_kept r s t got (eq_get (handle_of Queue s w) s.nic) (eq_get (handle_of Queue t w) t.nic) a
      (ap₂ eq_get (handle_of_renamed r s t a.near none Queue tt w) a.near.nic ∙ eq_get_renamed r k (handle_of Queue s w) s.nic)
      (got_same r s.nic.rank) (eq_get_keeps (handle_of Queue s w) s.nic) (λ e is. got_known (KnownIn s.nic) e)

-- ---- what frees a thing: where it is done, its word goes

-- of a thing that alone of its slot has a word
module _ (r : Renaming) (k : IsRenaming r) (s t : Seat) (near : AlikeButEntries r s t) (h : Handle) where
  gone_counter : OnlyAtItsSlot h s.counters → OnlyAtItsSlot (r.ct h) t.counters →
      AlikeButEntries r (without_thing Counter h s) (without_thing Counter (r.ct h) t)
  gone_counter alone alone' = record {
    nic = near.nic;
    counters = cleared_renamed r.ct s.counters t.counters h k.ct near.counters alone alone';
    queues = near.queues;
    descriptors = near.descriptors;
    operations = near.operations;
  }

  gone_queue : OnlyAtItsSlot h s.queues → OnlyAtItsSlot (r.eq h) t.queues →
      AlikeButEntries r (without_thing Queue h s) (without_thing Queue (r.eq h) t)
  gone_queue alone alone' = record {
    nic = near.nic;
    counters = near.counters;
    queues = cleared_renamed r.eq s.queues t.queues h k.eq near.queues alone alone';
    descriptors = near.descriptors;
    operations = near.operations;
  }

  gone_descriptor : OnlyAtItsSlot h s.descriptors → OnlyAtItsSlot (r.md s.nic.rank h) t.descriptors →
      AlikeButEntries r (without_thing Md h s) (without_thing Md (r.md s.nic.rank h) t)
  gone_descriptor alone alone' = record {
    nic = near.nic;
    counters = near.counters;
    queues = near.queues;
    descriptors = cleared_renamed (r.md s.nic.rank) s.descriptors t.descriptors h (k.md s.nic.rank) near.descriptors alone alone';
    operations = near.operations;
  }

-- by the fault, of a call that leaves the same match entries known
freed_alike : (r : Renaming) (s t : Seat) (sort : Sort) (h h' : Handle) (o : Option NiFault) (left : State)
    (d' : Done (Result (Unit {0}) NiFault)) → SeatsAlike r s t → d' ≡ renamed_done r (λ x. x) (ends_by o s.nic left tt) →
    (o ≡ None → AftersAlike r (after (without_thing sort h (with_nic left s)) (ok tt))
    (after (without_thing sort h' (with_nic (renamed r left) t)) (ok tt))) →
    AftersAlike r (frees sort h (ends_by o s.nic left tt) s) (frees sort h' d' t)
freed_alike r s t sort h h' o left d' a done freed =
    subst (λ d. AftersAlike r (frees sort h (ends_by o s.nic left tt) s) (frees sort h' d t)) (sym done) (by_fault o refl)
  where
    by_fault : (p : Option NiFault) → o ≡ p →
        AftersAlike r (frees sort h (ends_by p s.nic left tt) s) (frees sort h' (renamed_done r (λ x. x) (ends_by p s.nic left tt)) t)
    by_fault None none = freed none
    by_fault (Some fault) is =
        leaves_alike r s t (with_nic s.nic s) (with_nic (renamed r s.nic) t) (says (fault_word fault)) (says (fault_word fault)) None None a
        refl refl (near_with_nic r s t s.nic (renamed r s.nic) a.near refl refl) refl refl (λ k known other. known) tt

module _ (r : Renaming) (k : IsRenaming r) (none : KeepsNone r) (s t : Seat) (a : SeatsAlike r s t) (ordered : IsConsistent s)
    (ordered' : IsConsistent t) (w : Word) where
  pub ct_free_alike : AftersAlike r (frees Counter (handle_of Counter s w) (ct_free (handle_of Counter s w) s.nic) s)
      (frees Counter (handle_of Counter t w) (ct_free (handle_of Counter t w) t.nic) t)
  ct_free_alike =
      let h : Handle = handle_of Counter s w in
      let left : State = record s.nic { cts = without h s.nic.cts } in
      subst (λ x. AftersAlike r (frees Counter h (ct_free h s.nic) s) (frees Counter x (ct_free x t.nic) t))
      (sym (handle_of_renamed r s t a.near none Counter tt w))
      (freed_alike r s t Counter h (r.ct h) (ct_free_fault h s.nic.cts s.nic.indices s.nic.mds s.nic.pending) left
      (ct_free (r.ct h) t.nic) a
      (ap (ct_free (r.ct h)) a.near.nic ∙ ct_free_renamed r k h s.nic)
      (λ free.
      let live : Live s.nic.cts h = need-test _ _ _ free in
      let live' : Live t.nic.cts (r.ct h) =
      ap (λ (n : State). is_live (r.ct h) n.cts) a.near.nic ∙ is_live_renamed r.ct (λ (c : Count). c) k.ct h s.nic.cts ∙ live in
      leaves_alike r s t (without_thing Counter h (with_nic left s)) (without_thing Counter (r.ct h) (with_nic (renamed r left) t))
      (ok tt) (ok tt) None None a refl refl
      (gone_counter r k (with_nic left s) (with_nic (renamed r left) t) (near_with_nic r s t left (renamed r left) a.near refl refl) h
      (only_one h s.nic.cts s.counters ordered.counters ordered.cts live)
      (only_one (r.ct h) t.nic.cts t.counters ordered'.counters ordered'.cts live'))
      refl refl (λ h' known other. known) tt))

  pub eq_free_alike : AftersAlike r (frees Queue (handle_of Queue s w) (eq_free (handle_of Queue s w) s.nic) s)
      (frees Queue (handle_of Queue t w) (eq_free (handle_of Queue t w) t.nic) t)
  eq_free_alike =
      let h : Handle = handle_of Queue s w in
      let left : State = record s.nic { eqs = without h s.nic.eqs } in
      subst (λ x. AftersAlike r (frees Queue h (eq_free h s.nic) s) (frees Queue x (eq_free x t.nic) t))
      (sym (handle_of_renamed r s t a.near none Queue tt w))
      (freed_alike r s t Queue h (r.eq h) (eq_free_fault h s.nic.eqs s.nic.indices s.nic.mds) left (eq_free (r.eq h) t.nic) a
      (ap (eq_free (r.eq h)) a.near.nic ∙ eq_free_renamed r k h s.nic)
      (λ free.
      let live : Live s.nic.eqs h = need-test _ _ _ free in
      let live' : Live t.nic.eqs (r.eq h) =
      ap (λ (n : State). is_live (r.eq h) n.eqs) a.near.nic ∙ is_live_renamed r.eq (λ (q : Waiting). q) k.eq h s.nic.eqs ∙ live in
      leaves_alike r s t (without_thing Queue h (with_nic left s)) (without_thing Queue (r.eq h) (with_nic (renamed r left) t))
      (ok tt) (ok tt) None None a refl refl
      (gone_queue r k (with_nic left s) (with_nic (renamed r left) t) (near_with_nic r s t left (renamed r left) a.near refl refl) h
      (only_one h s.nic.eqs s.queues ordered.queues ordered.eqs live)
      (only_one (r.eq h) t.nic.eqs t.queues ordered'.queues ordered'.eqs live'))
      refl refl (λ h' known other. known) tt))

  pub md_release_alike : AftersAlike r (frees Md (handle_of Md s w) (md_release (handle_of Md s w) s.nic) s)
      (frees Md (handle_of Md t w) (md_release (handle_of Md t w) t.nic) t)
  md_release_alike =
      let h : Handle = handle_of Md s w in
      let f : Handle → Handle = r.md s.nic.rank in
      let left : State = record s.nic { mds = without h s.nic.mds } in
      subst (λ x. AftersAlike r (frees Md h (md_release h s.nic) s) (frees Md x (md_release x t.nic) t))
      (sym (handle_of_renamed r s t a.near none Md tt w))
      (freed_alike r s t Md h (f h) (release_fault h s.nic.mds s.nic.pending) left (md_release (f h) t.nic) a
      (ap (md_release (f h)) a.near.nic ∙ md_release_renamed r k h s.nic)
      (λ free.
      let live : Live s.nic.mds h = need-test _ _ _ free in
      let live' : Live t.nic.mds (f h) =
      ap (λ (n : State). is_live (f h) n.mds) a.near.nic
      ∙ is_live_renamed f (renamed_bound r) (k.md s.nic.rank) h s.nic.mds ∙ live in
      leaves_alike r s t (without_thing Md h (with_nic left s)) (without_thing Md (f h) (with_nic (renamed r left) t))
      (ok tt) (ok tt) None None a refl refl
      (gone_descriptor r k (with_nic left s) (with_nic (renamed r left) t)
      (near_with_nic r s t left (renamed r left) a.near refl refl) h
      (only_one h s.nic.mds s.descriptors ordered.descriptors ordered.mds live)
      (only_one (f h) t.nic.mds t.descriptors ordered'.descriptors ordered'.mds live'))
      refl refl (λ h' known other. known) tt))
