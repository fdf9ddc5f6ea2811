-- How many things of each sort a call makes: one, with the next stamp, where its answer tells of one, and else none.
use Rattle.std.proofs.Common.{◌≡◌, ℕ, ◌+◌, ◌<◌, Bool, true, false, ◌||◌, not, [], Option, Some, None, Result, Ok, Err}
use Rattle.std.proofs.Common.{length, nat_le, nat_lt, refl, ap, ◌∙◌, arith}
use Rattle.std.proofs.lemmas.Bool.Decides.{nat_tests}
use Rattle.ptl_types.specs.declared.handles.Handle.{Handle}
use Rattle.ptl_types.specs.declared.handles.Count.{Count}
use Rattle.ptl_types.specs.declared.entries.Entry.{Entry}
use Rattle.ptl_types.specs.declared.entries.Descriptor.{Descriptor}
use Rattle.ptl_types.specs.declared.entries.List.{List as EntryList}
use Rattle.ptl_types.specs.declared.calls.Appended.{Appended}
use Rattle.ptl_types.specs.declared.calls.Appended.TheVariants.{Linked as IsLinked, Consumed}
use Rattle.ptl_types.specs.declared.calls.EqGot.{EqGot}
use Rattle.ptl_types.specs.declared.calls.EqGot.TheVariants.{Got, Empty, Dropped}
use Rattle.ptl_types.specs.declared.calls.NiFault.{NiFault}
use Rattle.ptl_types.specs.declared.calls.NiFault.TheVariants.{NoSpace, OutOfRegion, Stale}
use Rattle.ptl_types.specs.Handles.{top}
use Rattle.ni_model.specs.Tables.{Table, handle, is_live_or_none, with_new}
use Rattle.ni_model.specs.Queues.{queue}
use Rattle.ni_model.specs.Append.{append, append_fault, is_allocated, is_within, linked_count, need}
use Rattle.ni_model.specs.Arrive.{Parts}
use Rattle.ni_model.specs.Refusals.{alloc_fault, bind_fault}
use Rattle.ni_model.specs.State.{State, parts_of, with_parts}
use Rattle.ni_model.specs.Calls as calls
use Rattle.ni_model.specs.Calls.{Done, ends_by, with_bound, with_counter}
use Rattle.guarded_ni.specs.declared.faults.Misuse.{Misuse}
use Rattle.guarded_ni.specs.declared.faults.Misuse.TheVariants as misuses
use Rattle.guarded_ni.specs.Misuses.{unless}
use Rattle.log_answers.specs.declared.owed.Owed.{Owed}
use Rattle.log_answers.specs.declared.owed.Owed.TheVariants as owed
use Rattle.log_answers.specs.declared.owed.Sort.{Sort}
use Rattle.log_answers.specs.declared.owed.Sort.TheVariants.{Counter, Queue, Descriptor as Md, Entry as Me}
use Rattle.log_seats.specs.Answers.{After, after, appended, fault_word, frees, gone, got, misuse_word, new, ok, says, tells, told}
use Rattle.log_seats.specs.Answers.{unless_misused}
use Rattle.log_seats.specs.Seats.{with_nic}
use Rattle.log_seats.specs.declared.seats.Seat.{Seat}
use Rattle.initiator_engine.proofs.Starting.{need-later, need-test}
use Rattle.slot_laws.proofs.terms.Lasting.{Alters, FreesBound, FreesCount, FreesQueue, Keeps, altered, refused}
use Rattle.slot_laws.proofs.terms.Scenes.{given_of}
use Rattle.slot_laws.proofs.terms.Counting.{Counts, IsStamped, made, makes_none, one_of}
use Rattle.slot_laws.proofs.Keeping.{AppendKeeps, LinksParts, append_keeps}
use Rattle.slot_laws.proofs.Leaving.{ct_free_frees, ct_inc_keeps, ct_set_keeps, eq_free_frees, eq_get_keeps, md_release_frees}
use Rattle.slot_laws.proofs.SeatOrder.{Stays, asks_stays, tells_stays}

-- ---- where nothing new is told of

pub none_made : (o : Owed) → makes_none o ≡ true → (sort : Sort) → made sort o ≡ 0
none_made (owed.Word w) e sort = refl
none_made (owed.Amount n) e sort = refl
none_made (owed.Counts c) e sort = refl
none_made (owed.Part start n) e sort = refl
none_made (owed.New other h) e sort = cc
none_made (owed.Linked h) e sort = cc
none_made owed.Message e sort = refl
none_made (owed.Delivered o answers) e sort = refl
none_made (owed.Event x) e sort = refl
none_made (owed.Found u) e sort = refl
none_made (owed.Taken u) e sort = refl
none_made (owed.Told h) e sort = refl
none_made owed.Ready e sort = refl
none_made (owed.Operation t) e sort = refl

none_stamped : (o : Owed) (s : Seat) → makes_none o ≡ true → IsStamped o s
none_stamped (owed.Word w) s e = tt
none_stamped (owed.Amount n) s e = tt
none_stamped (owed.Counts c) s e = tt
none_stamped (owed.Part start n) s e = tt
none_stamped (owed.New other h) s e = cc
none_stamped (owed.Linked h) s e = cc
none_stamped owed.Message s e = tt
none_stamped (owed.Delivered o answers) s e = tt
none_stamped (owed.Event x) s e = tt
none_stamped (owed.Found u) s e = tt
none_stamped (owed.Taken u) s e = tt
none_stamped (owed.Told h) s e = tt
none_stamped owed.Ready s e = tt
none_stamped (owed.Operation t) s e = tt

-- as many of each sort as before
none_counts : (s : Seat) (x : After) → ((sort : Sort) → given_of sort x.seat ≡ given_of sort s) → x.seat.nic.rank ≡ s.nic.rank →
    makes_none x.owed ≡ true → Counts s x
none_counts s x same rank none = record {
  given = λ sort.
      let now : given_of sort x.seat ≡ given_of sort s = same sort in
      let zero_made : made sort x.owed ≡ 0 = none_made x.owed none sort in
      omega arith;
  stamped = none_stamped x.owed s none;
  rank = rank;
}

pub kept_given : (s t : Seat) → Keeps s.nic t.nic → (sort : Sort) → given_of sort t ≡ given_of sort s
kept_given s t keeps Counter = keeps.cts.given
kept_given s t keeps Queue = keeps.eqs.given
kept_given s t keeps Md = keeps.mds.given
kept_given s t keeps Me = keeps.entries

pub stays_counts : (s : Seat) (x : After) → Stays s x → Counts s x
stays_counts s x stays = none_counts s x (kept_given s x.seat stays.keeps) stays.keeps.rank stays.none

pub misused_counts : (m : Option Misuse) (s : Seat) (x : After) → Counts s x → Counts s (unless_misused m s x)
misused_counts None s x counts = counts
misused_counts (Some f) s x counts = stays_counts s _ (asks_stays s (says (misuse_word f)) refl)

refused_counts : (s : Seat) (f : NiFault) → Counts s (after s (says (fault_word f)))
refused_counts s f = stays_counts s _ (asks_stays s (says (fault_word f)) refl)

-- ---- calls that change a table

pub ct_set_stays : (ct : Handle) (to : Count) (s : Seat) → Stays s (tells ok (calls.ct_set ct to s.nic) s)
ct_set_stays ct to s = tells_stays ok (calls.ct_set ct to s.nic) s (ct_set_keeps ct to s.nic) (λ u. refl)

pub ct_inc_stays : (ct : Handle) (by : Count) (s : Seat) → Stays s (tells ok (calls.ct_inc ct by s.nic) s)
ct_inc_stays ct by s = tells_stays ok (calls.ct_inc ct by s.nic) s (ct_inc_keeps ct by s.nic) (λ u. refl)

got_none : (x : EqGot) → makes_none (got x) ≡ true
got_none (Got e) = refl
got_none Empty = refl
got_none Dropped = refl

pub eq_get_stays : (eq : Handle) (s : Seat) → Stays s (tells got (calls.eq_get eq s.nic) s)
eq_get_stays eq s = tells_stays got (calls.eq_get eq s.nic) s (eq_get_keeps eq s.nic) got_none

-- ---- a thing is freed

ok_none : (r : Result (Unit {0}) NiFault) → makes_none (told ok r) ≡ true
ok_none (Ok u) = refl
ok_none (Err fault) = refl

gone_nic : (sort : Sort) (h : Handle) (r : Result (Unit {0}) NiFault) (s : Seat) → (gone sort h r s).nic ≡ s.nic
gone_nic Counter h (Ok u) s = refl
gone_nic Queue h (Ok u) s = refl
gone_nic Md h (Ok u) s = refl
gone_nic Me h (Ok u) s = refl
gone_nic sort h (Err fault) s = refl

-- as many of each sort
record SameGiven (s t : State) : Type 0 where
  rank : t.rank ≡ s.rank
  cts : t.cts.given ≡ s.cts.given
  eqs : t.eqs.given ≡ s.eqs.given
  mds : t.mds.given ≡ s.mds.given
  entries : t.entries_given ≡ s.entries_given

given_self : (s : State) → SameGiven s s
given_self s = record { rank = refl; cts = refl; eqs = refl; mds = refl; entries = refl }

same_given : (s t : Seat) (nic : State) → SameGiven s.nic nic → t.nic ≡ nic → (sort : Sort) → given_of sort t ≡ given_of sort s
same_given s t nic same is Counter = ap (λ (n : State). n.cts.given) is ∙ same.cts
same_given s t nic same is Queue = ap (λ (n : State). n.eqs.given) is ∙ same.eqs
same_given s t nic same is Md = ap (λ (n : State). n.mds.given) is ∙ same.mds
same_given s t nic same is Me = ap (λ (n : State). n.entries_given) is ∙ same.entries

frees_counts : (sort : Sort) (h : Handle) (d : Done (Result (Unit {0}) NiFault)) (s : Seat) → SameGiven s.nic d.state →
    Counts s (frees sort h d s)
frees_counts sort h d s same =
    let is : (gone sort h d.answer (with_nic d.state s)).nic ≡ d.state = gone_nic sort h d.answer (with_nic d.state s) in
    none_counts s (frees sort h d s) (same_given s (gone sort h d.answer (with_nic d.state s)) d.state same is)
    (ap (λ (n : State). n.rank) is ∙ same.rank) (ok_none d.answer)

-- a call that is refused, or does this
altered_given : (Leaves : State → Unit {0} → Type 0) (s : State) (d : Done (Result (Unit {0}) NiFault)) → Alters Leaves s d →
    ((t : State) (u : Unit {0}) → Leaves t u → SameGiven s t) → SameGiven s d.state
altered_given Leaves s d (refused fault answer state) each = rw state (given_self s)
altered_given Leaves s d (altered u answer leaves) each = each d.state u leaves

pub ct_free_counts : (ct : Handle) (s : Seat) → Counts s (frees Counter ct (calls.ct_free ct s.nic) s)
ct_free_counts ct s =
    frees_counts Counter ct (calls.ct_free ct s.nic) s
    (altered_given (λ t u. FreesCount ct s.nic t) s.nic (calls.ct_free ct s.nic) (ct_free_frees ct s.nic) (λ t u f. record {
      rank = f.keeps.rank;
      cts = f.loses.given;
      eqs = f.keeps.eqs.given;
      mds = f.keeps.mds.given;
      entries = f.keeps.entries;
    }))

pub eq_free_counts : (eq : Handle) (s : Seat) → Counts s (frees Queue eq (calls.eq_free eq s.nic) s)
eq_free_counts eq s =
    frees_counts Queue eq (calls.eq_free eq s.nic) s
    (altered_given (λ t u. FreesQueue eq s.nic t) s.nic (calls.eq_free eq s.nic) (eq_free_frees eq s.nic) (λ t u f. record {
      rank = f.keeps.rank;
      cts = f.keeps.cts.given;
      eqs = f.loses.given;
      mds = f.keeps.mds.given;
      entries = f.keeps.entries;
    }))

pub md_release_counts : (md : Handle) (s : Seat) → Counts s (frees Md md (calls.md_release md s.nic) s)
md_release_counts md s =
    frees_counts Md md (calls.md_release md s.nic) s
    (altered_given (λ t u. FreesBound md s.nic t) s.nic (calls.md_release md s.nic) (md_release_frees md s.nic) (λ t u f. record {
      rank = f.keeps.rank;
      cts = f.keeps.cts.given;
      eqs = f.keeps.eqs.given;
      mds = f.loses.given;
      entries = f.keeps.entries;
    }))

-- ---- a thing is made: a stamp is left

stamp_left : (full : Bool) (end given : ℕ) → not (full || nat_le end given) ≡ true → given < end
stamp_left true end given e = cc
stamp_left false end given e = grind (arith, nat_tests)

pub table_left : {A : Type 0} (t : Table A) → alloc_fault t ≡ None → t.given < top
table_left t none = stamp_left _ top t.given (need-test _ _ _ none)

-- by the fault
ct_alloc_by : (slot : ℕ) (s : Seat) (o : Option NiFault) → alloc_fault s.nic.cts ≡ o →
    Counts s (tells (new Counter) (ends_by o s.nic (with_counter slot s.nic) (handle slot s.nic.cts.given)) s)
ct_alloc_by slot s (Some f) fault = refused_counts s f
ct_alloc_by slot s None fault = record {
  given = λ sort. elim sort as (λ c. given_of c (with_nic (with_counter slot s.nic) s) ≡ given_of c s + one_of c Counter) [
    | Counter ↦ refl
    | Queue ↦ omega arith
    | Md ↦ omega arith
    | Me ↦ omega arith
  ];
  stamped = (refl, table_left s.nic.cts fault);
  rank = refl;
}

pub ct_alloc_counts : (slot : ℕ) (s : Seat) → Counts s (tells (new Counter) (calls.ct_alloc slot s.nic) s)
ct_alloc_counts slot s = ct_alloc_by slot s (alloc_fault s.nic.cts) refl

eq_alloc_by : (slot room : ℕ) (s : Seat) (o : Option NiFault) → alloc_fault s.nic.eqs ≡ o →
    Counts s (tells (new Queue)
    (ends_by o s.nic (record s.nic { eqs = with_new slot (queue room [] false) s.nic.eqs }) (handle slot s.nic.eqs.given)) s)
eq_alloc_by slot room s (Some f) fault = refused_counts s f
eq_alloc_by slot room s None fault =
    let t : Seat = with_nic (record s.nic { eqs = with_new slot (queue room [] false) s.nic.eqs }) s in
    record {
      given = λ sort. elim sort as (λ c. given_of c t ≡ given_of c s + one_of c Queue) [
        | Counter ↦ omega arith
        | Queue ↦ refl
        | Md ↦ omega arith
        | Me ↦ omega arith
      ];
      stamped = (refl, table_left s.nic.eqs fault);
      rank = refl;
    }

pub eq_alloc_counts : (slot room : ℕ) (s : Seat) →
    Counts s (unless_misused (unless (nat_lt 0 room) misuses.NoRoom) s (tells (new Queue) (calls.eq_alloc slot room s.nic) s))
eq_alloc_counts slot room s =
    misused_counts (unless (nat_lt 0 room) misuses.NoRoom) s (tells (new Queue) (calls.eq_alloc slot room s.nic) s)
    (eq_alloc_by slot room s (alloc_fault s.nic.eqs) refl)

md_bind_by : (slot : ℕ) (md : Descriptor) (s : Seat) (o : Option NiFault) →
    bind_fault md (length s.nic.memory) s.nic.cts s.nic.eqs s.nic.mds ≡ o →
    Counts s (tells (new Md) (ends_by o s.nic (with_bound slot md s.nic) (handle slot s.nic.mds.given)) s)
md_bind_by slot md s (Some f) fault = refused_counts s f
md_bind_by slot md s None fault = record {
  given = λ sort. elim sort as (λ c. given_of c (with_nic (with_bound slot md s.nic) s) ≡ given_of c s + one_of c Md) [
    | Counter ↦ omega arith
    | Queue ↦ omega arith
    | Md ↦ refl
    | Me ↦ omega arith
  ];
  stamped = (refl, stamp_left _ top s.nic.mds.given (need-test _ _ _ (need-later _ _ _ fault)));
  rank = refl;
}

pub md_bind_counts : (slot : ℕ) (md : Descriptor) (s : Seat) → Counts s (tells (new Md) (calls.md_bind slot md s.nic) s)
md_bind_counts slot md s = md_bind_by slot md s (bind_fault md (length s.nic.memory) s.nic.cts s.nic.eqs s.nic.mds) refl

-- ---- an entry is appended

appended_counts : (slot : ℕ) (s : Seat) (p : Parts) (x : Appended) → AppendKeeps slot (parts_of s.nic) p x →
    s.nic.entries_given < top → Counts s (after (with_nic (with_parts p s.nic) s) (appended x))
appended_counts slot s p (IsLinked h) k left =
    let l : LinksParts slot (parts_of s.nic) p = k.1 in
    let t : Seat = with_nic (with_parts p s.nic) s in
    let stamp : h.stamp ≡ s.nic.entries_given = ap (λ (x : Handle). x.stamp) k.0 in
    record {
      given = λ sort. elim sort as (λ c. given_of c t ≡ given_of c s + one_of c Me) [
        | Counter ↦ omega (arith, l.cts.given)
        | Queue ↦ omega (arith, l.eqs.given)
        | Md ↦ omega arith
        | Me ↦ l.given
      ];
      stamped = (stamp, rw stamp left);
      rank = refl;
    }
appended_counts slot s p (Consumed u) k left =
    let t : Seat = with_nic (with_parts p s.nic) s in
    none_counts s (after t (owed.Taken u)) (λ sort. elim sort as (λ c. given_of c t ≡ given_of c s) [
      | Counter ↦ k.cts.given
      | Queue ↦ k.eqs.given
      | Md ↦ refl
      | Me ↦ k.given
    ]) refl refl

append_left : (pt : ℕ) (e : Entry) (p : Parts) → append_fault pt e p ≡ None → p.side.given < top
append_left pt e p fault =
    let full : Bool = nat_le p.side.limit (linked_count p.side) in
    let within : Option NiFault = need (is_within e.start e.length (length p.region)) OutOfRegion None in
    let room : Option NiFault = need (not (full || nat_le top p.side.given)) NoSpace within in
    let live : Option NiFault = need (is_live_or_none e.ct p.cts) Stale room in
    stamp_left full top p.side.given
    (need-test (not (full || nat_le top p.side.given)) NoSpace within
    (need-later (is_live_or_none e.ct p.cts) Stale room (need-later (is_allocated pt p.side) Stale live fault)))

append_by : (slot pt : ℕ) (list : EntryList) (e : Entry) (s : Seat) (o : Option NiFault) → append_fault pt e (parts_of s.nic) ≡ o → (
    let a = append slot pt list e (parts_of s.nic) in
    Counts s (tells appended (ends_by o s.nic (with_parts a.parts s.nic) a.appended) s)
    )
append_by slot pt list e s (Some f) fault = refused_counts s f
append_by slot pt list e s None fault =
    let a = append slot pt list e (parts_of s.nic) in
    appended_counts slot s a.parts a.appended (append_keeps slot pt list e (parts_of s.nic))
    (append_left pt e (parts_of s.nic) fault)

pub me_append_counts : (slot pt : ℕ) (list : EntryList) (e : Entry) (s : Seat) →
    Counts s (tells appended (calls.me_append slot pt list e s.nic) s)
me_append_counts slot pt list e s = append_by slot pt list e s (append_fault pt e (parts_of s.nic)) refl
