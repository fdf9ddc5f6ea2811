-- Calls on portal table indices and match entries are alike at two interfaces of a log that differ in the slots of handles alone.
use Rattle.std.proofs.Common.{◌≡◌, ℕ, Bool, true, false, ◌||◌, List, [], ◌∷◌, Option, Some, None, Result, Ok, Err, option_map}
use Rattle.std.proofs.Common.{if◌then◌else◌, refl, ap, ap₂, sym, ◌∙◌, subst, inl, inr, ◌⊎◌}
use Rattle.std.specs.Prelude.{find}
use Rattle.std.proofs.lemmas.Bool.{or_left, or_right}
use Rattle.ptl_types.specs.declared.handles.Handle.{Handle}
use Rattle.ptl_types.specs.declared.entries.Entry.{Entry}
use Rattle.ptl_types.specs.declared.entries.List.{List as EntryList}
use Rattle.ptl_types.specs.declared.entries.List.TheVariants.{Priority, Overflow}
use Rattle.ptl_types.specs.declared.entries.UnexpectedHeader.{UnexpectedHeader}
use Rattle.ptl_types.specs.declared.calls.NiFault.{NiFault}
use Rattle.ptl_types.specs.declared.calls.Appended.{Appended}
use Rattle.ptl_types.specs.declared.calls.Appended.TheVariants.{Linked as IsLinked, Consumed}
use Rattle.ptl_types.specs.Handles.{same_handle}
use Rattle.ni_model.specs.declared.IndexedHeader.{IndexedHeader}
use Rattle.ni_model.specs.Tables.{handle}
use Rattle.ni_model.specs.Headers.{finds, found_in, names_entry, oldest}
use Rattle.ni_model.specs.Append.{append, append_fault, append_once, linked_as, search, search_fault, searched_at, take_all}
use Rattle.ni_model.specs.Arrive.{Parts}
use Rattle.ni_model.specs.State.{State, parts_of, with_parts}
use Rattle.ni_model.specs.Calls.{Done, ends_by, me_append, me_search, pt_alloc, pt_free}
use Rattle.log_words.specs.Words.{Word}
use Rattle.log_words.specs.declared.call_fields.said.EntrySaid.{EntrySaid}
use Rattle.log_answers.specs.declared.owed.Sort.TheVariants.{Queue}
use Rattle.log_seats.specs.Answers.{appended, entry_of, found, ok, tells, told}
use Rattle.log_seats.specs.Seats.{handle_if}
use Rattle.log_seats.specs.declared.seats.Seat.{Seat}
use Rattle.slot_laws.specs.Renaming.{IsRenaming, Renaming}
use Rattle.slot_laws.specs.Renamed.{renamed, renamed_appended, renamed_entry, renamed_unexpected}
use Rattle.slot_laws.proofs.terms.Answered.{renamed_done, renamed_result}
use Rattle.slot_laws.specs.Told.{HoldsOfNamed, renamed_owed}
use Rattle.slot_laws.proofs.terms.Lasting.{Alters, altered, refused, Appends}
use Rattle.slot_laws.specs.Alike.{Matches}
use Rattle.slot_laws.specs.Alike.{AftersAlike, IsNot, KeepsNone, KnownIn, SeatsAlike}
use Rattle.slot_laws.proofs.Appending.{me_append_renamed, me_search_renamed, pt_alloc_renamed, pt_free_renamed}
use Rattle.slot_laws.proofs.Leaving.{me_append_leaves, me_search_keeps, pt_alloc_keeps, pt_free_keeps}
use Rattle.slot_laws.proofs.Handles.{entry_of_renamed, handle_if_renamed}
use Rattle.slot_laws.proofs.SeatAsks.{found_renamed}
use Rattle.slot_laws.proofs.SeatAnswers.{tells_alike, tells_ok}
use Rattle.ni_objects.proofs.users.SumLemmas.{same-self}

-- ---- what a call answers

ended_ok : {A : Type 0} (o : Option NiFault) (old new : State) (x y : A) → (ends_by o old new x).answer ≡ Ok y → x ≡ y
ended_ok None old new x y is = cc
ended_ok (Some fault) old new x y is = cc

-- ---- a header that is found names an entry that is known

found_named : (p : IndexedHeader → Bool) (hs : List IndexedHeader) (a : IndexedHeader) → find p hs ≡ Some a →
    names_entry a.header.entry hs ≡ true
found_named p [] a is = cc
found_named p (b ∷ hs) a is = by_test (p b) (found_named p hs a) is
  where
    by_test : (c : Bool) → (find p hs ≡ Some a → names_entry a.header.entry hs ≡ true) → (if c then Some b else find p hs) ≡ Some a →
        (same_handle b.header.entry a.header.entry || names_entry a.header.entry hs) ≡ true
    by_test true more here =
        let same : b ≡ a = cc in
        or_left (same_handle b.header.entry a.header.entry) (names_entry a.header.entry hs)
        (ap (λ (x : IndexedHeader). same_handle x.header.entry a.header.entry) same ∙ same-self a.header.entry)
    by_test false more later = or_right (same_handle b.header.entry a.header.entry) (names_entry a.header.entry hs) (more later)

searched_named : (pt : ℕ) (e : Entry) (delete : Bool) (p : Parts) (u : UnexpectedHeader) → (search pt e delete p).found ≡ Some u →
    names_entry u.entry p.side.headers.unexpected ≡ true
unfolding search
searched_named pt e delete p u is = by_found (oldest pt e p.side.headers.unexpected) refl is
  where
    by_found : (o : Option IndexedHeader) → oldest pt e p.side.headers.unexpected ≡ o → (searched_at pt e delete p o).found ≡ Some u →
        names_entry u.entry p.side.headers.unexpected ≡ true
    by_found None none here = cc
    by_found (Some a) there here =
        let same : a.header ≡ u = cc in
        ap (λ (x : UnexpectedHeader). names_entry x.entry p.side.headers.unexpected) (sym same)
        ∙ found_named (finds pt e) p.side.headers.unexpected a there

once_named : (slot pt : ℕ) (e : Entry) (p : Parts) (u : UnexpectedHeader) (o : Option IndexedHeader) →
    oldest pt e p.side.headers.unexpected ≡ o → (append_once slot pt e p o).appended ≡ Consumed u →
    names_entry u.entry p.side.headers.unexpected ≡ true
once_named slot pt e p u None none is = cc
once_named slot pt e p u (Some a) there is =
    let same : a.header ≡ u = cc in
    ap (λ (x : UnexpectedHeader). names_entry x.entry p.side.headers.unexpected) (sym same)
    ∙ found_named (finds pt e) p.side.headers.unexpected a there

appended_named : (slot pt : ℕ) (list : EntryList) (e : Entry) (p : Parts) (u : UnexpectedHeader) →
    (append slot pt list e p).appended ≡ Consumed u → names_entry u.entry p.side.headers.unexpected ≡ true
unfolding append
appended_named slot pt Overflow e p u is = cc
appended_named slot pt Priority e p u is = by_test e.use_once is
  where
    by_test : (b : Bool) → (if b then append_once slot pt e p (oldest pt e p.side.headers.unexpected)
        else linked_as slot pt Priority e (found_in pt e p.side.headers.unexpected) (take_all pt e p)).appended ≡ Consumed u →
        names_entry u.entry p.side.headers.unexpected ≡ true
    by_test true once = once_named slot pt e p u (oldest pt e p.side.headers.unexpected) refl once
    by_test false all = cc

known_by_header : (s : State) (h : Handle) → names_entry h s.headers.unexpected ≡ true → KnownIn s h
known_by_header s h named = or_right _ (names_entry h s.headers.unexpected) named

-- ---- an append that links nothing is the same whatever slot a new entry would get

once_other_slot : (slot slot' pt : ℕ) (e : Entry) (p : Parts) (o : Option IndexedHeader) →
    ((h : Handle) → (append_once slot pt e p o).appended ≡ IsLinked h → ⊥) → append_once slot' pt e p o ≡ append_once slot pt e p o
once_other_slot slot slot' pt e p None not_linked = absurd (not_linked _ refl)
once_other_slot slot slot' pt e p (Some a) not_linked = refl

append_other_slot : (slot slot' pt : ℕ) (list : EntryList) (e : Entry) (p : Parts) →
    ((h : Handle) → (append slot pt list e p).appended ≡ IsLinked h → ⊥) → append slot' pt list e p ≡ append slot pt list e p
unfolding append
append_other_slot slot slot' pt Overflow e p not_linked = absurd (not_linked _ refl)
append_other_slot slot slot' pt Priority e p not_linked =
    let once = λ (k : ℕ). append_once k pt e p (oldest pt e p.side.headers.unexpected) in
    let all = λ (k : ℕ). linked_as k pt Priority e (found_in pt e p.side.headers.unexpected) (take_all pt e p) in
    elim e.use_once as (λ b. ((h : Handle) → (if b then once slot else all slot).appended ≡ IsLinked h → ⊥) →
    (if b then once slot' else all slot') ≡ (if b then once slot else all slot)) [
      | true ↦ λ other. once_other_slot slot slot' pt e p (oldest pt e p.side.headers.unexpected) other
      | false ↦ λ other. absurd (other _ refl)
    ] not_linked

me_append_other_slot : (slot slot' pt : ℕ) (list : EntryList) (e : Entry) (s : State) →
    ((h : Handle) → (me_append slot pt list e s).answer ≡ Ok (IsLinked h) → ⊥) → me_append slot' pt list e s ≡ me_append slot pt list e s
me_append_other_slot slot slot' pt list e s not_linked = by_fault (append_fault pt e (parts_of s)) not_linked
  where
    by_fault : (o : Option NiFault) →
        ((h : Handle) → (ends_by o s (with_parts (append slot pt list e (parts_of s)).parts s)
        (append slot pt list e (parts_of s)).appended).answer ≡ Ok (IsLinked h) → ⊥) →
        ends_by o s (with_parts (append slot' pt list e (parts_of s)).parts s) (append slot' pt list e (parts_of s)).appended
        ≡ ends_by o s (with_parts (append slot pt list e (parts_of s)).parts s) (append slot pt list e (parts_of s)).appended
    by_fault (Some fault) none = refl
    by_fault None none =
        ap (λ a. ends_by None s (with_parts a.parts s) a.appended)
        (append_other_slot slot slot' pt list e (parts_of s) (λ h is. none h (ap Ok is)))

-- the entry that is linked has the next stamp
linked_new : (slot pt : ℕ) (list : EntryList) (e : Entry) (s : State) (h : Handle) → (me_append slot pt list e s).answer ≡ Ok (IsLinked h) →
    h ≡ handle slot s.entries_given
linked_new slot pt list e s h is = by_leaving (me_append_leaves slot pt list e s)
  where
    by_linked : (a : Appended) → (me_append slot pt list e s).answer ≡ Ok a → Appends slot s (me_append slot pt list e s).state a →
        h ≡ handle slot s.entries_given
    by_linked (IsLinked k) answer leaves =
        let one : Ok (IsLinked h) ≡ Ok (IsLinked k) = sym is ∙ answer in
        let same : h ≡ k = cc in
        same ∙ leaves.0
    by_linked (Consumed u) answer leaves = let one : Ok (IsLinked h) ≡ Ok (Consumed u) = sym is ∙ answer in cc

    by_leaving : Alters (Appends slot s) s (me_append slot pt list e s) → h ≡ handle slot s.entries_given
    by_leaving (refused fault answer state) = let one : Ok (IsLinked h) ≡ Err fault = sym is ∙ answer in cc
    by_leaving (altered a answer leaves) = by_linked a answer leaves

-- ---- under renamed handles, where the new entry's handle is renamed if one is linked

module _ (r : Renaming) (k : IsRenaming r) where
  -- run 2 gives the slot of the renamed handle
  append_same_slot : (slot pt : ℕ) (list : EntryList) (e : Entry) (s : State) →
      me_append (r.me (handle slot s.entries_given)).slot pt list (renamed_entry r e) (renamed r s)
      ≡ renamed_done r (renamed_result (renamed_appended r)) (me_append slot pt list e s)
  append_same_slot slot pt list e s =
      let here : ℕ = (r.me (handle slot s.entries_given)).slot in
      me_append_renamed r k slot here pt list e s (ap (λ (stamp : ℕ). handle here stamp) (k.me.stamp (handle slot s.entries_given)))

  not_linked_then : (slot slot' pt : ℕ) (list : EntryList) (e : Entry) (s : State) →
      ((h : Handle) → renamed_result (renamed_appended r) (me_append slot pt list e s).answer ≡ Ok (IsLinked h) → ⊥) →
      me_append slot' pt list (renamed_entry r e) (renamed r s)
      ≡ renamed_done r (renamed_result (renamed_appended r)) (me_append slot pt list e s)
  not_linked_then slot slot' pt list e s not_linked =
      me_append_other_slot (r.me (handle slot s.entries_given)).slot slot' pt list (renamed_entry r e) (renamed r s)
      (λ h is. not_linked h
      (sym (ap (λ (d : Done (Result Appended NiFault)). d.answer) (append_same_slot slot pt list e s)) ∙ is))
      ∙ append_same_slot slot pt list e s

  pub append_where_linked_renamed : (slot slot' pt : ℕ) (list : EntryList) (e : Entry) (s : State) →
      ((h : Handle) → (me_append slot pt list e s).answer ≡ Ok (IsLinked h) →
      r.me (handle slot s.entries_given) ≡ handle slot' s.entries_given) →
      me_append slot' pt list (renamed_entry r e) (renamed r s)
      ≡ renamed_done r (renamed_result (renamed_appended r)) (me_append slot pt list e s)
  append_where_linked_renamed slot slot' pt list e s named = by_answer (me_append slot pt list e s).answer refl
    where
      by_answer : (x : Result Appended NiFault) → (me_append slot pt list e s).answer ≡ x →
          me_append slot' pt list (renamed_entry r e) (renamed r s)
          ≡ renamed_done r (renamed_result (renamed_appended r)) (me_append slot pt list e s)
      by_answer (Ok (IsLinked h)) is = me_append_renamed r k slot slot' pt list e s (named h is)
      by_answer (Ok (Consumed u)) is =
          not_linked_then slot slot' pt list e s
          (λ h links.
          let what : Ok (Consumed (renamed_unexpected r u)) ≡ Ok (IsLinked h) =
          ap (renamed_result (renamed_appended r)) (sym is) ∙ links in
          cc)
      by_answer (Err fault) is =
          not_linked_then slot slot' pt list e s
          (λ h links.
          let what : Err fault ≡ Ok (IsLinked h) = ap (renamed_result (renamed_appended r)) (sym is) ∙ links in
          cc)

  -- which it is where the two new entries are one
  pub matches_where_linked : (slot slot' pt : ℕ) (list : EntryList) (e : Entry) (s : State) →
      Matches r s.rank (told appended (me_append slot pt list e s).answer)
      (told appended (me_append slot' pt list (renamed_entry r e) (renamed r s)).answer) →
      (h : Handle) → (me_append slot pt list e s).answer ≡ Ok (IsLinked h) →
      r.me (handle slot s.entries_given) ≡ handle slot' s.entries_given
  matches_where_linked slot slot' pt list e s same h is = by_answer (me_append slot' pt list (renamed_entry r e) (renamed r s)).answer refl
    where
      new : h ≡ handle slot s.entries_given
      new = linked_new slot pt list e s h is

      -- an append that links nothing would link nothing at the slot of the renamed handle
      links : ((k : Handle) → (me_append slot' pt list (renamed_entry r e) (renamed r s)).answer ≡ Ok (IsLinked k) → ⊥) → ⊥
      links not_linked =
          not_linked (r.me h)
          (sym (ap (λ (d : Done (Result Appended NiFault)). d.answer)
          (me_append_other_slot slot' (r.me (handle slot s.entries_given)).slot pt list (renamed_entry r e) (renamed r s) not_linked))
          ∙ ap (λ (d : Done (Result Appended NiFault)). d.answer) (append_same_slot slot pt list e s)
          ∙ ap (renamed_result (renamed_appended r)) is)

      by_answer : (x : Result Appended NiFault) → (me_append slot' pt list (renamed_entry r e) (renamed r s)).answer ≡ x →
          r.me (handle slot s.entries_given) ≡ handle slot' s.entries_given
      by_answer (Ok (IsLinked x)) there =
          ap r.me (sym new)
          ∙ subst (λ y. Matches r s.rank (told appended y) (told appended (Ok (IsLinked x)))) is
          (subst (λ y. Matches r s.rank (told appended (me_append slot pt list e s).answer) (told appended y)) there same)
          ∙ linked_new slot' pt list (renamed_entry r e) (renamed r s) x there
      by_answer (Ok (Consumed u)) there =
          absurd (links (λ x linked. let what : Ok (Consumed u) ≡ Ok (IsLinked x) = sym there ∙ linked in cc))
      by_answer (Err fault) there = absurd (links (λ x linked. let what : Err fault ≡ Ok (IsLinked x) = sym there ∙ linked in cc))

-- ---- what is known after an append was known before, but for the entry that was linked

append_rank : (slot : ℕ) (s : State) (d : Done (Result Appended NiFault)) → Alters (Appends slot s) s d → d.state.rank ≡ s.rank
append_rank slot s d (refused fault answer state) = ap (λ (n : State). n.rank) state
append_rank slot s d (altered (IsLinked h) answer leaves) = leaves.1.rank
append_rank slot s d (altered (Consumed u) answer leaves) = leaves.rank

append_known : (slot : ℕ) (s : State) (d : Done (Result Appended NiFault)) → Alters (Appends slot s) s d →
    (h : Handle) → KnownIn d.state h → IsNot (told appended d.answer) h → KnownIn s h
append_known slot s d (refused fault answer state) h is other = subst (λ n. KnownIn n h) state is
append_known slot s d (altered (IsLinked me) answer leaves) h is other =
    known_or_new (leaves.1.known h is) (subst (λ x. IsNot (told appended x) h) answer other)
  where
    known_or_new : (KnownIn s h) ⊎ (h ≡ handle slot s.entries_given) → (h ≡ me → ⊥) → KnownIn s h
    known_or_new (inl known) apart = known
    known_or_new (inr new) apart = absurd (apart (new ∙ sym leaves.0))
append_known slot s d (altered (Consumed u) answer leaves) h is other = leaves.known h is

-- ---- what an entry's answers name

appended_told : (r : Renaming) (rank : ℕ) (a : Appended) → appended (renamed_appended r a) ≡ renamed_owed r rank (appended a)
appended_told r rank (IsLinked h) = refl
appended_told r rank (Consumed u) = refl

append_answer_named : (slot pt : ℕ) (list : EntryList) (e : Entry) (s : State) (a : Appended) →
    (me_append slot pt list e s).answer ≡ Ok a → HoldsOfNamed (KnownIn s) (appended a)
append_answer_named slot pt list e s (IsLinked h) is = tt
append_answer_named slot pt list e s (Consumed u) is =
    let a = append slot pt list e (parts_of s) in
    known_by_header s u.entry
    (appended_named slot pt list e (parts_of s) u (ended_ok (append_fault pt e (parts_of s)) s (with_parts a.parts s) a.appended _ is))

search_answer_named : (pt : ℕ) (e : Entry) (delete : Bool) (s : State) (o : Option UnexpectedHeader) →
    (me_search pt e delete s).answer ≡ Ok o → HoldsOfNamed (KnownIn s) (found o)
search_answer_named pt e delete s None is = tt
search_answer_named pt e delete s (Some u) is =
    let x = search pt e delete (parts_of s) in
    known_by_header s u.entry
    (searched_named pt e delete (parts_of s) u (ended_ok (search_fault pt (parts_of s)) s (with_parts x.parts s) x.found _ is))

-- ---- the calls of a log

module _ (r : Renaming) (k : IsRenaming r) (none : KeepsNone r) (s t : Seat) (alike : SeatsAlike r s t) where
  pub pt_alloc_alike : (pt : ℕ) (eq : Option Word) →
      AftersAlike r (tells ok (pt_alloc pt (handle_if Queue s eq) s.nic) s) (tells ok (pt_alloc pt (handle_if Queue t eq) t.nic) t)
  pt_alloc_alike pt eq =
      tells_ok r s t (pt_alloc pt (handle_if Queue s eq) s.nic) (pt_alloc pt (handle_if Queue t eq) t.nic) alike
      (ap₂ (pt_alloc pt) (handle_if_renamed r s t alike.near none Queue tt eq) alike.near.nic
      ∙ pt_alloc_renamed r k pt (handle_if Queue s eq) s.nic)
      (pt_alloc_keeps pt (handle_if Queue s eq) s.nic)

  pub pt_free_alike : (pt : ℕ) → AftersAlike r (tells ok (pt_free pt s.nic) s) (tells ok (pt_free pt t.nic) t)
  pt_free_alike pt =
      tells_ok r s t (pt_free pt s.nic) (pt_free pt t.nic) alike (ap (pt_free pt) alike.near.nic ∙ pt_free_renamed r pt s.nic)
      (pt_free_keeps pt s.nic)

  pub me_search_alike : (pt : ℕ) (delete : Bool) (e : EntrySaid) →
      AftersAlike r (tells found (me_search pt (entry_of s e) delete s.nic) s) (tells found (me_search pt (entry_of t e) delete t.nic) t)
  me_search_alike pt delete e =
      tells_alike r s t found (option_map (renamed_unexpected r)) (me_search pt (entry_of s e) delete s.nic)
      (me_search pt (entry_of t e) delete t.nic) alike
      (ap₂ (λ x n. me_search pt x delete n) (entry_of_renamed r s t alike.near none e) alike.near.nic
      ∙ me_search_renamed r k pt (entry_of s e) delete s.nic)
      (found_renamed r s.nic.rank)
      (me_search_keeps pt (entry_of s e) delete s.nic).rank
      (λ h is other. (me_search_keeps pt (entry_of s e) delete s.nic).known h is)
      (search_answer_named pt (entry_of s e) delete s.nic)

  -- the slots agree where an entry is linked
  pub me_append_alike : (slot slot' pt : ℕ) (list : EntryList) (e : EntrySaid) →
      ((h : Handle) → (me_append slot pt list (entry_of s e) s.nic).answer ≡ Ok (IsLinked h) →
      r.me (handle slot s.nic.entries_given) ≡ handle slot' s.nic.entries_given) →
      AftersAlike r (tells appended (me_append slot pt list (entry_of s e) s.nic) s)
      (tells appended (me_append slot' pt list (entry_of t e) t.nic) t)
  me_append_alike slot slot' pt list e named =
      let leaves = me_append_leaves slot pt list (entry_of s e) s.nic in
      tells_alike r s t appended (renamed_appended r) (me_append slot pt list (entry_of s e) s.nic)
      (me_append slot' pt list (entry_of t e) t.nic) alike
      (ap₂ (me_append slot' pt list) (entry_of_renamed r s t alike.near none e) alike.near.nic
      ∙ append_where_linked_renamed r k slot slot' pt list (entry_of s e) s.nic named)
      (appended_told r s.nic.rank)
      (append_rank slot s.nic (me_append slot pt list (entry_of s e) s.nic) leaves)
      (append_known slot s.nic (me_append slot pt list (entry_of s e) s.nic) leaves)
      (append_answer_named slot pt list (entry_of s e) s.nic)

  -- they are one entry
  pub me_append_matched : (slot slot' pt : ℕ) (list : EntryList) (e : EntrySaid) →
      Matches r s.nic.rank (told appended (me_append slot pt list (entry_of s e) s.nic).answer)
      (told appended (me_append slot' pt list (entry_of t e) t.nic).answer) →
      AftersAlike r (tells appended (me_append slot pt list (entry_of s e) s.nic) s)
      (tells appended (me_append slot' pt list (entry_of t e) t.nic) t)
  me_append_matched slot slot' pt list e same =
      me_append_alike slot slot' pt list e
      (matches_where_linked r k slot slot' pt list (entry_of s e) s.nic
      (subst (λ (d : Done (Result Appended NiFault)). Matches r s.nic.rank
      (told appended (me_append slot pt list (entry_of s e) s.nic).answer) (told appended d.answer))
      (ap₂ (me_append slot' pt list) (entry_of_renamed r s t alike.near none e) alike.near.nic) same))
