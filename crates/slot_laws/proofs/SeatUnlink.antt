-- A match entry is unlinked alike at two interfaces of a log that differ in the slots of handles alone. Its word may name one that is gone,
-- in one of the two another than in the other.
use Rattle.std.proofs.Common.{◌≡◌, Bool, true, false, ◌||◌, List, [], ◌∷◌, map, Option, Some, None, Result, Ok, Err, option_map}
use Rattle.std.proofs.Common.{not, refl, ap, ap₂, sym, ◌∙◌, subst}
use Rattle.std.specs.Prelude.{unwrap_or}
use Rattle.std.proofs.lemmas.Bool.{false_from_ne_true, or_left, or_right, true≢false}
use Rattle.ptl_types.specs.declared.handles.Handle.{Handle}
use Rattle.ptl_types.specs.declared.calls.NiFault.{NiFault}
use Rattle.ptl_types.specs.declared.calls.NiFault.TheVariants.{InUse, Stale}
use Rattle.ptl_types.specs.Handles.{same_handle}
use Rattle.ni_model.specs.declared.Linked.{Linked}
use Rattle.ni_model.specs.Lists.{Index, is_linked}
use Rattle.ni_model.specs.Headers.{names_entry}
use Rattle.ni_model.specs.Refusals.{is_linked_anywhere, is_linked_in}
use Rattle.ni_model.specs.Append.{need}
use Rattle.ni_model.specs.State.{State}
use Rattle.ni_model.specs.Calls.{Done, ends, ends_by, me_unlink, unlinked_in}
use Rattle.log_words.specs.Words.{Word}
use Rattle.log_words.specs.declared.call_fields.said.TheConstants.{NO_HANDLE}
use Rattle.log_answers.specs.declared.owed.Sort.TheVariants.{Entry as Me}
use Rattle.log_answers.specs.names.Names.{cleared, names_it, thing_of}
use Rattle.log_seats.specs.Answers.{after, fault_word, frees, says}
use Rattle.log_seats.specs.Seats.{handle_of, with_nic}
use Rattle.log_seats.specs.declared.seats.Seat.{Seat}
use Rattle.slot_laws.specs.Renaming.{IsRenaming, KeepsApart, Renaming}
use Rattle.slot_laws.specs.Renamed.{renamed, renamed_index, renamed_indices, renamed_linked}
use Rattle.slot_laws.proofs.terms.Answered.{renamed_done}
use Rattle.slot_laws.proofs.terms.Lasting.{Alters, altered, refused, Keeps, Unlinks}
use Rattle.slot_laws.specs.Alike.{is_known}
use Rattle.slot_laws.specs.Alike.{AftersAlike, IsConsistent, KeepsNone, KnownIn, AlikeButEntries, OldIn, SeatsAlike}
use Rattle.slot_laws.proofs.SameNames.{agree_fewer, cleared_agrees, named_it}
use Rattle.slot_laws.proofs.Appending.{me_unlink_renamed}
use Rattle.slot_laws.proofs.Leaving.{keeps_self, me_unlink_leaves}
use Rattle.slot_laws.proofs.Named.{is_known_renamed, one_renamed}
use Rattle.slot_laws.proofs.SeatAnswers.{after_alike, leaves_alike, near_with_nic}
use Rattle.ni_objects.proofs.users.SumLemmas.{same-is, same-self}

-- ---- what is linked under renamed handles is a renamed entry that is linked

abbrev pub IsRenamedOf : (Handle → Handle) → Handle → (Handle → Bool) → Type 0
IsRenamedOf f h' holds = (h : Handle) × ((f h ≡ h') × (holds h ≡ true))

module _ (r : Renaming) where
  linked_is_renamed : (h' : Handle) (xs : List Linked) → is_linked h' (map (renamed_linked r) xs) ≡ true →
      IsRenamedOf r.me h' (λ h. is_linked h xs)
  linked_is_renamed h' [] is = cc
  linked_is_renamed h' (x ∷ xs) is = by_test (same_handle (r.me x.handle) h') refl is (linked_is_renamed h' xs)
    where
      by_test : (b : Bool) → same_handle (r.me x.handle) h' ≡ b → (b || is_linked h' (map (renamed_linked r) xs)) ≡ true →
          (is_linked h' (map (renamed_linked r) xs) ≡ true → IsRenamedOf r.me h' (λ h. is_linked h xs)) →
          IsRenamedOf r.me h' (λ h. is_linked h (x ∷ xs))
      by_test true same first more =
          let holds = or_left (same_handle x.handle x.handle) (is_linked x.handle xs) (same-self x.handle) in
          (x.handle, (same-is (r.me x.handle) h' same, holds))
      by_test false apart later more =
          let there : IsRenamedOf r.me h' (λ h. is_linked h xs) = more later in
          (there.0, (there.1.0, or_right (same_handle x.handle there.0) (is_linked there.0 xs) there.1.1))

  -- of two tests of which one holds
  either_is_renamed : (h' : Handle) (p q : Handle → Bool) (b c : Bool) → (b ≡ true → IsRenamedOf r.me h' p) →
      (c ≡ true → IsRenamedOf r.me h' q) → (b || c) ≡ true → IsRenamedOf r.me h' (λ h. p h || q h)
  either_is_renamed h' p q true c first second is =
      let there : IsRenamedOf r.me h' p = first refl in
      (there.0, (there.1.0, or_left (p there.0) (q there.0) there.1.1))
  either_is_renamed h' p q false c first second is =
      let there : IsRenamedOf r.me h' q = second is in
      (there.0, (there.1.0, or_right (p there.0) (q there.0) there.1.1))

  linked_in_is_renamed : (h' : Handle) (o : Option Index) → is_linked_in h' (option_map (renamed_index r) o) ≡ true →
      IsRenamedOf r.me h' (λ h. is_linked_in h o)
  linked_in_is_renamed h' None is = cc
  linked_in_is_renamed h' (Some i) is =
      either_is_renamed h' (λ h. is_linked h i.priority) (λ h. is_linked h i.overflow) (is_linked h' (map (renamed_linked r) i.priority))
      (is_linked h' (map (renamed_linked r) i.overflow)) (linked_is_renamed h' i.priority) (linked_is_renamed h' i.overflow) is

  pub linked_anywhere_is_renamed : (h' : Handle) (is : List (Option Index)) → is_linked_anywhere h' (renamed_indices r is) ≡ true →
      IsRenamedOf r.me h' (λ h. is_linked_anywhere h is)
  linked_anywhere_is_renamed h' [] holds = cc
  linked_anywhere_is_renamed h' (i ∷ is) holds =
      either_is_renamed h' (λ h. is_linked_in h i) (λ h. is_linked_anywhere h is) (is_linked_in h' (option_map (renamed_index r) i))
      (is_linked_anywhere h' (renamed_indices r is)) (linked_in_is_renamed h' i) (linked_anywhere_is_renamed h' is) holds

-- ---- which entries the word of an unlinking names

-- linked in the one run, and then the other's handle is the renamed one; or linked in neither
pub data Unlinked (f : Handle → Handle) (a b : Handle) (is is' : List (Option Index)) : Type 0 where
  both : is_linked_anywhere a is ≡ true → b ≡ f a → Unlinked f a b is is'
  neither : is_linked_anywhere a is ≡ false → is_linked_anywhere b is' ≡ false → Unlinked f a b is is'

-- the word of a known thing names it in the other run
there_too : (f : Handle → Handle) (a b : Handle) (o o' : Option Handle) → f NO_HANDLE ≡ NO_HANDLE → a ≡ unwrap_or o NO_HANDLE →
    b ≡ unwrap_or o' NO_HANDLE → names_it (f a) o' ≡ names_it a o → (a ≡ NO_HANDLE → ⊥) → b ≡ f a
there_too f a b None o' none here there same some = absurd (some here)
there_too f a b (Some x) o' none here there same some =
    let named : o' ≡ Some (f a) =
    named_it (f a) o' (same ∙ ap (λ y. same_handle y a) (sym here) ∙ same-self a) in
    there ∙ ap (λ o. unwrap_or o NO_HANDLE) named

-- and what it names there, where that is known here
here_too : (f : Handle → Handle) → KeepsApart f → (a b c : Handle) (o o' : Option Handle) → f NO_HANDLE ≡ NO_HANDLE →
    a ≡ unwrap_or o NO_HANDLE → b ≡ unwrap_or o' NO_HANDLE → f c ≡ b → names_it (f c) o' ≡ names_it c o → (c ≡ NO_HANDLE → ⊥) → a ≡ c
here_too f k a b c o None none here there is same some = absurd (some (one_renamed f k c NO_HANDLE (is ∙ there ∙ sym none)))
here_too f k a b c o (Some y) none here there is same some =
    let named : o ≡ Some c =
    named_it c o (sym same ∙ ap (λ x. same_handle x (f c)) (sym (is ∙ there)) ∙ same-self (f c)) in
    here ∙ ap (λ p. unwrap_or p NO_HANDLE) named

known_if_linked : (s : State) (h : Handle) → is_linked_anywhere h s.indices ≡ true → KnownIn s h
known_if_linked s h linked = or_left (is_linked_anywhere h s.indices) (names_entry h s.headers.unexpected) linked

module _ (r : Renaming) (k : IsRenaming r) (none : KeepsNone r) (s t : Seat) (alike : SeatsAlike r s t)
    (nothing : KnownIn s.nic NO_HANDLE → ⊥) where
  pub unlinked_alike : (w : Word) → Unlinked r.me (handle_of Me s w) (handle_of Me t w) s.nic.indices t.nic.indices
  unlinked_alike w = by_test (is_linked_anywhere (handle_of Me s w) s.nic.indices) refl
    where
      -- a known entry is not the handle that no thing has
      is_some_entry : (h : Handle) → is_linked_anywhere h s.nic.indices ≡ true → h ≡ NO_HANDLE → ⊥
      is_some_entry h linked same = nothing (subst (KnownIn s.nic) same (known_if_linked s.nic h linked))

      linked_there : is_linked_anywhere (handle_of Me t w) t.nic.indices ≡ true → is_linked_anywhere (handle_of Me s w) s.nic.indices ≡ true
      linked_there linked =
          let there : IsRenamedOf r.me (handle_of Me t w) (λ h. is_linked_anywhere h s.nic.indices) =
          linked_anywhere_is_renamed r (handle_of Me t w) s.nic.indices
          (sym (ap (λ (n : State). is_linked_anywhere (handle_of Me t w) n.indices) alike.near.nic) ∙ linked) in
          let same : handle_of Me s w ≡ there.0 =
          here_too r.me k.me (handle_of Me s w) (handle_of Me t w) there.0 (thing_of w.text s.entries) (thing_of w.text t.entries)
          none.me refl refl there.1.0 (alike.entries.things w.text there.0 (known_if_linked s.nic there.0 there.1.1))
          (is_some_entry there.0 there.1.1) in
          ap (λ h. is_linked_anywhere h s.nic.indices) same ∙ there.1.1

      by_test : (b : Bool) → is_linked_anywhere (handle_of Me s w) s.nic.indices ≡ b →
          Unlinked r.me (handle_of Me s w) (handle_of Me t w) s.nic.indices t.nic.indices
      by_test true linked =
          both linked
          (there_too r.me (handle_of Me s w) (handle_of Me t w) (thing_of w.text s.entries) (thing_of w.text t.entries) none.me refl refl
          (alike.entries.things w.text (handle_of Me s w) (known_if_linked s.nic (handle_of Me s w) linked))
          (is_some_entry (handle_of Me s w) linked))
      by_test false apart =
          neither apart
          (false_from_ne_true (is_linked_anywhere (handle_of Me t w) t.nic.indices)
          (λ linked. true≢false (sym (linked_there linked) ∙ apart)))

-- ---- the call

-- an entry that isn't linked
unlink_stale : (h : Handle) (s : Seat) → is_linked_anywhere h s.nic.indices ≡ false →
    frees Me h (me_unlink h s.nic) s ≡ after s (says (fault_word Stale))
unlink_stale h s apart =
    ap (λ b. frees Me h (ends_by (need b Stale (need (not (names_entry h s.nic.headers.unexpected)) InUse None)) s.nic
    (record s.nic { indices = map (unlinked_in h) s.nic.indices }) tt) s) apart

module _ (r : Renaming) (k : IsRenaming r) (s t : Seat) (alike : SeatsAlike r s t) where
  unlink_refused : (a b : Handle) (n : State) (fault : NiFault) → Keeps s.nic n →
      AftersAlike r (frees Me a (ends n (Err fault)) s) (frees Me b (ends (renamed r n) (Err fault)) t)
  unlink_refused a b n fault keeps =
      leaves_alike r s t (with_nic n s) (with_nic (renamed r n) t) (says (fault_word fault)) (says (fault_word fault)) None None alike
      refl refl (near_with_nic r s t n (renamed r n) alike.near keeps.rank refl) refl refl (λ h is other. keeps.known h is) tt

  unlink_done : (a : Handle) (n : State) (u : Unit {0}) → IsConsistent s → IsConsistent t → KnownIn s.nic a → Unlinks a s.nic n →
      AftersAlike r (frees Me a (ends n (Ok u)) s) (frees Me (r.me a) (ends (renamed r n) (Ok u)) t)
  unlink_done a n u ordered ordered' known leaves =
      let near : AlikeButEntries r (with_nic n s) (with_nic (renamed r n) t) =
      near_with_nic r s t n (renamed r n) alike.near leaves.keeps.rank refl in
      record {
        near = record {
          nic = near.nic;
          counters = near.counters;
          queues = near.queues;
          descriptors = near.descriptors;
          operations = near.operations;
        };
        entries =
            agree_fewer (λ h. KnownIn s.nic h × (h ≡ a → ⊥)) (OldIn (frees Me a (ends n (Ok u)) s)) r.me (cleared a.slot s.entries)
            (cleared (r.me a).slot t.entries)
            (λ h old. (leaves.keeps.known h old.0, λ same. true≢false (sym old.0 ∙ ap (λ x. is_known x n) same ∙ leaves.gone)))
            (cleared_agrees (KnownIn s.nic) r.me s.entries t.entries a alike.entries
            (λ h is other same. other (ordered.entries h a is known same))
            (λ h is other same. other
            (one_renamed r.me k.me h a (ordered'.entries (r.me h) (r.me a) (known_there h is) (known_there a known) same))));
        owed = refl;
        sent = refl;
        named = tt;
      }
    where
      known_there : (h : Handle) → KnownIn s.nic h → KnownIn t.nic (r.me h)
      known_there h is = ap (λ x. is_known (r.me h) x) alike.near.nic ∙ is_known_renamed r k h s.nic ∙ is

  unlink_either : (a : Handle) (d : Done (Result (Unit {0}) NiFault)) → IsConsistent s → IsConsistent t → KnownIn s.nic a →
      Alters (λ n u. Unlinks a s.nic n) s.nic d → AftersAlike r (frees Me a d s) (frees Me (r.me a) (renamed_done r (λ x. x) d) t)
  unlink_either a d ordered ordered' known (refused fault answer state) =
      subst (λ x. AftersAlike r (frees Me a x s) (frees Me (r.me a) (renamed_done r (λ y. y) x) t)) (sym (ap (ends d.state) answer))
      (unlink_refused a (r.me a) d.state fault (subst (Keeps s.nic) (sym state) (keeps_self s.nic)))
  unlink_either a d ordered ordered' known (altered u answer leaves) =
      subst (λ x. AftersAlike r (frees Me a x s) (frees Me (r.me a) (renamed_done r (λ y. y) x) t)) (sym (ap (ends d.state) answer))
      (unlink_done a d.state u ordered ordered' known leaves)

  unlink_alike : (a b : Handle) → IsConsistent s → IsConsistent t → Unlinked r.me a b s.nic.indices t.nic.indices →
      AftersAlike r (frees Me a (me_unlink a s.nic) s) (frees Me b (me_unlink b t.nic) t)
  unlink_alike a b ordered ordered' (both linked same) =
      subst (λ (d : Done (Result (Unit {0}) NiFault)). AftersAlike r (frees Me a (me_unlink a s.nic) s) (frees Me b d t))
      (sym (ap₂ me_unlink same alike.near.nic ∙ me_unlink_renamed r k a s.nic))
      (subst (λ h. AftersAlike r (frees Me a (me_unlink a s.nic) s) (frees Me h (renamed_done r (λ x. x) (me_unlink a s.nic)) t)) (sym same)
      (unlink_either a (me_unlink a s.nic) ordered ordered' (known_if_linked s.nic a linked) (me_unlink_leaves a s.nic)))
  unlink_alike a b ordered ordered' (neither apart apart') =
      subst (λ x. AftersAlike r x (frees Me b (me_unlink b t.nic) t)) (sym (unlink_stale a s apart))
      (subst (λ y. AftersAlike r (after s (says (fault_word Stale))) y) (sym (unlink_stale b t apart'))
      (after_alike r s t (says (fault_word Stale)) (says (fault_word Stale)) alike refl tt))

  pub me_unlink_alike : KeepsNone r → (KnownIn s.nic NO_HANDLE → ⊥) → IsConsistent s → IsConsistent t → (w : Word) →
      AftersAlike r (frees Me (handle_of Me s w) (me_unlink (handle_of Me s w) s.nic) s)
      (frees Me (handle_of Me t w) (me_unlink (handle_of Me t w) t.nic) t)
  me_unlink_alike none nothing ordered ordered' w =
      unlink_alike (handle_of Me s w) (handle_of Me t w) ordered ordered' (unlinked_alike r k none s t alike nothing w)
