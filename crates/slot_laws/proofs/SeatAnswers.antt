-- What a call leaves and answers is alike at two interfaces of a log that differ in the slots of handles alone: the general case.
use Rattle.std.proofs.Common.{◌≡◌, ℕ, Option, Some, None, Result, Ok, Err, option_map, refl, ap, sym, ◌∙◌, subst}
use Rattle.ptl_types.specs.declared.handles.Handle.{Handle}
use Rattle.ptl_types.specs.declared.calls.NiFault.{NiFault}
use Rattle.ptl_types.specs.Messages.{Sent}
use Rattle.ni_model.specs.State.{State}
use Rattle.ni_model.specs.Calls.{Done}
use Rattle.guarded_ni.specs.declared.faults.Misuse.{Misuse}
use Rattle.log_answers.specs.declared.names.postings.Postings.{Postings}
use Rattle.log_answers.specs.declared.owed.Owed.{Owed}
use Rattle.log_answers.specs.declared.owed.Owed.TheVariants as owed
use Rattle.log_answers.specs.names.Names.{word_of}
use Rattle.log_seats.specs.Answers.{After, after, misuse_word, ok, says, tells, told, unless_misused}
use Rattle.log_seats.specs.Seats.{with_nic, with_operations}
use Rattle.log_seats.specs.declared.seats.Seat.{Seat}
use Rattle.slot_laws.specs.Renaming.{Renaming}
use Rattle.slot_laws.specs.Renamed.{renamed, renamed_message}
use Rattle.slot_laws.proofs.terms.Answered.{renamed_done, renamed_result}
use Rattle.slot_laws.specs.Told.{HoldsOfNamed, renamed_owed}
use Rattle.slot_laws.specs.Naming.{NamesAgree, NamesRenamed, renamed_postings}
use Rattle.slot_laws.proofs.terms.Lasting.{Keeps}
use Rattle.slot_laws.specs.Alike.{AftersAlike, IsNot, KnownIn, AlikeButEntries, OldIn, SeatsAlike}
use Rattle.slot_laws.proofs.SameNames.{agree_fewer}

-- ---- what an answer names, where more are known

pub names_of_more : (Known More : Handle → Type 0) → ((h : Handle) → Known h → More h) → (o : Owed) → HoldsOfNamed Known o →
    HoldsOfNamed More o
names_of_more Known More more (owed.Found u) known = more u.entry known
names_of_more Known More more (owed.Taken u) known = more u.entry known
names_of_more Known More more o known = tt

-- ---- what the interface is handed

pub near_with_nic : (r : Renaming) (s t : Seat) (n n' : State) → AlikeButEntries r s t → n.rank ≡ s.nic.rank → n' ≡ renamed r n →
    AlikeButEntries r (with_nic n s) (with_nic n' t)
near_with_nic r s t n n' near rank nic = record {
  nic = nic;
  counters = near.counters;
  queues = near.queues;
  descriptors = subst (λ i. NamesRenamed (r.md i) s.descriptors t.descriptors) (sym rank) near.descriptors;
  operations = near.operations;
}

-- other operations wait
pub near_with_operations : (r : Renaming) (s t : Seat) (p p' : Postings) → AlikeButEntries r s t → p' ≡ renamed_postings r.ct p →
    AlikeButEntries r (with_operations p s) (with_operations p' t)
near_with_operations r s t p p' near same = record {
  nic = near.nic;
  counters = near.counters;
  queues = near.queues;
  descriptors = near.descriptors;
  operations = same;
}

-- ---- any call that leaves the names of entries: what is known then was known before, but for an entry that was linked just now

pub leaves_alike : (r : Renaming) (s t u v : Seat) (o o' : Owed) (m m' : Option Sent) → SeatsAlike r s t →
    u.entries ≡ s.entries → v.entries ≡ t.entries → AlikeButEntries r u v → o' ≡ renamed_owed r u.nic.rank o →
    m' ≡ option_map (renamed_message r) m →
    ((h : Handle) → KnownIn u.nic h → IsNot o h → KnownIn s.nic h) → HoldsOfNamed (KnownIn s.nic) o →
    AftersAlike r (record { seat = u; owed = o; sent = m }) (record { seat = v; owed = o'; sent = m' })
leaves_alike r s t u v o o' m m' alike names names' near owes sends known named = record {
  near = near;
  entries =
      subst (λ n. NamesAgree (OldIn (record { seat = u; owed = o; sent = m })) r.me u.entries n) (sym names')
      (subst (λ n. NamesAgree (OldIn (record { seat = u; owed = o; sent = m })) r.me n t.entries) (sym names)
      (agree_fewer (KnownIn s.nic) (OldIn (record { seat = u; owed = o; sent = m })) r.me s.entries t.entries
      (λ h old. known h old.0 old.1) alike.entries));
  owed = owes;
  sent = sends;
  named =
      names_of_more (KnownIn s.nic) (λ h. word_of (r.me h) v.entries ≡ word_of h u.entries)
      (λ h is.
      ap (word_of (r.me h)) names' ∙ alike.entries.words h is ∙ ap (word_of h) (sym names))
      o named;
}

-- a call that only asks
pub after_alike : (r : Renaming) (s t : Seat) (o o' : Owed) → SeatsAlike r s t → o' ≡ renamed_owed r s.nic.rank o →
    HoldsOfNamed (KnownIn s.nic) o → AftersAlike r (after s o) (after t o')
after_alike r s t o o' alike owes named =
    leaves_alike r s t s t o o' None None alike refl refl alike.near owes refl (λ h is other. is) named

-- two calls that end so
pub ended_alike : (r : Renaming) (u v x y : After) → x ≡ u → y ≡ v → AftersAlike r u v → AftersAlike r x y
ended_alike r u v x y is is' alike = subst (λ z. AftersAlike r z y) (sym is) (subst (λ z. AftersAlike r u z) (sym is') alike)

-- a rule that is broken, or kept
pub unless_alike : (r : Renaming) (s t : Seat) (m m' : Option Misuse) (x y : After) → SeatsAlike r s t → m' ≡ m →
    (m ≡ None → AftersAlike r x y) → AftersAlike r (unless_misused m s x) (unless_misused m' t y)
unless_alike r s t m m' x y alike same kept =
    subst (λ n. AftersAlike r (unless_misused m s x) (unless_misused n t y)) (sym same) (by_rule m kept)
  where
    by_rule : (n : Option Misuse) → (n ≡ None → AftersAlike r x y) → AftersAlike r (unless_misused n s x) (unless_misused n t y)
    by_rule None is = is refl
    by_rule (Some broken) is = after_alike r s t (says (misuse_word broken)) (says (misuse_word broken)) alike refl tt

-- ---- answers

module _ {A : Type 0} (r : Renaming) (rank : ℕ) (f : A → Owed) where
  -- the answer renamed so
  pub told_renamed : (g : A → A) (x : Result A NiFault) → ((a : A) → f (g a) ≡ renamed_owed r rank (f a)) →
      told f (renamed_result g x) ≡ renamed_owed r rank (told f x)
  told_renamed g (Ok a) same = same a
  told_renamed g (Err fault) same = refl

  -- an answer that holds no handle
  pub told_same : (x : Result A NiFault) → ((a : A) → f a ≡ renamed_owed r rank (f a)) → told f x ≡ renamed_owed r rank (told f x)
  told_same (Ok a) same = same a
  told_same (Err fault) same = refl

pub told_names : {A : Type 0} (Known : Handle → Type 0) (f : A → Owed) (x : Result A NiFault) →
    ((a : A) → x ≡ Ok a → HoldsOfNamed Known (f a)) → HoldsOfNamed Known (told f x)
told_names Known f (Ok a) named = named a refl
told_names Known f (Err fault) named = tt

-- ---- a call that tells its answer

-- the answer renamed so
pub tells_alike : {A : Type 0} (r : Renaming) (s t : Seat) (f : A → Owed) (g : A → A) (d d' : Done (Result A NiFault)) → SeatsAlike r s t →
    d' ≡ renamed_done r (renamed_result g) d → ((a : A) → f (g a) ≡ renamed_owed r s.nic.rank (f a)) → d.state.rank ≡ s.nic.rank →
    ((h : Handle) → KnownIn d.state h → IsNot (told f d.answer) h → KnownIn s.nic h) →
    ((a : A) → d.answer ≡ Ok a → HoldsOfNamed (KnownIn s.nic) (f a)) → AftersAlike r (tells f d s) (tells f d' t)
tells_alike {A} r s t f g d d' alike done same rank known named =
    leaves_alike r s t (with_nic d.state s) (with_nic d'.state t) (told f d.answer) (told f d'.answer) None None alike refl refl
    (near_with_nic r s t d.state d'.state alike.near rank (ap (λ (x : Done (Result A NiFault)). x.state) done))
    (ap (λ (x : Done (Result A NiFault)). told f x.answer) done
    ∙ told_renamed r d.state.rank f g d.answer (λ a. same a ∙ ap (λ i. renamed_owed r i (f a)) (sym rank)))
    refl known (told_names (KnownIn s.nic) f d.answer named)

-- an answer that holds no handle
pub tells_same : {A : Type 0} (r : Renaming) (s t : Seat) (f : A → Owed) (d d' : Done (Result A NiFault)) → SeatsAlike r s t →
    d' ≡ renamed_done r (λ x. x) d → ((a : A) → f a ≡ renamed_owed r s.nic.rank (f a)) → d.state.rank ≡ s.nic.rank →
    ((h : Handle) → KnownIn d.state h → IsNot (told f d.answer) h → KnownIn s.nic h) →
    ((a : A) → d.answer ≡ Ok a → HoldsOfNamed (KnownIn s.nic) (f a)) → AftersAlike r (tells f d s) (tells f d' t)
tells_same {A} r s t f d d' alike done same rank known named =
    leaves_alike r s t (with_nic d.state s) (with_nic d'.state t) (told f d.answer) (told f d'.answer) None None alike refl refl
    (near_with_nic r s t d.state d'.state alike.near rank (ap (λ (x : Done (Result A NiFault)). x.state) done))
    (ap (λ (x : Done (Result A NiFault)). told f x.answer) done
    ∙ told_same r d.state.rank f d.answer (λ a. same a ∙ ap (λ i. renamed_owed r i (f a)) (sym rank)))
    refl known (told_names (KnownIn s.nic) f d.answer named)

-- where the call leaves what is known, and answers nothing that is new
pub tells_kept : {A : Type 0} (r : Renaming) (s t : Seat) (f : A → Owed) (d d' : Done (Result A NiFault)) → SeatsAlike r s t →
    d' ≡ renamed_done r (λ x. x) d → ((a : A) → f a ≡ renamed_owed r s.nic.rank (f a)) → Keeps s.nic d.state →
    ((a : A) → d.answer ≡ Ok a → HoldsOfNamed (KnownIn s.nic) (f a)) → AftersAlike r (tells f d s) (tells f d' t)
tells_kept r s t f d d' alike done same keeps named =
    tells_same r s t f d d' alike done same keeps.rank (λ h is other. keeps.known h is) named

pub tells_ok : (r : Renaming) (s t : Seat) (d d' : Done (Result (Unit {0}) NiFault)) → SeatsAlike r s t →
    d' ≡ renamed_done r (λ x. x) d → Keeps s.nic d.state → AftersAlike r (tells ok d s) (tells ok d' t)
tells_ok r s t d d' alike done keeps = tells_kept r s t ok d d' alike done (λ a. refl) keeps (λ a is. tt)
