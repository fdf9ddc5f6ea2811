-- What words name where an answer was given is the same in two runs.
use Rattle.std.proofs.Common.{◌≡◌, ℕ, Bool, true, false, ◌==◌, List, Option, Some, None, refl, ap, sym, ◌∙◌, cond, arith, not}
use Rattle.std.proofs.lemmas.Bool.Decides.{nat_tests}
use Rattle.ptl_types.specs.declared.handles.Handle.{Handle}
use Rattle.ni_model.specs.State.{State}
use Rattle.ni_model.specs.Ready.{is_ready}
use Rattle.log_answers.specs.declared.owed.Sort.{Sort}
use Rattle.log_answers.specs.declared.owed.Sort.TheVariants.{Counter, Queue, Descriptor, Entry}
use Rattle.log_answers.specs.names.Names.{word_of}
use Rattle.log_answers.specs.names.Postings.{number_of, word_of_number}
use Rattle.log_seats.specs.Seats.{is_free}
use Rattle.log_seats.specs.declared.seats.Seat.{Seat}
use Rattle.log_verdict.specs.Scenes.{descriptor_word_at, is_ready_if, known_at, part_of, ready_at, seat_at}
use Rattle.log_verdict.specs.declared.scenes.Scene.{Scene}
use Rattle.slot_laws.specs.Renaming.{IsRenaming, Renaming}
use Rattle.slot_laws.specs.Told.{KnowsAlike}
use Rattle.slot_laws.specs.Alike.{AlikeButEntries}
use Rattle.slot_laws.proofs.terms.Scenes.{AllAlike, AreRenamings, MayBeAlike, Renamings, at}
use Rattle.slot_laws.proofs.Firing.{is_ready_renamed}
use Rattle.slot_laws.proofs.Numbered.{word_of_number_renamed}
use Rattle.slot_laws.proofs.SameNames.{is_named_renamed}
use Rattle.slot_laws.proofs.Rows.{lookup_alike}

free_alike : (r : Renaming) (s t : Seat) → AlikeButEntries r s t → (sort : Sort) (word : List ℕ) → is_free sort t word ≡ is_free sort s word
free_alike r s t near Counter word = ap not (is_named_renamed r.ct s.counters t.counters word near.counters)
free_alike r s t near Queue word = ap not (is_named_renamed r.eq s.queues t.queues word near.queues)
free_alike r s t near Descriptor word =
    ap not (is_named_renamed (r.md s.nic.rank) s.descriptors t.descriptors word near.descriptors)
free_alike r s t near Entry word = refl

ready_if_alike : (r : Renaming) → IsRenaming r → (s t : Seat) → AlikeButEntries r s t → (o : Option ℕ) → is_ready_if t o ≡ is_ready_if s o
ready_if_alike r is s t near None = refl
ready_if_alike r is s t near (Some n) = ap (λ u. is_ready u n) near.nic ∙ is_ready_renamed r is s.nic n

pub ready_alike : (r : Renaming) → IsRenaming r → (s t : Seat) → AlikeButEntries r s t → (word : List ℕ) →
    ready_at (Some t) word ≡ ready_at (Some s) word
ready_alike r is s t near word =
    ap (λ p. is_ready_if t (number_of word p)) near.operations ∙ ready_if_alike r is s t near (number_of word s.operations)

pub operations_alike : (r : Renaming) (s t : Seat) → AlikeButEntries r s t → (n : ℕ) →
    word_of_number n t.operations ≡ word_of_number n s.operations
operations_alike r s t near n = ap (word_of_number n) near.operations ∙ word_of_number_renamed r.ct n s.operations

-- of one of the others
other_word : (g : Renamings) (rank : ℕ) (md : Handle) (o p : Option Seat) → MayBeAlike g rank o p →
    descriptor_word_at p (g rank Descriptor md) ≡ descriptor_word_at o md
other_word g rank md None None alike = refl
other_word g rank md None (Some t) alike = absurd alike
other_word g rank md (Some s) None alike = absurd alike
other_word g rank md (Some s) (Some t) (at_rank, alike) =
    ap (λ k. word_of (g k Descriptor md) t.descriptors) (sym at_rank) ∙ alike.near.descriptors.words md

-- of the one that answers, or of one of the others
own_word : (g : Renamings) (k rank : ℕ) (md : Handle) (s t : Seat) → AlikeButEntries (at g k) s t → (o p : Option Seat) →
    MayBeAlike g rank o p →
    (b : Bool) → (s.nic.rank == rank) ≡ b →
    descriptor_word_at (cond b (Some t) p) (g rank Descriptor md) ≡ descriptor_word_at (cond b (Some s) o) md
own_word g k rank md s t near o p alike true e =
    let same : s.nic.rank ≡ rank = grind (arith, nat_tests) in
    ap (λ n. word_of (g n Descriptor md) t.descriptors) (sym same) ∙ near.descriptors.words md
own_word g k rank md s t near o p alike false e = other_word g rank md o p alike

module _ (g : Renamings) (are : AreRenamings g) (u v : Scene) (alike : AllAlike g u.seats v.seats) where
  pub answering_alike : (k : ℕ) (s t : Seat) → AlikeButEntries (at g k) s t → (bytes : List ℕ) →
      KnowsAlike (at g k) (λ h. word_of (g k Entry h) t.entries ≡ word_of h s.entries) (known_at (Some s) bytes u)
      (known_at (Some t) bytes v)
  answering_alike k s t near bytes = record {
    free = free_alike (at g k) s t near;
    ready = ready_alike (at g k) (are.apart k) s t near;
    descriptors = λ rank md.
        ap (λ n. descriptor_word_at (cond (n == rank) (Some t) (seat_at rank v)) (g rank Descriptor md))
        (ap (λ (x : State). x.rank) near.nic)
        ∙ own_word g k rank md s t near (seat_at rank u) (seat_at rank v) (lookup_alike g rank u.seats v.seats alike)
        (s.nic.rank == rank) refl;
    entries = λ h there. there;
    operations = operations_alike (at g k) s t near;
    part = λ start n. ap (λ (x : State). part_of (record t { nic = x }) start n) near.nic;
    message = refl;
  }

  pub others_alike : (k : ℕ) (Entries : Handle → Type 0) → ((h : Handle) → Entries h → ⊥) → (bytes : List ℕ) →
      KnowsAlike (at g k) Entries (known_at None bytes u) (known_at None bytes v)
  others_alike k Entries none bytes = record {
    free = λ sort word. refl;
    ready = λ word. refl;
    descriptors = λ rank md. other_word g rank md (seat_at rank u) (seat_at rank v) (lookup_alike g rank u.seats v.seats alike);
    entries = λ h there. absurd (none h there);
    operations = λ n. refl;
    part = λ start n. refl;
    message = refl;
  }
