-- An answer that is judged or written, in two runs: the same step, and scenes alike.
use Rattle.std.proofs.Common.{◌≡◌, ℕ, true, false, List, [], ◌∷◌, ◌++◌, Option, Some, None, refl, ap, ap₂, sym, subst, ◌∙◌, cond}
use Rattle.std.proofs.Common.{option_map}
use Rattle.std.specs.List.{slice_get}
use Rattle.ptl_types.specs.declared.handles.Handle.{Handle}
use Rattle.ptl_types.specs.Messages.{Sent}
use Rattle.ni_model.specs.State.{State}
use Rattle.ni_model.specs.Ready.{ready_numbers}
use Rattle.log_words.specs.Words.{Rest, Word}
use Rattle.log_words.specs.declared.faults.Flaw.TheVariants.{NameTaken}
use Rattle.log_answers.specs.Agreement.{found}
use Rattle.log_answers.specs.Known.{Known}
use Rattle.log_answers.specs.declared.agreement.Found.{Found}
use Rattle.log_answers.specs.declared.agreement.Found.TheVariants as founds
use Rattle.log_answers.specs.declared.owed.Owed.{Owed}
use Rattle.log_answers.specs.declared.owed.Owed.TheVariants as owed
use Rattle.log_answers.specs.declared.owed.Sort.{Sort}
use Rattle.log_answers.specs.declared.owed.Sort.TheVariants.{Counter, Queue, Descriptor, Entry}
use Rattle.log_answers.specs.declared.names.flights.Flights.{Flights}
use Rattle.log_answers.specs.names.Keys.{Numbers, with_number}
use Rattle.log_answers.specs.names.Names.{word_of}
use Rattle.log_seats.specs.Answers.{After}
use Rattle.log_seats.specs.declared.seats.Seat.{Seat}
use Rattle.log_verdict.specs.Answering.{agreed, answered, before_name, came, chosen_name, compared_by, compared_with, filled_text, flawed}
use Rattle.log_verdict.specs.Answering.{letter_of, numbered}
use Rattle.log_verdict.specs.Answering.{is_taken, judged_as, said_text, taken_as, with_answer, with_new, with_sent_if, word_if}
use Rattle.log_verdict.specs.Scenes.{known_at}
use Rattle.log_verdict.specs.declared.answering.Compared.{Compared}
use Rattle.log_verdict.specs.declared.answering.Compared.TheVariants as compares
use Rattle.log_verdict.specs.declared.answering.Step.{Step}
use Rattle.log_verdict.specs.declared.answering.Step.TheVariants as steps
use Rattle.log_verdict.specs.declared.scenes.Scene.{Scene}
use Rattle.slot_laws.specs.Renaming.{Renaming}
use Rattle.slot_laws.specs.Renamed.{renamed_message}
use Rattle.slot_laws.specs.Naming.{renamed_flights}
use Rattle.slot_laws.specs.Told.{KnowsAlike, HoldsOfNamed, renamed_owed, renaming_of}
use Rattle.slot_laws.specs.Alike.{AftersAlike, IsConsistentAfter, AlikeButEntries, SeatsAlike}
use Rattle.slot_laws.proofs.terms.Scenes.{AllAlike, AreRenamings, CamesAlike, Renamings, ScenesAlike, at}
use Rattle.slot_laws.proofs.Comparing.{found_alike, owed_text_alike}
use Rattle.slot_laws.proofs.Firing.{ready_numbers_renamed}
use Rattle.slot_laws.proofs.Knowing.{answering_alike, operations_alike}
use Rattle.slot_laws.proofs.Named.{named_alike}
use Rattle.slot_laws.proofs.Numbered.{with_sent_renamed}
use Rattle.slot_laws.proofs.Rows.{insert_alike}

pub compared_with_alike : {r : Renaming} {E : Handle → Type 0} {k k' : Known} → KnowsAlike r E k k' → (rank : ℕ) (o : Owed) →
    HoldsOfNamed E o →
    (said : Rest) → compared_with k' (renamed_owed r rank o) said ≡ compared_with k o said
unfolding compared_with
compared_with_alike {r} {E} {k} {k'} alike rank o there said =
    ap (λ f. compared_by f k' (renamed_owed r rank o) said) (found_alike alike rank o there said) ∙ by (found k o said)
  where
    by : (f : Found) → compared_by f k' (renamed_owed r rank o) said ≡ compared_by f k o said
    by (founds.Agrees word) = refl
    by (founds.Differs column) = ap (λ text. compares.Differs column (said_text said.words) text) (owed_text_alike alike rank o there)

-- ---- the scene after an answer

pub nic_of_new : (o : Owed) (word : Option (List ℕ)) (s : Seat) → (with_new o word s).nic ≡ s.nic
nic_of_new (owed.New Counter h) word s = refl
nic_of_new (owed.New Queue h) word s = refl
nic_of_new (owed.New Descriptor h) word s = refl
nic_of_new (owed.New Entry h) word s = refl
nic_of_new (owed.Linked h) word s = refl
nic_of_new (owed.Word w) word s = refl
nic_of_new (owed.Amount n) word s = refl
nic_of_new (owed.Counts c) word s = refl
nic_of_new (owed.Part start length) word s = refl
nic_of_new owed.Message word s = refl
nic_of_new (owed.Delivered outcome answers) word s = refl
nic_of_new (owed.Event e) word s = refl
nic_of_new (owed.Found u) word s = refl
nic_of_new (owed.Taken u) word s = refl
nic_of_new (owed.Told h) word s = refl
nic_of_new owed.Ready word s = refl
nic_of_new (owed.Operation n) word s = refl

sent_alike : (g : Renamings) (k : ℕ) (o : Option Sent) (word : Option (List ℕ)) (fs : Flights) →
    with_sent_if (option_map (renamed_message (at g k)) o) word (renamed_flights (at g 0) fs)
    ≡ renamed_flights (at g 0) (with_sent_if o word fs)
sent_alike g k None word fs = refl
sent_alike g k (Some m) word fs = with_sent_renamed (at g 0) m word fs

is_taken_alike : (g : Renamings) (k : ℕ) (o : Option Sent) (word : Option (List ℕ)) (fs : Flights) →
    is_taken (option_map (renamed_message (at g k)) o) word (renamed_flights (at g 0) fs) ≡ is_taken o word fs
is_taken_alike g k None word fs = refl
is_taken_alike g k (Some m) None fs = refl
is_taken_alike g k (Some m) (Some word) fs = refl

seated_alike : (g : Renamings) (k : ℕ) (s t : Seat) → s.nic.rank ≡ k → SeatsAlike (at g k) s t → (es fs : Numbers Seat) → AllAlike g es fs →
    AllAlike g (with_number s.nic.rank s es) (with_number t.nic.rank t fs)
seated_alike g k s t at_rank alike es fs all =
    let there : t.nic.rank ≡ k = ap (λ (x : State). x.rank) alike.near.nic ∙ at_rank in
    subst (λ n. AllAlike g (with_number n s es) (with_number t.nic.rank t fs)) (sym at_rank)
    (subst (λ n. AllAlike g (with_number k s es) (with_number n t fs)) (sym there) (insert_alike g k s t at_rank alike es fs all))

-- ---- names that are chosen

word_if_alike : (r : Renaming) (s t : Seat) → AlikeButEntries r s t → (o : Option ℕ) → word_if o t.operations ≡ word_if o s.operations
word_if_alike r s t near None = refl
word_if_alike r s t near (Some n) = operations_alike r s t near n

stamp_of : (g : Renamings) → AreRenamings g → (k rank : ℕ) (sort : Sort) (h : Handle) → (renaming_of (at g k) rank sort h).stamp ≡ h.stamp
stamp_of g are k rank Counter h = (are.apart k).ct.stamp h
stamp_of g are k rank Queue h = (are.apart k).eq.stamp h
stamp_of g are k rank Descriptor h = ((are.apart k).md rank).stamp h
stamp_of g are k rank Entry h = (are.apart k).me.stamp h

chosen_by : (g : Renamings) → AreRenamings g → (k : ℕ) (s t : Seat) → AlikeButEntries (at g k) s t → (fs : Flights) (o : Owed) →
    chosen_name (renamed_flights (at g 0) fs) t (renamed_owed (at g k) s.nic.rank o) ≡ chosen_name fs s o
chosen_by g are k s t near fs (owed.New sort h) = ap (λ n. Some (numbered (letter_of sort) n)) (stamp_of g are k s.nic.rank sort h)
chosen_by g are k s t near fs (owed.Linked h) = ap (λ n. Some (numbered 109 n)) (stamp_of g are k s.nic.rank Entry h)
chosen_by g are k s t near fs (owed.Word w) = refl
chosen_by g are k s t near fs (owed.Amount n) = refl
chosen_by g are k s t near fs (owed.Counts c) = refl
chosen_by g are k s t near fs (owed.Part start length) = refl
chosen_by g are k s t near fs owed.Message = refl
chosen_by g are k s t near fs (owed.Delivered outcome answers) = refl
chosen_by g are k s t near fs (owed.Event e) = refl
chosen_by g are k s t near fs (owed.Found u) = refl
chosen_by g are k s t near fs (owed.Taken u) = refl
chosen_by g are k s t near fs (owed.Told h) = refl
chosen_by g are k s t near fs owed.Ready =
    ap (λ (x : State). word_if (slice_get (ready_numbers x) 0) t.operations) near.nic
    ∙ ap (λ ns. word_if (slice_get ns 0) t.operations) (ready_numbers_renamed (at g k) (are.apart k) s.nic)
    ∙ word_if_alike (at g k) s t near (slice_get (ready_numbers s.nic) 0)
chosen_by g are k s t near fs (owed.Operation n) = refl

before_alike : {r : Renaming} {E : Handle → Type 0} {k k' : Known} → KnowsAlike r E k k' → (rank : ℕ) (o : Owed) →
    before_name k' (renamed_owed r rank o) ≡ before_name k o
before_alike alike rank (owed.New sort h) = refl
before_alike alike rank (owed.Linked h) = refl
before_alike alike rank (owed.Word w) = refl
before_alike alike rank (owed.Amount n) = refl
before_alike alike rank (owed.Counts c) = refl
before_alike alike rank (owed.Part start length) = refl
before_alike alike rank owed.Message = refl
before_alike alike rank (owed.Delivered outcome answers) = owed_text_alike alike rank (owed.Delivered outcome false) tt
before_alike alike rank (owed.Event e) = refl
before_alike alike rank (owed.Found u) = refl
before_alike alike rank (owed.Taken u) = refl
before_alike alike rank (owed.Told h) = refl
before_alike alike rank owed.Ready = refl
before_alike alike rank (owed.Operation n) = refl

filled_alike : {r : Renaming} {E : Handle → Type 0} {k k' : Known} → KnowsAlike r E k k' → (rank : ℕ) (o : Owed) → HoldsOfNamed E o →
    (name : Option (List ℕ)) → filled_text k' (renamed_owed r rank o) name ≡ filled_text k o name
unfolding filled_text
filled_alike alike rank o there None = owed_text_alike alike rank o there
filled_alike alike rank o there (Some name) = ap (λ text. text ++ 32 ∷ name) (before_alike alike rank o)

-- ---- what comes of an answer

module _ (g : Renamings) (are : AreRenamings g) (u v : Scene) (alike : ScenesAlike g u v) where
  came_alike : (step : Step) → CamesAlike g (came u step) (came v step)
  came_alike step = record { step = refl; scene = alike }

  module _ (k : ℕ) (x : After) (t : Seat) (near : AlikeButEntries (at g k) x.seat t) (at_rank : x.seat.nic.rank ≡ k)
      (named : (word : Option (List ℕ)) → SeatsAlike (at g k) (with_new x.owed word x.seat)
      (with_new (renamed_owed (at g k) x.seat.nic.rank x.owed) word t))
      (knows : HoldsOfNamed (λ h. word_of (g k Entry h) t.entries ≡ word_of h x.seat.entries) x.owed) where
    twin : After
    twin = record {
      seat = t;
      owed = renamed_owed (at g k) x.seat.nic.rank x.owed;
      sent = option_map (renamed_message (at g k)) x.sent;
    }

    with_answer_alike : (word : Option (List ℕ)) → ScenesAlike g (with_answer x word u) (with_answer twin word v)
    unfolding with_answer twin
    with_answer_alike word = record {
      ranks = alike.ranks;
      any_order = alike.any_order;
      seats =
          seated_alike g k (with_new x.owed word x.seat) (with_new (renamed_owed (at g k) x.seat.nic.rank x.owed) word t)
          (ap (λ (y : State). y.rank) (nic_of_new x.owed word x.seat) ∙ at_rank) (named word) u.seats v.seats alike.seats;
      flights = ap (with_sent_if (option_map (renamed_message (at g k)) x.sent) word) alike.flights ∙ sent_alike g k x.sent word u.flights;
    }

    taken_alike : (word : Option (List ℕ)) (column : ℕ) (step : Step) →
        CamesAlike g (taken_as x word column step u) (taken_as twin word column step v)
    unfolding twin
    taken_alike word column step =
        let same : is_taken twin.sent word v.flights ≡ is_taken x.sent word u.flights =
        ap (is_taken twin.sent word) alike.flights ∙ is_taken_alike g k x.sent word u.flights in
        rw same (elim (is_taken x.sent word u.flights) as
        (λ b. CamesAlike g (cond b (flawed column NameTaken u) (came (with_answer x word u) step))
        (cond b (flawed column NameTaken v) (came (with_answer twin word v) step))) [
          | true ↦ record { step = refl; scene = alike }
          | false ↦ record { step = refl; scene = with_answer_alike word }
        ])

    agreed_alike : (new : Option Word) → CamesAlike g (agreed new x u) (agreed new twin v)
    agreed_alike None = taken_alike None 1 steps.Goes
    agreed_alike (Some w) = taken_alike (Some w.text) w.column steps.Goes

    judged_alike : (c : Compared) → CamesAlike g (judged_as c x u) (judged_as c twin v)
    judged_alike (compares.Agrees word) = agreed_alike word
    judged_alike (compares.Differs column said o) = came_alike (steps.Differs column said o)

    twin_alike : (said : Option Rest) → CamesAlike g (answered x said u) (answered twin said v)
    unfolding answered twin
    twin_alike None =
        let name : chosen_name v.flights t (renamed_owed (at g k) x.seat.nic.rank x.owed) ≡ chosen_name u.flights x.seat x.owed =
        ap (λ fs. chosen_name fs t (renamed_owed (at g k) x.seat.nic.rank x.owed)) alike.flights
        ∙ chosen_by g are k x.seat t near u.flights x.owed in
        record {
          step = ap steps.Owes
              (ap (filled_text (known_at (Some t) [] v) (renamed_owed (at g k) x.seat.nic.rank x.owed)) name
              ∙ filled_alike (answering_alike g are u v alike.seats k x.seat t near []) x.seat.nic.rank x.owed knows
              (chosen_name u.flights x.seat x.owed));
          scene = subst (λ n. ScenesAlike g (with_answer x (chosen_name u.flights x.seat x.owed) u) (with_answer twin n v)) (sym name)
              (with_answer_alike (chosen_name u.flights x.seat x.owed));
        }
    twin_alike (Some said) =
        rw (compared_with_alike (answering_alike g are u v alike.seats k x.seat t near []) x.seat.nic.rank x.owed knows said)
        (judged_alike (compared_with (known_at (Some x.seat) [] u) x.owed said))

pub answered_alike : (g : Renamings) → AreRenamings g → (u v : Scene) → ScenesAlike g u v → (k : ℕ) (x y : After) →
    AftersAlike (at g k) x y →
    IsConsistentAfter x → IsConsistentAfter y → x.seat.nic.rank ≡ k → (said : Option Rest) →
    CamesAlike g (answered x said u) (answered y said v)
unfolding twin
answered_alike g are u v alike k x y both here there at_rank said =
    let same : record {
      seat = y.seat;
      owed = renamed_owed (at g k) x.seat.nic.rank x.owed;
      sent = option_map (renamed_message (at g k)) x.sent;
    } ≡ y = ap₂ (λ o m. record { seat = y.seat; owed = o; sent = m }) (sym both.owed) (sym both.sent) in
    subst (λ z. CamesAlike g (answered x said u) (answered z said v)) same
    (twin_alike g are u v alike k x y.seat both.near at_rank
    (λ word. subst (λ o. SeatsAlike (at g k) (with_new x.owed word x.seat) (with_new o word y.seat)) both.owed
    (named_alike (at g k) (are.apart k) x y word both here there)) both.named said)

-- the scene after it, whatever word is given
pub answer_alike : (g : Renamings) → AreRenamings g → (u v : Scene) → ScenesAlike g u v → (k : ℕ) (x y : After) → AftersAlike (at g k) x y →
    IsConsistentAfter x → IsConsistentAfter y → x.seat.nic.rank ≡ k → (word : Option (List ℕ)) →
    ScenesAlike g (with_answer x word u) (with_answer y word v)
unfolding twin
answer_alike g are u v alike k x y both here there at_rank word =
    let same : record {
      seat = y.seat;
      owed = renamed_owed (at g k) x.seat.nic.rank x.owed;
      sent = option_map (renamed_message (at g k)) x.sent;
    } ≡ y = ap₂ (λ o m. record { seat = y.seat; owed = o; sent = m }) (sym both.owed) (sym both.sent) in
    subst (λ z. ScenesAlike g (with_answer x word u) (with_answer z word v)) same
    (with_answer_alike g are u v alike k x y.seat both.near at_rank
    (λ w. subst (λ o. SeatsAlike (at g k) (with_new x.owed w x.seat) (with_new o w y.seat)) both.owed
    (named_alike (at g k) (are.apart k) x y w both here there)) both.named word)
