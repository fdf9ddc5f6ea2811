-- What a call that asks answers at two interfaces of a log that differ in slots alone: it leaves each as it was.
use Rattle.std.proofs.Common.{◌≡◌, ℕ, zero, suc, Bool, true, false, ◌||◌, List, [], ◌∷◌, length, map, Option, Some, None, Result, Ok, Err}
use Rattle.std.proofs.Common.{refl, ap, ap₂, sym, ◌∙◌, option_map, cond}
use Rattle.std.proofs.lemmas.List.{length-map}
use Rattle.std.specs.List.{slice_get}
use Rattle.std.proofs.lemmas.Bool.{or_left, or_right}
use Rattle.std.proofs.lemmas.Option.{slice_get-map}
use Rattle.ptl_types.specs.declared.handles.Handle.{Handle}
use Rattle.ptl_types.specs.declared.entries.UnexpectedHeader.{UnexpectedHeader}
use Rattle.ptl_types.specs.declared.calls.NiFault.{NiFault}
use Rattle.ptl_types.specs.Handles.{same_handle}
use Rattle.ni_model.specs.declared.IndexedHeader.{IndexedHeader}
use Rattle.ni_model.specs.Answers.{is_awaited}
use Rattle.ni_model.specs.Headers.{headers_of, is_of, names_entry}
use Rattle.ni_model.specs.Refusals.{is_linked_anywhere}
use Rattle.ni_model.specs.State.{State}
use Rattle.ni_model.specs.Calls.{awaits, ct_get}
use Rattle.ni_model.specs.Ready.{ready_numbers, ready_numbers_to, target_at}
use Rattle.match_lists.specs.unexpected.Places.{header_at}
use Rattle.log_words.specs.Words.{Word}
use Rattle.log_answers.specs.declared.owed.Owed.{Owed}
use Rattle.log_answers.specs.declared.owed.Owed.TheVariants as owed
use Rattle.log_answers.specs.declared.owed.Sort.TheVariants.{Counter, Descriptor}
use Rattle.log_seats.specs.Answers.{after, counts, found, is_ready_at, lane_owed, number, outside, rank_owed, reads}
use Rattle.log_seats.specs.Answers.{ready_at_owed, ready_owed, told, yes}
use Rattle.log_seats.specs.Seats.{handle_of, operation_of}
use Rattle.log_seats.specs.declared.seats.Seat.{Seat}
use Rattle.slot_laws.specs.Renaming.{IsRenaming, Renaming}
use Rattle.slot_laws.specs.Renamed.{renamed, renamed_indexed, renamed_posted, renamed_unexpected}
use Rattle.slot_laws.specs.Told.{HoldsOfNamed, renamed_owed}
use Rattle.slot_laws.proofs.terms.Counting.{makes_none}
use Rattle.slot_laws.specs.Alike.{AftersAlike, KeepsNone, KnownIn, SeatsAlike}
use Rattle.slot_laws.proofs.Handles.{handle_of_renamed, operation_of_alike}
use Rattle.slot_laws.proofs.SeatAnswers.{after_alike, unless_alike}
use Rattle.slot_laws.proofs.Headers.{headers_of_renamed}
use Rattle.slot_laws.proofs.Starting.{is_awaited_renamed}
use Rattle.slot_laws.proofs.Calling.{awaits_renamed, ct_get_renamed}
use Rattle.slot_laws.proofs.Firing.{is_ready_renamed, ready_numbers_renamed, ready_numbers_to_renamed, target_at_renamed}
use Rattle.ni_objects.proofs.users.SumLemmas.{same-self}

-- ---- answers that hold no handle

abbrev pub is_plain : Owed → Bool
is_plain (owed.New sort h) = false
is_plain (owed.Linked h) = false
is_plain (owed.Found u) = false
is_plain (owed.Taken u) = false
is_plain (owed.Told h) = false
is_plain _ = true

pub plain_renamed : (r : Renaming) (rank : ℕ) (o : Owed) → is_plain o ≡ true → renamed_owed r rank o ≡ o
plain_renamed r rank (owed.Word w) e = refl
plain_renamed r rank (owed.Amount n) e = refl
plain_renamed r rank (owed.Counts c) e = refl
plain_renamed r rank (owed.Part start n) e = refl
plain_renamed r rank (owed.New sort h) e = cc
plain_renamed r rank (owed.Linked h) e = cc
plain_renamed r rank owed.Message e = refl
plain_renamed r rank (owed.Delivered o answers) e = refl
plain_renamed r rank (owed.Event x) e = refl
plain_renamed r rank (owed.Found u) e = cc
plain_renamed r rank (owed.Taken u) e = cc
plain_renamed r rank (owed.Told h) e = cc
plain_renamed r rank owed.Ready e = refl
plain_renamed r rank (owed.Operation t) e = refl

pub plain_names : (Entries : Handle → Type 0) (o : Owed) → is_plain o ≡ true → HoldsOfNamed Entries o
plain_names Entries (owed.Word w) e = tt
plain_names Entries (owed.Amount n) e = tt
plain_names Entries (owed.Counts c) e = tt
plain_names Entries (owed.Part start n) e = tt
plain_names Entries (owed.New sort h) e = tt
plain_names Entries (owed.Linked h) e = tt
plain_names Entries owed.Message e = tt
plain_names Entries (owed.Delivered o answers) e = tt
plain_names Entries (owed.Event x) e = tt
plain_names Entries (owed.Found u) e = cc
plain_names Entries (owed.Taken u) e = cc
plain_names Entries (owed.Told h) e = tt
plain_names Entries owed.Ready e = tt
plain_names Entries (owed.Operation t) e = tt

-- nor is any of them of a new thing
pub plain_none : (o : Owed) → is_plain o ≡ true → makes_none o ≡ true
plain_none (owed.Word w) e = refl
plain_none (owed.Amount n) e = refl
plain_none (owed.Counts c) e = refl
plain_none (owed.Part start n) e = refl
plain_none (owed.New sort h) e = cc
plain_none (owed.Linked h) e = cc
plain_none owed.Message e = refl
plain_none (owed.Delivered o answers) e = refl
plain_none (owed.Event x) e = refl
plain_none (owed.Found u) e = refl
plain_none (owed.Taken u) e = refl
plain_none (owed.Told h) e = refl
plain_none owed.Ready e = refl
plain_none (owed.Operation t) e = refl

pub plain_told : {A : Type 0} (f : A → Owed) → ((x : A) → is_plain (f x) ≡ true) → (x : Result A NiFault) → is_plain (told f x) ≡ true
plain_told f plain (Ok x) = plain x
plain_told f plain (Err fault) = refl

-- ---- an answer that leaves the interface as it was

module _ (r : Renaming) (s t : Seat) (a : SeatsAlike r s t) where
  pub plain_alike : (o o' : Owed) → is_plain o ≡ true → o' ≡ o → AftersAlike r (after s o) (after t o')
  plain_alike o o' plain is =
      after_alike r s t o o' a (is ∙ sym (plain_renamed r s.nic.rank o plain)) (plain_names (KnownIn s.nic) o plain)

  -- the same is told of a thing of the interface
  told_alike : {A : Type 0} (f : A → Owed) (x x' : Result A NiFault) → ((y : A) → is_plain (f y) ≡ true) → x' ≡ x →
      AftersAlike r (after s (told f x)) (after t (told f x'))
  told_alike f x x' plain is = plain_alike (told f x) (told f x') (plain_told f plain x) (ap (told f) is)

  -- a number that is the same
  number_alike : (n n' : ℕ) → n' ≡ n → AftersAlike r (after s (number n)) (after t (number n'))
  number_alike n n' is = plain_alike (number n) (number n') refl (ap number is)

  yes_alike : (b b' : Bool) → b' ≡ b → AftersAlike r (after s (yes b)) (after t (yes b'))
  yes_alike b b' is = plain_alike (yes b) (yes b') refl (ap yes is)

-- ---- what each call of an interface answers that only asks

pub ready_owed_plain : (ts : List ℕ) → is_plain (ready_owed ts) ≡ true
ready_owed_plain [] = refl
ready_owed_plain (t ∷ ts) = refl

pub ready_at_plain : (o : Option ℕ) → is_plain (ready_at_owed o) ≡ true
ready_at_plain None = refl
ready_at_plain (Some t) = refl

rank_plain : (o : Option ℕ) → is_plain (rank_owed o) ≡ true
rank_plain None = refl
rank_plain (Some r) = refl

pub lane_plain : (s : State) (o : Option ℕ) → is_plain (lane_owed s o) ≡ true
lane_plain s None = refl
lane_plain s (Some t) = rank_plain (target_at s t)

lane_renamed : (r : Renaming) (s : State) (o : Option ℕ) → lane_owed (renamed r s) o ≡ lane_owed s o
lane_renamed r s None = refl
lane_renamed r s (Some t) = ap rank_owed (target_at_renamed r s t)

is_ready_at_renamed : (r : Renaming) → IsRenaming r → (s : State) (o : Option ℕ) → is_ready_at (renamed r s) o ≡ is_ready_at s o
is_ready_at_renamed r k s None = refl
is_ready_at_renamed r k s (Some t) = is_ready_renamed r k s t

-- a header that waits, by its number
header_at_renamed : (r : Renaming) (pt i : ℕ) (hs : List IndexedHeader) →
    header_at pt i (map (renamed_indexed r) hs) ≡ option_map (renamed_unexpected r) (header_at pt i hs)
header_at_renamed r pt i hs =
    ap (λ (xs : List IndexedHeader). option_map (λ (a : IndexedHeader). a.header) (slice_get xs i)) (headers_of_renamed r pt hs)
    ∙ ap (option_map (λ (a : IndexedHeader). a.header)) (slice_get-map (renamed_indexed r) (headers_of pt hs) i)
    ∙ by_header (slice_get (headers_of pt hs) i)
  where
    by_header : (o : Option IndexedHeader) → option_map (λ (a : IndexedHeader). a.header) (option_map (renamed_indexed r) o)
        ≡ option_map (renamed_unexpected r) (option_map (λ (a : IndexedHeader). a.header) o)
    by_header None = refl
    by_header (Some a) = refl

pub found_renamed : (r : Renaming) (rank : ℕ) (o : Option UnexpectedHeader) →
    found (option_map (renamed_unexpected r) o) ≡ renamed_owed r rank (found o)
found_renamed r rank None = refl
found_renamed r rank (Some u) = refl

-- whose entry has a header that waits
header_named : (pt i : ℕ) (hs : List IndexedHeader) (a : IndexedHeader) → slice_get (headers_of pt hs) i ≡ Some a →
    names_entry a.header.entry hs ≡ true
header_named pt i [] a e = cc
header_named pt i (b ∷ hs) a e =
    elim (is_of pt b) as (λ c. slice_get (cond c (b ∷ headers_of pt hs) (headers_of pt hs)) i ≡ Some a →
    (same_handle b.header.entry a.header.entry || names_entry a.header.entry hs) ≡ true) [
      | true ↦ at i (λ j. header_named pt j hs a)
      | false ↦ λ is. or_right (same_handle b.header.entry a.header.entry) _ (header_named pt i hs a is)
    ] e
  where
    at : (j : ℕ) → ((l : ℕ) → slice_get (headers_of pt hs) l ≡ Some a → names_entry a.header.entry hs ≡ true) →
        slice_get (b ∷ headers_of pt hs) j ≡ Some a → (same_handle b.header.entry a.header.entry || names_entry a.header.entry hs) ≡ true
    at zero later is =
        let same : b ≡ a = cc in
        or_left _ _ (ap (λ (c : IndexedHeader). same_handle b.header.entry c.header.entry) (sym same)
        ∙ same-self b.header.entry)
    at (suc j) later is = or_right _ _ (later j is)

found_known : (pt i : ℕ) (n : State) → HoldsOfNamed (KnownIn n) (found (header_at pt i n.headers.unexpected))
found_known pt i n = by_header (slice_get (headers_of pt n.headers.unexpected) i) refl
  where
    by_header : (o : Option IndexedHeader) → slice_get (headers_of pt n.headers.unexpected) i ≡ o →
        HoldsOfNamed (KnownIn n) (found (option_map (λ (b : IndexedHeader). b.header) o))
    by_header None e = tt
    by_header (Some b) e =
        or_right (is_linked_anywhere b.header.entry n.indices) _ (header_named pt i n.headers.unexpected b e)

module _ (r : Renaming) (k : IsRenaming r) (none : KeepsNone r) (s t : Seat) (a : SeatsAlike r s t) where
  pub ct_get_alike : (ct : Word) → AftersAlike r (after s (told counts (ct_get (handle_of Counter s ct) s.nic)))
      (after t (told counts (ct_get (handle_of Counter t ct) t.nic)))
  ct_get_alike ct =
      told_alike r s t a counts (ct_get (handle_of Counter s ct) s.nic) (ct_get (handle_of Counter t ct) t.nic) (λ c. refl)
      (ap₂ ct_get (handle_of_renamed r s t a.near none Counter tt ct) a.near.nic ∙ ct_get_renamed r k (handle_of Counter s ct) s.nic)

  pub awaits_alike : (md : Word) → AftersAlike r (after s (told number (awaits (handle_of Descriptor s md) s.nic)))
      (after t (told number (awaits (handle_of Descriptor t md) t.nic)))
  awaits_alike md =
      told_alike r s t a number (awaits (handle_of Descriptor s md) s.nic) (awaits (handle_of Descriptor t md) t.nic) (λ n. refl)
      (ap₂ awaits (handle_of_renamed r s t a.near none Descriptor tt md) a.near.nic ∙ awaits_renamed r k (handle_of Descriptor s md) s.nic)

  pub awaits_any_alike : AftersAlike r (after s (yes (is_awaited s.nic.mds.live))) (after t (yes (is_awaited t.nic.mds.live)))
  awaits_any_alike =
      yes_alike r s t a (is_awaited s.nic.mds.live) (is_awaited t.nic.mds.live)
      (ap (λ (n : State). is_awaited n.mds.live) a.near.nic ∙ is_awaited_renamed r (r.md s.nic.rank) s.nic.mds.live)

  pub headers_alike : AftersAlike r (after s (number (length s.nic.headers.unexpected)))
      (after t (number (length t.nic.headers.unexpected)))
  headers_alike =
      number_alike r s t a (length s.nic.headers.unexpected) (length t.nic.headers.unexpected)
      (ap (λ (n : State). length n.headers.unexpected) a.near.nic ∙ length-map s.nic.headers.unexpected (renamed_indexed r))

  -- the entry of the header has the same word in both
  pub header_alike : (pt i : ℕ) → AftersAlike r (after s (found (header_at pt i s.nic.headers.unexpected)))
      (after t (found (header_at pt i t.nic.headers.unexpected)))
  header_alike pt i =
      after_alike r s t (found (header_at pt i s.nic.headers.unexpected)) (found (header_at pt i t.nic.headers.unexpected)) a
      (ap (λ (n : State). found (header_at pt i n.headers.unexpected)) a.near.nic
      ∙ ap found (header_at_renamed r pt i s.nic.headers.unexpected)
      ∙ found_renamed r s.nic.rank (header_at pt i s.nic.headers.unexpected))
      (found_known pt i s.nic)

  pub is_ready_alike : (w : Word) → AftersAlike r (after s (yes (is_ready_at s.nic (operation_of s w))))
      (after t (yes (is_ready_at t.nic (operation_of t w))))
  is_ready_alike w =
      yes_alike r s t a (is_ready_at s.nic (operation_of s w)) (is_ready_at t.nic (operation_of t w))
      (ap₂ is_ready_at a.near.nic (operation_of_alike r s t a.near w) ∙ is_ready_at_renamed r k s.nic (operation_of s w))

  ready_same : ready_numbers t.nic ≡ ready_numbers s.nic
  ready_same = ap ready_numbers a.near.nic ∙ ready_numbers_renamed r k s.nic

  pub ready_alike : AftersAlike r (after s (ready_owed (ready_numbers s.nic))) (after t (ready_owed (ready_numbers t.nic)))
  ready_alike =
      plain_alike r s t a (ready_owed (ready_numbers s.nic)) (ready_owed (ready_numbers t.nic)) (ready_owed_plain (ready_numbers s.nic))
      (ap ready_owed ready_same)

  pub ready_count_alike : AftersAlike r (after s (number (length (ready_numbers s.nic)))) (after t (number (length (ready_numbers t.nic))))
  ready_count_alike = number_alike r s t a (length (ready_numbers s.nic)) (length (ready_numbers t.nic)) (ap length ready_same)

  pub ready_at_alike : (i : ℕ) → AftersAlike r (after s (ready_at_owed (slice_get (ready_numbers s.nic) i)))
      (after t (ready_at_owed (slice_get (ready_numbers t.nic) i)))
  ready_at_alike i =
      plain_alike r s t a (ready_at_owed (slice_get (ready_numbers s.nic) i)) (ready_at_owed (slice_get (ready_numbers t.nic) i))
      (ready_at_plain (slice_get (ready_numbers s.nic) i)) (ap (λ (ts : List ℕ). ready_at_owed (slice_get ts i)) ready_same)

  pub ready_count_to_alike : (rank : ℕ) → AftersAlike r (after s (number (length (ready_numbers_to rank s.nic))))
      (after t (number (length (ready_numbers_to rank t.nic))))
  ready_count_to_alike rank =
      number_alike r s t a (length (ready_numbers_to rank s.nic)) (length (ready_numbers_to rank t.nic))
      (ap (λ (n : State). length (ready_numbers_to rank n)) a.near.nic ∙ ap length (ready_numbers_to_renamed r k rank s.nic))

  pub lane_of_alike : (w : Word) → AftersAlike r (after s (lane_owed s.nic (operation_of s w)))
      (after t (lane_owed t.nic (operation_of t w)))
  lane_of_alike w =
      plain_alike r s t a (lane_owed s.nic (operation_of s w)) (lane_owed t.nic (operation_of t w)) (lane_plain s.nic (operation_of s w))
      (ap₂ lane_owed a.near.nic (operation_of_alike r s t a.near w) ∙ lane_renamed r s.nic (operation_of s w))

  pub outside_same : (start n : ℕ) → outside t.nic start n ≡ outside s.nic start n
  outside_same start n = ap (λ (x : State). outside x start n) a.near.nic

  pub read_alike : (start n : ℕ) → AftersAlike r (reads start n s) (reads start n t)
  read_alike start n =
      unless_alike r s t (outside s.nic start n) (outside t.nic start n) (after s (owed.Part start n)) (after t (owed.Part start n)) a
      (outside_same start n) (λ inside. plain_alike r s t a (owed.Part start n) (owed.Part start n) refl refl)

  pub pending_alike : AftersAlike r (after s (number (length s.nic.pending.waiting))) (after t (number (length t.nic.pending.waiting)))
  pending_alike =
      number_alike r s t a (length s.nic.pending.waiting) (length t.nic.pending.waiting)
      (ap (λ (n : State). length n.pending.waiting) a.near.nic ∙ length-map s.nic.pending.waiting (renamed_posted r s.nic.rank))

  pub drops_alike : AftersAlike r (after s (number s.nic.drops)) (after t (number t.nic.drops))
  drops_alike = number_alike r s t a s.nic.drops t.nic.drops (ap (λ (n : State). n.drops) a.near.nic)

  pub violations_alike : AftersAlike r (after s (number s.nic.violations)) (after t (number t.nic.violations))
  violations_alike = number_alike r s t a s.nic.violations t.nic.violations (ap (λ (n : State). n.violations) a.near.nic)
