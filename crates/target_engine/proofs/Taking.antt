-- One header that an entry takes, with its record.
use Rattle.std.proofs.Common.{◌≡◌, ℕ, ◌+◌, ◌<◌, Bool, true, false, not, List, Option, [], ◌∷◌, ◌++◌, length, take, drop, get_or, set}
use Rattle.std.proofs.Common.{if◌then◌else◌, refl, ap, sym, ◌∙◌, arith, add-one, drop-cons, append-nil}
use Rattle.std.proofs.lemmas.List.{get_or-drop, get_or_default}
use Rattle.std.proofs.lemmas.List.Elements.{filter_more}
use Rattle.std.proofs.lemmas.List.Filters.{FiltersInPlace, FiltersInPlace-more_no, FiltersInPlace-more_set}
use Rattle.ptl_types.specs.declared.entries.Entry.{Entry}
use Rattle.ptl_types.specs.declared.entries.HiddenEntryEvents.{HiddenEntryEvents}
use Rattle.ni_model.specs.declared.IndexedHeader.{IndexedHeader}
use Rattle.ni_model.specs.Tables.{Table}
use Rattle.ni_model.specs.Queues.{Waiting}
use Rattle.ni_model.specs.Lists.{Index}
use Rattle.ni_model.specs.Headers.{unexpected_list, finds, found_in}
use Rattle.ni_model.specs.Events.{kind_taken}
use Rattle.ni_model.specs.Append.{each_gone, counted_by, overflow_counter, gone_events}
use Rattle.target_engine.specs.declared.entry_records.EntryRecord.{EntryRecord}
use Rattle.target_engine.specs.PortalTable.{AreRecorded, frees_at, recorded_by, one_fewer}
use Rattle.target_engine.specs.Sides.{side}
use Rattle.target_engine.proofs.Headers.{unexpected-append}
use Rattle.target_engine.proofs.Recorded.{HasOneOf, recorded-fewer, recorded-frees}

pub one-between : (left found : List IndexedHeader) (x : IndexedHeader) → HasOneOf x (left ++ x ∷ found) (left ++ found)
one-between left found x = λ p. omega (arith, unexpected-append p left (x ∷ found), unexpected-append p left found)

pub taken-told : (o : HiddenEntryEvents) (is : List (Option Index)) (left found : List IndexedHeader) (x : IndexedHeader)
    (t : Table EntryRecord) (eqs : Table Waiting) → AreRecorded is (left ++ x ∷ found) t
    → each_gone o (side 0 0 is 0 (unexpected_list [] 0)) left found
    (gone_events (kind_taken x.header.header.kind) o is (frees_at is t x) x eqs)
    ≡ each_gone o (side 0 0 is 0 (unexpected_list [] 0)) left (x ∷ found) eqs
taken-told o is left found x t eqs a =
    ap (λ b. each_gone o (side 0 0 is 0 (unexpected_list [] 0)) left found (gone_events (kind_taken x.header.header.kind) o is b x eqs))
    (recorded-frees x is (left ++ x ∷ found) (left ++ found) t a (one-between left found x))

pub taken-recorded : (is : List (Option Index)) (left found : List IndexedHeader) (x : IndexedHeader) (t : Table EntryRecord) →
    AreRecorded is (left ++ x ∷ found) t → AreRecorded is (left ++ found) (recorded_by x.header.entry one_fewer t)
taken-recorded is left found x t a = recorded-fewer x is (left ++ x ∷ found) (left ++ found) t a (one-between left found x)

-- ---- the headers from one on, where the entry finds it and where it doesn't

found-drop : (pt : ℕ) (e : Entry) (hs : List IndexedHeader) (i : ℕ) (d : IndexedHeader) → i < length hs →
    found_in pt e (drop i hs) ≡ (if finds pt e (get_or hs i d) then get_or hs i d ∷ found_in pt e (drop (i + 1) hs) else found_in pt e
    (drop (i + 1) hs))
found-drop pt e hs i d lt = rw (add-one, drop-cons hs i d) refl

found-here : (pt : ℕ) (e : Entry) (hs : List IndexedHeader) (i : ℕ) (d : IndexedHeader) → i < length hs →
    finds pt e (get_or hs i d) ≡ true → found_in pt e (drop i hs) ≡ get_or hs i d ∷ found_in pt e (drop (i + 1) hs)
found-here pt e hs i d lt f = let s = found-drop pt e hs i d lt in rw f at s

found-later : (pt : ℕ) (e : Entry) (hs : List IndexedHeader) (i : ℕ) (d : IndexedHeader) → i < length hs →
    finds pt e (get_or hs i d) ≡ false → found_in pt e (drop i hs) ≡ found_in pt e (drop (i + 1) hs)
found-later pt e hs i d lt f = let s = found-drop pt e hs i d lt in rw f at s

-- ---- the counting event that rises

counted-more : (e : Entry) (found : List IndexedHeader) (x : IndexedHeader) → counted_by e (found ++ x ∷ []) ≡ overflow_counter e
counted-more e [] x = refl
counted-more e (y ∷ found) x = refl

-- ---- one turn of the walk over the headers: those that stay have moved down in ys, and from i on all is as it was

abbrev pub stays : ℕ → Entry → IndexedHeader → Bool
stays pt e a = not (finds pt e a)

same-there : (p : IndexedHeader → Bool) (xs ys : List IndexedHeader) (k i : ℕ) (d : IndexedHeader) → FiltersInPlace p xs ys k i →
    get_or ys i d ≡ get_or xs i d
same-there p xs ys k i d s =
    let z : i + 0 ≡ i = omega arith in
    let a = rw z at (get_or-drop i ys 0 d) in
    let b = rw z at (get_or-drop i xs 0 d) in
    sym a ∙ ap (λ (zs : List IndexedHeader). get_or zs 0 d) s.rest ∙ b

-- what was looked at, through the slice zs
module _ (pt : ℕ) (e : Entry) (xs ys zs : List IndexedHeader) (k i : ℕ) (d : IndexedHeader) (r : Bool)
    (is : r ≡ finds pt e (get_or zs i d)) (lent : zs ≡ ys) (s : FiltersInPlace (stays pt e) xs ys k i) (lt : i < length xs) where
  one : get_or zs i d ≡ get_or xs i d
  one = ap (λ (l : List IndexedHeader). get_or l i d) lent ∙ same-there (stays pt e) xs ys k i d s

  looked : finds pt e (get_or xs i d) ≡ r
  looked = ap (λ x. finds pt e x) (sym one) ∙ sym is

  itself : get_or zs i d ≡ get_or ys i (get_or zs i d)
  itself = ap (λ (l : List IndexedHeader). get_or l i d) lent ∙ get_or_default ys i d (get_or zs i d) (omega (arith, s.long))

  pub step-found : r ≡ true → found_in pt e (drop i xs) ≡ get_or zs i d ∷ found_in pt e (drop (i + 1) xs)
  step-found t = rw one (found-here pt e xs i d lt (looked ∙ t))

  pub step-later : r ≡ false → found_in pt e (drop i xs) ≡ found_in pt e (drop (i + 1) xs)
  step-later f = found-later pt e xs i d lt (looked ∙ f)

  pub step-rose : r ≡ true → counted_by e (found_in pt e (take (i + 1) xs)) ≡ overflow_counter e
  step-rose t = rw (filter_more (finds pt e) xs i d lt, looked, t) (counted-more e (found_in pt e (take i xs)) (get_or xs i d))

  pub step-same : r ≡ false → found_in pt e (take (i + 1) xs) ≡ found_in pt e (take i xs)
  step-same f = rw (filter_more (finds pt e) xs i d lt, looked, f) (append-nil (found_in pt e (take i xs)))

  pub step-gone : r ≡ true → FiltersInPlace (stays pt e) xs ys k (i + 1)
  step-gone t = FiltersInPlace-more_no {x = get_or zs i d} s (omega (arith, s.long)) (ap not (sym is ∙ t)) itself

  pub step-kept : r ≡ false → FiltersInPlace (stays pt e) xs (set ys k (get_or zs i d)) (k + 1) (i + 1)
  step-kept f = FiltersInPlace-more_set {x = get_or zs i d} s (omega (arith, s.long)) (ap not (sym is ∙ f)) itself
