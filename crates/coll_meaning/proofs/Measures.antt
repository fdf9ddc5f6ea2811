-- The lists of a description are as long as its shape says.
use Rattle.std.proofs.Common.{◌≡◌, ℕ, zero, suc, ◌+◌, ◌<◌, ◌≤◌, true, cond, List, [], ◌∷◌, ◌++◌, Option, Some, None, length, get_or, refl}
use Rattle.std.proofs.Common.{ap, sym, ◌∙◌, arith, inl, inr}
use Rattle.std.specs.Prelude.{◌==◌, ◌||◌}
use Rattle.std.proofs.lemmas.Bool.{cases_eq, cases_lt}
use Rattle.std.proofs.lemmas.List.{length-append, get_or-map, get_or_append_left}
use Rattle.number_lists.specs.Numbers.{from_to}
use Rattle.coll_shape.specs.declared.types.Buffer.{Buffer}
use Rattle.coll_shape.specs.declared.types.CollStep.{CollStep}
use Rattle.coll_shape.specs.Folding.{at}
use Rattle.coll_shape.specs.Outline.{Outline, buffer_at, group_at, list_bytes, read_buffer, step_at}
use Rattle.coll_shape.specs.Collectives.{IsRoot, Reads, asks_of, buffer_after, is_in, list_after, result_of, source_of}
use Rattle.coll_shape.specs.WellFormed.{AreMembers, IsWellFormed, StepFits, and_one, made_upto}
use Rattle.coll_shape.specs.Meaning.{AreInputs, Lists, at_place, lists_of, made_lists, meant_upto, place_from, taken, type_read, with_step}
use Rattle.coll_meaning.specs.Lengths.{AreAsked, AreLong, bytes_at}
use Rattle.coll_meaning.proofs.Rows.{length_row, row_get}
use Rattle.coll_meaning.proofs.Holding.{or_second}
use Rattle.coll_meaning.proofs.Made.{length_map}
use Rattle.coll_meaning.proofs.PlaceAt.{PlaceIs, agrees, place_is}
use Rattle.coll_meaning.proofs.Longs.{BothOrNone, asked, both_or_none, made_long, made_outside}

pub get_at_end : {X : Type 0} (xs : List X) (x d : X) (n : ℕ) → n ≡ length xs → get_or (xs ++ x ∷ []) n d ≡ x
get_at_end [] x d zero e = refl
get_at_end [] x d (suc n) e = absurd (omega (arith, e))
get_at_end (y ∷ ys) x d zero e = absurd (omega (arith, e))
get_at_end (y ∷ ys) x d (suc n) e = get_at_end ys x d n (omega (arith, e))

pub in_numbers : (k n r : ℕ) → k ≤ r → r < k + n → is_in r (from_to k n) ≡ true
in_numbers k zero r h l = absurd (omega (arith, h, l))
in_numbers k (suc n) r h l =
    elim (cases_eq k r) [
      | inl e ↦ ap (λ b. b || is_in r (from_to (suc k) n)) (agrees k r e)
      | inr d ↦ or_second (k == r) (is_in r (from_to (suc k) n)) (in_numbers (suc k) n r (omega (arith, h, d)) (omega (arith, l)))
    ]

-- every rank's list of A is as long as A says
abbrev Measured : ℕ → Buffer → List (List ℕ) → Type 0
Measured n x lists = (r : ℕ) → r < n → length (at lists r) ≡ bytes_at x r

taken_many : (g : List ℕ) (lists : List (List ℕ)) → length (taken g lists) ≡ length g
taken_many g lists = length_map (at lists) g

taken_long : (n : ℕ) (g : List ℕ) (x : Buffer) (lists : List (List ℕ)) → AreMembers n g → Measured n x lists → (i : ℕ) → i < length g →
    length (at (taken g lists) i) ≡ bytes_at x (get_or g i 0)
taken_long n g x lists m long i l = ap length (get_or-map (at lists) g i 0 [] l) ∙ long (get_or g i 0) (m.ranks i l)

-- the lists that a step makes, at a rank
made_at : (n : ℕ) (g : List ℕ) (x : Buffer) (step : CollStep) (lists : List (List ℕ)) (b : ℕ) → result_of step ≡ Some b → AreMembers n g →
    IsRoot step (length g) → Reads g step x → Measured n x lists
    → (r : ℕ) → r < n → length (at (made_lists n g x.ty step lists) r) ≡ bytes_at (buffer_after g step x) r
made_at n g x step lists b e m root reads long r l =
    ap length (row_get (λ r. at_place (list_after x.ty step (taken g lists)) [] (place_from 0 g r)) [] n r l)
    ∙ of (place_from 0 g r) (place_is 0 g r)
  where
    of : (p : Option ℕ) → PlaceIs 0 g r p → length (at_place (list_after x.ty step (taken g lists)) [] p) ≡ bytes_at
        (buffer_after g step x) r
    of None h = sym (ap (λ v. cond v (list_bytes (buffer_after g step x)) 0) (made_outside g x step b e root r h))
    of (Some p) h =
        let q = h.1 in
        ap (λ v. length (list_after x.ty step (taken g lists) v)) (let same : p ≡ h.0 = omega (arith, q) in same)
        ∙ made_long g x (taken g lists) m.some m.rising (taken_many g lists) (taken_long n g x lists m long) step b e root reads h.0 h.2
        ∙ ap (bytes_at (buffer_after g step x)) h.3

-- one more step
module _ (o : Outline) (k : ℕ) (fits : StepFits o (made_upto o k) (group_at o k) (step_at o k)) (bs : Lists)
    (h : AreLong o (made_upto o k) bs) where
  reads_long : (a : ℕ) → source_of (step_at o k) ≡ Some a → Measured o.ranks (read_buffer o (source_of (step_at o k))) (lists_of bs a)
  reads_long a e r l = h.long a r (fits.source a e) l ∙ ap (λ v. bytes_at (read_buffer o v) r) (sym e)

  pub finds_asked : (a : ℕ) → source_of (step_at o k) ≡ Some a → AreAsked (asks_of (step_at o k)) (type_read o (step_at o k))
      (taken (group_at o k) (lists_of bs a))
  finds_asked a e =
      let m = fits.members in
      asked (group_at o k) (read_buffer o (source_of (step_at o k))) (taken (group_at o k) (lists_of bs a)) m.some m.rising
      (taken_many (group_at o k) (lists_of bs a))
      (taken_long o.ranks (group_at o k) (read_buffer o (source_of (step_at o k))) (lists_of bs a) m (reads_long a e))
      (asks_of (step_at o k)) fits.reads

  new_long : (a b : ℕ) → source_of (step_at o k) ≡ Some a → result_of (step_at o k) ≡ Some b → (r : ℕ) → r < o.ranks
      → length (at (made_lists o.ranks (group_at o k) (type_read o (step_at o k)) (step_at o k) (lists_of bs a)) r) ≡ bytes_at
      (buffer_at o b) r
  new_long a b e f r l =
      made_at o.ranks (group_at o k) (read_buffer o (source_of (step_at o k))) (step_at o k) (lists_of bs a) b f fits.members fits.root
      fits.reads (reads_long a e) r l
      ∙ ap (λ v. bytes_at v r) (sym (fits.makes b f))

  with_one : (new : List (List ℕ)) → length new ≡ o.ranks → ((r : ℕ) → r < o.ranks →
      length (at new r) ≡ bytes_at (buffer_at o (made_upto o k)) r) → AreLong o (suc (made_upto o k)) (bs ++ new ∷ [])
  with_one new many long = record {
    many = length-append bs (new ∷ []) ∙ (let w = h.many in omega (arith, w));
    ranks = λ c l. elim (cases_lt c (made_upto o k)) [
      | inl s ↦ ap length (get_or_append_left bs (new ∷ []) [] c (let w = h.many in omega (arith, w, s))) ∙ h.ranks c s
      | inr s ↦ ap length (get_at_end bs new [] c (let w = h.many in omega (arith, w, s, l))) ∙ many
    ];
    long = λ c r l q. elim (cases_lt c (made_upto o k)) [
      | inl s ↦ ap (λ v. length (at v r)) (get_or_append_left bs (new ∷ []) [] c (let w = h.many in omega (arith, w, s))) ∙ h.long c r s q
      | inr s ↦ ap (λ v. length (at v r)) (get_at_end bs new [] c (let w = h.many in omega (arith, w, s, l))) ∙ long r q
          ∙ ap (λ v. bytes_at (buffer_at o v) r) (let same : made_upto o k ≡ c = omega (arith, s, l) in same)
    ];
  }

  pub long_after : AreLong o (and_one (result_of (step_at o k)) (made_upto o k))
      (with_step o.ranks (group_at o k) (type_read o (step_at o k)) (step_at o k) bs (source_of (step_at o k)))
  long_after = of (source_of (step_at o k)) (result_of (step_at o k)) refl refl (both_or_none (step_at o k))
    where
      of : (s r : Option ℕ) → source_of (step_at o k) ≡ s → result_of (step_at o k) ≡ r → BothOrNone s r
          → AreLong o (and_one r (made_upto o k)) (with_step o.ranks (group_at o k) (type_read o (step_at o k)) (step_at o k) bs s)
      of None None e f t = h
      of None (Some b) e f t = absurd t
      of (Some a) None e f t = absurd t
      of (Some a) (Some b) e f t =
          with_one (made_lists o.ranks (group_at o k) (type_read o (step_at o k)) (step_at o k) (lists_of bs a))
          (length_row (λ r. at_place (list_after (type_read o (step_at o k)) (step_at o k) (taken (group_at o k) (lists_of bs a))) []
          (place_from 0 (group_at o k) r)) 0 o.ranks)
          (λ r l. new_long a b e f r l ∙ ap (λ v. bytes_at (buffer_at o v) r) (fits.next b f))

pub long_upto : (o : Outline) (inputs : Lists) → IsWellFormed o → AreInputs o inputs → (k : ℕ) → k ≤ length o.steps →
    AreLong o (made_upto o k) (meant_upto o inputs k)
unfolding meant_upto
long_upto o inputs wf ins zero l = record {
  many = ins.many;
  ranks = ins.ranks;
  long = λ b r lb lr. ins.long b r lb lr
      ∙ ap (λ v. cond v (list_bytes (buffer_at o b)) 0) (sym (ap (is_in r) (wf.held b lb)
      ∙ in_numbers 0 o.ranks r (omega arith) (omega (arith, lr))));
}
long_upto o inputs wf ins (suc k) l =
    long_after o k (wf.fits k (omega arith)) (meant_upto o inputs k) (long_upto o inputs wf ins k (omega arith))
