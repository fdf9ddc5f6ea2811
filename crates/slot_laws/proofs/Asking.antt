-- A call of an interface, in two runs: what it makes is paired, the same comes of it, and the scenes stay kin.
use Rattle.std.proofs.Common.{◌≡◌, ℕ, ◌+◌, ◌<◌, ◌==◌, true, false, ◌&&◌, Option, Some, refl, ap, sym, subst, ◌∙◌, cond, arith}
use Rattle.std.proofs.Common.{inl, inr}
use Rattle.std.proofs.lemmas.Bool.Decides.{nat_tests}
use Rattle.ptl_types.specs.declared.handles.Handle.{Handle}
use Rattle.ni_model.specs.State.{State}
use Rattle.log_words.specs.Words.{Rest}
use Rattle.log_lines.specs.declared.calls.Call.{Call}
use Rattle.log_answers.specs.declared.owed.Owed.{Owed}
use Rattle.log_answers.specs.declared.owed.Owed.TheVariants as owed
use Rattle.log_answers.specs.declared.owed.Sort.{Sort}
use Rattle.log_answers.specs.declared.owed.Sort.TheVariants.{Counter, Queue, Descriptor, Entry}
use Rattle.log_answers.specs.names.Keys.{Numbers}
use Rattle.log_seats.specs.Answers.{After, Answers}
use Rattle.log_seats.specs.declared.seats.Seat.{Seat}
use Rattle.log_verdict.specs.Answering.{Came, answered, others_of}
use Rattle.log_verdict.specs.Scenes.{seat_at}
use Rattle.log_verdict.specs.Steps.{Asks}
use Rattle.log_verdict.specs.declared.scenes.Scene.{Scene}
use Rattle.slot_laws.specs.Told.{renaming_of}
use Rattle.slot_laws.specs.Alike.{AftersAlike, IsConsistent, IsConsistentAfter, SeatsAlike}
use Rattle.slot_laws.proofs.terms.Counting.{Counts, IsStamped, made, one_of}
use Rattle.slot_laws.proofs.terms.Pairing.{paired, with_pair}
use Rattle.slot_laws.proofs.terms.Counting.{same_sort}
use Rattle.slot_laws.proofs.terms.Scenes.{AgreeBelow, AreRenamings, CamesAlike, MayBeAlike, Renamings, ScenesAlike, at, given_at, given_in}
use Rattle.slot_laws.proofs.terms.Scenes.{given_of}
use Rattle.slot_laws.proofs.terms.Kin.{GoesOn, Kin, KinCame}
use Rattle.slot_laws.specs.Alike.{Matches}
use Rattle.slot_laws.proofs.Answering.{answered_alike}
use Rattle.slot_laws.proofs.CallCounts.{answers_counts}
use Rattle.slot_laws.proofs.Calls.{answers_alike, answers_ordered}
use Rattle.slot_laws.proofs.Given.{call_given}
use Rattle.slot_laws.proofs.Named.{rising_here, rising_there}
use Rattle.slot_laws.proofs.Pairing.{pair_are, pair_leaves, pair_takes, same_sort-true}
use Rattle.slot_laws.proofs.Rows.{lookup_alike, lookup_ordered, remove_alike, remove_ordered}
use Rattle.slot_laws.proofs.Stepping.{answered_ordered, came_kin, kin_alike}

one_of-self : (s : Sort) → one_of s s ≡ 1
one_of-self Counter = refl
one_of-self Queue = refl
one_of-self Descriptor = refl
one_of-self Entry = refl

takes_as : (h : Renamings) (rank : ℕ) (sort : Sort) (x : Handle) → renaming_of (at h rank) rank sort x ≡ h rank sort x
takes_as h rank Counter x = refl
takes_as h rank Queue x = refl
takes_as h rank Descriptor x = refl
takes_as h rank Entry x = refl

-- ---- what is new is one thing, under a renaming that takes it so

-- it takes what was made by the end of the call as the pair does
abbrev TakesPair : ℕ → (Sort → ℕ) → Owed → Owed → Renamings → Renamings → Type 0
TakesPair rank given o p g h = (sort : Sort) (x : Handle) → x.stamp < given sort + made sort o →
    h rank sort x ≡ paired rank o p g rank sort x

module _ (rank : ℕ) (a b : Seat) (alike : (sort : Sort) → given_of sort b ≡ given_of sort a) (g h : Renamings) where
  new_matches : (sort sort' : Sort) (x x' : Handle) → x.stamp ≡ given_of sort a → x'.stamp ≡ given_of sort' b →
      TakesPair rank (λ k. given_of k a) (owed.New sort x) (owed.New sort' x') g h → sort' ≡ sort → renaming_of (at h rank) rank sort x ≡ x'
  new_matches sort sort' x x' stamp stamp' takes same =
      let one : x'.stamp ≡ x.stamp = stamp' ∙ ap (λ k. given_of k b) same ∙ alike sort ∙ sym stamp in
      let below : x.stamp < given_of sort a + one_of sort sort =
      subst (λ n. x.stamp < given_of sort a + n) (sym (one_of-self sort)) (omega (arith, stamp)) in
      takes_as h rank sort x ∙ takes sort x below ∙ pair_takes rank sort x x' g one

  matches_paired : (o p : Owed) → IsStamped o a → IsStamped p b → TakesPair rank (λ k. given_of k a) o p g h → Matches (at h rank) rank o p
  matches_paired (owed.New sort x) (owed.New sort' x') m n takes = new_matches sort sort' x x' m.0 n.0 takes
  matches_paired (owed.Linked x) (owed.Linked x') m n takes =
      let one : x'.stamp ≡ x.stamp = n.0 ∙ alike Entry ∙ sym m.0 in
      let below : x.stamp < given_of Entry a + 1 = omega (arith, m.0) in
      takes Entry x below ∙ pair_takes rank Entry x x' g one
  matches_paired _ _ m n takes = tt

paired_are : (rank : ℕ) (o p : Owed) (a : Seat) (g : Renamings) → IsStamped o a → AreRenamings g → AreRenamings (paired rank o p g)
paired_are rank (owed.New sort x) (owed.New sort' x') a g m are = pair_are rank sort x x' g m.1 are
paired_are rank (owed.Linked x) (owed.Linked x') a g m are = pair_are rank Entry x x' g m.1 are
paired_are rank _ _ a g m are = are

-- the pair leaves what was made before
pair_before : (rank : ℕ) (sort : Sort) (h h' : Handle) (g : Renamings) (es : Numbers Seat) → h.stamp ≡ given_at es rank sort →
    AgreeBelow es g (with_pair rank sort h h' g)
pair_before rank sort h h' g es stamp k s x below =
    elim ((k == rank) && same_sort s sort) as (λ b. ((k == rank) && same_sort s sort) ≡ b → with_pair rank sort h h' g k s x ≡ g k s x) [
      | true ↦ λ e. let at_rank : k ≡ rank = grind (arith, nat_tests) in
          let of_sort : s ≡ sort = same_sort-true s sort (grind (arith, nat_tests)) in
          let here : x.stamp < given_at es rank sort =
          subst (λ n. x.stamp < given_at es n sort) at_rank (subst (λ z. x.stamp < given_at es k z) of_sort below) in
          let other : (x.stamp == h.stamp) ≡ false = grind (arith, nat_tests) in
          pair_leaves rank sort h h' g k s x (inr other)
      | false ↦ λ e. pair_leaves rank sort h h' g k s x (inl e)
    ] refl

paired_before : (rank : ℕ) (o p : Owed) (a : Seat) (g : Renamings) (es : Numbers Seat) → IsStamped o a →
    ((sort : Sort) → given_at es rank sort ≡ given_of sort a) → AgreeBelow es g (paired rank o p g)
paired_before rank (owed.New sort x) (owed.New sort' x') a g es m given = pair_before rank sort x x' g es (m.0 ∙ sym (given sort))
paired_before rank (owed.Linked x) (owed.Linked x') a g es m given = pair_before rank Entry x x' g es (m.0 ∙ sym (given Entry))
paired_before rank _ _ a g es m given = λ k s x below. refl

-- ---- the call

-- the interface of a rank is alike where it is open in both
pub seats_alike : (h : Renamings) (s t : Scene) (rank : ℕ) (a b : Seat) → ScenesAlike h s t → seat_at rank s ≡ Some a →
    seat_at rank t ≡ Some b →
    (a.nic.rank ≡ rank) × SeatsAlike (at h rank) a b
seats_alike h s t rank a b alike here there =
    subst (λ o. MayBeAlike h rank (Some a) o) there
    (subst (λ o. MayBeAlike h rank o (seat_at rank t)) here (lookup_alike h rank s.seats t.seats alike.seats))

pub others_removed : (h : Renamings) (s t : Scene) (rank : ℕ) → ScenesAlike h s t → ScenesAlike h (others_of rank s) (others_of rank t)
others_removed h s t rank alike = record {
  ranks = alike.ranks;
  any_order = alike.any_order;
  seats = remove_alike h rank s.seats t.seats alike.seats;
  flights = alike.flights;
}

givens_alike : (h : Renamings) (rank : ℕ) (a b : Seat) → SeatsAlike (at h rank) a b → (sort : Sort) → given_of sort b ≡ given_of sort a
givens_alike h rank a b alike Counter = ap (λ (n : State). n.cts.given) alike.near.nic
givens_alike h rank a b alike Queue = ap (λ (n : State). n.eqs.given) alike.near.nic
givens_alike h rank a b alike Descriptor = ap (λ (n : State). n.mds.given) alike.near.nic
givens_alike h rank a b alike Entry = ap (λ (n : State). n.entries_given) alike.near.nic

module _ (g : Renamings) (s t : Scene) (kin : Kin g s t) (call : Call) (rank : ℕ) (said : Option Rest) (a b : Seat) (x y : After)
    (here : seat_at rank s ≡ Some a) (there : seat_at rank t ≡ Some b) (from : Answers call a x) (from' : Answers call b y) where
  ordered : IsConsistent a
  ordered = lookup_ordered rank s.seats a kin.here here

  ordered' : IsConsistent b
  ordered' = lookup_ordered rank t.seats b kin.there there

  counts : Counts a x
  counts = answers_counts call a x from

  counts' : Counts b y
  counts' = answers_counts call b y from'

  both : (a.nic.rank ≡ rank) × SeatsAlike (at g rank) a b
  both = seats_alike g s t rank a b (kin_alike g s t kin) here there

  given_here : (sort : Sort) → given_at s.seats rank sort ≡ given_of sort a
  given_here sort = ap (given_in sort) here

  g₁ : Renamings
  g₁ = paired rank x.owed y.owed g

  are₁ : AreRenamings g₁
  unfolding g₁
  are₁ = paired_are rank x.owed y.owed a g counts.stamped kin.are

  before₁ : AgreeBelow s.seats g g₁
  unfolding g₁
  before₁ = paired_before rank x.owed y.owed a g s.seats counts.stamped given_here

  -- under each renaming that takes what was made by then as the pair does
  TakesNew : Renamings → Type 0
  TakesNew h = (sort : Sort) (z : Handle) → z.stamp < given_of sort a + made sort x.owed → h rank sort z ≡ g₁ rank sort z

  afters : (h : Renamings) → AreRenamings h → AgreeBelow s.seats g h → TakesNew h → AftersAlike (at h rank) x y
  unfolding TakesNew g₁
  afters h are before takes =
      let alike : (a.nic.rank ≡ rank) × SeatsAlike (at h rank) a b = seats_alike h s t rank a b (kin.alike h are before) here there in
      answers_alike (at h rank) (are.apart rank) (are.none rank) call a b x y alike.1 ordered ordered' from from'
      (subst (λ k. Matches (at h rank) k x.owed y.owed) (sym alike.0)
      (matches_paired rank a b (givens_alike h rank a b alike.1) g h x.owed y.owed counts.stamped counts'.stamped takes))

  after : IsConsistentAfter x
  after = answers_ordered call a x (rising_here (at g rank) a b both.1.near) ordered from

  after' : IsConsistentAfter y
  after' = answers_ordered call b y (rising_there (at g rank) a b both.1.near) ordered' from'

  came : (h : Renamings) → AreRenamings h → AgreeBelow s.seats g h → TakesNew h →
      CamesAlike h (answered x said (others_of rank s)) (answered y said (others_of rank t))
  came h are before takes =
      answered_alike h are (others_of rank s) (others_of rank t) (others_removed h s t rank (kin.alike h are before)) rank x y
      (afters h are before takes) after after' (counts.rank ∙ both.0) said

  step : (answered y said (others_of rank t)).step ≡ (answered x said (others_of rank s)).step
  unfolding TakesNew
  step = (came g₁ are₁ before₁ (λ sort z below. refl)).step

  module _ (goes : GoesOn (answered x said (others_of rank s)).step) (h : Renamings)
      (agree : AgreeBelow (answered x said (others_of rank s)).scene.seats g₁ h) where
    given_then : (k : ℕ) (sort : Sort) → given_at (answered x said (others_of rank s)).scene.seats k sort
        ≡ cond (k == rank) (given_at s.seats k sort + made sort x.owed) (given_at s.seats k sort)
    given_then = call_given rank a x s said here (counts.rank ∙ both.0) counts goes

    takes_new : TakesNew h
    unfolding TakesNew
    takes_new sort z below =
        let own : (rank == rank) ≡ true = grind (arith, nat_tests) in
        let then : given_at (answered x said (others_of rank s)).scene.seats rank sort ≡ given_of sort a + made sort x.owed =
        given_then rank sort ∙ ap (λ c. cond c (given_at s.seats rank sort + made sort x.owed) (given_at s.seats rank sort)) own
        ∙ ap (λ n. n + made sort x.owed) (given_here sort) in
        agree rank sort z (subst (λ n. z.stamp < n) (sym then) below)

    agree_before : AgreeBelow s.seats g h
    agree_before k sort z below =
        let grown : z.stamp < cond (k == rank) (given_at s.seats k sort + made sort x.owed) (given_at s.seats k sort) =
        elim (k == rank) as (λ c. z.stamp < cond c (given_at s.seats k sort + made sort x.owed) (given_at s.seats k sort)) [
          | true ↦ omega arith
          | false ↦ below
        ] in
        agree k sort z (subst (λ n. z.stamp < n) (sym (given_then k sort)) grown) ∙ before₁ k sort z below

  called : KinCame (answered x said (others_of rank s)) (answered y said (others_of rank t))
  unfolding TakesNew
  called = record {
    renaming = g₁;
    step = step;
    kin = λ goes. record {
      are = are₁;
      alike = λ h are agree. (came h are (agree_before goes h agree) (takes_new goes h agree)).scene;
      here =
          answered_ordered x (others_of rank s) said (rising_here (at g₁ rank) x.seat y.seat (afters g₁ are₁ before₁ new₁).near) after
          (remove_ordered rank s.seats kin.here) goes;
      there =
          answered_ordered y (others_of rank t) said (rising_there (at g₁ rank) x.seat y.seat (afters g₁ are₁ before₁ new₁).near) after'
          (remove_ordered rank t.seats kin.there)
          (subst GoesOn (sym step) goes);
    };
  }
    where
      new₁ : TakesNew g₁
      new₁ sort z below = refl

pub asks_kin : (g : Renamings) (s t : Scene) → Kin g s t → (call : Call) (rank : ℕ) (said : Option Rest) (c d : Came) →
    Asks call rank said s c → Asks call rank said t d → KinCame c d
asks_kin g s t kin call rank said c d from from' =
    came_kin from.came from'.came
    (called g s t kin call rank said from.seat from'.seat from.after from'.after from.is_there from'.is_there from.answers from'.answers)
