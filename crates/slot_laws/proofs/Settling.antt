-- Messages arrive and operations fire where a log tells neither: the same ones in two runs, until there is neither.
use Rattle.std.proofs.Common.{◌≡◌, ℕ, ◌<◌, ◌==◌, true, false, List, [], ◌∷◌, Option, Some, None, refl, ap, ap₂, sym, subst, ◌∙◌, cond}
use Rattle.std.proofs.Common.{arith, map}
use Rattle.std.proofs.lemmas.Bool.Decides.{nat_tests}
use Rattle.std.specs.List.{slice_get}
use Rattle.ni_model.specs.State.{State}
use Rattle.ni_model.specs.Ready.{ready_numbers}
use Rattle.log_answers.specs.declared.owed.Sort.{Sort}
use Rattle.log_answers.specs.declared.names.flights.Flight.{Flight}
use Rattle.log_answers.specs.names.Keys.{Numbers, number_lookup}
use Rattle.log_seats.specs.Answers.{After, arrived, fires_at}
use Rattle.log_seats.specs.declared.seats.Seat.{Seat}
use Rattle.log_verdict.specs.Answering.{others_of, with_answer, with_new, without_flight}
use Rattle.log_verdict.specs.Scenes.{seat_at}
use Rattle.log_verdict.specs.Settling.{ArrivesAs, FiresAs, Moves, Reaches, Rests, Settles, next_arrival, next_ready, ready_or}
use Rattle.log_verdict.specs.declared.scenes.Scene.{Scene}
use Rattle.slot_laws.specs.Naming.{renamed_flight}
use Rattle.slot_laws.specs.Alike.{AftersAlike, IsConsistentAfter, SeatsAlike}
use Rattle.slot_laws.proofs.terms.Scenes.{AgreeBelow, AllAlike, AllConsistent, AreRenamings, MayBeAlike, Renamings, ScenesAlike}
use Rattle.slot_laws.proofs.terms.Scenes.{at, given_at}
use Rattle.slot_laws.proofs.terms.Scenes.{given_in, given_of}
use Rattle.slot_laws.proofs.terms.Kin.{Kin}
use Rattle.slot_laws.proofs.Answering.{answer_alike, nic_of_new}
use Rattle.slot_laws.proofs.Asking.{others_removed, seats_alike}
use Rattle.slot_laws.proofs.Calls.{arrived_alike}
use Rattle.slot_laws.proofs.Firing.{ready_numbers_renamed}
use Rattle.slot_laws.proofs.Given.{given_seated, lookup_other}
use Rattle.slot_laws.proofs.Lines.{one_flight, without_alike}
use Rattle.slot_laws.proofs.Maps.{number_put}
use Rattle.slot_laws.proofs.Named.{rising_here, rising_there}
use Rattle.slot_laws.proofs.Rows.{is_open_alike, lookup_alike, lookup_ordered, remove_ordered}
use Rattle.slot_laws.proofs.SeatCounts.{kept_given}
use Rattle.slot_laws.proofs.SeatOperations.{fires_alike}
use Rattle.slot_laws.proofs.Stepping.{seated_ordered}
use Rattle.slot_laws.proofs.SeatOrder.{Stays, arrived_stays, fires_at_stays, stays_ordered}

-- ---- what is next

module _ (g : Renamings) (s t : Scene) (all : AllAlike g s.seats t.seats) where
  arrival_in : (es : Numbers Flight) → next_arrival (map (λ e. (e.0, renamed_flight (at g 0) e.1)) es) t ≡ next_arrival es s
  arrival_in [] = refl
  arrival_in (e ∷ es) =
      let q = e.1.message.header.target in
      ap₂ (λ b later. cond b (Some (e.0, q)) later)
      (is_open_alike g q (seat_at q s) (seat_at q t) (lookup_alike g q s.seats t.seats all)) (arrival_in es)

pub next_arrival_alike : (g : Renamings) (s t : Scene) → ScenesAlike g s t →
    next_arrival t.flights.messages t ≡ next_arrival s.flights.messages s
next_arrival_alike g s t alike =
    ap (λ fs. next_arrival fs.messages t) alike.flights ∙ arrival_in g s t alike.seats s.flights.messages

ready_alike : (g : Renamings) → AreRenamings g → (es fs : Numbers Seat) → AllAlike g es fs → next_ready fs ≡ next_ready es
ready_alike g are _ _ AllAlike.None_open = refl
ready_alike g are _ _ (AllAlike.One_more k s t es fs at_rank alike rest) =
    ap (λ (x : State). ready_or (slice_get (ready_numbers x) 0) x.rank (next_ready fs)) alike.near.nic
    ∙ ap₂ (λ ns later. ready_or (slice_get ns 0) s.nic.rank later) (ready_numbers_renamed (at g k) (are.apart k) s.nic)
    (ready_alike g are es fs rest)

pub next_ready_alike : (g : Renamings) → AreRenamings g → (s t : Scene) → ScenesAlike g s t → next_ready t.seats ≡ next_ready s.seats
next_ready_alike g are s t alike = ready_alike g are s.seats t.seats alike.seats

-- both rest, or neither
pub rests_alike : (g : Renamings) → AreRenamings g → (s t : Scene) → ScenesAlike g s t → Rests s → Rests t
rests_alike g are s t alike rests = record {
  no_arrival = next_arrival_alike g s t alike ∙ rests.no_arrival;
  no_firing = next_ready_alike g are s t alike ∙ rests.no_firing;
}

pub rests_back : (g : Renamings) → AreRenamings g → (s t : Scene) → ScenesAlike g s t → Rests t → Rests s
rests_back g are s t alike rests = record {
  no_arrival = sym (next_arrival_alike g s t alike) ∙ rests.no_arrival;
  no_firing = sym (next_ready_alike g are s t alike) ∙ rests.no_firing;
}

-- ---- two scenes that are alike, each in its order

pub record Together (g : Renamings) (s t : Scene) : Type 0 where
  pub alike : ScenesAlike g s t
  pub here : AllConsistent s.seats
  pub there : AllConsistent t.seats

pub answer_together : (g : Renamings) → AreRenamings g → (u v : Scene) → Together g u v → (k : ℕ) (x y : After) → AftersAlike (at g k) x y →
    IsConsistentAfter x → IsConsistentAfter y → x.seat.nic.rank ≡ k → (word : Option (List ℕ)) →
    Together g (with_answer x word u) (with_answer y word v)
answer_together g are u v both k x y alike here there at_rank word = record {
  alike = answer_alike g are u v both.alike k x y alike here there at_rank word;
  here = seated_ordered x u (rising_here (at g k) x.seat y.seat alike.near) here both.here word;
  there = seated_ordered y v (rising_there (at g k) x.seat y.seat alike.near) there both.there word;
}

others_together : (g : Renamings) (k : ℕ) (s t : Scene) → Together g s t → Together g (others_of k s) (others_of k t)
others_together g k s t both = record {
  alike = others_removed g s t k both.alike;
  here = remove_ordered k s.seats both.here;
  there = remove_ordered k t.seats both.there;
}

-- ---- one move, of one interface that makes nothing

pub record MovesOne (k : ℕ) (a : Seat) (x : After) (base u : Scene) : Type 0 where
  pub is_there : seat_at k base ≡ Some a
  pub stays : Stays a x
  pub after : u ≡ with_answer x None (others_of k base)

arrival_one : (age target : ℕ) (s u : Scene) → (m : ArrivesAs age target s u) →
    MovesOne target m.seat (arrived m.flight.message m.seat) (without_flight age s) u
arrival_one age target s u m = record { is_there = m.is_there; stays = arrived_stays m.flight.message m.seat; after = m.after }

firing_one : (rank number : ℕ) (s u : Scene) → (m : FiresAs rank number s u) → MovesOne rank m.seat (fires_at (Some number) m.seat) s u
firing_one rank number s u m = record { is_there = m.is_there; stays = fires_at_stays (Some number) m.seat; after = m.after }

-- in both
one_together : (g : Renamings) → AreRenamings g → (s t u v : Scene) → Together g s t → (k : ℕ) (a b : Seat) (x y : After) →
    MovesOne k a x s u → MovesOne k b y t v → (SeatsAlike (at g k) a b → AftersAlike (at g k) x y) → Together g u v
one_together g are s t u v both k a b x y m n alike =
    let there : (a.nic.rank ≡ k) × SeatsAlike (at g k) a b = seats_alike g s t k a b both.alike m.is_there n.is_there in
    subst (λ z. Together g z v) (sym m.after) (subst (Together g (with_answer x None (others_of k s))) (sym n.after)
    (answer_together g are (others_of k s) (others_of k t) (others_together g k s t both) k x y (alike there.1)
    (stays_ordered a x m.stays (lookup_ordered k s.seats a both.here m.is_there))
    (stays_ordered b y n.stays (lookup_ordered k t.seats b both.there n.is_there)) (m.stays.keeps.rank ∙ there.0) None))

one_next : (o : Option (ℕ × ℕ)) (p q : ℕ × ℕ) → o ≡ Some p → o ≡ Some q → q ≡ p
one_next o p q here there = cc

none_next : (o : Option (ℕ × ℕ)) (p : ℕ × ℕ) → o ≡ None → o ≡ Some p → ⊥
none_next o p here there = cc

module _ (g : Renamings) (are : AreRenamings g) (s t : Scene) (both : Together g s t) where
  without_together : (age : ℕ) → Together g (without_flight age s) (without_flight age t)
  without_together age = record { alike = without_alike g are s t both.alike age; here = both.here; there = both.there }

  arrival_together : (age target : ℕ) (u v : Scene) → ArrivesAs age target s u → ArrivesAs age target t v → Together g u v
  arrival_together age target u v m n =
      one_together g are (without_flight age s) (without_flight age t) u v (without_together age) target m.seat n.seat
      (arrived m.flight.message m.seat) (arrived n.flight.message n.seat) (arrival_one age target s u m) (arrival_one age target t v n)
      (λ alike. subst (λ (f : Flight). AftersAlike (at g target) (arrived m.flight.message m.seat) (arrived f.message n.seat))
      (sym (one_flight g s t both.alike age m.flight n.flight m.is_sent n.is_sent))
      (arrived_alike (at g target) (are.apart target) m.flight.message m.seat n.seat alike))

  firing_together : (rank number : ℕ) (u v : Scene) → FiresAs rank number s u → FiresAs rank number t v → Together g u v
  firing_together rank number u v m n =
      one_together g are s t u v both rank m.seat n.seat (fires_at (Some number) m.seat) (fires_at (Some number) n.seat)
      (firing_one rank number s u m) (firing_one rank number t v n)
      (λ alike. fires_alike (at g rank) (are.apart rank) m.seat n.seat alike (Some number))

  -- the same message, or the same operation
  same_arrival : (p q : ℕ × ℕ) → q ≡ p → (u v : Scene) → ArrivesAs p.0 p.1 s u → ArrivesAs q.0 q.1 t v → Together g u v
  same_arrival p q same u v m n =
      arrival_together p.0 p.1 u v m (subst (λ (e : ℕ × ℕ). ArrivesAs e.0 e.1 t v) same n)

  same_firing : (p q : ℕ × ℕ) → q ≡ p → (u v : Scene) → FiresAs p.0 p.1 s u → FiresAs q.0 q.1 t v → Together g u v
  same_firing p q same u v m n =
      firing_together p.0 p.1 u v m (subst (λ (e : ℕ × ℕ). FiresAs e.0 e.1 t v) same n)

  pub moves_together : (u v : Scene) → Moves s u → Moves t v → Together g u v
  moves_together u v (Moves.Arrival age target here m) (Moves.Arrival age' target' there n) =
      same_arrival (age, target) (age', target')
      (one_next _ (age, target) (age', target') here (sym (next_arrival_alike g s t both.alike) ∙ there)) u v m n
  moves_together u v (Moves.Arrival age target here m) (Moves.Firing none n) =
      absurd (none_next _ (age, target) (sym (next_arrival_alike g s t both.alike) ∙ none) here)
  moves_together u v (Moves.Firing none m) (Moves.Arrival age target there n) =
      absurd (none_next _ (age, target) none (sym (next_arrival_alike g s t both.alike) ∙ there))
  moves_together u v (Moves.Firing none m) (Moves.Firing none' n) =
      same_firing (m.rank, m.number) (n.rank, n.number)
      (one_next _ (m.rank, m.number) (n.rank, n.number) m.is_next (sym (next_ready_alike g are s t both.alike) ∙ n.is_next))
      u v m.fires n.fires

-- ---- all moves, until there is none

-- some moves, the first one known
pub data Runs (u : Scene) : Scene → Type 0 where
  Done : Runs u u
  Goes : (s t : Scene) → Moves s t → Runs u t → Runs u s

further : (t u s : Scene) → Runs t s → Moves t u → Runs u s
further t u _ Runs.Done m = Runs.Goes t u m Runs.Done
further t u _ (Runs.Goes s w first rest) m = Runs.Goes s w first (further t u w rest m)

pub runs_of : (s t : Scene) → Reaches s t → Runs t s
runs_of s _ Reaches.Here = Runs.Done
runs_of s _ (Reaches.Further t u r m) = further t u s (runs_of s t r) m

rests_ends : (s u : Scene) → Rests s → Moves s u → ⊥
rests_ends s u rests (Moves.Arrival age target is m) = none_next _ (age, target) rests.no_arrival is
rests_ends s u rests (Moves.Firing none m) = none_next _ (m.rank, m.number) rests.no_firing m.is_next

runs_together : (g : Renamings) → AreRenamings g → (u v : Scene) → Rests u → Rests v → (s t : Scene) → Together g s t → Runs u s →
    Runs v t → Together g u v
runs_together g are u v ends ends' _ _ both Runs.Done Runs.Done = both
runs_together g are u v ends ends' _ _ both Runs.Done (Runs.Goes t y n rest) =
    absurd (rests_ends t y (rests_alike g are u t both.alike ends) n)
runs_together g are u v ends ends' _ _ both (Runs.Goes s x m rest) Runs.Done =
    absurd (rests_ends s x (rests_back g are s v both.alike ends') m)
runs_together g are u v ends ends' _ _ both (Runs.Goes s x m rest) (Runs.Goes t y n rest') =
    runs_together g are u v ends ends' x y (moves_together g are s t both x y m n) rest rest'

pub settles_together : (g : Renamings) → AreRenamings g → (s t u v : Scene) → Together g s t → Settles s u → Settles t v → Together g u v
settles_together g are s t u v both m n =
    runs_together g are u v m.rests n.rests s t both (runs_of s u m.reached) (runs_of t v n.reached)

-- ---- how many things were made stays

-- each interface stands at its rank
abbrev pub AllPlaced : Numbers Seat → Type 0
AllPlaced es = (rank : ℕ) (s : Seat) → number_lookup rank es ≡ Some s → s.nic.rank ≡ rank

placed_in : (g : Renamings) (rank : ℕ) (s : Seat) (o : Option Seat) → MayBeAlike g rank (Some s) o → s.nic.rank ≡ rank
placed_in g rank s None alike = absurd alike
placed_in g rank s (Some t) alike = alike.0

pub placed_alike : (g : Renamings) (es fs : Numbers Seat) → AllAlike g es fs → AllPlaced es
placed_alike g es fs all rank s there =
    placed_in g rank s (number_lookup rank fs)
    (subst (λ o. MayBeAlike g rank o (number_lookup rank fs)) there (lookup_alike g rank es fs all))

placed_other : (g : Renamings) (rank : ℕ) (t : Seat) (o : Option Seat) → MayBeAlike g rank o (Some t) → t.nic.rank ≡ rank
placed_other g rank t None alike = absurd alike
placed_other g rank t (Some s) alike = ap (λ (n : State). n.rank) alike.1.near.nic ∙ alike.0

pub placed_there : (g : Renamings) (es fs : Numbers Seat) → AllAlike g es fs → AllPlaced fs
placed_there g es fs all rank t there =
    placed_other g rank t (number_lookup rank es)
    (subst (MayBeAlike g rank (number_lookup rank es)) there (lookup_alike g rank es fs all))

-- the same number of each sort at each rank
abbrev pub SameGiven : Numbers Seat → Numbers Seat → Type 0
SameGiven es fs = (rank : ℕ) (sort : Sort) → given_at fs rank sort ≡ given_at es rank sort

pub record Stands (s u : Scene) : Type 0 where
  pub given : SameGiven s.seats u.seats
  pub placed : AllPlaced u.seats

seated_given : (k : ℕ) (a : Seat) (x : After) (base : Scene) → seat_at k base ≡ Some a → x.seat.nic.rank ≡ k → Stays a x →
    SameGiven base.seats (with_answer x None (others_of k base)).seats
seated_given k a x base there at_rank stays rank sort =
    given_seated x None (others_of k base) rank sort
    ∙ ap (λ n. cond (rank == n) (given_of sort x.seat) (given_at (others_of k base).seats rank sort)) at_rank
    ∙ elim (rank == k) as (λ b. (rank == k) ≡ b → cond b (given_of sort x.seat) (given_at (others_of k base).seats rank sort)
    ≡ given_at base.seats rank sort) [
      | true ↦ λ e. let same : rank ≡ k = grind (arith, nat_tests) in
          kept_given a x.seat stays.keeps sort ∙ sym (ap (given_in sort) (ap (λ n. number_lookup n base.seats) same ∙ there))
      | false ↦ λ e. ap (given_in sort) (lookup_other rank k e base.seats)
    ] refl

seated_placed : (k : ℕ) (x : After) (base : Scene) → x.seat.nic.rank ≡ k → AllPlaced base.seats →
    AllPlaced (with_answer x None (others_of k base)).seats
unfolding with_answer
seated_placed k x base at_rank placed rank s =
    let others : Numbers Seat = (others_of k base).seats in
    let y : Seat = with_new x.owed None x.seat in
    let there : y.nic.rank ≡ k = ap (λ (n : State). n.rank) (nic_of_new x.owed None x.seat) ∙ at_rank in
    subst (λ o. o ≡ Some s → s.nic.rank ≡ rank)
    (sym (number_put rank y.nic.rank y others ∙ ap (λ n. cond (rank == n) (Some y) (number_lookup rank others)) there))
    (elim (rank == k) as (λ b. (rank == k) ≡ b → cond b (Some y) (number_lookup rank others) ≡ Some s → s.nic.rank ≡ rank) [
      | true ↦ λ e is. let same : rank ≡ k = grind (arith, nat_tests) in
          let one : y ≡ s = cc in ap (λ (z : Seat). z.nic.rank) (sym one) ∙ there ∙ sym same
      | false ↦ λ e is. placed rank s (sym (lookup_other rank k e base.seats) ∙ is)
    ] refl)

one_stands : (k : ℕ) (a : Seat) (x : After) (base u : Scene) → AllPlaced base.seats → MovesOne k a x base u → Stands base u
one_stands k a x base u placed m =
    let at_rank : x.seat.nic.rank ≡ k = m.stays.keeps.rank ∙ placed k a m.is_there in
    subst (Stands base) (sym m.after) (record {
      given = seated_given k a x base m.is_there at_rank m.stays;
      placed = seated_placed k x base at_rank placed;
    })

pub moves_stands : (s u : Scene) → AllPlaced s.seats → Moves s u → Stands s u
moves_stands s u placed (Moves.Arrival age target is m) =
    let one = arrival_one age target s u m in
    let stands = one_stands target m.seat (arrived m.flight.message m.seat) (without_flight age s) u placed one in
    record { given = stands.given; placed = stands.placed }
moves_stands s u placed (Moves.Firing none m) =
    one_stands m.rank m.fires.seat (fires_at (Some m.number) m.fires.seat) s u placed (firing_one m.rank m.number s u m.fires)

pub reaches_stands : (s u : Scene) → AllPlaced s.seats → Reaches s u → Stands s u
reaches_stands s _ placed Reaches.Here = record { given = λ rank sort. refl; placed = placed }
reaches_stands s _ placed (Reaches.Further t u r m) =
    let before : Stands s t = reaches_stands s t placed r in
    let last : Stands t u = moves_stands t u before.placed m in
    record { given = λ rank sort. last.given rank sort ∙ before.given rank sort; placed = last.placed }

pub settles_given : (s u : Scene) → AllPlaced s.seats → Settles s u → SameGiven s.seats u.seats
settles_given s u placed m = (reaches_stands s u placed m.reached).given

-- ---- scenes that are kin settle as kin

kin_together : (g : Renamings) (s t : Scene) → Kin g s t → (h : Renamings) → AreRenamings h → AgreeBelow s.seats g h → Together h s t
kin_together g s t kin h are agree = record { alike = kin.alike h are agree; here = kin.here; there = kin.there }

pub settles_kin : (g : Renamings) (s t u v : Scene) → Kin g s t → Settles s u → Settles t v → Kin g u v
settles_kin g s t u v kin m n =
    let first : Together g s t = kin_together g s t kin g kin.are (λ rank sort x below. refl) in
    let last : Together g u v = settles_together g kin.are s t u v first m n in
    let given : SameGiven s.seats u.seats = settles_given s u (placed_alike g s.seats t.seats first.alike.seats) m in
    record {
      are = kin.are;
      alike = λ h are agree. (settles_together h are s t u v (kin_together g s t kin h are
          (λ rank sort x below. agree rank sort x (subst (λ n. x.stamp < n) (sym (given rank sort)) below))) m n).alike;
      here = last.here;
      there = last.there;
    }
