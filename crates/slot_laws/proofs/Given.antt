-- How many things each interface of a scene made, after an answer.
use Rattle.std.proofs.Common.{◌≡◌, ℕ, ◌+◌, ◌==◌, true, false, List, [], ◌∷◌, Option, Some, None, refl, ap, sym, ◌∙◌, cond, arith}
use Rattle.std.proofs.lemmas.Bool.Decides.{nat_tests}
use Rattle.ni_model.specs.State.{State}
use Rattle.log_words.specs.Words.{Rest, Word}
use Rattle.log_answers.specs.declared.owed.Owed.{Owed}
use Rattle.log_answers.specs.declared.owed.Sort.{Sort}
use Rattle.log_answers.specs.declared.owed.Sort.TheVariants.{Counter, Queue, Descriptor, Entry}
use Rattle.log_answers.specs.names.Keys.{Numbers, at_number, number_lookup, with_number, without_number}
use Rattle.log_seats.specs.Answers.{After}
use Rattle.log_seats.specs.declared.seats.Seat.{Seat}
use Rattle.log_words.specs.declared.faults.Flaw.TheVariants.{NameTaken}
use Rattle.log_verdict.specs.Answering.{came, flawed}
use Rattle.log_verdict.specs.Answering.{Came, agreed, answered, chosen_name, compared_with, is_taken, judged_as, others_of, taken_as}
use Rattle.log_verdict.specs.Answering.{with_answer, with_new}
use Rattle.log_verdict.specs.Scenes.{known_at, seat_at}
use Rattle.log_verdict.specs.declared.answering.Compared.{Compared}
use Rattle.log_verdict.specs.declared.answering.Compared.TheVariants as compares
use Rattle.log_verdict.specs.declared.answering.Step.{Step}
use Rattle.log_verdict.specs.declared.answering.Step.TheVariants as steps
use Rattle.log_verdict.specs.declared.scenes.Scene.{Scene}
use Rattle.slot_laws.proofs.terms.Counting.{Counts, made}
use Rattle.slot_laws.proofs.terms.Scenes.{given_at, given_in, given_of}
use Rattle.slot_laws.proofs.terms.Kin.{GoesOn}
use Rattle.slot_laws.proofs.Answering.{nic_of_new}
use Rattle.slot_laws.proofs.Maps.{number_put}
use Rattle.slot_laws.proofs.Rows.{number_is}
use Rattle.slot_laws.proofs.Maps.{at_number_is}

-- of another rank than one that goes
pub lookup_other : (q k : ℕ) → (q == k) ≡ false → (es : Numbers Seat) → number_lookup q (without_number k es) ≡ number_lookup q es
lookup_other q k other [] = refl
lookup_other q k other (e ∷ es) =
    elim (at_number k e.0) as (λ b. at_number k e.0 ≡ b →
    number_lookup q (cond b es (e ∷ without_number k es)) ≡ number_lookup q (e ∷ es)) [
      | true ↦ λ i. let same : k ≡ e.0 = number_is k e.0 i in
          let apart : at_number q e.0 ≡ false = at_number_is q e.0 ∙ ap (λ n. q == n) (sym same) ∙ other in
          sym (ap (λ b. cond b (Some e.1) (number_lookup q es)) apart)
      | false ↦ λ i. ap (λ o. cond (at_number q e.0) (Some e.1) o) (lookup_other q k other es)
    ] refl

given_of_new : (sort : Sort) (o : Owed) (word : Option (List ℕ)) (s : Seat) → given_of sort (with_new o word s) ≡ given_of sort s
given_of_new Counter o word s = ap (λ (n : State). n.cts.given) (nic_of_new o word s)
given_of_new Queue o word s = ap (λ (n : State). n.eqs.given) (nic_of_new o word s)
given_of_new Descriptor o word s = ap (λ (n : State). n.mds.given) (nic_of_new o word s)
given_of_new Entry o word s = ap (λ (n : State). n.entries_given) (nic_of_new o word s)

-- one seat stands anew at its rank
pub given_seated : (x : After) (word : Option (List ℕ)) (others : Scene) (rank : ℕ) (sort : Sort) →
    given_at (with_answer x word others).seats rank sort
    ≡ cond (rank == x.seat.nic.rank) (given_of sort x.seat) (given_at others.seats rank sort)
unfolding with_answer
given_seated x word others rank sort =
    ap (λ n. given_in sort (number_lookup rank (with_number n (with_new x.owed word x.seat) others.seats)))
    (ap (λ (n : State). n.rank) (nic_of_new x.owed word x.seat))
    ∙ ap (given_in sort) (number_put rank x.seat.nic.rank (with_new x.owed word x.seat) others.seats)
    ∙ elim (rank == x.seat.nic.rank) as (λ b. given_in sort (cond b (Some (with_new x.owed word x.seat)) (number_lookup rank others.seats))
    ≡ cond b (given_of sort x.seat) (given_at others.seats rank sort)) [
      | true ↦ given_of_new sort x.owed word x.seat
      | false ↦ refl
    ]

module _ (x : After) (others : Scene) (rank : ℕ) (sort : Sort) where
  GivenAfter : Came → Type 0
  GivenAfter c = GoesOn c.step → given_at c.scene.seats rank sort
      ≡ cond (rank == x.seat.nic.rank) (given_of sort x.seat) (given_at others.seats rank sort)

  taken_given : (word : Option (List ℕ)) (column : ℕ) (step : Step) → GivenAfter (taken_as x word column step others)
  unfolding GivenAfter
  taken_given word column step =
      elim (is_taken x.sent word others.flights) as
      (λ b. GoesOn (cond b (flawed column NameTaken others) (came (with_answer x word others) step)).step →
      given_at (cond b (flawed column NameTaken others) (came (with_answer x word others) step)).scene.seats rank sort
      ≡ cond (rank == x.seat.nic.rank) (given_of sort x.seat) (given_at others.seats rank sort)) [
        | true ↦ λ goes. absurd goes
        | false ↦ λ goes. given_seated x word others rank sort
      ]

  agreed_given : (new : Option Word) → GivenAfter (agreed new x others)
  agreed_given None = taken_given None 1 steps.Goes
  agreed_given (Some w) = taken_given (Some w.text) w.column steps.Goes

  judged_given : (c : Compared) → GivenAfter (judged_as c x others)
  unfolding GivenAfter
  judged_given (compares.Agrees word) = agreed_given word
  judged_given (compares.Differs column said o) = λ goes. absurd goes

  answered_in : (said : Option Rest) → GivenAfter (answered x said others)
  unfolding answered GivenAfter
  answered_in None = λ goes. given_seated x (chosen_name others.flights x.seat x.owed) others rank sort
  answered_in (Some said) = judged_given (compared_with (known_at (Some x.seat) [] others) x.owed said)

pub answered_given : (x : After) (others : Scene) (rank : ℕ) (sort : Sort) (said : Option Rest) → GoesOn (answered x said others).step →
    given_at (answered x said others).scene.seats rank sort
    ≡ cond (rank == x.seat.nic.rank) (given_of sort x.seat) (given_at others.seats rank sort)
unfolding GivenAfter
answered_given x others rank sort said = answered_in x others rank sort said

-- the interface of a rank made a call
pub call_given : (k : ℕ) (a : Seat) (x : After) (s : Scene) (said : Option Rest) → seat_at k s ≡ Some a → x.seat.nic.rank ≡ k → Counts a x →
    GoesOn (answered x said (others_of k s)).step → (rank : ℕ) (sort : Sort) →
    given_at (answered x said (others_of k s)).scene.seats rank sort
    ≡ cond (rank == k) (given_at s.seats rank sort + made sort x.owed) (given_at s.seats rank sort)
call_given k a x s said there at_rank counts goes rank sort =
    answered_given x (others_of k s) rank sort said goes
    ∙ ap (λ n. cond (rank == n) (given_of sort x.seat) (given_at (others_of k s).seats rank sort)) at_rank
    ∙ elim (rank == k) as (λ b. (rank == k) ≡ b → cond b (given_of sort x.seat) (given_at (others_of k s).seats rank sort)
    ≡ cond b (given_at s.seats rank sort + made sort x.owed) (given_at s.seats rank sort)) [
      | true ↦ λ e. let same : rank ≡ k = grind (arith, nat_tests) in
          counts.given sort ∙ ap (λ n. n + made sort x.owed)
          (sym (ap (given_in sort) (ap (λ n. number_lookup n s.seats) same ∙ there)))
      | false ↦ λ e. ap (given_in sort) (lookup_other rank k e s.seats)
    ] refl
