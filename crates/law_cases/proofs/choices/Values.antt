-- What is right of the results of a choice text, by values alone: an elect names one rank at every rank, tickets are each number once.
use Rattle.std.proofs.Common.{ℕ, zero, suc, ◌==◌, ◌≡◌, ◌<◌, [], ◌∷◌, refl, arith, lit<, if◌then◌else◌, false, true}
use Rattle.coll_lang.specs.declared.choices.ChoiceKind.TheVariants.{Elect, Tickets}
use Rattle.ptl_types.specs.declared.headers.Lane.TheVariants.{Answer, Request}
use Rattle.plan_choice.specs.texts.machine.Choices.{AreTickets, HasValue, IsElected, IsRight, choice_at}
use Rattle.plan_choice.specs.texts.laws.Decided.{IsInRange, is_choice_lane}

below2 : (P : ℕ → Type 0) → P 0 → P 1 → (r : ℕ) → r < 2 → P r
below2 P a b zero h = a
below2 P a b (suc zero) h = b
below2 P a b (suc (suc r)) h = absurd (omega arith)

below3 : (P : ℕ → Type 0) → P 0 → P 1 → P 2 → (r : ℕ) → r < 3 → P r
below3 P a b c zero h = a
below3 P a b c (suc zero) h = b
below3 P a b c (suc (suc zero)) h = c
below3 P a b c (suc (suc (suc r))) h = absurd (omega arith)

-- the values of three ranks
abbrev values : ℕ → ℕ → ℕ → ℕ → ℕ
values a b c r = if r == 0 then a else (if r == 1 then b else c)

-- ---- elected
rank_0_is_elected : IsElected 2 (λ r. 0)
rank_0_is_elected = record { winner = 0; is_rank = lit< tt; agreed = λ r h. refl }

rank_1_is_elected : IsElected 2 (λ r. 1)
rank_1_is_elected = record { winner = 1; is_rank = lit< tt; agreed = λ r h. refl }

the_last_is_elected : IsElected 3 (values 2 2 2)
the_last_is_elected = record { winner = 2; is_rank = lit< tt; agreed = below3 (λ r. values 2 2 2 r ≡ 2) refl refl refl }

each_its_own : IsElected 2 (λ r. r) → ⊥
each_its_own h = let a = h.agreed 0 (lit< tt) in let b = h.agreed 1 (lit< tt) in absurd (omega (arith, a, b))

rank_2_of_two : IsElected 2 (λ r. 2) → ⊥
rank_2_of_two h = let a = h.agreed 0 (lit< tt) in let b = h.is_rank in absurd (omega (arith, a, b))

the_last_differs : IsElected 3 (values 1 1 0) → ⊥
the_last_differs h = let a = h.agreed 1 (lit< tt) in let b = h.agreed 2 (lit< tt) in absurd (omega (arith, a, b))

the_first_differs : IsElected 3 (values 0 1 1) → ⊥
the_first_differs h = let a = h.agreed 0 (lit< tt) in let b = h.agreed 1 (lit< tt) in absurd (omega (arith, a, b))

-- ---- tickets
rotated : AreTickets 3 (values 1 2 0)
rotated = record {
  below = below3 (λ r. values 1 2 0 r < 3) (lit< tt) (lit< tt) (lit< tt);
  apart = λ q r h i e. below3 (λ q. values 1 2 0 q ≡ values 1 2 0 r → q ≡ r)
      (below3 (λ r. 1 ≡ values 1 2 0 r → 0 ≡ r) (λ e. refl) (λ e. absurd (omega (arith, e))) (λ e. absurd (omega (arith, e))) r i)
      (below3 (λ r. 2 ≡ values 1 2 0 r → 1 ≡ r) (λ e. absurd (omega (arith, e))) (λ e. refl) (λ e. absurd (omega (arith, e))) r i)
      (below3 (λ r. 0 ≡ values 1 2 0 r → 2 ≡ r) (λ e. absurd (omega (arith, e))) (λ e. absurd (omega (arith, e))) (λ e. refl) r i)
      q h e;
  each = below3 (HasValue 3 (values 1 2 0)) (record { rank = 2; in_range = lit< tt; has = refl })
      (record { rank = 0; in_range = lit< tt; has = refl }) (record { rank = 1; in_range = lit< tt; has = refl });
}

one_twice : AreTickets 3 (values 1 2 1) → ⊥
one_twice h = let e = h.apart 0 2 (lit< tt) (lit< tt) refl in absurd (omega (arith, e))

past_the_last : AreTickets 3 (values 0 1 3) → ⊥
past_the_last h = let b = h.below 2 (lit< tt) in absurd (omega (arith, b))

one_is_missing : HasValue 3 (values 1 2 1) 0 → ⊥
one_is_missing h = below3 (λ r. values 1 2 1 r ≡ 0 → ⊥) (λ e. absurd (omega (arith, e))) (λ e. absurd (omega (arith, e)))
    (λ e. absurd (omega (arith, e))) h.rank h.in_range h.has

of_no_rank : HasValue 3 (λ r. r) 3 → ⊥
of_no_rank h = let b = h.in_range in let e = h.has in absurd (omega (arith, b, e))

each_number_is_due : AreTickets 3 (values 1 2 1) → HasValue 3 (values 1 2 1) 0
each_number_is_due h = h.each 0 (lit< tt)

-- ---- by the step
the_first_elects : (choice_at (Elect ∷ Tickets ∷ []) 0 ≡ Elect) × (choice_at (Elect ∷ Tickets ∷ []) 1 ≡ Tickets)
the_first_elects = (refl, refl)

elects_agree : IsRight Elect 3 (values 1 2 0) → ⊥
elects_agree h = let a = h.agreed 0 (lit< tt) in let b = h.agreed 1 (lit< tt) in absurd (omega (arith, a, b))

tickets_differ : IsRight Tickets 2 (λ r. 0) → ⊥
tickets_differ h = let e = h.apart 0 1 (lit< tt) (lit< tt) refl in absurd (omega (arith, e))

-- ---- lanes: requests go to rank 0, answers come from it
to_rank_0 : (is_choice_lane 1 0 Request ≡ true) × (is_choice_lane 0 0 Request ≡ true) × (is_choice_lane 0 1 Request ≡ false)
to_rank_0 = (refl, refl, refl)

from_rank_0 : (is_choice_lane 0 1 Answer ≡ true) × (is_choice_lane 0 0 Answer ≡ true) × (is_choice_lane 1 0 Answer ≡ false)
from_rank_0 = (refl, refl, refl)

-- ---- from 1 to 256 ranks
most_ranks : IsInRange 256 (Elect ∷ [])
most_ranks = record { some = omega arith; few_ranks = omega arith; few_steps = omega arith }

one_rank_too_many : IsInRange 257 (Elect ∷ []) → ⊥
one_rank_too_many h = let q = h.few_ranks in absurd (omega (arith, q))

no_rank : IsInRange 0 (Elect ∷ []) → ⊥
no_rank h = let q = h.some in absurd (omega (arith, q))
