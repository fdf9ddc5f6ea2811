-- Verdicts on orders of a barrier of two ranks and of one rank.
use Rattle.std.proofs.Common.{ℕ, zero, suc, true, false, ◌≡◌, ◌<◌, List, [], ◌∷◌, None, refl, inl, inr, arith, lit<}
use Rattle.ptl_types.specs.declared.headers.Lane.{Lane}
use Rattle.ptl_types.specs.declared.headers.Lane.TheVariants.{Answer, Request}
use Rattle.ni_model.specs.Answers.{answered}
use Rattle.ni_model.specs.Arrive.{request}
use Rattle.ni_model.specs.Ready.{is_ready, fired}
use Rattle.ni_model.specs.Starts.{started}
use Rattle.ni_model.specs.State.{target}
use Rattle.plan_core.specs.Plan.{Plan}
use Rattle.ni_model.specs.Append.{append}
use Rattle.cuts.specs.view.Calls.{call_made}
use Rattle.cuts.specs.start.Start.{bring, cell_started}
use Rattle.cuts.specs.histories.History.{got}
use Rattle.cuts.specs.histories.Plans.{system_of}
use Rattle.cuts.specs.histories.System.{Histories, System, sent_by, state_at}
use Rattle.law_cases.proofs.plans.Broadcast.{slots}
use Rattle.law_cases.proofs.plans.Orders.{one_rank, two_ranks}
use Rattle.cuts.specs.orders.Taking.{Lists, Move, histories}
use Rattle.cuts.specs.orders.Verdict.{IsVerdict, IsWhole, Rests}
use Rattle.ptl_types.specs.declared.steps.Cause.TheVariants.{NotAtRest, NotReady, NotSent, StartedTwice}
use Rattle.ptl_types.specs.declared.steps.LocalStep.{LocalStep}
use Rattle.ptl_types.specs.declared.steps.LocalStep.TheVariants.{Start, Receive, Fire}
use Rattle.cuts.specs.declared.orders.Verdict.TheVariants.{Fails, Holds}
use Rattle.cuts.proofs.orders.Trying.{AllBelow, next_step, taken_by, tried_all}

abbrev of_plan : Plan → System
of_plan p = system_of p [] (λ r. slots)

abbrev pair : List LocalStep → List LocalStep → Lists
pair a b zero = a
pair a b (suc zero) = b
pair a b (suc (suc r)) = []

abbrev alone : List LocalStep → Lists
alone a zero = a
alone a (suc r) = []

below2 : (P : ℕ → Type 0) → P 0 → P 1 → (r : ℕ) → r < 2 → P r
below2 P a b zero h = a
below2 P a b (suc zero) h = b
below2 P a b (suc (suc r)) h = absurd (omega arith)

below1 : (P : ℕ → Type 0) → P 0 → (r : ℕ) → r < 1 → P r
below1 P a zero h = a
below1 P a (suc r) h = absurd (omega arith)

-- ---- two ranks: each waits for the other's message before its last firing
abbrev order1 : List LocalStep
order1 = Start ∷ Fire 0 ∷ Fire 1 ∷ Fire 2 ∷ Fire 3 ∷ Fire 4 ∷ Receive 0 Request ∷ Fire 5 ∷ []

abbrev good : Lists
good = pair (Start ∷ Fire 0 ∷ Fire 1 ∷ Fire 2 ∷ Fire 3 ∷ Fire 4 ∷ Receive 1 Request ∷ Fire 5 ∷ []) order1

-- in whatever turns
abbrev turns : List ℕ
turns = 0 ∷ 0 ∷ 0 ∷ 0 ∷ 0 ∷ 0 ∷ 1 ∷ 1 ∷ 1 ∷ 1 ∷ 1 ∷ 1 ∷ 1 ∷ 1 ∷ 0 ∷ 0 ∷ []

abbrev turns_known : (k : System) → 0 < k.count → 1 < k.count → AllBelow k good turns
turns_known k a b = (a, (a, (a, (a, (a, (a, (b, (b, (b, (b, (b, (b, (b, (b, (a, (a, tt))))))))))))))))

abbrev moves : List Move
moves = tried_all (of_plan two_ranks) good turns []

stuck : (r : ℕ) → r < 2 → next_step (of_plan two_ranks) good (histories moves) r ≡ None
unfolding target request answered started fired append call_made cell_started bring
stuck = below2 (λ r. next_step (of_plan two_ranks) good (histories moves) r ≡ None) refl refl

empty : (d s : ℕ) (lane : Lane) → d < 2 → s < 2 → got (histories moves d) s lane ≡ sent_by (of_plan two_ranks) (histories moves) s d lane
unfolding target request answered started fired append call_made cell_started bring
empty d s lane h l = below2 (λ d. got (histories moves d) s lane ≡ sent_by (of_plan two_ranks) (histories moves) s d lane)
    (below2 (λ s. got (histories moves 0) s lane ≡ sent_by (of_plan two_ranks) (histories moves) s 0 lane) (here0 lane) (from1 lane) s l)
    (below2 (λ s. got (histories moves 1) s lane ≡ sent_by (of_plan two_ranks) (histories moves) s 1 lane) (from0 lane) (here1 lane) s l)
    d h
  where
    here0 : (lane : Lane) → got (histories moves 0) 0 lane ≡ sent_by (of_plan two_ranks) (histories moves) 0 0 lane
    here0 Request = refl
    here0 Answer = refl

    here1 : (lane : Lane) → got (histories moves 1) 1 lane ≡ sent_by (of_plan two_ranks) (histories moves) 1 1 lane
    here1 Request = refl
    here1 Answer = refl

    from1 : (lane : Lane) → got (histories moves 0) 1 lane ≡ sent_by (of_plan two_ranks) (histories moves) 1 0 lane
    from1 Request = refl
    from1 Answer = refl

    from0 : (lane : Lane) → got (histories moves 1) 0 lane ≡ sent_by (of_plan two_ranks) (histories moves) 0 1 lane
    from0 Request = refl
    from0 Answer = refl

whole_and_rest : (r : ℕ) → r < 2 → IsWhole good (histories moves) r × Rests (of_plan two_ranks) (histories moves) r
unfolding target request answered started fired append call_made cell_started bring
whole_and_rest = below2 (λ r. IsWhole good (histories moves) r × Rests (of_plan two_ranks) (histories moves) r)
    (refl, record { started = lit< tt; idle = λ t. refl; empty = λ s lane l. empty 0 s lane (lit< tt) l })
    (refl, record { started = lit< tt; idle = λ t. refl; empty = λ s lane l. empty 1 s lane (lit< tt) l })

both_orders_hold : IsVerdict (of_plan two_ranks) good Holds
both_orders_hold = record {
  moves = moves;
  taken = taken_by (of_plan two_ranks) good turns (turns_known (of_plan two_ranks) (lit< tt) (lit< tt)) stuck;
  says = whole_and_rest;
}

-- ---- rank 0 fires its last operation before the message has come
abbrev early : Lists
early = pair (Start ∷ Fire 0 ∷ Fire 1 ∷ Fire 2 ∷ Fire 3 ∷ Fire 4 ∷ Fire 5 ∷ Receive 1 Request ∷ []) order1

abbrev early_turns : List ℕ
early_turns = 0 ∷ 0 ∷ 0 ∷ 0 ∷ 0 ∷ 0 ∷ 1 ∷ 1 ∷ 1 ∷ 1 ∷ 1 ∷ 1 ∷ 1 ∷ 1 ∷ []

abbrev early_moves : List Move
early_moves = tried_all (of_plan two_ranks) early early_turns []

early_stuck : (r : ℕ) → r < 2 → next_step (of_plan two_ranks) early (histories early_moves) r ≡ None
unfolding target request answered started fired append call_made cell_started bring
early_stuck = below2 (λ r. next_step (of_plan two_ranks) early (histories early_moves) r ≡ None) refl refl

fires_too_early : IsVerdict (of_plan two_ranks) early (Fails 0 7 NotReady)
unfolding target request answered started fired append call_made cell_started bring
fires_too_early =
    let z : 0 < 2 = lit< tt in
    let o : 1 < 2 = lit< tt in
    record {
      moves = early_moves;
      taken = taken_by (of_plan two_ranks) early early_turns
          (z, (z, (z, (z, (z, (z, (o, (o, (o, (o, (o, (o, (o, (o, tt)))))))))))))) early_stuck;
      says = (z, refl, inl (Fire 5, record { lower = λ q h. absurd (omega arith); next = (Receive 1 Request ∷ [], refl) }, refl));
    }

-- ---- one rank
abbrev ran : List LocalStep → List ℕ → List Move
ran list turns = tried_all (of_plan one_rank) (alone list) turns []

-- one operation is left
one_stuck : (r : ℕ) → r < 1 → next_step (of_plan one_rank) (alone (Start ∷ Fire 0 ∷ Fire 1 ∷ []))
    (histories (ran (Start ∷ Fire 0 ∷ Fire 1 ∷ []) (0 ∷ 0 ∷ 0 ∷ []))) r ≡ None
unfolding target request answered started fired append call_made cell_started bring
one_stuck = below1 (λ r. next_step (of_plan one_rank) (alone (Start ∷ Fire 0 ∷ Fire 1 ∷ []))
    (histories (ran (Start ∷ Fire 0 ∷ Fire 1 ∷ []) (0 ∷ 0 ∷ 0 ∷ []))) r ≡ None) refl

one_is_left : is_ready (state_at (of_plan one_rank) (histories (ran (Start ∷ Fire 0 ∷ Fire 1 ∷ []) (0 ∷ 0 ∷ 0 ∷ []))) 0) 2 ≡ true
unfolding target request answered started fired append call_made cell_started bring
one_is_left = refl

ends_too_soon : IsVerdict (of_plan one_rank) (alone (Start ∷ Fire 0 ∷ Fire 1 ∷ [])) (Fails 0 4 NotAtRest)
unfolding target request answered started fired append call_made cell_started bring
ends_too_soon =
    let z : 0 < 1 = lit< tt in
    record {
      moves = ran (Start ∷ Fire 0 ∷ Fire 1 ∷ []) (0 ∷ 0 ∷ 0 ∷ []);
      taken = taken_by (of_plan one_rank) (alone (Start ∷ Fire 0 ∷ Fire 1 ∷ [])) (0 ∷ 0 ∷ 0 ∷ []) (z, (z, (z, tt))) one_stuck;
      says = (
        z,
        refl,
        inr (
          record {
            whole = below1 (λ r. IsWhole (alone (Start ∷ Fire 0 ∷ Fire 1 ∷ []))
                (histories (ran (Start ∷ Fire 0 ∷ Fire 1 ∷ []) (0 ∷ 0 ∷ 0 ∷ []))) r) refl;
            lower = λ q h. absurd (omega arith);
            restless = λ rests. (let q : true ≡ false = rests.idle 2 in cc);
          },
          refl,
        ),
      );
    }

-- the telling of the go cell may come first
abbrev other : List LocalStep
other = Start ∷ Fire 1 ∷ Fire 0 ∷ Fire 2 ∷ []

other_stuck : (r : ℕ) → r < 1 → next_step (of_plan one_rank) (alone other) (histories (ran other (0 ∷ 0 ∷ 0 ∷ 0 ∷ []))) r ≡ None
unfolding target request answered started fired append call_made cell_started bring
other_stuck = below1 (λ r. next_step (of_plan one_rank) (alone other) (histories (ran other (0 ∷ 0 ∷ 0 ∷ 0 ∷ []))) r ≡ None) refl

other_empty : (lane : Lane) → got (histories (ran other (0 ∷ 0 ∷ 0 ∷ 0 ∷ [])) 0) 0 lane ≡ sent_by (of_plan one_rank)
    (histories (ran other (0 ∷ 0 ∷ 0 ∷ 0 ∷ []))) 0 0 lane
unfolding target request answered started fired append call_made cell_started bring
other_empty Request = refl
other_empty Answer = refl

other_order_holds : IsVerdict (of_plan one_rank) (alone other) Holds
unfolding target request answered started fired append call_made cell_started bring
other_order_holds =
    let z : 0 < 1 = lit< tt in
    let w : Histories = histories (ran other (0 ∷ 0 ∷ 0 ∷ 0 ∷ [])) in
    record {
      moves = ran other (0 ∷ 0 ∷ 0 ∷ 0 ∷ []);
      taken = taken_by (of_plan one_rank) (alone other) (0 ∷ 0 ∷ 0 ∷ 0 ∷ []) (z, (z, (z, (z, tt)))) other_stuck;
      says = below1 (λ r. IsWhole (alone other) w r × Rests (of_plan one_rank) w r) (
        refl,
        record {
          started = lit< tt;
          idle = λ t. refl;
          empty =
              λ s lane l. below1 (λ s. got (w 0) s lane ≡ sent_by (of_plan one_rank) w s 0 lane) (other_empty lane) s l;
        },
      );
    }

-- a second start
abbrev twice : List LocalStep
twice = Start ∷ Start ∷ Fire 0 ∷ Fire 1 ∷ Fire 2 ∷ []

twice_stuck : (r : ℕ) → r < 1 → next_step (of_plan one_rank) (alone twice) (histories (ran twice (0 ∷ []))) r ≡ None
twice_stuck = below1 (λ r. next_step (of_plan one_rank) (alone twice) (histories (ran twice (0 ∷ []))) r ≡ None) refl

starts_twice : IsVerdict (of_plan one_rank) (alone twice) (Fails 0 2 StartedTwice)
starts_twice =
    let z : 0 < 1 = lit< tt in
    record {
      moves = ran twice (0 ∷ []);
      taken = taken_by (of_plan one_rank) (alone twice) (0 ∷ []) (z, tt) twice_stuck;
      says = (z, refl, inl (Start, record { lower = λ q h. absurd (omega arith); next = (Fire 0 ∷ Fire 1 ∷ Fire 2 ∷ [], refl) }, refl));
    }

-- a receipt of what nobody sent
abbrev unsent : List LocalStep
unsent = Start ∷ Receive 0 Request ∷ []

unsent_stuck : (r : ℕ) → r < 1 → next_step (of_plan one_rank) (alone unsent) (histories (ran unsent (0 ∷ []))) r ≡ None
unsent_stuck = below1 (λ r. next_step (of_plan one_rank) (alone unsent) (histories (ran unsent (0 ∷ []))) r ≡ None) refl

receives_nothing : IsVerdict (of_plan one_rank) (alone unsent) (Fails 0 2 NotSent)
receives_nothing =
    let z : 0 < 1 = lit< tt in
    record {
      moves = ran unsent (0 ∷ []);
      taken = taken_by (of_plan one_rank) (alone unsent) (0 ∷ []) (z, tt) unsent_stuck;
      says = (z, refl, inl (Receive 0 Request, record { lower = λ q h. absurd (omega arith); next = ([], refl) }, refl));
    }
