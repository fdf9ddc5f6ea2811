-- What is found of a plan's time and written, and what then holds for the bytes of the source.
use Rattle.std.proofs.Common.{◌≡◌, ◌≢◌, ◌≤◌, ◌^◌, ℕ, List, length, Option, Some, None, refl, sym, subst}
use Rattle.port_io.specs.Counts.{Rose}
use Rattle.port_io.specs.Ends.{Inflow, Outflow}
use Rattle.coll_lang.specs.declared.fault.Refusal.TheVariants.{TooLong}
use Rattle.plan_core.specs.Plan.{Plan}
use Rattle.plan_costs.specs.declared.numbers.LogGp.{LogGp}
use Rattle.plan_costs.specs.Times.{in_turn}
use Rattle.plan_words.specs.Costs.{CostOf, IsCostOf, cost_text}
use Rattle.given_verdicts.specs.declared.answer.FlawlessText.{FlawlessText}
use Rattle.given_verdicts.specs.declared.answer.GivenAnswer.{GivenAnswer}
use Rattle.given_verdicts.specs.declared.answer.Judged.{Judged}
use Rattle.given_verdicts.specs.declared.answer.Judged.TheVariants.{Answered, Flawless}
use Rattle.given_verdicts.specs.declared.judging.TheConstants.{LONGEST_GIVEN}
use Rattle.given_verdicts.specs.Answers.{judged_text}
use Rattle.given_verdicts.proofs.Answering.{long_judged}
use Rattle.run_text.specs.declared.status.Status.{Status}
use Rattle.run_text.specs.declared.status.Status.TheVariants.{Done, Usage, Refused, ReadFault, WriteFault, NoMemory}
use Rattle.run_text.specs.Ending.{IsTold, Written, done, refused}
use Rattle.run_text.proofs.Ended.{leaves}
use Rattle.run_text.proofs.Told.{Told, short-text, told-any}
use Rattle.plan_top.specs.Owed.{owed_given}
use Rattle.given_top.specs.declared.runs.running.GivenRun.{GivenRun}
use Rattle.given_top.specs.Costed.{CostAnswered, Costs, FoundCost, owed_cost, owed_costs}
use Rattle.given_top.proofs.ReadTexts.{given_owes, rose_at, same_judged}

costs_owe : (n : LogGp) (k : ℕ) (p : Plan) (found : Option CostOf) → (owed_costs n k p found).status ≢ Usage
costs_owe n k p (Some c) = λ is. absurd (cc)
costs_owe n k p None = λ is. absurd (cc)

cost_owes : (n : LogGp) (judged : Judged) (found : Option CostOf) → (owed_cost n judged found).status ≢ Usage
cost_owes n (Answered answer) found = given_owes answer
cost_owes n (Flawless t) found = costs_owe n t.line t.given.plan found

-- ---- a text that was judged

pub no_memory : (n : LogGp) (judged : Judged) (sink : Outflow) → Costs n judged sink sink NoMemory
no_memory n judged sink = (None, record { allowed = cost_owes n judged None; no_read = λ e. absurd (cc); text = refl }, tt)

answer_found : (n : LogGp) (answer : GivenAnswer) (status : Status) → FoundCost status n (Answered answer) None
answer_found n answer Done = refl
answer_found n answer Usage = tt
answer_found n answer Refused = refl
answer_found n answer ReadFault = tt
answer_found n answer WriteFault = refl
answer_found n answer NoMemory = tt

pub answered : (n : LogGp) (answer : GivenAnswer) (sink sink' : Outflow) (status : Status) → Written (owed_given answer) sink sink' status
    → Costs n (Answered answer) sink sink' status
answered n answer sink sink' status written = (None, written, answer_found n answer status)

long_found : (n : LogGp) (t : FlawlessText) (status : Status) → 2 ^ 64 ≤ in_turn n t.given.plan → FoundCost status n (Flawless t) None
long_found n t Done long = long
long_found n t Usage long = tt
long_found n t Refused long = long
long_found n t ReadFault long = tt
long_found n t WriteFault long = long
long_found n t NoMemory long = tt

pub too_long : (n : LogGp) (t : FlawlessText) (sink sink' : Outflow) (status : Status) → 2 ^ 64 ≤ in_turn n t.given.plan
    → Written (refused t.line TooLong) sink sink' status → Costs n (Flawless t) sink sink' status
too_long n t sink sink' status long written = (None, written, long_found n t status long)

cost_found : (n : LogGp) (t : FlawlessText) (c : CostOf) (status : Status) → IsCostOf n t.given.plan c
    → FoundCost status n (Flawless t) (Some c)
cost_found n t c Done is = is
cost_found n t c Usage is = tt
cost_found n t c Refused is = is
cost_found n t c ReadFault is = tt
cost_found n t c WriteFault is = is
cost_found n t c NoMemory is = tt

pub told_costs : (n : LogGp) (t : FlawlessText) (c : CostOf) (sink sink' : Outflow) (status : Status) → IsCostOf n t.given.plan c
    → Written (done (cost_text n t.given.plan c)) sink sink' status → Costs n (Flawless t) sink sink' status
told_costs n t c sink sink' status is written = (Some c, written, cost_found n t c status is)

pub judged : (n : LogGp) (text : List ℕ) (j : Judged) (sink sink' : Outflow) (status : Status) → judged_text text ≡ j
    → Costs n j sink sink' status → Costs n (judged_text text) sink sink' status
judged n text j sink sink' status is costs = subst (λ (k : Judged). Costs n k sink sink' status) (sym is) costs

-- ---- the whole

done_short : (n : LogGp) (found : Option CostOf) (text : List ℕ) → (owed_cost n (judged_text text) found).status ≡ Done
    → length text ≤ LONGEST_GIVEN
done_short n found text done =
    short-text LONGEST_GIVEN text
    (λ long.
    let refused : Refused ≡ Done = subst (λ (j : Judged). (owed_cost n j found).status ≡ Done) (long_judged text long) done in
    absurd (cc))

pub cost_read : (n : LogGp) (text : List ℕ) (source source' : Inflow) (sink sink' : Outflow) (status : Status) (run : GivenRun)
    (told : Told LONGEST_GIVEN source.left source'.left text) → Costs n (judged_text text) sink sink' status
    → run ≡ record { status = status; world = None; spent = None } → CostAnswered n told.bytes source source' sink sink' run
cost_read n text source source' sink sink' status run told costs is =
    subst (λ (r : GivenRun). CostAnswered n told.bytes source source' sink sink' r) (sym is)
    (made (subst (λ (j : Judged). Costs n j sink sink' status) (sym (same_judged told.bytes text told.alike)) costs))
  where
    made : Costs n (judged_text told.bytes) sink sink' status
        → CostAnswered n told.bytes source source' sink sink' (record { status = status; world = None; spent = None })
    made c = record {
      costs = c.0;
      found = c.2;
      allowed = c.1.allowed;
      text = c.1.text;
      read_fault = λ e. absurd (c.1.no_read e);
      write_fault = rose_at sink sink' status _ c.1.text;
      rest =
          leaves LONGEST_GIVEN (owed_cost n (judged_text text) costs.0).status status text source source' told
          (done_short n costs.0 text) costs.1.allowed;
      world = refl;
    }

pub cost_failed : (n : LogGp) (source source' : Inflow) (sink : Outflow) (run : GivenRun) → Rose source.faults source'.faults
    → run ≡ record { status = ReadFault; world = None; spent = None }
    → (bytes : List ℕ) × IsTold source.left bytes × CostAnswered n bytes source source' sink sink run
cost_failed n source source' sink run rose is =
    let any = told-any source.left in (
      any.0,
      any.1,
      subst (λ (r : GivenRun). CostAnswered n any.0 source source' sink sink r) (sym is)
          (record {
            costs = None;
            found = tt;
            allowed = cost_owes n (judged_text any.0) None;
            text = refl;
            read_fault = λ e. rose;
            write_fault = λ e. absurd (cc);
            rest = tt;
            world = refl;
          }),
    )

pub cost_without_memory : (n : LogGp) (source source' : Inflow) (sink : Outflow) (run : GivenRun)
    → run ≡ record { status = NoMemory; world = None; spent = None }
    → (bytes : List ℕ) × IsTold source.left bytes × CostAnswered n bytes source source' sink sink run
cost_without_memory n source source' sink run is =
    let any = told-any source.left in (
      any.0,
      any.1,
      subst (λ (r : GivenRun). CostAnswered n any.0 source source' sink sink r) (sym is)
          (record {
            costs = None;
            found = tt;
            allowed = cost_owes n (judged_text any.0) None;
            text = refl;
            read_fault = λ e. absurd (cc);
            write_fault = λ e. absurd (cc);
            rest = tt;
            world = refl;
          }),
    )
