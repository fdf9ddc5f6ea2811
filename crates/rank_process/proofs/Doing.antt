-- What a call has done, by how its parts ended.
use Rattle.std.proofs.Common.{ℕ, ◌≡◌, ◌≤◌, ◌++◌, List, refl, sym, subst, inl, inr}
use Rattle.given_verdicts.specs.Saying.{answer_line}
use Rattle.given_verdicts.specs.declared.answer.GivenAnswer.{GivenAnswer}
use Rattle.port_io.specs.Ends.{GivesFront, Inflow, Outflow}
use Rattle.run_text.specs.Putting.{Ends}
use Rattle.rank_frames.specs.Frames.{Lacks, LacksRoom, frame, head, mark}
use Rattle.rank_frames.specs.declared.fault.Stop.{Stop}
use Rattle.rank_frames.specs.declared.fault.Stop.TheVariants as stops
use Rattle.rank_frames.proofs.By.{bytes-part, head-part}
use Rattle.rank_process.specs.lines.Rank.{Asks, Work}
use Rattle.rank_process.specs.Refused.{FailsFirst, FailsToOpen, Refuses, WritesAnswer}
use Rattle.rank_process.specs.Runs.{Does, IsAsked, RefusesText, Runs, RunsAs}
use Rattle.rank_process.specs.Status.{status_of}
use Rattle.rank_process.specs.declared.status.Status.{Status}
use Rattle.rank_process.specs.declared.status.Status.TheVariants.{Ended, Usage, WrongRank, Answered, ReadFault, WriteFault, NoMemory, Frame}

-- ---- the first frame

-- no whole head came
pub head-fails : (e : Stop) (x y : Inflow) → Lacks e x y 8 → FailsFirst (status_of e) x y
head-fails stops.Read x y dry = head-part x y dry
head-fails stops.Write x y none = absurd none
head-fails stops.NoMemory x y none = absurd none
head-fails (stops.Frame fault) x y none = absurd none

-- not all bytes behind a head came, or there was no room for them
pub bytes-fail : (e : Stop) (x y z : Inflow) (rank count : ℕ) → GivesFront x.left y.left (head rank count) → x.faults ≤ y.faults
    → LacksRoom e y z count → FailsFirst (status_of e) x z
bytes-fail stops.Read x y z rank count front faults dry = bytes-part x y z rank count front faults dry
bytes-fail stops.NoMemory x y z rank count front faults same = tt
bytes-fail stops.Write x y z rank count front faults none = absurd none
bytes-fail (stops.Frame fault) x y z rank count front faults none = absurd none

-- ---- answers

answered-text : (answer other : GivenAnswer) (u v : Inflow) (a b : Outflow) → other ≡ answer → RefusesText answer u v
    → Ends a b (mark ++ answer_line answer) → RefusesText other u v × Ends a b (mark ++ answer_line other)
answered-text answer other u v a b same text ends =
    (subst (λ x. RefusesText x u v) (sym same) text, subst (λ x. Ends a b (mark ++ answer_line x)) (sym same) ends)

-- an answer that is written, or isn't
said : (answer : GivenAnswer) (result : Status) (before after : Inflow) (a b : Outflow) → RefusesText answer before after
    → WritesAnswer answer result a b → Does result before after a b
said answer (Answered other) before after a b text (same, ends) = answered-text answer other before after a b same text ends
said answer WriteFault before after a b text fails = inl (record { answer = answer; refused = text; fails = fails })
said answer NoMemory before after a b text none = inl none
said answer Ended before after a b text none = absurd none
said answer Usage before after a b text none = absurd none
said answer WrongRank before after a b text none = absurd none
said answer ReadFault before after a b text none = absurd none
said answer (Frame fault) before after a b text none = absurd none

-- ---- without a first frame
pub first-does : (e result : Status) (before after : Inflow) (a b : Outflow) → FailsFirst e before after → Refuses e result a b
    → Does result before after a b
first-does (Answered answer) result before after a b long refuses = said answer result before after a b (inr long) refuses
first-does ReadFault result before after a b dry (same, still) = subst (λ s. Does s before after a b) (sym same) (inl (dry, still))
first-does NoMemory result before after a b none (same, still) = subst (λ s. Does s before after a b) (sym same) (inl still)
first-does Ended result before after a b none refuses = absurd none
first-does Usage result before after a b none refuses = absurd none
first-does WrongRank result before after a b none refuses = absurd none
first-does WriteFault result before after a b none refuses = absurd none
first-does (Frame fault) result before after a b none refuses = absurd none

-- ---- with a first frame, but no rank
pub open-does : (text : List ℕ) (r : ℕ) (e result : Status) (before after : Inflow) (a b : Outflow)
    → GivesFront before.left after.left (frame r text) → before.faults ≤ after.faults
    → FailsToOpen text r e → Refuses e result a b → Does result before after a b
open-does text r (Answered answer) result before after a b front faults is refuses =
    said answer result before after a b
    (inl (record { text = text; rank = r; behind = after; first = front; faults = faults; so = (refl, is) })) refuses
open-does text r WrongRank result before after a b front faults is (same, still) =
    subst (λ s. Does s before after a b) (sym same)
    (record { text = text; rank = r; behind = after; first = front; faults = faults; so = (refl, is) }, still)
open-does text r NoMemory result before after a b front faults is (same, still) =
    subst (λ s. Does s before after a b) (sym same) (inl still)
open-does text r Ended result before after a b front faults none refuses = absurd none
open-does text r Usage result before after a b front faults none refuses = absurd none
open-does text r ReadFault result before after a b front faults none refuses = absurd none
open-does text r WriteFault result before after a b front faults none refuses = absurd none
open-does text r (Frame fault) result before after a b front faults none refuses = absurd none

-- ---- a run
pub run-does : (text : List ℕ) (w : Work) (r : ℕ) (status : Status) (before then after : Inflow) (a b : Outflow)
    → GivesFront before.left then.left (frame r text) → before.faults ≤ then.faults → Asks text w
    → RunsAs w r status then after a b → Does status before after a b
run-does text w r status before then after a b front faults asks so = at status so
  where
    runs : (s : Status) → RunsAs w r s then after a b → Runs s before after a b
    runs s is = record { text = text; rank = r; behind = then; first = front; faults = faults; so = (w, asks, is) }

    at : (s : Status) → RunsAs w r s then after a b → Does s before after a b
    at Ended is = runs Ended is
    at (Frame fault) is = runs (Frame fault) is
    at ReadFault is = inr (runs ReadFault is)
    at WriteFault is = inr (runs WriteFault is)
    at NoMemory is = inr (runs NoMemory is)
    at Usage none = absurd none
    at WrongRank none = absurd none
    at (Answered answer) none = absurd none

pub run-asked : (w : Work) (r : ℕ) (status : Status) (u v : Inflow) (a b : Outflow) (words : ℕ) → words ≡ 0
    → RunsAs w r status u v a b → IsAsked status words
run-asked w r Ended u v a b words unasked is = unasked
run-asked w r (Frame fault) u v a b words unasked is = unasked
run-asked w r ReadFault u v a b words unasked is = unasked
run-asked w r WriteFault u v a b words unasked is = unasked
run-asked w r NoMemory u v a b words unasked is = unasked
run-asked w r Usage u v a b words unasked none = absurd none
run-asked w r WrongRank u v a b words unasked none = absurd none
run-asked w r (Answered answer) u v a b words unasked none = absurd none
