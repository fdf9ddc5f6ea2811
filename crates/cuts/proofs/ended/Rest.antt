-- Where a lane has brought as much as it ever carries, all that was sent on it has come.
use Rattle.std.proofs.Common.{◌≡◌, ℕ, ◌+◌, ◌<◌, ◌≤◌, List, [], ◌++◌, length, sym, ap, ◌∙◌, arith, length-append}
use Rattle.std.proofs.lemmas.List.{append-nil, nil_from_length}
use Rattle.op_laws.proofs.Starts.{combined-starts}
use Rattle.plan_core.specs.Plan.{Plan}
use Rattle.plan_core.specs.Sound.{SoundPlan, AreInputsOf}
use Rattle.plan_core.specs.Values.{Inputs}
use Rattle.cuts.specs.view.Slots.{Slots}
use Rattle.cuts.specs.histories.Cut.{IsAtRest, IsCut, IsPrefixOf, got_by}
use Rattle.cuts.specs.histories.Plans.{system_of}
use Rattle.cuts.specs.histories.System.{Histories, sent_by}
use Rattle.cuts.proofs.rest.LaneCuts.{lane_few}
use Rattle.cuts.specs.ended.Ended.{HasEnded}

-- a beginning that is as long as the whole is the whole
whole-beginning : {A : Type 0} (xs ys : List A) → IsPrefixOf xs ys → length ys ≤ length xs → xs ≡ ys
whole-beginning xs ys (rest, e) h =
    let lengths : length ys ≡ length xs + length rest = ap (λ l. length l) (sym e) ∙ length-append xs rest in
    let none : rest ≡ [] = nil_from_length rest (omega (arith, lengths)) in
    sym (append-nil xs) ∙ ap (λ l. xs ++ l) (sym none) ∙ e

pub at_rest : (plan : Plan) (inputs : Inputs) (slots : ℕ → Slots) (world : Histories)
    → SoundPlan plan (length inputs) → AreInputsOf plan inputs → IsCut (system_of plan inputs slots) world
    → ((r : ℕ) → r < plan.ranks → HasEnded plan inputs slots world r) → IsAtRest (system_of plan inputs slots) world
at_rest plan inputs slots world sound fit cut ended = record {
  started = λ r h. (ended r h).started;
  empty = λ s d lane hs hd.
      let at_most = lane_few combined-starts plan inputs sound fit slots world cut s d lane hs hd in
      let got = (ended d hd).all s lane hs in
      whole-beginning (got_by world d s lane) (sent_by (system_of plan inputs slots) world s d lane) (cut.lanes s d lane hs hd)
      (omega (arith, at_most, got));
  idle = λ r t h. (ended r h).idle t;
}
