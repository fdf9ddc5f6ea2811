-- The seat of the rank is set anew.
use Rattle.std.proofs.Common.{◌<◌, ◌∙◌, ap, length, subst, sym}
use Rattle.std.proofs.Math.ListN.{set}
use Rattle.std.proofs.lemmas.List.{get_or_default}
use Rattle.plan_choice.specs.ranks.Seats.{ChoiceRankState, started_seat}
use Rattle.plan_choice.specs.Acts.{no_seated}
use Rattle.plan_choice.proofs.acts.start.Goals as goal

pub start-requires-clause-room : goal.start-requires-clause-room
start-requires-clause-room c =
    subst (λ (s : ChoiceRankState). 0 < s.diary.room)
    (sym (get_or_default c.args.seats.now c.args.r c.index-seats-r.result no_seated c.requires.rank)) c.requires.may.room

pub start-requires-clause-counter : goal.start-requires-clause-counter
start-requires-clause-counter c =
    subst (λ (s : ChoiceRankState). 0 < length s.kept.counters)
    (sym (get_or_default c.args.seats.now c.args.r c.index-seats-r.result no_seated c.requires.rank)) c.requires.may.counter

pub returns : goal.returns
returns c =
    ap (set c.args.seats.now c.args.r)
    (c.start.ensures ∙ ap started_seat (get_or_default c.args.seats.now c.args.r c.index-seats-r.result no_seated c.requires.rank))
