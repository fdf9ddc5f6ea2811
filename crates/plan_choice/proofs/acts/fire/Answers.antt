-- The seat of the rank is set anew, and its message goes out.
use Rattle.std.proofs.Common.{true, ◌<◌, ◌≡◌, ◌∙◌, ap, arith, length, subst, sym}
use Rattle.std.proofs.Math.ListN.{set}
use Rattle.std.proofs.lemmas.List.{get_or_default}
use Rattle.ni_model.specs.Ready.{is_ready}
use Rattle.cuts.specs.histories.History.{made_by}
use Rattle.cuts.specs.histories.History.Local.{Fire as Fired}
use Rattle.worlds.specs.parts.Marks.{HasPlace, out_with, receiver}
use Rattle.plan_choice.specs.ranks.Seats.{ChoiceRankState, fired_seat}
use Rattle.plan_choice.specs.Acts.{no_seated}
use Rattle.plan_choice.proofs.acts.fire.Goals as goal

pub fire-made-requires-clause-room : goal.fire-made-requires-clause-room
fire-made-requires-clause-room c =
    let inside : c.args.r < length c.args.seats.now = let size = c.requires.seats in let h = c.requires.rank in omega (arith, size, h) in
    let same = get_or_default c.args.seats.now c.args.r c.index-seats-r.result no_seated inside in
    subst (λ (s : ChoiceRankState). 0 < s.diary.room) (sym same) c.requires.may.room

pub fire-made-requires-clause-ready : goal.fire-made-requires-clause-ready
fire-made-requires-clause-ready c =
    let inside : c.args.r < length c.args.seats.now = let size = c.requires.seats in let h = c.requires.rank in omega (arith, size, h) in
    let same = get_or_default c.args.seats.now c.args.r c.index-seats-r.result no_seated inside in
    subst (λ (s : ChoiceRankState). is_ready s.nic c.args.number ≡ true) (sym same) c.requires.may.ready

pub send_out-requires-clause-goes : goal.send_out-requires-clause-goes
send_out-requires-clause-goes c =
    let inside : c.args.r < length c.args.seats.now = let size = c.requires.seats in let h = c.requires.rank in omega (arith, size, h) in
    let same = get_or_default c.args.seats.now c.args.r c.index-seats-r.result no_seated inside in
    let message = c.fire-made.ensures.message ∙ ap (λ (s : ChoiceRankState). made_by s.nic (Fired c.args.number)) same in
    subst (HasPlace c.args.ranks c.args.r c.args.lanes.now) (sym message) c.requires.may.goes

pub returns-clause-seats : goal.returns-clause-seats
returns-clause-seats c =
    let inside : c.args.r < length c.args.seats.now = let size = c.requires.seats in let h = c.requires.rank in omega (arith, size, h) in
    let same = get_or_default c.args.seats.now c.args.r c.index-seats-r.result no_seated inside in
    ap (set c.args.seats.now c.args.r) (c.fire-made.ensures.step ∙ ap (fired_seat c.args.number) same)

pub returns-clause-lanes : goal.returns-clause-lanes
returns-clause-lanes c =
    let inside : c.args.r < length c.args.seats.now = let size = c.requires.seats in let h = c.requires.rank in omega (arith, size, h) in
    let same = get_or_default c.args.seats.now c.args.r c.index-seats-r.result no_seated inside in
    let message = c.fire-made.ensures.message ∙ ap (λ (s : ChoiceRankState). made_by s.nic (Fired c.args.number)) same in
    c.send_out.ensures.lanes ∙ ap (λ o. out_with c.args.ranks c.args.r o c.args.lanes.now) message

pub returns-clause-for_whom : goal.returns-clause-for_whom
returns-clause-for_whom c =
    let inside : c.args.r < length c.args.seats.now = let size = c.requires.seats in let h = c.requires.rank in omega (arith, size, h) in
    let same = get_or_default c.args.seats.now c.args.r c.index-seats-r.result no_seated inside in
    let message = c.fire-made.ensures.message ∙ ap (λ (s : ChoiceRankState). made_by s.nic (Fired c.args.number)) same in
    c.send_out.ensures.for_whom ∙ ap (receiver c.args.r) message
