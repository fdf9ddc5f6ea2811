-- The first message of the lane is received at its rank, and its answer goes out.
use Rattle.std.proofs.Common.{◌<◌, ◌≤◌, ◌≡◌, ◌∙◌, List, ◌∷◌, ap, arith, drop, length, refl, subst, sym}
use Rattle.std.proofs.Math.ListN.{set}
use Rattle.std.proofs.lemmas.List.{get_or_default}
use Rattle.ptl_types.specs.Messages.{Sent}
use Rattle.cuts.specs.histories.History.{made_by}
use Rattle.cuts.specs.histories.History.Local.{Receive as Received}
use Rattle.cuts.specs.windows.Places.{lane_place}
use Rattle.worlds.specs.parts.Layout.{lane_at}
use Rattle.worlds.specs.parts.Marks.{HasPlace, out_with, popped}
use Rattle.plan_choice.specs.ranks.Seats.{ChoiceRankState, received_seat}
use Rattle.plan_choice.specs.Acts.{made_at, no_seated, seat_at}
use Rattle.plan_choice.proofs.acts.deliver.Goals as goal

first_same : (x y : Sent) (xs ys : List Sent) → x ∷ xs ≡ y ∷ ys → x ≡ y
first_same x y xs ys e = cc

pub receive-made-requires-clause-room : goal.receive-made-requires-clause-room
receive-made-requires-clause-room c =
    let inside : c.args.d < length c.args.seats.now = let size = c.requires.seats in let h = c.requires.destination in
    omega (arith, size, h) in
    let same = get_or_default c.args.seats.now c.args.d c.index-seats-d.result no_seated inside in
    let may = c.requires.may c.take-message.result
    (drop 1 (lane_at c.args.lanes.now (lane_place c.args.ranks c.args.s c.args.d c.args.lane)).messages) c.take-message.ensures.front in
    subst (λ (s : ChoiceRankState). 0 < s.diary.room) (sym same) may.room

pub receive-made-requires-clause-receipts : goal.receive-made-requires-clause-receipts
receive-made-requires-clause-receipts c =
    let inside : c.args.d < length c.args.seats.now = let size = c.requires.seats in let h = c.requires.destination in
    omega (arith, size, h) in
    let same = get_or_default c.args.seats.now c.args.d c.index-seats-d.result no_seated inside in
    let may = c.requires.may c.take-message.result
    (drop 1 (lane_at c.args.lanes.now (lane_place c.args.ranks c.args.s c.args.d c.args.lane)).messages) c.take-message.ensures.front in
    subst (λ (s : ChoiceRankState). 0 < s.diary.receipts) (sym same) may.receipts

pub receive-made-requires-clause-bytes : goal.receive-made-requires-clause-bytes
receive-made-requires-clause-bytes c =
    let inside : c.args.d < length c.args.seats.now = let size = c.requires.seats in let h = c.requires.destination in
    omega (arith, size, h) in
    let same = get_or_default c.args.seats.now c.args.d c.index-seats-d.result no_seated inside in
    let may = c.requires.may c.take-message.result
    (drop 1 (lane_at c.args.lanes.now (lane_place c.args.ranks c.args.s c.args.d c.args.lane)).messages) c.take-message.ensures.front in
    subst (λ (s : ChoiceRankState). length c.take-message.result.bytes ≤ s.diary.bytes) (sym same) may.bytes

pub receive-made-requires-clause-target : goal.receive-made-requires-clause-target
receive-made-requires-clause-target c =
    let inside : c.args.d < length c.args.seats.now = let size = c.requires.seats in let h = c.requires.destination in
    omega (arith, size, h) in
    let same = get_or_default c.args.seats.now c.args.d c.index-seats-d.result no_seated inside in
    let may = c.requires.may c.take-message.result
    (drop 1 (lane_at c.args.lanes.now (lane_place c.args.ranks c.args.s c.args.d c.args.lane)).messages) c.take-message.ensures.front in
    subst (λ (s : ChoiceRankState). c.take-message.result.header.target ≡ s.nic.rank) (sym same) may.target

pub send_out-requires-clause-goes : goal.send_out-requires-clause-goes
send_out-requires-clause-goes c =
    let inside : c.args.d < length c.args.seats.now = let size = c.requires.seats in let h = c.requires.destination in
    omega (arith, size, h) in
    let same = get_or_default c.args.seats.now c.args.d c.index-seats-d.result no_seated inside in
    let may = c.requires.may c.take-message.result
    (drop 1 (lane_at c.args.lanes.now (lane_place c.args.ranks c.args.s c.args.d c.args.lane)).messages) c.take-message.ensures.front in
    let answer = c.receive-made.ensures.answer
    ∙ ap (λ (s : ChoiceRankState). made_by s.nic (Received c.args.s c.args.lane c.take-message.result)) same in
    subst (λ ls. HasPlace c.args.ranks c.args.d ls c.receive-made.result) (sym c.take-message.ensures.rest)
    (subst (HasPlace c.args.ranks c.args.d (popped c.args.ranks c.args.s c.args.d c.args.lane c.args.lanes.now)) (sym answer) may.goes)

pub returns-clause-made : goal.returns-clause-made
returns-clause-made c = λ m rest first.
    let inside : c.args.d < length c.args.seats.now = let size = c.requires.seats in let h = c.requires.destination in
    omega (arith, size, h) in
    let same = get_or_default c.args.seats.now c.args.d c.index-seats-d.result no_seated inside in
    let answer = c.receive-made.ensures.answer
    ∙ ap (λ (s : ChoiceRankState). made_by s.nic (Received c.args.s c.args.lane c.take-message.result)) same in
    let mine = first_same c.take-message.result m
    (drop 1 (lane_at c.args.lanes.now (lane_place c.args.ranks c.args.s c.args.d c.args.lane)).messages) rest
    (sym c.take-message.ensures.front ∙ first) in
    let mid = popped c.args.ranks c.args.s c.args.d c.args.lane c.args.lanes.now in
    record {
      seats = ap (set c.args.seats.now c.args.d) (c.receive-made.ensures.step
          ∙ ap (received_seat c.args.s c.args.lane c.take-message.result) same
          ∙ ap (λ x. received_seat c.args.s c.args.lane x (seat_at c.args.seats.now c.args.d)) mine);
      lanes =
          c.send_out.ensures.lanes
          ∙ ap (out_with c.args.ranks c.args.d c.receive-made.result) c.take-message.ensures.rest
          ∙ ap (λ o. out_with c.args.ranks c.args.d o mid)
          (answer ∙ ap (λ x. made_at c.args.seats.now c.args.d (Received c.args.s c.args.lane x)) mine);
      source = refl;
      destination = refl;
    }
