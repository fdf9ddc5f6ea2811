-- What was laid out is a world of which nothing was done.
use Rattle.std.proofs.Common.{ℕ, ◌<◌, ◌≡◌, ◌≤◌, ◌∙◌, List, ap, arith, length, map, subst, sym}
use Rattle.std.proofs.lemmas.List.{length-map}
use Rattle.coll_lang.specs.declared.choices.ChoiceKind.{ChoiceKind}
use Rattle.coll_lang.specs.declared.choices.ChoiceStep.{ChoiceStep}
use Rattle.ptl_types.specs.declared.headers.Lane.{Lane}
use Rattle.cuts.specs.windows.Places.{lane_place}
use Rattle.worlds.specs.parts.Layout.{lane_at}
use Rattle.worlds.proofs.Opened.{at_most-pairs}
use Rattle.plan_choice.specs.ranks.Seats.{IsInstalled, kind_of, kinds_of}
use Rattle.plan_choice.specs.Acts.{firing_count, seat_at, start_count}
use Rattle.plan_choice.specs.Laying.{laid_lane}
use Rattle.plan_choice.specs.World.{ChoiceState, IsStanding, scene_in}
use Rattle.plan_choice.proofs.Opening.{is_first, opened_fields, standing}
use Rattle.plan_choice.proofs.world.ChoiceWorld.open.Goals as goal

-- an accepted text has few steps
few_kinds : (ks : List ChoiceKind) (xs ys : List ChoiceStep) → ks ≡ kinds_of xs → xs ≡ ys → length ys ≤ 64 → length ks ≤ 64
few_kinds ks xs ys e same at_most =
    let a = ap length e in
    let b = length-map xs kind_of in
    let d = ap length same in
    omega (arith, a, b, d, at_most)

pub seat_all-requires : goal.seat_all-requires
seat_all-requires c =
    let at_most = few_kinds c.in_ok-kinds.kinds.items c.steps.result.now c.args.choices.now.steps c.in_ok-kinds.ensures
    c.steps.ensures.value
    c.steps.ensures.are.at_most in
    let here = ap length c.deref.ensures.value in
    omega (arith, at_most, here)

pub of-requires : goal.of-requires
of-requires c =
    let here = ap length c.deref-2.ensures.value in
    let size = c.in_ok-seats.ensures.size in
    let at_most = c.requires.at_most in
    omega (arith, here, size, at_most)

pub overflow_mul-places : goal.overflow_mul-places
overflow_mul-places c = let q = at_most-pairs c.args.ranks c.requires.at_most in omega (arith, q)

pub of-requires-2 : goal.of-requires-2
of-requires-2 c =
    let here = ap length c.deref-3.ensures.value in
    let size = c.in_ok-seats.ensures.size in
    let at_most = c.requires.at_most in
    omega (arith, here, size, at_most)

pub invariant_of-result : goal.invariant_of-result
invariant_of-result c =
    let seats = c.in_ok-seats.seats.items in
    let ks = c.in_ok-kinds.kinds.items in
    let few_steps = few_kinds ks c.steps.result.now c.args.choices.now.steps c.in_ok-kinds.ensures c.steps.ensures.value
    c.steps.ensures.are.at_most in
    let installed = subst (λ (k : List ChoiceKind). (r : ℕ) → r < c.args.ranks → IsInstalled c.args.ranks k r (seat_at seats r))
    c.deref.ensures.value c.in_ok-seats.ensures.seats in
    let count : c.len.result ≡ length ks = (let n = c.len.ensures in let o = c.in_ok-kinds.kinds.ok.0 in omega (arith, n, o)) in
    let laid = subst (λ m. (s d : ℕ) (lane : Lane) → s < c.args.ranks → d < c.args.ranks →
    lane_at c.in_ok-lanes.lanes.items (lane_place c.args.ranks s d lane) ≡ laid_lane m s d lane) count c.in_ok-lanes.ensures.laid in
    opened_fields c.args.ranks ks c.requires.nonempty c.requires.at_most few_steps seats c.in_ok-seats.ensures.size installed
    c.in_ok-lanes.lanes.items c.in_ok-lanes.ensures.size laid c.of_lanes.result c.of_lanes.ensures c.in_ok-starts.starts
    c.in_ok-deliveries.deliveries c.in_ok-firings.firings
    (c.in_ok-starts.ensures ∙ ap (map start_count) c.deref-2.ensures.value) c.in_ok-deliveries.ensures
    (c.in_ok-firings.ensures ∙ ap (map firing_count) c.deref-3.ensures.value)

pub returns-clause-first : goal.returns-clause-first
returns-clause-first c =
    let seats = c.in_ok-seats.seats.items in
    let ks = c.in_ok-kinds.kinds.items in
    let few_steps = few_kinds ks c.steps.result.now c.args.choices.now.steps c.in_ok-kinds.ensures c.steps.ensures.value
    c.steps.ensures.are.at_most in
    let installed = subst (λ (k : List ChoiceKind). (r : ℕ) → r < c.args.ranks → IsInstalled c.args.ranks k r (seat_at seats r))
    c.deref.ensures.value c.in_ok-seats.ensures.seats in
    let count : c.len.result ≡ length ks = (let n = c.len.ensures in let o = c.in_ok-kinds.kinds.ok.0 in omega (arith, n, o)) in
    let laid = subst (λ m. (s d : ℕ) (lane : Lane) → s < c.args.ranks → d < c.args.ranks →
    lane_at c.in_ok-lanes.lanes.items (lane_place c.args.ranks s d lane) ≡ laid_lane m s d lane) count c.in_ok-lanes.ensures.laid in
    ap (λ ls. scene_in (let w : ChoiceState = record { ranks = c.args.ranks; kinds = ks; seats = seats; lanes = ls } in w))
    c.of_lanes.ensures
    ∙ is_first c.args.ranks ks c.requires.nonempty c.requires.at_most few_steps seats c.in_ok-seats.ensures.size installed
    c.in_ok-lanes.lanes.items
    c.in_ok-lanes.ensures.size laid

pub returns-clause-kept : goal.returns-clause-kept
returns-clause-kept c =
    let seats = c.in_ok-seats.seats.items in
    let ks = c.in_ok-kinds.kinds.items in
    let few_steps = few_kinds ks c.steps.result.now c.args.choices.now.steps c.in_ok-kinds.ensures c.steps.ensures.value
    c.steps.ensures.are.at_most in
    let installed = subst (λ (k : List ChoiceKind). (r : ℕ) → r < c.args.ranks → IsInstalled c.args.ranks k r (seat_at seats r))
    c.deref.ensures.value c.in_ok-seats.ensures.seats in
    let count : c.len.result ≡ length ks = (let n = c.len.ensures in let o = c.in_ok-kinds.kinds.ok.0 in omega (arith, n, o)) in
    let laid = subst (λ m. (s d : ℕ) (lane : Lane) → s < c.args.ranks → d < c.args.ranks →
    lane_at c.in_ok-lanes.lanes.items (lane_place c.args.ranks s d lane) ≡ laid_lane m s d lane) count c.in_ok-lanes.ensures.laid in
    subst (λ ls. IsStanding (record { ranks = c.args.ranks; kinds = ks; seats = seats; lanes = ls })) (sym c.of_lanes.ensures)
    (standing c.args.ranks ks c.requires.nonempty c.requires.at_most few_steps seats c.in_ok-seats.ensures.size installed
    c.in_ok-lanes.lanes.items
    c.in_ok-lanes.ensures.size laid)
