-- How many messages a lane carries in a cut.
use Rattle.std.proofs.Common.{ℕ, zero, suc, Bool, true, false, cond, not, ◌≡◌, ◌≤◌, ◌<◌, nat_lt, List, [], ◌∷◌, refl, length, ap, ◌∙◌}
use Rattle.std.proofs.Common.{subst, arith, map, filter, lt-ltb, eq-eqb, eqb-true, zero-le}
use Rattle.std.proofs.lemmas.Bool.{and_from}
use Rattle.std.proofs.lemmas.List.{length-append}
use Rattle.ptl_types.specs.Messages.{Sent}
use Rattle.ptl_types.specs.declared.headers.Lane.{Lane}
use Rattle.ptl_types.specs.declared.headers.Lane.TheVariants.{Answer, Request}
use Rattle.op_laws.specs.Combining.{CombineStarts}
use Rattle.plan_core.specs.Members.{In}
use Rattle.plan_core.specs.Plan.{Plan, all_links}
use Rattle.plan_core.specs.Sound.{AreInputsOf, SoundPlan}
use Rattle.plan_core.specs.Values.{Inputs}
use Rattle.plan_core.proofs.Links.{In-from_to}
use Rattle.plan_core.proofs.Lists.{In-filter, In-filter_cases, In-map_cases, length-Within, length-map'}
use Rattle.cuts.proofs.machine.Reached.{Distinct-map_filter}
use Rattle.plan_core.specs.calls.Lanes.{goes_along, is_used_lane, lane_links, lane_messages}
use Rattle.cuts.specs.view.Calls.{prepare}
use Rattle.cuts.specs.view.Slots.{Slots}
use Rattle.cuts.specs.histories.Cut.{IsCut, got_by}
use Rattle.cuts.specs.histories.Plans.{start_of, system_of}
use Rattle.cuts.specs.histories.System.{Histories, sent_by}
use Rattle.cuts.proofs.histories.FromCut.{answers_loc, answers_rem, prepared_of, received_once}
use Rattle.cuts.proofs.histories.LaneRequests.{few_messages}
use Rattle.cuts.proofs.histories.Traffic.{ack, came_from, number_in, own_received}
use Rattle.cuts.proofs.rest.Due.{link_to}

module _ (starts : CombineStarts) (p : Plan) (inputs : Inputs) (sound : SoundPlan p (length inputs)) (fit : AreInputsOf p inputs)
    (slots : ℕ → Slots) (w : Histories) (cut : IsCut (system_of p inputs slots) w) where
  -- no more of the job is received than was sent
  pub got_few : (s d : ℕ) (lane : Lane) → s < p.ranks → d < p.ranks →
      length (got_by w d s lane) ≤ length (sent_by (system_of p inputs slots) w s d lane)
  got_few s d lane hs hd =
      let x = cut.lanes s d lane hs hd in
      let f = ap (λ (ms : List Sent). length ms) x.1 in
      let g = length-append (got_by w d s lane) x.0 in
      omega (arith, f, g)

  -- the requests from d that s received go along links from d to s
  along : (s d : ℕ) → s < p.ranks → (n : ℕ) → In n (map number_in (filter (came_from d) (own_received Request (w s)))) →
      In n (lane_links p d s)
  along s d hs n i =
      let q = In-map_cases number_in n (filter (came_from d) (own_received Request (w s))) i in
      let f = In-filter_cases (came_from d) q.0 (own_received Request (w s)) q.1 in
      let k = link_to starts p inputs sound fit slots w cut s q.0 hs f.0 in
      subst (λ l. In l (lane_links p d s)) q.2
      (In-filter (goes_along p d s) (number_in q.0) (all_links p)
      (In-from_to 0 (length p.links) (number_in q.0) zero-le (let z = k.known in omega arith))
      (and_from _ _ (ap not k.kind) (and_from _ _ (eq-eqb _ _ (k.source ∙ eqb-true _ _ f.1)) (eq-eqb _ _ k.target))))

  -- on a lane no more is sent than the plan has messages there
  pub lane_few : (s d : ℕ) (lane : Lane) → s < p.ranks → d < p.ranks → length (sent_by (system_of p inputs slots) w s d lane)
      ≤ lane_messages p s d lane
  lane_few s d Request hs hd = few_messages p (slots s) s (start_of p (slots s) s) (w s) false (prepare p inputs (slots s) s)
      (prepared_of p inputs sound (slots s) s) (cut.legal s hs) d
  lane_few s d Answer hs hd = at p.remote refl
    where
      at : (b : Bool) → p.remote ≡ b → length (sent_by (system_of p inputs slots) w s d Answer) ≤ cond b (length (lane_links p d s)) 0
      at false rem = let e = ap (λ (ms : List Sent). length ms) (answers_loc starts p inputs sound fit slots w cut rem s d hs) in
          omega (arith, e)
      at true rem =
          let a = ap (λ (ms : List Sent). length ms) (answers_rem starts p inputs sound fit slots w cut rem s d hs) in
          let b = length-map' ack (filter (came_from d) (own_received Request (w s))) in
          let c = length-map' number_in (filter (came_from d) (own_received Request (w s))) in
          let z = length-Within (map number_in (filter (came_from d) (own_received Request (w s)))) (lane_links p d s)
          (Distinct-map_filter number_in (came_from d) (own_received Request (w s))
          (received_once starts p inputs sound fit slots w cut s hs)) (along s d hs) in
          omega (arith, a, b, c, z)

  unused : (n : ℕ) → nat_lt 0 n ≡ false → n ≡ 0
  unused zero e = refl
  unused (suc n) e = absurd (both (lt-ltb 0 (suc n) (omega arith)) e)
    where
      both : {b : Bool} → b ≡ true → b ≡ false → ⊥
      both e i = cc

  none : {X : Type 0} (xs : List X) (n : ℕ) → length xs ≤ n → n ≡ 0 → xs ≡ []
  none [] n h e = refl
  none (x ∷ xs) n h e = absurd (omega arith)

  -- nothing is sent on an unused lane, and nothing of the job comes there
  pub unused_sent : (s d : ℕ) (lane : Lane) → s < p.ranks → d < p.ranks → is_used_lane p s d lane ≡ false →
      sent_by (system_of p inputs slots) w s d lane ≡ []
  unused_sent s d lane hs hd e = none _ (lane_messages p s d lane) (lane_few s d lane hs hd) (unused (lane_messages p s d lane) e)

  pub unused_got : (s d : ℕ) (lane : Lane) → s < p.ranks → d < p.ranks → is_used_lane p s d lane ≡ false → got_by w d s lane ≡ []
  unused_got s d lane hs hd e =
      let a = got_few s d lane hs hd in
      let b = ap (λ (ms : List Sent). length ms) (unused_sent s d lane hs hd e) in
      none _ 0 (omega (arith, a, b)) refl
