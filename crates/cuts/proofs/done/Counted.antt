-- What the done counter of a rank has counted in a cut: each cell and each acknowledgement once.
use Rattle.std.proofs.Common.{ℕ, Bool, true, false, cond, ◌+◌, ◌≡◌, ◌<◌, ◌≤◌, [], refl, length, ap, ◌∙◌, sym, subst, map, filter, Some}
use Rattle.std.proofs.Common.{arith, count_by, min, None, Option}
use Rattle.std.proofs.lemmas.Bool.{not_from_false}
use Rattle.std.proofs.lemmas.List.Sums.{length-filter}
use Rattle.ni_model.specs.Counts.{successes}
use Rattle.ni_model.specs.Tables.{Table, lookup}
use Rattle.op_laws.specs.Combining.{CombineStarts, CombineSwaps}
use Rattle.plan_core.specs.calls.RankOps.{done_threshold, is_message, sends_of, rank_ops}
use Rattle.plan_core.specs.calls.RankOps.RankOp.{ForDone}
use Rattle.plan_core.proofs.Links.{In-out_links, In-own}
use Rattle.plan_core.proofs.Lists.{Distinct-filter, In-filter, In-filter_cases, In-map_cases, all_Within, length-Within, length-map'}
use Rattle.plan_core.specs.Members.{In, Within}
use Rattle.plan_core.specs.Plan.{Plan, cell, out_links, own}
use Rattle.plan_core.specs.Sound.{AreInputsOf, SoundPlan}
use Rattle.plan_core.specs.Values.{Inputs}
use Rattle.cuts.proofs.histories.Conform.{stray_request}
use Rattle.cuts.proofs.histories.FromCut.{answer_is, machine_cut, moves_at, sender}
use Rattle.cuts.proofs.histories.RunFacts.{run_heard, run_ok}
use Rattle.cuts.proofs.histories.Shape.{shape}
use Rattle.cuts.proofs.histories.Told.{answers_in, answers_in-got, count-out-le, done_seen, heard, heard_is, length-own-le, needs_small}
use Rattle.cuts.proofs.histories.Told.{tells_works}
use Rattle.cuts.proofs.histories.Traffic.{number_in, own_received, own_received-got}
use Rattle.cuts.specs.histories.Cut.{IsCut, is_stray}
use Rattle.cuts.specs.histories.Plans.{CounterReached, system_of}
use Rattle.cuts.specs.histories.System.{Histories, state_at}
use Rattle.cuts.proofs.machine.Central.{ours_nothing, ours_seen}
use Rattle.cuts.proofs.machine.Reached.{Ours}
use Rattle.cuts.proofs.machine.RankOps.{In-works_tell}
use Rattle.cuts.specs.machine.Machine.{HasReached, all_seen}
use Rattle.cuts.specs.machine.Seen.{nothing_seen, reached_count, tells}
use Rattle.cuts.proofs.rest.Due.{answers_once, got_ack, link_to}
use Rattle.cuts.proofs.rest.Laws.{reached_holds}
use Rattle.cuts.proofs.view.StepFire.{lookup_counter}
use Rattle.cuts.proofs.view.Tables.{same_handle-refl}
use Rattle.cuts.specs.view.Slots.{Slots, cell_ct, done_ct}
use Rattle.cuts.specs.view.View.{counter_of}
use Rattle.ptl_types.specs.Handles.{top}
use Rattle.ptl_types.specs.Kinds.{is_answer}
use Rattle.ptl_types.specs.Messages.{Sent}
use Rattle.ptl_types.specs.declared.handles.Count.{Count}
use Rattle.ptl_types.specs.declared.headers.Lane.TheVariants.{Answer}
use Rattle.cuts.proofs.done.Rising.{told_reached}
use Rattle.cuts.specs.done.Done.{HoldsValues, IsDone}

total_of : (a b : Count) → Some a ≡ Some b → a.success + a.failure ≡ b.success + b.failure
total_of a b e = ap (λ (o : Option Count). elim o [ Some c ↦ c.success + c.failure | None ↦ 0 ]) e

module _ (starts : CombineStarts) (p : Plan) (inputs : Inputs) (sound : SoundPlan p (length inputs)) (fit : AreInputsOf p inputs)
    (slots : ℕ → Slots) (w : Histories) (cut : IsCut (system_of p inputs slots) w) (r : ℕ) (h : r < p.ranks) where
  pub mine : Ours p r (all_seen p (moves_at p w) r).fired
  mine = ours_seen p r (moves_at p w r) nothing_seen (ours_nothing p r) ((machine_cut starts p inputs sound fit slots w cut).moves r h)

  counter_is : lookup (done_ct (slots r)) (state_at (system_of p inputs slots) w r).cts.live ≡ Some (all_seen p (moves_at p w) r).done
  counter_is =
      ap (λ (t : Table Count). lookup (done_ct (slots r)) t.live) (shape starts p inputs sound fit slots w cut r h).cts
      ∙ ap (λ b. cond b (Some (all_seen p (moves_at p w) r).done)
      (lookup (done_ct (slots r)) (map (counter_of p (slots r) r (all_seen p (moves_at p w) r)) (own p r))))
      (same_handle-refl (done_ct (slots r)))

  -- ---- the acknowledgements
  clean : (m : Sent) → In m (answers_in (w r)) → is_stray m ≡ false
  clean m i =
      let k = answers_in-got (w r) m i in stray_request m
      (ap is_answer (answer_is starts p inputs sound fit slots w cut r k.0 m h k.1).kind)

  fine : (m : Sent) → In m (answers_in (w r)) → m.header.ok ≡ true
  fine m i =
      let k = answers_in-got (w r) m i in sym
      (ap (λ (x : Sent). x.header.ok) (got_ack starts p inputs sound fit slots w cut r k.0 m h k.1).is)

  heard_here : heard p (moves_at p w r) ≡ cond p.remote (length (own_received Answer (w r))) 0
  heard_here = run_heard p r (w r) [] ∙ heard_is p r (w r) clean

  -- each is of a message of this rank
  acknowledged_within : Within (map number_in (own_received Answer (w r))) (filter (is_message p) (out_links p r))
  acknowledged_within n i =
      let y = In-map_cases number_in n (own_received Answer (w r)) i in
      let g = own_received-got Answer (w r) y.0 y.1 in
      let a = got_ack starts p inputs sound fit slots w cut r g.from y.0 h g.got_it in
      let s = sender starts p inputs sound fit slots w cut r g.from Answer y.0 h g.got_it in
      let k = link_to starts p inputs sound fit slots w cut g.from a.of s a.came in
      subst (λ x. In x (filter (is_message p) (out_links p r))) (ap number_in a.is ∙ y.2)
      (In-filter (is_message p) (number_in a.of) (out_links p r) (In-out_links p r (number_in a.of) k.known (k.source ∙ a.from))
      (not_from_false _ k.kind))

  few_acknowledged : p.remote ≡ true → length (own_received Answer (w r)) ≤ sends_of p r
  few_acknowledged rem =
      let a = length-Within (map number_in (own_received Answer (w r))) (filter (is_message p) (out_links p r))
      (answers_once starts p inputs sound fit slots w cut r h rem) acknowledged_within in
      let b = length-map' number_in (own_received Answer (w r)) in
      let c = length-filter (is_message p) (out_links p r) in
      omega (arith, a, b, c)

  few_heard : cond p.remote (length (own_received Answer (w r))) 0 ≤ cond p.remote (sends_of p r) 0
  few_heard = at p.remote refl
    where
      at : (b : Bool) → p.remote ≡ b → cond b (length (own_received Answer (w r))) 0 ≤ cond b (sends_of p r) 0
      at true e = few_acknowledged e
      at false e = omega arith

  -- ---- the cells that were told
  told_within : Within (filter tells (all_seen p (moves_at p w) r).fired) (filter tells (rank_ops p r))
  told_within v i =
      let k = In-filter_cases tells v (all_seen p (moves_at p w) r).fired i in In-filter tells v (rank_ops p r) (mine.ours v k.0) k.1

  few_told : count_by tells (all_seen p (moves_at p w) r).fired ≤ length (own p r)
  few_told =
      let a = length-Within (filter tells (all_seen p (moves_at p w) r).fired) (filter tells (rank_ops p r))
      (Distinct-filter tells (all_seen p (moves_at p w) r).fired mine.once) told_within in
      let b = length-filter tells (all_seen p (moves_at p w) r).fired in
      let c = length-filter tells (rank_ops p r) in
      let d = tells_works p r in
      omega (arith, a, b, c, d)

  -- ---- both
  pub done_is : (all_seen p (moves_at p w) r).done ≡ successes
      (count_by tells (all_seen p (moves_at p w) r).fired + cond p.remote (length (own_received Answer (w r))) 0)
  done_is =
      let a = few_told in
      let b = few_heard in
      let c = threshold_small in
      let k = heard_here in
      done_seen p (moves_at p w r) nothing_seen 0 (run_ok p r (w r) [] fine) refl
      ∙ ap successes (let q : min (count_by tells (all_seen p (moves_at p w) r).fired + (0 + heard p (moves_at p w r))) top
      ≡ count_by tells (all_seen p (moves_at p w) r).fired + cond p.remote (length (own_received Answer (w r))) 0 = omega
      (arith, a, b, c, k) in q)
    where
      threshold_small : length (own p r) + cond p.remote (sends_of p r) 0 ≤ top
      threshold_small = at p.remote
        where
          at : (b : Bool) → length (own p r) + cond b (sends_of p r) 0 ≤ top
          at true = let a = length-own-le p r in let b = count-out-le p r in let at_most = sound.few_together in
              omega (arith, a, b, at_most)
          at false = let a = length-own-le p r in let at_most = sound.few_together in omega (arith, a, at_most)

  pub counted : lookup (done_ct (slots r)) (state_at (system_of p inputs slots) w r).cts.live
      ≡ Some (successes (count_by tells (all_seen p (moves_at p w) r).fired + cond p.remote (length (own_received Answer (w r))) 0))
  counted = counter_is ∙ ap Some done_is

  pub within_threshold : count_by tells (all_seen p (moves_at p w) r).fired + cond p.remote
      (length (own_received Answer (w r))) 0 ≤ done_threshold p r
  within_threshold = let a = few_told in let b = few_heard in omega (arith, a, b)

-- ---- where it has reached its threshold
module _ (starts : CombineStarts) (p : Plan) (inputs : Inputs) (sound : SoundPlan p (length inputs)) (fit : AreInputsOf p inputs)
    (slots : ℕ → Slots) (w : Histories) (cut : IsCut (system_of p inputs slots) w) (r : ℕ) (h : r < p.ranks)
    (done : IsDone p inputs slots w r) where
  pub enough : done_threshold p r ≤ count_by tells (all_seen p (moves_at p w) r).fired + cond p.remote
      (length (own_received Answer (w r))) 0
  enough =
      let e = total_of _ _ (sym (counted starts p inputs sound fit slots w cut r h) ∙ done.counter) in
      let m = done.enough in
      omega (arith, e, m)

  all_told : Within (filter tells (rank_ops p r)) (filter tells (all_seen p (moves_at p w) r).fired)
  all_told =
      let a = enough in
      let b = few_heard starts p inputs sound fit slots w cut r h in
      let c = length-filter tells (rank_ops p r) in
      let d = tells_works p r in
      let e = length-filter tells (all_seen p (moves_at p w) r).fired in
      all_Within (filter tells (all_seen p (moves_at p w) r).fired) (filter tells (rank_ops p r))
      (Distinct-filter tells (all_seen p (moves_at p w) r).fired (mine starts p inputs sound fit slots w cut r h).once)
      (told_within starts p inputs sound fit slots w cut r h)
      (omega (arith, a, b, c, d, e))

  pub told : (c : ℕ) → In c (own p r) → In (ForDone c) (all_seen p (moves_at p w) r).fired
  told c i =
      (In-filter_cases tells (ForDone c) (all_seen p (moves_at p w) r).fired
      (all_told (ForDone c) (In-filter tells (ForDone c) (rank_ops p r) (In-works_tell p r c i) refl))).0

  -- so each of its cells has reached its needs
  pub reached : (c : ℕ) → In c (own p r) → (cell p c).needs ≤ reached_count p (all_seen p (moves_at p w) r) r c
  reached c i =
      told_reached p r c (moves_at p w r) nothing_seen ((machine_cut starts p inputs sound fit slots w cut).moves r h) (λ z. absurd z)
      (told c i)

  pub all_acknowledged : p.remote ≡ true → Within (filter (is_message p) (out_links p r)) (map number_in (own_received Answer (w r)))
  all_acknowledged rem =
      let a = enough_of p.remote rem enough in
      let b = few_told starts p inputs sound fit slots w cut r h in
      let c = length-filter (is_message p) (out_links p r) in
      let d = length-map' number_in (own_received Answer (w r)) in
      all_Within (map number_in (own_received Answer (w r))) (filter (is_message p) (out_links p r))
      (answers_once starts p inputs sound fit slots w cut r h rem) (acknowledged_within starts p inputs sound fit slots w cut r h)
      (omega (arith, a, b, c, d))
    where
      enough_of : (b : Bool) → b ≡ true
          → length (own p r) + cond b (sends_of p r) 0 ≤ count_by tells (all_seen p (moves_at p w) r).fired + cond b
          (length (own_received Answer (w r))) 0
          → length (own p r) + sends_of p r ≤ count_by tells (all_seen p (moves_at p w) r).fired + length (own_received Answer (w r))
      enough_of true e k = k
      enough_of false e k = cc

-- the counter of a cell that has reached its needs
counter_reached : (starts : CombineStarts) (p : Plan) (inputs : Inputs) (sound : SoundPlan p (length inputs))
    (fit : AreInputsOf p inputs) (slots : ℕ → Slots) (w : Histories) (cut : IsCut (system_of p inputs slots) w) (c : ℕ)
    → c < length p.cells
    → HasReached p (moves_at p w) c → CounterReached p inputs slots w c
counter_reached starts p inputs sound fit slots w cut c h n = record {
  count = successes (min (reached_count p (all_seen p (moves_at p w) (cell p c).rank) (cell p c).rank c) top);
  counter =
      ap (λ (t : Table Count). lookup (cell_ct p (slots (cell p c).rank) c) t.live)
      (shape starts p inputs sound fit slots w cut (cell p c).rank (sound.ranks_known c h)).cts
      ∙ lookup_counter (shape starts p inputs sound fit slots w cut (cell p c).rank (sound.ranks_known c h)).annex p inputs
      (slots (cell p c).rank) (cell p c).rank (all_seen p (moves_at p w) (cell p c).rank) c (In-own p (cell p c).rank c h refl);
  enough = (let s = needs_small p (length inputs) sound c h in omega (arith, s, n));
}

-- so each cell of the rank holds its value
pub holds_values : (starts : CombineStarts) (p : Plan) (inputs : Inputs) (sound : SoundPlan p (length inputs)) (fit : AreInputsOf p inputs)
    (swaps : CombineSwaps) (slots : ℕ → Slots) (w : Histories) (cut : IsCut (system_of p inputs slots) w) (r : ℕ) → r < p.ranks
    → IsDone p inputs slots w r → HoldsValues p inputs slots w r
holds_values starts p inputs sound fit swaps slots w cut r h done d i e =
    reached_holds starts p inputs sound fit slots w cut swaps d i
    (counter_reached starts p inputs sound fit slots w cut d i
    (subst (λ q. (cell p d).needs ≤ reached_count p (all_seen p (moves_at p w) q) q d) (sym e)
    (reached starts p inputs sound fit slots w cut r h done d (In-own p r d i e))))
