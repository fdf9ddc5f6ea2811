-- At the end each rank has made all the steps that its plan gives, and one for each stray that it received.
use Rattle.std.proofs.Common.{ℕ, Bool, true, false, cond, not, ◌&&◌, ◌≡◌, ◌<◌, ◌≤◌, ◌+◌, List, [], ◌∷◌, ◌++◌, refl, length}
use Rattle.std.proofs.Common.{map, filter, ap, ◌∙◌, sym, subst, inl, inr, arith, if◌then◌else◌, count_by, Option, Some, None}
use Rattle.std.proofs.Common.{eq-eqb, eqb-true, zero-le}
use Rattle.std.proofs.lemmas.Bool.{and_parts, not-true}
use Rattle.std.proofs.lemmas.List.Sums.{length-filter}
use Rattle.ptl_types.specs.Messages.{Sent}
use Rattle.ptl_types.specs.declared.headers.Lane.{Lane}
use Rattle.ptl_types.specs.declared.headers.Lane.TheVariants.{Answer, Request}
use Rattle.op_laws.specs.Combining.{CombineStarts, CombineSwaps}
use Rattle.plan_core.proofs.Links.{Distinct-from_to, Distinct-out_links, In-out_links, from_to-In, out_links-In}
use Rattle.plan_core.proofs.Lists.{Distinct-filter, In-filter, In-filter_cases, In-map, In-map_cases, count-cons, length-Within}
use Rattle.plan_core.proofs.Lists.{length-map'}
use Rattle.plan_core.specs.Members.{In, Within}
use Rattle.plan_core.specs.Plan.{Plan, all_links, cell, from_to, is_bump, link, out_links}
use Rattle.plan_core.specs.Sound.{AreInputsOf, SoundPlan}
use Rattle.plan_core.specs.Values.{Inputs}
use Rattle.plan_core.specs.calls.Areas.{comes_to, links_to}
use Rattle.plan_core.specs.calls.RankOps.{RankOp, is_message, sends_of, rank_ops}
use Rattle.plan_core.specs.calls.RankOps.RankOp.{ForLink, ForDone}
use Rattle.cuts.specs.view.Slots.{Slots}
use Rattle.cuts.proofs.machine.Central.{rest_fires, sent_along}
use Rattle.cuts.proofs.machine.Reached.{fired-In}
use Rattle.cuts.proofs.machine.RankOps.{Distinct-rank_ops, In-works_along}
use Rattle.cuts.specs.machine.Machine.{all_seen, link_of, note, outs, seen, source_rank}
use Rattle.cuts.specs.machine.Machine.Move.{Began, Heard, Strayed, Took}
use Rattle.cuts.specs.machine.Seen.{Came, Seen, nothing_seen}
use Rattle.cuts.specs.histories.Cut.{IsAtRest, IsCut, is_received_stray, is_stray}
use Rattle.cuts.specs.histories.History.{Local, got, is_start, same_lane}
use Rattle.cuts.specs.histories.History.Local.{Fire, Receive, Start}
use Rattle.cuts.specs.histories.Plans.{system_of}
use Rattle.cuts.specs.histories.System.{Histories, sent_by}
use Rattle.cuts.proofs.histories.FromCut.{answers_rem, came_all, moves_at}
use Rattle.cuts.proofs.histories.RunTraffic.{has_start}
use Rattle.cuts.proofs.histories.Runs.{run_moves, tk}
use Rattle.cuts.proofs.histories.Simulate.{did, moves_of, work_numbered}
use Rattle.cuts.proofs.histories.Traffic.{ack, came_from, got-own_received, number_in, own_received, owned-In, to_came}
use Rattle.cuts.proofs.rest.Due.{link_to}
use Rattle.cuts.proofs.rest.FromRest.{machine_rest}
use Rattle.cuts.specs.windows.Left.{steps_of}
use Rattle.cuts.specs.histories.Moment.{Lanes}
use Rattle.cuts.specs.interleavings.Interleaving.{IsReachedIn, IsStillButStrays, steps_due, strays_received}
use Rattle.cuts.proofs.interleavings.Counted.{sum_alike, sum_both}
use Rattle.cuts.proofs.interleavings.Interleavings.{all_steps, but_strays_rest, at_most, reached_moment}

-- ---- the parts of a history
abbrev is_firing : Local → Bool
is_firing (Fire t) = true
is_firing _ = false

all_parts : (es : List Local) → length es ≡ count_by is_start es + (count_by is_firing es
    + (count_by is_received_stray es + (length (own_received Request es) + length (own_received Answer es))))
all_parts [] = refl
all_parts (Start ∷ es) =
    let k = all_parts es in
    let a = count-cons is_start Start es in
    let b = count-cons is_firing Start es in
    let c = count-cons is_received_stray Start es in
    omega (arith, k, a, b, c)
all_parts (Fire t ∷ es) =
    let k = all_parts es in
    let a = count-cons is_start (Fire t) es in
    let b = count-cons is_firing (Fire t) es in
    let c = count-cons is_received_stray (Fire t) es in
    omega (arith, k, a, b, c)
all_parts (Receive s l m ∷ es) =
    let k = all_parts es in
    let a = count-cons is_start (Receive s l m) es in
    let b = count-cons is_firing (Receive s l m) es in
    let c = count-cons is_received_stray (Receive s l m) es in
    let d = at l (is_stray m) in
    omega (arith, k, a, b, c, d)
  where
    at : (l : Lane) (t : Bool) → cond {A = ℕ} t 1 0
        + (length (cond (same_lane l Request && not t) (m ∷ own_received Request es) (own_received Request es))
        + length (cond (same_lane l Answer && not t) (m ∷ own_received Answer es) (own_received Answer es)))
        ≡ 1 + (length (own_received Request es) + length (own_received Answer es))
    at Request true = refl
    at Request false = omega arith
    at Answer true = refl
    at Answer false = omega arith

-- ---- what was fired, was fired by a step each
fired_by_work : (p : Plan) (g : Seen) (o : Option RankOp) → length (note p g (did o)).fired ≤ length g.fired + 1
fired_by_work p g None = omega arith
fired_by_work p g (Some (ForLink l)) = omega arith
fired_by_work p g (Some (ForDone c)) = omega arith

fired-at_most : (p : Plan) (r : ℕ) (es : List Local) (g : Seen)
    → length (seen p g (moves_of p r es)).fired ≤ length g.fired + count_by is_firing es
fired-at_most p r [] g = omega arith
fired-at_most p r (Start ∷ es) g =
    let k = fired-at_most p r es (note p g Began) in
    let a = count-cons is_firing Start es in
    omega (arith, k, a)
fired-at_most p r (Fire t ∷ es) g =
    let k = fired-at_most p r es (note p g (did (work_numbered p r t))) in
    let a = count-cons is_firing (Fire t) es in
    let b = fired_by_work p g (work_numbered p r t) in
    omega (arith, k, a, b)
fired-at_most p r (Receive s Answer m ∷ es) g =
    let k = fired-at_most p r es (note p g (Heard m.header.ok)) in
    let a = count-cons is_firing (Receive s Answer m) es in
    omega (arith, k, a)
fired-at_most p r (Receive s Request m ∷ es) g =
    let a = count-cons is_firing (Receive s Request m) es in
    let k = at (is_stray m) (fired-at_most p r es (note p g Strayed)) (fired-at_most p r es (note p g (Took m.header.hdr_data m.bytes))) in
    omega (arith, a, k)
  where
    at : (b : Bool) → length (seen p (note p g Strayed) (moves_of p r es)).fired ≤ length g.fired + count_by is_firing es
        → length (seen p (note p g (Took m.header.hdr_data m.bytes)) (moves_of p r es)).fired ≤ length g.fired + count_by is_firing es
        → length (seen p g (cond b Strayed (Took m.header.hdr_data m.bytes) ∷ moves_of p r es)).fired ≤ length g.fired
        + count_by is_firing es
    at true x y = x
    at false x y = y

took-at_most : (p : Plan) (r : ℕ) (early : List Came) (es : List Local) (g : Seen)
    → length (seen p g (map tk early ++ moves_of p r es)).fired ≤ length g.fired + count_by is_firing es
took-at_most p r [] es g = fired-at_most p r es g
took-at_most p r (a ∷ early) es g = took-at_most p r early es (note p g (tk a))

run-at_most : (p : Plan) (r : ℕ) (es : List Local) (early : List Came) (g : Seen)
    → length (seen p g (run_moves p r early es)).fired ≤ length g.fired + count_by is_firing es
run-at_most p r [] early g = omega arith
run-at_most p r (Start ∷ es) early g =
    let k = took-at_most p r early es (note p g Began) in
    let a = count-cons is_firing Start es in
    omega (arith, k, a)
run-at_most p r (Fire t ∷ es) early g =
    let k = run-at_most p r es early (note p g (did (work_numbered p r t))) in
    let a = count-cons is_firing (Fire t) es in
    let b = fired_by_work p g (work_numbered p r t) in
    omega (arith, k, a, b)
run-at_most p r (Receive s Answer m ∷ es) early g =
    let k = run-at_most p r es early (note p g (Heard m.header.ok)) in
    let a = count-cons is_firing (Receive s Answer m) es in
    omega (arith, k, a)
run-at_most p r (Receive s Request m ∷ es) early g =
    let a = count-cons is_firing (Receive s Request m) es in
    let k = at (is_stray m) (run-at_most p r es early (note p g Strayed)) (run-at_most p r es (early ++ to_came m ∷ []) g) in
    omega (arith, a, k)
  where
    at : (b : Bool) → length (seen p (note p g Strayed) (run_moves p r early es)).fired ≤ length g.fired + count_by is_firing es
        → length (seen p g (run_moves p r (early ++ to_came m ∷ []) es)).fired ≤ length g.fired + count_by is_firing es
        → length (seen p g (cond b (Strayed ∷ run_moves p r early es) (run_moves p r (early ++ to_came m ∷ []) es))).fired
        ≤ length g.fired + count_by is_firing es
    at true x y = x
    at false x y = y

-- ---- in a cut at rest
module _ (starts : CombineStarts) (p : Plan) (inputs : Inputs) (sound : SoundPlan p (length inputs)) (fit : AreInputsOf p inputs)
    (swaps : CombineSwaps) (slots : ℕ → Slots) (w : Histories) (cut : IsCut (system_of p inputs slots) w)
    (rest : IsAtRest (system_of p inputs slots) w) where
  all_fired : (r : ℕ) → r < p.ranks → Within (rank_ops p r) (all_seen p (moves_at p w) r).fired
  all_fired r h v i =
      fired-In (all_seen p (moves_at p w) r).fired v
      (rest_fires p inputs sound (moves_at p w) (machine_rest starts p inputs sound fit swaps slots w cut rest) r h v i)

  -- what a rank sent along a link came to the link's target
  pub record Came_along (l : ℕ) : Type 0 where
    pub m : Sent
    pub came : In m (own_received Request (w (cell p (link p l).target).rank))
    pub number : number_in m ≡ l

  came_along : (l : ℕ) → l < length p.links → is_bump (link p l).kind ≡ false → Came_along l
  came_along l known sends =
      let s = sound.links_sound l known in
      let up = s.rising in
      let top = s.cells in
      let source = source_rank p l in
      let hs : source_rank p l < p.ranks = sound.ranks_known (link p l).source (omega (arith, up, top)) in
      let fired = all_fired source hs (ForLink l) (In-works_along p source l (In-out_links p source l known refl)) in
      elim (sent_along p inputs (moves_at p w source) nothing_seen l sends fired) [
        | inl z ↦ absurd z
        | inr o ↦ there hs o.0 o.1 o.2
      ]
    where
      there : source_rank p l < p.ranks → (a : Came) → In a (outs p inputs nothing_seen (moves_at p w (source_rank p l))) → a.link ≡ l
          → Came_along l
      there hs a o e =
          let d = (cell p (link p l).target).rank in
          let i = (machine_rest starts p inputs sound fit swaps slots w cut rest).taken (source_rank p l) a hs o in
          let j : In a (all_seen p (moves_at p w) d).came = subst
          (λ n. In a (all_seen p (moves_at p w) (cell p (link p n).target).rank).came) e i in
          let y = In-map_cases to_came a (own_received Request (w d))
          (started (has_start (w d)) (subst (λ v. In a v) (came_all starts p inputs sound fit slots w cut d) j)) in
          record { m = y.0; came = y.1; number = ap link_of y.2 ∙ e }
        where
          started : (b : Bool) → In a (if b then map to_came (own_received Request (w (cell p (link p l).target).rank)) else [])
              → In a (map to_came (own_received Request (w (cell p (link p l).target).rank)))
          started true i = i
          started false i = absurd i

  -- so each rank received what comes along the links to it
  many_requests : (r : ℕ) → length (links_to p r) ≤ length (own_received Request (w r))
  many_requests r =
      let a = length-Within (links_to p r) (map number_in (own_received Request (w r)))
      (Distinct-filter (comes_to p r) (all_links p) (Distinct-from_to 0 (length p.links))) (λ l i. each l i) in
      let b = length-map' number_in (own_received Request (w r)) in
      omega (arith, a, b)
    where
      each : (l : ℕ) → In l (links_to p r) → In l (map number_in (own_received Request (w r)))
      each l i =
          let f = In-filter_cases (comes_to p r) l (all_links p) i in
          let q = and_parts _ _ f.1 in
          let known = (from_to-In 0 (length p.links) l f.0).1 in
          let c = came_along l (omega (arith, known)) (not-true _ q.0) in
          let here : (cell p (link p l).target).rank ≡ r = eqb-true _ _ q.1 in
          subst (λ n. In n (map number_in (own_received Request (w r)))) c.number
          (In-map number_in c.m (own_received Request (w r)) (subst (λ d. In c.m (own_received Request (w d))) here c.came))

  -- and where the plan is remote an answer for each message that it sent
  many_answers : (r : ℕ) → r < p.ranks → (if p.remote then sends_of p r else 0) ≤ length (own_received Answer (w r))
  many_answers r h = at p.remote refl
    where
      each : p.remote ≡ true → (l : ℕ) → In l (filter (is_message p) (out_links p r)) → In l (map number_in (own_received Answer (w r)))
      each rem l i =
          let f = In-filter_cases (is_message p) l (out_links p r) i in
          let o = out_links-In p r l f.0 in
          let c = came_along l o.0 (not-true _ f.1) in
          let d = (cell p (link p l).target).rank in
          let hd = sound.ranks_known (link p l).target (sound.links_sound l o.0).cells in
          let k = link_to starts p inputs sound fit slots w cut d c.m hd c.came in
          let from : c.m.header.source ≡ r = sym k.source ∙ ap (source_rank p) c.number ∙ o.1 in
          let sent_it : In (ack c.m) (sent_by (system_of p inputs slots) w d r Answer) =
          subst (λ v. In (ack c.m) v) (sym (answers_rem starts p inputs sound fit slots w cut rem d r hd))
          (In-map ack c.m (filter (came_from r) (own_received Request (w d)))
          (In-filter (came_from r) c.m (own_received Request (w d)) c.came (eq-eqb _ _ from))) in
          let g = owned-In (ack c.m) (got (w r) d Answer) (subst (λ v. In (ack c.m) v) (sym (rest.empty d r Answer hd h)) sent_it) in
          subst (λ n. In n (map number_in (own_received Answer (w r)))) c.number
          (In-map number_in (ack c.m) (own_received Answer (w r)) (got-own_received Answer (w r) d (ack c.m) g.0 g.1))

      at : (b : Bool) → p.remote ≡ b → (if b then sends_of p r else 0) ≤ length (own_received Answer (w r))
      at false e = zero-le
      at true e =
          let a = length-Within (filter (is_message p) (out_links p r)) (map number_in (own_received Answer (w r)))
          (Distinct-filter (is_message p) (out_links p r) (Distinct-out_links p r)) (λ l i. each e l i) in
          let b = length-map' number_in (own_received Answer (w r)) in
          let c = length-filter (is_message p) (out_links p r) in
          omega (arith, a, b, c)

  pub all_made : (r : ℕ) → r < p.ranks → length (w r) ≡ steps_of p 0 r + count_by is_received_stray (w r)
  all_made r h =
      let parts = all_parts (w r) in
      let begun = rest.started r h in
      let fired = run-at_most p r (w r) [] nothing_seen in
      let each = length-Within (rank_ops p r) (all_seen p (moves_at p w) r).fired (Distinct-rank_ops p r) (all_fired r h) in
      let asks = many_requests r in
      let answers = many_answers r h in
      let most = at_most starts p inputs sound fit swaps slots w cut r h in
      omega (arith, parts, begun, fired, each, asks, answers, most)

-- so an interleaving that came to its end has just so many
pub steps_made : CombineStarts → (p : Plan) (inputs : Inputs) → SoundPlan p (length inputs) → AreInputsOf p inputs → CombineSwaps
    → (slots : ℕ → Slots) (steps strays : ℕ) (w : Histories) (held : Lanes) → IsReachedIn (system_of p inputs slots) steps strays w held
    → IsStillButStrays (system_of p inputs slots) w held → steps ≡ steps_due p + strays_received w p.ranks
steps_made starts p inputs sound fit swaps slots steps strays w held x h =
    let m = reached_moment starts p inputs sound fit swaps slots steps strays w held x in
    let rest = but_strays_rest starts p inputs sound fit swaps slots w held m h in
    let a = all_steps (system_of p inputs slots) steps strays w held x in
    let b = sum_alike (λ r. steps_of p 0 r + count_by is_received_stray (w r)) (λ r. length (w r)) 0 p.ranks
    (λ r low high. all_made starts p inputs sound fit swaps slots w m.cut rest r (omega (arith, high))) in
    let c = sum_both (steps_of p 0) (λ r. count_by is_received_stray (w r)) (from_to 0 p.ranks) in
    omega (arith, a, b, c)
