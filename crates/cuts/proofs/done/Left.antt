-- What is left at a rank that is done: sends that are ready, and none where completion is remote; and where none is, strays alone.
use Rattle.std.proofs.Common.{ℕ, Bool, true, false, not, ◌≡◌, ◌<◌, [], refl, length, ap, ap₂, ◌∙◌, sym, subst, inl, inr, map, filter}
use Rattle.std.proofs.Common.{Option, Some, None, arith}
use Rattle.std.proofs.lemmas.Bool.{cases_Bool, not-true, not_from_false, not_from_true}
use Rattle.ni_model.specs.Ready.{is_ready, is_ready_op, message_target, posted_at}
use Rattle.ni_model.specs.State.{Operations, Posted}
use Rattle.ni_model.specs.Tables.{Table}
use Rattle.op_laws.specs.Combining.{CombineStarts}
use Rattle.plan_core.specs.calls.RankOps.{RankOp, is_message, rank_ops}
use Rattle.plan_core.specs.calls.RankOps.RankOp.{ForLink, ForDone}
use Rattle.plan_core.proofs.Links.{In-in_links, In-own, out_links-In}
use Rattle.plan_core.proofs.Growth.{filter-none}
use Rattle.plan_core.proofs.Lists.{In-append_cases, In-filter, In-filter_cases, In-map_cases}
use Rattle.plan_core.specs.Members.{In}
use Rattle.plan_core.specs.declared.LinkKind.{LinkKind}
use Rattle.plan_core.specs.declared.LinkKind.TheVariants.{Atomic, Bump, Put}
use Rattle.plan_core.specs.Plan.{Plan, cell, is_bump, link, out_links}
use Rattle.plan_core.specs.Sound.{AreInputsOf, SoundPlan}
use Rattle.plan_core.specs.Values.{Inputs}
use Rattle.cuts.proofs.histories.FromCut.{machine_cut, moves_at, sender}
use Rattle.cuts.proofs.histories.Shape.{shape}
use Rattle.cuts.proofs.histories.Told.{ready_from}
use Rattle.cuts.proofs.histories.Traffic.{number_in, own_received, own_received-got, to_came}
use Rattle.cuts.specs.histories.Cut.{IsCut}
use Rattle.cuts.specs.histories.Plans.{system_of}
use Rattle.cuts.specs.histories.System.{Histories, state_at}
use Rattle.cuts.proofs.machine.Ancestors.{sent_fired}
use Rattle.cuts.proofs.machine.Reached.{In-fired, all_in, bumped_to, bumped_to-In, came_to, came_to-In}
use Rattle.cuts.proofs.machine.RankOps.{rank_ops-along, rank_ops-tell}
use Rattle.cuts.specs.machine.Machine.{all_seen}
use Rattle.cuts.specs.machine.Seen.{nothing_seen, was_fired}
use Rattle.cuts.proofs.rest.Due.{got_ack, link_to}
use Rattle.cuts.specs.view.TriggeredOps.{action_of, operation, send_action}
use Rattle.cuts.specs.view.Slots.{Slots}
use Rattle.plan_core.specs.calls.RankOps.{number_of}
use Rattle.ptl_types.specs.declared.elements.AtomicOp.{AtomicOp}
use Rattle.ptl_types.specs.declared.handles.Count.{Count}
use Rattle.ptl_types.specs.declared.headers.Lane.TheVariants.{Answer}
use Rattle.cuts.proofs.done.Counted.{all_acknowledged, mine, reached, told}
use Rattle.cuts.specs.done.Done.{IsDone, OnlySendsAreLeft}

both : {b : Bool} → b ≡ true → b ≡ false → ⊥
both e i = cc

bump_kind : (k : LinkKind) → is_bump k ≡ true → k ≡ Bump
bump_kind Bump e = refl
bump_kind Put e = cc
bump_kind Atomic e = cc

module _ (starts : CombineStarts) (p : Plan) (inputs : Inputs) (sound : SoundPlan p (length inputs)) (fit : AreInputsOf p inputs)
    (slots : ℕ → Slots) (w : Histories) (cut : IsCut (system_of p inputs slots) w) (r : ℕ) (h : r < p.ranks)
    (done : IsDone p inputs slots w r) where
  -- each increment of a cell was made
  bumped : (l : ℕ) → In l (out_links p r) → is_bump (link p l).kind ≡ true → In (ForLink l) (all_seen p (moves_at p w) r).fired
  bumped l i b =
      let k = out_links-In p r l i in
      let s = sound.links_sound l k.0 in
      let m = machine_cut starts p inputs sound fit slots w cut in
      let here : (cell p (link p l).target).rank ≡ r = sym (s.bump_stays (bump_kind (link p l).kind b)) ∙ k.1 in
      let all = all_in p inputs sound r (link p l).target (all_seen p (moves_at p w) r) h s.cells (m.proper r h)
      (mine starts p inputs sound fit slots w cut r h)
      (reached starts p inputs sound fit slots w cut r h done (link p l).target (In-own p r (link p l).target s.cells here)) l
      (In-in_links p (link p l).target l k.0 refl) in
      elim (In-append_cases l (came_to p (link p l).target (all_seen p (moves_at p w) r).came)
      (bumped_to p (link p l).target (all_seen p (moves_at p w) r).fired) all) [
        | inl j ↦ (let c = came_to-In p (link p l).target (all_seen p (moves_at p w) r).came l j in
            absurd (both b (subst (λ n. is_bump (link p n).kind ≡ false) c.2 ((m.proper r h).links c.0 c.1).1)))
        | inr j ↦ (bumped_to-In p (link p l).target (all_seen p (moves_at p w) r).fired l j).0
      ]

  -- each message that was acknowledged was sent
  sent_before : p.remote ≡ true → (l : ℕ) → In l (out_links p r) → is_bump (link p l).kind ≡ false
      → In (ForLink l) (all_seen p (moves_at p w) r).fired
  sent_before rem l i b =
      let q = In-map_cases number_in l (own_received Answer (w r))
      (all_acknowledged starts p inputs sound fit slots w cut r h done rem l
      (In-filter (is_message p) l (out_links p r) i (not_from_false _ b))) in
      let g = own_received-got Answer (w r) q.0 q.1 in
      let a = got_ack starts p inputs sound fit slots w cut r g.from q.0 h g.got_it in
      let k = link_to starts p inputs sound fit slots w cut g.from a.of
      (sender starts p inputs sound fit slots w cut r g.from Answer q.0 h g.got_it) a.came in
      let f = sent_fired p inputs (moves_at p w a.of.header.source) nothing_seen (to_came a.of) k.sent_it in
      let n : number_in a.of ≡ l = ap number_in a.is ∙ q.2 in
      subst (λ x. In (ForLink x) (all_seen p (moves_at p w) r).fired) n
      (subst (λ v. In (ForLink (number_in a.of)) (all_seen p (moves_at p w) v).fired) a.from f)

  pub all_fired : p.remote ≡ true → (v : RankOp) → In v (rank_ops p r) → was_fired (all_seen p (moves_at p w) r).fired v ≡ true
  all_fired rem (ForDone c) i =
      In-fired (all_seen p (moves_at p w) r).fired (ForDone c)
      (told starts p inputs sound fit slots w cut r h done c (rank_ops-tell p r c i))
  all_fired rem (ForLink l) i = In-fired (all_seen p (moves_at p w) r).fired (ForLink l) (elim (cases_Bool (is_bump (link p l).kind)) [
    | inl b ↦ bumped l (rank_ops-along p r l i) b
    | inr b ↦ sent_before rem l (rank_ops-along p r l i) b
  ])

  pending_is : (state_at (system_of p inputs slots) w r).pending.waiting ≡ map (operation p (slots r) r)
      (filter (λ v. not (was_fired (all_seen p (moves_at p w) r).fired v)) (rank_ops p r))
  pending_is = ap (λ (ps : Operations). ps.waiting) (shape starts p inputs sound fit slots w cut r h).pending

  pub none_pending : p.remote ≡ true → (state_at (system_of p inputs slots) w r).pending.waiting ≡ []
  none_pending rem =
      pending_is ∙ ap (map (operation p (slots r) r))
      (filter-none (λ v. not (was_fired (all_seen p (moves_at p w) r).fired v)) (rank_ops p r) (λ v i. not_from_true _ (all_fired rem v i)))

  -- ---- what is left sends, and is ready
  left_ready : (v : RankOp) → In v (rank_ops p r) → was_fired (all_seen p (moves_at p w) r).fired v ≡ false
      → (is_ready (state_at (system_of p inputs slots) w r) (number_of p r v) ≡ true)
      × ((d : ℕ) × (message_target (action_of p (slots r) v) ≡ Some d))
  left_ready (ForDone c) i f =
      absurd (both (In-fired (all_seen p (moves_at p w) r).fired (ForDone c)
      (told starts p inputs sound fit slots w cut r h done c (rank_ops-tell p r c i))) f)
  left_ready (ForLink l) i f =
      let o = rank_ops-along p r l i in
      let k = out_links-In p r l o in
      let s = sound.links_sound l k.0 in
      let up = s.rising in
      let top = s.cells in
      let source = In-own p r (link p l).source (omega (arith, up, top)) k.1 in
      let sh = shape starts p inputs sound fit slots w cut r h in (
        ap₂ (λ (t : Table Count) (ops : Operations). is_ready_op t (posted_at (number_of p r (ForLink l)) ops)) sh.cts sh.pending
            ∙ ready_from sh.annex p inputs sound (slots r) r (all_seen p (moves_at p w) r) (ForLink l) i f
            (reached starts p inputs sound fit slots w cut r h done (link p l).source source),
        elim (cases_Bool (is_bump (link p l).kind)) [
          | inl b ↦ absurd (both (In-fired (all_seen p (moves_at p w) r).fired (ForLink l) (bumped l o b)) f)
          | inr b ↦ ((cell p (link p l).target).rank, sends b)
        ],
      )
    where
      sends : is_bump (link p l).kind ≡ false → message_target (action_of p (slots r) (ForLink l)) ≡ Some (cell p (link p l).target).rank
      sends b = rw b (at (cell p (link p l).target).op)
        where
          at : (o : Option AtomicOp) → message_target (send_action p (slots r) l o) ≡ Some (cell p (link p l).target).rank
          at None = refl
          at (Some o) = refl

  pub only_sends : OnlySendsAreLeft (state_at (system_of p inputs slots) w r)
  only_sends q i =
      let y = In-map_cases (operation p (slots r) r) q (filter (λ v. not (was_fired (all_seen p (moves_at p w) r).fired v)) (rank_ops p r))
      (subst (λ qs. In q qs) pending_is i) in
      let f = In-filter_cases (λ v. not (was_fired (all_seen p (moves_at p w) r).fired v)) y.0 (rank_ops p r) y.1 in
      subst (λ (x : Posted). (is_ready (state_at (system_of p inputs slots) w r) x.number ≡ true)
      × ((d : ℕ) × (message_target x.action ≡ Some d))) y.2
      (left_ready y.0 f.0 (not-true _ f.1))
