-- What is reached after its rank's start alone: the cells of inputs, and the cells where barriers are entered.
use Rattle.std.proofs.Common.{map}
use Rattle.std.proofs.Common.{ℕ, zero, suc, true, false, Bool, cond, ◌||◌, ◌==◌, ◌≡◌, ◌+◌, ◌*◌, ◌<◌, ◌≤◌, Option, Some, None, length}
use Rattle.std.proofs.Common.{List, [], ◌∷◌, ◌++◌, ◌∙◌, sym, subst, inl, inr, arith, count_by, eqb-true, get_or, min, refl, ap}
use Rattle.std.proofs.lemmas.Bool.{and_parts, cases_Bool, or_cases}
use Rattle.std.proofs.lemmas.Nat.{mod-mul-add}
use Rattle.ptl_types.specs.declared.handles.Count.{Count}
use Rattle.ptl_types.specs.Handles.{top}
use Rattle.ni_model.specs.Counts.{successes}
use Rattle.ni_model.specs.Ready.{is_number, is_ready, is_ready_op, posted_at}
use Rattle.ni_model.specs.State.{Posted, State}
use Rattle.ni_model.specs.Tables.{Table, lookup}
use Rattle.op_laws.proofs.Starts.{combined-starts}
use Rattle.coll_shape.proofs.Rows.{before-end}
use Rattle.plan_core.proofs.Links.{In-own, in_links-In}
use Rattle.plan_core.proofs.Lists.{In-append_cases, In-map_cases, count-cons}
use Rattle.plan_core.specs.Members.{In}
use Rattle.plan_core.specs.declared.LinkKind.{LinkKind}
use Rattle.plan_core.specs.declared.LinkKind.TheVariants.{Atomic, Bump, Put}
use Rattle.plan_core.specs.Plan.{Plan, cell, in_links, is_bump, link}
use Rattle.plan_core.specs.Sound.{AreInputsOf, SoundPlan}
use Rattle.plan_core.specs.Values.{Inputs}
use Rattle.plan_core.specs.calls.RankOps.{RankOp, rank_ops}
use Rattle.plan_judge.specs.Guards.{AreGuarded, guarded_below, is_guard, is_guarded}
use Rattle.plan_judge.proofs.Guarding.{guarded_at}
use Rattle.mark_judge.specs.Bound.{IsBound}
use Rattle.mark_judge.specs.Bound.IsBound.{bump as by_bump, go as as_go, message as by_message}
use Rattle.mark_judge.proofs.Tests.{any-In}
use Rattle.cuts.proofs.histories.FromCut.{came_all, machine_cut, moves_at, prepared_of}
use Rattle.cuts.proofs.histories.Origin.{IsOf, after_of}
use Rattle.cuts.proofs.histories.RunTraffic.{has_start}
use Rattle.cuts.proofs.histories.Runs.{nothing_raised, run_moves, unraised_work}
use Rattle.cuts.proofs.histories.Simulate.{did, numbered, work_numbered}
use Rattle.cuts.proofs.histories.Traffic.{own_received, to_came}
use Rattle.cuts.proofs.histories.Shape.{shape}
use Rattle.cuts.proofs.machine.Central.{ours_nothing, ours_seen}
use Rattle.cuts.proofs.machine.Reached.{all_in, bumped_to, bumped_to-In, came_to, came_to-In}
use Rattle.cuts.proofs.view.StepFire.{lookup_counter}
use Rattle.cuts.specs.cells.Cells.{AreCellsInOrder}
use Rattle.cuts.specs.histories.Cut.{IsCut, is_stray}
use Rattle.cuts.specs.histories.History.{Beginning, Legal, Local, after, is_start}
use Rattle.cuts.specs.histories.History.Local.{Fire, Receive, Start}
use Rattle.cuts.specs.histories.Plans.{CounterReached, start_of, system_of}
use Rattle.cuts.specs.histories.System.{Histories, state_at}
use Rattle.cuts.specs.machine.Machine.{HasReached, Leads, all_seen, note, seen}
use Rattle.cuts.specs.machine.Machine.Leads.{along, here}
use Rattle.cuts.specs.machine.Machine.Move.{Heard, Strayed}
use Rattle.cuts.specs.machine.Seen.{Came, Seen, nothing_seen, reached_count}
use Rattle.cuts.specs.view.Calls.{prepare}
use Rattle.cuts.specs.view.Slots.{Slots, cell_ct}
use Rattle.cuts.specs.view.TriggeredOps.{operation}
use Rattle.cuts.proofs.view.Tables.{find-In}
use Rattle.ptl_types.specs.declared.headers.Lane.TheVariants.{Answer, Request}

-- ---- a guarded cell
pub bump-is : (k : LinkKind) → is_bump k ≡ true → k ≡ Bump
bump-is Bump e = refl
bump-is Put e = cc
bump-is Atomic e = cc

-- links lead to it from the go cell of its rank
guard_within : (p : Plan) (inputs : ℕ) → SoundPlan p inputs → (n c : ℕ) → c < n → is_guarded p c ≡ true → Leads p (cell p c).rank c
guard_within p inputs sound zero c h g = absurd (omega arith)
guard_within p inputs sound (suc n) c h g =
    let f = any-In (is_guard p (guarded_below p c) c) (in_links p c) g in
    let l = f.0 in
    let s = (link p l).source in
    let k = and_parts (is_bump (link p l).kind) ((s == (cell p c).rank) || get_or (guarded_below p c) s false) f.2 in
    let i = in_links-In p c l f.1 in
    let sl = sound.links_sound l i.0 in
    let up = sl.rising in
    let e = i.1 in
    let below : s < c = omega (arith, up, e) in
    let same : (cell p s).rank ≡ (cell p c).rank = sl.bump_stays (bump-is (link p l).kind k.0) ∙ ap (λ d. (cell p d).rank) e in
    along c l f.1
    (elim (or_cases (s == (cell p c).rank) (get_or (guarded_below p c) s false) k.1) [
      | inl q ↦ subst (λ d. Leads p d s) (eqb-true s (cell p c).rank q) here
      | inr q ↦ subst (λ d. Leads p d s) same (guard_within p inputs sound n s (omega (arith, below, h)) (sym (guarded_at p c s below) ∙ q))
    ])

pub guard_leads : (p : Plan) (inputs : ℕ) → SoundPlan p inputs → (c : ℕ) → is_guarded p c ≡ true → Leads p (cell p c).rank c
guard_leads p inputs sound c g = guard_within p inputs sound (suc c) c (omega arith) g

-- ---- a go cell
-- what is fired is an operation of the plan
fired_work : (p : Plan) (s : Slots) (r t : ℕ) (v : State) → IsOf p s r v → is_ready v t ≡ true
    → (w : RankOp) × In w (rank_ops p r) × (work_numbered p r t ≡ Some w)
fired_work p s r t v h e = at (posted_at t v.pending) refl e
  where
    at : (o : Option Posted) → posted_at t v.pending ≡ o → is_ready_op v.cts o ≡ true
        → (w : RankOp) × In w (rank_ops p r) × (work_numbered p r t ≡ Some w)
    at None q e = cc
    at (Some x) q e =
        let f = find-In (is_number t) v.pending.waiting x q in
        let k = In-map_cases (operation p s r) x (rank_ops p r) (h.pending x f.0) in
        (k.0, k.1, numbered p r t k.0 k.1 (ap (λ (y : Posted). y.number) k.2 ∙ eqb-true _ _ f.1))

-- before a start nothing raises the go counter
go_unraised : (p : Plan) (inputs : Inputs) → SoundPlan p (length inputs) → (r : ℕ) → r < p.ranks → (s : Slots) (go : Beginning)
    (es : List Local) (early : List Came) (g : Seen) (b : Bool) (v : State) → IsOf p s r v → Legal go b v es → has_start es ≡ false
    → reached_count p g r r ≡ 0 → reached_count p (seen p g (run_moves p r early es)) r r ≡ 0
go_unraised p inputs sound r h s go [] early g b v is legal none e = e
go_unraised p inputs sound r h s go (Start ∷ es) early g b v is legal none e = cc
go_unraised p inputs sound r h s go (Receive x Answer m ∷ es) early g b v is legal none e =
    go_unraised p inputs sound r h s go es early (note p g (Heard m.header.ok)) (b || false) (after go v (Receive x Answer m))
    (after_of p s r go v (Receive x Answer m) is) legal.1 none e
go_unraised p inputs sound r h s go (Receive x Request m ∷ es) early g b v is legal none e =
    at (is_stray m)
    (go_unraised p inputs sound r h s go es early (note p g Strayed) (b || false) (after go v (Receive x Request m))
    (after_of p s r go v (Receive x Request m) is) legal.1 none e)
    (go_unraised p inputs sound r h s go es (early ++ to_came m ∷ []) g (b || false) (after go v (Receive x Request m))
    (after_of p s r go v (Receive x Request m) is) legal.1 none e)
  where
    at : (t : Bool) → reached_count p (seen p (note p g Strayed) (run_moves p r early es)) r r ≡ 0
        → reached_count p (seen p g (run_moves p r (early ++ to_came m ∷ []) es)) r r ≡ 0
        → reached_count p (seen p g (cond t (Strayed ∷ run_moves p r early es) (run_moves p r (early ++ to_came m ∷ []) es))) r r ≡ 0
    at true x y = x
    at false x y = y
go_unraised p inputs sound r h s go (Fire t ∷ es) early g b v is legal none e =
    let w = fired_work p s r t v is legal.0 in
    go_unraised p inputs sound r h s go es early (note p g (did (work_numbered p r t))) (b || false) (after go v (Fire t))
    (after_of p s r go v (Fire t) is) legal.1 none
    (subst (λ (o : Option RankOp). reached_count p (note p g (did o)) r r ≡ 0) (sym w.2) (unraised_work p inputs sound r h g w.0 w.1 ∙ e))

started_counts : (es : List Local) → has_start es ≡ true → 1 ≤ count_by is_start es
started_counts [] h = cc
started_counts (Start ∷ es) h = let e = count-cons is_start Start es in omega (arith, e)
started_counts (Fire t ∷ es) h = let k = started_counts es h in let e = count-cons is_start (Fire t) es in omega (arith, e, k)
started_counts (Receive s l m ∷ es) h =
    let k = started_counts es h in let e = count-cons is_start (Receive s l m) es in omega (arith, e, k)

same_count : (a : ℕ) (b : Count) → Some (successes a) ≡ Some b → a + 0 ≡ b.success + b.failure
same_count a b e = ap (λ (o : Option Count). elim o [ Some c ↦ c.success + c.failure | None ↦ 0 ]) e

module _ (p : Plan) (inputs : Inputs) (sound : SoundPlan p (length inputs)) (fit : AreInputsOf p inputs) (slots : ℕ → Slots)
    (w : Histories) (cut : IsCut (system_of p inputs slots) w) where
  counter_is : (c : ℕ) → c < length p.cells → lookup (cell_ct p (slots (cell p c).rank) c)
      (state_at (system_of p inputs slots) w (cell p c).rank).cts.live ≡ Some
      (successes (min (reached_count p (all_seen p (moves_at p w) (cell p c).rank) (cell p c).rank c) top))
  counter_is c h =
      ap (λ (t : Table Count). lookup (cell_ct p (slots (cell p c).rank) c) t.live)
      (shape combined-starts p inputs sound fit slots w cut (cell p c).rank (sound.ranks_known c h)).cts
      ∙ lookup_counter (shape combined-starts p inputs sound fit slots w cut (cell p c).rank (sound.ranks_known c h)).annex p inputs
      (slots (cell p c).rank) (cell p c).rank (all_seen p (moves_at p w) (cell p c).rank) c (In-own p (cell p c).rank c h refl)

  to_machine : (c : ℕ) → c < length p.cells → CounterReached p inputs slots w c → HasReached p (moves_at p w) c
  to_machine c h k =
      let e = same_count _ _ (sym (counter_is c h) ∙ k.counter) in
      let m = k.enough in
      omega (arith, e, m)

  -- where it has reached its needs its rank has started
  pub go_begun : (r : ℕ) → r < p.ranks → CounterReached p inputs slots w r → 0 < count_by is_start (w r)
  go_begun r h k = elim (cases_Bool (has_start (w r))) [
    | inl e ↦ let n = started_counts (w r) e in omega (arith, n)
    | inr e ↦ absurd (
        let q = sound.go_needs r h in
        let inside = sound.all_go in
        let n : (cell p r).needs ≤ reached_count p (all_seen p (moves_at p w) r) r r =
        subst (λ d. (cell p r).needs ≤ reached_count p (all_seen p (moves_at p w) d) d r) q.2 (to_machine r (omega (arith, h, inside)) k) in
        let z = go_unraised p inputs sound r h (slots r) (start_of p (slots r) r) (w r) [] nothing_seen false
        (prepare p inputs (slots r) r) (prepared_of p inputs sound (slots r) r) (cut.legal r h) e (nothing_raised p r r) in
        omega (arith, n, q.0, z))
  ]

  -- ---- the cell of an input
  pub input_begun : AreCellsInOrder p inputs slots w → AreGuarded p (length inputs) → (b r : ℕ) → b < length inputs → r < p.ranks
      → CounterReached p inputs slots w (p.ranks + (b * p.ranks + r)) → 0 < count_by is_start (w r)
  input_begun order guarded b r hb hr k =
      let i = b * p.ranks + r in
      let few = before-end p.ranks (length inputs) b r (record { row = hb; place = hr }) in
      let at = sound.input_cells i few in
      let on : (cell p (p.ranks + i)).rank ≡ r = at.2 ∙ mod-mul-add b p.ranks r hr in
      let path : Leads p r (p.ranks + i) =
      subst (λ d. Leads p d (p.ranks + i)) on (guard_leads p (length inputs) sound (p.ranks + i) (guarded i few)) in
      let inside = sound.all_go in
      go_begun r hr (order r (p.ranks + i) (omega (arith, hr, inside)) at.0 path k)

  -- ---- where barriers are entered
  -- a cell to which a message comes
  message_begun : (c l : ℕ) → c < length p.cells → In l (in_links p c) → is_bump (link p l).kind ≡ false
      → CounterReached p inputs slots w c → 0 < count_by is_start (w (cell p c).rank)
  message_begun c l hc i sends k =
      let in_range = sound.ranks_known c hc in
      let machine = machine_cut combined-starts p inputs sound fit slots w cut in
      let all = all_in p inputs sound r c g in_range hc (machine.proper r in_range)
      (ours_seen p r (moves_at p w r) nothing_seen (ours_nothing p r) (machine.moves r in_range)) (to_machine c hc k) l i in
      elim (In-append_cases l (came_to p c g.came) (bumped_to p c g.fired) all) [
        | inl j ↦ (let a = came_to-In p c g.came l j in
            came (has_start (w r)) refl a.0
            (subst (λ xs. In a.0 xs) (came_all combined-starts p inputs sound fit slots w cut r) a.1))
        | inr j ↦ absurd (let e = sym sends ∙ (bumped_to-In p c g.fired l j).1 in let clash : ⊥ = cc in clash)
      ]
    where
      r : ℕ
      r = (cell p c).rank

      g : Seen
      g = all_seen p (moves_at p w) r

      came : (b : Bool) → has_start (w r) ≡ b → (a : Came) → In a (cond b (map to_came (own_received Request (w r))) [])
          → 0 < count_by is_start (w r)
      came true e a j = let n = started_counts (w r) e in omega (arith, n)
      came false e a j = absurd j

  -- or bumps from such cells alone
  pub entry_begun : AreCellsInOrder p inputs slots w → (c : ℕ) → c < length p.cells → IsBound p c
      → CounterReached p inputs slots w c → 0 < count_by is_start (w (cell p c).rank)
  entry_begun order c hc (as_go r h) k = subst (λ d. 0 < count_by is_start (w d)) (sym (sound.go_needs r h).2) (go_begun r h k)
  entry_begun order c hc (by_message d l i sends) k = message_begun d l hc i sends k
  entry_begun order c hc (by_bump d l i counts b) k =
      let s = (link p l).source in
      let known = in_links-In p d l i in
      let sl = sound.links_sound l known.0 in
      let up = sl.rising in
      let at = known.1 in
      let low : s < length p.cells = omega (arith, up, at, hc) in
      let same : (cell p s).rank ≡ (cell p d).rank = sl.bump_stays (bump-is (link p l).kind counts) ∙ ap (λ e. (cell p e).rank) at in
      subst (λ e. 0 < count_by is_start (w e)) same (entry_begun order s low b (order s d low hc (along d l i here) k))
