-- In every cut, a cell that has reached its needs has sources that have reached theirs, and so on down: what barriers rest on.
use Rattle.std.proofs.Common.{ℕ, Bool, true, false, cond, ◌&&◌, ◌≡◌, ◌<◌, ◌≤◌, ◌⊎◌, ◌==◌, List, [], ◌∷◌, refl, length, ap, ◌∙◌, sym, subst}
use Rattle.std.proofs.Common.{inl, inr, arith, count_by, le_trans, le_refl}
use Rattle.plan_core.specs.Members.{In}
use Rattle.plan_core.specs.Plan.{Plan, cell, in_links, is_bump, link}
use Rattle.plan_core.specs.declared.LinkKind.{LinkKind}
use Rattle.plan_core.specs.Sound.{SoundPlan}
use Rattle.plan_core.specs.declared.LinkKind.TheVariants.{Atomic, Bump, Put}
use Rattle.cuts.specs.machine.Seen.{Came, Seen, bumps, nothing_seen, reached_count, to_cell}
use Rattle.plan_core.specs.calls.RankOps.{RankOp, cell_of}
use Rattle.plan_core.specs.calls.RankOps.RankOp.{ForLink, ForDone}
use Rattle.cuts.specs.machine.Machine.{HasReached, IsMachineCut, Leads, MayMove, Move, Moves, all_seen, came, note, out_of, outs, seen}
use Rattle.cuts.specs.machine.Machine.{sending, source_rank}
use Rattle.cuts.specs.machine.Machine.Move.{Began, Did, Heard, Strayed, Took}
use Rattle.cuts.specs.machine.Machine.Leads.{along, here}
use Rattle.plan_core.proofs.Lists.{In-append_cases, count-append, count-cons}
use Rattle.plan_core.proofs.Links.{in_links-In}
use Rattle.cuts.proofs.machine.Reached.{all_in, bumped_to, bumped_to-In, came_to, came_to-In}
use Rattle.cuts.proofs.machine.Central.{fired_note, ours_nothing, ours_seen}
use Rattle.plan_core.specs.Values.{Inputs}

-- a counter never falls
more_cond : (b c : Bool) → cond {A = ℕ} (b && c) 1 0 ≤ cond (b && true) 1 0
more_cond true true = omega arith
more_cond true false = omega arith
more_cond false c = omega arith

count-le-cons : {X : Type 0} (t : X → Bool) (x : X) (xs : List X) → count_by t xs ≤ count_by t (x ∷ xs)
count-le-cons t x xs = let e = count-cons t x xs in omega arith

rises : (p : Plan) (g : Seen) (m : Move) (r c : ℕ) → reached_count p g r c ≤ reached_count p (note p g m) r c
rises p g Began r c = let a = more_cond (c == r) g.started in omega arith
rises p g (Took l bs) r c = let a = count-append (to_cell p c) g.came (came l bs ∷ []) in omega arith
rises p g (Did (ForLink l)) r c = let a = count-le-cons (bumps p c) (ForLink l) g.fired in omega arith
rises p g (Did (ForDone d)) r c = let a = count-le-cons (bumps p c) (ForDone d) g.fired in omega arith
rises p g (Heard ok) r c = le_refl _
rises p g Strayed r c = le_refl _

rises_all : (p : Plan) (ms : List Move) (g : Seen) (r c : ℕ) → reached_count p g r c ≤ reached_count p (seen p g ms) r c
rises_all p [] g r c = le_refl _
rises_all p (m ∷ ms) g r c = le_trans (rises p g m r c) (rises_all p ms (note p g m) r c)

-- what was fired had a cell that had reached its needs
fired_reached : (p : Plan) (r : ℕ) (ms : List Move) (g : Seen) (w : RankOp) → Moves p r g ms → In w (seen p g ms).fired →
    In w g.fired ⊎ ((cell p (cell_of p w)).needs ≤ reached_count p (seen p g ms) r (cell_of p w))
fired_reached p r [] g w h i = inl i
fired_reached p r (m ∷ ms) g w h i = elim (fired_reached p r ms (note p g m) w h.1 i) [
  | inr k ↦ inr k
  | inl j ↦ now m h.0 j
]
  where
    now : (m : Move) → MayMove p r g m → In w (note p g m).fired →
        In w g.fired ⊎ ((cell p (cell_of p w)).needs ≤ reached_count p (seen p (note p g m) ms) r (cell_of p w))
    now Began may j = inl j
    now (Took l bs) may j = inl j
    now (Heard ok) may j = inl j
    now Strayed may j = inl j
    now (Did v) may j = elim (subst (λ us. In w us) (fired_note p g v) j) [
      | inr k ↦ inl k
      | inl e ↦ inr (subst (λ u. (cell p (cell_of p u)).needs ≤ reached_count p (seen p (note p g (Did v)) ms) r (cell_of p u)) e
          (le_trans may.2 (le_trans (rises p g (Did v) r (cell_of p v)) (rises_all p ms (note p g (Did v)) r (cell_of p v)))))
    ]

-- what was sent was fired
fired_more : (p : Plan) (g : Seen) (m : Move) (w : RankOp) → In w g.fired → In w (note p g m).fired
fired_more p g Began w h = h
fired_more p g (Took l bs) w h = h
fired_more p g (Heard ok) w h = h
fired_more p g Strayed w h = h
fired_more p g (Did (ForLink l)) w h = inr h
fired_more p g (Did (ForDone c)) w h = inr h

fired_seen : (p : Plan) (ms : List Move) (g : Seen) (w : RankOp) → In w g.fired → In w (seen p g ms).fired
fired_seen p [] g w h = h
fired_seen p (m ∷ ms) g w h = fired_seen p ms (note p g m) w (fired_more p g m w h)

pub sent_fired : (p : Plan) (inputs : Inputs) (ms : List Move) (g : Seen) (a : Came) → In a (outs p inputs g ms) →
    In (ForLink a.link) (seen p g ms).fired
sent_fired p inputs [] g a h = absurd h
sent_fired p inputs (m ∷ ms) g a h = elim (In-append_cases a (out_of p inputs g m) (outs p inputs (note p g m) ms) h) [
  | inr i ↦ sent_fired p inputs ms (note p g m) a i
  | inl i ↦ first m i
]
  where
    at_link : (l : ℕ) (b : Bool) → In a (cond b [] (sending p inputs g l ∷ [])) →
        In (ForLink a.link) (seen p (note p g (Did (ForLink l))) ms).fired
    at_link l true i = absurd i
    at_link l false (inr i) = absurd i
    at_link l false (inl e) = fired_seen p ms (note p g (Did (ForLink l))) (ForLink a.link) (inl (ap (λ (x : Came). ForLink x.link) e))

    first : (m : Move) → In a (out_of p inputs g m) → In (ForLink a.link) (seen p (note p g m) ms).fired
    first (Did (ForLink l)) i = at_link l (is_bump (link p l).kind) i
    first (Did (ForDone c)) i = absurd i
    first Began i = absurd i
    first (Took l bs) i = absurd i
    first (Heard ok) i = absurd i
    first Strayed i = absurd i

-- cell c of its rank has reached its needs
pub sources_reached : (p : Plan) (inputs : Inputs) → SoundPlan p (length inputs) → (ms : ℕ → List Move) → IsMachineCut p inputs ms
    → (c : ℕ) → c < length p.cells → HasReached p ms c → (l : ℕ) → In l (in_links p c) → HasReached p ms (link p l).source
sources_reached p inputs sound ms cut c h n l i =
    let r = (cell p c).rank in
    let in_range = sound.ranks_known c h in
    let k = in_links-In p c l i in
    let s = sound.links_sound l k.0 in
    let up = s.rising in
    let top = s.cells in
    let source_in = sound.ranks_known (link p l).source (omega arith) in
    let all = all_in p inputs sound (cell p c).rank c (all_seen p ms (cell p c).rank) in_range h (cut.proper (cell p c).rank in_range)
    (ours_seen p (cell p c).rank (ms (cell p c).rank) nothing_seen (ours_nothing p (cell p c).rank) (cut.moves (cell p c).rank in_range))
    n l i in
    elim (In-append_cases l (came_to p c (all_seen p ms (cell p c).rank).came) (bumped_to p c (all_seen p ms (cell p c).rank).fired) all) [
      | inl j ↦ (let a = came_to-In p c (all_seen p ms (cell p c).rank).came l j in
          let o = cut.made (cell p c).rank a.0 in_range a.1 in
          let o' : In a.0 (outs p inputs nothing_seen (ms (source_rank p l))) =
          subst (λ m. In a.0 (outs p inputs nothing_seen (ms (source_rank p m)))) a.2 o in
          let f : In (ForLink l) (all_seen p ms (source_rank p l)).fired =
          subst (λ m. In (ForLink m) (all_seen p ms (source_rank p l)).fired) a.2
          (sent_fired p inputs (ms (source_rank p l)) nothing_seen a.0 o') in
          by_firing (source_rank p l) source_in f)
      | inr j ↦ (let b = bumped_to-In p c (all_seen p ms (cell p c).rank).fired l j in
          let same : source_rank p l ≡ (cell p c).rank = s.bump_stays (bump_kind (link p l).kind b.1) ∙ ap (λ d. (cell p d).rank) k.1 in
          by_firing (source_rank p l) source_in (subst (λ v. In (ForLink l) (all_seen p ms v).fired) (sym same) b.0))
    ]
  where
    bump_kind : (k : LinkKind) → is_bump k ≡ true → k ≡ Bump
    bump_kind Bump e = refl
    bump_kind Put e = cc
    bump_kind Atomic e = cc

    by_firing : (r : ℕ) → r < p.ranks → In (ForLink l) (all_seen p ms r).fired → (cell p (link p l).source).needs ≤ reached_count p
        (all_seen p ms r) r (link p l).source
    by_firing r in_range f = elim (fired_reached p r (ms r) nothing_seen (ForLink l) (cut.moves r in_range) f)
        [ inl z ↦ absurd z | inr k ↦ k ]

pub ancestors_reached : (p : Plan) (inputs : Inputs) → SoundPlan p (length inputs) → (ms : ℕ → List Move) → IsMachineCut p inputs ms
    → (b c : ℕ) → c < length p.cells → Leads p b c → HasReached p ms c → HasReached p ms b
ancestors_reached p inputs sound ms cut b c h here n = n
ancestors_reached p inputs sound ms cut b c h (along d l i path) n =
    let k = in_links-In p d l i in
    let s = sound.links_sound l k.0 in
    let up = s.rising in
    let top = s.cells in
    ancestors_reached p inputs sound ms cut b (link p l).source (omega arith) path (sources_reached p inputs sound ms cut d h n l i)
