-- The central theorem, over the machine of a plan: no message, handle, match bit or time occurs in it.
use Rattle.std.proofs.Common.{ℕ, zero, suc, Bool, true, false, cond, ◌≡◌, ◌≤◌, ◌<◌, ◌⊎◌, ◌==◌, List, [], ◌∷◌, ◌++◌, refl, length, ap, ◌∙◌}
use Rattle.std.proofs.Common.{sym, subst, inl, inr, arith, map, eq-eqb}
use Rattle.std.proofs.lemmas.Bool.{cases_lt}
use Rattle.std.proofs.lemmas.List.{map-append}
use Rattle.plan_core.specs.Members.{Distinct, In, Within}
use Rattle.op_laws.specs.Combining.{CombineSwaps}
use Rattle.plan_core.specs.Plan.{Plan, cell, in_links, is_bump, link}
use Rattle.plan_core.specs.declared.LinkKind.{LinkKind}
use Rattle.plan_core.specs.Sound.{AreInputsOf, SoundPlan}
use Rattle.plan_core.specs.Values.{Inputs, carried_of, initial, value, due}
use Rattle.plan_core.specs.declared.LinkKind.TheVariants.{Atomic, Bump, Put}
use Rattle.cuts.specs.machine.Seen.{Came, Seen, content, nothing_seen, reached_count, was_fired}
use Rattle.plan_core.specs.calls.RankOps.{RankOp, rank_ops}
use Rattle.plan_core.specs.calls.RankOps.RankOp.{ForLink, ForDone}
use Rattle.cuts.specs.machine.Machine.{IsMachineCut, IsMachineRest, MayMove, Move, Moves, Proper, all_seen, came, link_of, note, note_work}
use Rattle.cuts.specs.machine.Machine.{out_of, outs, seen, sending, source_rank}
use Rattle.cuts.specs.machine.Machine.Move.{Began, Did, Heard, Strayed, Took}
use Rattle.plan_core.proofs.Lists.{Distinct_left, In-append_cases, In-append_left, In-append_right, length-Within}
use Rattle.plan_core.proofs.Links.{Distinct-in_links, In-out_links, in_links-In, out_links-In, own-In}
use Rattle.cuts.proofs.machine.RankOps.{In-works_along, rank_ops-along, rank_ops-tell}
use Rattle.cuts.proofs.machine.Reached.{Good, In-bumped_to, In-came_to, In-fired, Ours, bumped_to, came_to, count_unless_go, fired-In}
use Rattle.cuts.proofs.machine.Reached.{holds_value, length-reached_by, reached_by}

-- ---- what is true at the end was true before
came_more : (p : Plan) (g : Seen) (m : Move) (a : Came) → In a g.came → In a (note p g m).came
came_more p g Began a h = h
came_more p g (Took l bytes) a h = In-append_left a g.came (came l bytes ∷ []) h
came_more p g (Did (ForLink l)) a h = h
came_more p g (Did (ForDone c)) a h = h
came_more p g (Heard ok) a h = h
came_more p g Strayed a h = h

came_seen : (p : Plan) (ms : List Move) (g : Seen) (a : Came) → In a g.came → In a (seen p g ms).came
came_seen p [] g a h = h
came_seen p (m ∷ ms) g a h = came_seen p ms (note p g m) a (came_more p g m a h)

once_before : (p : Plan) (g : Seen) (m : Move) → Distinct (map link_of (note p g m).came) → Distinct (map link_of g.came)
once_before p g Began d = d
once_before p g (Took l bytes) d = Distinct_left (map link_of g.came) (l ∷ [])
    (subst Distinct (map-append link_of g.came (came l bytes ∷ [])) d)
once_before p g (Did (ForLink l)) d = d
once_before p g (Did (ForDone c)) d = d
once_before p g (Heard ok) d = d
once_before p g Strayed d = d

once_seen : (p : Plan) (ms : List Move) (g : Seen) → Distinct (map link_of (seen p g ms).came) → Distinct (map link_of g.came)
once_seen p [] g d = d
once_seen p (m ∷ ms) g d = once_before p g m (once_seen p ms (note p g m) d)

proper_before : (p : Plan) (r : ℕ) (ms : List Move) (g : Seen) → Proper p r (seen p g ms) → Proper p r g
proper_before p r ms g h = record { links = λ a i. h.links a (came_seen p ms g a i); once = once_seen p ms g h.once }

good_before : (p : Plan) (inputs : Inputs) (c : ℕ) (ms : List Move) (g : Seen) → Good p inputs c (seen p g ms) → Good p inputs c g
good_before p inputs c ms g h a i e = h a (came_seen p ms g a i) e

-- what was fired is the rank's, each once
pub fired_note : (p : Plan) (g : Seen) (w : RankOp) → (note_work p g w).fired ≡ w ∷ g.fired
fired_note p g (ForLink l) = refl
fired_note p g (ForDone c) = refl

ours_after : (p : Plan) (r : ℕ) (g : Seen) (m : Move) → Ours p r g.fired → MayMove p r g m → Ours p r (note p g m).fired
ours_after p r g (Did w) mine may = subst (Ours p r) (sym (fired_note p g w)) (record {
  ours = λ v h. elim h [ inl e ↦ subst (λ u. In u (rank_ops p r)) e may.0 | inr i ↦ mine.ours v i ];
  once = ((λ h. both may.1 (In-fired g.fired w h)), mine.once);
})
  where
    both : {b : Bool} → b ≡ false → b ≡ true → ⊥
    both e i = cc
ours_after p r g Began mine may = mine
ours_after p r g (Took l bytes) mine may = mine
ours_after p r g (Heard ok) mine may = mine
ours_after p r g Strayed mine may = mine

pub ours_seen : (p : Plan) (r : ℕ) (ms : List Move) (g : Seen) → Ours p r g.fired → Moves p r g ms → Ours p r (seen p g ms).fired
ours_seen p r [] g mine h = mine
ours_seen p r (m ∷ ms) g mine h = ours_seen p r ms (note p g m) (ours_after p r g m mine h.0) h.1

pub ours_nothing : (p : Plan) (r : ℕ) → Ours p r nothing_seen.fired
ours_nothing p r = record { ours = λ v h. absurd h; once = tt }

-- ---- what is sent from a cell is what its value says
pub outs_good : CombineSwaps → (p : Plan) (inputs : Inputs) → SoundPlan p (length inputs) → AreInputsOf p inputs
    → (r n : ℕ) → r < p.ranks → (ms : List Move) (g : Seen) → Moves p r g ms → Ours p r g.fired → Proper p r (seen p g ms) →
    ((c : ℕ) → c < n → Good p inputs c (seen p g ms))
    → (a : Came) → In a (outs p inputs g ms) → (link p a.link).source < n → a.bytes ≡ due p inputs a.link
outs_good swaps p inputs sound fit r n in_range [] g moves mine proper good a h l = absurd h
outs_good swaps p inputs sound fit r n in_range (m ∷ ms) g moves mine proper good a h l =
    elim (In-append_cases a (out_of p inputs g m) (outs p inputs (note p g m) ms) h) [
      | inl i ↦ first m moves.0 (proper_before p r (m ∷ ms) g proper) (λ c k. good_before p inputs c (m ∷ ms) g (good c k)) i
      | inr i ↦ outs_good swaps p inputs sound fit r n in_range ms (note p g m) moves.1 (ours_after p r g m mine moves.0) proper good a i l
    ]
  where
    along : (k : ℕ) → MayMove p r g (Did (ForLink k)) → Proper p r g → ((c : ℕ) → c < n → Good p inputs c g) → (b : Bool) →
        In a (cond b [] (sending p inputs g k ∷ [])) → a.bytes ≡ due p inputs a.link
    along k may here fine true i = absurd i
    along k may here fine false (inr i) = absurd i
    along k may here fine false (inl e) =
        let q = out_links-In p r k (rank_ops-along p r k may.0) in
        let s = sound.links_sound k q.0 in
        let up = s.rising in
        let top = s.cells in
        let below : (link p k).source < n = subst (λ v. (link p v).source < n) (sym (ap link_of e)) l in
        let v = holds_value swaps p inputs sound fit r (link p k).source g in_range (omega arith) here mine (fine (link p k).source below)
        may.2 in
        subst (λ (x : Came). x.bytes ≡ due p inputs x.link) e (ap (λ x. carried_of p x k) v)

    first : (m : Move) → MayMove p r g m → Proper p r g → ((c : ℕ) → c < n → Good p inputs c g) → In a (out_of p inputs g m) →
        a.bytes ≡ due p inputs a.link
    first (Did (ForLink k)) may here fine i = along k may here fine (is_bump (link p k).kind) i
    first (Did (ForDone c)) may here fine i = absurd i
    first Began may here fine i = absurd i
    first (Took k bytes) may here fine i = absurd i
    first (Heard ok) may here fine i = absurd i
    first Strayed may here fine i = absurd i

-- ---- so what comes anywhere is right, by the number of the cell that it comes to
good_below : CombineSwaps → (p : Plan) (inputs : Inputs) → SoundPlan p (length inputs) → AreInputsOf p inputs
    → (ms : ℕ → List Move) → IsMachineCut p inputs ms → (n r c : ℕ) → r < p.ranks → c < n → Good p inputs c (all_seen p ms r)
good_below swaps p inputs sound fit ms cut zero r c in_range h a i e = absurd (omega arith)
good_below swaps p inputs sound fit ms cut (suc n) r c in_range h a i e =
    let k = (cut.proper r in_range).links a i in
    let s = sound.links_sound a.link k.0 in
    let up = s.rising in
    let top = s.cells in
    let t = sound.ranks_known (link p a.link).source (omega arith) in
    outs_good swaps p inputs sound fit (source_rank p a.link) n t (ms (source_rank p a.link)) nothing_seen
    (cut.moves (source_rank p a.link) t) (ours_nothing p (source_rank p a.link)) (cut.proper (source_rank p a.link) t)
    (λ d l. good_below swaps p inputs sound fit ms cut n (source_rank p a.link) d t l)
    a (cut.made r a in_range i) (omega arith)

pub all_good : CombineSwaps → (p : Plan) (inputs : Inputs) → SoundPlan p (length inputs) → AreInputsOf p inputs
    → (ms : ℕ → List Move) → IsMachineCut p inputs ms → (r c : ℕ) → r < p.ranks → Good p inputs c (all_seen p ms r)
all_good swaps p inputs sound fit ms cut r c in_range = good_below swaps p inputs sound fit ms cut (suc c) r c in_range (omega arith)

-- in every cut, a cell whose counter has reached its needs holds its value
pub cut_holds : CombineSwaps → (p : Plan) (inputs : Inputs) → SoundPlan p (length inputs) → AreInputsOf p inputs
    → (ms : ℕ → List Move) → IsMachineCut p inputs ms → (r c : ℕ) → r < p.ranks → c < length p.cells
    → (cell p c).needs ≤ reached_count p (all_seen p ms r) r c → content p (all_seen p ms r).came c (initial p inputs c) ≡ value p inputs c
cut_holds swaps p inputs sound fit ms cut r c in_range h n =
    holds_value swaps p inputs sound fit r c (all_seen p ms r) in_range h (cut.proper r in_range)
    (ours_seen p r (ms r) nothing_seen (ours_nothing p r) (cut.moves r in_range))
    (all_good swaps p inputs sound fit ms cut r c in_range) n

-- ---- at rest every cell has reached its needs

-- what was fired along a link that isn't a bump was sent
pub sent_along : (p : Plan) (inputs : Inputs) (ms : List Move) (g : Seen) (l : ℕ) → is_bump (link p l).kind ≡ false →
    In (ForLink l) (seen p g ms).fired → In (ForLink l) g.fired ⊎ ((a : Came) × In a (outs p inputs g ms) × (a.link ≡ l))
sent_along p inputs [] g l b h = inl h
sent_along p inputs (m ∷ ms) g l b h = elim (sent_along p inputs ms (note p g m) l b h) [
  | inr k ↦ inr (k.0, In-append_right k.0 (out_of p inputs g m) (outs p inputs (note p g m) ms) k.1, k.2)
  | inl i ↦ now m i
]
  where
    here : (w : RankOp) → w ≡ ForLink l → In (sending p inputs g l) (out_of p inputs g (Did w))
    here w e = rw e (rw b (inl refl))

    now : (m : Move) → In (ForLink l) (note p g m).fired → In (ForLink l) g.fired ⊎
        ((a : Came) × In a (out_of p inputs g m ++ outs p inputs (note p g m) ms) × (a.link ≡ l))
    now (Did w) h = elim (subst (λ vs. In (ForLink l) vs) (fired_note p g w) h) [
      | inl e ↦ inr (
        sending p inputs g l,
        In-append_left (sending p inputs g l) (out_of p inputs g (Did w))
            (outs p inputs (note p g (Did w)) ms) (here w e),
        refl,
      )
      | inr i ↦ inl i
    ]
    now Began i = inl i
    now (Took k bytes) i = inl i
    now (Heard ok) i = inl i
    now Strayed i = inl i

-- one cell, from those before it
reached_next : (p : Plan) (inputs : Inputs) → SoundPlan p (length inputs) → (ms : ℕ → List Move) → IsMachineRest p inputs ms
    → (c : ℕ) → c < length p.cells
    → ((d : ℕ) → d < c → (cell p d).needs ≤ reached_count p (all_seen p ms (cell p d).rank) (cell p d).rank d)
    → (cell p c).needs ≤ reached_count p (all_seen p ms (cell p c).rank) (cell p c).rank c
reached_next p inputs sound ms rest c h before = elim (cases_lt c p.ranks) [
  | inl l ↦ (let q = sound.go_needs c l in
      let s = rest.started c l in
      rw q.2 (go_done q.0 s))
  | inr l ↦ (let e = sound.needs c h l in
      let k = count_unless_go p (all_seen p ms (cell p c).rank) (cell p c).rank c (let r = sound.ranks_known c h in omega arith) in
      let q = length-reached_by p c (all_seen p ms (cell p c).rank) in
      let i = length-Within (in_links p c) (reached_by p c (all_seen p ms (cell p c).rank)) (Distinct-in_links p c) arrived in
      omega arith)
]
  where
    go_done : (cell p c).needs ≡ 1 → (all_seen p ms c).started ≡ true → (cell p c).needs ≤ reached_count p (all_seen p ms c) c c
    go_done n s = let e : (c == c) ≡ true = eq-eqb c c refl in rw (e, s) (omega arith)

    -- each incoming link has been fired
    fired : (l : ℕ) → In l (in_links p c) → was_fired (all_seen p ms (source_rank p l)).fired (ForLink l) ≡ true
    fired l i =
        let k = in_links-In p c l i in
        let s = sound.links_sound l k.0 in
        let up = s.rising in
        let top = s.cells in
        let t : (link p l).target ≡ c = k.1 in
        rest.idle (source_rank p l) (ForLink l) (sound.ranks_known (link p l).source (omega arith))
        (In-works_along p (source_rank p l) l (In-out_links p (source_rank p l) l k.0 refl)) (before (link p l).source (omega arith))

    arrived_as : (l : ℕ) → In l (in_links p c) → (b : Bool) → is_bump (link p l).kind ≡ b →
        In l (reached_by p c (all_seen p ms (cell p c).rank))
    arrived_as l i true b =
        let k = in_links-In p c l i in
        let s = sound.links_sound l k.0 in
        let r : source_rank p l ≡ (cell p c).rank = s.bump_stays (bump_kind (link p l).kind b) ∙ ap (λ d. (cell p d).rank) k.1 in
        let f : In (ForLink l) (all_seen p ms (cell p c).rank).fired = subst (λ v. In (ForLink l) (all_seen p ms v).fired) r
        (fired-In (all_seen p ms (source_rank p l)).fired (ForLink l) (fired l i)) in
        In-append_right l (came_to p c (all_seen p ms (cell p c).rank).came) (bumped_to p c (all_seen p ms (cell p c).rank).fired)
        (In-bumped_to p c (all_seen p ms (cell p c).rank).fired l f b k.1)
      where
        bump_kind : (k : LinkKind) → is_bump k ≡ true → k ≡ Bump
        bump_kind Bump e = refl
        bump_kind Put e = cc
        bump_kind Atomic e = cc
    arrived_as l i false b =
        let k = in_links-In p c l i in
        let f = fired-In (all_seen p ms (source_rank p l)).fired (ForLink l) (fired l i) in
        elim (sent_along p inputs (ms (source_rank p l)) nothing_seen l b f) [
          | inl z ↦ absurd z
          | inr o ↦ took o.0 o.1 o.2 k.1 k.0
        ]
      where
        took : (a : Came) → In a (outs p inputs nothing_seen (ms (source_rank p l))) → a.link ≡ l → (link p l).target ≡ c →
            l < length p.links → In l (reached_by p c (all_seen p ms (cell p c).rank))
        took a o e t v =
            let s = sound.links_sound l v in
            let up = s.rising in
            let top = s.cells in
            let j = rest.taken (source_rank p l) a (sound.ranks_known (link p l).source (omega arith)) o in
            let tt' : (link p a.link).target ≡ c = ap (λ m. (link p m).target) e ∙ t in
            let j' : In a (all_seen p ms (cell p c).rank).came = subst (λ d. In a (all_seen p ms (cell p d).rank).came) tt' j in
            In-append_left l (came_to p c (all_seen p ms (cell p c).rank).came) (bumped_to p c (all_seen p ms (cell p c).rank).fired)
            (subst (λ m. In m (came_to p c (all_seen p ms (cell p c).rank).came)) e
            (In-came_to p c (all_seen p ms (cell p c).rank).came a j' tt'))

    arrived : Within (in_links p c) (reached_by p c (all_seen p ms (cell p c).rank))
    arrived l i = arrived_as l i (is_bump (link p l).kind) refl

reached_below : (p : Plan) (inputs : Inputs) → SoundPlan p (length inputs) → (ms : ℕ → List Move) → IsMachineRest p inputs ms
    → (n c : ℕ) → c < n → c < length p.cells → (cell p c).needs ≤ reached_count p (all_seen p ms (cell p c).rank) (cell p c).rank c
reached_below p inputs sound ms rest zero c h k = absurd (omega arith)
reached_below p inputs sound ms rest (suc n) c h k = reached_next p inputs sound ms rest c k
    (λ d l. reached_below p inputs sound ms rest n d (omega arith) (omega arith))

pub rest_reaches : (p : Plan) (inputs : Inputs) → SoundPlan p (length inputs) → (ms : ℕ → List Move) → IsMachineRest p inputs ms
    → (c : ℕ) → c < length p.cells → (cell p c).needs ≤ reached_count p (all_seen p ms (cell p c).rank) (cell p c).rank c
rest_reaches p inputs sound ms rest c h = reached_below p inputs sound ms rest (suc c) c (omega arith) h

-- every operation of a rank was fired
pub rest_fires : (p : Plan) (inputs : Inputs) → SoundPlan p (length inputs) → (ms : ℕ → List Move) → IsMachineRest p inputs ms
    → (r : ℕ) → r < p.ranks → (w : RankOp) → In w (rank_ops p r) → was_fired (all_seen p ms r).fired w ≡ true
rest_fires p inputs sound ms rest r in_range (ForLink l) h =
    let k = out_links-In p r l (rank_ops-along p r l h) in
    let s = sound.links_sound l k.0 in
    let up = s.rising in
    let top = s.cells in
    rest.idle r (ForLink l) in_range h (subst (λ v. (cell p (link p l).source).needs ≤ reached_count p (all_seen p ms v) v
    (link p l).source) k.1 (rest_reaches p inputs sound ms rest (link p l).source (omega arith)))
rest_fires p inputs sound ms rest r in_range (ForDone c) h =
    let k = own-In p r c (rank_ops-tell p r c h) in
    rest.idle r (ForDone c) in_range h (subst (λ v. (cell p c).needs ≤ reached_count p (all_seen p ms v) v c) k.1
    (rest_reaches p inputs sound ms rest c k.0))

-- each cell holds its value
pub rest_values : CombineSwaps → (p : Plan) (inputs : Inputs) → SoundPlan p (length inputs) → AreInputsOf p inputs
    → (ms : ℕ → List Move) → IsMachineCut p inputs ms → IsMachineRest p inputs ms
    → (c : ℕ) → c < length p.cells → content p (all_seen p ms (cell p c).rank).came c (initial p inputs c) ≡ value p inputs c
rest_values swaps p inputs sound fit ms cut rest c h =
    cut_holds swaps p inputs sound fit ms cut (cell p c).rank c (sound.ranks_known c h) h (rest_reaches p inputs sound ms rest c h)
