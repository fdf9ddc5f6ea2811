-- What was seen stays seen: counts rise, what was told has reached its needs, and a history goes on from what was seen.
use Rattle.std.proofs.Common.{ℕ, Bool, true, false, cond, not, ◌&&◌, ◌||◌, ◌≡◌, ◌≤◌, ◌<◌, ◌==◌, List, [], ◌∷◌, ◌++◌, refl, ap, ◌∙◌, sym}
use Rattle.std.proofs.Common.{subst, inl, inr, arith, count_by, le_trans, le_refl, length, eqb-true, Option, Some, None}
use Rattle.ni_model.specs.Ready.{is_number, is_ready, is_ready_op, posted_at}
use Rattle.ni_model.specs.State.{Posted, State}
use Rattle.plan_core.proofs.Lists.{In-map_cases, count-append, count-cons}
use Rattle.plan_core.specs.Members.{In}
use Rattle.plan_core.specs.Plan.{Plan, cell}
use Rattle.plan_core.specs.Sound.{SoundPlan}
use Rattle.plan_core.specs.Values.{Inputs}
use Rattle.plan_core.specs.calls.RankOps.{RankOp, rank_ops}
use Rattle.plan_core.specs.calls.RankOps.RankOp.{ForLink, ForDone}
use Rattle.cuts.proofs.machine.Central.{fired_note}
use Rattle.cuts.specs.machine.Machine.{MayMove, Move, Moves, came, note, seen}
use Rattle.cuts.specs.machine.Machine.Move.{Began, Did, Heard, Strayed, Took}
use Rattle.cuts.specs.machine.Seen.{Came, Seen, bumps, reached_count, tells, to_cell}
use Rattle.cuts.specs.start.Waiting.{took}
use Rattle.cuts.proofs.histories.Origin.{IsOf, after_of}
use Rattle.cuts.proofs.histories.Runs.{run_moves, seen-took-append, unraised_work}
use Rattle.cuts.proofs.histories.RunTraffic.{has_start}
use Rattle.cuts.proofs.histories.Simulate.{did, move_of, moves_of, numbered, work_numbered}
use Rattle.cuts.proofs.histories.Traffic.{own_received, to_came}
use Rattle.cuts.specs.histories.Cut.{is_stray}
use Rattle.cuts.specs.histories.History.{Beginning, Legal, Local, after, is_start, same_lane}
use Rattle.cuts.specs.histories.History.Local.{Fire, Receive, Start}
use Rattle.cuts.proofs.view.Tables.{find-In}
use Rattle.cuts.specs.view.TriggeredOps.{operation}
use Rattle.cuts.specs.view.Slots.{Slots}
use Rattle.ptl_types.specs.declared.headers.Lane.{Lane}
use Rattle.ptl_types.specs.declared.headers.Lane.TheVariants.{Answer, Request}

-- ---- counts rise
no_less : (b c : Bool) → cond {A = ℕ} (b && c) 1 0 ≤ cond (b && true) 1 0
no_less true true = omega arith
no_less true false = omega arith
no_less false c = omega arith

one_more_is_no_less : {X : Type 0} (t : X → Bool) (x : X) (xs : List X) → count_by t xs ≤ count_by t (x ∷ xs)
one_more_is_no_less t x xs = let e = count-cons t x xs in omega (arith, e)

rises : (p : Plan) (g : Seen) (m : Move) (r c : ℕ) → reached_count p g r c ≤ reached_count p (note p g m) r c
rises p g Began r c = let a = no_less (c == r) g.started in omega (arith, a)
rises p g (Took l bs) r c = let a = count-append (to_cell p c) g.came (came l bs ∷ []) in omega (arith, a)
rises p g (Did (ForLink l)) r c = let a = one_more_is_no_less (bumps p c) (ForLink l) g.fired in omega (arith, a)
rises p g (Did (ForDone d)) r c = let a = one_more_is_no_less (bumps p c) (ForDone d) g.fired in omega (arith, a)
rises p g (Heard ok) r c = le_refl _
rises p g Strayed r c = le_refl _

pub told_rise : (p : Plan) (ms : List Move) (g : Seen) → count_by tells g.fired ≤ count_by tells (seen p g ms).fired
told_rise p [] g = le_refl _
told_rise p (m ∷ ms) g = le_trans (at m) (told_rise p ms (note p g m))
  where
    at : (m : Move) → count_by tells g.fired ≤ count_by tells (note p g m).fired
    at (Did (ForLink l)) = one_more_is_no_less tells (ForLink l) g.fired
    at (Did (ForDone d)) = one_more_is_no_less tells (ForDone d) g.fired
    at Began = le_refl _
    at (Took l bs) = le_refl _
    at (Heard ok) = le_refl _
    at Strayed = le_refl _

-- a cell that was told to the done counter has reached its needs
pub told_reached : (p : Plan) (r c : ℕ) (ms : List Move) (g : Seen) → Moves p r g ms
    → (In (ForDone c) g.fired → (cell p c).needs ≤ reached_count p g r c)
    → In (ForDone c) (seen p g ms).fired → (cell p c).needs ≤ reached_count p (seen p g ms) r c
told_reached p r c [] g may before i = before i
told_reached p r c (m ∷ ms) g may before i = told_reached p r c ms (note p g m) may.1 (now m may.0) i
  where
    told_now : (v : RankOp) → v ≡ ForDone c → MayMove p r g (Did v) → (cell p c).needs ≤ reached_count p g r c
    told_now v e h = (subst (λ u. MayMove p r g (Did u)) e h).2

    now : (m : Move) → MayMove p r g m → In (ForDone c) (note p g m).fired → (cell p c).needs ≤ reached_count p (note p g m) r c
    now Began h j = le_trans (before j) (rises p g Began r c)
    now (Took l bs) h j = le_trans (before j) (rises p g (Took l bs) r c)
    now (Heard ok) h j = le_trans (before j) (rises p g (Heard ok) r c)
    now Strayed h j = le_trans (before j) (rises p g Strayed r c)
    now (Did v) h j = elim (subst (λ us. In (ForDone c) us) (fired_note p g v) j) [
      | inr k ↦ le_trans (before k) (rises p g (Did v) r c)
      | inl e ↦ le_trans (told_now v e h) (rises p g (Did v) r c)
    ]

-- ---- a history in two parts
pub seen-append : (p : Plan) (r : ℕ) (es more : List Local) (early : List Came) (g : Seen) → has_start es ≡ true
    → seen p g (run_moves p r early (es ++ more)) ≡ seen p (seen p g (run_moves p r early es)) (moves_of p r more)
seen-append p r [] more early g h = cc
seen-append p r (Start ∷ es) more early g h =
    seen-took-append p early (note p g Began) (moves_of p r (es ++ more))
    ∙ later es (took (note p g Began) early)
    ∙ ap (λ v. seen p v (moves_of p r more)) (sym (seen-took-append p early (note p g Began) (moves_of p r es)))
  where
    later : (es : List Local) (g : Seen) → seen p g (moves_of p r (es ++ more)) ≡ seen p (seen p g (moves_of p r es)) (moves_of p r more)
    later [] g = refl
    later (e ∷ es) g = later es (note p g (move_of p r e))
seen-append p r (Fire t ∷ es) more early g h = seen-append p r es more early (note p g (did (work_numbered p r t))) h
seen-append p r (Receive s Answer m ∷ es) more early g h = seen-append p r es more early (note p g (Heard m.header.ok)) h
seen-append p r (Receive s Request m ∷ es) more early g h =
    at (is_stray m) (seen-append p r es more early (note p g Strayed) h) (seen-append p r es more (early ++ to_came m ∷ []) g h)
  where
    at : (b : Bool) → seen p (note p g Strayed) (run_moves p r early (es ++ more)) ≡ seen p
        (seen p (note p g Strayed) (run_moves p r early es)) (moves_of p r more)
        → seen p g (run_moves p r (early ++ to_came m ∷ []) (es ++ more)) ≡ seen p
        (seen p g (run_moves p r (early ++ to_came m ∷ []) es)) (moves_of p r more)
        → seen p g (cond b (Strayed ∷ run_moves p r early (es ++ more)) (run_moves p r (early ++ to_came m ∷ []) (es ++ more)))
        ≡ seen p (seen p g (cond b (Strayed ∷ run_moves p r early es) (run_moves p r (early ++ to_came m ∷ []) es))) (moves_of p r more)
    at true x y = x
    at false x y = y

pub received-append : (lane : Lane) (es more : List Local)
    → own_received lane (es ++ more) ≡ own_received lane es ++ own_received lane more
received-append lane [] more = refl
received-append lane (Start ∷ es) more = received-append lane es more
received-append lane (Fire t ∷ es) more = received-append lane es more
received-append lane (Receive s l m ∷ es) more = at (same_lane l lane && not (is_stray m)) (received-append lane es more)
  where
    at : (b : Bool) → own_received lane (es ++ more) ≡ own_received lane es ++ own_received lane more
        → cond b (m ∷ own_received lane (es ++ more)) (own_received lane (es ++ more)) ≡ cond b (m ∷ own_received lane es)
        (own_received lane es) ++ own_received lane more
    at true e = ap (λ v. m ∷ v) e
    at false e = e

-- what is fired is an operation of the plan
fired_work : (p : Plan) (s : Slots) (r t : ℕ) (v : State) → IsOf p s r v → is_ready v t ≡ true
    → (w : RankOp) × In w (rank_ops p r) × (work_numbered p r t ≡ Some w)
fired_work p s r t v h e = at (posted_at t v.pending) refl e
  where
    at : (o : Option Posted) → posted_at t v.pending ≡ o → is_ready_op v.cts o ≡ true
        → (w : RankOp) × In w (rank_ops p r) × (work_numbered p r t ≡ Some w)
    at None q e = cc
    at (Some x) q e =
        let f = find-In (is_number t) v.pending.waiting x q in
        let k = In-map_cases (operation p s r) x (rank_ops p r) (h.pending x f.0) in
        (k.0, k.1, numbered p r t k.0 k.1 (ap (λ (y : Posted). y.number) k.2 ∙ eqb-true _ _ f.1))

-- before a start nothing raises the go counter
pub go_unraised : (p : Plan) (inputs : Inputs) → SoundPlan p (length inputs) → (r : ℕ) → r < p.ranks → (s : Slots) (go : Beginning)
    (es : List Local) (early : List Came) (g : Seen) (b : Bool) (v : State) → IsOf p s r v → Legal go b v es → has_start es ≡ false
    → reached_count p g r r ≡ 0 → reached_count p (seen p g (run_moves p r early es)) r r ≡ 0
go_unraised p inputs sound r h s go [] early g b v is legal none e = e
go_unraised p inputs sound r h s go (Start ∷ es) early g b v is legal none e = cc
go_unraised p inputs sound r h s go (Receive x Answer m ∷ es) early g b v is legal none e =
    go_unraised p inputs sound r h s go es early (note p g (Heard m.header.ok)) (b || false) (after go v (Receive x Answer m))
    (after_of p s r go v (Receive x Answer m) is) legal.1 none e
go_unraised p inputs sound r h s go (Receive x Request m ∷ es) early g b v is legal none e =
    at (is_stray m)
    (go_unraised p inputs sound r h s go es early (note p g Strayed) (b || false) (after go v (Receive x Request m))
    (after_of p s r go v (Receive x Request m) is) legal.1 none e)
    (go_unraised p inputs sound r h s go es (early ++ to_came m ∷ []) g (b || false) (after go v (Receive x Request m))
    (after_of p s r go v (Receive x Request m) is) legal.1 none e)
  where
    at : (t : Bool) → reached_count p (seen p (note p g Strayed) (run_moves p r early es)) r r ≡ 0
        → reached_count p (seen p g (run_moves p r (early ++ to_came m ∷ []) es)) r r ≡ 0
        → reached_count p (seen p g (cond t (Strayed ∷ run_moves p r early es) (run_moves p r (early ++ to_came m ∷ []) es))) r r ≡ 0
    at true x y = x
    at false x y = y
go_unraised p inputs sound r h s go (Fire t ∷ es) early g b v is legal none e =
    let w = fired_work p s r t v is legal.0 in
    go_unraised p inputs sound r h s go es early (note p g (did (work_numbered p r t))) (b || false) (after go v (Fire t))
    (after_of p s r go v (Fire t) is) legal.1 none
    (subst (λ (o : Option RankOp). reached_count p (note p g (did o)) r r ≡ 0) (sym w.2) (unraised_work p inputs sound r h g w.0 w.1 ∙ e))

pub started_counts : (es : List Local) → has_start es ≡ true → 1 ≤ count_by is_start es
started_counts [] h = cc
started_counts (Start ∷ es) h = let e = count-cons is_start Start es in omega (arith, e)
started_counts (Fire t ∷ es) h = let k = started_counts es h in let e = count-cons is_start (Fire t) es in omega (arith, e, k)
started_counts (Receive s l m ∷ es) h =
    let k = started_counts es h in let e = count-cons is_start (Receive s l m) es in omega (arith, e, k)
