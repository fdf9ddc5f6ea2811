-- What a rank's done counter was told, and what was ready.
use Rattle.std.proofs.Common.{ℕ, zero, suc, Bool, true, false, cond, not, ◌+◌, ◌≡◌, ◌<◌, ◌≤◌, ◌==◌, List, [], ◌∷◌, refl, length, ap, ap₂}
use Rattle.std.proofs.Common.{◌∙◌, sym, subst, inl, inr, map, filter, Option, Some, None, if◌then◌else◌, eq-eqb, eqb-true, arith, count_by}
use Rattle.std.proofs.Common.{min, le-leb, add-zero}
use Rattle.std.proofs.lemmas.Bool.{cases_lt, not_from_false}
use Rattle.std.proofs.lemmas.List.Sums.{length-filter, count_by-le-length}
use Rattle.ptl_types.specs.declared.handles.Count.{Count}
use Rattle.ptl_types.specs.Messages.{Sent}
use Rattle.ptl_types.specs.Handles.{top}
use Rattle.ptl_types.specs.declared.headers.Lane.TheVariants.{Answer, Request}
use Rattle.plan_core.specs.Members.{In}
use Rattle.ni_model.specs.Counts.{bump, failures, successes}
use Rattle.ni_model.specs.Tables.{lookup}
use Rattle.ni_model.specs.Ready.{is_ready, is_reached, is_number, is_ready_op}
use Rattle.plan_core.specs.Plan.{Plan, all_cells, all_links, cell, from_to, is_bump, link, out_links, own}
use Rattle.plan_core.specs.Sound.{SoundPlan}
use Rattle.plan_core.specs.Values.{Inputs}
use Rattle.cuts.specs.view.View.{Annex, view}
use Rattle.cuts.specs.view.Slots.{Slots, cell_ct}
use Rattle.plan_core.specs.calls.RankOps.{number_of, RankOp, cell_of, rank_ops}
use Rattle.cuts.specs.view.TriggeredOps.{operation}
use Rattle.cuts.specs.machine.Seen.{Seen, reached_count, tells, was_fired}
use Rattle.plan_core.specs.calls.RankOps.RankOp.{ForLink, ForDone}
use Rattle.cuts.specs.machine.Machine.{Move, note, seen}
use Rattle.cuts.specs.machine.Machine.Move.{Began, Did, Heard, Strayed, Took}
use Rattle.cuts.specs.histories.History.{Local, got, is_start}
use Rattle.cuts.specs.histories.History.Local.{Fire, Receive, Start}
use Rattle.cuts.specs.histories.Cut.{is_received_stray, is_stray}
use Rattle.plan_core.proofs.Lists.{In-filter, In-filter_cases, count-append, count-cons}
use Rattle.plan_core.proofs.Links.{own-In}
use Rattle.cuts.proofs.view.Tables.{bump-successes, find-one, number_of-one}
use Rattle.cuts.proofs.view.StepFire.{cell_of-own, lookup_counter}
use Rattle.cuts.proofs.histories.Simulate.{did, move_of, moves_of, work_numbered}
use Rattle.cuts.proofs.histories.Traffic.{own_received}
use Rattle.cuts.proofs.histories.Origin.{got_first, got_later}

-- ---- a reached operation that is pending is ready
length-from_to : (k n : ℕ) → length (from_to k n) ≡ n
length-from_to k zero = refl
length-from_to k (suc n) = ap suc (length-from_to (suc k) n)

pub needs_small : (p : Plan) (n : ℕ) → SoundPlan p n → (c : ℕ) → c < length p.cells → (cell p c).needs ≤ top
needs_small p n sound c h = elim (cases_lt c p.ranks) [
  | inl l ↦ (let q = (sound.go_needs c l).0 in omega arith)
  | inr l ↦ (let e = sound.needs c h l in
      let f = length-filter (λ m. (link p m).target == c) (all_links p) in
      let g = count_by-le-length (λ m. (link p m).target == c) (all_links p) in
      let k = length-from_to 0 (length p.links) in
      let at_most = sound.few_together in
      omega arith)
]

met : (n m : ℕ) (o : Option Count) → o ≡ Some (successes (min m top)) → n ≤ m → n ≤ top → is_reached o n ≡ true
met n m o e h k = subst (λ (v : Option Count). is_reached v n ≡ true) (sym e) (le-leb n (min m top + 0) (omega arith))

pub ready_from : (annex : Annex) (p : Plan) (inputs : Inputs) → SoundPlan p (length inputs) →
    (s : Slots) (r : ℕ) (g : Seen) (w : RankOp) → In w (rank_ops p r) → was_fired g.fired w ≡ false →
    (cell p (cell_of p w)).needs ≤ reached_count p g r (cell_of p w)
    → is_ready (view annex p inputs s r g) (number_of p r w) ≡ true
ready_from annex p inputs sound s r g w h f n =
    let own_c = cell_of-own p (length inputs) sound r w h in
    ap (is_ready_op (view annex p inputs s r g).cts)
    (find-one (is_number (number_of p r w)) (operation p s r) (filter (λ v. not (was_fired g.fired v)) (rank_ops p r)) w
    (In-filter (λ v. not (was_fired g.fired v)) w (rank_ops p r) h (not_from_false _ f)) (eq-eqb _ _ refl)
    (λ v i e. number_of-one p r v w (In-filter_cases (λ u. not (was_fired g.fired u)) v (rank_ops p r) i).0 h (eqb-true _ _ e)))
    ∙ met (cell p (cell_of p w)).needs (reached_count p g r (cell_of p w))
    (lookup (cell_ct p s (cell_of p w)) (view annex p inputs s r g).cts.live)
    (lookup_counter annex p inputs s r g (cell_of p w) own_c) n
    (needs_small p (length inputs) sound (cell_of p w) (own-In p r (cell_of p w) own_c).0)

-- ---- started
started_stays : (p : Plan) (g : Seen) (m : Move) → g.started ≡ true → (note p g m).started ≡ true
started_stays p g Began e = refl
started_stays p g (Took l bs) e = e
started_stays p g (Did (ForLink l)) e = e
started_stays p g (Did (ForDone c)) e = e
started_stays p g (Heard ok) e = e
started_stays p g Strayed e = e

pub started_on : (p : Plan) (ms : List Move) (g : Seen) → g.started ≡ true → (seen p g ms).started ≡ true
started_on p [] g e = e
started_on p (m ∷ ms) g e = started_on p ms (note p g m) (started_stays p g m e)

started_by : (p : Plan) (r : ℕ) (es : List Local) (g : Seen) → 0 < count_by is_start es → (seen p g (moves_of p r es)).started ≡ true
started_by p r [] g h = absurd (omega arith)
started_by p r (Start ∷ es) g h = started_on p (moves_of p r es) (note p g Began) refl
started_by p r (Fire t ∷ es) g h = started_by p r es (note p g (move_of p r (Fire t))) (let e = count-cons is_start (Fire t) es in
    omega arith)
started_by p r (Receive s l m ∷ es) g h = started_by p r es (note p g (move_of p r (Receive s l m)))
    (let e = count-cons is_start (Receive s l m) es in omega arith)

-- ---- strays
abbrev pub answers_in : List Local → List Sent
answers_in [] = []
answers_in (Receive s Answer m ∷ es) = m ∷ answers_in es
answers_in (_ ∷ es) = answers_in es

pub answers_in-got : (es : List Local) (m : Sent) → In m (answers_in es) → (s : ℕ) × In m (got es s Answer)
answers_in-got [] m h = absurd h
answers_in-got (Start ∷ es) m h = answers_in-got es m h
answers_in-got (Fire t ∷ es) m h = answers_in-got es m h
answers_in-got (Receive s Request x ∷ es) m h = let k = answers_in-got es m h in (k.0, got_later (Receive s Request x) es k.0 Answer m k.1)
answers_in-got (Receive s Answer x ∷ es) m (inl e) = (
  s,
  subst (λ v. In v (got (Receive s Answer x ∷ es) s Answer)) e
      (got_first s Answer x es),
)
answers_in-got (Receive s Answer x ∷ es) m (inr h) = let k = answers_in-got es m h in
    (k.0, got_later (Receive s Answer x) es k.0 Answer m k.1)

pub one_if : (b : Bool) → b ≡ true → cond {A = ℕ} b 1 0 ≡ 1
one_if true e = refl
one_if false e = cc

pub none_if : (b : Bool) → b ≡ false → cond {A = ℕ} b 1 0 ≡ 0
none_if false e = refl
none_if true e = cc

pub strays_are : (p : Plan) (r : ℕ) (es : List Local) (g : Seen) → ((m : Sent) → In m (answers_in es) → is_stray m ≡ false) →
    (seen p g (moves_of p r es)).strays ≡ g.strays + count_by is_received_stray es
strays_are p r [] g h = sym (add-zero g.strays)
strays_are p r (Start ∷ es) g h = let e = count-cons is_received_stray Start es in let k = strays_are p r es (note p g Began) h in
    omega (arith, e, k)
strays_are p r (Fire t ∷ es) g h = at (work_numbered p r t) (λ o. strays_are p r es (note p g (did o)) h)
  where
    at : (o : Option RankOp) → ((o : Option RankOp) → (seen p (note p g (did o)) (moves_of p r es)).strays ≡ (note p g (did o)).strays
        + count_by is_received_stray es) → (seen p (note p g (did o)) (moves_of p r es)).strays ≡ g.strays + count_by is_received_stray
        (Fire t ∷ es)
    at None rest = let e = count-cons is_received_stray (Fire t) es in let k = rest None in omega (arith, e, k)
    at (Some (ForLink l)) rest = let e = count-cons is_received_stray (Fire t) es in let k = rest (Some (ForLink l)) in omega (arith, e, k)
    at (Some (ForDone c)) rest = let e = count-cons is_received_stray (Fire t) es in let k = rest (Some (ForDone c)) in omega (arith, e, k)
strays_are p r (Receive s Answer m ∷ es) g h =
    let e = count-cons is_received_stray (Receive s Answer m) es in
    let z = none_if (is_stray m) (h m (inl refl)) in
    let k = strays_are p r es (note p g (Heard m.header.ok)) (λ x i. h x (inr i)) in omega (arith, e, k, z)
strays_are p r (Receive s Request m ∷ es) g h = at (is_stray m) refl
    (λ b. strays_are p r es (note p g (cond b Strayed (Took m.header.hdr_data m.bytes))) h)
  where
    at : (b : Bool) → is_stray m ≡ b → ((b : Bool) → (seen p (note p g (cond b Strayed (Took m.header.hdr_data m.bytes)))
        (moves_of p r es)).strays ≡ (note p g (cond b Strayed (Took m.header.hdr_data m.bytes))).strays + count_by is_received_stray es)
        → (seen p (note p g (cond b Strayed (Took m.header.hdr_data m.bytes))) (moves_of p r es)).strays ≡ g.strays + count_by
        is_received_stray (Receive s Request m ∷ es)
    at true q rest = let e = count-cons is_received_stray (Receive s Request m) es in let z = one_if (is_stray m) q in let k =
        rest true in omega (arith, e, k, z)
    at false q rest = let e = count-cons is_received_stray (Receive s Request m) es in let z = none_if (is_stray m) q in let k =
        rest false in omega (arith, e, k, z)

-- ---- the done counter
abbrev pub heard : Plan → List Move → ℕ
heard p [] = 0
heard p (Heard ok ∷ ms) = (if p.remote then 1 else 0) + heard p ms
heard p (_ ∷ ms) = heard p ms

abbrev pub AllOk : List Move → Type 0
AllOk [] = Unit {0}
AllOk (Heard ok ∷ ms) = (ok ≡ true) × AllOk ms
AllOk (_ ∷ ms) = AllOk ms

pub done_min : (n m : ℕ) → n ≡ m → successes (min n top) ≡ successes (min m top)
done_min n m e = ap (λ v. successes (min v top)) e

heard_step : (b ok : Bool) (d : Count) (x n : ℕ) → ok ≡ true → d ≡ successes (min (x + n) top) →
    (if b then bump (if ok then successes 1 else failures 1) d else d) ≡ successes (min (x + ((if b then 1 else 0) + n)) top)
heard_step true true d x n e f = ap (bump (successes 1)) f ∙ bump-successes (x + n)
    ∙ done_min _ _ (let q : suc (x + n) ≡ x + (1 + n) = omega arith in q)
heard_step true false d x n e f = cc
heard_step false ok d x n e f = f ∙ done_min _ _ (let q : x + n ≡ x + (0 + n) = omega arith in q)

pub done_seen : (p : Plan) (ms : List Move) (g : Seen) (n : ℕ) → AllOk ms → g.done ≡ successes (min (count_by tells g.fired + n) top) →
    (seen p g ms).done ≡ successes (min (count_by tells (seen p g ms).fired + (n + heard p ms)) top)
done_seen p [] g n ok e = e ∙ done_min _ _ (ap (λ v. count_by tells g.fired + v) (sym (add-zero n)))
done_seen p (Began ∷ ms) g n ok e = done_seen p ms (note p g Began) n ok e
done_seen p (Took l bs ∷ ms) g n ok e = done_seen p ms (note p g (Took l bs)) n ok e
done_seen p (Strayed ∷ ms) g n ok e = done_seen p ms (note p g Strayed) n ok e
done_seen p (Did (ForLink l) ∷ ms) g n ok e = done_seen p ms (note p g (Did (ForLink l))) n ok
    (e ∙ done_min _ _ (let k = count-cons tells (ForLink l) g.fired in omega (arith, k)))
done_seen p (Did (ForDone c) ∷ ms) g n ok e =
    done_seen p ms (note p g (Did (ForDone c))) n ok (ap (bump (successes 1)) e ∙ bump-successes (count_by tells g.fired + n)
    ∙ done_min _ _ (let k = count-cons tells (ForDone c) g.fired in omega (arith, k)))
done_seen p (Heard b ∷ ms) g n ok e =
    done_seen p ms (note p g (Heard b)) ((if p.remote then 1 else 0) + n) ok.1
    (heard_step p.remote b g.done (count_by tells g.fired) n ok.0 e)
    ∙ done_min _ _ (ap (λ v. count_by tells (seen p (note p g (Heard b)) ms).fired + v)
    (let q : (if p.remote then 1 else 0) + n + heard p ms ≡ n + ((if p.remote then 1 else 0) + heard p ms) = omega arith in q))

pub heard_is : (p : Plan) (r : ℕ) (es : List Local) → ((m : Sent) → In m (answers_in es) → is_stray m ≡ false) →
    heard p (moves_of p r es) ≡ (if p.remote then length (own_received Answer es) else 0)
heard_is p r [] h = zero_either p.remote
  where
    zero_either : (b : Bool) → heard p [] ≡ (if b then 0 else 0)
    zero_either true = refl
    zero_either false = refl
heard_is p r (Start ∷ es) h = heard_is p r es h
heard_is p r (Fire t ∷ es) h = at (work_numbered p r t) (heard_is p r es h)
  where
    at : (o : Option RankOp) → heard p (moves_of p r es) ≡ (if p.remote then length (own_received Answer es) else 0) →
        heard p (did o ∷ moves_of p r es) ≡ (if p.remote then length (own_received Answer es) else 0)
    at None e = e
    at (Some w) e = e
heard_is p r (Receive s Request m ∷ es) h = at (is_stray m) (heard_is p r es h)
  where
    at : (b : Bool) → heard p (moves_of p r es) ≡ (if p.remote then length (own_received Answer es) else 0) →
        heard p (cond b Strayed (Took m.header.hdr_data m.bytes) ∷ moves_of p r es)
        ≡ (if p.remote then length (own_received Answer es) else 0)
    at true e = e
    at false e = e
heard_is p r (Receive s Answer m ∷ es) h =
    ap (λ v. (if p.remote then 1 else 0) + v) (heard_is p r es (λ x i. h x (inr i)))
    ∙ both p.remote
    ∙ ap (λ b. if p.remote then length (if not b then m ∷ own_received Answer es else own_received Answer es) else 0) (sym (h m (inl refl)))
  where
    both : (b : Bool) → (if b then 1 else 0) + (if b then length (own_received Answer es) else 0)
        ≡ (if b then suc (length (own_received Answer es)) else 0)
    both true = (let q : 1 + length (own_received Answer es) ≡ suc (length (own_received Answer es)) = omega arith in q)
    both false = refl

pub all_ok : (p : Plan) (r : ℕ) (es : List Local) → ((m : Sent) → In m (answers_in es) → m.header.ok ≡ true) → AllOk (moves_of p r es)
all_ok p r [] h = tt
all_ok p r (Start ∷ es) h = all_ok p r es h
all_ok p r (Fire t ∷ es) h = at (work_numbered p r t) (all_ok p r es h)
  where
    at : (o : Option RankOp) → AllOk (moves_of p r es) → AllOk (did o ∷ moves_of p r es)
    at None e = e
    at (Some w) e = e
all_ok p r (Receive s Request m ∷ es) h = at (is_stray m) (all_ok p r es h)
  where
    at : (b : Bool) → AllOk (moves_of p r es) → AllOk (cond b Strayed (Took m.header.hdr_data m.bytes) ∷ moves_of p r es)
    at true e = e
    at false e = e
all_ok p r (Receive s Answer m ∷ es) h = (h m (inl refl), all_ok p r es (λ x i. h x (inr i)))

-- the tells of a rank are its cells
pub tells_works : (p : Plan) (r : ℕ) → count_by tells (rank_ops p r) ≡ length (own p r)
tells_works p r =
    count-append tells (map ForLink (out_links p r)) (map ForDone (own p r))
    ∙ ap₂ (λ x y. x + y) (none (out_links p r)) (all (own p r))
    ∙ (let q : 0 + length (own p r) ≡ length (own p r) = omega arith in q)
  where
    none : (ls : List ℕ) → count_by tells (map ForLink ls) ≡ 0
    none [] = refl
    none (l ∷ ls) = count-cons tells (ForLink l) (map ForLink ls)
        ∙ (let k = none ls in let q : 0 + count_by tells (map ForLink ls) ≡ 0 = omega (arith, k) in q)

    all : (cs : List ℕ) → count_by tells (map ForDone cs) ≡ length cs
    all [] = refl
    all (c ∷ cs) = count-cons tells (ForDone c) (map ForDone cs)
        ∙ (let k = all cs in let q : 1 + count_by tells (map ForDone cs) ≡ suc (length cs) = omega (arith, k) in q)

pub length-own-le : (p : Plan) (r : ℕ) → length (own p r) ≤ length p.cells
length-own-le p r =
    let f = length-filter (λ c. (cell p c).rank == r) (all_cells p) in
    let g = count_by-le-length (λ c. (cell p c).rank == r) (all_cells p) in
    let k = length-from_to 0 (length p.cells) in
    omega arith

pub count-out-le : (p : Plan) (r : ℕ) → count_by (λ l. not (is_bump (link p l).kind)) (out_links p r) ≤ length p.links
count-out-le p r =
    let h = count_by-le-length (λ l. not (is_bump (link p l).kind)) (out_links p r) in
    let f = length-filter (λ l. (cell p (link p l).source).rank == r) (all_links p) in
    let g = count_by-le-length (λ l. (cell p (link p l).source).rank == r) (all_links p) in
    let k = length-from_to 0 (length p.links) in
    omega arith
