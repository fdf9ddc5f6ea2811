-- What the moves of a rank's history count.
use Rattle.std.proofs.Common.{if◌then◌else◌, ℕ, suc, Bool, true, false, cond, ◌+◌, ◌≡◌, ◌<◌, List, [], ◌∷◌, ◌++◌, refl, ap, ◌∙◌, sym, inl}
use Rattle.std.proofs.Common.{inr, arith, map, Option, Some, None, count_by}
use Rattle.ni_model.specs.State.{State}
use Rattle.plan_core.proofs.Lists.{count-cons}
use Rattle.plan_core.specs.Members.{In}
use Rattle.plan_core.specs.Plan.{Plan}
use Rattle.plan_core.specs.Values.{Inputs}
use Rattle.cuts.proofs.histories.Told.{AllOk, all_ok, answers_in, heard, none_if, started_on, strays_are, one_if}
use Rattle.cuts.proofs.histories.Simulate.{did, moves_of, work_numbered}
use Rattle.cuts.proofs.histories.Traffic.{to_came}
use Rattle.cuts.specs.histories.Cut.{is_received_stray, is_stray}
use Rattle.cuts.specs.histories.History.{Local, is_start}
use Rattle.cuts.specs.histories.History.Local.{Fire, Receive, Start}
use Rattle.cuts.proofs.histories.Runs.{run_moves, run_state, seen-took-append, tk}
use Rattle.cuts.proofs.histories.RunTraffic.{has_start}
use Rattle.cuts.specs.start.Waiting.{annex_of, took}
use Rattle.cuts.specs.machine.Machine.{Move, note, seen}
use Rattle.cuts.specs.machine.Machine.Move.{Began, Heard, Strayed, Took}
use Rattle.cuts.specs.machine.Seen.{Came, Seen}
use Rattle.plan_core.specs.calls.RankOps.{RankOp}
use Rattle.plan_core.specs.calls.RankOps.RankOp.{ForLink, ForDone}
use Rattle.cuts.specs.view.Slots.{Slots}
use Rattle.cuts.specs.view.View.{view}
use Rattle.ptl_types.specs.Messages.{Sent}
use Rattle.ptl_types.specs.declared.headers.Lane.TheVariants.{Answer, Request}

heard-took : (p : Plan) (early : List Came) (ms : List Move) → heard p (map tk early ++ ms) ≡ heard p ms
heard-took p [] ms = refl
heard-took p (a ∷ early) ms = heard-took p early ms

ok-took : (early : List Came) (ms : List Move) → AllOk ms → AllOk (map tk early ++ ms)
ok-took [] ms h = h
ok-took (a ∷ early) ms h = ok-took early ms h

-- as many answers were heard as by the history read early
pub run_heard : (p : Plan) (r : ℕ) (es : List Local) (early : List Came) → heard p (run_moves p r early es) ≡ heard p (moves_of p r es)
run_heard p r [] early = refl
run_heard p r (Start ∷ es) early = heard-took p early (moves_of p r es)
run_heard p r (Fire t ∷ es) early = at (work_numbered p r t) (run_heard p r es early)
  where
    at : (o : Option RankOp) → heard p (run_moves p r early es) ≡ heard p (moves_of p r es) →
        heard p (did o ∷ run_moves p r early es) ≡ heard p (did o ∷ moves_of p r es)
    at None e = e
    at (Some w) e = e
run_heard p r (Receive s Answer m ∷ es) early = ap (λ v. (if p.remote then 1 else 0) + v) (run_heard p r es early)
run_heard p r (Receive s Request m ∷ es) early = at (is_stray m) (run_heard p r es early) (run_heard p r es (early ++ to_came m ∷ []))
  where
    at : (b : Bool) → heard p (run_moves p r early es) ≡ heard p (moves_of p r es) → heard p (run_moves p r (early ++ to_came m ∷ []) es)
        ≡ heard p (moves_of p r es)
        → heard p (cond b (Strayed ∷ run_moves p r early es) (run_moves p r (early ++ to_came m ∷ []) es)) ≡ heard p
        (cond b Strayed (Took m.header.hdr_data m.bytes) ∷ moves_of p r es)
    at true x y = x
    at false x y = y

pub run_ok : (p : Plan) (r : ℕ) (es : List Local) (early : List Came) → ((m : Sent) → In m (answers_in es) → m.header.ok ≡ true) →
    AllOk (run_moves p r early es)
run_ok p r [] early h = tt
run_ok p r (Start ∷ es) early h = ok-took early (moves_of p r es) (all_ok p r es h)
run_ok p r (Fire t ∷ es) early h = at (work_numbered p r t) (run_ok p r es early h)
  where
    at : (o : Option RankOp) → AllOk (run_moves p r early es) → AllOk (did o ∷ run_moves p r early es)
    at None e = e
    at (Some w) e = e
run_ok p r (Receive s Answer m ∷ es) early h = (h m (inl refl), run_ok p r es early (λ x i. h x (inr i)))
run_ok p r (Receive s Request m ∷ es) early h = at (is_stray m) (run_ok p r es early h) (run_ok p r es (early ++ to_came m ∷ []) h)
  where
    at : (b : Bool) → AllOk (run_moves p r early es) → AllOk (run_moves p r (early ++ to_came m ∷ []) es) →
        AllOk (cond b (Strayed ∷ run_moves p r early es) (run_moves p r (early ++ to_came m ∷ []) es))
    at true x y = x
    at false x y = y

pub run_strays : (p : Plan) (r : ℕ) (es : List Local) (early : List Came) (g : Seen) →
    ((m : Sent) → In m (answers_in es) → is_stray m ≡ false) → (seen p g (run_moves p r early es)).strays ≡ g.strays + count_by
    is_received_stray es
run_strays p r [] early g h = strays_are p r [] g h
run_strays p r (Start ∷ es) early g h =
    let e = count-cons is_received_stray Start es in
    let k = strays_are p r es (took (note p g Began) early) h in
    ap (λ (v : Seen). v.strays) (seen-took-append p early (note p g Began) (moves_of p r es))
    ∙ (let q : (seen p (took (note p g Began) early) (moves_of p r es)).strays ≡ g.strays + count_by is_received_stray (Start ∷ es) =
    omega (arith, e, k) in q)
run_strays p r (Fire t ∷ es) early g h = at (work_numbered p r t) (λ o. run_strays p r es early (note p g (did o)) h)
  where
    at : (o : Option RankOp) → ((o : Option RankOp) → (seen p (note p g (did o)) (run_moves p r early es)).strays
        ≡ (note p g (did o)).strays + count_by is_received_stray es) → (seen p (note p g (did o)) (run_moves p r early es)).strays
        ≡ g.strays + count_by is_received_stray (Fire t ∷ es)
    at None rest = let e = count-cons is_received_stray (Fire t) es in let k = rest None in omega (arith, e, k)
    at (Some (ForLink l)) rest = let e = count-cons is_received_stray (Fire t) es in let k = rest (Some (ForLink l)) in omega (arith, e, k)
    at (Some (ForDone c)) rest = let e = count-cons is_received_stray (Fire t) es in let k = rest (Some (ForDone c)) in omega (arith, e, k)
run_strays p r (Receive s Answer m ∷ es) early g h =
    let e = count-cons is_received_stray (Receive s Answer m) es in
    let z = none_if (is_stray m) (h m (inl refl)) in
    let k = run_strays p r es early (note p g (Heard m.header.ok)) (λ x i. h x (inr i)) in omega (arith, e, k, z)
run_strays p r (Receive s Request m ∷ es) early g h = at (is_stray m) refl (run_strays p r es early (note p g Strayed) h)
    (run_strays p r es (early ++ to_came m ∷ []) g h)
  where
    at : (b : Bool) → is_stray m ≡ b → (seen p (note p g Strayed) (run_moves p r early es)).strays ≡ suc g.strays + count_by
        is_received_stray es → (seen p g (run_moves p r (early ++ to_came m ∷ []) es)).strays ≡ g.strays + count_by is_received_stray es
        → (seen p g (cond b (Strayed ∷ run_moves p r early es) (run_moves p r (early ++ to_came m ∷ []) es))).strays ≡ g.strays + count_by
        is_received_stray (Receive s Request m ∷ es)
    at true q x y = let e = count-cons is_received_stray (Receive s Request m) es in let z = one_if (is_stray m) q in omega (arith, e, x, z)
    at false q x y = let e = count-cons is_received_stray (Receive s Request m) es in let z = none_if (is_stray m) q in
        omega (arith, e, y, z)

pub has_start-of : (es : List Local) → 0 < count_by is_start es → has_start es ≡ true
has_start-of [] h = absurd (omega arith)
has_start-of (Start ∷ es) h = refl
has_start-of (Fire t ∷ es) h = has_start-of es (let e = count-cons is_start (Fire t) es in omega arith)
has_start-of (Receive s l m ∷ es) h = has_start-of es (let e = count-cons is_start (Receive s l m) es in omega arith)

pub run_started : (p : Plan) (r : ℕ) (es : List Local) (early : List Came) (g : Seen) → has_start es ≡ true →
    (seen p g (run_moves p r early es)).started ≡ true
run_started p r [] early g h = cc
run_started p r (Start ∷ es) early g h = started_on p (map tk early ++ moves_of p r es) (note p g Began) refl
run_started p r (Fire t ∷ es) early g h = run_started p r es early (note p g (did (work_numbered p r t))) h
run_started p r (Receive s Answer m ∷ es) early g h = run_started p r es early (note p g (Heard m.header.ok)) h
run_started p r (Receive s Request m ∷ es) early g h = at (is_stray m) (run_started p r es early (note p g Strayed) h)
    (run_started p r es (early ++ to_came m ∷ []) g h)
  where
    at : (b : Bool) → (seen p (note p g Strayed) (run_moves p r early es)).started ≡ true →
        (seen p g (run_moves p r (early ++ to_came m ∷ []) es)).started ≡ true →
        (seen p g (cond b (Strayed ∷ run_moves p r early es) (run_moves p r (early ++ to_came m ∷ []) es))).started ≡ true
    at true x y = x
    at false x y = y

-- after its start a rank's interface is the view of what it has seen, with an annex
pub record Ended (p : Plan) (inputs : Inputs) (k : ℕ → Slots) (r : ℕ) (v : State) (g : Seen) : Type 0 where
  pub early : List Came
  pub is : v ≡ view (annex_of p (k r) r early) p inputs (k r) r g

pub run_ended : (p : Plan) (inputs : Inputs) (k : ℕ → Slots) (r : ℕ) (es : List Local) (early : List Came) (g : Seen) →
    has_start es ≡ true → Ended p inputs k r (run_state p inputs k r early g es) (seen p g (run_moves p r early es))
run_ended p inputs k r [] early g h = cc
run_ended p inputs k r (Start ∷ es) early g h = record {
  early = early;
  is = ap (view (annex_of p (k r) r early) p inputs (k r) r)
      (sym (seen-took-append p early (note p g Began) (moves_of p r es)));
}
run_ended p inputs k r (Fire t ∷ es) early g h = run_ended p inputs k r es early (note p g (did (work_numbered p r t))) h
run_ended p inputs k r (Receive s Answer m ∷ es) early g h = run_ended p inputs k r es early (note p g (Heard m.header.ok)) h
run_ended p inputs k r (Receive s Request m ∷ es) early g h = at (is_stray m) (run_ended p inputs k r es early (note p g Strayed) h)
    (run_ended p inputs k r es (early ++ to_came m ∷ []) g h)
  where
    at : (b : Bool) → Ended p inputs k r (run_state p inputs k r early (note p g Strayed) es)
        (seen p (note p g Strayed) (run_moves p r early es)) → Ended p inputs k r (run_state p inputs k r (early ++ to_came m ∷ []) g es)
        (seen p g (run_moves p r (early ++ to_came m ∷ []) es))
        → Ended p inputs k r (cond b (run_state p inputs k r early (note p g Strayed) es)
        (run_state p inputs k r (early ++ to_came m ∷ []) g es))
        (seen p g (cond b (Strayed ∷ run_moves p r early es) (run_moves p r (early ++ to_came m ∷ []) es)))
    at true x y = x
    at false x y = y
