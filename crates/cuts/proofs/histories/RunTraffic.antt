-- The messages of a rank's history as lists.
use Rattle.std.proofs.Common.{if◌then◌else◌, ℕ, Bool, true, false, cond, not, ◌≡◌, List, [], ◌∷◌, ◌++◌, refl, ap, ◌∙◌, sym, map, filter}
use Rattle.std.proofs.Common.{Option, Some, None, append-nil, append_assoc}
use Rattle.std.proofs.lemmas.List.{map-append}
use Rattle.std.proofs.lemmas.List.Elements.{filter-append}
use Rattle.plan_core.specs.Plan.{Plan}
use Rattle.plan_core.specs.Values.{Inputs}
use Rattle.cuts.proofs.histories.Simulate.{ack_to, did, moves_of, work_numbered}
use Rattle.cuts.proofs.histories.Traffic.{ack, ack_listed, ack_not_for, answers_local, answers_remote, as_message, came_from, came_is}
use Rattle.cuts.proofs.histories.Traffic.{goes_to, own_received, requests, to_came, work_no_answer, work_requests}
use Rattle.cuts.specs.histories.Cut.{IsPrefixOf, is_stray}
use Rattle.cuts.specs.histories.History.{Local, and_then, is_for}
use Rattle.cuts.specs.histories.History.Local.{Fire, Receive, Start}
use Rattle.cuts.proofs.histories.Runs.{before_start, run_made, run_moves, seen-took-append, tk}
use Rattle.cuts.specs.start.Waiting.{took}
use Rattle.cuts.specs.machine.Machine.{Move, note, out_of, outs, seen}
use Rattle.cuts.specs.machine.Machine.Move.{Began, Heard, Strayed}
use Rattle.cuts.specs.machine.Seen.{Came, Seen}
use Rattle.plan_core.specs.calls.RankOps.{RankOp}
use Rattle.plan_core.specs.calls.RankOps.RankOp.{ForLink, ForDone}
use Rattle.cuts.specs.view.Slots.{Slots}
use Rattle.ptl_types.specs.declared.headers.Lane.TheVariants.{Answer, Request}

outs-took : (p : Plan) (inputs : Inputs) (early : List Came) (g : Seen) (ms : List Move) →
    outs p inputs g (map tk early ++ ms) ≡ outs p inputs (took g early) ms
outs-took p inputs [] g ms = ap (λ v. outs p inputs (record g { came = v }) ms) (sym (append-nil g.came))
outs-took p inputs (a ∷ early) g ms = outs-took p inputs early (note p g (tk a)) ms ∙ ap (λ v. outs p inputs (record g { came = v }) ms)
    (append_assoc g.came (a ∷ []) early)

pub run_requests : (p : Plan) (inputs : Inputs) (s : Slots) (r d : ℕ) (es : List Local) (early : List Came) (g : Seen)
    → filter (is_for d Request) (run_made p inputs s r early g es) ≡ map (as_message p s)
    (filter (goes_to p d) (outs p inputs g (run_moves p r early es)))
run_requests p inputs s r d [] early g = refl
run_requests p inputs s r d (Start ∷ es) early g = requests p inputs s r d es (took (note p g Began) early)
    ∙ ap (λ v. map (as_message p s) (filter (goes_to p d) v)) (sym (outs-took p inputs early (note p g Began) (moves_of p r es)))
run_requests p inputs s r d (Receive source Answer m ∷ es) early g = run_requests p inputs s r d es early (note p g (Heard m.header.ok))
run_requests p inputs s r d (Receive source Request m ∷ es) early g =
    at (is_stray m) (run_requests p inputs s r d es early (note p g Strayed)) (run_requests p inputs s r d es (early ++ to_came m ∷ []) g)
  where
    at : (b : Bool) → filter (is_for d Request) (run_made p inputs s r early (note p g Strayed) es) ≡ map (as_message p s)
        (filter (goes_to p d) (outs p inputs (note p g Strayed) (run_moves p r early es)))
        → filter (is_for d Request) (run_made p inputs s r (early ++ to_came m ∷ []) g es) ≡ map (as_message p s)
        (filter (goes_to p d) (outs p inputs g (run_moves p r (early ++ to_came m ∷ []) es)))
        → filter (is_for d Request) (cond b (run_made p inputs s r early (note p g Strayed) es)
        (and_then (ack_to p m) (run_made p inputs s r (early ++ to_came m ∷ []) g es))) ≡ map (as_message p s)
        (filter (goes_to p d) (outs p inputs g (cond b (Strayed ∷ run_moves p r early es)
        (run_moves p r (early ++ to_came m ∷ []) es))))
    at true a b = a
    at false a b = ack_not_for p d m (run_made p inputs s r (early ++ to_came m ∷ []) g es) ∙ b
run_requests p inputs s r d (Fire t ∷ es) early g =
    work_requests p inputs s d g (work_numbered p r t) (run_made p inputs s r early (note p g (did (work_numbered p r t))) es)
    ∙ ap (λ ms. map (as_message p s) (filter (goes_to p d) (out_of p inputs g (did (work_numbered p r t)))) ++ ms)
    (run_requests p inputs s r d es early (note p g (did (work_numbered p r t))))
    ∙ sym (ap (map (as_message p s)) (filter-append (goes_to p d) (out_of p inputs g (did (work_numbered p r t)))
    (outs p inputs (note p g (did (work_numbered p r t))) (run_moves p r early es)))
    ∙ map-append (as_message p s) (filter (goes_to p d) (out_of p inputs g (did (work_numbered p r t))))
    (filter (goes_to p d) (outs p inputs (note p g (did (work_numbered p r t))) (run_moves p r early es))))

-- ---- what came
abbrev pub has_start : List Local → Bool
has_start [] = false
has_start (Start ∷ es) = true
has_start (_ ∷ es) = has_start es

pub run_came : (p : Plan) (r : ℕ) (es : List Local) (early : List Came) (g : Seen)
    → (seen p g (run_moves p r early es)).came ≡ (if has_start es then g.came ++ (early ++ map to_came (own_received Request es)) else
    g.came)
run_came p r [] early g = refl
run_came p r (Start ∷ es) early g =
    ap (λ (v : Seen). v.came) (seen-took-append p early (note p g Began) (moves_of p r es)) ∙ came_is p r es (took (note p g Began) early)
    ∙ append_assoc g.came early (map to_came (own_received Request es))
run_came p r (Receive s Answer m ∷ es) early g = run_came p r es early (note p g (Heard m.header.ok))
run_came p r (Fire t ∷ es) early g = at (work_numbered p r t) (λ o. run_came p r es early (note p g (did o)))
  where
    at : (o : Option RankOp) → ((o : Option RankOp) → (seen p (note p g (did o)) (run_moves p r early es)).came ≡ cond (has_start es)
        ((note p g (did o)).came ++ (early ++ map to_came (own_received Request es))) (note p g (did o)).came)
        → (seen p (note p g (did o)) (run_moves p r early es)).came ≡ cond (has_start es)
        (g.came ++ (early ++ map to_came (own_received Request es))) g.came
    at None rest = rest None
    at (Some (ForLink l)) rest = rest (Some (ForLink l))
    at (Some (ForDone c)) rest = rest (Some (ForDone c))
run_came p r (Receive s Request m ∷ es) early g = at (is_stray m) (run_came p r es early (note p g Strayed))
    (run_came p r es (early ++ to_came m ∷ []) g)
  where
    at : (b : Bool) → (seen p (note p g Strayed) (run_moves p r early es)).came ≡ cond (has_start es)
        (g.came ++ (early ++ map to_came (own_received Request es))) g.came
        → (seen p g (run_moves p r (early ++ to_came m ∷ []) es)).came ≡ cond (has_start es)
        (g.came ++ ((early ++ to_came m ∷ []) ++ map to_came (own_received Request es))) g.came
        → (seen p g (cond b (Strayed ∷ run_moves p r early es) (run_moves p r (early ++ to_came m ∷ []) es))).came ≡ cond (has_start es)
        (g.came ++ (early ++ map to_came (cond (not b) (m ∷ own_received Request es) (own_received Request es)))) g.came
    at true a b = a
    at false a b = b ∙ ap (λ v. cond (has_start es) (g.came ++ v) g.came)
        (append_assoc early (to_came m ∷ []) (map to_came (own_received Request es)))

pub before-front : (es : List Local) → IsPrefixOf (before_start es) (map to_came (own_received Request es))
before-front [] = ([], refl)
before-front (Start ∷ es) = (map to_came (own_received Request es), refl)
before-front (Receive s Answer m ∷ es) = before-front es
before-front (Fire t ∷ es) = before-front es
before-front (Receive s Request m ∷ es) = at (is_stray m) (before-front es)
  where
    at : (b : Bool) → IsPrefixOf (before_start es) (map to_came (own_received Request es)) →
        IsPrefixOf (cond b (before_start es) (to_came m ∷ before_start es))
        (map to_came (cond (not b) (m ∷ own_received Request es) (own_received Request es)))
    at true h = h
    at false h = (h.0, ap (λ v. to_came m ∷ v) h.1)

-- ---- acknowledgements
pub run_answers_remote : (p : Plan) (inputs : Inputs) (s : Slots) (r d : ℕ) → p.remote ≡ true →
    (es : List Local) (early : List Came) (g : Seen)
    → filter (is_for d Answer) (run_made p inputs s r early g es) ≡ map ack (filter (came_from d) (own_received Request es))
run_answers_remote p inputs s r d rem [] early g = refl
run_answers_remote p inputs s r d rem (Start ∷ es) early g = answers_remote p inputs s r d rem es (took (note p g Began) early)
run_answers_remote p inputs s r d rem (Receive source Answer m ∷ es) early g =
    run_answers_remote p inputs s r d rem es early (note p g (Heard m.header.ok))
run_answers_remote p inputs s r d rem (Fire t ∷ es) early g = work_no_answer p inputs s d g (work_numbered p r t)
    (run_made p inputs s r early (note p g (did (work_numbered p r t))) es) ∙ run_answers_remote p inputs s r d rem es early
    (note p g (did (work_numbered p r t)))
run_answers_remote p inputs s r d rem (Receive source Request m ∷ es) early g =
    at (is_stray m) (run_answers_remote p inputs s r d rem es early (note p g Strayed))
    (run_answers_remote p inputs s r d rem es (early ++ to_came m ∷ []) g)
  where
    at : (b : Bool) → filter (is_for d Answer) (run_made p inputs s r early (note p g Strayed) es) ≡ map ack
        (filter (came_from d) (own_received Request es))
        → filter (is_for d Answer) (run_made p inputs s r (early ++ to_came m ∷ []) g es) ≡ map ack
        (filter (came_from d) (own_received Request es))
        → filter (is_for d Answer) (cond b (run_made p inputs s r early (note p g Strayed) es)
        (and_then (ack_to p m) (run_made p inputs s r (early ++ to_came m ∷ []) g es))) ≡ map ack
        (filter (came_from d) (cond (not b) (m ∷ own_received Request es) (own_received Request es)))
    at true a b = a
    at false a b = ack_listed p d m rem (run_made p inputs s r (early ++ to_came m ∷ []) g es) (own_received Request es) b

pub run_answers_local : (p : Plan) (inputs : Inputs) (s : Slots) (r d : ℕ) → p.remote ≡ false →
    (es : List Local) (early : List Came) (g : Seen) → filter (is_for d Answer) (run_made p inputs s r early g es) ≡ []
run_answers_local p inputs s r d rem [] early g = refl
run_answers_local p inputs s r d rem (Start ∷ es) early g = answers_local p inputs s r d rem es (took (note p g Began) early)
run_answers_local p inputs s r d rem (Receive source Answer m ∷ es) early g =
    run_answers_local p inputs s r d rem es early (note p g (Heard m.header.ok))
run_answers_local p inputs s r d rem (Fire t ∷ es) early g = work_no_answer p inputs s d g (work_numbered p r t)
    (run_made p inputs s r early (note p g (did (work_numbered p r t))) es)
    ∙ run_answers_local p inputs s r d rem es early (note p g (did (work_numbered p r t)))
run_answers_local p inputs s r d rem (Receive source Request m ∷ es) early g =
    at (is_stray m) (run_answers_local p inputs s r d rem es early (note p g Strayed))
    (run_answers_local p inputs s r d rem es (early ++ to_came m ∷ []) g)
  where
    at : (b : Bool) → filter (is_for d Answer) (run_made p inputs s r early (note p g Strayed) es) ≡ [] →
        filter (is_for d Answer) (run_made p inputs s r (early ++ to_came m ∷ []) g es) ≡ []
        → filter (is_for d Answer) (cond b (run_made p inputs s r early (note p g Strayed) es)
        (and_then (ack_to p m) (run_made p inputs s r (early ++ to_came m ∷ []) g es))) ≡ []
    at true a b = a
    at false a b = ap (λ v. filter (is_for d Answer) (and_then (if v then Some (ack m) else None)
        (run_made p inputs s r (early ++ to_came m ∷ []) g es))) rem ∙ b
