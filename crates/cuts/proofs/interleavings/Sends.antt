-- What a rank of a plan sends in a cut, from what is listed of its history: the links along which its operations send, with the bytes of
-- their sources' values.
use Rattle.std.proofs.Common.{ℕ, suc, Bool, true, false, cond, not, ◌&&◌, ◌||◌, ◌==◌, ◌≡◌, ◌<◌, List, [], ◌∷◌, ◌++◌, refl, length, map}
use Rattle.std.proofs.Common.{filter, ap, ap₂, ◌∙◌, sym, inl, inr, arith, Option, Some, None, if◌then◌else◌}
use Rattle.ptl_types.specs.declared.headers.Lane.TheVariants.{Answer, Request}
use Rattle.ptl_types.specs.declared.steps.LocalStep.{LocalStep}
use Rattle.ptl_types.specs.declared.steps.LocalStep.TheVariants.{Start as Starts, Receive as Receives, Fire as Fires}
use Rattle.ni_model.specs.State.{State}
use Rattle.op_laws.specs.Combining.{CombineStarts, CombineSwaps}
use Rattle.plan_core.specs.Members.{In}
use Rattle.plan_core.specs.Plan.{Plan, is_bump, link}
use Rattle.plan_core.specs.Sound.{AreInputsOf, SoundPlan}
use Rattle.plan_core.specs.Values.{Inputs, due}
use Rattle.plan_core.specs.calls.RankOps.{RankOp}
use Rattle.plan_core.specs.calls.RankOps.RankOp.{ForLink, ForDone}
use Rattle.cuts.specs.view.Slots.{Slots}
use Rattle.cuts.proofs.machine.Central.{all_good, ours_nothing, outs_good}
use Rattle.cuts.specs.machine.Machine.{came, link_of, note, outs, out_of, sending}
use Rattle.cuts.specs.machine.Machine.Move.{Began, Heard, Strayed, Took}
use Rattle.cuts.specs.machine.Seen.{Came, Seen, nothing_seen}
use Rattle.cuts.specs.histories.Cut.{IsCut, is_stray, owned}
use Rattle.cuts.specs.histories.History.{Beginning, Legal, Local, after, got}
use Rattle.cuts.specs.histories.History.Local.{Fire, Receive, Start}
use Rattle.cuts.specs.histories.Plans.{system_of}
use Rattle.cuts.specs.histories.System.{Histories, sent_by}
use Rattle.cuts.proofs.histories.FromCut.{machine_cut, moves_at, sent_requests}
use Rattle.cuts.proofs.histories.Runs.{run_moves, tk}
use Rattle.cuts.proofs.histories.Simulate.{did, moves_of, work_numbered}
use Rattle.cuts.proofs.histories.Traffic.{as_message, came_from, goes_to, own_received, to_came}
use Rattle.cuts.specs.orders.Taking.{listed}

-- ---- the links along which a rank sends, by its firings
abbrev pub along_work : Plan → Option RankOp → List ℕ
along_work p None = []
along_work p (Some (ForDone c)) = []
along_work p (Some (ForLink l)) = if is_bump (link p l).kind then [] else l ∷ []

abbrev pub along : Plan → ℕ → List LocalStep → List ℕ
along p r [] = []
along p r (Starts ∷ xs) = along p r xs
along p r (Receives s lane ∷ xs) = along p r xs
along p r (Fires t ∷ xs) = along_work p (work_numbered p r t) ++ along p r xs

links-append : (xs ys : List Came) → map link_of (xs ++ ys) ≡ map link_of xs ++ map link_of ys
links-append [] ys = refl
links-append (x ∷ xs) ys = ap (λ v. link_of x ∷ v) (links-append xs ys)

work-links : (p : Plan) (inputs : Inputs) (g : Seen) (o : Option RankOp) → map link_of (out_of p inputs g (did o)) ≡ along_work p o
work-links p inputs g None = refl
work-links p inputs g (Some (ForDone c)) = refl
work-links p inputs g (Some (ForLink l)) = at (is_bump (link p l).kind)
  where
    at : (b : Bool) → map link_of (cond b [] (sending p inputs g l ∷ [])) ≡ cond b [] (l ∷ [])
    at true = refl
    at false = refl

moves-links : (p : Plan) (inputs : Inputs) (r : ℕ) (es : List Local) (g : Seen)
    → map link_of (outs p inputs g (moves_of p r es)) ≡ along p r (map listed es)
moves-links p inputs r [] g = refl
moves-links p inputs r (Start ∷ es) g = moves-links p inputs r es (note p g Began)
moves-links p inputs r (Receive s Answer m ∷ es) g = moves-links p inputs r es (note p g (Heard m.header.ok))
moves-links p inputs r (Receive s Request m ∷ es) g = at (is_stray m) (λ h. moves-links p inputs r es h)
  where
    at : (b : Bool) → ((h : Seen) → map link_of (outs p inputs h (moves_of p r es)) ≡ along p r (map listed es))
        → map link_of (outs p inputs g (cond b Strayed (Took m.header.hdr_data m.bytes) ∷ moves_of p r es)) ≡ along p r (map listed es)
    at true rest = rest (note p g Strayed)
    at false rest = rest (note p g (Took m.header.hdr_data m.bytes))
moves-links p inputs r (Fire t ∷ es) g =
    links-append (out_of p inputs g (did (work_numbered p r t))) (outs p inputs (note p g (did (work_numbered p r t))) (moves_of p r es))
    ∙ ap₂ (λ x y. x ++ y) (work-links p inputs g (work_numbered p r t)) (moves-links p inputs r es (note p g (did (work_numbered p r t))))

took-links : (p : Plan) (inputs : Inputs) (r : ℕ) (early : List Came) (es : List Local) (g : Seen)
    → map link_of (outs p inputs g (map tk early ++ moves_of p r es)) ≡ along p r (map listed es)
took-links p inputs r [] es g = moves-links p inputs r es g
took-links p inputs r (a ∷ early) es g = took-links p inputs r early es (note p g (tk a))

run-links : (p : Plan) (inputs : Inputs) (r : ℕ) (es : List Local) (early : List Came) (g : Seen)
    → map link_of (outs p inputs g (run_moves p r early es)) ≡ along p r (map listed es)
run-links p inputs r [] early g = refl
run-links p inputs r (Start ∷ es) early g = took-links p inputs r early es (note p g Began)
run-links p inputs r (Receive s Answer m ∷ es) early g = run-links p inputs r es early (note p g (Heard m.header.ok))
run-links p inputs r (Receive s Request m ∷ es) early g =
    at (is_stray m) (run-links p inputs r es early (note p g Strayed)) (run-links p inputs r es (early ++ to_came m ∷ []) g)
  where
    at : (b : Bool)
        → map link_of (outs p inputs (note p g Strayed) (run_moves p r early es)) ≡ along p r (map listed es)
        → map link_of (outs p inputs g (run_moves p r (early ++ to_came m ∷ []) es)) ≡ along p r (map listed es)
        → map link_of (outs p inputs g (cond b (Strayed ∷ run_moves p r early es) (run_moves p r (early ++ to_came m ∷ []) es)))
        ≡ along p r (map listed es)
    at true strayed took = strayed
    at false strayed took = took
run-links p inputs r (Fire t ∷ es) early g =
    links-append (out_of p inputs g (did (work_numbered p r t)))
    (outs p inputs (note p g (did (work_numbered p r t))) (run_moves p r early es))
    ∙ ap₂ (λ x y. x ++ y) (work-links p inputs g (work_numbered p r t))
    (run-links p inputs r es early (note p g (did (work_numbered p r t))))

-- ---- with the bytes of their values
abbrev pub brought : Plan → Inputs → ℕ → Came
brought p inputs l = came l (due p inputs l)

brought-all : (p : Plan) (inputs : Inputs) (cs : List Came) → ((a : Came) → In a cs → a.bytes ≡ due p inputs a.link)
    → cs ≡ map (brought p inputs) (map link_of cs)
brought-all p inputs [] right = refl
brought-all p inputs (a ∷ cs) right = ap₂ (λ x xs. x ∷ xs) (ap (came a.link) (right a (inl refl)))
    (brought-all p inputs cs (λ b i. right b (inr i)))

-- ---- what was received on request lanes from one rank, where receipts tell their source
pub own-from : (d : ℕ) (go : Beginning) (b : Bool) (v : State) (es : List Local) → Legal go b v es
    → filter (came_from d) (own_received Request es) ≡ owned (got es d Request)
own-from d go b v [] l = refl
own-from d go b v (Start ∷ es) l = own-from d go (b || true) (after go v Start) es l.1
own-from d go b v (Fire t ∷ es) l = own-from d go (b || false) (after go v (Fire t)) es l.1
own-from d go b v (Receive q Answer m ∷ es) l =
    own-from d go (b || false) (after go v (Receive q Answer m)) es l.1
    ∙ ap (λ c. owned (cond c (m ∷ got es d Request) (got es d Request))) (sym (and_false (q == d)))
  where
    and_false : (c : Bool) → (c && false) ≡ false
    and_false true = refl
    and_false false = refl
own-from d go b v (Receive q Request m ∷ es) l =
    at (is_stray m) (q == d) refl (ap (λ s. s == d) l.0.0) (own-from d go (b || false) (after go v (Receive q Request m)) es l.1)
    ∙ ap (λ c. owned (cond c (m ∷ got es d Request) (got es d Request))) (sym (and_true (q == d)))
  where
    and_true : (c : Bool) → (c && true) ≡ c
    and_true true = refl
    and_true false = refl

    at : (c a : Bool) → is_stray m ≡ c → came_from d m ≡ a → filter (came_from d) (own_received Request es) ≡ owned (got es d Request)
        → filter (came_from d) (cond (not c) (m ∷ own_received Request es) (own_received Request es)) ≡ owned
        (cond a (m ∷ got es d Request) (got es d Request))
    at true true e f rest = rest ∙ ap (λ c. cond (not c) (m ∷ owned (got es d Request)) (owned (got es d Request))) (sym e)
    at true false e f rest = rest
    at false true e f rest =
        ap (λ c. cond c (m ∷ filter (came_from d) (own_received Request es)) (filter (came_from d) (own_received Request es))) f
        ∙ ap (λ x. m ∷ x) rest
        ∙ ap (λ c. cond (not c) (m ∷ owned (got es d Request)) (owned (got es d Request))) (sym e)
    at false false e f rest =
        ap (λ c. cond c (m ∷ filter (came_from d) (own_received Request es)) (filter (came_from d) (own_received Request es))) f
        ∙ rest

-- ---- in a cut
module _ (starts : CombineStarts) (p : Plan) (inputs : Inputs) (sound : SoundPlan p (length inputs)) (fit : AreInputsOf p inputs)
    (swaps : CombineSwaps) (slots : ℕ → Slots) (w : Histories) (cut : IsCut (system_of p inputs slots) w) where
  outs_are_brought : (s : ℕ) → s < p.ranks
      → outs p inputs nothing_seen (moves_at p w s) ≡ map (brought p inputs) (along p s (map listed (w s)))
  outs_are_brought s h =
      let c = machine_cut starts p inputs sound fit slots w cut in
      brought-all p inputs (outs p inputs nothing_seen (moves_at p w s))
      (λ a i. outs_good swaps p inputs sound fit s (suc (link p a.link).source) h (moves_at p w s) nothing_seen (c.moves s h)
      (ours_nothing p s) (c.proper s h)
      (λ d j. all_good swaps p inputs sound fit (moves_at p w) c s d h) a i (omega arith))
      ∙ ap (map (brought p inputs)) (run-links p inputs s (w s) [] nothing_seen)

  -- the requests are those of the listed firings
  pub requests_listed : (s d : ℕ) → s < p.ranks
      → sent_by (system_of p inputs slots) w s d Request ≡ map (as_message p (slots s))
      (filter (goes_to p d) (map (brought p inputs) (along p s (map listed (w s)))))
  requests_listed s d h =
      sent_requests starts p inputs sound fit slots w cut s d h
      ∙ ap (λ v. map (as_message p (slots s)) (filter (goes_to p d) v)) (outs_are_brought s h)
