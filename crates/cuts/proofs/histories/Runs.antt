-- A rank's history is a history of its plan's machine: what came early lands at the start.
use Rattle.std.proofs.Common.{if◌then◌else◌, ℕ, true, false, cond, ◌≡◌, ◌<◌, ◌⊎◌, List, [], ◌∷◌, ◌++◌, refl, length, ap, ap₂, ◌∙◌, sym}
use Rattle.std.proofs.Common.{subst, inl, inr, map, Option, Some, None, append-nil, append_assoc, arith, ◌&&◌, ◌+◌, ◌==◌, count_by}
use Rattle.std.proofs.Common.{zero-add}
use Rattle.ni_model.specs.Ready.{Fires}
use Rattle.ni_model.specs.State.{Delivers, State, target}
use Rattle.op_laws.specs.Combining.{CombineStarts}
use Rattle.cuts.specs.histories.Plans.{StartsPass, start_of}
use Rattle.plan_core.proofs.Links.{In-in_links, out_links-In}
use Rattle.plan_core.proofs.Lists.{count-cons}
use Rattle.plan_core.specs.Members.{In}
use Rattle.plan_core.specs.Plan.{is_bump, link, Plan}
use Rattle.cuts.proofs.machine.RankOps.{rank_ops-along}
use Rattle.cuts.specs.machine.Machine.{note_work, MayMove, Move, Moves, came, note, seen, source_rank}
use Rattle.cuts.specs.machine.Seen.{bumps, nothing_seen, reached_count, to_cell, Came, Seen}
use Rattle.plan_core.specs.calls.RankOps.{rank_ops, RankOp}
use Rattle.std.specs.Prelude.{Bool}
use Rattle.plan_core.specs.calls.RankOps.RankOp.{ForLink, ForDone}
use Rattle.std.proofs.lemmas.Bool.{and_right, ne_eqb}
use Rattle.plan_core.specs.Sound.{SoundPlan}
use Rattle.plan_core.specs.Values.{Inputs}
use Rattle.cuts.proofs.histories.Origin.{ack_with}
use Rattle.cuts.proofs.histories.Simulate.{go_up, AllConform, IsLink, ack_to, all_made, did, link-no_stray, moves_of, numbered}
use Rattle.cuts.proofs.histories.Simulate.{sent_by_work, simulates_all, sized_work, started_work, work_numbered}
use Rattle.cuts.proofs.histories.Traffic.{to_came}
use Rattle.cuts.specs.histories.Cut.{is_stray}
use Rattle.cuts.specs.histories.History.{Beginning, Legal, Local, after, and_then, made, made_by, state}
use Rattle.cuts.specs.histories.History.Local.{Fire, Receive, Start}
use Rattle.cuts.proofs.start.Areas.{MayLie}
use Rattle.cuts.proofs.start.Receiving.{step_early}
use Rattle.cuts.proofs.start.Starting.{seen_took}
use Rattle.cuts.proofs.histories.Stepping.{annex-quiet, waiting_ack, waiting_fire, waiting_stray, lie-front, step_run_start}
use Rattle.cuts.specs.start.Waiting.{annex_of, waiting_view, took}
use Rattle.cuts.specs.machine.Machine.Move.{Began, Heard, Strayed, Took}
use Rattle.cuts.proofs.view.StepArrive.{due-here}
use Rattle.cuts.proofs.view.StepFire.{ready_work}
use Rattle.cuts.specs.view.Slots.{Slots, cell_ct}
use Rattle.cuts.specs.view.TriggeredOps.{link_message}
use Rattle.cuts.specs.view.View.{view}
use Rattle.cuts.specs.view.Steps.{Sized}
use Rattle.ptl_types.specs.Messages.{Sent}
use Rattle.ptl_types.specs.declared.headers.AckRequest.TheVariants.{CtAck}
use Rattle.ptl_types.specs.declared.headers.Header.{Header}
use Rattle.ptl_types.specs.declared.headers.Lane.TheVariants.{Answer, Request}
use Rattle.cuts.proofs.start.Sized.{sized_took}

abbrev pub tk : Came → Move
tk a = Took a.link a.bytes

-- ---- after the start there is no other, so what a start does is of no matter
pub legal-any : (go to : Beginning) (v : State) (es : List Local) → Legal go true v es → Legal to true v es
legal-any go to v [] l = tt
legal-any go to v (Start ∷ es) l = let q = l.0 in cc
legal-any go to v (Receive s n m ∷ es) l = (l.0, legal-any go to (after go v (Receive s n m)) es l.1)
legal-any go to v (Fire t ∷ es) l = (l.0, legal-any go to (after go v (Fire t)) es l.1)

pub state-any : (go to : Beginning) (v : State) (es : List Local) → Legal go true v es → state go v es ≡ state to v es
state-any go to v [] l = refl
state-any go to v (Start ∷ es) l = let q = l.0 in cc
state-any go to v (Receive s n m ∷ es) l = state-any go to (after go v (Receive s n m)) es l.1
state-any go to v (Fire t ∷ es) l = state-any go to (after go v (Fire t)) es l.1

pub made-any : (go to : Beginning) (v : State) (es : List Local) → Legal go true v es → made go v es ≡ made to v es
made-any go to v [] l = refl
made-any go to v (Start ∷ es) l = let q = l.0 in cc
made-any go to v (Receive s n m ∷ es) l = ap (and_then (made_by v (Receive s n m))) (made-any go to (after go v (Receive s n m)) es l.1)
made-any go to v (Fire t ∷ es) l = ap (and_then (made_by v (Fire t))) (made-any go to (after go v (Fire t)) es l.1)

-- ---- moves
pub moves-took : (p : Plan) (r : ℕ) (early : List Came) (g : Seen) (ms : List Move) → Moves p r (took g early) ms →
    Moves p r g (map tk early ++ ms)
moves-took p r [] g ms h = subst (λ v. Moves p r v ms) (ap (λ v. record g { came = v }) (append-nil g.came)) h
moves-took p r (a ∷ early) g ms h = (
  tt,
  moves-took p r early (note p g (tk a)) ms
      (subst (λ v. Moves p r v ms) (ap (λ v. record g { came = v }) (sym (append_assoc g.came (a ∷ []) early))) h),
)

pub seen-took-append : (p : Plan) (early : List Came) (g : Seen) (ms : List Move) → seen p g (map tk early ++ ms) ≡ seen p (took g early) ms
seen-took-append p [] g ms = ap (λ v. seen p (record g { came = v }) ms) (sym (append-nil g.came))
seen-took-append p (a ∷ early) g ms = seen-took-append p early (note p g (tk a)) ms
    ∙ ap (λ v. seen p (record g { came = v }) ms) (append_assoc g.came (a ∷ []) early)

abbrev pub run_moves : Plan → ℕ → List Came → List Local → List Move
run_moves p r early [] = []
run_moves p r early (Start ∷ es) = Began ∷ (map tk early ++ moves_of p r es)
run_moves p r early (Receive source Request m ∷ es) = if is_stray m then Strayed ∷ run_moves p r early es else run_moves p r
    (early ++ to_came m ∷ []) es
run_moves p r early (Receive source Answer m ∷ es) = Heard m.header.ok ∷ run_moves p r early es
run_moves p r early (Fire t ∷ es) = did (work_numbered p r t) ∷ run_moves p r early es

-- the messages of links that come before the start
abbrev pub before_start : List Local → List Came
before_start [] = []
before_start (Start ∷ es) = []
before_start (Receive source Request m ∷ es) = if is_stray m then before_start es else to_came m ∷ before_start es
before_start (Receive source Answer m ∷ es) = before_start es
before_start (Fire t ∷ es) = before_start es

-- ---- the messages that it makes, and its state at the end
abbrev pub run_made : Plan → Inputs → Slots → ℕ → List Came → Seen → List Local → List Sent
run_made p inputs s r early g [] = []
run_made p inputs s r early g (Start ∷ es) = all_made p inputs s r (took (note p g Began) early) es
run_made p inputs s r early g (Receive source Request m ∷ es) = if is_stray m then run_made p inputs s r early (note p g Strayed) es else
    and_then (ack_to p m) (run_made p inputs s r (early ++ to_came m ∷ []) g es)
run_made p inputs s r early g (Receive source Answer m ∷ es) = run_made p inputs s r early (note p g (Heard m.header.ok)) es
run_made p inputs s r early g (Fire t ∷ es) = and_then (sent_by_work p inputs s g (work_numbered p r t))
    (run_made p inputs s r early (note p g (did (work_numbered p r t))) es)

abbrev pub run_state : Plan → Inputs → (ℕ → Slots) → ℕ → List Came → Seen → List Local → State
run_state p inputs k r early g [] = waiting_view p inputs (k r) r k early g
run_state p inputs k r early g (Start ∷ es) = view (annex_of p (k r) r early) p inputs (k r) r
    (seen p (took (note p g Began) early) (moves_of p r es))
run_state p inputs k r early g (Receive source Request m ∷ es) = if is_stray m then run_state p inputs k r early (note p g Strayed) es
    else run_state p inputs k r (early ++ to_came m ∷ []) g es
run_state p inputs k r early g (Receive source Answer m ∷ es) = run_state p inputs k r early (note p g (Heard m.header.ok)) es
run_state p inputs k r early g (Fire t ∷ es) = run_state p inputs k r early (note p g (did (work_numbered p r t))) es

pub record SimulatesRun (p : Plan) (inputs : Inputs) (k : ℕ → Slots) (r : ℕ) (early : List Came) (g : Seen) (es : List Local) : Type 0 where
  pub ends : state (start_of p (k r) r) (waiting_view p inputs (k r) r k early g) es ≡ run_state p inputs k r early g es
  pub moves : Moves p r g (run_moves p r early es)
  pub sized : Sized p inputs (seen p g (run_moves p r early es))
  pub makes_them : made (start_of p (k r) r) (waiting_view p inputs (k r) r k early g) es ≡ run_made p inputs (k r) r early g es
  pub accepted : StartsPass p (k r) r (waiting_view p inputs (k r) r k early g) es

sized_all : (p : Plan) (inputs : Inputs) → SoundPlan p (length inputs) → (r : ℕ) (early : List Came) → MayLie p r early → (g : Seen) →
    Sized p inputs g → Sized p inputs (took g early)
sized_all p inputs sound r [] h g sized = subst (Sized p inputs) (ap (λ v. record g { came = v }) (sym (append-nil g.came))) sized
sized_all p inputs sound r (a ∷ early) h g sized =
    subst (Sized p inputs) (ap (λ v. record g { came = v }) (append_assoc g.came (a ∷ []) early))
    (sized_all p inputs sound r early (record { here = λ b i. h.here b (inr i); size = λ b i. h.size b (inr i); once = h.once.1 })
    (note p g (tk a)) (sized_took p inputs sound r a.link g (h.here a (inl refl)) sized a.bytes (h.size a (inl refl))))

-- after a start there is none
accepted-behind : (p : Plan) (k : Slots) (r : ℕ) (v : State) (es : List Local) → Legal (start_of p k r) true v es → StartsPass p k r v es
accepted-behind p k r v [] l = tt
accepted-behind p k r v (Start ∷ es) l = let q = l.0 in cc
accepted-behind p k r v (Receive s n m ∷ es) l = accepted-behind p k r (after (start_of p k r) v (Receive s n m)) es l.1
accepted-behind p k r v (Fire t ∷ es) l = accepted-behind p k r (after (start_of p k r) v (Fire t)) es l.1

-- at the beginning nothing has raised a counter
pub nothing_raised : (p : Plan) (r c : ℕ) → reached_count p nothing_seen r c ≡ 0
nothing_raised p r c = let z = none (c == r) in omega arith
  where
    none : (b : Bool) → cond {A = ℕ} (b && false) 1 0 ≡ 0
    none true = refl
    none false = refl

-- no operation raises a go counter
pub unraised_work : (p : Plan) (inputs : Inputs) → SoundPlan p (length inputs) → (r : ℕ) → r < p.ranks → (g : Seen) (w : RankOp) →
    In w (rank_ops p r) → reached_count p (note_work p g w) r r ≡ reached_count p g r r
unraised_work p inputs sound r in_range g (ForDone c) i =
    ap (λ n. cond ((r == r) && g.started) 1 0 + (count_by (to_cell p r) g.came + n)) (count-cons (bumps p r) (ForDone c) g.fired
    ∙ zero-add (count_by (bumps p r) g.fired))
unraised_work p inputs sound r in_range g (ForLink l) i =
    let known = (out_links-In p r l (rank_ops-along p r l i)).0 in
    let q : ((link p l).target == r) ≡ false = ne_eqb _ _ (λ e. subst (λ v. In l v) (sound.go_needs r in_range).1
    (In-in_links p r l known e)) in
    ap (λ n. cond ((r == r) && g.started) 1 0 + (count_by (to_cell p r) g.came + n))
    (count-cons (bumps p r) (ForLink l) g.fired ∙ ap (λ b. cond b 1 0 + count_by (bumps p r) g.fired)
    (and_right (is_bump (link p l).kind) _ q) ∙ zero-add (count_by (bumps p r) g.fired))

pub simulates_run : (p : Plan) (inputs : Inputs) → SoundPlan p (length inputs) → CombineStarts → (k : ℕ → Slots) (r : ℕ) → r < p.ranks →
    (es : List Local) (early : List Came) (g : Seen) → Sized p inputs g → g.started ≡ false → reached_count p g r r ≡ 0
    → MayLie p r (early ++ before_start es) → Legal (start_of p (k r) r) false (waiting_view p inputs (k r) r k early g) es →
    AllConform p k r es → SimulatesRun p inputs k r early g es
simulates_run p inputs sound starts k r in_range [] early g sized fresh unraised lie legal fine =
    record { ends = refl; moves = tt; sized = sized; makes_them = refl; accepted = tt }
simulates_run p inputs sound starts k r in_range (Start ∷ es) early g sized fresh unraised lie legal fine =
    let lie_early : MayLie p r early = subst (MayLie p r) (append-nil early) lie in
    let go = start_of p (k r) r in
    let n = annex_of p (k r) r early in
    let g' = took (note p g Began) early in
    let one = step_run_start p inputs sound (k r) r k starts in_range early lie_early g sized fresh unraised in
    let next : (start_of p (k r) r).by (waiting_view p inputs (k r) r k early g) ≡ view (annex_of p (k r) r early) p inputs (k r) r
    (took (note p g Began) early) =
    one.next ∙ ap (view (annex_of p (k r) r early) p inputs (k r) r) (seen_took p (note p g Began) early) in
    let legal' = subst (λ v. Legal (start_of p (k r) r) true v es) next legal.1 in
    let all = simulates_all (annex_of p (k r) r early) (annex-quiet p inputs sound (k r) r k early) p inputs sound k r in_range es
    (took (note p g Began) early) (sized_all p inputs sound r early lie_early (note p g Began) sized)
    (legal-any (start_of p (k r) r) (go_up (cell_ct p (k r) r))
    (view (annex_of p (k r) r early) p inputs (k r) r (took (note p g Began) early)) es legal') fine.1 in
    record {
      ends = ap (λ v. state go v es) next ∙ state-any go (go_up (cell_ct p (k r) r)) (view n p inputs (k r) r g') es legal' ∙ all.ends;
      moves = (fresh, moves-took p r early (note p g Began) (moves_of p r es) all.moves);
      sized = subst (Sized p inputs) (sym (seen-took-append p early (note p g Began) (moves_of p r es))) all.sized;
      makes_them = ap (λ v. made go v es) next ∙ made-any go (go_up (cell_ct p (k r) r)) (view n p inputs (k r) r g') es legal'
          ∙ all.makes_them;
      accepted = (
        one.appends,
        one.raises,
        accepted-behind p (k r) r ((start_of p (k r) r).by (waiting_view p inputs (k r) r k early g))
            es legal.1,
      );
    }
simulates_run p inputs sound starts k r in_range (Fire t ∷ es) early g sized fresh unraised lie legal fine =
    let n = annex_of p (k r) r early in
    let go = start_of p (k r) r in
    let q = ready_work (annex_of p (k r) r early) p inputs sound (k r) r g t legal.0 in
    let num : work_numbered p r t ≡ Some q.0 = numbered p r t q.0 q.1.ours q.1.number in
    let f = waiting_fire p inputs sound (k r) r k early g t q.0 sized q.1 in
    let g' = note p g (did (work_numbered p r t)) in
    let next : after go (waiting_view p inputs (k r) r k early g) (Fire t) ≡ waiting_view p inputs (k r) r k early
    (note p g (did (work_numbered p r t))) = ap (λ (x : Fires). x.state) f
    ∙ ap (λ (o : Option RankOp). waiting_view p inputs (k r) r k early (note p g (did o))) (sym num) in
    let rest = simulates_run p inputs sound starts k r in_range es early (note p g (did (work_numbered p r t)))
    (subst (λ (o : Option RankOp). Sized p inputs (note p g (did o))) (sym num) (sized_work p inputs g q.0 sized))
    (subst (λ (o : Option RankOp). (note p g (did o)).started ≡ false) (sym num) (started_work p g q.0 ∙ fresh))
    (subst (λ (o : Option RankOp). reached_count p (note p g (did o)) r r ≡ 0) (sym num)
    (unraised_work p inputs sound r in_range g q.0 q.1.ours ∙ unraised))
    lie (subst (λ v. Legal (start_of p (k r) r) false v es) next legal.1) fine.1 in
    record {
      ends = ap (λ v. state go v es) next ∙ rest.ends;
      moves = (subst (λ (o : Option RankOp). MayMove p r g (did o)) (sym num) (q.1.ours, q.1.pending, q.1.reached), rest.moves);
      sized = rest.sized;
      makes_them = ap₂ (λ o v. and_then o (made go v es)) (ap (λ (x : Fires). x.message) f
          ∙ ap (λ (o : Option RankOp). sent_by_work p inputs (k r) g o) (sym num)) next
          ∙ ap (and_then (sent_by_work p inputs (k r) g (work_numbered p r t))) rest.makes_them;
      accepted = subst (λ v. StartsPass p (k r) r v es) (sym next) rest.accepted;
    }
simulates_run p inputs sound starts k r in_range (Receive source Answer m ∷ es) early g sized fresh unraised lie legal fine =
    let n = annex_of p (k r) r early in
    let go = start_of p (k r) r in
    let f = waiting_ack p inputs sound (k r) r k early g m fine.0 (due-here n p inputs (k r) r g m fine.0 legal.0.4) in
    let rest = simulates_run p inputs sound starts k r in_range es early (note p g (Heard m.header.ok)) sized fresh unraised lie
    (subst (λ v. Legal (start_of p (k r) r) false v es) (ap (λ (x : Delivers). x.state) f) legal.1) fine.1 in
    record {
      ends = ap (λ (x : Delivers). state go x.state es) f ∙ rest.ends;
      moves = (tt, rest.moves);
      sized = rest.sized;
      makes_them = ap (λ (x : Delivers). and_then x.delivered.answer (made go x.state es)) f ∙ rest.makes_them;
      accepted = subst (λ v. StartsPass p (k r) r v es) (sym (ap (λ (x : Delivers). x.state) f)) rest.accepted;
    }
simulates_run p inputs sound starts k r in_range (Receive source Request m ∷ es) early g sized fresh unraised lie legal fine =
    at fine.0 (λ g' e early' l2 u l3 l4 l5. simulates_run p inputs sound starts k r in_range es early' g' e l2 u l3 l4 l5)
  where
    go : Beginning
    go = start_of p (k r) r

    at : (is_stray m ≡ true) ⊎ IsLink p k r m
        → ((g' : Seen) → Sized p inputs g' → (early' : List Came) → g'.started ≡ false → reached_count p g' r r ≡ 0 →
        MayLie p r (early' ++ before_start es) → Legal (start_of p (k r) r) false (waiting_view p inputs (k r) r k early' g') es →
        AllConform p k r es → SimulatesRun p inputs k r early' g' es)
        → SimulatesRun p inputs k r early g (Receive source Request m ∷ es)
    at (inl stray) later =
        let f = waiting_stray p inputs sound (k r) r k early g m stray in
        let lie' : MayLie p r (early ++ before_start es) = subst
        (λ b. MayLie p r (early ++ cond b (before_start es) (to_came m ∷ before_start es))) stray lie in
        let rest = later (note p g Strayed) sized early fresh unraised lie'
        (subst (λ v. Legal (start_of p (k r) r) false v es) (ap (λ (x : Delivers). x.state) f) legal.1) fine.1 in
        record {
          ends = ap (λ (x : Delivers). state go x.state es) f ∙ rest.ends
              ∙ ap (λ b. cond b (run_state p inputs k r early (note p g Strayed) es)
              (run_state p inputs k r (early ++ to_came m ∷ []) g es)) (sym stray);
          moves = subst (λ b. Moves p r g (cond b (Strayed ∷ run_moves p r early es) (run_moves p r (early ++ to_came m ∷ []) es)))
              (sym stray) (tt, rest.moves);
          sized = subst (λ b. Sized p inputs (seen p g (cond b (Strayed ∷ run_moves p r early es)
              (run_moves p r (early ++ to_came m ∷ []) es)))) (sym stray) rest.sized;
          makes_them = ap (λ (x : Delivers). and_then x.delivered.answer (made go x.state es)) f ∙ rest.makes_them
              ∙ ap (λ b. cond b (run_made p inputs (k r) r early (note p g Strayed) es)
              (and_then (ack_to p m) (run_made p inputs (k r) r (early ++ to_came m ∷ []) g es))) (sym stray);
          accepted = subst (λ v. StartsPass p (k r) r v es) (sym (ap (λ (x : Delivers). x.state) f)) rest.accepted;
        }
    at (inr x) later =
        let clean = link-no_stray p inputs sound (k (source_rank p x.l)) r x.l x.here m x.header in
        let number : x.l ≡ m.header.hdr_data = sym (ap (λ (h : Header). h.hdr_data) x.header) in
        let is : came x.l m.bytes ≡ to_came m = ap (λ n. came n m.bytes) number in
        let lie' : MayLie p r ((early ++ to_came m ∷ []) ++ before_start es) =
        subst (MayLie p r) (sym (append_assoc early (to_came m ∷ []) (before_start es)))
        (subst (λ b. MayLie p r (early ++ cond b (before_start es) (to_came m ∷ before_start es))) clean lie) in
        let more : MayLie p r (early ++ came x.l m.bytes ∷ []) = subst (λ c. MayLie p r (early ++ c ∷ [])) (sym is)
        (lie-front p r (early ++ to_came m ∷ []) (before_start es) lie') in
        let front : MayLie p r early = lie-front p r early (came x.l m.bytes ∷ []) more in
        let whole : m ≡ link_message p (k (source_rank p x.l)) x.l m.bytes = ap (λ (h : Header). record { header = h; bytes = m.bytes })
        x.header in
        let f = ap (target (waiting_view p inputs (k r) r k early g)) whole ∙ step_early p inputs sound (k r) r early x.l m.bytes front
        more k g sized in
        let next : after go (waiting_view p inputs (k r) r k early g) (Receive source Request m) ≡ waiting_view p inputs (k r) r k
        (early ++ to_came m ∷ []) g = ap (λ (d : Delivers). d.state) f
        ∙ ap (λ c. waiting_view p inputs (k r) r k (early ++ c ∷ []) g) is in
        let rest = later g sized (early ++ to_came m ∷ []) fresh unraised lie'
        (subst (λ v. Legal (start_of p (k r) r) false v es) next legal.1) fine.1 in
        let answers : (target (waiting_view p inputs (k r) r k early g) m).delivered.answer ≡ ack_to p m =
        ap (λ (d : Delivers). d.delivered.answer) f ∙ ap (λ (h : Header). if p.remote then Some
        (record { header = ack_with CtAck true h.length h; bytes = [] }) else None) (sym x.header) in
        record {
          ends = ap (λ v. state go v es) next ∙ rest.ends ∙ ap
              (λ b. cond b (run_state p inputs k r early (note p g Strayed) es) (run_state p inputs k r (early ++ to_came m ∷ []) g es))
              (sym clean);
          moves = subst (λ b. Moves p r g (cond b (Strayed ∷ run_moves p r early es) (run_moves p r (early ++ to_came m ∷ []) es)))
              (sym clean) rest.moves;
          sized = subst (λ b. Sized p inputs (seen p g (cond b (Strayed ∷ run_moves p r early es)
              (run_moves p r (early ++ to_came m ∷ []) es)))) (sym clean) rest.sized;
          makes_them = ap₂ (λ o v. and_then o (made go v es)) answers next ∙ ap (and_then (ack_to p m)) rest.makes_them
              ∙ ap (λ b. cond b (run_made p inputs (k r) r early (note p g Strayed) es)
              (and_then (ack_to p m) (run_made p inputs (k r) r (early ++ to_came m ∷ []) g es))) (sym clean);
          accepted = subst (λ v. StartsPass p (k r) r v es) (sym next) rest.accepted;
        }
