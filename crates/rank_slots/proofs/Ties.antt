-- A step of a rank, and what it leaves of its ends.
use Rattle.std.proofs.Common.{◌≡◌, ◌<◌, ℕ, Bool, true, false, List, map, set, append-nil, [], ◌∷◌, ◌++◌, sym, refl, ap, ap₂, ◌∙◌, subst}
use Rattle.std.proofs.Common.{arith, length}
use mathlib.Core.Option.{some}
use lib.ListN.{get_elem?}
use Rattle.std.specs.Prelude.{Option, Some, None, filter}
use Rattle.std.proofs.lemmas.List.Elements.{filter-append}
use Rattle.ptl_types.specs.declared.headers.Lane.{Lane}
use Rattle.ptl_types.specs.Messages.{Sent}
use Rattle.ni_model.specs.State.{State}
use Rattle.pair_wires.specs.declared.bounds.Bounds.{Bounds}
use Rattle.pair_wires.specs.Bounds.{KeepsBounds}
use Rattle.pair_wires.specs.Wires.{WireState}
use Rattle.atomic_table.proofs.Lists.{at_map}
use Rattle.plan_core.specs.Plan.{Plan}
use Rattle.plan_core.specs.Sound.{SoundPlan}
use Rattle.plan_core.specs.Values.{Inputs}
use Rattle.plan_core.specs.calls.Lanes.{is_used_lane}
use Rattle.cuts.specs.view.Calls.{prepare}
use Rattle.cuts.specs.view.Slots.{Slots}
use Rattle.cuts.specs.histories.History.{Beginning, Local, and_then, got, is_for, made_by, sent, state}
use Rattle.cuts.specs.histories.History.Local.{Start}
use Rattle.cuts.specs.histories.Plans.{start_of}
use Rattle.cuts.proofs.histories.Fronts.{got-append, made-append}
use Rattle.rank_node.specs.Handles.{Agrees}
use Rattle.rank_node.specs.Copies.{Diary}
use Rattle.rank_node.specs.Node.{IsNode, IsStarted, NodeState, Task}
use Rattle.rank_node.specs.Plans.{IsCompiledFor}
use Rattle.rank_node.proofs.Plans.{run-state}
use Rattle.rank_slots.specs.declared.ports.OutPort.{OutPort}
use Rattle.rank_slots.specs.declared.ports.InPort.{InPort}
use Rattle.rank_slots.specs.Lists.{Each, Pairwise}
use Rattle.rank_slots.specs.Lanes.{bounds_on}
use Rattle.rank_slots.specs.Ports.{AreEnds, Flushed, Gated, Heard, InsDiffer, MayPost, OutsDiffer, Posted, Regated, SameIn, SameOut}
use Rattle.rank_slots.specs.Slots.{HasHeard, HasSent, InOk, OutOk, Tied}
use Rattle.rank_slots.specs.Joints.{Fits, Joint, in_joint, out_joint}
use Rattle.rank_slots.specs.Names.{Plate}
use Rattle.schedule_compiler.specs.Jobs.{JobOf}
use Rattle.rank_slots.proofs.Pairs.{exists_at, pairs_same, pairs_set, pairs_weaker, within}
use Rattle.rank_slots.proofs.Gates.{same-out, sent-here}
use Rattle.rank_slots.proofs.Sends.{keeps-sent}

-- one local step more
pub record Went (old new : NodeState) (e : Local) : Type 0 where
  pub task : new.task ≡ old.task
  pub strays : new.strays ≡ old.strays
  pub locals : new.diary.locals ≡ old.diary.locals ++ e ∷ []
  pub slots : (k : Slots) → Agrees k new.kept → Agrees k old.kept

-- what a history with one step more sent
sent-more : (go : Beginning) (first s : State) (h : List Local) (e : Local) (d : ℕ) (lane : Lane) → s ≡ state go first h
    → sent go first (h ++ e ∷ []) d lane ≡ sent go first h d lane ++ filter (is_for d lane) (and_then (made_by s e) [])
sent-more go first s h e d lane is =
    ap (filter (is_for d lane)) (made-append go first h (e ∷ []))
    ∙ (filter-append (is_for d lane) _ _
    ∙ ap (λ (v : State). sent go first h d lane ++ filter (is_for d lane) (and_then (made_by v e) [])) (sym is))

pub same-in : (x : InPort) → SameIn x x
same-in x = record { source = refl; lane = refl; number = refl; wire = refl; bounds = refl }

module _ (p : Plan) (inputs : Inputs) where
  pub has-sent-more : (old new : NodeState) (e : Local) (made : Option Sent) (d : ℕ) (lane : Lane) (ms : List Sent) →
      IsCompiledFor p inputs old.task.rank old.task → IsNode old → Went old new e → made ≡ made_by old.nic e →
      HasSent p inputs old d lane ms
      → HasSent p inputs new d lane (ms ++ filter (is_for d lane) (and_then made []))
  has-sent-more old new e made d lane ms compiled is went by has k agrees =
      let r = old.task.rank in let a = went.slots k agrees in
      let nic : old.nic ≡ state (start_of p k r) (prepare p inputs k r) old.diary.locals =
      run-state p inputs (λ q. k) (λ q. old.diary.locals) r old compiled is a refl in
      ap₂ (λ x (o : Option Sent). x ++ filter (is_for d lane) (and_then o [])) (has k a) by
      ∙ (sym (sent-more (start_of p k r) (prepare p inputs k r) old.nic old.diary.locals e d lane nic)
      ∙ ap₂ (λ (t : Task) h. sent (start_of p k t.rank) (prepare p inputs k t.rank) h d lane) (sym went.task) (sym went.locals))

  out-more : (old new : NodeState) (e : Local) (made : Option Sent) (x y : OutPort) → IsCompiledFor p inputs old.task.rank old.task →
      IsNode old → Went old new e → made ≡ made_by old.nic e → Posted made x y → OutOk p inputs old x → OutOk p inputs new y
  out-more old new e made x y compiled is went by posted ok =
      let task = sym went.task in
      let has = has-sent-more old new e made x.target x.lane x.end.sent compiled is went by ok.sent_is in record {
        used = subst (λ (z : Task × (ℕ × Lane)). is_used z.0 z.1.0 z.1.1)
            (λ i. (task i, (sym posted.same.target i, sym posted.same.lane i))) ok.used;
        inside = subst (λ (z : Task × ℕ). z.1 < z.0.ranks) (λ i. (task i, sym posted.same.target i)) ok.inside;
        bounds = posted.same.bounds ∙ (ok.bounds ∙ (λ i. bounds_on p (task i).rank (sym posted.same.target i) (sym posted.same.lane i)));
        sent_is = subst (λ (z : (ℕ × Lane) × List Sent). HasSent p inputs new z.0.0 z.0.1 z.1)
            (λ i. ((sym posted.same.target i, sym posted.same.lane i), sym posted.sent i)) has;
      }
    where
      is_used : Task → ℕ → Lane → Type 0
      is_used t d l = is_used_lane p t.rank d l ≡ true

  in-more : (old new : NodeState) (e : Local) (x y : InPort) → Went old new e → Heard e x y → InOk p old x → InOk p new y
  in-more old new e x y went heard ok =
      let task = sym went.task in record {
        bounds = heard.same.bounds ∙ (ok.bounds ∙ (λ i. bounds_on p (sym heard.same.source i) (task i).rank (sym heard.same.lane i)));
        got_is = heard.received ∙ (ap (λ (ms : List Sent). ms ++ got (e ∷ []) x.source x.lane) ok.got_is
            ∙ (sym (got-append old.diary.locals (e ∷ []) x.source x.lane)
            ∙ (λ i. got (sym went.locals i) (sym heard.same.source i) (sym heard.same.lane i))));
      }

  outs-differ : (made : Option Sent) (outs later : List OutPort) → Pairwise (Posted made) outs later → OutsDiffer outs → OutsDiffer later
  outs-differ made outs later pairs differ i j y z a b goal lane =
      let o = exists_at outs i (let k = within later i y a in let m = pairs.many in omega arith) in
      let q = exists_at outs j (let k = within later j z b in let m = pairs.many in omega arith) in
      let s = (pairs.each i o.0 y o.1 a).same in let t = (pairs.each j q.0 z q.1 b).same in
      differ i j o.0 q.0 o.1 q.1 (sym s.target ∙ (goal ∙ t.target)) (sym s.lane ∙ (lane ∙ t.lane))

  ins-differ : (e : Local) (ins later : List InPort) → Pairwise (Heard e) ins later → InsDiffer ins → InsDiffer later
  ins-differ e ins later pairs differ i j y z a b source lane =
      let o = exists_at ins i (let k = within later i y a in let m = pairs.many in omega arith) in
      let q = exists_at ins j (let k = within later j z b in let m = pairs.many in omega arith) in
      let s = (pairs.each i o.0 y o.1 a).same in let t = (pairs.each j q.0 z q.1 b).same in
      differ i j o.0 q.0 o.1 q.1 (sym s.source ∙ (source ∙ t.source)) (sym s.lane ∙ (lane ∙ t.lane))

  -- the ends were told of the step: so they tell the new history
  pub tied-step : (old new : NodeState) (e : Local) (made : Option Sent) (outs outs' : List OutPort) (ins ins' : List InPort) →
      IsNode old → Went old new e → made ≡ made_by old.nic e
      → Pairwise (Posted made) outs outs' → Pairwise (Heard e) ins ins' → Gated new.closed outs' → HasHeard p new →
      Tied p inputs old outs ins → Tied p inputs new outs' ins'
  tied-step old new e made outs outs' ins ins' is went by posted heard gated has tied = record {
    compiled = subst (λ (t : Task). IsCompiledFor p inputs t.rank t) (sym went.task) tied.compiled;
    strays = went.strays ∙ tied.strays;
    heard = has;
    out = λ i y a. let x = exists_at outs i (let k = within outs' i y a in let m = posted.many in omega arith) in
        out-more old new e made x.0 y tied.compiled is went by (posted.each i x.0 y x.1 a) (tied.out i x.0 x.1);
    into = λ i y a. let x = exists_at ins i (let k = within ins' i y a in let m = heard.many in omega arith) in
        in-more old new e x.0 y went (heard.each i x.0 y x.1 a) (tied.into i x.0 x.1);
    outs_differ = outs-differ made outs outs' posted tied.outs_differ;
    ins_differ = ins-differ e ins ins' heard tied.ins_differ;
    gated = gated;
  }

  -- ---- a step that receives nothing
  abbrev pub Silent : Local → Type 0
  Silent e = (s : ℕ) (lane : Lane) → got (e ∷ []) s lane ≡ []

  pub still-heard : (old new : NodeState) (e : Local) → Went old new e → Silent e → HasHeard p old → HasHeard p new
  still-heard old new e went silent heard s lane =
      let same : got old.diary.locals s lane ≡ got new.diary.locals s lane =
      sym (ap (λ h. got h s lane) went.locals ∙ (got-append old.diary.locals (e ∷ []) s lane
      ∙ (ap (λ (ms : List Sent). got old.diary.locals s lane ++ ms) (silent s lane) ∙ append-nil (got old.diary.locals s lane)))) in
      subst (λ (z : Task × List Sent). KeepsBounds (bounds_on p s z.0.rank lane) z.1) (λ i. (sym went.task i, same i)) (heard s lane)

  pub not-heard : (e : Local) (ins : List InPort) → Silent e → Pairwise (Heard e) ins ins
  not-heard e ins silent = pairs_same (Heard e) ins (λ x. record {
    same = same-in x;
    received =
        sym (ap (λ (ms : List Sent). x.end.received ++ ms) (silent x.source x.lane) ∙ append-nil x.end.received);
  })

  pub not-posted : (outs : List OutPort) → Pairwise (Posted None) outs outs
  not-posted outs = pairs_same (Posted None) outs (λ x. record { same = same-out x; sent = sym (append-nil x.end.sent) })

  -- a start
  pub started-went : (old new : NodeState) → IsStarted old new → Went old new Start
  started-went old new s = record { task = s.task; strays = s.strays; locals = ap (λ (d : Diary). d.locals) s.diary; slots = s.slots }

  pub tied-start : (old new : NodeState) (outs : List OutPort) (ins : List InPort) → IsNode old → IsStarted old new →
      Tied p inputs old outs ins → Tied p inputs new outs ins
  tied-start old new outs ins is s tied =
      let went = started-went old new s in
      tied-step old new Start None outs outs ins ins is went refl (not-posted outs) (not-heard Start ins (λ s lane. refl))
      (subst (λ (c : List Bool). Gated c outs) (sym s.closed) tied.gated) (still-heard old new Start went (λ s lane. refl) tied.heard) tied

  -- ---- a node whose gates were noted
  pub went-regated : (a b c : NodeState) (e : Local) → Went a b e → Regated b c → Went a c e
  went-regated a b c e went re = record {
    task = ap (λ (n : NodeState). n.task) re.same ∙ went.task;
    strays = ap (λ (n : NodeState). n.strays) re.same ∙ went.strays;
    locals = ap (λ (n : NodeState). n.diary.locals) re.same ∙ went.locals;
    slots = λ k a. went.slots k (subst (λ (n : NodeState). Agrees k n.kept) re.same a);
  }

  pub heard-regated : (b c : NodeState) → Regated b c → HasHeard p b → HasHeard p c
  heard-regated b c re heard = subst (HasHeard p) (sym re.same) heard

  abbrev SameSent : OutPort → OutPort → Type 0
  SameSent x y = SameOut x y × (y.end.sent ≡ x.end.sent)

  out-same : (n : NodeState) (x y : OutPort) → SameSent x y → OutOk p inputs n x → OutOk p inputs n y
  out-same n x y same ok = record {
    used = subst (λ (z : ℕ × Lane). is_used_lane p n.task.rank z.0 z.1 ≡ true) (λ i. (sym same.0.target i, sym same.0.lane i)) ok.used;
    inside = subst (λ d. d < n.task.ranks) (sym same.0.target) ok.inside;
    bounds = same.0.bounds ∙ (ok.bounds ∙ (λ i. bounds_on p n.task.rank (sym same.0.target i) (sym same.0.lane i)));
    sent_is = subst (λ (z : (ℕ × Lane) × List Sent). HasSent p inputs n z.0.0 z.0.1 z.1)
        (λ i. ((sym same.0.target i, sym same.0.lane i), sym same.1 i)) ok.sent_is;
  }

  tied-gates : (n : NodeState) (closed : List Bool) (outs outs' : List OutPort) (ins : List InPort) → Pairwise SameSent outs outs' →
      Gated closed outs' → Tied p inputs n outs ins → (let m : NodeState = record n { closed = closed } in Tied p inputs m outs' ins)
  tied-gates n closed outs outs' ins pairs gated tied = record {
    compiled = tied.compiled;
    strays = tied.strays;
    heard = tied.heard;
    out = λ i y a. let x = exists_at outs i (let k = within outs' i y a in let m = pairs.many in omega arith) in let ok =
        out-same n x.0 y (pairs.each i x.0 y x.1 a) (tied.out i x.0 x.1) in
        record { used = ok.used; inside = ok.inside; bounds = ok.bounds; sent_is = ok.sent_is };
    into = λ i y a. let ok = tied.into i y a in record { bounds = ok.bounds; got_is = ok.got_is };
    outs_differ = λ i j y z a b goal lane.
        (let o = exists_at outs i (let k = within outs' i y a in let m = pairs.many in omega arith) in
        let q = exists_at outs j (let k = within outs' j z b in let m = pairs.many in omega arith) in
        let s = (pairs.each i o.0 y o.1 a).0 in let t = (pairs.each j q.0 z q.1 b).0 in
        tied.outs_differ i j o.0 q.0 o.1 q.1 (sym s.target ∙ (goal ∙ t.target)) (sym s.lane ∙ (lane ∙ t.lane)));
    ins_differ = tied.ins_differ;
    gated = gated;
  }

  pub tied-flushed : (old new : NodeState) (outs outs' : List OutPort) (ins : List InPort) → Regated old new →
      Pairwise Flushed outs outs' → Gated new.closed outs' → Tied p inputs old outs ins → Tied p inputs new outs' ins
  tied-flushed old new outs outs' ins re flushed gated tied =
      subst (λ (n : NodeState). Tied p inputs n outs' ins) (sym re.same)
      (tied-gates old new.closed outs outs' ins (pairs_weaker Flushed SameSent outs outs' (λ x y f. (f.same, f.sent)) flushed) gated tied)

  -- ---- what may be sent
  -- the ends of the wires of the rank's name
  pub ends-of : (wires : List WireState) (n : NodeState) (outs : List OutPort) (ins : List InPort) →
      Each (Fits wires) (map out_joint outs) → IsNode n → Tied p inputs n outs ins → AreEnds wires n.closed outs
  ends-of wires n outs ins wired is tied = record {
    wired = λ i o a. wired i (out_joint o) (at_map out_joint outs i o a);
    inside = λ i o a. subst (λ k. o.target < k) (sym is.gates) (tied.out i o a).inside;
    differ = tied.outs_differ;
    gated = tied.gated;
  }

  pub may-post : SoundPlan p (length inputs) → (old new : NodeState) (e : Local) (made : Option Sent) (outs : List OutPort)
      (ins : List InPort) → IsNode old → IsNode new → Went old new e → made ≡ made_by old.nic e → HasHeard p new →
      Tied p inputs old outs ins
      → ((i : ℕ) (o : OutPort) (m : Sent) → get_elem? outs i ≡ some o → made ≡ Some m → is_for o.target o.lane m ≡ true →
      o.end.waits ≡ false) → Each (MayPost made) outs
  may-post sound old new e made outs ins is0 is1 went by heard tied free i o a = at made by free
    where
      compiled1 : IsCompiledFor p inputs new.task.rank new.task
      compiled1 = subst (λ (t : Task). IsCompiledFor p inputs t.rank t) (sym went.task) tied.compiled

      at : (made : Option Sent) → made ≡ made_by old.nic e →
          ((i : ℕ) (o : OutPort) (m : Sent) → get_elem? outs i ≡ some o → made ≡ Some m → is_for o.target o.lane m ≡ true →
          o.end.waits ≡ false) → MayPost made o
      at None by free = tt
      at (Some m) by free = λ f.
          let ok = tied.out i o a in
          let has = has-sent-more old new e (Some m) o.target o.lane o.end.sent tied.compiled is0 went by ok.sent_is in
          let now = subst (λ (ms : List Sent). HasSent p inputs new o.target o.lane (o.end.sent ++ ms))
          (sym (sent-here o.target o.lane m f)) has in
          let used = subst (λ (t : Task). is_used_lane p t.rank o.target o.lane ≡ true) (sym went.task) ok.used in
          let keeps = keeps-sent p inputs sound new compiled1 is1 o.target o.lane (o.end.sent ++ m ∷ []) heard used now in (
            free i o m a refl f,
            subst (λ (b : Bounds). KeepsBounds b (o.end.sent ++ m ∷ []))
                (sym (ok.bounds ∙ ap (λ (t : Task). bounds_on p t.rank o.target o.lane) (sym went.task))) keeps,
          )

-- ---- the name
pub named : (job : JobOf) (ins : List Joint) (t t' : Task) (outs outs' : List Joint) → t' ≡ t → outs' ≡ outs →
    (let a : Plate = record { job = job; task = t'; outs = outs'; ins = ins } in a)
    ≡ (let b : Plate = record { job = job; task = t; outs = outs; ins = ins } in b)
named job ins t t' outs outs' e f = λ i. record { job = job; task = e i; outs = f i; ins = ins }

pub named-all : (job : JobOf) (t t' : Task) (outs outs' ins ins' : List Joint) → t' ≡ t → outs' ≡ outs → ins' ≡ ins
    → (let a : Plate = record { job = job; task = t'; outs = outs'; ins = ins' } in a)
    ≡ (let b : Plate = record { job = job; task = t; outs = outs; ins = ins } in b)
named-all job t t' outs outs' ins ins' e f g = λ i. record { job = job; task = e i; outs = f i; ins = g i }

pub same-in-joint : (x y : InPort) → SameIn x y → in_joint y ≡ in_joint x
same-in-joint x y same = λ i. record { number = same.number i; wire = same.wire i; bounds = same.bounds i }

-- an end that received nothing
abbrev pub Kept : InPort → InPort → Type 0
Kept x y = SameIn x y × (y.end.received ≡ x.end.received)

pub kept-set : (ins : List InPort) (at : ℕ) (x y : InPort) → get_elem? ins at ≡ some x → Kept x y → Pairwise Kept ins (set ins at y)
kept-set ins at x y there kept = pairs_set Kept ins at x y there kept (λ j z apart e. (same-in z, refl))

pub tied-ins : (p : Plan) (inputs : Inputs) (n : NodeState) (outs : List OutPort) (ins ins' : List InPort) → Pairwise Kept ins ins' →
    Tied p inputs n outs ins → Tied p inputs n outs ins'
tied-ins p inputs n outs ins ins' pairs tied = record {
  compiled = tied.compiled;
  strays = tied.strays;
  heard = tied.heard;
  out = tied.out;
  into = λ i y a. (let x = exists_at ins i (let k = within ins' i y a in let m = pairs.many in omega arith) in let ok =
      tied.into i x.0 x.1 in let same = pairs.each i x.0 y x.1 a in record {
        bounds = same.0.bounds ∙ (ok.bounds ∙ (λ j. bounds_on p (sym same.0.source j) n.task.rank (sym same.0.lane j)));
        got_is = same.1 ∙ (ok.got_is ∙ (λ j. got n.diary.locals (sym same.0.source j) (sym same.0.lane j)));
      });
  outs_differ = tied.outs_differ;
  ins_differ = λ i j y z a b source lane.
      (let o = exists_at ins i (let k = within ins' i y a in let m = pairs.many in omega arith) in
      let q = exists_at ins j (let k = within ins' j z b in let m = pairs.many in omega arith) in
      let s = (pairs.each i o.0 y o.1 a).0 in let t = (pairs.each j q.0 z q.1 b).0 in
      tied.ins_differ i j o.0 q.0 o.1 q.1 (sym s.source ∙ (source ∙ t.source)) (sym s.lane ∙ (lane ∙ t.lane)));
  gated = tied.gated;
}
