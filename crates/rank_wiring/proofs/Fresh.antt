-- Slots of ranks that made no step.
use Rattle.std.proofs.Common.{◌≡◌, ℕ, zero, suc, ◌<◌, true, false, List, [], sym, refl, ap, ◌∙◌, subst, get_or, replicate, zero-le}
use Rattle.std.proofs.lemmas.List.Elements.{All-nil}
use mathlib.Core.Option.{some-ne-none}
use Rattle.pair_wires.specs.declared.bounds.Bounds.{Bounds}
use Rattle.pair_wires.specs.Bounds.{KeepsBounds, Travels}
use Rattle.plan_core.specs.Plan.{Plan}
use Rattle.plan_core.specs.Values.{Inputs}
use Rattle.plan_core.specs.calls.Lanes.{is_used_lane}
use Rattle.cuts.specs.view.Calls.{prepare}
use Rattle.cuts.specs.histories.History.{Local, got, sent}
use Rattle.cuts.specs.histories.Plans.{start_of}
use Rattle.schedule_compiler.specs.Jobs.{JobOf}
use Rattle.rank_node.specs.Node.{NodeState}
use Rattle.rank_node.specs.Plans.{IsCompiledFor}
use Rattle.rank_slots.specs.declared.turn_rank.TurnRank.{TurnRank}
use Rattle.rank_slots.specs.declared.ports.OutPort.{OutPort}
use Rattle.rank_slots.specs.declared.ports.InPort.{InPort}
use Rattle.rank_slots.specs.Lists.{Each}
use Rattle.rank_slots.specs.Lanes.{IsLane, bounds_on}
use Rattle.rank_slots.specs.Slots.{InOk, OutOk, Tied}
use Rattle.rank_wiring.specs.Opening.{AllFresh, IsFresh}
use Rattle.rank_slots.specs.Moves.{MayGainIn, MayGainOut, SameNode, Slotwise}
use Rattle.rank_slots.proofs.Snocs.{each_nil}

pub fresh-same : (job : JobOf) (old new : List TurnRank) → Slotwise SameNode old new → AllFresh job old → AllFresh job new
fresh-same job old new s h r x e = let y = s r x e in let f = h r y.0 y.1 in record {
  job_is = y.2.job_is ∙ f.job_is;
  compiled = subst (λ (n : NodeState). IsCompiledFor job.schedule.plan job.inputs r n.task) (sym y.2.node) f.compiled;
  history_is = ap (λ (n : NodeState). n.diary.locals) y.2.node ∙ f.history_is;
  closed = ap (λ (n : NodeState). n.closed) y.2.node ∙ f.closed;
}

-- ---- an end through which nothing went, at a rank that made no step
get_or_replicate : {A : Type 0} (n : ℕ) (a : A) (i : ℕ) → get_or (replicate n a) i a ≡ a
get_or_replicate zero a i = refl
get_or_replicate (suc n) a zero = refl
get_or_replicate (suc n) a (suc i) = get_or_replicate n a i

pub none-kept : (b : Bounds) → KeepsBounds b []
none-kept b = record { travel = All-nil (Travels b); at_most = zero-le; short = zero-le }

module _ (job : JobOf) (r : ℕ) (x : TurnRank) (fresh : IsFresh job r x) where
  abbrev p : Plan
  p = job.schedule.plan

  abbrev n : NodeState
  n = x.node.value

  pub fresh_out : (b : Bounds) (o : OutPort) → IsLane p b → b.source ≡ r → o.target ≡ b.target → o.lane ≡ b.lane → o.end.bounds ≡ b
      → o.end.sent ≡ [] → o.end.waits ≡ false
      → Each (λ (q : OutPort). q.target ≡ b.target → q.lane ≡ b.lane → ⊥) x.outs.items → MayGainOut x o
  fresh_out b o lane source goes kind bounds none free apart =
      let rank : n.task.rank ≡ r = fresh.compiled.rank in
      let from : b.source ≡ n.task.rank = source ∙ sym rank in
      let used : is_used_lane p n.task.rank o.target o.lane ≡ true = (λ i. is_used_lane p (sym from i) (goes i) (kind i)) ∙ lane.used in
      let is : o.end.bounds ≡ bounds_on p n.task.rank o.target o.lane = bounds
      ∙ (lane.bounds ∙ (λ i. bounds_on p (from i) (sym goes i) (sym kind i))) in record {
        ok = record {
          used = subst (λ (j : JobOf). is_used_lane j.schedule.plan n.task.rank o.target o.lane ≡ true) (sym fresh.job_is) used;
          inside = subst (λ m. o.target < m) (sym fresh.compiled.ranks) (subst (λ d. d < p.ranks) (sym goes) lane.target);
          bounds = subst (λ (j : JobOf). o.end.bounds ≡ bounds_on j.schedule.plan n.task.rank o.target o.lane) (sym fresh.job_is) is;
          sent_is = λ k agrees. none ∙ sym (ap (λ (h : List Local). sent (start_of x.job.schedule.plan k n.task.rank)
              (prepare x.job.schedule.plan x.job.inputs k n.task.rank) h o.target o.lane) fresh.history_is);
        };
        apart = λ i q at e f. apart i q at (e ∙ goes) (f ∙ kind);
        gated = λ e. ap (λ l. get_or l o.target false) fresh.closed ∙ (get_or_replicate job.schedule.plan.ranks false o.target ∙ sym free);
      }

  pub fresh_in : (b : Bounds) (o : InPort) → IsLane p b → b.target ≡ r → o.source ≡ b.source → o.lane ≡ b.lane → o.end.bounds ≡ b →
      o.end.received ≡ []
      → Each (λ (q : InPort). q.source ≡ b.source → q.lane ≡ b.lane → ⊥) x.ins.items → MayGainIn x o
  fresh_in b o lane goal from kind bounds none apart =
      let rank : n.task.rank ≡ r = fresh.compiled.rank in
      let to : b.target ≡ n.task.rank = goal ∙ sym rank in
      let is : o.end.bounds ≡ bounds_on p o.source n.task.rank o.lane = bounds
      ∙ (lane.bounds ∙ (λ i. bounds_on p (sym from i) (to i) (sym kind i))) in record {
        ok = record {
          bounds = subst (λ (j : JobOf). o.end.bounds ≡ bounds_on j.schedule.plan o.source n.task.rank o.lane) (sym fresh.job_is) is;
          got_is = none ∙ sym (ap (λ (h : List Local). got h o.source o.lane) fresh.history_is);
        };
        apart = λ i q at e f. apart i q at (e ∙ from) (f ∙ kind);
      }

-- a slot with no ends, of a rank that made no step
pub bare-tied : (p : Plan) (inputs : Inputs) (r : ℕ) (m : NodeState) → IsCompiledFor p inputs r m.task → m.diary.locals ≡ [] →
    m.strays ≡ 0 → Tied p inputs m [] []
bare-tied p inputs r m compiled none strays = record {
  compiled = subst (λ q. IsCompiledFor p inputs q m.task) (sym compiled.rank) compiled;
  strays = strays;
  heard = λ s lane. subst (λ (h : List Local). KeepsBounds (bounds_on p s m.task.rank lane) (got h s lane)) (sym none)
      (none-kept (bounds_on p s m.task.rank lane));
  out = each_nil (OutOk p inputs m);
  into = each_nil (InOk p m);
  outs_differ = λ i j o q e. absurd (some-ne-none o (sym e));
  ins_differ = λ i j o q e. absurd (some-ne-none o (sym e));
  gated = λ i o e. absurd (some-ne-none o (sym e));
}
