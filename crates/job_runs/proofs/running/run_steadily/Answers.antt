use Rattle.std.proofs.Common.{ℕ, ◌∙◌, ap, subst, sym}
use Rattle.schedule_compiler.specs.Jobs.{JobOf}
use Rattle.rank_wiring.specs.Opening.{AllFresh}
use Rattle.job_runs.specs.Runs.{IsRested}
use Rattle.job_runs.proofs.running.run_steadily.Goals as goal

pub close_steady-world-requires-clause-hands : goal.close_steady-world-requires-clause-hands
close_steady-world-requires-clause-hands g c = λ _ _. λ i d low. (c.in_ok-fabric.ensures.hands.1 i d low).0

pub finished-requires : goal.finished-requires
finished-requires g c =
    let closed = c.close_steady-world.ensures in
    let same = c.in_ok-fabric.ensures.job in record {
      own = closed.own;
      schedule = closed.schedule ∙ ap (λ (j : JobOf). j.schedule) same;
      inputs = closed.inputs ∙ ap (λ (j : JobOf). j.inputs) same;
    }

pub returns : goal.returns
returns g c =
    let opened = c.in_ok-fabric.ensures in
    let closed = c.close_steady-world.ensures in (
      c.finished.ensures.run,
      record {
        fabric = c.in_ok-fabric.fabric;
        fresh = subst (λ (j : JobOf). AllFresh j c.in_ok-fabric.fabric.turns.start) (sym opened.job) opened.fresh;
        left = c.close_steady-world.result.0;
        rested = subst (λ (n : ℕ). IsRested c.in_ok-fabric.fabric n c.close_steady-world.result.0) opened.hands.0 closed.rested;
        later = c.finished.ensures.later;
      },
    )
