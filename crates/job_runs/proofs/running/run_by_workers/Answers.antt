use Rattle.std.proofs.Common.{ℕ, ◌∙◌, ap, subst, sym}
use Rattle.schedule_compiler.specs.Jobs.{JobOf}
use Rattle.rank_wiring.specs.Opening.{AllFresh}
use Rattle.rank_threads.specs.Closing.{IsWorked}
use Rattle.job_runs.proofs.running.run_by_workers.Goals as goal

pub run_keeping-world-requires-clause-hands : goal.run_keeping-world-requires-clause-hands
run_keeping-world-requires-clause-hands g c = λ _ _. λ i d low. (c.in_ok-fabric.ensures.hands.1 i d low).0

pub finished-world-requires : goal.finished-world-requires
finished-world-requires g c =
    let opened = c.in_ok-fabric.ensures in
    let worked = c.run_keeping-world.ensures.world in
    let same = opened.job in record {
      own = worked.world.spare;
      schedule = worked.world.schedule ∙ ap (λ (j : JobOf). j.schedule) same;
      inputs = worked.world.inputs ∙ ap (λ (j : JobOf). j.inputs) same;
    }

pub returns : goal.returns
returns g c =
    let opened = c.in_ok-fabric.ensures in
    let worked = c.run_keeping-world.ensures.world in (
      c.finished-world.ensures.run,
      record {
        fabric = c.in_ok-fabric.fabric;
        fresh = subst (λ (j : JobOf). AllFresh j c.in_ok-fabric.fabric.turns.start) (sym opened.job) opened.fresh;
        left = c.run_keeping-world.result.0;
        worked = subst (λ (n : ℕ). IsWorked c.in_ok-fabric.fabric n c.run_keeping-world.result.0) opened.hands.0 worked;
        later = c.finished-world.ensures.later;
      },
    )
