use Rattle.job_runs.proofs.running.run_once.Goals as goal

pub finished-requires : goal.finished-requires
finished-requires c =
    let opened = c.in_ok-world.ensures in record { own = opened.spare; schedule = opened.schedule; inputs = opened.inputs }

pub returns : goal.returns
returns c = (c.finished.ensures.run, c.finished.ensures.reached c.in_ok-world.ensures.scene)
