use Rattle.std.proofs.Common.{[], Err, refl, ◌∙◌}
use Rattle.std.proofs.lemmas.Result.{err_from_is_err_and}
use Rattle.rank_frames.proofs.Gone.{goes-none, goes-on, goes-then}
use Rattle.rank_frames.proofs.going.fire_all.Goals as goal

pub loop-number-init : goal.loop-number-init
loop-number-init g c = record { on = goes-none _ _; due = refl }

pub loop-number-preserved : goal.loop-number-preserved
loop-number-preserved g c = record {
  on = goes-then _ _ _ _ _ _ [] [] [] c.loop-number.invariant.on c.in_ok-fire.ensures.went;
  due = c.in_ok-fire.ensures.due ∙ c.loop-number.invariant.due;
}

pub returns-in_err-fire-clause-went : goal.returns-in_err-fire-clause-went
returns-in_err-fire-clause-went g c =
    let p = err_from_is_err_and c.from_residual.result c.from_residual.ensures.1 in
    rw p.1 (goes-on c.args.place.now c.loop-number.place c.fire.new.place (g.K.Sink.outflow c.args.sink.now)
    (g.K.Sink.outflow c.loop-number.sink) (g.K.Sink.outflow c.fire.new.sink) [] [] (Err p.0) c.loop-number.invariant.on
    (rw p.2 c.in_err-fire.ensures.went))

pub returns-in_err-fire-clause-due : goal.returns-in_err-fire-clause-due
returns-in_err-fire-clause-due g c = c.in_err-fire.ensures.due ∙ c.loop-number.invariant.due

pub returns-clause-went : goal.returns-clause-went
returns-clause-went g c = c.loop-number.invariant.on

pub returns-clause-due : goal.returns-clause-due
returns-clause-due g c = c.loop-number.invariant.due
