use Rattle.std.proofs.Common.{List, ◌≡◌, ◌∙◌, ap, length, refl, subst, arith}
use Rattle.plan_core.proofs.Drawing.{length-row}
use Rattle.plan_words.specs.declared.takes.Takes.{Takes}
use Rattle.plan_words.specs.Limits.{limits_text}
use Rattle.plan_words.specs.Takes.{all_takes, takes_of}
use Rattle.run_text.specs.Putting.{Ends, FailsWithin}
use Rattle.given_top.proofs.telling.tell_limits.Goals as goal

pub write_limits-requires-clause-at_most : goal.write_limits-requires-clause-at_most
write_limits-requires-clause-at_most g c =
    let p = c.args.schedule.now.plan in
    let same : c.as_slice.result.now ≡ all_takes p = c.as_slice.ensures.value ∙ c.in-Ok-takes_of_ranks.ensures in
    let long = ap length same in
    let rows = length-row (takes_of p) 0 p.ranks in
    let few = c.ranks.ensures.at_most in
    let ranks = c.ranks.ensures.value in
    omega (arith, long, rows, few, ranks)

pub returns-in-Ok-write_limits : goal.returns-in-Ok-write_limits
returns-in-Ok-write_limits g c =
    let p = c.args.schedule.now.plan in
    let same : c.as_slice.result.now ≡ all_takes p = c.as_slice.ensures.value ∙ c.in-Ok-takes_of_ranks.ensures in
    record {
      allowed = refl;
      no_read = λ is. absurd (cc);
      text = subst
          (λ (ts : List Takes). Ends (g.K.Sink.outflow c.args.sink.now) (g.K.Sink.outflow c.write_limits.new.sink) (limits_text ts))
          same c.in-Ok-write_limits.ensures;
    }

pub returns : goal.returns
returns g c =
    let p = c.args.schedule.now.plan in
    let same : c.as_slice.result.now ≡ all_takes p = c.as_slice.ensures.value ∙ c.in-Ok-takes_of_ranks.ensures in
    record {
      allowed = tt;
      no_read = λ is. absurd (cc);
      text = subst
          (λ (ts : List Takes). FailsWithin (g.K.Sink.outflow c.args.sink.now) (g.K.Sink.outflow c.write_limits.new.sink)
          (limits_text ts))
          same c.in-Err.ensures;
    }
