use Rattle.std.proofs.Common.{length, subst}
use Rattle.std.specs.Prelude.{codes}
use Rattle.run_text.specs.Putting.{Puts}
use Rattle.plan_words.specs.declared.takes.Takes.{Takes}
use Rattle.plan_words.specs.Limits.{takes_line}
use Rattle.plan_words.proofs.limits.put_most.Goals as goal

pub returns : goal.returns
returns g c =
    subst
    (λ (t : Takes). Puts (g.K.Sink.outflow c.args.sink.now) (g.K.Sink.outflow c.put_takes.new.sink) c.args.out.now c.put_takes.new.out
    (takes_line (codes "most") (length c.args.takes.now) t) c.put_takes.result)
    c.most_of.ensures c.put_takes.ensures
