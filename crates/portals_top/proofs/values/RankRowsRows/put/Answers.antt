use Rattle.std.proofs.Common.{ap₂, subst}
use Rattle.run_text.specs.Lines.{value_line}
use Rattle.run_text.specs.Putting.{Puts}
use Rattle.portals_top.proofs.StepNames.{name-is}
use Rattle.portals_top.proofs.values.RankRowsRows.put.Goals as goal

pub returns : goal.returns
returns g c =
    let n = c.args.number in
    let name = name-is c.args.self.now.choices.now c.args.self.now.step c.index-steps-step.result c.steps.result.now
    c.name_of-name.result.now c.requires.1 c.steps.ensures.value c.index-steps-step.is c.name_of-name.ensures in
    let line = ap₂ (λ a v. value_line a n v) name c.value.ensures in
    subst (λ xs. Puts (g.K.Sink.outflow c.args.sink.now) (g.K.Sink.outflow c.value_line.new.sink) c.args.out.now c.value_line.new.out xs
    c.value_line.result) line c.value_line.ensures
