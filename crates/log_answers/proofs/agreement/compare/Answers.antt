use Rattle.std.proofs.Common.{sym, ◌∙◌, None}
use Rattle.log_answers.specs.Agreement.{compared}
use Rattle.log_answers.specs.declared.items.Place.TheVariants.{First}
use Rattle.log_answers.proofs.Compared.{one_more}
use Rattle.log_answers.proofs.agreement.compare.Goals as goal

pub loop-word-preserved : goal.loop-word-preserved
loop-word-preserved g c =
    let known = g.K.Knows.known c.args.around.now in
    let whole = compared known c.args.owed.now First None c.args.said.words c.args.said.past in
    let right = sym c.is_wrong.ensures ∙ c.if-is_wrong.false in
    record {
      reads = rw (c.place_after-place.ensures, c.given-new.ensures)
          (one_more known c.args.owed.now whole c.loop-word.place c.loop-word.new c.loop-word.said c.next.new.self c.in-Some.word
          c.judged-found.result c.loop-word.invariant.reads c.in-Some.ensures.some c.judged-found.ensures right);
      column = c.column-column-in-Some.ensures;
    }
