use Rattle.std.proofs.Common.{length, get_or, subst}
use Rattle.coll_meaning.specs.Steps.{IsThere}
use Rattle.coll_meaning.proofs.Holding.{member_in}
use Rattle.coll_meaning.proofs.There.{kept_there}
use Rattle.coll_meaning.proofs.meaning.printed_of.Goals as goal

pub returns-in-Ok : goal.returns-in-Ok
returns-in-Ok c = record {
  value = λ i l.
      let wf = c.recall_form.ensures.shape in
      let s = wf.shape in
      kept_there c.args.shape.now c.args.shape.now.prints c.args.inputs.now c.in-Ok.held wf
      (subst (λ v. IsThere c.args.shape.now v c.args.inputs.now (length c.args.shape.now.steps) c.in-Ok.held) c.prints.ensures.value
      c.in-Ok.ensures)
      (get_or c.args.shape.now.prints i 0) (s.printed i l) (member_in c.args.shape.now.prints i l);
}
