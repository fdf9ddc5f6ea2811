use Rattle.std.proofs.Common.{ap, sym, subst, ◌∙◌, length}
use Rattle.number_lists.specs.Numbers.{from_to}
use Rattle.coll_meaning.specs.Lengths.{AreLong}
use Rattle.coll_meaning.specs.Steps.{IsThere}
use Rattle.coll_meaning.proofs.There.{all_long, all_there}
use Rattle.coll_meaning.proofs.meaning.all_buffers.Goals as goal

pub returns : goal.returns
returns c =
    let value = all_there c.args.shape.now c.args.inputs.now c.in_ok-held.held c.recall_form.ensures.shape c.requires
    (subst (λ v. IsThere c.args.shape.now v c.args.inputs.now (length c.args.shape.now.steps) c.in_ok-held.held)
    (c.as_slice.ensures.value ∙ c.in_ok-kept.ensures ∙ ap (λ v. from_to 0 (length v)) c.buffers.ensures.value) c.in_ok-held.ensures) in
    record {
      value = value;
      shaped = subst (AreLong c.args.shape.now (length c.args.shape.now.buffers)) (sym value)
          (all_long c.args.shape.now c.args.inputs.now c.recall_form.ensures.shape c.requires);
    }
