use Rattle.std.proofs.Common.{◌∙◌}
use Rattle.coll_shape.specs.Meaning.{lists_of}
use Rattle.coll_meaning.proofs.Made.{made_same}
use Rattle.coll_meaning.proofs.steps.made.Goals as goal

pub returns : goal.returns
returns c = λ need.
    c.of-2.ensures ∙ made_same c.in_ok-form.form c.in_ok-places_of.field-0.items c.args.making.ranks c.args.group.now c.args.making.ty
    c.args.making.step (lists_of c.args.held.now c.args.making.a) c.of.result c.of.ensures c.in_ok-form.ensures c.in_ok-places_of.ensures
