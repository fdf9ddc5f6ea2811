-- The lists have one entry a member.
use Rattle.std.proofs.Common.{ap, ◌∙◌, sym, arith, length, get_or}
use Rattle.plan_steps.specs.Beginning.{source_in}
use Rattle.coll_shape.specs.Collectives.{is_in}
use Rattle.coll_shape.specs.Outline.{read_buffer}
use Rattle.plan_steps.proofs.Leaving.{filter-below, filter-at_most, length-made}
use Rattle.plan_steps.proofs.step_context.StepContext.of.Goals as goal

pub invariant_of-result : goal.invariant_of-result
invariant_of-result c =
    let g = c.args.members.now in
    let m = ap length c.in_ok-from_slice.ensures.items in
    let e = ap length c.in_ok-exits_of.ensures ∙ length-made (λ r. get_or c.args.drawing.now.exits r 0) g in
    let s = ap length c.in_ok-sources_of.ensures ∙ length-made (source_in c.args.drawing.now.held c.args.read) g in
    let h = ap length c.in_ok-holding_of.ensures in
    let f = filter-at_most (λ i. is_in (get_or g i 0) (read_buffer c.args.shape.now c.args.read).spread.holders) (length g) in
    let n = ap length c.cells.ensures in
    let k = c.requires.cells in
    let a = c.requires.members.some in
    let b = c.requires.members.at_most in
    record {
      some = omega (arith, m, a);
      at_most = omega (arith, m, b);
      exits = e ∙ sym m;
      sources = s ∙ sym m;
      first = omega (arith, n, k);
      bytes = c.read_data-ty.ensures.most;
      holding = omega (arith, h, f, m);
      low = λ i l. (let r = filter-below (λ i. is_in (get_or g i 0) (read_buffer c.args.shape.now c.args.read).spread.holders) (length g)
          i c.in_ok-holding_of.field-0.items c.in_ok-holding_of.ensures l in omega (arith, r, m));
    }
