use Rattle.std.proofs.Common.{◌+◌, ◌/◌, ◌∙◌, length, sym, ap, arith}
use Rattle.std.proofs.lemmas.List.{length-replicate}
use Rattle.triggered_ops.specs.marks.Bits.{marks_of, counts_of}
use Rattle.triggered_ops.proofs.marks.Words.{marks-zero, counts-zero}
use Rattle.triggered_ops.proofs.marks.Marks.open.Goals as goal

pub invariant_of-result : goal.invariant_of-result
invariant_of-result c =
    let words = c.in-Ok.ensures.items_if_clones_equal (λ y q. q) in
    let long = ap length words ∙ length-replicate ((c.args.places + 63) / 64) 0 in
    record {
      counted = c.in_ok-counts.ensures ∙ sym (ap (λ ws. counts_of 64 ws) words ∙ counts-zero 64 ((c.args.places + 63) / 64));
      at_most = omega (arith, long, c.requires);
    }

pub returns-in-Ok : goal.returns-in-Ok
returns-in-Ok c =
    let words = c.in-Ok.ensures.items_if_clones_equal (λ y q. q) in
    ap (λ ws. marks_of 64 ws) words ∙ marks-zero 64 ((c.args.places + 63) / 64)
