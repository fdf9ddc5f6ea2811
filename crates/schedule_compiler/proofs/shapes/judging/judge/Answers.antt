-- One step more in each turn.
use Rattle.std.proofs.Common.{ap, ap₂, ◌∙◌, sym, arith, ◌≡◌, ◌+◌, ◌<◌, length}
use Rattle.schedule_compiler.specs.shapes.Footprint.{judged}
use Rattle.schedule_compiler.specs.shapes.Footprint.Excess.{Bytes}
use Rattle.schedule_compiler.specs.shapes.Judging.{add_sizes, size_upto}
use Rattle.schedule_compiler.proofs.shapes.Counting.{found-here, found-next, judged-bytes, judged-none, size-more}
use Rattle.schedule_compiler.proofs.shapes.judging.judge.Goals as goal

pub returns-then-sum-gt-MOST_BYTES : goal.returns-then-sum-gt-MOST_BYTES
returns-then-sum-gt-MOST_BYTES c =
    let o = c.args.shape.now in
    let k = c.loop-k.k in
    let size : c.add_sizes-sum.result ≡ size_upto o (k + 1) = c.add_sizes-sum.ensures ∙ ap₂ (λ a b. add_sizes a b) c.loop-k.invariant.sum
    c.step_size.ensures.value ∙ sym (size-more o k) in
    let l = c.if-sum-gt-MOST_LINKS.false in
    let b = c.if-sum-gt-MOST_BYTES.true in
    let n = ap length c.steps.ensures.value in
    let t = c.loop-k-test.true in
    let inside : k < length o.steps = omega (arith, n, t) in
    c.loop-k.invariant.found ∙ found-here o k (length o.steps) Bytes inside
    (ap judged (sym size) ∙ judged-bytes c.add_sizes-sum.result (omega (arith, l)) (omega (arith, b)))

pub loop-k-preserved : goal.loop-k-preserved
loop-k-preserved c =
    let o = c.args.shape.now in
    let k = c.loop-k.k in
    let size : c.add_sizes-sum.result ≡ size_upto o (k + 1) = c.add_sizes-sum.ensures ∙ ap₂ (λ a b. add_sizes a b) c.loop-k.invariant.sum
    c.step_size.ensures.value ∙ sym (size-more o k) in
    let l = c.if-sum-gt-MOST_LINKS.false in
    let b = c.if-sum-gt-MOST_BYTES.false in
    let n = ap length c.steps.ensures.value in
    let t = c.loop-k-test.true in
    let inside : k < length o.steps = omega (arith, n, t) in
    record {
      sum = size;
      found = c.loop-k.invariant.found ∙ found-next o k (length o.steps) inside
          (ap judged (sym size) ∙ judged-none c.add_sizes-sum.result (omega (arith, l)) (omega (arith, b)));
      links = omega (arith, l);
      bytes = omega (arith, b);
    }
