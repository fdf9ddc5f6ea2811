use Rattle.std.proofs.Common.{◌<◌, ◌≡◌, ◌+◌, ◌%◌, ◌^◌, length, refl, subst, arith}
use Rattle.std.specs.Prelude.{sum}
use Rattle.coll_text.specs.Elements.{elements}
use Rattle.ptl_types.specs.Operations.{bytes_of}
use Rattle.run_text.proofs.Sums.{added, sum-next, sum-none}
use Rattle.run_text.proofs.summary.list_sum.Goals as goal

pub loop-rest-preserved : goal.loop-rest-preserved
loop-rest-preserved c =
    let all = sum (elements c.args.ty c.args.bytes.now) in
    let next = sum-next c.args.ty c.loop-rest.rest.now c.split_at.result.0.now c.split_at.result.1.now c.size-size.result
    c.read_pattern-total.result c.loop-rest.invariant.is_size (omega arith)
    c.split_at.ensures.front c.split_at.ensures.back c.read_pattern-total.ensures.value in
    record {
      left = added c.loop-rest.total c.read_pattern-total.result (sum (elements c.args.ty c.split_at.result.1.now)) all _ refl
          (subst (λ n. (c.loop-rest.total + n) % 2 ^ 64 ≡ all % 2 ^ 64) next c.loop-rest.invariant.left);
      is_size = c.loop-rest.invariant.is_size;
    }

pub returns : goal.returns
returns c =
    let short : length c.loop-rest.rest.now < bytes_of c.args.ty = let s = c.loop-rest.invariant.is_size in omega (arith, s) in
    let none = sum-none c.args.ty c.loop-rest.rest.now short in
    let left = c.loop-rest.invariant.left in
    omega (arith, none, left)
