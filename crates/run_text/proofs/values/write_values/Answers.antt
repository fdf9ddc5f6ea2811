use Rattle.std.proofs.Common.{◌≡◌, ◌<◌, ◌≤◌, ◌+◌, ◌-◌, ◌*◌, ◌++◌, ◌∙◌, ap, arith, drop, length, sym}
use Rattle.op_laws.proofs.Bytes.{bytes-pos}
use Rattle.ptl_types.specs.Operations.{bytes_of}
use Rattle.run_text.proofs.Spaced.{one-less, spaced-back, spaced-none}
use Rattle.run_text.proofs.values.write_values.Goals as goal

pub write_value-at-requires-clause-room : goal.write_value-at-requires-clause-room
write_value-at-requires-clause-room c =
    let ty = c.args.ty in let i = c.loop-rest.invariant in let s = i.is_size in let l = i.left in
    let le : bytes_of ty ≤ length c.loop-rest.rest.now = omega (arith, s) in
    let o = one-less (bytes_of ty) l.0 (length c.loop-rest.rest.now) l.1 le (bytes-pos ty) in
    let m = o.1 in let r = l.2 in omega (arith, m, r)

pub loop-rest-preserved : goal.loop-rest-preserved
loop-rest-preserved c =
    let ty = c.args.ty in let i = c.loop-rest.invariant in let s = i.is_size in let l = i.left in
    let front = c.split_at.result.0.now in let element = c.split_at.result.1.now in
    let fl = c.split_at.ensures.front_len in let bl = c.split_at.ensures.back_len in
    let le : bytes_of ty ≤ length c.loop-rest.rest.now = omega (arith, s) in
    let o = one-less (bytes_of ty) l.0 (length c.loop-rest.rest.now) l.1 le (bytes-pos ty) in
    let m = o.1 in let r = l.2 in let near = c.write_value-at.ensures.near in
    let inside = i.inside in let within = c.write_value-at.ensures.within in let kept = c.write_value-at.auto.block in
    let whole : length front ≡ o.0 * bytes_of ty = let k = o.2 in omega (arith, fl, s, k) in
    record {
      left = (o.0, whole, omega (arith, m, r, near));
      inside = omega (arith, inside, within, kept);
      written = spaced-back ty o.0 c.read_pattern.result c.args.bytes.now c.loop-rest.rest.now front element
          (drop c.loop-rest.at c.loop-rest.block) (drop c.write_value-at.result c.write_value-at.new.block) c.split_at.ensures.by_index.0
          whole (omega (arith, fl, bl, s, le)) c.read_pattern.ensures.value c.write_value-at.ensures.written i.written;
      is_size = s;
    }

pub returns-clause-written : goal.returns-clause-written
returns-clause-written c =
    let i = c.loop-rest.invariant in let s = i.is_size in
    let short : length c.loop-rest.rest.now < bytes_of c.args.ty = omega (arith, s) in
    sym (i.written ∙ ap (λ v. v ++ drop c.loop-rest.at c.loop-rest.block) (spaced-none c.args.ty c.loop-rest.rest.now short))
