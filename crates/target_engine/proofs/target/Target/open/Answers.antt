use Rattle.std.proofs.Common.{refl, sym, ◌∙◌, arith}
use Rattle.std.proofs.lemmas.List.{length-replicate}
use Rattle.target_engine.proofs.Counted.{counted-none, queues-none}
use Rattle.target_engine.proofs.Kept.{kept-none, unused-indices}
use Rattle.target_engine.proofs.target.Target.open.Goals as goal

pub invariant_of-result : goal.invariant_of-result
invariant_of-result c =
    let made = c.in_ok-indices.ensures in
    let l = c.args.limits.now in
    let none = unused-indices l.entries _ l.pts c.in_ok-indices.indices.items made.many made.unused in
    rw (
      c.in_ok-by_entry.ensures,
      c.in_ok-headers.ensures,
      c.in_ok-cts.ensures.makes,
      c.in_ok-eqs.ensures.makes,
      c.in_ok-waiting.ensures.makes,
    )
    (record {
      kept =
          rw c.records-records.ensures
          (kept-none l.entries l.unexpected l.pts c.in_ok-indices.indices.items (omega arith) made.many
          (rw c.records-records.ensures at made.unused));
      counted = counted-none _ l.cts l.pts;
      queues = rw none (queues-none l.pts l.eqs);
      long = length-replicate l.pts 0 ∙ sym made.many;
      small = omega (arith, made.many);
    })

pub returns : goal.returns
returns c =
    let made = c.in_ok-indices.ensures in
    record {
      makes = rw (
        c.in_ok-by_entry.ensures,
        c.in_ok-headers.ensures,
        unused-indices c.args.limits.now.entries _ c.args.limits.now.pts c.in_ok-indices.indices.items made.many made.unused,
      ) refl;
    }
