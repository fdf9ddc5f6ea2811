-- One message more in each turn.
use Rattle.std.proofs.Common.{◌*◌, ◌<◌, ◌+◌, arith, cond, get_or, set, nat_lt, length, map, ap, ap₂, ◌∙◌}
use Rattle.plan_core.specs.Plan.{from_to}
use Rattle.plan_core.specs.declared.Link.{Link}
use Rattle.plan_tables.specs.Rising.{nothing}
use Rattle.plan_tables.specs.AreaTables.{message_key}
use Rattle.plan_tables.specs.Tables.{link_length}
use Rattle.plan_tables.proofs.Sums.{counted-at_most, counted-more, summed-at_most, summed-more}
use Rattle.plan_tables.proofs.Room.{at_most-link_bytes}
use Rattle.plan_tables.proofs.all_areas.find_areas.Goals as goal

pub loop-l-init : goal.loop-l-init
loop-l-init c = record {
  counts = c.in_ok-counts.ensures ∙ ap (λ n. map nothing (from_to 0 (n * 81))) c.ranks-keys.ensures;
  bytes = c.in_ok-bytes.ensures ∙ ap (λ n. map nothing (from_to 0 (n * 81))) c.ranks-keys.ensures;
}

pub tally-requires : goal.tally-requires
tally-requires c =
    let p = c.args.plan.now in
    let e = ap (λ k. get_or c.loop-l.counts k 0) c.area_of-key.ensures in
    let f = counted-at_most (message_key p) c.loop-l.l (p.ranks * 81) (message_key p c.loop-l.l) c.loop-l.counts c.loop-l.invariant.counts
    in
    let n = ap length c.links.ensures in
    let t = c.loop-l-test.true in
    let r = c.requires.few_together in
    omega (arith, e, f, n, t, r)

pub tally-requires-in-loop-l : goal.tally-requires-in-loop-l
tally-requires-in-loop-l c =
    let p = c.args.plan.now in
    let n = ap length c.links.ensures in
    let t = c.loop-l-test.true in
    let inside : c.loop-l.l < length p.links = omega (arith, n, t) in
    let e = ap (λ k. get_or c.loop-l.bytes k 0) c.area_of-key.ensures in
    let f = ap (λ (k : Link). k.length) c.link_at.ensures in
    let g = summed-at_most (message_key p) (link_length p) c.loop-l.l (p.ranks * 81) (length p.links) 18446744073709551616 c.loop-l.bytes
    c.loop-l.invariant.bytes inside (at_most-link_bytes p c.requires) in
    omega (arith, e, f, g)

pub loop-l-preserved : goal.loop-l-preserved
loop-l-preserved c =
    let p = c.args.plan.now in
    record {
      counts =
          c.tally.ensures
          ∙ ap (λ k. cond (nat_lt k (length c.loop-l.counts)) (set c.loop-l.counts k (get_or c.loop-l.counts k 0 + 1)) c.loop-l.counts)
          c.area_of-key.ensures
          ∙ counted-more (message_key p) c.loop-l.l (p.ranks * 81) c.loop-l.counts c.loop-l.invariant.counts;
      bytes =
          c.tally-in-loop-l.ensures
          ∙ ap₂ (λ k b. cond (nat_lt k (length c.loop-l.bytes)) (set c.loop-l.bytes k (get_or c.loop-l.bytes k 0 + b)) c.loop-l.bytes)
          c.area_of-key.ensures (ap (λ (k : Link). k.length) c.link_at.ensures)
          ∙ summed-more (message_key p) (link_length p) c.loop-l.l (p.ranks * 81) c.loop-l.bytes c.loop-l.invariant.bytes;
    }
