use Rattle.std.proofs.Common.{arith}
use Rattle.target_engine.specs.PortalTable.{updated_in}
use Rattle.target_engine.proofs.Views.{set-seen_by, set-portal_entry}
use Rattle.target_engine.proofs.index.update_entry_at.Goals as goal

pub returns-then-at-indices-clause-after : goal.returns-then-at-indices-clause-after
returns-then-at-indices-clause-after c = set-seen_by c.args.indices.now c.args.header.now.pt c.index-indices-at.result
    c.update_entry.new.self
    (updated_in c.args.found.now c.args.header.now) c.if-at-indices.true c.update_entry.ensures.after

pub returns-then-at-indices-clause-kept : goal.returns-then-at-indices-clause-kept
returns-then-at-indices-clause-kept c =
    λ most records given all.
    set-portal_entry c.args.indices.now c.args.header.now.pt c.index-indices-at.result c.update_entry.new.self most records given given
    (omega arith) c.if-at-indices.true (c.update_entry.ensures.kept most records given) all
