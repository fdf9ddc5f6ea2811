use Rattle.std.proofs.Common.{arith}
use Rattle.ni_model.specs.Calls.{unlinked_in}
use Rattle.target_engine.proofs.Views.{set-seen_by, set-portal_entry}
use Rattle.target_engine.proofs.index.unlink_at.Goals as goal

pub returns-then-at-indices-clause-after : goal.returns-then-at-indices-clause-after
returns-then-at-indices-clause-after c = set-seen_by c.args.indices.now c.args.pt c.index-indices-at.result c.unlink.new.self
    (unlinked_in c.args.me) c.if-at-indices.true c.unlink.ensures.after

pub returns-then-at-indices-clause-kept : goal.returns-then-at-indices-clause-kept
returns-then-at-indices-clause-kept c =
    λ most records given all.
    set-portal_entry c.args.indices.now c.args.pt c.index-indices-at.result c.unlink.new.self most records given given (omega arith)
    c.if-at-indices.true (c.unlink.ensures.kept most records given) all
