use Rattle.std.proofs.Common.{◌+◌, arith}
use Rattle.ni_model.specs.Append.{fresh, linked_at}
use Rattle.target_engine.proofs.Views.{set-seen_by, set-portal_entry}
use Rattle.target_engine.proofs.index.link_at.Goals as goal

pub returns-then-at-indices-clause-after : goal.returns-then-at-indices-clause-after
returns-then-at-indices-clause-after c = set-seen_by c.args.indices.now c.args.pt c.index-indices-at.result c.link.new.self
    (linked_at c.args.list (fresh c.args.handle c.args.entry)) c.if-at-indices.true c.link.ensures.after

pub returns-then-at-indices-clause-kept : goal.returns-then-at-indices-clause-kept
returns-then-at-indices-clause-kept c =
    λ most records given all.
    set-portal_entry c.args.indices.now c.args.pt c.index-indices-at.result c.link.new.self most records given (given + 1) (omega arith)
    c.if-at-indices.true (c.link.ensures.kept most records given) all
