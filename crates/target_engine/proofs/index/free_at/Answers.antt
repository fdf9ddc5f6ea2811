use Rattle.std.proofs.Common.{None, arith}
use Rattle.target_engine.proofs.Views.{empty-at, set-seen, set-portal_entry}
use Rattle.target_engine.proofs.index.free_at.Goals as goal

pub free-requires : goal.free-requires
free-requires c = empty-at c.args.indices.now c.args.pt c.index-indices-at.result c.if-at-indices.true c.requires.lists c.requires.empty

pub returns-then-at-indices-clause-after : goal.returns-then-at-indices-clause-after
returns-then-at-indices-clause-after c = set-seen c.args.indices.now c.args.pt c.free.new.self None c.free.ensures.after

pub returns-then-at-indices-clause-kept : goal.returns-then-at-indices-clause-kept
returns-then-at-indices-clause-kept c =
    λ most records given all.
    set-portal_entry c.args.indices.now c.args.pt c.index-indices-at.result c.free.new.self most records given given (omega arith)
    c.if-at-indices.true (c.free.ensures.kept most records given) all
