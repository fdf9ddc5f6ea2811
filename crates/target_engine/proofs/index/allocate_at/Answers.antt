use Rattle.std.proofs.Common.{Some, arith}
use Rattle.ni_model.specs.Calls.{new_index}
use Rattle.target_engine.proofs.Views.{empty-at, set-seen, set-portal_entry}
use Rattle.target_engine.proofs.index.allocate_at.Goals as goal

pub allocate-requires : goal.allocate-requires
allocate-requires c = empty-at c.args.indices.now c.args.pt c.index-indices-at.result c.if-at-indices.true c.requires.lists c.requires.empty

pub returns-then-at-indices-clause-after : goal.returns-then-at-indices-clause-after
returns-then-at-indices-clause-after c = set-seen c.args.indices.now c.args.pt c.allocate.new.self (Some (new_index c.args.eq))
    c.allocate.ensures.after

pub returns-then-at-indices-clause-kept : goal.returns-then-at-indices-clause-kept
returns-then-at-indices-clause-kept c =
    λ most records given all.
    set-portal_entry c.args.indices.now c.args.pt c.index-indices-at.result c.allocate.new.self most records given given (omega arith)
    c.if-at-indices.true (c.allocate.ensures.kept most records given) all
