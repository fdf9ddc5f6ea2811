use Rattle.std.specs.Prelude.{◌+◌, ◌*◌}
use Rattle.rank_node.specs.Node.{stray_bytes}
use Rattle.rank_node.proofs.node.Node.install.Given as goal

-- the messages of the task and the strays, and their bytes
abbrev pub ghost-diary : goal.ghost-diary
ghost-diary a = (a.compiled.now.receipts + a.strays, a.compiled.now.bytes + stray_bytes * a.strays)
