-- Each message keeps what its header says of its bytes.
use Rattle.std.proofs.Common.{ap, length, sym, ◌∙◌}
use Rattle.worlds.proofs.parts.acts.put_request.Goals as goal

pub returns-clause-kept : goal.returns-clause-kept
returns-clause-kept c = ap length (sym c.bytes.ensures.list) ∙ c.bytes.ensures.kept.bytes
