use Rattle.std.proofs.Common.{sym, ◌∙◌}
use Rattle.chain_list.proofs.threads.LinkLemmas.{code-next}
use Rattle.chain_list.proofs.threads.links.code_of.Goals as goal

pub returns-in-Some : goal.returns-in-Some
returns-in-Some c = code-next c.in-Some.place ∙ sym c.in-Some.is
