use Rattle.chain_list.proofs.threads.LinkLemmas.{place-before}
use Rattle.chain_list.proofs.threads.links.place_in.Goals as goal

pub returns-else-code-eq0 : goal.returns-else-code-eq0
returns-else-code-eq0 c = place-before c.args.code c.if-code-eq0.false
