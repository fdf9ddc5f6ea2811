use Rattle.rank_node.proofs.Done.{finished}
use Rattle.rank_node.proofs.node.Node.done.Goals as goal

pub returns-clause-finished : goal.returns-clause-finished
returns-clause-finished c = λ plan inputs slots world r stands enough.
    finished plan inputs slots world r _ c.counted.result stands c.counted.ensures.kept c.counted.ensures.value enough
