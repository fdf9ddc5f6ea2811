use Rattle.rank_node.proofs.of_plan.Receiving.{finds_room}
use Rattle.rank_node.proofs.of_plan.next_message_finds_room.Goals as goal

pub returns : goal.returns
returns c = λ plan inputs slots scene r s lane m later node sound fit hr hs moment front rank room. finds_room plan inputs sound fit slots
    scene moment r s lane m later hr hs front node rank room
