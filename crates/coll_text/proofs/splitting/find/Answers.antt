use Rattle.coll_text.proofs.Cutting.{first_is_position}
use Rattle.coll_text.proofs.splitting.find.Goals as goal

pub returns : goal.returns
returns c = first_is_position c.args.separator c.args.bytes.now c.memchr.result c.memchr.ensures
