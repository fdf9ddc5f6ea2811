use Rattle.coll_lang.proofs.Coming.{readable_in, spelled_in}
use Rattle.coll_lang.proofs.whole.parse_by.Goals as goal

pub returns-clause-spelled : goal.returns-clause-spelled
returns-clause-spelled g c = spelled_in c.args.bytes.now c.parsed.result c.parsed.ensures

pub returns-clause-readable : goal.returns-clause-readable
returns-clause-readable g c = readable_in c.args.bytes.now c.parsed.result c.parsed.ensures
