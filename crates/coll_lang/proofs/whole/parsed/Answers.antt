use Rattle.std.proofs.Common.{arith}
use Rattle.coll_lang.specs.States.{past}
use Rattle.coll_lang.proofs.Coming.{kept}
use Rattle.coll_lang.proofs.whole.parsed.Goals as goal

pub of-requires : goal.of-requires
of-requires g c =
    let k = kept c.args.bytes.now (past c.in_ok-reader.reader) (omega arith) c.in_ok-reader.ensures in
    record { readable = k.readable; lists = k.lists }
