use Rattle.std.proofs.Common.{◌≡◌, Ok}
use Rattle.coll_lang.specs.Answers.{Fails}
use Rattle.coll_lang.specs.Blocks.{data_said}
use Rattle.coll_lang.specs.States.{past}
use Rattle.coll_lang.proofs.Ahead.{data_fails, data_gives}
use Rattle.coll_lang.proofs.block.take_place.Goals as goal

pub returns-in-Some-Ok : goal.returns-in-Some-Ok
returns-in-Some-Ok c =
    let said : data_said c.args.ty c.args.count c.args.line.now ≡ Ok c.in-Some-Ok.values =
    rw (c.in-Some-Ok.is, c.in-Some-Ok.field-0-is) at c.requires.said in
    rw (data_gives (past c.args.reader.now) c.args.left c.args.ty c.args.count c.args.line.now c.in-Some-Ok.values c.requires.stage said)
    c.take_values.ensures

pub returns-in-Some-Err : goal.returns-in-Some-Err
returns-in-Some-Err c =
    let said : Fails c.in-Some-Err.fault (data_said c.args.ty c.args.count c.args.line.now) =
    rw (c.in-Some-Err.is, c.in-Some-Err.field-0-is) at c.requires.said in
    data_fails (past c.args.reader.now) c.args.left c.args.ty c.args.count c.args.line.now c.in-Some-Err.fault c.requires.stage said
