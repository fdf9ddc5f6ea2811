use Rattle.std.proofs.Common.{◌≡◌, ◌+◌, ◌<◌, ◌∙◌, false, length, refl, arith}
use Rattle.std.proofs.lemmas.List.{length-set}
use Rattle.coll_lang.specs.Language.{is_finished}
use Rattle.coll_lang.specs.States.{past}
use Rattle.coll_lang.proofs.Ahead.{due_next, fails_next, goes_on_next, said_but_one}
use Rattle.coll_lang.proofs.block.take_block.Goals as goal

pub returns-in-Err : goal.returns-in-Err
returns-in-Err c = λ bytes.
    let r = c.loop-i.reader in
    let i = c.loop-i.i in
    let within : i < length c.args.lines.now = c.loop-i-test.true in
    let going : is_finished r.stage ≡ false = rw (c.loop-i.invariant.stage within) refl in
    rw (c.fault_at.ensures, c.loop-i.invariant.read bytes)
    (fails_next (past r) c.in-Err.fault (c.args.number + i) i c.args.lines.now _ bytes within going c.in-Err.ensures)

pub loop-i-preserved : goal.loop-i-preserved
loop-i-preserved c =
    let r = c.loop-i.reader in
    let new = c.take_place.new.reader in
    let i = c.loop-i.i in
    let within : i < length c.args.lines.now = c.loop-i-test.true in
    let going : is_finished r.stage ≡ false = rw (c.loop-i.invariant.stage within) refl in
    record {
      stage = λ more. due_next (past r) (past new) c.args.run.left i c.args.run.ty c.args.run.count _ (omega arith)
          (c.loop-i.invariant.stage within) c.in_default.ensures;
      read = λ bytes. c.loop-i.invariant.read bytes
          ∙ goes_on_next (past r) (past new) c.args.number i c.args.lines.now _ bytes within going c.in_default.ensures;
      said = said_but_one c.args.run.ty c.args.run.count c.args.lines.now c.loop-i.places i _ c.take-place.ensures.after
          c.loop-i.invariant.said;
      count = length-set c.loop-i.places i c.take-place.new.self ∙ c.loop-i.invariant.count;
    }
