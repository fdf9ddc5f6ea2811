use Rattle.std.proofs.Common.{◌≡◌, Err}
use Rattle.portals_top.specs.Formats.{read_as}
use Rattle.portals_top.proofs.Answering.{no-world-refused}
use Rattle.portals_top.proofs.Telling.{points_tell}
use Rattle.portals_top.proofs.top.answer.Goals as goal

pub returns-in-Ok : goal.returns-in-Ok
returns-in-Ok g c = record { begun = rw c.in-Ok.ensures.read c.described.ensures.begun; told = c.described.ensures.told }

pub returns-in-Err-Refused : goal.returns-in-Err-Refused
returns-in-Err-Refused g c =
    let refused : read_as c.args.task.format c.args.text.items ≡ Err (c.in-Err-Refused.line, c.in-Err-Refused.name) =
    rw c.in-Err-Refused.field-0-is at c.in-Err-Refused.ensures.read in
    record {
      begun = (
        rw refused (rw c.in-Err-Refused.field-0-is at c.refuse.ensures),
        rw (refused, c.requires.none) (no-world-refused _ _ c.refuse.ensures.allowed),
      );
      told = points_tell c.in-Err-Refused.line c.in-Err-Refused.name _ _ _ _ (rw c.in-Err-Refused.field-0-is at c.refuse.ensures)
          (rw c.in-Err-Refused.field-0-is at c.in-Err-Refused.ensures.told);
    }
