use Rattle.portals_top.proofs.Telling.{points_tell}
use Rattle.portals_top.proofs.refusing.refuse_with.Goals as goal

pub returns : goal.returns
returns g c = record {
  written = c.refuse.ensures;
  told = points_tell c.args.line c.args.name _ _ _ _ c.refuse.ensures (c.requires.line, c.requires.name);
}
