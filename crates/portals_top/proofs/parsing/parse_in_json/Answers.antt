use Rattle.std.proofs.Common.{refl, sym, ◌∙◌}
use Rattle.portals_top.proofs.Spellings.{refused-fails}
use Rattle.portals_top.proofs.parsing.parse_in_json.Goals as goal

pub returns-in-Ok : goal.returns-in-Ok
returns-in-Ok c = rw c.in-Ok.ensures.exact refl

pub returns-in-Some : goal.returns-in-Some
returns-in-Some c = refused-fails c.in-Err.fault _ _ _ c.in-Err.ensures.exact (sym c.refusal.ensures.value ∙ c.in-Some.is)
