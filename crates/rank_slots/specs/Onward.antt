-- What becomes of a slot in a turn that follows hints.
use Rattle.std.specs.Prelude.{◌≡◌, Option, Some, None}
use Rattle.ptl_types.specs.declared.steps.LocalStep.{LocalStep}
use Rattle.rank_slots.specs.declared.turn_rank.TurnRank.{TurnRank}
use Rattle.rank_slots.specs.Chronicles.{KeepsHandles}
use Rattle.rank_slots.specs.Names.{Mark, mark, plate}
use Rattle.rank_slots.specs.Steps.{Made}

-- the history grew by the one step that was made, or is the same
abbrev pub Stepped : Option LocalStep → Mark → Mark → Type 0
Stepped None a b = b.0 ≡ a.0
Stepped (Some step) a b = Made step a b

-- beside that its name stays, and no handle is given after the start
abbrev pub Onward : Option LocalStep → TurnRank → TurnRank → Type 0
Onward made old new = (plate new ≡ plate old) × Stepped made (mark old) (mark new) × KeepsHandles old new
