-- What a call leaves beside its text.
use Rattle.std.specs.Prelude.{None}
use Rattle.portals_top.specs.declared.ran.Ran.{Ran}

-- neither a world nor a choice world, and no memory that threads used
abbrev pub nothing_ran : Ran
nothing_ran = record { world = None; choice = None; spent = None }
