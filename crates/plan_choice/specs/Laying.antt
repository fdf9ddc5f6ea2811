-- The lanes of a choice world before its first step.
use Rattle.std.specs.Prelude.{ℕ, [], if◌then◌else◌}
use Rattle.ptl_types.specs.declared.headers.Lane.{Lane}
use Rattle.pair_wires.specs.Lanes.{Plain, plain}
use Rattle.plan_choice.specs.texts.laws.Decided.{is_choice_lane}

-- empty, with room for a message of each step of the text where it is used
abbrev pub laid_lane : ℕ → ℕ → ℕ → Lane → Plain
laid_lane steps s d lane = plain [] (if is_choice_lane s d lane then steps else 0)
