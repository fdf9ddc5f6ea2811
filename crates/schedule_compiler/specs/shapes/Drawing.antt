-- The plan of a shape, step by step.
use Rattle.std.specs.Prelude.{ℕ, zero, suc, ◌+◌, ◌*◌, None, [], ◌∷◌, length, map, replicate}
use Rattle.plan_core.specs.declared.Part.{Part}
use Rattle.plan_core.specs.Plan.{Plan, from_to}
use Rattle.plan_core.specs.Draw.{NewCell, HeldCells, add_all, go_plan, hold, new_cell}
use Rattle.coll_shape.specs.declared.types.Buffer.{Buffer}
use Rattle.coll_shape.specs.Outline.{Outline, buffer_at, group_at, list_bytes, step_at}
use Rattle.plan_steps.specs.StepContext.{bump}
use Rattle.plan_steps.specs.declared.drawing.Drawing.{Drawing}
use Rattle.plan_steps.specs.Drawing.{drawn_step}

-- the go cells
abbrev pub opened : Outline → Drawing
opened o = record {
  plan = go_plan o.ranks o.remote;
  held = record { buffers = length o.buffers; ranks = o.ranks; cells = replicate (length o.buffers * o.ranks) None };
  exits = from_to 0 o.ranks;
}

-- the cell of an input at a rank waits for the go cell alone
abbrev pub input_part : Buffer → ℕ → Part
input_part x r = record { rank = r; ty = x.ty; op = None; length = list_bytes x }

abbrev pub input_cell : Buffer → ℕ → NewCell
input_cell x r = new_cell (input_part x r) (bump r ∷ [])

-- buffer b is held by the first n ranks, by cells that follow one another
unfoldable pub hold_row : HeldCells → ℕ → ℕ → ℕ → HeldCells
hold_row h b first zero = h
hold_row h b first (suc r) = hold (hold_row h b first r) b r (first + r)

abbrev pub drawn_input : Outline → Drawing → ℕ → Drawing
drawn_input o d b = record {
  plan = add_all d.plan (map (input_cell (buffer_at o b)) (from_to 0 o.ranks));
  held = hold_row d.held b (length d.plan.cells) o.ranks;
  exits = d.exits;
}

-- after the first b inputs
unfoldable pub drawn_inputs : Outline → ℕ → Drawing
drawn_inputs o zero = opened o
drawn_inputs o (suc b) = drawn_input o (drawn_inputs o b) b

-- after the first k steps
unfoldable pub drawn_upto : Outline → ℕ → Drawing
drawn_upto o zero = drawn_inputs o o.inputs
drawn_upto o (suc k) = drawn_step o (drawn_upto o k) (step_at o k) (group_at o k)

unfoldable pub drawing_of : Outline → Drawing
drawing_of o = drawn_upto o (length o.steps)

abbrev pub plan_of : Outline → Plan
plan_of o = (drawing_of o).plan
