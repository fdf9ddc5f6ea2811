-- The judgement of a shape by closed forms, and what `compile` answers.
use Rattle.std.specs.Prelude.{ℕ, zero, suc, ◌+◌, ◌*◌, ◌≡◌, ◌<◌, Option, Some, None, length, Result, Ok, Err}
use Rattle.coll_shape.specs.Outline.{Outline, buffer_at, group_at, list_bytes, step_at, read_buffer}
use Rattle.coll_shape.specs.Collectives.{source_of, IsRoot, holding_places}
use Rattle.schedule_compiler.specs.shapes.Footprint.Excess.{Links, Bytes}
use Rattle.schedule_compiler.specs.declared.shapes.footprints.Size.{Size}
use Rattle.schedule_compiler.specs.declared.shapes.faults.CompileFault.{CompileFault}
use Rattle.schedule_compiler.specs.declared.shapes.faults.CompileFault.TheVariants.{TooMany, TooLarge, NoMemory}
use Rattle.plan_steps.specs.Collectives.{step_bytes, step_links}
use Rattle.schedule_compiler.specs.shapes.Footprint.{judged, refused_at, Refused}

-- what step k adds
abbrev pub step_size : Outline → ℕ → Size
step_size o k =
    let x = read_buffer o (source_of (step_at o k)) in
    let m = length (group_at o k) in
    let h = length (holding_places (group_at o k) x.spread.holders) in
    record { links = step_links (step_at o k) m h; bytes = step_bytes (step_at o k) m h (list_bytes x) }

abbrev pub add_sizes : Size → Size → Size
add_sizes a b = record { links = a.links + b.links; bytes = a.bytes + b.bytes }

-- what the first b inputs add
abbrev pub inputs_size : Outline → ℕ → Size
inputs_size o zero = record { links = 0; bytes = 0 }
inputs_size o (suc b) = add_sizes (inputs_size o b) (record { links = o.ranks; bytes = o.ranks * list_bytes (buffer_at o b) })

-- up to step k, which is not counted
abbrev pub size_upto : Outline → ℕ → Size
size_upto o zero = inputs_size o o.inputs
size_upto o (suc k) = add_sizes (size_upto o k) (step_size o k)

-- of n steps from k on, the first at which a limit is passed
abbrev pub found_from : Outline → ℕ → ℕ → Option Refused
found_from o k zero = None
found_from o k (suc n) = refused_at k (judged (size_upto o (suc k))) (found_from o (suc k) n)

-- exactly what was found; a shape without a refusal has the size of all its steps
abbrev pub Judges : Outline → Result Size CompileFault → Type 0
Judges o (Ok size) = (found_from o 0 (length o.steps) ≡ None) × (size ≡ size_upto o (length o.steps))
Judges o (Err (TooMany k)) = found_from o 0 (length o.steps) ≡ Some (record { step = k; name = Links })
Judges o (Err (TooLarge k)) = found_from o 0 (length o.steps) ≡ Some (record { step = k; name = Bytes })
Judges o (Err NoMemory) = ⊥

-- each step has a member, and its root is a place
pub record AreSteps (o : Outline) : Type 0 where
  pub some : (k : ℕ) → k < length o.steps → 0 < length (group_at o k)
  pub roots : (k : ℕ) → k < length o.steps → IsRoot (step_at o k) (length (group_at o k))
