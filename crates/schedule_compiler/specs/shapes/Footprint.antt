-- How large a plan is, and which shapes are refused for it.
use Rattle.std.specs.Prelude.{ℕ, zero, suc, Option, Some, None, length, sum_by, nat_lt, if◌then◌else◌}
use Rattle.schedule_compiler.specs.declared.shapes.footprints.Size.{Size}
use Rattle.plan_core.specs.Plan.{Plan}
use Rattle.coll_shape.specs.Outline.{Outline}
use Rattle.schedule_compiler.specs.shapes.Drawing.{drawn_upto}
use Rattle.schedule_compiler.specs.declared.shapes.judging.TheConstants.{MOST_LINKS, MOST_BYTES}

abbrev pub size_of : Plan → Size
size_of p = record { links = length p.links; bytes = sum_by (λ k. k.length) p.cells }

-- up to and with step k
abbrev pub footprint : Outline → ℕ → Size
footprint o k = size_of (drawn_upto o (suc k)).plan

pub data Excess : Type 0 where
  Links Bytes : Excess

-- more than 500,000 links, or else more than 134,217,728 bytes
abbrev pub judged : Size → Option Excess
judged f = if nat_lt MOST_LINKS f.links then Some Links else (if nat_lt MOST_BYTES f.bytes then Some Bytes else None)

pub record Refused : Type 0 where
  pub step : ℕ
  pub name : Excess

abbrev pub refused_at : ℕ → Option Excess → Option Refused → Option Refused
refused_at k None later = later
refused_at k (Some name) later = Some (record { step = k; name = name })

-- of n steps from k on, the first at which a limit is passed
abbrev pub refusal_from : Outline → ℕ → ℕ → Option Refused
refusal_from o k zero = None
refusal_from o k (suc n) = refused_at k (judged (footprint o k)) (refusal_from o (suc k) n)

unfoldable pub refusal : Outline → Option Refused
refusal o = refusal_from o 0 (length o.steps)
