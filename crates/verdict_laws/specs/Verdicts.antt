-- What an answer that a plan holds tells of the text that was judged.
use Rattle.std.specs.Prelude.{ℕ, ◌≡◌, List, None, Ok, drop, take}
use Rattle.coll_text.specs.Text.{lines}
use Rattle.coll_shape.specs.Meaning.{AreInputs}
use Rattle.coll_lang.specs.Language.{read}
use Rattle.coll_lang.specs.Program.{Program}
use Rattle.order_lines.specs.Check.{description_bytes, line_after}
use Rattle.given_lines.specs.Given.{Given, read_given}
use Rattle.given_verdicts.specs.Answers.{least_cells}
use Rattle.plan_core.specs.Draw.{HeldCells}
use Rattle.plan_core.specs.Values.{Inputs}
use Rattle.schedule_compiler.specs.Keeping.{CanRun}
use Rattle.schedule_compiler.specs.Schedules.{scheduled}
use Rattle.verdict_laws.specs.Flawless.{AreNamedResults}
use Rattle.verdict_laws.specs.Right.{IsRightFor}

-- the bytes of the description: up to and including the first line `end`
abbrev pub front_of : List ℕ → ℕ
front_of bytes = description_bytes (lines bytes)

-- The text is that of this description, which is no choice text, and after it that of this plan for it: each is what is read.
pub record IsTextOf (bytes : List ℕ) (d : Program) (g : Given) : Type 0 where
  pub description : read (take (front_of bytes) bytes) ≡ Ok d
  pub steps : d.choices ≡ None
  pub plan : read_given d.shape.ranks (least_cells d.shape) d.shape.buffers (line_after 1 (lines bytes))
      (lines (drop (front_of bytes) bytes)) ≡ Ok g

-- with the cells that its lines name as those of its results the plan meets what all that runs plans asks of them
abbrev pub CanBeRun : Program → Given → Type 0
CanBeRun d g = (held : HeldCells) → AreNamedResults g.plan g.marks held → CanRun (scheduled g.plan held d.shape.inputs)

-- The plan is right for the inputs of its description.
pub record IsRightGiven (bytes : List ℕ) : Type 0 where
  pub description : Program
  pub given : Given
  pub text : IsTextOf bytes description given
  pub can_run : CanBeRun description given
  pub right : IsRightFor description.shape given description.inputs

-- It is right for all inputs of the description's shape, of which its own inputs are some.
pub record IsRightForAll (bytes : List ℕ) : Type 0 where
  pub description : Program
  pub given : Given
  pub text : IsTextOf bytes description given
  pub can_run : CanBeRun description given
  pub own : AreInputs description.shape description.inputs
  pub right : (inputs : Inputs) → AreInputs description.shape inputs → IsRightFor description.shape given inputs
