-- What a text says that isn't refused.
use Rattle.std.specs.Prelude.{ℕ, nat_lt, List, Option, Some, None, Result, Ok, Err, take, drop, length, if◌then◌else◌}
use Rattle.coll_text.specs.Text.{lines}
use Rattle.coll_lang.specs.declared.fault.Refusal.{Refusal}
use Rattle.coll_lang.specs.Language.{read}
use Rattle.coll_lang.specs.Program.{Program}
use Rattle.given_lines.specs.Given.{Given, Read, read_given}
use Rattle.given_verdicts.specs.declared.judging.TheConstants.{LONGEST_GIVEN}
use Rattle.given_verdicts.specs.Answers.{least_cells}
use Rattle.order_lines.specs.Check.{description_bytes, line_after}
use Rattle.plan_top.specs.declared.notes.again.GivenText.{GivenText}

abbrev pub with_plan : ℕ → Program → Read Given → Option GivenText
with_plan k d (Err refusal) = None
with_plan k d (Ok g) = Some (record { line = k; description = d; given = g })

-- after a description a plan's text from line k on
abbrev pub with_description : ℕ → Result Program (ℕ × Refusal) → List (List ℕ) → Option GivenText
with_description k (Err refusal) pieces = None
with_description k (Ok d) pieces = with_plan k d (read_given d.shape.ranks (least_cells d.shape) d.shape.buffers k pieces)

-- a description and a plan
abbrev pub given_in : List ℕ → Option GivenText
given_in bytes =
    let front = description_bytes (lines bytes) in
    if nat_lt LONGEST_GIVEN (length bytes) then None
    else with_description (line_after 1 (lines bytes)) (read (take front bytes)) (lines (drop front bytes))
