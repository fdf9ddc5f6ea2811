-- What a text that is read says.
use Rattle.std.specs.Prelude.{◌≡◌, ℕ, ◌+◌, ◌*◌, List, [], ◌++◌, Option, Some, None, Ok}
use Rattle.coll_text.specs.Text.{lines}
use Rattle.coll_lang.specs.Program.{Program}
use Rattle.given_lines.specs.Given.{Given, Read, read_given}
use Rattle.plan_pictures.specs.declared.lines.plan_text.PlanText.{PlanText}

-- the plan that these pieces of a text are, from line k on, after such a description, or of so many ranks where there is none
abbrev pub read_after : Option Program → ℕ → ℕ → List (List ℕ) → Read Given
read_after None ranks k pieces = read_given ranks ranks [] k pieces
read_after (Some d) ranks k pieces =
    read_given d.shape.ranks (d.shape.ranks + d.shape.inputs * d.shape.ranks) d.shape.buffers k pieces

-- the plan is what these bytes say, as every reader of given plans takes them
abbrev pub IsPlanOf : PlanText → List ℕ → Type 0
IsPlanOf p bytes = read_after p.description p.ranks p.first (lines bytes) ≡ Ok p.given

-- the plan is said by a part of the text
pub record IsPlanIn (text : List ℕ) (p : PlanText) : Type 0 where
  pub before : List ℕ
  pub said : List ℕ
  pub after : List ℕ
  pub parts : text ≡ before ++ said ++ after
  pub plan : IsPlanOf p said
