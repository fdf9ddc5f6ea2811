-- Why a text is refused.
use Rattle.std.specs.Prelude.{ℕ, ◌+◌, ◌*◌, List, [], ◌∷◌, length, codes, if◌then◌else◌}
use Rattle.std.specs.Fmt.{decimal}
use Rattle.coll_text.specs.Text.{line}
use Rattle.coll_shape.specs.Outline.{Outline}
use Rattle.coll_lang.specs.declared.fault.Refusal.{Refusal}
use Rattle.coll_lang.specs.Words.{refusal_word}

-- the line, counted from 1, or 0 for the whole text, and the refusal's name
abbrev pub refusal_line : ℕ → Refusal → List ℕ
refusal_line number name = line (codes "refused" ∷ decimal number ∷ refusal_word name ∷ [])

-- The line of step k, both counted as they are: after the two lines of the head stand `complete remote`, where it is said, a line
-- for each group, and for each input a line and one for each rank.
abbrev pub step_line : Outline → ℕ → ℕ
step_line o k = 3 + (if o.remote then 1 else 0) + length o.groups + o.inputs * (o.ranks + 1) + k
