-- The input of a check: a description, which ends with the first line `end`, and after it the order lines.
use Rattle.std.specs.Prelude.{ℕ, ◌+◌, List, [], ◌∷◌, length, Option, Some, None, Result, Ok, Err, nat_lt, if◌then◌else◌, codes, take, drop}
use Rattle.std.specs.Str.{bytes_eq}
use Rattle.ptl_types.specs.declared.steps.LocalStep.{LocalStep}
use Rattle.coll_text.specs.Text.{lines}
use Rattle.coll_lang.specs.Language.{read}
use Rattle.coll_lang.specs.Program.{Chosen, Program}
use Rattle.coll_lang.specs.declared.fault.Refusal.{Refusal}
use Rattle.coll_lang.specs.declared.fault.Refusal.TheVariants.{OneThread, TooLong}
use Rattle.order_lines.specs.Orders.{read_orders}
use Rattle.order_lines.specs.declared.checking.TheConstants.{LONGEST_CHECK}

-- how many bytes the lines up to and including the first line `end` have; all, where there is no such line
unfoldable pub description_bytes : List (List ℕ) → ℕ
description_bytes [] = 0
description_bytes (piece ∷ []) = length piece
description_bytes (line ∷ piece ∷ pieces) =
    if bytes_eq line (codes "end") then length line + 1 else length line + 1 + description_bytes (piece ∷ pieces)

-- the number of the line after them, where the first line is line k
unfoldable pub line_after : ℕ → List (List ℕ) → ℕ
line_after k [] = k
line_after k (piece ∷ []) = k
line_after k (line ∷ piece ∷ pieces) = if bytes_eq line (codes "end") then k + 1 else line_after (k + 1) (piece ∷ pieces)

abbrev pub with_lists : Program → Result (List (List LocalStep)) (ℕ × Refusal) → Result (Program × List (List LocalStep)) (ℕ × Refusal)
with_lists d (Err refusal) = Err refusal
with_lists d (Ok lists) = Ok (d, lists)

-- the pieces after a description, from line k on; those after a choice text aren't looked at
abbrev pub orders_after : Program → Option Chosen → ℕ → List (List ℕ) → Result (Program × List (List LocalStep)) (ℕ × Refusal)
orders_after d (Some choices) k pieces = Err (0, OneThread)
orders_after d None k pieces = with_lists d (read_orders d.shape.ranks d.shape.ranks 0 k pieces)

abbrev pub with_orders : Result Program (ℕ × Refusal) → ℕ → List (List ℕ) → Result (Program × List (List LocalStep)) (ℕ × Refusal)
with_orders (Err refusal) k pieces = Err refusal
with_orders (Ok d) k pieces = orders_after d d.choices k pieces

-- What an input says, or its first refusal with its line: first too long, then the description, then the lines after it.
unfoldable pub read_check : List ℕ → Result (Program × List (List LocalStep)) (ℕ × Refusal)
read_check bytes =
    let front = description_bytes (lines bytes) in
    if nat_lt LONGEST_CHECK (length bytes) then Err (0, TooLong)
    else with_orders (read (take front bytes)) (line_after 1 (lines bytes)) (lines (drop front bytes))
