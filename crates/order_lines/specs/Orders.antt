-- Order lines: for each rank, rank 0 first, the line of its local steps.
use Rattle.std.specs.Prelude.{ℕ, zero, suc, ◌+◌, ◌-◌, ◌==◌, ◌&&◌, List, [], ◌∷◌, Option, Some, None, Result, Ok, Err, is_some}
use Rattle.std.specs.Prelude.{option_and_then, option_map, if◌then◌else◌, codes}
use Rattle.std.specs.List.{list_all}
use Rattle.std.specs.Str.{bytes_eq}
use Rattle.ptl_types.specs.declared.headers.Lane.{Lane}
use Rattle.ptl_types.specs.declared.headers.Lane.TheVariants.{Answer, Request}
use Rattle.ptl_types.specs.declared.steps.LocalStep.{LocalStep}
use Rattle.ptl_types.specs.declared.steps.LocalStep.TheVariants.{Start, Receive, Fire}
use Rattle.coll_text.specs.Text.{is_empty, number_between, words}
use Rattle.coll_lang.specs.Language.{is_allowed}
use Rattle.coll_lang.specs.declared.fault.Refusal.{Refusal}
use Rattle.coll_lang.specs.declared.fault.Refusal.TheVariants.{AfterEnd, BadByte, BadOrder, Unended}

-- the receipt from the rank that the word is
abbrev pub receipt : ℕ → List ℕ → Lane → Option LocalStep
receipt ranks word lane = option_map (λ s. Receive s lane) (number_between 0 (ranks - 1) word)

-- the firing of the number that the word is
abbrev pub firing : List ℕ → Option LocalStep
firing word = option_map (λ t. Fire t) (number_between 0 4294967295 word)

-- `s`, `rS` and `aS` for a message from rank S on the request and on the answer lane, `fT` for the firing of number T
unfoldable pub step_of : ℕ → List ℕ → Option LocalStep
step_of ranks [] = None
step_of ranks (b ∷ word) =
    if b == 115 then (if is_empty word then Some Start else None)
    else if b == 114 then receipt ranks word Request
    else if b == 97 then receipt ranks word Answer
    else if b == 102 then firing word
    else None

abbrev pub steps_of : ℕ → List (List ℕ) → Option (List LocalStep)
steps_of ranks [] = Some []
steps_of ranks (w ∷ ws) = option_and_then (λ e. option_map (λ es. e ∷ es) (steps_of ranks ws)) (step_of ranks w)

-- `order`, the rank that is due, and its steps
unfoldable pub order_of : ℕ → ℕ → List (List ℕ) → Option (List LocalStep)
order_of ranks r [] = None
order_of ranks r (key ∷ []) = None
order_of ranks r (key ∷ rank ∷ ws) =
    if bytes_eq key (codes "order") && is_some (number_between r r rank) then steps_of ranks ws else None

-- the steps, if the words of line k are such
abbrev pub unless_bad : ℕ → Option (List LocalStep) → Result (List LocalStep) (ℕ × Refusal)
unless_bad k None = Err (k, BadOrder)
unless_bad k (Some steps) = Ok steps

-- line k, where the order of rank r is due
unfoldable pub order_at : ℕ → ℕ → ℕ → List ℕ → Result (List LocalStep) (ℕ × Refusal)
order_at ranks r k line = if list_all is_allowed line then unless_bad k (order_of ranks r (words line)) else Err (k, BadByte)

abbrev pub and_later : Result (List LocalStep) (ℕ × Refusal) → Result (List (List LocalStep)) (ℕ × Refusal)
    → Result (List (List LocalStep)) (ℕ × Refusal)
and_later (Err refusal) later = Err refusal
and_later (Ok steps) (Err refusal) = Err refusal
and_later (Ok steps) (Ok lists) = Ok (steps ∷ lists)

-- The pieces of a text from line k on, where the orders of so many ranks are due, that of rank r first. No LF stands after the last
-- piece.
unfoldable pub read_orders : ℕ → ℕ → ℕ → ℕ → List (List ℕ) → Result (List (List LocalStep)) (ℕ × Refusal)
read_orders ranks zero r k [] = Ok []
read_orders ranks zero r k (piece ∷ []) = if is_empty piece then Ok [] else Err (k, AfterEnd)
read_orders ranks zero r k (line ∷ piece ∷ pieces) = Err (k, AfterEnd)
read_orders ranks (suc left) r k [] = Err (k, Unended)
read_orders ranks (suc left) r k (piece ∷ []) = Err (k, Unended)
read_orders ranks (suc left) r k (line ∷ piece ∷ pieces) =
    and_later (order_at ranks r k line) (read_orders ranks left (r + 1) (k + 1) (piece ∷ pieces))
