-- The lines of orders of local steps, and of what fails of them.
use Rattle.std.specs.Prelude.{ℕ, List, [], ◌∷◌, ◌++◌, map, codes}
use Rattle.std.specs.List.{flat_map}
use Rattle.std.specs.Fmt.{decimal}
use Rattle.ptl_types.specs.declared.headers.Lane.TheVariants.{Request, Answer}
use Rattle.ptl_types.specs.declared.steps.LocalStep.{LocalStep}
use Rattle.ptl_types.specs.declared.steps.LocalStep.TheVariants.{Start, Receive, Fire}
use Rattle.ptl_types.specs.declared.steps.Cause.{Cause}
use Rattle.ptl_types.specs.declared.steps.Cause.TheVariants.{StartedTwice, NotSent, NotReady, NotAtRest}
use Rattle.number_lists.specs.Numbers.{from_to}
use Rattle.coll_text.specs.Text.{line}

-- `s`, `rS`, `aS` or `fT`
abbrev pub step_word : LocalStep → List ℕ
step_word Start = codes "s"
step_word (Receive source Request) = codes "r" ++ decimal source
step_word (Receive source Answer) = codes "a" ++ decimal source
step_word (Fire number) = codes "f" ++ decimal number

abbrev pub order_line : ℕ → List LocalStep → List ℕ
order_line r steps = line (codes "order" ∷ decimal r ∷ map step_word steps)

-- a line for each of n ranks
abbrev pub order_text : ℕ → (ℕ → List LocalStep) → List ℕ
order_text n steps = flat_map (λ r. order_line r (steps r)) (from_to 0 n)

abbrev pub cause_word : Cause → List ℕ
cause_word StartedTwice = codes "StartedTwice"
cause_word NotSent = codes "NotSent"
cause_word NotReady = codes "NotReady"
cause_word NotAtRest = codes "NotAtRest"

-- the rank, the place of the step among its own, from 1, and the cause
abbrev pub fails_line : ℕ → ℕ → Cause → List ℕ
fails_line r place cause = line (codes "fails" ∷ decimal r ∷ decimal place ∷ cause_word cause ∷ [])
