-- What the cells of a plan hold in the memories of its ranks, and in which order they are reached.
use Rattle.std.specs.Prelude.{ℕ, ◌≡◌, ◌<◌, ◌≤◌, List, Option, Some, None, [], length}
use Rattle.ptl_types.specs.Elements.{part}
use Rattle.plan_core.specs.Draw.{HeldCells, held_cell}
use Rattle.plan_core.specs.Plan.{Plan, cell}
use Rattle.plan_core.specs.Values.{Inputs, value}
use Rattle.plan_core.specs.calls.Calls.{cell_start}
use Rattle.cuts.specs.machine.Machine.{Leads}
use Rattle.cuts.specs.machine.Rounds.{IsRounds}
use Rattle.cuts.specs.view.Slots.{Slots}
use Rattle.cuts.specs.histories.Barrier.{IsBarrierKept}
use Rattle.cuts.specs.histories.Plans.{CounterReached}
use Rattle.cuts.specs.histories.System.{Histories}

-- ---- parts of a memory
-- the bytes of a cell in its rank's memory; none where there is no cell
abbrev pub cell_part : Plan → List ℕ → Option ℕ → List ℕ
cell_part p memory None = []
cell_part p memory (Some c) = part (cell_start p c) (cell p c).length memory

-- the bytes of the cell that holds buffer b at rank r, in the rank's memory; none where no cell holds it
abbrev pub result_in : Plan → HeldCells → ℕ → ℕ → List ℕ → List ℕ
result_in p h b r memory = cell_part p memory (held_cell h b r)

-- ---- values
-- in this memory of rank r each cell of the rank holds its value, its final bytes
abbrev pub AreValuesAt : Plan → Inputs → ℕ → List ℕ → Type 0
AreValuesAt p inputs r memory =
    (c : ℕ) → c < length p.cells → (cell p c).rank ≡ r → part (cell_start p c) (cell p c).length memory ≡ value p inputs c

-- in these memories of the ranks each cell does
abbrev pub AreValues : Plan → Inputs → (ℕ → List ℕ) → Type 0
AreValues p inputs memory = (r : ℕ) → r < p.ranks → AreValuesAt p inputs r (memory r)

-- ---- order
-- where a cell has reached its needs, so has each cell from which links lead to it
abbrev pub AreCellsInOrder : Plan → Inputs → (ℕ → Slots) → Histories → Type 0
AreCellsInOrder p inputs slots w =
    (b c : ℕ) → b < length p.cells → c < length p.cells → Leads p b c → CounterReached p inputs slots w c
    → CounterReached p inputs slots w b

-- each dissemination among cells of the plan is a barrier that is kept
abbrev pub AreRoundsKept : Plan → Inputs → (ℕ → Slots) → Histories → Type 0
AreRoundsKept p inputs slots w =
    (places rounds : ℕ) (round : ℕ → ℕ → ℕ) → IsRounds p places rounds round
    → ((k m : ℕ) → k ≤ rounds → m < places → round k m < length p.cells) → IsBarrierKept p inputs slots w places round rounds
