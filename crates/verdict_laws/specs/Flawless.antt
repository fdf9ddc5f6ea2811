-- A given plan in which nothing is at fault, and what then holds of its ranks.
use Rattle.std.specs.Prelude.{ℕ, ◌≡◌, ◌<◌, List, Some, None, count_by}
use Rattle.ptl_types.specs.Elements.{part}
use Rattle.coll_shape.specs.Outline.{Outline}
use Rattle.given_lines.specs.declared.given.Mark.{Mark}
use Rattle.given_lines.specs.declared.given.Mark.TheVariants.{Result, Enter, Leave}
use Rattle.given_lines.specs.Given.{Given}
use Rattle.given_verdicts.specs.Answers.{lengths_of}
use Rattle.mark_judge.specs.Judged.{marks_judged}
use Rattle.plan_agreement.specs.Agreement.{IsMeant}
use Rattle.plan_core.specs.calls.Calls.{cell_start}
use Rattle.plan_core.specs.Draw.{HeldCells, held_cell}
use Rattle.plan_core.specs.Members.{In}
use Rattle.plan_core.specs.Plan.{Plan, cell}
use Rattle.plan_core.specs.Values.{Inputs, value}
use Rattle.plan_judge.specs.Causes.{judged}
use Rattle.cuts.specs.histories.History.{is_start}
use Rattle.cuts.specs.histories.Plans.{CounterReached}
use Rattle.cuts.specs.histories.System.{Histories}
use Rattle.cuts.specs.view.Slots.{Slots}

-- Nothing is at fault in a plan of as many ranks as a description has: not in the plan itself, which takes lists of the lengths of the
-- description's inputs and guards them, nor in where done counters are said to stand and in the lines that name cells.
pub record IsFlawless (p : Plan) (o : Outline) (said : List ℕ) (ms : List Mark) : Type 0 where
  pub ranks : p.ranks ≡ o.ranks
  pub plan : judged p (lengths_of o) ≡ None
  pub lines : marks_judged p o said ms ≡ None

-- the cells that the lines `result` name, each for its buffer and rank
pub record AreNamedResults (p : Plan) (ms : List Mark) (h : HeldCells) : Type 0 where
  pub ranks : h.ranks ≡ p.ranks
  pub named : (b r c : ℕ) → b < h.buffers → r < p.ranks → held_cell h b r ≡ Some c → In (Result b r c) ms

-- each barrier is kept: where some rank has left it, as the lines name the cells, each member has entered it
abbrev pub AreNamedBarriersKept : Plan → List Mark → Inputs → (ℕ → Slots) → Histories → Type 0
AreNamedBarriersKept p ms inputs slots w =
    (s r q b c : ℕ) → In (Enter s r b) ms → In (Leave s q c) ms → CounterReached p inputs slots w c → CounterReached p inputs slots w b

-- where a rank has entered a barrier, as the lines name the cells, it has started
abbrev pub AreEntriesBegun : Plan → List Mark → Inputs → (ℕ → Slots) → Histories → Type 0
AreEntriesBegun p ms inputs slots w =
    (s r c : ℕ) → In (Enter s r c) ms → CounterReached p inputs slots w c → 0 < count_by is_start (w r)

-- in these memories of the ranks the cell of each line `result` holds its value
abbrev pub AreResultsIn : Plan → List Mark → Inputs → (ℕ → List ℕ) → Type 0
AreResultsIn p ms inputs memory =
    (b r c : ℕ) → In (Result b r c) ms → part (cell_start p c) (cell p c).length (memory r) ≡ value p inputs c

-- in the end the cell of each result holds what the description means of these inputs
abbrev pub AreNamedMeant : Outline → Given → Inputs → Type 0
AreNamedMeant o g inputs = (m : Mark) → In m g.marks → IsMeant g.plan o inputs m
