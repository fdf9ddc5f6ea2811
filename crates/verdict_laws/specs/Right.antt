-- What the user of a plan that is given for a description may rely on, for inputs of it: in every cut of the plan's ranks, and at the end
-- of every interleaving.
use Rattle.std.specs.Prelude.{ℕ, true, ◌≡◌, ◌<◌, ◌≤◌, ◌+◌, ◌*◌, List, [], Some, count_by, get_or}
use Rattle.ptl_types.specs.declared.handles.Count.{Count}
use Rattle.ptl_types.specs.Elements.{part}
use Rattle.ni_model.specs.Counts.{successes}
use Rattle.ni_model.specs.Tables.{lookup}
use Rattle.coll_shape.specs.Folding.{at}
use Rattle.coll_shape.specs.Meaning.{lists_of, meaning_of}
use Rattle.coll_shape.specs.Outline.{Outline, buffer_at}
use Rattle.given_lines.specs.declared.given.Mark.TheVariants.{Result, Enter, Leave}
use Rattle.given_lines.specs.Given.{Given}
use Rattle.mark_judge.specs.Marked.{AreMarked, IsMember, IsOn}
use Rattle.plan_core.specs.calls.Calls.{cell_start}
use Rattle.plan_core.specs.Members.{In}
use Rattle.plan_core.specs.Plan.{cell}
use Rattle.plan_core.specs.Sound.{AreInputsOf, SoundPlan}
use Rattle.plan_core.specs.Values.{Inputs}
use Rattle.cuts.specs.cells.Cells.{AreValuesAt}
use Rattle.cuts.specs.done.Done.{HasCounted, HasGotAll}
use Rattle.cuts.specs.histories.Cut.{IsCut}
use Rattle.cuts.specs.histories.History.{is_start}
use Rattle.cuts.specs.histories.Moment.{IsStill, Lanes}
use Rattle.cuts.specs.histories.Plans.{CounterReached, IsComplete, system_of}
use Rattle.cuts.specs.histories.System.{Histories, System, state_at}
use Rattle.cuts.specs.interleavings.Interleaving.{IsReachedIn, IsStillButStrays, steps_due}
use Rattle.cuts.specs.view.Slots.{Slots, done_ct}

-- the ranks of the plan with these inputs, whatever slots their tables give out
abbrev pub ranks_of : Given → Inputs → (ℕ → Slots) → System
ranks_of g inputs slots = system_of g.plan inputs slots

-- ---- results

-- A line names a cell on rank r for the list of buffer b, and in this memory of the rank that cell has the list that the description means
-- of the inputs.
pub record HoldsResult (o : Outline) (g : Given) (inputs : Inputs) (b r : ℕ) (memory : List ℕ) : Type 0 where
  pub number : ℕ
  pub named : In (Result b r number) g.marks
  pub lies : IsOn g.plan r number
  pub meant : part (cell_start g.plan number) (cell g.plan number).length memory ≡ at (lists_of (meaning_of o inputs) b) r

-- so it is for each buffer that is printed and each rank that holds a list of it, in these memories of the ranks
abbrev pub HoldResults : Outline → Given → Inputs → (ℕ → List ℕ) → Type 0
HoldResults o g inputs memory =
    (b r : ℕ) → In b o.prints → In r (buffer_at o b).spread.holders → HoldsResult o g inputs b r (memory r)

-- ---- barriers

-- rank r has entered the barrier that is step s: the cell that a line names for it has reached its needs
abbrev pub HasEntered : Given → Inputs → (ℕ → Slots) → Histories → ℕ → ℕ → Type 0
HasEntered g inputs slots w s r = (c : ℕ) × In (Enter s r c) g.marks × CounterReached g.plan inputs slots w c

-- it has left it
abbrev pub HasLeft : Given → Inputs → (ℕ → Slots) → Histories → ℕ → ℕ → Type 0
HasLeft g inputs slots w s r = (c : ℕ) × In (Leave s r c) g.marks × CounterReached g.plan inputs slots w c

-- ---- in a cut

-- the cell of input b at rank r: after the go cells stand those of the inputs, input by input, rank 0 first in each
abbrev pub input_cell : Outline → ℕ → ℕ → ℕ
input_cell o b r = o.ranks + (b * o.ranks + r)

-- the done counter of rank r has reached what the text says, as the rank's host waits for it: success and failure together
pub record IsDoneAsSaid (g : Given) (inputs : Inputs) (slots : ℕ → Slots) (w : Histories) (r : ℕ) : Type 0 where
  pub count : Count
  pub counter : lookup (done_ct (slots r)) (state_at (ranks_of g inputs slots) w r).cts.live ≡ Some count
  pub enough : HasCounted count (get_or g.done r 0)

-- At a rank that is done each cell has its final bytes, the results what the description means, and nothing of the job comes any more; and
-- where completion is remote no operation is left there, so that its memory is its host's again.
pub record IsFinalAt (o : Outline) (g : Given) (inputs : Inputs) (slots : ℕ → Slots) (w : Histories) (r : ℕ) : Type 0 where
  pub cells : AreValuesAt g.plan inputs r (state_at (ranks_of g inputs slots) w r).memory
  pub results : (b : ℕ) → In b o.prints → In r (buffer_at o b).spread.holders
      → HoldsResult o g inputs b r (state_at (ranks_of g inputs slots) w r).memory
  pub quiet : HasGotAll (ranks_of g inputs slots) w r
  pub released : g.plan.remote ≡ true → (state_at (ranks_of g inputs slots) w r).pending.waiting ≡ []

-- In a cut, whatever the order of starts, deliveries and firings: where one rank has left a barrier every member has entered it, and a rank
-- that has entered one has started; where the cell of an input has reached its needs, so that what reads it may fire, its rank has started;
-- and a rank that is done is final.
pub record IsRightInCut (o : Outline) (g : Given) (inputs : Inputs) (slots : ℕ → Slots) (w : Histories) : Type 0 where
  pub barriers : (s q r : ℕ) → HasLeft g inputs slots w s q → IsMember o s r → HasEntered g inputs slots w s r
  pub entries : (s r : ℕ) → HasEntered g inputs slots w s r → 0 < count_by is_start (w r)
  pub reads : (b r : ℕ) → b < o.inputs → r < o.ranks → CounterReached g.plan inputs slots w (input_cell o b r) → 0 < count_by is_start (w r)
  pub done : (r : ℕ) → r < o.ranks → IsDoneAsSaid g inputs slots w r → IsFinalAt o g inputs slots w r

-- ---- at an end

-- Each rank is complete, its done counter stands where the text says, and each result is what the description means.
pub record IsRightAtEnd (o : Outline) (g : Given) (inputs : Inputs) (slots : ℕ → Slots) (w : Histories) : Type 0 where
  pub complete : (r : ℕ) → r < o.ranks → IsComplete g.plan inputs slots w r
  pub done : (r : ℕ) → r < o.ranks →
      lookup (done_ct (slots r)) (state_at (ranks_of g inputs slots) w r).cts.live ≡ Some (successes (get_or g.done r 0))
  pub results : HoldResults o g inputs (λ r. (state_at (ranks_of g inputs slots) w r).memory)

-- ---- all of it

-- A sound plan of the description's ranks, which takes the inputs. There is one line for each thing that the description asks for and none
-- for another, and each names a cell that fits. Every cut of its ranks is right, and each moment of an interleaving is one, messages of
-- other jobs among its steps. No interleaving is longer than the plan and those messages say, some comes to its end, and each end is right.
pub record IsRightFor (o : Outline) (g : Given) (inputs : Inputs) : Type 0 where
  pub ranks : g.plan.ranks ≡ o.ranks
  pub sound : SoundPlan g.plan o.inputs
  pub takes : AreInputsOf g.plan inputs
  pub lines : AreMarked g.plan o g.done g.marks
  pub cuts : (slots : ℕ → Slots) (w : Histories) → IsCut (ranks_of g inputs slots) w → IsRightInCut o g inputs slots w
  pub moments : (slots : ℕ → Slots) (steps strays : ℕ) (w : Histories) (held : Lanes) →
      IsReachedIn (ranks_of g inputs slots) steps strays w held → IsCut (ranks_of g inputs slots) w
  pub bounded : (slots : ℕ → Slots) (steps strays : ℕ) (w : Histories) (held : Lanes) →
      IsReachedIn (ranks_of g inputs slots) steps strays w held → steps ≤ steps_due g.plan + strays
  pub some : (slots : ℕ → Slots) → (steps : ℕ) × (w : Histories) × (held : Lanes)
      × IsReachedIn (ranks_of g inputs slots) steps 0 w held × IsStill (ranks_of g inputs slots) w held
  pub ends : (slots : ℕ → Slots) (steps strays : ℕ) (w : Histories) (held : Lanes) →
      IsReachedIn (ranks_of g inputs slots) steps strays w held → IsStillButStrays (ranks_of g inputs slots) w held →
      IsRightAtEnd o g inputs slots w
