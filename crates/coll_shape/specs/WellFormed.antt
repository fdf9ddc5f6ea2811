-- What every description meets.
use Rattle.std.specs.Prelude.{◌≡◌, ℕ, zero, suc, ◌+◌, ◌*◌, ◌<◌, ◌≤◌, List, Option, Some, None, [], ◌++◌, length, map, get_or, true}
use Rattle.std.specs.List.{sum_by}
use Rattle.coll_text.specs.Text.{is_name}
use Rattle.number_lists.specs.Numbers.{from_to}
use Rattle.coll_shape.specs.declared.limits.TheConstants.{MOST_RANKS, MOST_RANKS_IN_ONE, MOST_GROUPS, MOST_BUFFERS, MOST_STEPS, MOST_PRINTS}
use Rattle.coll_shape.specs.declared.limits.TheConstants.{MOST_GIVEN, MOST_ELEMENTS}
use Rattle.coll_shape.specs.declared.types.Version.{Version}
use Rattle.coll_shape.specs.declared.types.Version.TheVariants.{One, Two}
use Rattle.coll_shape.specs.declared.types.Buffer.{Buffer}
use Rattle.coll_shape.specs.declared.types.Group.{Group}
use Rattle.coll_shape.specs.declared.types.CollStep.{CollStep}
use Rattle.coll_shape.specs.Outline.{Outline, buffer_at, step_at, group_at, read_buffer, no_group}
use Rattle.coll_shape.specs.Collectives.{source_of, result_of, since, IsRoot, Reads, buffer_after, named}

abbrev pub most_ranks : Version → ℕ
most_ranks One = MOST_RANKS_IN_ONE
most_ranks Two = MOST_RANKS

-- what stands from a version on stands in a text of a version
abbrev pub StandsIn : Version → Version → Type 0
StandsIn One version = Unit {0}
StandsIn Two One = ⊥
StandsIn Two Two = Unit {0}

-- the members are ranks, rising
pub record AreMembers (n : ℕ) (g : List ℕ) : Type 0 where
  pub some : 0 < length g
  pub at_most : length g ≤ MOST_RANKS
  pub ranks : (i : ℕ) → i < length g → get_or g i 0 < n
  pub rising : (i j : ℕ) → i < j → j < length g → get_or g i 0 < get_or g j 0

-- a buffer that a step reads or makes
abbrev pub IsNumber : Outline → Option ℕ → Type 0
IsNumber o None = Unit {0}
IsNumber o (Some b) = b < length o.buffers

-- a group that a step names; steps in version 1 name none
abbrev pub IsGroup : Outline → Option ℕ → Type 0
IsGroup o None = Unit {0}
IsGroup o (Some i) = i < length o.groups

-- the limits, and numbers in range
pub record IsShape (o : Outline) : Type 0 where
  pub some_rank : 1 ≤ o.ranks
  pub few_ranks : o.ranks ≤ MOST_RANKS
  pub few_buffers : length o.buffers ≤ MOST_BUFFERS
  pub few_inputs : o.inputs ≤ length o.buffers
  pub few_steps : length o.steps ≤ MOST_STEPS
  pub few_prints : length o.prints ≤ MOST_PRINTS
  pub few_groups : length o.groups ≤ MOST_GROUPS
  pub on_groups : length o.on ≡ length o.steps
  pub on_group : (k : ℕ) → k < length o.steps → IsGroup o (get_or o.on k None)
  pub named_members : (i : ℕ) → i < length o.groups → AreMembers o.ranks (get_or o.groups i no_group).members
  pub members : (k : ℕ) → k < length o.steps → AreMembers o.ranks (group_at o k)
  pub sources : (k : ℕ) → k < length o.steps → IsNumber o (source_of (step_at o k))
  pub results : (k : ℕ) → k < length o.steps → IsNumber o (result_of (step_at o k))
  pub short : (b : ℕ) → b < length o.buffers → (buffer_at o b).spread.length ≤ MOST_ELEMENTS
  pub printed : (i : ℕ) → i < length o.prints → get_or o.prints i 0 < length o.buffers

-- how many buffers there are before step k: the inputs, and one for each step that makes one
abbrev pub and_one : Option ℕ → ℕ → ℕ
and_one None m = m
and_one (Some b) m = suc m

abbrev pub made_upto : Outline → ℕ → ℕ
made_upto o zero = o.inputs
made_upto o (suc k) = and_one (result_of (step_at o k)) (made_upto o k)

-- a step on the members g, with m buffers before it: it reads one of these, and makes the next one
pub record StepFits (o : Outline) (m : ℕ) (g : List ℕ) (step : CollStep) : Type 0 where
  pub members : AreMembers o.ranks g
  pub root : IsRoot step (length g)
  pub source : (a : ℕ) → source_of step ≡ Some a → a < m
  pub reads : Reads g step (read_buffer o (source_of step))
  pub next : (b : ℕ) → result_of step ≡ Some b → b ≡ m
  pub result : (b : ℕ) → result_of step ≡ Some b → b < length o.buffers
  pub makes : (b : ℕ) → result_of step ≡ Some b
      → buffer_at o b ≡ named (buffer_at o b).name (buffer_after g step (read_buffer o (source_of step)))

-- the elements of a buffer, over all ranks
abbrev pub elements_of : Buffer → ℕ
elements_of x = x.spread.length * length x.spread.holders

-- the elements of all prints, over all ranks
abbrev pub printed_elements : Outline → ℕ
printed_elements o = sum_by (λ b. elements_of (buffer_at o b)) o.prints

-- the names of groups and of buffers are one set
abbrev pub names : Outline → List (List ℕ)
names o = map (λ (g : Group). g.name) o.groups ++ map (λ (b : Buffer). b.name) o.buffers

-- what version 1 hasn't: as many ranks, groups, and the later steps
pub record FitsVersion (o : Outline) : Type 0 where
  pub few_ranks : o.ranks ≤ most_ranks o.version
  pub groups : (i : ℕ) → i < length o.groups → StandsIn Two o.version
  pub steps : (k : ℕ) → k < length o.steps → StandsIn (since (step_at o k)) o.version

pub record IsWellFormed (o : Outline) : Type 0 where
  pub shape : IsShape o
  pub version : FitsVersion o
  -- inputs are held by all ranks
  pub held : (b : ℕ) → b < o.inputs → (buffer_at o b).spread.holders ≡ from_to 0 o.ranks
  pub some : (b : ℕ) → b < o.inputs → 1 ≤ (buffer_at o b).spread.length
  pub short : (b : ℕ) → b < o.inputs → (buffer_at o b).spread.length ≤ MOST_GIVEN
  -- each step fits what was made before it, and makes the next buffer
  pub fits : (k : ℕ) → k < length o.steps → StepFits o (made_upto o k) (group_at o k) (step_at o k)
  -- all buffers are inputs, or made by a step
  pub all : made_upto o (length o.steps) ≡ length o.buffers
  pub spelled : (i : ℕ) → i < length (names o) → is_name (get_or (names o) i []) ≡ true
  pub distinct : (i j : ℕ) → i < length (names o) → j < length (names o)
      → get_or (names o) i [] ≡ get_or (names o) j [] → i ≡ j
  pub few_printed : printed_elements o ≤ MOST_ELEMENTS
