-- What is found of a plan whose results are named, for all inputs of a shape.
use Rattle.std.specs.Prelude.{ℕ, ◌+◌, ◌*◌, ◌/◌, ◌%◌, ◌<◌, ◌≤◌, ◌≡◌, List, Option, Some, None, [], length, get_or, take, All}
use Rattle.coll_shape.specs.Folding.{at}
use Rattle.coll_shape.specs.Meaning.{AreInputs, Lists, lists_of, meaning_of}
use Rattle.coll_shape.specs.Outline.{Outline}
use Rattle.given_lines.specs.declared.given.Mark.{Mark}
use Rattle.given_lines.specs.declared.given.Mark.TheVariants.{Result, Enter, Leave}
use Rattle.mark_judge.specs.Due.{cell_of, mark_at}
use Rattle.plan_core.specs.Plan.{Plan}
use Rattle.plan_core.specs.Sound.{AreInputsOf, SoundPlan}
use Rattle.plan_core.specs.Draw.{held_cell}
use Rattle.plan_core.specs.Values.{value}
use Rattle.schedule_compiler.specs.shapes.Drawing.{drawing_of}
use Rattle.plan_slices.specs.declared.cut.Cut.{Cut}
use Rattle.plan_slices.specs.Slices.{block, cut_at}
use Rattle.plan_agreement.specs.Evaluated.{Evaluated}
use Rattle.plan_agreement.specs.declared.agreement.Agreement.{Agreement}
use Rattle.plan_agreement.specs.declared.agreement.Agreement.TheVariants.{Same, Differs, Unknown}
use Rattle.plan_agreement.specs.declared.comparing.Unlike.{Unlike}
use Rattle.plan_agreement.specs.Witness.{number_units, numbered}

-- a sound plan for all inputs of the shape
pub record IsPlanFor (p : Plan) (o : Outline) : Type 0 where
  pub sound : SoundPlan p o.inputs
  pub ranks : p.ranks ≡ o.ranks
  pub fits : (inputs : Lists) → AreInputs o inputs → AreInputsOf p inputs

-- the cell that is named for a result holds the list that the shape means of these inputs
abbrev pub IsMeant : Plan → Outline → Lists → Mark → Type 0
IsMeant p o inputs (Result b r c) = value p inputs c ≡ at (lists_of (meaning_of o inputs) b) r
IsMeant p o inputs (Enter s r c) = Unit {0}
IsMeant p o inputs (Leave s r c) = Unit {0}

-- whatever the inputs
abbrev pub IsAlwaysMeant : Plan → Outline → Mark → Type 0
IsAlwaysMeant p o m = (inputs : Lists) → AreInputs o inputs → IsMeant p o inputs m

-- so are the first n results
abbrev pub AreMeantTo : Plan → Outline → List Mark → ℕ → Type 0
AreMeantTo p o ms n = (i : ℕ) → i < n → IsAlwaysMeant p o (mark_at ms i)

-- the inputs show that the result isn't what is meant
pub record IsShown (p : Plan) (o : Outline) (ms : List Mark) (i : ℕ) (inputs : Lists) : Type 0 where
  pub mark : i < length ms
  pub before : AreMeantTo p o ms i
  pub taken : AreInputs o inputs
  pub differs : IsMeant p o inputs (mark_at ms i) → ⊥

-- ---- where it isn't known
-- the line names the cell of a result
abbrev pub IsResult : Mark → Type 0
IsResult (Result b r c) = Unit {0}
IsResult (Enter s r c) = ⊥
IsResult (Leave s r c) = ⊥

-- the cell begins with the first k bytes of the list that is meant of these inputs
abbrev pub IsPartMeant : Plan → Outline → Lists → Mark → ℕ → Type 0
IsPartMeant p o inputs (Result b r c) k = take k (value p inputs c) ≡ take k (at (lists_of (meaning_of o inputs) b) r)
IsPartMeant p o inputs (Enter s r c) k = Unit {0}
IsPartMeant p o inputs (Leave s r c) k = Unit {0}

abbrev pub IsPartAlwaysMeant : Plan → Outline → Mark → ℕ → Type 0
IsPartAlwaysMeant p o m k = (inputs : Lists) → AreInputs o inputs → IsPartMeant p o inputs m k

-- All results before this one are meant, and of this one the first k bytes. Of the rest it isn't known.
pub record IsOpen (p : Plan) (o : Outline) (ms : List Mark) (i k : ℕ) : Type 0 where
  pub mark : i < length ms
  pub result : IsResult (mark_at ms i)
  pub before : AreMeantTo p o ms i
  pub part : IsPartAlwaysMeant p o (mark_at ms i) k

abbrev pub IsOpenAt : Plan → Outline → List Mark → Unlike → Type 0
IsOpenAt p o ms u = IsOpen p o ms u.mark u.bytes

-- ---- what is found
-- The same for all inputs; or not the same for these, while all results before it are; or it isn't known whether it is.
abbrev pub Agrees : Plan → Outline → List Mark → Agreement → Type 0
Agrees p o ms Same = AreMeantTo p o ms (length ms)
Agrees p o ms (Differs i inputs) = IsShown p o ms i inputs
Agrees p o ms (Unknown i k) = IsOpen p o ms i k

-- ---- which inputs were tried
-- the line names a cell of the plan
abbrev pub HasCell : Plan → Mark → Type 0
HasCell p m = cell_of m < length p.cells

-- the inputs whose bytes are these of their numbers don't show that the result isn't what is meant
abbrev pub IsMeantIfThere : Plan → Outline → Mark → ℕ → Type 0
IsMeantIfThere p o m unit = HasCell p m → IsMeant p o (numbered o unit) m

-- inputs that show it
pub record IsWrongFor (p : Plan) (o : Outline) (m : Mark) (inputs : Lists) : Type 0 where
  pub taken : AreInputs o inputs
  pub differs : IsMeant p o inputs m → ⊥

-- Where it isn't known, the result is what is meant for the inputs whose bytes are their numbers, byte by byte of these. Where nothing is
-- combined, these inputs show from which byte of the inputs each byte of the result comes.
abbrev pub AreNumbersTried : Plan → Outline → List Mark → Agreement → Type 0
AreNumbersTried p o ms Same = Unit {0}
AreNumbersTried p o ms (Differs i inputs) = Unit {0}
AreNumbersTried p o ms (Unknown i k) = All (IsMeantIfThere p o (mark_at ms i)) number_units

-- ---- by the shape's own plan

-- the places of the cell that holds a buffer; none, where no cell does
abbrev pub held_places : List (List ℕ) → Option ℕ → List ℕ
held_places own None = []
held_places own (Some c) = get_or own c []

-- how the cell is cut that holds a buffer; where no cell does, as the other one
abbrev pub held_cut : List Cut → Cut → Option ℕ → Cut
held_cut cuts k None = k
held_cut cuts k (Some c) = cut_at cuts c

-- a result's cell is cut as the cell in the shape's own plan that holds its buffer
pub record IsCutAsDue (p : Plan) (o : Outline) (given own : Evaluated) (b r c : ℕ) : Type 0 where
  pub cell : c < length p.cells
  pub buffer : b < length o.buffers
  pub rank : r < o.ranks
  pub cut : cut_at given.cuts c ≡ held_cut own.cuts (cut_at given.cuts c) (held_cell (drawing_of o).held b r)

-- and its slices have the places of that one's
pub record IsAlikeAt (p : Plan) (o : Outline) (given own : Evaluated) (b r c : ℕ) : Type 0 where
  pub due : IsCutAsDue p o given own b r c
  pub places : get_or given.places c [] ≡ held_places own.places (held_cell (drawing_of o).held b r)

abbrev pub IsAlike : Plan → Outline → Evaluated → Evaluated → Mark → Type 0
IsAlike p o given own (Result b r c) = IsAlikeAt p o given own b r c
IsAlike p o given own (Enter s r c) = Unit {0}
IsAlike p o given own (Leave s r c) = Unit {0}

abbrev pub AreAlikeTo : Plan → Outline → Evaluated → Evaluated → List Mark → ℕ → Type 0
AreAlikeTo p o given own ms n = (i : ℕ) → i < n → IsAlike p o given own (mark_at ms i)

-- what so many first bytes of each slice are of a cell's bytes: whole blocks, and what is left of the first piece after them
abbrev pub unsliced : Cut → ℕ → ℕ
unsliced k n = n / k.width * block k + n % k.width

-- its slices have so many first places of that cell's
pub record IsPartAlikeAt (p : Plan) (o : Outline) (given own : Evaluated) (b r c k : ℕ) : Type 0 where
  pub due : IsCutAsDue p o given own b r c
  pub shared : ℕ
  pub within : shared ≤ length (get_or given.places c [])
  pub within_due : shared ≤ length (held_places own.places (held_cell (drawing_of o).held b r))
  pub places : take shared (get_or given.places c []) ≡ take shared (held_places own.places (held_cell (drawing_of o).held b r))
  pub bytes : k ≡ unsliced (cut_at given.cuts c) shared

abbrev pub IsPartAlike : Plan → Outline → Evaluated → Evaluated → Mark → ℕ → Type 0
IsPartAlike p o given own (Result b r c) k = 0 < k → IsPartAlikeAt p o given own b r c k
IsPartAlike p o given own (Enter s r c) k = Unit {0}
IsPartAlike p o given own (Leave s r c) k = Unit {0}

-- the first result that isn't alike, and how many of its bytes are
pub record IsFirstUnlike (p : Plan) (o : Outline) (given own : Evaluated) (ms : List Mark) (u : Unlike) : Type 0 where
  pub mark : u.mark < length ms
  pub result : IsResult (mark_at ms u.mark)
  pub before : AreAlikeTo p o given own ms u.mark
  pub part : IsPartAlike p o given own (mark_at ms u.mark) u.bytes

-- ---- by no plan
-- none of the first n lines names the cell of a result
abbrev pub AreNoResultsTo : List Mark → ℕ → Type 0
AreNoResultsTo ms n = (i : ℕ) → i < n → IsResult (mark_at ms i) → ⊥

-- the first that does, of which nothing is known
pub record IsFirstResult (ms : List Mark) (u : Unlike) : Type 0 where
  pub mark : u.mark < length ms
  pub result : IsResult (mark_at ms u.mark)
  pub before : AreNoResultsTo ms u.mark
  pub nothing : u.bytes ≡ 0
