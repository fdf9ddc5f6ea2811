-- Two scenes of a log that differ in the slots of handles alone.
use Rattle.std.specs.Prelude.{ℕ, ◌≡◌, ◌<◌, [], ◌∷◌, Option, Some, None}
use Rattle.ptl_types.specs.declared.handles.Handle.{Handle}
use Rattle.log_answers.specs.declared.owed.Sort.{Sort}
use Rattle.log_answers.specs.declared.owed.Sort.TheVariants.{Counter, Queue, Descriptor, Entry}
use Rattle.log_answers.specs.names.Keys.{Numbers, number_lookup}
use Rattle.log_seats.specs.declared.seats.Seat.{Seat}
use Rattle.slot_laws.specs.Renaming.{IsRenaming, Renaming}
use Rattle.slot_laws.specs.Naming.{renamed_flights}
use Rattle.slot_laws.specs.Alike.{IsConsistent, KeepsNone, SeatsAlike}
use Rattle.log_verdict.specs.declared.scenes.Scene.{Scene}
use Rattle.log_verdict.specs.Answering.{Came}

-- the handles of each rank, of each sort
abbrev pub Renamings : Type 0
Renamings = ℕ → Sort → Handle → Handle

-- those of the interface of a rank
abbrev pub at : Renamings → ℕ → Renaming
at g rank = record { ct = g rank Counter; eq = g rank Queue; me = g rank Entry; md = λ k. g k Descriptor }

-- each of them is a renaming that leaves the handle that no thing has
pub record AreRenamings (g : Renamings) : Type 0 where
  pub apart : (rank : ℕ) → IsRenaming (at g rank)
  pub none : (rank : ℕ) → KeepsNone (at g rank)

-- each interface stands at its rank, and is alike
pub data AllAlike (g : Renamings) : Numbers Seat → Numbers Seat → Type 0 where
  None_open : AllAlike g [] []
  One_more : (rank : ℕ) (s t : Seat) (es fs : Numbers Seat) → s.nic.rank ≡ rank → SeatsAlike (at g rank) s t → AllAlike g es fs
      → AllAlike g ((rank, s) ∷ es) ((rank, t) ∷ fs)

-- of one rank, where it is open
abbrev pub MayBeAlike : Renamings → ℕ → Option Seat → Option Seat → Type 0
MayBeAlike g rank None None = Unit {0}
MayBeAlike g rank None (Some t) = ⊥
MayBeAlike g rank (Some s) None = ⊥
MayBeAlike g rank (Some s) (Some t) = (s.nic.rank ≡ rank) × SeatsAlike (at g rank) s t

-- in each scene
pub data AllConsistent : Numbers Seat → Type 0 where
  None_open : AllConsistent []
  One_more : (rank : ℕ) (s : Seat) (es : Numbers Seat) → IsConsistent s → AllConsistent es → AllConsistent ((rank, s) ∷ es)

-- how many things of a sort an interface made; at a rank that has none, none
abbrev pub given_of : Sort → Seat → ℕ
given_of Counter s = s.nic.cts.given
given_of Queue s = s.nic.eqs.given
given_of Descriptor s = s.nic.mds.given
given_of Entry s = s.nic.entries_given

-- at a rank that may have none
abbrev pub given_in : Sort → Option Seat → ℕ
given_in sort None = 0
given_in sort (Some s) = given_of sort s

-- at a rank
abbrev pub given_at : Numbers Seat → ℕ → Sort → ℕ
given_at es rank sort = given_in sort (number_lookup rank es)

-- two renamings are one for what was made so far
abbrev pub AgreeBelow : Numbers Seat → Renamings → Renamings → Type 0
AgreeBelow es g h = (rank : ℕ) (sort : Sort) (x : Handle) → x.stamp < given_at es rank sort → h rank sort x ≡ g rank sort x

-- the same ranks, interfaces that are alike, and the same messages under way
pub record ScenesAlike (g : Renamings) (s t : Scene) : Type 0 where
  pub ranks : t.ranks ≡ s.ranks
  pub any_order : t.any_order ≡ s.any_order
  pub seats : AllAlike g s.seats t.seats
  pub flights : t.flights ≡ renamed_flights (at g 0) s.flights

-- the same comes of a line, and leaves the like
pub record CamesAlike (g : Renamings) (c d : Came) : Type 0 where
  pub step : d.step ≡ c.step
  pub scene : ScenesAlike g c.scene d.scene
