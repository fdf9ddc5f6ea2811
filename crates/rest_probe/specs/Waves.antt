-- A wave of probes: a note for each rank.
use Rattle.std.specs.Prelude.{ℕ, Bool, true, false, ◌≡◌, List, Option, length, map}
use mathlib.Core.Option.{some}
use lib.ListN.{get_elem?}
use Rattle.plan_core.specs.Plan.{Plan}
use Rattle.rest_probe.specs.declared.notes.LaneCount.{LaneCount}
use Rattle.rest_probe.specs.declared.notes.RankNote.{RankNote}
use Rattle.rest_probe.specs.Counted.{cleared}
use Rattle.rest_probe.specs.Lanes.{lanes_from, lanes_to}

-- the wave is for the ranks of the plan, and its counts are of the lanes that messages go on
pub record IsFor (p : Plan) (w : List RankNote) : Type 0 where
  pub count : length w ≡ p.ranks
  pub sent : (r : ℕ) (x : RankNote) → get_elem? w r ≡ some x → cleared x.note.sent ≡ lanes_from p r
  pub got : (r : ℕ) (x : RankNote) → get_elem? w r ≡ some x → cleared x.note.got ≡ lanes_to p r

-- a note whose numbers are 0
abbrev pub begun : Bool → Option ℕ → RankNote → RankNote
begun started ready x = record {
  there = true;
  note = record { started = started; ready = ready; sent = cleared x.note.sent; got = cleared x.note.got };
}

-- a note with other counts
abbrev pub with_sent : RankNote → List LaneCount → RankNote
with_sent x cs = record x { note = record x.note { sent = cs } }

abbrev pub with_got : RankNote → List LaneCount → RankNote
with_got x cs = record x { note = record x.note { got = cs } }

-- no rank has its note
abbrev pub emptied : List RankNote → List RankNote
emptied w = map (λ (x : RankNote). record x { there = false }) w

-- every rank has its note
abbrev pub AllThere : List RankNote → Type 0
AllThere w = (r : ℕ) (x : RankNote) → get_elem? w r ≡ some x → x.there ≡ true

-- the room of rank r's note
pub record IsRoomFor (p : Plan) (r : ℕ) (x : RankNote) : Type 0 where
  pub there : x.there ≡ false
  pub sent : x.note.sent ≡ lanes_from p r
  pub got : x.note.got ≡ lanes_to p r

-- the note y is of the same lanes as x
pub record SameLanes (x y : RankNote) : Type 0 where
  pub sent : cleared y.note.sent ≡ cleared x.note.sent
  pub got : cleared y.note.got ≡ cleared x.note.got
