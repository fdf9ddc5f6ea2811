-- What an opening makes: the slots of a job whose ranks made no step, and their wires.
use Rattle.std.specs.Prelude.{ℕ, suc, false, ◌+◌, ◌≡◌, ◌<◌, List, [], ◌∷◌, Option, IfSome, length, map, replicate, slice_index_or}
use Rattle.std.specs.Prelude.{min}
use mathlib.Core.List.{IsPrefix}
use mathlib.Core.Option.{some}
use lib.ListN.{get_elem?}
use Rattle.pair_wires.specs.declared.bounds.Bounds.{Bounds}
use Rattle.pair_wires.specs.Wires.{IsInOf, WireState}
use Rattle.schedule_compiler.specs.Jobs.{JobOf}
use Rattle.rank_node.specs.Plans.{IsCompiledFor}
use Rattle.rank_slots.specs.declared.turn_rank.TurnRank.{TurnRank}
use Rattle.rank_wiring.specs.declared.open.BuiltRank.{BuiltRank}
use Rattle.rank_wiring.specs.declared.open.WireEnd.{WireEnd}
use Rattle.rank_wiring.specs.declared.open.OutWires.{OutWires}
use Rattle.rank_slots.specs.declared.ports.OutPort.{OutPort}
use Rattle.rank_slots.specs.declared.ports.InPort.{InPort}
use Rattle.rank_slots.specs.Lists.{Each}
use Rattle.rank_slots.specs.Joints.{in_joint, out_joint}
use Rattle.rank_slots.specs.Lanes.{lanes_before, lanes_from}
use Rattle.rank_slots.specs.Names.{history}
use Rattle.rank_wiring.specs.Wiring.{IsLaid, IsRow, bounds_of, joints_from, to_rank}
use Rattle.rank_slots.specs.Moves.{SameNode}

-- ---- the slots of a job whose ranks made no step
pub record IsFresh (job : JobOf) (r : ℕ) (x : TurnRank) : Type 0 where
  pub job_is : x.job ≡ job
  pub compiled : IsCompiledFor job.schedule.plan job.inputs r x.node.value.task
  pub history_is : history x ≡ []
  pub closed : x.node.value.closed ≡ replicate job.schedule.plan.ranks false

-- such a slot with no ends
pub record IsBare (job : JobOf) (r : ℕ) (x : TurnRank) : Type 0 where
  pub fresh : IsFresh job r x
  pub outs : x.outs.items ≡ []
  pub ins : x.ins.items ≡ []

abbrev pub AllFresh : JobOf → List TurnRank → Type 0
AllFresh job slots = (r : ℕ) (x : TurnRank) → get_elem? slots r ≡ some x → IsFresh job r x

-- a slot has the ends of its rank
abbrev pub TurnRankLaid : List WireState → ℕ → TurnRank → Type 0
TurnRankLaid wires r x = IsLaid wires r (map out_joint x.outs.items) (map in_joint x.ins.items)

abbrev pub AllLaid : List WireState → List TurnRank → Type 0
AllLaid wires slots = (r : ℕ) (x : TurnRank) → get_elem? slots r ≡ some x → TurnRankLaid wires r x

-- how many messages the queue of a wire with these bounds holds: three, or all that may ever be sent where these are fewer; one more may
-- wait at its out end
abbrev pub wire_room : Bounds → ℕ
wire_room b = min 3 b.messages

abbrev pub HasWireRoom : WireState → Type 0
HasWireRoom w = w.capacity ≡ wire_room w.bounds

-- a wire for each of these lanes
pub record AreWires (lanes : List Bounds) (wires : List WireState) : Type 0 where
  pub bounds_are : bounds_of wires ≡ lanes
  pub rooms : Each HasWireRoom wires

-- none of these ends is of this lane
abbrev pub HasNoOut : Bounds → List OutPort → Type 0
HasNoOut b outs = Each (λ (q : OutPort). q.target ≡ b.target → q.lane ≡ b.lane → ⊥) outs

abbrev pub HasNoIn : Bounds → List InPort → Type 0
HasNoIn b ins = Each (λ (q : InPort). q.source ≡ b.source → q.lane ≡ b.lane → ⊥) ins

-- ---- what the thread of a rank makes
-- a wire with its in end, through which nothing went
pub record IsLine (number : ℕ) (l : WireEnd) : Type 0 where
  pub room : HasWireRoom l.wire
  pub number_is : l.into.wire ≡ number
  pub in_is : IsInOf l.wire l.into.end
  pub source : l.into.source ≡ l.wire.bounds.source
  pub lane : l.into.lane ≡ l.wire.bounds.lane
  pub received : l.into.end.received ≡ []

-- such wires, numbered from n on
abbrev pub AreLines : ℕ → List WireEnd → Type 0
AreLines n [] = Unit {0}
AreLines n (l ∷ ls) = IsLine n l × AreLines (suc n) ls

abbrev pub wires_in : List WireEnd → List WireState
wires_in lines = map (λ (l : WireEnd). l.wire) lines

-- the slot of rank r with the out ends of these wires, one for each lane from the rank, whose numbers follow those of the ranks below
pub record IsFanned (job : JobOf) (r : ℕ) (x : TurnRank) (load : OutWires) : Type 0 where
  pub fresh : IsFresh job r x
  pub ins : x.ins.items ≡ []
  pub outs : map out_joint x.outs.items ≡ joints_from (length (lanes_before job.schedule.plan r)) (wires_in load.lines.items)
  pub lines : AreLines (length (lanes_before job.schedule.plan r)) load.lines.items
  pub bounds_are : bounds_of (wires_in load.lines.items) ≡ lanes_from job.schedule.plan r

-- what lies at each of these places, some of which may be empty, was made for the rank of that place, counted from k on
abbrev pub AreBuilt : JobOf → ℕ → List (Option BuiltRank) → Type 0
AreBuilt job k places = (i : ℕ) (d : Option BuiltRank) → i < length places →
    IfSome (slice_index_or places i d) (λ (b : BuiltRank). IsFanned job (k + i) b.slot b.load)

-- the slots and the wires of all ranks, in their order
abbrev pub AllFanned : JobOf → List TurnRank → List OutWires → Type 0
AllFanned job slots loads = (r : ℕ) (x : TurnRank) (load : OutWires)
    → get_elem? slots r ≡ some x → get_elem? loads r ≡ some load → IsFanned job r x load

-- ---- how the wires come together
-- each slot has an in end of each wire to its rank
abbrev pub AllIn : List WireState → List TurnRank → Type 0
AllIn wires slots = (r : ℕ) (x : TurnRank) → get_elem? slots r ≡ some x → IsRow wires (to_rank r) (map in_joint x.ins.items)

-- the slots of a job that made no step have the in ends of these wires
pub record IsHanded (job : JobOf) (wires : List WireState) (slots : List TurnRank) : Type 0 where
  pub count : length slots ≡ job.schedule.plan.ranks
  pub fresh : AllFresh job slots
  pub rooms : Each HasWireRoom wires
  pub ins : AllIn wires slots

-- these wires are of the first of all lanes
abbrev pub AreFirst : JobOf → List WireState → Type 0
AreFirst job wires = IsPrefix (bounds_of wires) (lanes_before job.schedule.plan job.schedule.plan.ranks)

-- the slots and the wires of a job that made no step
pub record AreWired (job : JobOf) (slots : List TurnRank) (wires : List WireState) : Type 0 where
  pub count : length slots ≡ job.schedule.plan.ranks
  pub fresh : AllFresh job slots
  pub wires_are : AreWires (lanes_before job.schedule.plan job.schedule.plan.ranks) wires
  pub laid : AllLaid wires slots

-- with the same node and the same out ends
pub record SameOuts (r : ℕ) (y x : TurnRank) : Type 0 where
  pub same : SameNode r y x
  pub outs_are : x.outs.items ≡ y.outs.items

-- the wire leads from one of so many ranks to another
pub record IsBetween (ranks : ℕ) (w : WireState) : Type 0 where
  pub source : w.bounds.source < ranks
  pub target : w.bounds.target < ranks
