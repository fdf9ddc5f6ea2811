-- The name, the past and the note of a slot.
use Rattle.std.specs.Prelude.{ℕ, Bool, List, map}
use Rattle.ptl_types.specs.declared.headers.Lane.{Lane}
use Rattle.ni_model.specs.State.{State}
use Rattle.pair_wires.specs.Wires.{WireState}
use Rattle.cuts.specs.histories.History.{Local}
use Rattle.rank_node.specs.Handles.{Handles}
use Rattle.rank_node.specs.Node.{Task}
use Rattle.schedule_compiler.specs.Jobs.{JobOf}
use Rattle.rank_slots.specs.declared.ports.OutPort.{OutPort}
use Rattle.rank_slots.specs.declared.ports.InPort.{InPort}
use Rattle.rank_slots.specs.declared.turn_rank.TurnRank.{TurnRank}
use Rattle.rank_slots.specs.Lists.{Each}
use Rattle.rank_slots.specs.Joints.{Fits, Joint, in_joint, out_joint}

-- ---- the name: the job, the rank and its wires

pub record Plate : Type 0 where
  pub job : JobOf
  pub task : Task
  pub outs : List Joint
  pub ins : List Joint

abbrev pub plate : TurnRank → Plate
plate x = record { job = x.job; task = x.node.value.task; outs = map out_joint x.outs.items; ins = map in_joint x.ins.items }

-- all ends are of these wires
pub record IsWired (wires : List WireState) (p : Plate) : Type 0 where
  pub outs : Each (Fits wires) p.outs
  pub ins : Each (Fits wires) p.ins

-- ---- the past: the history
abbrev pub history : TurnRank → List Local
history x = x.node.value.diary.locals

-- ---- the note: the interface with the handles that it gave, and what each end tells beside its messages

-- where a lane's messages go to, whether the last of them waits for room, and how often the queue was found full
pub record OutCount : Type 0 where
  pub target : ℕ
  pub lane : Lane
  pub waits : Bool
  pub refused : ℕ

-- where a lane's messages come from, and how often its queue was found empty
pub record InCount : Type 0 where
  pub source : ℕ
  pub lane : Lane
  pub empty : ℕ

abbrev pub out_count : OutPort → OutCount
out_count p = record { target = p.target; lane = p.lane; waits = p.end.waits; refused = p.end.refused }

abbrev pub in_count : InPort → InCount
in_count p = record { source = p.source; lane = p.lane; empty = p.end.empty }

pub record Note : Type 0 where
  pub nic : State
  pub kept : Handles
  pub outs : List OutCount
  pub ins : List InCount

abbrev pub note : TurnRank → Note
note x = record { nic = x.node.value.nic; kept = x.node.value.kept; outs = map out_count x.outs.items; ins = map in_count x.ins.items }

-- a history and a note
abbrev pub Mark : Type 0
Mark = List Local × Note

abbrev pub mark : TurnRank → Mark
mark x = (history x, note x)
