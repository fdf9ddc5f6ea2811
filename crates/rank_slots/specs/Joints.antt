-- Of which wire an end is.
use Rattle.std.specs.Prelude.{ℕ, ◌≡◌, ◌<◌, List, length}
use mathlib.Core.Option.{some}
use lib.ListN.{get_elem?}
use Rattle.atomic_table.specs.Seated.{TableId}
use Rattle.pair_wires.specs.declared.bounds.Bounds.{Bounds}
use Rattle.pair_wires.specs.Wires.{WireState}
use Rattle.rank_slots.specs.declared.ports.OutPort.{OutPort}
use Rattle.rank_slots.specs.declared.ports.InPort.{InPort}

-- the number of the wire, which it is, and its bounds
pub record Joint : Type 0 where
  pub number : ℕ
  pub wire : TableId
  pub bounds : Bounds

abbrev pub joint : ℕ → WireState → Joint
joint n w = record { number = n; wire = w.id; bounds = w.bounds }

abbrev pub out_joint : OutPort → Joint
out_joint p = record { number = p.wire; wire = p.end.wire; bounds = p.end.bounds }

abbrev pub in_joint : InPort → Joint
in_joint p = record { number = p.wire; wire = p.end.wire; bounds = p.end.bounds }

-- the end is of the wire of its number
pub record Fits (wires : List WireState) (j : Joint) : Type 0 where
  pub inside : j.number < length wires
  pub is : (w : WireState) → get_elem? wires j.number ≡ some w → (j.wire ≡ w.id) × (j.bounds ≡ w.bounds)
