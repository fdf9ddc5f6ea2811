use Rattle.std.proofs.Common.{◌≡◌, ◌++◌, ◌<◌, ℕ, length, map}
use mathlib.Core.Option.{some}
use lib.ListN.{get_elem?}
use Rattle.std.specs.Vec.Iter.{into_iter_items, into_iter_len}
use Rattle.rank_slots.specs.declared.turn_rank.TurnRank.{TurnRank}
use Rattle.rank_slots.specs.Joints.{out_joint}
use Rattle.rank_slots.specs.Lanes.{lanes_before}
use Rattle.rank_wiring.specs.Opening.{IsHanded, SameOuts}
use Rattle.rank_slots.specs.Moves.{Slotwise}
use Rattle.rank_wiring.specs.Wiring.{IsRow, bounds_of, from_rank}
use Rattle.rank_wiring.proofs.open.hand_all.Given as goal

-- the wires from the first ranks were handed over
abbrev pub invariant-loop-load : goal.invariant-loop-load
invariant-loop-load l = record {
  len : into_iter_len l.load-iterator ≡ length (into_iter_items l.load-iterator);
  rest : l.yielded ++ into_iter_items l.load-iterator ≡ into_iter_items l.initial.load-iterator;
  lanes : bounds_of l.wires.items ≡ lanes_before l.job.schedule.plan (length l.yielded);
  handed : IsHanded l.job l.wires.items l.slots;
  count : length l.slots ≡ length l.initial.slots;
  outs : Slotwise SameOuts l.initial.slots l.slots;
  laid : (r : ℕ) (x : TurnRank) → get_elem? l.slots r ≡ some x → r < length l.yielded
      → IsRow l.wires.items (from_rank r) (map out_joint x.outs.items);
}
