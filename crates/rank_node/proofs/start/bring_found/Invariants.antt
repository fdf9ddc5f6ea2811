use Rattle.std.proofs.Common.{◌≡◌, ◌≤◌, drop}
use Rattle.std.specs.Prelude.{vec_capacity}
use Rattle.ni_model.specs.Headers.{found_in}
use Rattle.cuts.specs.start.Start.{bring_all}
use Rattle.rank_node.proofs.start.bring_found.Given as goal

abbrev pub invariant-loop-i : goal.invariant-loop-i
invariant-loop-i l =
    (l.nic ≡ record l.fn.nic { memory = l.nic.memory })
    × (bring_all l.longest l.cell (found_in 0 l.entry (drop l.i l.fn.nic.headers.unexpected)) l.nic.memory ≡ bring_all l.longest l.cell
    (found_in 0 l.entry l.fn.nic.headers.unexpected) l.fn.nic.memory)
    × (l.longest ≤ vec_capacity l.buffer)
