-- What stands behind the pointer.
use Rattle.std.specs.Prelude.{Option, None, Some}
use base.Fml.{Fml, ftrue}
use denote.RawPtr.{Ptr}
use Rattle.std.specs.Box.Ownership.{box_owns}
use Rattle.ni_model.specs.State.{State}
use Rattle.portals_ni.specs.contracts.nic.Nic.{the_row}
use Rattle.std_heap.specs.declared.Global.{Global}
use Rattle.std_heap.specs.contracts.GlobalAllocator.TheImpl.{ghosts}

-- the one allocator of its type
abbrev pub heap : Global
heap = record { memory = record { seal = tt } }

-- an interface, with the right to give its block back to it; or nothing
unfoldable pub behind : Option State → Ptr → Fml
behind None p = ftrue
behind (Some s) p = box_owns (ghosts.dealloc_token heap) the_row p s
