-- What a handle holds.
use Rattle.std.specs.Prelude.{Option, None, Some}
use Rattle.std_alloc.specs.declared.boxed.Box.{Box}
use Rattle.std_heap.specs.declared.Global.{Global}
use Rattle.ni_model.specs.State.{State}
use Rattle.nic_handles.specs.declared.handle.NiHandle.{NiHandle}

-- the interface behind it, or none
abbrev pub held : NiHandle → Option State
held h = h.hold.nic

-- and the one in a box, or none
abbrev pub in_box : Option (Box State Global) → Option State
in_box None = None
in_box (Some b) = Some b.value
