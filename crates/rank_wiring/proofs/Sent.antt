-- What a thread makes for a rank may go to another thread.
use denote.Param.Send.{IsSend, recorded_send, struct_send}
use denote.Struct.Declared.{shape}
use Rattle.rank_wiring.specs.contracts.open.BuiltRank as built
use Rattle.rank_wiring.proofs.open.OutWires.TheSendSync as load
use Rattle.rank_slots.proofs.Sent.{slot-field-send}

pub built-send : IsSend built.the_row
built-send =
    recorded_send built.the_field.row _ _ built.the_type.to_one
    (struct_send (shape built.the_type) (slot-field-send, (load.the_field_send, tt)))
