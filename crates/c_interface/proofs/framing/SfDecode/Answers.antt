-- By what the bytes are read as, and whether there is room for what goes with it.
use Rattle.std.proofs.Common.{ap, arith, length, refl, subst}
use Rattle.message_codec.specs.declared.fault.DecodeError.{DecodeError}
use Rattle.message_codec.specs.Reading.{Fails, reading}
use Rattle.c_interface.specs.Framing.Decodes.{Cramped, Decoded, Malformed}
use Rattle.c_interface.proofs.framing.SfDecode.Goals as goal

pub returns-then-out-len : goal.returns-then-out-len
returns-then-out-len c = Cramped c.in-Ok.read c.in-Ok.ensures.exact
    (omega (arith, c.if-out-len, c.len.ensures, ap length c.bytes.ensures.list)) refl refl

pub returns-else-out-len : goal.returns-else-out-len
returns-else-out-len c = Decoded c.in-Ok.read c.in-Ok.ensures.exact
    (omega (arith, c.if-out-len, c.len.ensures, ap length c.bytes.ensures.list)) refl c.hand_out.ensures

pub returns-in-Err-Fault : goal.returns-in-Err-Fault
returns-in-Err-Fault c = Malformed c.in-Err-Fault.field-0-0
    (subst (λ (e : DecodeError). Fails e (reading c.args.frame.now)) c.in-Err-Fault.field-0-is c.in-Err-Fault.ensures.exact) refl refl
