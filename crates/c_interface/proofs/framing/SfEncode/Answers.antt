-- By whether there was memory for the encoding, and room for it.
use Rattle.std.proofs.Common.{ap, ap₂, arith, length, refl, ◌∙◌}
use Rattle.c_interface.specs.Framing.Encodes.{Cramped, Encoded, Lacking}
use Rattle.c_interface.specs.Messages.{onto}
use Rattle.c_interface.proofs.framing.SfEncode.Goals as goal

pub returns-then-out-count : goal.returns-then-out-count
returns-then-out-count c =
    let whole = c.as_slice-list.ensures.value ∙ c.in-Ok-encode.ensures.ok in
    Cramped c.in-Ok.read c.in-Ok.ensures (omega (arith, c.if-out-count, ap length whole)) refl refl

pub returns-in-Ok-encode : goal.returns-in-Ok-encode
returns-in-Ok-encode c =
    let whole = c.as_slice-list.ensures.value ∙ c.in-Ok-encode.ensures.ok in
    Encoded c.in-Ok.read c.in-Ok.ensures (omega (arith, c.if-out-count, ap length whole)) refl
    (ap₂ (λ n o. (n, o)) (ap length whole) (c.onto.ensures ∙ ap (λ b. onto b c.args.out.now) whole))

pub returns : goal.returns
returns c = Lacking c.in-Ok.read c.in-Ok.ensures refl refl
