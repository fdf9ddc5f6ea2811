-- By what the numbers are read as, and whether there is room for the answer.
use Rattle.std.proofs.Common.{ap, arith, refl, ◌∙◌, Some}
use Rattle.ptl_types.specs.declared.headers.Header.{Header}
use Rattle.ni_model.specs.State.{State}
use Rattle.c_interface.specs.Calls.{Receives, delivered_told}
use Rattle.c_interface.specs.Calls.Arrives.{Cramped, Read}
use Rattle.c_interface.specs.Over.{Tells}
use Rattle.c_interface.specs.Statuses.{misuse_number}
use Rattle.c_interface.proofs.Opened.{called, closed}
use Rattle.c_interface.proofs.wires.SfDeliver.Goals as goal

pub returns-then-out-header : goal.returns-then-out-header
returns-then-out-header c = Cramped c.in-Ok.arrived c.in-Ok.ensures
    (omega (arith, c.if-out-header, ap (λ (h : Header). h.length) c.header.ensures)) refl refl refl

pub returns-in-Some : goal.returns-in-Some
returns-in-Some c = Read c.in-Ok.arrived c.in-Ok.ensures
    (omega (arith, c.if-out-header, ap (λ (h : Header). h.length) c.header.ensures))
    (called (Receives c.in-Ok.arrived) misuse_number delivered_told _ _ _ _ _ c.as_mut.result.now _
    c.deliver-delivered.result (ap Some c.as_mut.ensures.value ∙ c.in-Some.ensures.value) c.of.ensures c.deliver-delivered.ensures
    c.delivered_out.ensures.numbered c.delivered_out.ensures.written)

pub returns-in-None : goal.returns-in-None
returns-in-None c = Read c.in-Ok.arrived c.in-Ok.ensures
    (omega (arith, c.if-out-header, ap (λ (h : Header). h.length) c.header.ensures))
    (closed (λ (s t : State). Tells (Receives c.in-Ok.arrived s t) misuse_number delivered_told _ _ _) _ _ _ _ _
    c.in-None.ensures.value c.in-None.ensures.none refl refl)
