-- By what the handle held, and then by what was had of memory and of the interface.
use Rattle.std.proofs.Common.{ap, ◌∙◌}
use Rattle.c_interface.proofs.Opening.{held_one, lacking, newly, unopened}
use Rattle.c_interface.proofs.interfaces.PtlNIInit.Goals as goal

pub returns-in-Some : goal.returns-in-Some
returns-in-Some c = held_one _ _ _ _ _ _ c.in-Some.nic.value c.in-Some.ensures.value c.of.ensures

pub returns-in_default-of : goal.returns-in_default-of
returns-in_default-of c = lacking _ _ _ _ _ _ c.in_default.ensures.value c.take.ensures.none

pub returns-in-Err : goal.returns-in-Err
returns-in-Err c = unopened _ _ _ _ _ _ c.limits.result c.in-Err.why _ c.limits.ensures c.fault.ensures c.in-Err.ensures.fault
    c.in_default.ensures.value c.take.ensures.none

pub returns-in-Ok-new : goal.returns-in-Ok-new
returns-in-Ok-new c = newly _ _ _ _ _ _ c.limits.result c.in-Ok.bytes.list c.in-Ok-new.boxed.value c.limits.ensures
    (ap (λ b. b.list) c.in-Ok.ensures) c.in-Ok-open.ensures.makes.0 c.in-Ok-open.ensures.makes.1
    (c.in-Ok-new.ensures.ok ∙ c.in-Ok-open.ensures.makes.2) c.in_default.ensures.value c.of-in-Ok-new.ensures

pub returns : goal.returns
returns c = lacking _ _ _ _ _ _ c.in_default.ensures.value c.take.ensures.none
