-- In which form actions are kept. No public clause cites this module.
use Rattle.ptl_types.specs.declared.calls.TriggeredOp.{TriggeredOp}
use Rattle.ptl_types.specs.declared.calls.TriggeredOp.TheVariants.{Put, Get, Atomic, Inc, Set}
use Rattle.portals_ni.specs.declared.packed.Form.{Form}
use Rattle.portals_ni.specs.declared.packed.Form.TheVariants.{Sends, Asks, Combines, Adds, Sets, Apart}

-- the action of a form
abbrev pub form_action : Form → TriggeredOp
form_action (Sends args) = Put args
form_action (Asks args) = Get args
form_action (Combines args op ty) = Atomic args op ty
form_action (Adds ct by) = Inc ct by
form_action (Sets ct to) = Set ct to
form_action (Apart action) = action.value
