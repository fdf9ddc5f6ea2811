-- Each operation is started by its own call.
use Rattle.std.proofs.Common.{subst, sym}
use Rattle.c_interface.specs.Calls.{Starts, action_of}
use Rattle.c_interface.specs.declared.starts.StartOp.{StartOp}
use Rattle.c_interface.proofs.starts.start.Goals as goal

pub returns-in-Put : goal.returns-in-Put
returns-in-Put c =
    subst (λ (a : StartOp). Starts (action_of a) c.args.nic.now c.put.new.nic c.put.result) (sym c.in-Put.is) c.put.ensures

pub returns-in-Get : goal.returns-in-Get
returns-in-Get c =
    subst (λ (a : StartOp). Starts (action_of a) c.args.nic.now c.get.new.nic c.get.result) (sym c.in-Get.is) c.get.ensures

pub returns-in-Atomic : goal.returns-in-Atomic
returns-in-Atomic c =
    subst (λ (a : StartOp). Starts (action_of a) c.args.nic.now c.atomic.new.nic c.atomic.result) (sym c.in-Atomic.is) c.atomic.ensures

pub returns-in-FetchAtomic : goal.returns-in-FetchAtomic
returns-in-FetchAtomic c =
    subst (λ (a : StartOp). Starts (action_of a) c.args.nic.now c.fetch_atomic.new.nic c.fetch_atomic.result)
    (sym c.in-FetchAtomic.is) c.fetch_atomic.ensures

pub returns-in-Swap : goal.returns-in-Swap
returns-in-Swap c =
    subst (λ (a : StartOp). Starts (action_of a) c.args.nic.now c.swap.new.nic c.swap.result) (sym c.in-Swap.is) c.swap.ensures
