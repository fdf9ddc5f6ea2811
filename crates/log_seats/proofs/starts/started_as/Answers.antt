use Rattle.std.proofs.lemmas.Result.{IfOk-weaker}
use Rattle.ptl_types.specs.declared.calls.TriggeredOp.TheVariants.{Put, Get, Atomic, FetchAtomic, Swap}
use Rattle.log_seats.specs.Answers.{IsStarted}
use Rattle.log_seats.proofs.Ends.{starts_as}
use Rattle.log_seats.proofs.starts.started_as.Goals as goal

pub returns-in-Put : goal.returns-in-Put
returns-in-Put c =
    rw c.in-Put.is
    (IfOk-weaker c.started.result (IsStarted c.put.result) _
    (λ a is. starts_as (Put c.in-Put.args) c.args.seat.now c.put.new.nic c.put.result a c.put.ensures is) c.started.ensures)

pub returns-in-Get : goal.returns-in-Get
returns-in-Get c =
    rw c.in-Get.is
    (IfOk-weaker c.started-in-Get.result (IsStarted c.get.result) _
    (λ a is. starts_as (Get c.in-Get.args) c.args.seat.now c.get.new.nic c.get.result a c.get.ensures is) c.started-in-Get.ensures)

pub returns-in-Atomic : goal.returns-in-Atomic
returns-in-Atomic c =
    rw c.in-Atomic.is
    (IfOk-weaker c.started-in-Atomic.result (IsStarted c.atomic.result) _
    (λ a is. starts_as (Atomic c.in-Atomic.args c.in-Atomic.op c.in-Atomic.ty) c.args.seat.now c.atomic.new.nic c.atomic.result a
    c.atomic.ensures is) c.started-in-Atomic.ensures)

pub returns-in-FetchAtomic : goal.returns-in-FetchAtomic
returns-in-FetchAtomic c =
    rw c.in-FetchAtomic.is
    (IfOk-weaker c.started-in-FetchAtomic.result (IsStarted c.fetch_atomic.result) _
    (λ a is. starts_as (FetchAtomic c.in-FetchAtomic.get c.in-FetchAtomic.args c.in-FetchAtomic.op c.in-FetchAtomic.ty) c.args.seat.now
    c.fetch_atomic.new.nic c.fetch_atomic.result a c.fetch_atomic.ensures is) c.started-in-FetchAtomic.ensures)

pub returns-in-Swap : goal.returns-in-Swap
returns-in-Swap c =
    rw c.in-Swap.is
    (IfOk-weaker c.started-in-Swap.result (IsStarted c.swap.result) _
    (λ a is. starts_as (Swap c.in-Swap.get c.in-Swap.args c.in-Swap.op c.in-Swap.ty c.in-Swap.operand) c.args.seat.now c.swap.new.nic
    c.swap.result a c.swap.ensures is) c.started-in-Swap.ensures)
