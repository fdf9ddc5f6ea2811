use Rattle.std.proofs.Common.{nat_lt, refl}
use Rattle.ni_model.specs.Calls as calls
use Rattle.ni_model.specs.Calls.{Done}
use Rattle.ni_model.specs.Tables.{has_slot}
use Rattle.portals_ni.proofs.Ends.{free_slot, is-free}
use Rattle.guarded_ni.specs.Misuses.{unless}
use Rattle.guarded_ni.specs.declared.faults.Misuse.TheVariants.{NoRoom}
use Rattle.log_answers.specs.declared.owed.Sort.TheVariants.{Queue}
use Rattle.log_seats.specs.Answers.{new, tells}
use Rattle.log_seats.proofs.Ends.{guarded_err, guarded_ok}
use Rattle.log_seats.proofs.tables.eq_alloc.Goals as goal

pub returns-in-Ok : goal.returns-in-Ok
returns-in-Ok c =
    rw c.told.ensures
    (guarded_ok (unless (nat_lt 0 c.args.room) NoRoom) c.args.seat.now c.eq_alloc.new.nic (λ d. tells (new Queue) d c.args.seat.now)
    (λ slot. has_slot slot c.args.seat.now.nic.eqs.live) (λ slot. calls.eq_alloc slot c.args.room c.args.seat.now.nic) c.in-Ok.eq
    c.in-Ok.ensures)

pub returns-in_ok-refused-in-Err : goal.returns-in_ok-refused-in-Err
returns-in_ok-refused-in-Err c =
    rw c.told-in-Err.ensures
    (guarded_err (unless (nat_lt 0 c.args.room) NoRoom) c.args.seat.now c.eq_alloc.new.nic (λ d. tells (new Queue) d c.args.seat.now)
    (λ slot. has_slot slot c.args.seat.now.nic.eqs.live) (λ slot. calls.eq_alloc slot c.args.room c.args.seat.now.nic) c.in-Err.fault
    c.in_ok-refused-in-Err.field-0 c.in-Err.ensures c.in_ok-refused-in-Err.ensures (λ r. refl) (free_slot c.args.seat.now.nic.eqs.live)
    (is-free c.args.seat.now.nic.eqs.live))
