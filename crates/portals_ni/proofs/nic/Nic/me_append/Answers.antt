use Rattle.std.proofs.Common.{◌+◌, subst}
use Rattle.target_engine.specs.Sides.{SlotBelow}
use Rattle.std.proofs.lemmas.Result.{err_from_is_err_and}
use Rattle.ni_model.specs.Arrive.{parts}
use Rattle.portals_ni.proofs.Equations.{append-makes, append-refused}
use Rattle.portals_ni.proofs.Kept.{appended-keeps, target-sound}
use Rattle.portals_ni.proofs.Targets.{Keeps}
use Rattle.portals_ni.proofs.Stands.{made-stands, me_append-stands}
use Rattle.portals_ni.proofs.nic.Nic.me_append.Goals as goal

pub invariant_of-self-2 : goal.invariant_of-self-2
invariant_of-self-2 c =
    let n = c.self.inside in
    let new = c.append.new in
    let ct = c.in_ok-appended.counted in
    let keeps : Keeps (parts n.target n.region n.cts n.eqs) (parts new.self n.region new.cts new.eqs) ct =
    appended-keeps c.args.pt c.args.list c.args.entry (parts n.target n.region n.cts n.eqs)
    (parts new.self n.region new.cts new.eqs) c.in_ok-appended.appended ct c.self.invariant.sound.parts c.in_ok-appended.ensures.ok
    c.in_ok-appended.ensures.appended in
    record {
      sound = rw c.tell.ensures (target-sound n.target new.self n.region n.region n.cts new.cts n.eqs new.eqs n.initiator n.pending ct
          c.self.invariant.sound keeps);
      stands = made-stands _ _ _ _ (append-makes n.target n.region n.cts n.eqs n.initiator n.pending n.drops n.violations c.args.pt
          c.args.list c.args.entry new.self new.cts new.eqs c.tell.new.pending c.in_ok-appended.appended ct c.in_ok-appended.ensures.ok
          c.in_ok-appended.ensures.appended keeps.rank keeps.limit c.tell.ensures)
          (λ slot. me_append-stands slot c.args.pt c.args.list c.args.entry _ c.self.invariant.stands);
    }

pub returns : goal.returns
returns c =
    let n = c.self.inside in
    let new = c.append.new in
    let ct = c.in_ok-appended.counted in
    let keeps : Keeps (parts n.target n.region n.cts n.eqs) (parts new.self n.region new.cts new.eqs) ct =
    appended-keeps c.args.pt c.args.list c.args.entry (parts n.target n.region n.cts n.eqs)
    (parts new.self n.region new.cts new.eqs) c.in_ok-appended.appended ct c.self.invariant.sound.parts c.in_ok-appended.ensures.ok
    c.in_ok-appended.ensures.appended in
    record {
      makes = rw (← c.self.view_is) (append-makes n.target n.region n.cts n.eqs n.initiator n.pending n.drops n.violations
          c.args.pt c.args.list c.args.entry new.self new.cts new.eqs c.tell.new.pending c.in_ok-appended.appended ct
          c.in_ok-appended.ensures.ok c.in_ok-appended.ensures.appended keeps.rank keeps.limit c.tell.ensures);
      slot =
          rw (← c.self.view_is) (subst (λ m. SlotBelow (n.target.limit + m) c.in_ok-appended.appended)
          c.self.invariant.stands.limits.headers c.in_ok-appended.ensures.slot);
    }

pub returns-in_err-appended : goal.returns-in_err-appended
returns-in_err-appended c =
    let n = c.self.inside in
    let p = err_from_is_err_and c.from_residual.result c.from_residual.ensures.1 in
    record {
      makes = rw (p.1, p.2, ← c.self.view_is) (append-refused n.target n.region n.cts n.eqs n.initiator n.pending n.drops
          n.violations c.args.pt c.args.list c.args.entry c.append.new.self c.append.new.cts c.append.new.eqs c.in_err-appended.field-0.0
          c.in_err-appended.ensures.err c.in_err-appended.ensures.unchanged);
      slot = rw p.1 tt;
    }
