use Rattle.std.proofs.Common.{◌<◌, subst}
use Rattle.std.specs.Result.{IfOk}
use Rattle.std.proofs.Common.{◌≡◌, true, false, sym, ◌∙◌}
use Rattle.ni_model.specs.Tables.{is_full}
use Rattle.portals_ni.proofs.Equations.{queue-makes, queue-full, queue-lacks}
use Rattle.portals_ni.proofs.Stands.{may_make-stands, eq_alloc-stands}
use Rattle.portals_ni.proofs.nic.Nic.eq_alloc.Goals as goal

pub returns-then-is_full : goal.returns-then-is_full
returns-then-is_full c =
    let n = c.self.inside in
    let full : is_full n.eqs ≡ true = sym c.is_full.ensures ∙ c.if-is_full.true in
    record {
      makes = rw (← c.self.view_is) (queue-full n.target n.region n.cts n.eqs n.initiator n.pending n.drops n.violations
          c.args.room full);
      slot = tt;
    }

pub returns-in-Err : goal.returns-in-Err
returns-in-Err c =
    let n = c.self.inside in
    let full : is_full n.eqs ≡ false = sym c.is_full.ensures ∙ c.if-is_full.false in
    record {
      makes = rw (← c.self.view_is) (queue-lacks n.target n.region n.cts n.eqs n.initiator n.pending n.drops n.violations
          c.args.room full);
      slot = tt;
    }

pub returns : goal.returns
returns c =
    let n = c.self.inside in
    let made = c.make.ensures in
    record {
      makes = rw (← c.self.view_is) (queue-makes n.target n.region n.cts n.eqs n.initiator n.pending n.drops n.violations
          c.args.room c.in-Ok.queue c.make.new.things c.make.result c.in-Ok.ensures made.err made.unchanged made.ok made.stamp made.free
          made.made);
      slot = rw (← c.self.view_is) (subst (λ m. IfOk c.make.result (λ h. h.slot < m)) c.self.invariant.stands.limits.queues
          made.slot);
    }

pub invariant_of-self : goal.invariant_of-self
invariant_of-self c =
    let n = c.self.inside in
    let made = c.make.ensures in
    record {
      sound = c.self.invariant.sound;
      stands = may_make-stands _ _ _ _ _ (queue-makes n.target n.region n.cts n.eqs n.initiator n.pending n.drops n.violations c.args.room
          c.in-Ok.queue c.make.new.things c.make.result c.in-Ok.ensures made.err made.unchanged made.ok made.stamp made.free made.made)
          c.self.invariant.stands (λ slot. eq_alloc-stands slot c.args.room _ c.self.invariant.stands);
    }
