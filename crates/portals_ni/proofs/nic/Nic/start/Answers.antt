use Rattle.std.proofs.Common.{◌≡◌, None, sym, subst, ◌∙◌}
use Rattle.std.proofs.lemmas.Result.{err_from_is_err_and}
use Rattle.ni_model.specs.Answers.{home}
use Rattle.ni_model.specs.Refusals.{action_fault}
use Rattle.ni_model.specs.Starts.{Started}
use Rattle.portals_ni.specs.Pendings.{told_by}
use Rattle.portals_ni.specs.Sound.{IsSound}
use Rattle.portals_ni.proofs.Ends.{no-fault, fault-is, enough-refused, lacks}
use Rattle.portals_ni.proofs.Equations.{start-may}
use Rattle.portals_ni.proofs.Homes.{KeepsHome, started-keeps}
use Rattle.portals_ni.proofs.Kept.{home-sound}
use Rattle.portals_ni.proofs.Stands.{may-stands, start-stands}
use Rattle.portals_ni.proofs.nic.Nic.start.Goals as goal

pub returns-in_err-check : goal.returns-in_err-check
returns-in_err-check c =
    let p = err_from_is_err_and c.from_residual.result c.from_residual.ensures.1 in
    rw (p.1, p.2, ← c.self.view_is) (enough-refused _ _ _ _ _ (fault-is _ _ (sym c.check.ensures.value ∙ c.in_err-check.was)))

pub returns-in-Err : goal.returns-in-Err
returns-in-Err c = rw (← c.self.view_is) (lacks _ _ _ _ (no-fault _ (sym c.check.ensures.value ∙ c.in_ok-check.was)))

pub invariant_of-self : goal.invariant_of-self
invariant_of-self c =
    let n = c.self.inside in
    let new = c.start-message.new in
    let ct = c.start-message.result.1 in
    let old = home n.initiator.mds n.region n.cts n.eqs in
    let keeps : KeepsHome old (home new.self.mds n.region new.cts new.eqs) ct = subst (λ (s : Started). KeepsHome old s.home s.counted)
    (sym c.start-message.ensures.started) (started-keeps n.initiator.rank old c.args.action.now c.self.invariant.sound.bound) in
    let none : action_fault c.args.action.now n.initiator.mds ≡ None = no-fault _ (sym c.check.ensures.value ∙ c.in_ok-check.was) in
    record {
      sound = rw c.tell.ensures (subst (λ x. IsSound n.target n.region new.cts x (told_by ct new.cts n.pending))
          (sym c.start-message.ensures.rest) (home-sound n.target n.region n.region n.cts new.cts n.eqs new.eqs n.initiator new.self.mds
          n.pending ct c.self.invariant.sound keeps));
      stands = may-stands _ _ _ _ (start-may n.target n.region n.cts n.eqs n.initiator n.pending n.drops n.violations c.args.action.now
          new.self new.cts new.eqs c.tell.new.pending c.start-message.result.0 c.start-message.result.1 none c.self.invariant.sound.rank
          c.start-message.ensures.started c.start-message.ensures.rest c.tell.ensures) c.self.invariant.stands
          (start-stands c.args.action.now _ c.self.invariant.stands);
    }

pub returns : goal.returns
returns c =
    let n = c.self.inside in
    let new = c.start-message.new in
    let none : action_fault c.args.action.now n.initiator.mds ≡ None = no-fault _ (sym c.check.ensures.value ∙ c.in_ok-check.was) in
    rw (← c.self.view_is) (start-may n.target n.region n.cts n.eqs n.initiator n.pending n.drops n.violations c.args.action.now new.self
    new.cts new.eqs c.tell.new.pending c.start-message.result.0 c.start-message.result.1 none c.self.invariant.sound.rank
    c.start-message.ensures.started c.start-message.ensures.rest c.tell.ensures)
