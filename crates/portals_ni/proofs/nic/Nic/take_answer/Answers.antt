use Rattle.std.proofs.Common.{length, sym, ap, subst, ◌∙◌}
use Rattle.ni_model.specs.Answers.{Returned, home}
use Rattle.ni_model.specs.Conditions.{IsKept}
use Rattle.portals_ni.specs.Pendings.{told_by}
use Rattle.portals_ni.specs.Sound.{IsSound}
use Rattle.portals_ni.proofs.Equations.{answer-ends}
use Rattle.portals_ni.proofs.Homes.{KeepsHome, answered-keeps}
use Rattle.portals_ni.proofs.Kept.{home-sound}
use Rattle.portals_ni.proofs.Stands.{delivers-stands, answer-stands}
use Rattle.portals_ni.proofs.nic.Nic.take_answer.Goals as goal

pub invariant_of-self : goal.invariant_of-self
invariant_of-self c =
    let n = c.self.inside in
    let new = c.answer-outcome.new in
    let ct = c.answer-outcome.result.1 in
    let old = home n.initiator.mds n.region n.cts n.eqs in
    let kept : IsKept c.args.message = sym (ap length c.bytes-bytes.ensures.list) ∙ c.bytes-bytes.ensures.kept.bytes in
    let keeps : KeepsHome old (home new.self.mds new.region new.cts new.eqs) ct = subst (λ (s : Returned). KeepsHome old s.home s.counted)
    (sym c.answer-outcome.ensures.answered) (answered-keeps old c.args.message c.self.invariant.sound.bound kept) in
    record {
      sound = rw c.tell.ensures (subst (λ x. IsSound n.target new.region new.cts x (told_by ct new.cts n.pending))
          (sym c.answer-outcome.ensures.rest) (home-sound n.target n.region new.region n.cts new.cts n.eqs new.eqs n.initiator
          new.self.mds n.pending ct c.self.invariant.sound keeps));
      stands = delivers-stands _ _ _ (answer-ends n.target n.region n.cts n.eqs n.initiator n.pending n.drops n.violations c.args.message
          new.self new.region new.cts new.eqs c.tell.new.pending c.answer-outcome.result.0 c.answer-outcome.result.1
          c.raise_drops-self-inside.result c.raise_violations-self-inside.result c.answer-outcome.ensures.answered
          c.answer-outcome.ensures.rest c.tell.ensures c.raise_drops-self-inside.ensures c.raise_violations-self-inside.ensures)
          (answer-stands _ c.args.message c.self.invariant.stands);
    }

pub returns : goal.returns
returns c =
    let n = c.self.inside in
    let new = c.answer-outcome.new in
    rw (← c.self.view_is) (answer-ends n.target n.region n.cts n.eqs n.initiator n.pending n.drops n.violations c.args.message new.self
    new.region new.cts new.eqs c.tell.new.pending c.answer-outcome.result.0 c.answer-outcome.result.1 c.raise_drops-self-inside.result
    c.raise_violations-self-inside.result c.answer-outcome.ensures.answered c.answer-outcome.ensures.rest c.tell.ensures
    c.raise_drops-self-inside.ensures c.raise_violations-self-inside.ensures)
