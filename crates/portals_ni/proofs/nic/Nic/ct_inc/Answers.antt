use Rattle.std.proofs.Common.{◌≡◌, None, Some, sym, ◌∙◌}
use Rattle.ni_model.specs.Refusals.{ct_inc_fault}
use Rattle.portals_ni.proofs.Counts.{ChangesAt, changes-one}
use Rattle.portals_ni.proofs.Ends.{no-fault}
use Rattle.portals_ni.proofs.Equations.{inc-ends}
use Rattle.portals_ni.proofs.Kept.{count-sound}
use Rattle.portals_ni.proofs.Stands.{ended-stands, ct_inc-stands}
use Rattle.portals_ni.proofs.nic.Nic.ct_inc.Goals as goal

pub invariant_of-self-2 : goal.invariant_of-self-2
invariant_of-self-2 c =
    let n = c.self.inside in
    let changes : ChangesAt (Some c.args.ct) n.cts c.add_counter.new.cts =
    rw c.in_ok-add_counter.ensures.ok (changes-one c.args.ct _ n.cts) in
    let none : ct_inc_fault c.args.ct c.args.by n.cts ≡ None = no-fault _ (sym c.add_counter.ensures.answer ∙ c.in_ok-add_counter.was) in
    record {
      sound = rw c.tell.ensures (count-sound n.target n.region n.cts c.add_counter.new.cts n.initiator n.pending (Some c.args.ct)
          c.self.invariant.sound changes);
      stands = ended-stands _ _ _ (inc-ends n.target n.region n.cts n.eqs n.initiator n.pending n.drops n.violations c.args.ct c.args.by
          c.add_counter.new.cts c.tell.new.pending none c.in_ok-add_counter.ensures.ok c.tell.ensures)
          (ct_inc-stands c.args.ct c.args.by _ c.self.invariant.stands);
    }

pub returns : goal.returns
returns c =
    let n = c.self.inside in
    let none : ct_inc_fault c.args.ct c.args.by n.cts ≡ None = no-fault _ (sym c.add_counter.ensures.answer ∙ c.in_ok-add_counter.was) in
    record {
      does = rw (← c.self.view_is) (inc-ends n.target n.region n.cts n.eqs n.initiator n.pending n.drops n.violations c.args.ct
          c.args.by c.add_counter.new.cts c.tell.new.pending none c.in_ok-add_counter.ensures.ok c.tell.ensures);
    }
