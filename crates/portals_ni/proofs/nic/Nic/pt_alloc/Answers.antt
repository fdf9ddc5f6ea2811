use Rattle.std.proofs.Common.{Some}
use Rattle.std.proofs.lemmas.List.Elements.{All-nil}
use Rattle.ni_model.specs.Calls.{new_index}
use Rattle.portals_ni.proofs.Equations.{pt-ends}
use Rattle.portals_ni.proofs.Kept.{indices-sound}
use Rattle.portals_ni.proofs.Stands.{ended-stands, pt_alloc-stands}
use Rattle.portals_ni.proofs.nic.Nic.pt_alloc.Goals as goal

pub returns : goal.returns
returns c =
    let n = c.self.inside in
    let made = c.pt_alloc.ensures in
    record {
      does = rw (← c.self.view_is) (pt-ends n.target n.region n.cts n.eqs n.initiator n.pending n.drops n.violations c.args.index
          c.args.eq c.pt_alloc.new.self c.pt_alloc.result made.err made.unchanged made.ok made.allocated);
    }

pub invariant_of-self : goal.invariant_of-self
invariant_of-self c =
    let n = c.self.inside in
    let made = c.pt_alloc.ensures in
    record {
      sound = indices-sound n.target c.pt_alloc.new.self n.region n.cts n.initiator n.pending c.args.index (Some (new_index c.args.eq))
          c.pt_alloc.result (All-nil _, All-nil _) c.self.invariant.sound made.unchanged made.allocated;
      stands = ended-stands _ _ _ (pt-ends n.target n.region n.cts n.eqs n.initiator n.pending n.drops n.violations c.args.index c.args.eq
          c.pt_alloc.new.self c.pt_alloc.result made.err made.unchanged made.ok made.allocated)
          (pt_alloc-stands c.args.index c.args.eq _ c.self.invariant.stands);
    }
