use Rattle.std.proofs.Common.{sym, ◌∙◌}
use Rattle.portals_ni.proofs.Alone.{operation-mds-alone}
use Rattle.portals_ni.proofs.Walks.{release-sound}
use Rattle.portals_ni.proofs.Stands.{released-stands}
use Rattle.portals_ni.proofs.nic.Nic.md_release.Goals as goal

pub names_md-requires : goal.names_md-requires
names_md-requires c =
    let n = c.self.inside in
    record {
      alone = operation-mds-alone c.args.md n.initiator.mds n.initiator.ranks n.initiator.limits n.pending.waiting
          (c.is_bound.ensures.alone c.if-not-is_bound.false) c.self.invariant.sound.armed;
    }

pub invariant_of-self : goal.invariant_of-self
invariant_of-self c =
    let n = c.self.inside in
    record {
      sound = release-sound n.target n.region n.cts n.initiator c.release.new.self n.pending c.args.md c.release.result
          c.self.invariant.sound (sym c.names_md.ensures.value ∙ c.if-names_md.false) c.release.ensures.unchanged
          c.release.ensures.released;
      stands = released-stands n.target n.region n.cts n.eqs n.initiator n.pending n.drops n.violations c.release.new.self c.args.md
          c.release.result c.self.invariant.stands c.release.ensures.unchanged c.release.ensures.released;
    }
