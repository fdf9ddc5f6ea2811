use Rattle.std.proofs.Common.{◌≡◌, true, sym, ◌∙◌, arith}
use Rattle.ni_model.specs.Tables.{is_live}
use Rattle.ni_objects.specs.users.Rows.{HasOwnSlot}
use Rattle.ni_objects.proofs.users.SlotLemmas.{own-slot, slot-found}
use Rattle.portals_ni.proofs.Alone.{queues-alone, bound-eqs-alone}
use Rattle.portals_ni.proofs.Equations.{unqueue-ends, live-true}
use Rattle.portals_ni.proofs.Stands.{ended-stands}
use Rattle.portals_ni.proofs.Freed.{eq_free-stands}
use Rattle.portals_ni.proofs.nic.Nic.eq_free.Goals as goal

pub names_eq-requires : goal.names_eq-requires
names_eq-requires c =
    let n = c.self.inside in
    let at = c.at-found.ensures in
    let live : is_live c.args.eq n.eqs ≡ true = live-true c.is_live.result _ c.is_live.ensures c.if-not-is_live.false in
    let own : HasOwnSlot c.args.eq n.eqs = own-slot c.at-found.result (λ p. p.0) c.args.eq n.eqs live at.none at.alone in
    record { alone = queues-alone c.args.eq n.eqs n.target.indices own c.self.invariant.stands.names.indices }

pub names_eq-requires-else-names_eq : goal.names_eq-requires-else-names_eq
names_eq-requires-else-names_eq c =
    let n = c.self.inside in
    let at = c.at-found.ensures in
    let live : is_live c.args.eq n.eqs ≡ true = live-true c.is_live.result _ c.is_live.ensures c.if-not-is_live.false in
    let own : HasOwnSlot c.args.eq n.eqs = own-slot c.at-found.result (λ p. p.0) c.args.eq n.eqs live at.none at.alone in
    let below = at.below (slot-found c.at-found.result c.args.eq n.eqs live at.none) in
    record {
      within = omega (arith, below, c.self.invariant.stands.limits.queues);
      alone = bound-eqs-alone c.args.eq n.cts n.eqs n.initiator.mds.live own c.self.invariant.stands.names.descriptors;
    }

pub returns : goal.returns
returns c =
    let n = c.self.inside in
    record {
      does = rw (← c.self.view_is) (unqueue-ends n.target n.region n.cts n.eqs n.initiator n.pending n.drops n.violations c.args.eq
          c.remove.new.self c.is_live.result c.is_live.ensures c.if-not-is_live.false (sym c.names_eq.ensures.value ∙ c.if-names_eq.false)
          (sym c.names_eq-else-names_eq.ensures.value ∙ c.if-names_eq-2.false) c.remove.ensures.rest);
    }

pub invariant_of-self : goal.invariant_of-self
invariant_of-self c =
    let n = c.self.inside in
    record {
      sound = c.self.invariant.sound;
      stands = ended-stands _ _ _ (unqueue-ends n.target n.region n.cts n.eqs n.initiator n.pending n.drops n.violations c.args.eq
          c.remove.new.self c.is_live.result c.is_live.ensures c.if-not-is_live.false (sym c.names_eq.ensures.value ∙ c.if-names_eq.false)
          (sym c.names_eq-else-names_eq.ensures.value ∙ c.if-names_eq-2.false) c.remove.ensures.rest)
          (eq_free-stands c.args.eq _ c.self.invariant.stands);
    }
