use Rattle.std.proofs.Common.{◌≡◌, true, sym, ◌∙◌, arith}
use Rattle.ni_model.specs.Tables.{is_live}
use Rattle.ni_objects.specs.users.Rows.{HasOwnSlot}
use Rattle.ni_objects.proofs.users.SlotLemmas.{own-slot, slot-found}
use Rattle.portals_ni.proofs.Alone.{indices-alone, bound-cts-alone, operation-cts-alone}
use Rattle.portals_ni.proofs.Equations.{free-ends, live-true}
use Rattle.portals_ni.proofs.Walks.{freed-sound}
use Rattle.portals_ni.proofs.Stands.{ended-stands}
use Rattle.portals_ni.proofs.Freed.{ct_free-stands}
use Rattle.portals_ni.proofs.nic.Nic.ct_free.Goals as goal

pub names_ct-requires : goal.names_ct-requires
names_ct-requires c =
    let n = c.self.inside in
    let at = c.at-found.ensures in
    let live : is_live c.args.ct n.cts ≡ true = live-true c.is_live.result _ c.is_live.ensures c.if-not-is_live.false in
    let own : HasOwnSlot c.args.ct n.cts = own-slot c.at-found.result (λ p. p.0) c.args.ct n.cts live at.none at.alone in
    let below = at.below (slot-found c.at-found.result c.args.ct n.cts live at.none) in
    record {
      within = omega (arith, below, c.self.invariant.stands.limits.counting_events);
      alone = bound-cts-alone c.args.ct n.cts n.eqs n.initiator.mds.live own c.self.invariant.stands.names.descriptors;
    }

pub names_ct-requires-else-names_ct : goal.names_ct-requires-else-names_ct
names_ct-requires-else-names_ct c =
    let n = c.self.inside in
    let at = c.at-found.ensures in
    let live : is_live c.args.ct n.cts ≡ true = live-true c.is_live.result _ c.is_live.ensures c.if-not-is_live.false in
    let own : HasOwnSlot c.args.ct n.cts = own-slot c.at-found.result (λ p. p.0) c.args.ct n.cts live at.none at.alone in
    record { alone = indices-alone c.args.ct n.cts n.target.indices own c.self.invariant.stands.names.entries }

pub names_ct-requires-else-names_ct-2 : goal.names_ct-requires-else-names_ct-2
names_ct-requires-else-names_ct-2 c =
    let n = c.self.inside in
    let at = c.at-found.ensures in
    let live : is_live c.args.ct n.cts ≡ true = live-true c.is_live.result _ c.is_live.ensures c.if-not-is_live.false in
    let own : HasOwnSlot c.args.ct n.cts = own-slot c.at-found.result (λ p. p.0) c.args.ct n.cts live at.none at.alone in
    record { alone = operation-cts-alone c.args.ct n.cts n.pending.waiting own c.self.invariant.stands.names.operations }

pub invariant_of-self : goal.invariant_of-self
invariant_of-self c =
    let n = c.self.inside in
    record {
      sound = rw c.remove.ensures.rest (freed-sound n.target n.region n.cts n.initiator n.pending c.args.ct c.self.invariant.sound
          (sym c.names_ct-else-names_ct-2.ensures.value ∙ c.if-names_ct-3.false));
      stands = ended-stands _ _ _ (free-ends n.target n.region n.cts n.eqs n.initiator n.pending n.drops n.violations c.args.ct
          c.remove.new.self c.is_live.result c.is_live.ensures c.if-not-is_live.false (sym c.names_ct.ensures.value ∙ c.if-names_ct.false)
          (sym c.names_ct-else-names_ct.ensures.value ∙ c.if-names_ct-2.false) (sym c.names_ct-else-names_ct-2.ensures.value
          ∙ c.if-names_ct-3.false) c.remove.ensures.rest) (ct_free-stands c.args.ct _ c.self.invariant.stands);
    }

pub returns : goal.returns
returns c =
    let n = c.self.inside in
    record {
      does = rw (← c.self.view_is) (free-ends n.target n.region n.cts n.eqs n.initiator n.pending n.drops n.violations c.args.ct
          c.remove.new.self c.is_live.result c.is_live.ensures c.if-not-is_live.false (sym c.names_ct.ensures.value ∙ c.if-names_ct.false)
          (sym c.names_ct-else-names_ct.ensures.value ∙ c.if-names_ct-2.false) (sym c.names_ct-else-names_ct-2.ensures.value
          ∙ c.if-names_ct-3.false) c.remove.ensures.rest);
    }
