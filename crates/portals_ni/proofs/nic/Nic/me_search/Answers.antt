use Rattle.std.proofs.Common.{◌≡◌}
use Rattle.std.specs.Prelude.{OnOk}
use Rattle.std.proofs.lemmas.Result.{on_ok_weaker, IfOk-weaker}
use Rattle.portals_ni.proofs.Equations.{search-ends}
use Rattle.portals_ni.proofs.Kept.{searched-sound, search-rank}
use Rattle.portals_ni.proofs.Stands.{ended-stands, me_search-stands}
use Rattle.portals_ni.proofs.nic.Nic.me_search.Goals as goal

pub invariant_of-self : goal.invariant_of-self
invariant_of-self c =
    let n = c.self.inside in
    let found = IfOk-weaker c.search.result _ _ (λ x all. all n.region n.cts) c.search.ensures.searched in
    let same : OnOk c.search.result ((c.search.new.self.rank ≡ n.target.rank) × (c.search.new.self.limit ≡ n.target.limit)) =
    search-rank n.target c.search.new.self n.region n.cts n.eqs c.search.new.eqs c.args.pt c.args.entry.now c.args.delete
    c.search.result c.self.invariant.sound.parts found in
    record {
      sound = searched-sound n.target c.search.new.self n.region n.cts n.eqs c.search.new.eqs n.initiator n.pending c.args.pt
          c.args.entry.now c.args.delete c.search.result c.self.invariant.sound c.search.ensures.unchanged found;
      stands = ended-stands _ _ _ (search-ends n.target n.region n.cts n.eqs n.initiator n.pending n.drops n.violations c.args.pt
          c.args.entry.now c.args.delete c.search.new.self c.search.new.eqs c.search.result c.search.ensures.err
          c.search.ensures.unchanged c.search.ensures.ok (on_ok_weaker c.search.result (λ p. p.0) same)
          (on_ok_weaker c.search.result (λ p. p.1) same) found)
          (me_search-stands c.args.pt c.args.entry.now c.args.delete _ c.self.invariant.stands);
    }

pub returns : goal.returns
returns c =
    let n = c.self.inside in
    let found = IfOk-weaker c.search.result _ _ (λ x all. all n.region n.cts) c.search.ensures.searched in
    let same : OnOk c.search.result ((c.search.new.self.rank ≡ n.target.rank) × (c.search.new.self.limit ≡ n.target.limit)) =
    search-rank n.target c.search.new.self n.region n.cts n.eqs c.search.new.eqs c.args.pt c.args.entry.now c.args.delete
    c.search.result c.self.invariant.sound.parts found in
    record {
      does = rw (← c.self.view_is) (search-ends n.target n.region n.cts n.eqs n.initiator n.pending n.drops n.violations c.args.pt
          c.args.entry.now c.args.delete c.search.new.self c.search.new.eqs c.search.result c.search.ensures.err c.search.ensures.unchanged
          c.search.ensures.ok (on_ok_weaker c.search.result (λ p. p.0) same) (on_ok_weaker c.search.result (λ p. p.1) same) found);
    }
