use Rattle.std.proofs.Common.{◌≡◌, true, length, sym, ap, subst, ◌∙◌}
use Rattle.std.specs.Prelude.{All}
use Rattle.std.specs.Option.{is_some}
use Rattle.chain_list.specs.Chain.{ChainList, value_at}
use Rattle.ni_model.specs.declared.Linked.{Linked}
use Rattle.match_lists.specs.Looks.{IsSeen}
use Rattle.match_lists.proofs.LookLemmas.{seen-without}
use Rattle.match_lists.proofs.IndexLemmas.{live, threaded-place, IsIndexed-unlink}
use Rattle.match_lists.proofs.match_list.MatchList.unlink.Goals as goal

pub take-requires : goal.take-requires
take-requires g c =
    let some : is_some (value_at c.args.key c.self.inside.chain.entries) ≡ true =
    ap is_some (sym c.unlink.ensures.value ∙ c.in_ok-linked.was) in
    let l = live c.self.inside.chain c.args.key c.nodes-nodes.ensures.apart some in
    threaded-place c.self.inside.chain c.self.inside.trails.threads c.self.inside.limit c.args.key c.self.invariant.indexed l

pub invariant_of-self-2 : goal.invariant_of-self-2
invariant_of-self-2 g c =
    let some : is_some (value_at c.args.key c.self.inside.chain.entries) ≡ true =
    ap is_some (sym c.unlink.ensures.value ∙ c.in_ok-linked.was) in
    let l = live c.self.inside.chain c.args.key c.nodes-nodes.ensures.apart some in
    record {
      indexed = IsIndexed-unlink c.self.inside.chain c.self.inside.trails.threads c.self.inside.limit c.args.key c.self.invariant.indexed
          l _ _ c.in_ok-linked.ensures.taken c.take.ensures.threads;
      room_of_looks = ap length c.take.ensures.looks ∙ c.self.invariant.room_of_looks;
      seen = subst (λ looks. All (IsSeen looks) c.unlink.new.self.entries) (sym c.take.ensures.looks)
          (subst (λ (v : ChainList Linked). All (IsSeen c.self.inside.trails.looks.items) v.entries) (sym c.in_ok-linked.ensures.taken)
          (seen-without c.self.inside.trails.looks.items c.args.key c.self.inside.chain.entries c.self.invariant.seen));
    }
