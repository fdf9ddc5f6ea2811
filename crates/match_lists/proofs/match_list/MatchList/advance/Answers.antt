use Rattle.std.proofs.Common.{◌≡◌, ◌+◌, List, Some, true, set, sym, ap, subst, ◌∙◌, arith}
use Rattle.std.specs.Option.{is_some}
use Rattle.chain_list.specs.threads.Threads.{Woven}
use Rattle.chain_list.specs.Chain.{chain_list, value_at, changed}
use Rattle.ni_model.specs.declared.Linked.{Linked}
use Rattle.std.proofs.lemmas.List.{length-set}
use Rattle.match_lists.specs.Indexed.{IsMatchList}
use Rattle.match_lists.specs.declared.look.Look.{Look}
use Rattle.match_lists.specs.Looks.{look_of}
use Rattle.match_lists.proofs.LookLemmas.{seen-advance, seen-live}
use Rattle.match_lists.specs.Lists.{running_at}
use Rattle.match_lists.proofs.IndexLemmas.{live, IsIndexed-advance}
use Rattle.match_lists.proofs.match_list.MatchList.advance.Goals as goal

pub invariant_of-self : goal.invariant_of-self
invariant_of-self g c =
    let chain = c.self.inside.chain in
    let some : is_some (value_at c.args.key chain.entries) ≡ true = ap is_some (sym c.in-Some.ensures.value) in
    let l = live chain c.args.key c.nodes-nodes.ensures.apart some in
    let both : Some c.in-Some.linked.now ≡ Some l.value = c.in-Some.ensures.value ∙ l.value_is in
    let same : c.in-Some.linked.now ≡ l.value = cc in
    let looks = c.self.inside.trails.looks.items in
    let now = running_at (l.value.running + c.args.by) l.value in
    let kept = subst (λ (v : Linked). IsMatchList (chain_list (changed c.args.key (running_at (v.running + c.args.by) v) chain.entries)
    chain.spare chain.given) c.self.inside.trails.threads
    (set looks c.args.key.place (look_of (running_at (v.running + c.args.by) v))) c.self.inside.limit) (sym same) (record {
      indexed = IsIndexed-advance chain c.self.inside.trails.threads c.self.inside.limit c.args.key c.self.invariant.indexed l
          (l.value.running + c.args.by);
      room_of_looks = length-set looks c.args.key.place (look_of now) ∙ c.self.invariant.room_of_looks;
      seen = seen-advance looks chain c.args.key l now c.self.invariant.seen;
    }) in
    let v = c.in-Some.linked.now in
    let after = chain_list (changed c.args.key (running_at (v.running + c.args.by) v) chain.entries) chain.spare chain.given in
    let limit = c.self.inside.limit in
    let p = c.args.key.place in
    let its = subst (λ (k : Look). IsMatchList after c.self.inside.trails.threads (set looks p k) limit) (sym c.look_of.ensures) kept in
    let threads = subst (λ (w : Woven). IsMatchList after w (set looks p c.look_of.result) limit) (sym c.renew.ensures.threads) its in
    subst (λ (ls : List Look). IsMatchList after c.renew.new.self.threads ls limit) (sym c.renew.ensures.looks) threads

pub renew-requires : goal.renew-requires
renew-requires g c =
    let chain = c.self.inside.chain in
    let some : is_some (value_at c.args.key chain.entries) ≡ true = ap is_some (sym c.in-Some.ensures.value) in
    let l = live chain c.args.key c.nodes-nodes.ensures.apart some in
    omega (arith, seen-live c.self.inside.trails.looks.items chain c.args.key l c.self.invariant.seen)
