use Rattle.std.proofs.Common.{◌<◌, List, [], ◌∷◌, ◌++◌, length, set, sym, ap, subst, ◌∙◌, arith}
use Rattle.std.specs.Prelude.{All}
use Rattle.std.proofs.lemmas.List.{length-set}
use Rattle.match_lists.specs.declared.look.Look.{Look}
use Rattle.match_lists.specs.Looks.{IsSeen}
use Rattle.match_lists.specs.Indexed.{IsMatchList}
use Rattle.match_lists.proofs.LookLemmas.{seen-push}
use Rattle.chain_list.specs.Chain.{ChainList, keyed, Apart}
use Rattle.chain_list.proofs.ChainLemmas.{Apart-before}
use Rattle.chain_list.specs.threads.Threads.{with_place}
use Rattle.ni_model.specs.declared.Linked.{Linked}
use Rattle.match_lists.proofs.BucketLemmas.{thread-le}
use Rattle.match_lists.proofs.IndexLemmas.{free-place, IsIndexed-push}
use Rattle.match_lists.proofs.match_list.MatchList.push_back.Goals as goal

pub put-requires-clause-thread : goal.put-requires-clause-thread
put-requires-clause-thread g c = omega (
  arith,
  c.thread-thread.ensures,
  thread-le c.self.inside.limit c.args.linked,
  c.self.invariant.indexed.long,
)

pub put-requires-clause-free : goal.put-requires-clause-free
put-requires-clause-free g c =
    let x = keyed c.push_back-key.result c.args.linked in
    let apart : Apart (c.self.inside.chain.entries ++ x ∷ []) = subst (λ (l : ChainList Linked). Apart l.entries)
    c.push_back-key.ensures.chain c.nodes-nodes.ensures.apart in
    free-place c.self.inside.chain c.self.inside.trails.threads c.self.inside.limit x c.self.invariant.indexed
    (Apart-before c.self.inside.chain.entries x [] apart)

pub invariant_of-self : goal.invariant_of-self
invariant_of-self g c =
    let x = keyed c.push_back-key.result c.args.linked in
    let spare = subst (λ v. 0 < v.spare) (sym c.self.view_is) c.requires.room in
    let indexed = IsIndexed-push c.self.inside.chain c.self.inside.trails.threads c.self.inside.limit x c.self.invariant.indexed _ _
    c.push_back-key.ensures.stamp spare c.push_back-key.ensures.chain
    (c.put.ensures.threads ∙ ap (λ t. with_place t x.key.place c.self.inside.trails.threads) c.thread-thread.ensures) in
    let apart : Apart (c.self.inside.chain.entries ++ x ∷ []) = subst (λ (l : ChainList Linked). Apart l.entries)
    c.push_back-key.ensures.chain c.nodes-nodes.ensures.apart in
    let looks = c.self.inside.trails.looks.items in
    let lt : x.key.place < length looks = omega (
      arith,
      c.push_back-key.ensures.within,
      c.self.invariant.indexed.full,
      c.self.invariant.room_of_looks,
    ) in
    let seen = seen-push looks c.self.inside.chain.entries x c.self.invariant.seen (Apart-before c.self.inside.chain.entries x [] apart)
    lt in
    let told : All (IsSeen (set looks x.key.place c.look_of-look.result)) (c.self.inside.chain.entries ++ x ∷ []) =
    subst (λ (k : Look). All (IsSeen (set looks x.key.place k)) (c.self.inside.chain.entries ++ x ∷ [])) (sym c.look_of-look.ensures) seen
    in
    subst (λ (ls : List Look). IsMatchList c.push_back-key.new.self c.put.new.self.threads ls c.self.inside.limit)
    (sym c.put.ensures.looks) (record {
      indexed = indexed;
      room_of_looks = length-set looks x.key.place c.look_of-look.result ∙ c.self.invariant.room_of_looks;
      seen = subst (λ (l : ChainList Linked). All (IsSeen (set looks x.key.place c.look_of-look.result)) l.entries)
          (sym c.push_back-key.ensures.chain) told;
    })

pub put-requires-clause-look : goal.put-requires-clause-look
put-requires-clause-look g c = omega (arith, c.push_back-key.ensures.within, c.self.invariant.indexed.full, c.self.invariant.room_of_looks)
