use Rattle.std.proofs.Common.{◌≡◌, find, sym, ap, ◌∙◌, arith}
use Rattle.ni_model.specs.Lists.{fits}
use Rattle.match_lists.specs.Buckets.{candidates_in}
use Rattle.match_lists.specs.Indexed.{room}
use Rattle.match_lists.specs.Lists.{values}
use Rattle.match_lists.proofs.FirstOfThreads.{value_of, first-of-threads, at_most-on-threads, some-on-threads}
use Rattle.match_lists.proofs.match_list.MatchList.first_fit.Goals as goal

pub returns-in_err-key-clause-first : goal.returns-in_err-key-clause-first
returns-in_err-key-clause-first g c =
    let xs = c.self.inside.chain.entries in
    let all = first-of-threads c.args.header.now c.self.inside.limit c.self.inside.chain.given xs c.nodes-nodes.ensures.apart
    c.self.invariant.indexed.rising in
    let view = ap (λ v. find (fits c.args.header.now) (values v.entries)) c.self.view_is in
    c.from_residual.ensures ∙ sym (all ∙ ap (λ k. value_of xs k) (sym c.first_key.ensures.key ∙ c.in_err-key.was)) ∙ view

pub returns-in_err-key-clause-steps : goal.returns-in_err-key-clause-steps
returns-in_err-key-clause-steps g c =
    let bits = c.args.header.now.match_bits in
    let limit = c.self.inside.limit in
    let xs = c.self.inside.chain.entries in
    let at_most = at_most-on-threads limit bits xs in
    let count : candidates_in limit bits (values xs) ≡ candidates_in (room c.args.self.now) bits (values c.args.self.now.entries) =
    ap (λ n. candidates_in n bits (values xs)) (sym c.self.invariant.indexed.full)
    ∙ ap (λ v. candidates_in (room v) bits (values v.entries)) c.self.view_is in
    omega (arith, at_most, count, c.first_key.ensures.steps)

pub returns-in-Some-clause-first : goal.returns-in-Some-clause-first
returns-in-Some-clause-first g c =
    let xs = c.self.inside.chain.entries in
    let all = first-of-threads c.args.header.now c.self.inside.limit c.self.inside.chain.given xs c.nodes-nodes.ensures.apart
    c.self.invariant.indexed.rising in
    let view = ap (λ v. find (fits c.args.header.now) (values v.entries)) c.self.view_is in
    c.in-Some.ensures.value ∙ sym (all ∙ ap (λ k. value_of xs k) (sym c.first_key.ensures.key ∙ c.in_ok-key.was)) ∙ view

pub returns-in-Some-clause-steps : goal.returns-in-Some-clause-steps
returns-in-Some-clause-steps g c =
    let bits = c.args.header.now.match_bits in
    let limit = c.self.inside.limit in
    let xs = c.self.inside.chain.entries in
    let at_most = at_most-on-threads limit bits xs in
    let count : candidates_in limit bits (values xs) ≡ candidates_in (room c.args.self.now) bits (values c.args.self.now.entries) =
    ap (λ n. candidates_in n bits (values xs)) (sym c.self.invariant.indexed.full)
    ∙ ap (λ v. candidates_in (room v) bits (values v.entries)) c.self.view_is in
    let some = some-on-threads c.args.header.now limit xs c.in_ok-key.key (sym c.first_key.ensures.key ∙ c.in_ok-key.was) in
    omega (arith, at_most, count, some, c.first_key.ensures.steps, c.get.ensures.steps)

pub returns-in-None-clause-first : goal.returns-in-None-clause-first
returns-in-None-clause-first g c =
    let xs = c.self.inside.chain.entries in
    let all = first-of-threads c.args.header.now c.self.inside.limit c.self.inside.chain.given xs c.nodes-nodes.ensures.apart
    c.self.invariant.indexed.rising in
    let view = ap (λ v. find (fits c.args.header.now) (values v.entries)) c.self.view_is in
    c.in-None.ensures.value ∙ sym (all ∙ ap (λ k. value_of xs k) (sym c.first_key.ensures.key ∙ c.in_ok-key.was)) ∙ view

pub returns-in-None-clause-steps : goal.returns-in-None-clause-steps
returns-in-None-clause-steps g c =
    let bits = c.args.header.now.match_bits in
    let limit = c.self.inside.limit in
    let xs = c.self.inside.chain.entries in
    let at_most = at_most-on-threads limit bits xs in
    let count : candidates_in limit bits (values xs) ≡ candidates_in (room c.args.self.now) bits (values c.args.self.now.entries) =
    ap (λ n. candidates_in n bits (values xs)) (sym c.self.invariant.indexed.full)
    ∙ ap (λ v. candidates_in (room v) bits (values v.entries)) c.self.view_is in
    let some = some-on-threads c.args.header.now limit xs c.in_ok-key.key (sym c.first_key.ensures.key ∙ c.in_ok-key.was) in
    omega (arith, at_most, count, some, c.first_key.ensures.steps, c.get.ensures.steps)
