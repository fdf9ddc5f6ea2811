use Rattle.std.proofs.Common.{◌≡◌, true, false, List, ◌∷◌, None, length, sym, ap, subst, ◌∙◌, arith}
use Rattle.std.specs.Option.{is_some, IfSome}
use Rattle.ni_model.specs.declared.Linked.{Linked}
use Rattle.ptl_types.specs.declared.handles.Handle.{Handle}
use Rattle.ni_model.specs.Refusals.{entry_names_ct}
use Rattle.ni_model.specs.Tables.{names}
use Rattle.chain_list.specs.Chain.{first_or}
use Rattle.match_lists.specs.Lists.{values}
use Rattle.match_lists.proofs.Walking.{from_place, place-first, here}
use Rattle.match_lists.proofs.walk.some_names.Goals as goal

passes : (x : Linked) (xs : List Linked) (ct : Handle) → names x.entry.ct ct ≡ false → entry_names_ct ct (x ∷ xs) ≡ entry_names_ct ct xs
passes x xs ct e = rw e

hits : (x : Linked) (xs : List Linked) (ct : Handle) → names x.entry.ct ct ≡ true → entry_names_ct ct (x ∷ xs) ≡ true
hits x xs ct e = rw e

pub loop-next-init : goal.loop-next-init
loop-next-init g c =
    let xs = c.args.chain.now.entries in
    let at = c.first_place-next.ensures in
    let all = ap (λ o. from_place o xs) at ∙ place-first xs in
    record {
      live = at ∙ ap (λ l. first_or l None) (sym all);
      first = ap (λ l. entry_names_ct c.args.ct (values l)) (sym all);
      steps =
          omega (arith, ap length all);
    }

pub value-requires : goal.value-requires
value-requires g c =
    let xs = c.args.chain.now.entries in
    let inv = c.loop-next.invariant in
    let a = here c.in-Some.place c.loop-next.next xs c.nodes-nodes.result.now.places c.nodes-nodes.ensures.apart
    c.nodes-nodes.ensures.linked c.in-Some.is inv.live in
    ap is_some a.node_is

pub links-after-requires : goal.links-after-requires
links-after-requires g c =
    let xs = c.args.chain.now.entries in
    let inv = c.loop-next.invariant in
    let a = here c.in-Some.place c.loop-next.next xs c.nodes-nodes.result.now.places c.nodes-nodes.ensures.apart
    c.nodes-nodes.ensures.linked c.in-Some.is inv.live in
    ap is_some a.node_is

pub returns-then-names-clause-value : goal.returns-then-names-clause-value
returns-then-names-clause-value g c =
    let xs = c.args.chain.now.entries in
    let inv = c.loop-next.invariant in
    let a = here c.in-Some.place c.loop-next.next xs c.nodes-nodes.result.now.places c.nodes-nodes.ensures.apart
    c.nodes-nodes.ensures.linked c.in-Some.is inv.live in
    let rest : from_place c.loop-next.next xs ≡ a.entry ∷ a.behind = ap (λ o. from_place o xs) c.in-Some.is ∙ a.rest_is in
    let value = subst (λ o. IfSome o (λ n. c.value.result.now ≡ n.value)) a.node_is c.value.ensures.value in
    let same : a.entry.value ≡ c.value.result.now = sym value in
    sym (inv.first ∙ ap (λ l. entry_names_ct c.args.ct (values l)) rest ∙ hits a.entry.value (values a.behind) c.args.ct
    (ap (λ (x : Linked). names x.entry.ct c.args.ct) same ∙ sym c.names.ensures ∙ c.if-names.true))

pub loop-next-preserved : goal.loop-next-preserved
loop-next-preserved g c =
    let xs = c.args.chain.now.entries in
    let inv = c.loop-next.invariant in
    let a = here c.in-Some.place c.loop-next.next xs c.nodes-nodes.result.now.places c.nodes-nodes.ensures.apart
    c.nodes-nodes.ensures.linked c.in-Some.is inv.live in
    let rest : from_place c.loop-next.next xs ≡ a.entry ∷ a.behind = ap (λ o. from_place o xs) c.in-Some.is ∙ a.rest_is in
    let value = subst (λ o. IfSome o (λ n. c.value.result.now ≡ n.value)) a.node_is c.value.ensures.value in
    let same : a.entry.value ≡ c.value.result.now = sym value in
    let links = subst (λ o. IfSome o (λ n. c.links-after.result ≡ (n.before, n.after))) a.node_is c.links-after.ensures.links in
    let next = ap (λ k. k.1) links in
    let then = ap (λ o. from_place o xs) next ∙ a.then in
    record {
      live = next ∙ ap (λ l. first_or l None) (sym then);
      first = inv.first ∙ ap (λ l. entry_names_ct c.args.ct (values l)) rest ∙ passes a.entry.value (values a.behind) c.args.ct
          (ap (λ (x : Linked). names x.entry.ct c.args.ct) same ∙ sym c.names.ensures ∙ c.if-names.false)
          ∙ ap (λ l. entry_names_ct c.args.ct (values l)) (sym then);
      steps = omega (arith, inv.steps, ap length then, ap length rest, c.value.ensures.steps, c.links-after.ensures.steps);
    }

pub loop-next-smaller : goal.loop-next-smaller
loop-next-smaller g c =
    let xs = c.args.chain.now.entries in
    let inv = c.loop-next.invariant in
    let a = here c.in-Some.place c.loop-next.next xs c.nodes-nodes.result.now.places c.nodes-nodes.ensures.apart
    c.nodes-nodes.ensures.linked c.in-Some.is inv.live in
    let rest : from_place c.loop-next.next xs ≡ a.entry ∷ a.behind = ap (λ o. from_place o xs) c.in-Some.is ∙ a.rest_is in
    let value = subst (λ o. IfSome o (λ n. c.value.result.now ≡ n.value)) a.node_is c.value.ensures.value in
    let same : a.entry.value ≡ c.value.result.now = sym value in
    let links = subst (λ o. IfSome o (λ n. c.links-after.result ≡ (n.before, n.after))) a.node_is c.links-after.ensures.links in
    let next = ap (λ k. k.1) links in
    let then = ap (λ o. from_place o xs) next ∙ a.then in
    omega (arith, ap length then, ap length rest)

pub returns-then-names-clause-steps : goal.returns-then-names-clause-steps
returns-then-names-clause-steps g c =
    let xs = c.args.chain.now.entries in
    let inv = c.loop-next.invariant in
    let a = here c.in-Some.place c.loop-next.next xs c.nodes-nodes.result.now.places c.nodes-nodes.ensures.apart
    c.nodes-nodes.ensures.linked c.in-Some.is inv.live in
    let rest : from_place c.loop-next.next xs ≡ a.entry ∷ a.behind = ap (λ o. from_place o xs) c.in-Some.is ∙ a.rest_is in
    omega (arith, inv.steps, ap length rest, c.value.ensures.steps)
