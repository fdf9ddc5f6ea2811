use Rattle.std.proofs.Common.{◌≡◌, ◌+◌, ◌-◌, [], length, get_or, sym, ap, subst, ◌∙◌, arith}
use Rattle.std.specs.Vec.{vec_len}
use Rattle.chain_list.specs.NodeMap.{IsNodes}
use Rattle.chain_list.proofs.NodeLemmas.{IsNodes-grow, IsNodes-none}
use Rattle.chain_list.proofs.nodes.Nodes.with_room.Goals as goal

pub invariant_of-result : goal.invariant_of-result
invariant_of-result g c =
    let old : vec_len c.in-Ok.free ≡ 0 = c.in-Ok.ensures.len in
    let end = c.free_range.new.free in
    let all : c.args.n ≡ 0 + c.args.n = omega arith in
    subst (λ cs. IsNodes cs end) (sym c.in_ok-row.ensures)
    (IsNodes-grow [] c.in-Ok.free end c.args.n (IsNodes-none c.in-Ok.free c.in-Ok.ensures.items) (omega arith)
    (omega (arith, c.free_range.ensures.len, end.ok.0, c.in-Ok.free.ok.0))
    (λ i lt. c.free_range.ensures.kept i (omega (arith, c.in-Ok.free.ok.0)))
    (λ i lt. subst (λ n. get_or end.items (n + i) 0 ≡ c.args.n - 1 - i) (old ∙ sym (ap length c.in-Ok.ensures.items))
    (c.free_range.ensures.added i (omega arith)) ∙ ap (λ n. n - 1 - i) all)
    (omega (arith, c.in-Ok.ensures.exact, c.free_range.ensures.capacity)))
