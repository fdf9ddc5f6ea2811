use Rattle.std.proofs.Common.{◌≡◌, ◌+◌, ◌-◌, ◌^◌, ◌<◌, length, get_or, sym, ap, subst, ◌∙◌, arith}
use Rattle.std.specs.Vec.{vec_len}
use Rattle.chain_list.specs.NodeMap.{IsNodes}
use Rattle.chain_list.proofs.NodeLemmas.{IsNodes-grow}
use Rattle.chain_list.proofs.nodes.Nodes.grow.Goals as goal

pub invariant_of-self-2 : goal.invariant_of-self-2
invariant_of-self-2 g c =
    let cs = c.self.inside.row in
    let free = c.self.inside.free in
    let mid = c.reserve.new.self in
    let end = c.free_range.new.free in
    let k = c.args.more in
    let old : vec_len mid ≡ length free.items = omega (arith, c.reserve.ensures.len, free.ok.0) in
    subst (λ ds. IsNodes ds end) (sym c.in_ok-grow.ensures.ok)
    (IsNodes-grow cs free end k c.self.invariant (subst (λ m. length m.places + k < 2 ^ 32) (sym c.self.view_is) c.requires)
    (omega (arith, c.free_range.ensures.len, end.ok.0, old))
    (λ i lt. c.free_range.ensures.kept i (omega (arith, old)) ∙ ap (λ xs. get_or xs i 0) c.reserve.ensures.items)
    (λ i lt. subst (λ n. get_or end.items (n + i) 0 ≡ length cs + k - 1 - i) old
    (rw (← c.len-size.ensures) (c.free_range.ensures.added i (omega arith))))
    (omega (arith, c.in-Ok.ensures.ok, c.free_range.ensures.capacity, old, c.len.ensures, c.len-size.ensures, free.ok.0)))
