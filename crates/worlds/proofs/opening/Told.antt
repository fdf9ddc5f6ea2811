-- Nodes that are told, rank by rank, which of their lanes have room.
use Rattle.std.proofs.Common.{ℕ, Bool, false, not, ◌+◌, ◌*◌, ◌/◌, ◌%◌, ◌<◌, ◌≡◌, ◌∙◌, List, get_or, length, refl, sym, ap, ap₂, subst, inl}
use Rattle.std.proofs.Common.{inr, arith}
use Rattle.std.proofs.Math.ListN.{length-set}
use Rattle.std.proofs.lemmas.Bool.{cases_eq}
use Rattle.std.proofs.lemmas.Nat.{div-add-mod', div_below, mod_below}
use Rattle.ptl_types.specs.declared.headers.Lane.TheVariants.{Request}
use Rattle.pair_wires.specs.Lanes.{Plain}
use Rattle.rank_node.specs.Node.{NodeState, gated_node}
use Rattle.worlds.specs.parts.Layout.{no_node, node_at}
use Rattle.worlds.specs.parts.Marks.{gated, lane_has}
use Rattle.worlds.proofs.parts.Gated.{gate_right, gated_size}
use Rattle.worlds.proofs.parts.Placed.{lane_apart}
use Rattle.worlds.proofs.parts.Sets.{at_set}
use Rattle.worlds.specs.opening.Frames.{IsSameButGates}

pub untold : (x : NodeState) → IsSameButGates x x
untold x = record { same = refl; wide = refl }

pub told_after : (x y z : NodeState) → IsSameButGates x y → IsSameButGates y z → IsSameButGates x z
told_after x y z a b = record {
  same = b.same ∙ ap (λ (k : NodeState). let n : NodeState = record k { closed = z.closed } in n) a.same;
  wide = b.wide ∙ a.wide;
}

one_told : (x : NodeState) (d : ℕ) (b : Bool) → IsSameButGates x (gated_node d b x)
one_told x d b = record { same = refl; wide = length-set x.closed d b }

module _ (lanes : List Plain) (n window s d : ℕ) (nodes : List NodeState) (there : s < length nodes) where
  abbrev shut : Bool
  shut = not (lane_has lanes n window s d Request)

  pub gate_told : (r : ℕ) → IsSameButGates (node_at nodes r) (node_at (gated lanes n window s d nodes) r)
  gate_told r = at_set (IsSameButGates (node_at nodes r)) nodes s r (gated_node d shut (node_at nodes s)) no_node there
      (λ e. subst (λ q. IsSameButGates (node_at nodes q) (gated_node d shut (node_at nodes s))) (sym e) (one_told (node_at nodes s) d shut))
      (λ x. untold (node_at nodes r))

  -- the gates of the pairs before, and this one
  pub gates_more : s < n → d < n → d < length (node_at nodes s).closed
      → ((r e : ℕ) → r < n → e < n → r * n + e < s * n + d →
      get_or (node_at nodes r).closed e false ≡ not (lane_has lanes n window r e Request))
      → (r e : ℕ) → r < n → e < n → r * n + e < s * n + d + 1
      → get_or (node_at (gated lanes n window s d nodes) r).closed e false ≡ not (lane_has lanes n window r e Request)
  gates_more hs hd inside before r e hr he h =
      gate_right lanes n window s d nodes r e (not (lane_has lanes n window r e Request)) there inside
      (λ q. ap₂ (λ x y. not (lane_has lanes n window x y Request)) (sym q.0) (sym q.1))
      (λ x. elim (cases_eq (r * n + e) (s * n + d)) [
        | inl same ↦ (let o = lane_apart n r e Request s d Request he hd (ap (λ k. 2 * k) same) in absurd (x (o.source, o.destination)))
        | inr other ↦ before r e hr he (omega (arith, h, other))
      ])

-- the nodes after the first pairs of ranks
pub record AreGatedTo (n window : ℕ) (lanes : List Plain) (old nodes : List NodeState) (i : ℕ) : Type 0 where
  pub size : length nodes ≡ n
  pub same : (r : ℕ) → IsSameButGates (node_at old r) (node_at nodes r)
  pub gates : (r d : ℕ) → r < n → d < n → r * n + d < i → get_or (node_at nodes r).closed d false ≡ not
      (lane_has lanes n window r d Request)

module _ (n window : ℕ) (lanes : List Plain) (old nodes : List NodeState) (i : ℕ) (some : 0 < n) (h : i < n * n)
    (wide : (r : ℕ) → r < n → length (node_at old r).closed ≡ n) (before : AreGatedTo n window lanes old nodes i) where
  -- the ranks of the pair
  pub source_in : i / n < n
  source_in = div_below i n n some h

  pub destination_in : i % n < n
  destination_in = mod_below i n some

  pub told_inside : i % n < length (node_at nodes (i / n)).closed
  told_inside =
      let a = (before.same (i / n)).wide in
      let b = wide (i / n) source_in in
      let c = destination_in in
      omega (arith, a, b, c)

  there_in : i / n < length nodes
  there_in = let a = before.size in let b = source_in in omega (arith, a, b)

  pub told_more : AreGatedTo n window lanes old (gated lanes n window (i / n) (i % n) nodes) (i + 1)
  told_more = record {
    size = gated_size lanes n window (i / n) (i % n) nodes ∙ before.size;
    same = λ r. told_after (node_at old r) (node_at nodes r) (node_at (gated lanes n window (i / n) (i % n) nodes) r) (before.same r)
        (gate_told lanes n window (i / n) (i % n) nodes there_in r);
    gates = λ r d hr hd k.
        let p = div-add-mod' i n in
        gates_more lanes n window (i / n) (i % n) nodes there_in source_in destination_in told_inside
        (λ q e hq he l. before.gates q e hq he (omega (arith, l, p))) r d hr hd (omega (arith, k, p));
  }
