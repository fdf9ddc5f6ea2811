-- The counts and gates after a step, of which those that it changed were made right.
use Rattle.std.proofs.Common.{ℕ, false, not, ◌*◌, ◌<◌, ◌≡◌, ◌∙◌, List, get_or, length, count_by, nat_lt, if◌then◌else◌, refl, sym, ap, ap₂}
use Rattle.std.proofs.Common.{arith}
use Rattle.std.proofs.Math.ListN.{set, length-set}
use Rattle.std.proofs.lemmas.List.{get_or-set_other}
use Rattle.ptl_types.specs.declared.headers.Lane.{Lane}
use Rattle.ptl_types.specs.declared.headers.Lane.TheVariants.{Request}
use Rattle.pair_wires.specs.Lanes.{Plain}
use Rattle.cuts.specs.histories.History.{is_start}
use Rattle.cuts.specs.windows.Places.{lane_place}
use Rattle.rank_node.specs.Copies.{Diary}
use Rattle.rank_node.specs.Node.{NodeState}
use Rattle.worlds.specs.parts.Keeps.{AreCounted}
use Rattle.worlds.specs.parts.Layout.{no_node, node_at}
use Rattle.worlds.specs.parts.Marks.{delivery_count, firing_count, firing_mark, gated, lane_has, start_count, start_mark}
use Rattle.worlds.proofs.parts.Gated.{gate_right, gated_other, is_gated}
use Rattle.worlds.proofs.parts.Sets.{at_set}

-- node r is another, with the gates that it had
module _ (n : ℕ) (nodes : List NodeState) (lanes : List Plain) (starts deliveries firings : List ℕ) (window : ℕ)
    (k : AreCounted n nodes lanes starts deliveries firings window) (size : length nodes ≡ n)
    (r : ℕ) (hr : r < n) (new : NodeState) (same : new.closed ≡ (node_at nodes r).closed) where
  abbrev news : List NodeState
  news = set nodes r new

  inside_nodes : r < length nodes
  inside_nodes = omega (arith, size, hr)

  other : (q : ℕ) → (q ≡ r → ⊥) → node_at news q ≡ node_at nodes q
  other q x = get_or-set_other nodes r q new no_node x

  closed : (q : ℕ) → (node_at news q).closed ≡ (node_at nodes q).closed
  closed q = at_set (λ (v : NodeState). v.closed ≡ (node_at nodes q).closed) nodes r q new no_node inside_nodes
      (λ e. same ∙ ap (λ t. (node_at nodes t).closed) (sym e)) (λ x. refl)

  -- what the nodes were told last
  pub told_last : (q e : ℕ) → q < n → e < n → get_or (node_at news q).closed e false ≡ not (lane_has lanes n window q e Request)
  told_last q e hq he = ap (λ xs. get_or xs e false) (closed q) ∙ k.gates q e hq he

  firings_size : length (firing_mark news r firings) ≡ n
  firings_size = length-set firings r (firing_count (node_at news r)) ∙ k.wide_firings

  pub firings_right : (q : ℕ) → q < n → get_or (firing_mark news r firings) q 0 ≡ firing_count (node_at news q)
  firings_right q h =
      let w = k.wide_firings in
      at_set (λ x. x ≡ firing_count (node_at news q)) firings r q (firing_count (node_at news r)) 0 (omega (arith, w, hr))
      (λ e. ap (λ t. firing_count (node_at news t)) (sym e)) (λ x. k.of_firings q h ∙ ap firing_count (sym (other q x)))

  starts_right : (q : ℕ) → q < n → get_or (start_mark news r starts) q 0 ≡ start_count (node_at news q)
  starts_right q h =
      let w = k.wide_starts in
      at_set (λ x. x ≡ start_count (node_at news q)) starts r q (start_count (node_at news r)) 0 (omega (arith, w, hr))
      (λ e. ap (λ t. start_count (node_at news t)) (sym e)) (λ x. k.of_starts q h ∙ ap start_count (sym (other q x)))

  -- it started
  pub start_counted : AreCounted n news lanes (start_mark news r starts) deliveries (firing_mark news r firings) window
  start_counted = record {
    wide_starts = length-set starts r (start_count (node_at news r)) ∙ k.wide_starts;
    wide_deliveries = k.wide_deliveries;
    wide_firings = firings_size;
    of_starts = starts_right;
    of_firings = firings_right;
    of_deliveries = k.of_deliveries;
    gates = told_last;
  }

  -- it has started as before
  module _ (count : start_count new ≡ start_count (node_at nodes r)) where
    starts_same : (q : ℕ) → q < n → get_or starts q 0 ≡ start_count (node_at news q)
    starts_same q h = k.of_starts q h ∙ sym (at_set (λ (v : NodeState). start_count v ≡ start_count (node_at nodes q)) nodes r q new
        no_node inside_nodes
        (λ e. count ∙ ap (λ t. start_count (node_at nodes t)) (sym e)) (λ x. refl))

    -- and no lane changed
    pub silent_counted : AreCounted n news lanes starts deliveries (firing_mark news r firings) window
    silent_counted = record {
      wide_starts = k.wide_starts;
      wide_deliveries = k.wide_deliveries;
      wide_firings = firings_size;
      of_starts = starts_same;
      of_firings = firings_right;
      of_deliveries = k.of_deliveries;
      gates = told_last;
    }

    -- or no other request lane came to have room or to have none, and node s was told of that one
    module _ (wide : (q : ℕ) → q < n → length (node_at nodes q).closed ≡ n) (lanes_after : List Plain) (s d : ℕ) (hs : s < n) (hd : d < n)
        (rooms : (q e : ℕ) → q < n → e < n → ((q ≡ s) × (e ≡ d) → ⊥) → lane_has lanes_after n window q e Request ≡ lane_has lanes n window
        q e
        Request) where
      abbrev nodes_after : List NodeState
      nodes_after = gated lanes_after n window s d news

      inside_news : s < length news
      inside_news = let e = length-set nodes r new in omega (arith, e, size, hs)

      starts_gated : (q : ℕ) → q < n → get_or starts q 0 ≡ start_count (node_at nodes_after q)
      starts_gated q h =
          starts_same q h
          ∙ ap (λ (x : Diary). if nat_lt 0 (count_by is_start x.locals) then 0 else 1)
          (sym (is_gated lanes_after n window s d news q inside_news).diary)

      gates_gated : (q e : ℕ) → q < n → e < n → get_or (node_at nodes_after q).closed e false ≡ not (lane_has lanes_after n window q e
          Request)
      gates_gated q e hq he =
          let w = ap length (closed s) ∙ wide s hs in
          gate_right lanes_after n window s d news q e (not (lane_has lanes_after n window q e Request)) inside_news (omega (arith, w, hd))
          (λ i. ap₂ (λ x y. not (lane_has lanes_after n window x y Request)) (sym i.0) (sym i.1))
          (λ x. told_last q e hq he ∙ ap not (sym (rooms q e hq he x)))

      module _ (ds : List ℕ) (sized : length ds ≡ 2 * (n * n))
          (marked : (q u : ℕ) (l : Lane) → q < n → u < n → get_or ds (lane_place n q u l) 0 ≡ delivery_count lanes_after n window q u l)
        where
          -- r is the one that was told
          pub sent_counted : r ≡ s → AreCounted n nodes_after lanes_after starts ds (firing_mark nodes_after s firings) window
          sent_counted is = record {
            wide_starts = k.wide_starts;
            wide_deliveries = sized;
            wide_firings = length-set firings s (firing_count (node_at nodes_after s)) ∙ k.wide_firings;
            of_starts = starts_gated;
            of_firings = λ q h.
                let w = k.wide_firings in
                at_set (λ x. x ≡ firing_count (node_at nodes_after q)) firings s q (firing_count (node_at nodes_after s)) 0 (omega (
                  arith,
                  w,
                  hs,
                ))
                (λ e. ap (λ t. firing_count (node_at nodes_after t)) (sym e))
                (λ x. k.of_firings q h ∙ ap firing_count (sym (gated_other lanes_after n window s d news q x ∙ other q (λ e. x (e ∙ is)))));
            of_deliveries = marked;
            gates = gates_gated;
          }

          -- r may be another
          pub delivered_counted : AreCounted n nodes_after lanes_after starts ds (firing_mark nodes_after s (firing_mark news r firings))
              window
          delivered_counted = record {
            wide_starts = k.wide_starts;
            wide_deliveries = sized;
            wide_firings = length-set (firing_mark news r firings) s (firing_count (node_at nodes_after s)) ∙ firings_size;
            of_starts = starts_gated;
            of_firings = λ q h.
                let w = firings_size in
                at_set (λ x. x ≡ firing_count (node_at nodes_after q)) (firing_mark news r firings) s q (firing_count (node_at nodes_after
                s)) 0
                (omega (arith, w, hs)) (λ e. ap (λ t. firing_count (node_at nodes_after t)) (sym e))
                (λ x. firings_right q h ∙ ap firing_count (sym (gated_other lanes_after n window s d news q x)));
            of_deliveries = marked;
            gates = gates_gated;
          }
