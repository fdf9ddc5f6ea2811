-- Nodes that were told which of their lanes have room.
use Rattle.std.proofs.Common.{ℕ, Bool, false, not, ◌<◌, ◌≡◌, ◌∙◌, List, get_or, length, refl, sym, ap, ap₂, subst}
use Rattle.std.proofs.Math.ListN.{set, length-set}
use Rattle.std.proofs.Math.Path.{fun_ext}
use Rattle.std.proofs.lemmas.List.{get_or-set_other, set-get_or}
use Rattle.ptl_types.specs.declared.headers.Lane.{Lane}
use Rattle.ptl_types.specs.declared.headers.Lane.TheVariants.{Request}
use Rattle.pair_wires.specs.Lanes.{Plain}
use Rattle.cuts.specs.histories.Moment.{Lanes}
use Rattle.cuts.specs.histories.System.{Histories}
use Rattle.cuts.specs.orders.Chosen.{Scene}
use Rattle.rank_node.proofs.Nodes.{gated-is}
use Rattle.rank_node.specs.Copies.{Diary}
use Rattle.rank_node.specs.Node.{IsNode, NodeState, gated_node}
use Rattle.worlds.specs.parts.Layout.{held_in, no_node, node_at, scene_of}
use Rattle.worlds.specs.parts.Marks.{firing_count, firing_mark, gated, lane_has}
use Rattle.worlds.proofs.parts.Sets.{at_set}

-- a node after a gate
pub record IsGated (old new : NodeState) : Type 0 where
  pub task : new.task ≡ old.task
  pub kept : new.kept ≡ old.kept
  pub diary : new.diary ≡ old.diary
  pub nic : new.nic ≡ old.nic
  pub strays : new.strays ≡ old.strays
  pub wide : length new.closed ≡ length old.closed
  pub node : IsNode old → IsNode new

pub same_gates : (x : NodeState) → IsGated x x
same_gates x = record { task = refl; kept = refl; diary = refl; nic = refl; strays = refl; wide = refl; node = λ k. k }

pub gates_after : (x y z : NodeState) → IsGated x y → IsGated y z → IsGated x z
gates_after x y z a b = record {
  task = b.task ∙ a.task;
  kept = b.kept ∙ a.kept;
  diary = b.diary ∙ a.diary;
  nic = b.nic ∙ a.nic;
  strays = b.strays ∙ a.strays;
  wide = b.wide ∙ a.wide;
  node = λ k. b.node (a.node k);
}

one_gate : (x : NodeState) (d : ℕ) (b : Bool) → IsGated x (gated_node d b x)
one_gate x d b = record {
  task = refl;
  kept = refl;
  diary = refl;
  nic = refl;
  strays = refl;
  wide = length-set x.closed d b;
  node =
      gated-is x d b;
}

module _ (lanes : List Plain) (n window s d : ℕ) (nodes : List NodeState) where
  abbrev shut : Bool
  shut = not (lane_has lanes n window s d Request)

  abbrev gate : NodeState
  gate = gated_node d (not (lane_has lanes n window s d Request)) (node_at nodes s)

  pub gated_size : length (gated lanes n window s d nodes) ≡ length nodes
  gated_size = length-set nodes s gate

  pub is_gated : (r : ℕ) → s < length nodes → IsGated (node_at nodes r) (node_at (gated lanes n window s d nodes) r)
  is_gated r h = at_set (IsGated (node_at nodes r)) nodes s r gate no_node h
      (λ e. subst (λ q. IsGated (node_at nodes q) gate) (sym e) (one_gate (node_at nodes s) d (not (lane_has lanes n window s d Request))))
      (λ x. same_gates (node_at nodes r))

  -- the others are as they were
  pub gated_other : (r : ℕ) → (r ≡ s → ⊥) → node_at (gated lanes n window s d nodes) r ≡ node_at nodes r
  gated_other r x = get_or-set_other nodes s r gate no_node x

  -- whether a lane is closed
  pub gate_right : (r e : ℕ) (v : Bool) → s < length nodes → d < length (node_at nodes s).closed
      → ((r ≡ s) × (e ≡ d) → not (lane_has lanes n window s d Request) ≡ v) →
      (((r ≡ s) × (e ≡ d) → ⊥) → get_or (node_at nodes r).closed e false ≡ v)
      → get_or (node_at (gated lanes n window s d nodes) r).closed e false ≡ v
  gate_right r e v h i right rest = at_set (λ (k : NodeState). get_or k.closed e false ≡ v) nodes s r gate no_node h
      (λ a. at_set (λ c. c ≡ v) (node_at nodes s).closed d e (not (lane_has lanes n window s d Request)) false i (λ b. right (a, b))
      (λ y. subst (λ q. get_or (node_at nodes q).closed e false ≡ v) a (rest (λ z. y z.1))))
      (λ x. rest (λ y. x y.0))

-- a node that is told what it was told last is as it was
pub told_same : (lanes : List Plain) (n window s d : ℕ) (nodes : List NodeState) (had : Bool)
    → get_or (node_at nodes s).closed d false ≡ not had → lane_has lanes n window s d Request ≡ had
    → gated lanes n window s d nodes ≡ nodes
told_same lanes n window s d nodes had told has =
    ap (λ b. set nodes s (gated_node d (not b) (node_at nodes s))) has
    ∙ ap (λ b. set nodes s (gated_node d b (node_at nodes s))) (sym told)
    ∙ ap (λ cs. set nodes s (record (node_at nodes s) { closed = cs })) (set-get_or (node_at nodes s).closed d false)
    ∙ set-get_or nodes s no_node

-- and a count that is right stays
pub right_same : (nodes : List NodeState) (r : ℕ) (firings : List ℕ) → get_or firings r 0 ≡ firing_count (node_at nodes r)
    → firing_mark nodes r firings ≡ firings
right_same nodes r firings right = ap (set firings r) (sym right) ∙ set-get_or firings r 0

-- histories and lanes are a scene
pub scene_by : (w v : Histories) (a b : Lanes) → ((r : ℕ) → w r ≡ v r) → ((s d : ℕ) (lane : Lane) → a s d lane ≡ b s d lane) →
    (let x : Scene = record { world = w; held = a } in x) ≡ (let y : Scene = record { world = v; held = b } in y)
scene_by w v a b f g = ap₂ (λ x y. let z : Scene = record { world = x; held = y } in z) (fun_ext f)
    (fun_ext (λ s. fun_ext (λ d. fun_ext (g s d))))

-- gates are no part of it
pub scene_gated : (n : ℕ) (nodes news : List NodeState) (lanes : List Plain) → ((r : ℕ) → IsGated (node_at nodes r) (node_at news r)) →
    scene_of n news lanes ≡ scene_of n nodes lanes
scene_gated n nodes news lanes h = scene_by (λ r. (node_at news r).diary.locals) (λ r. (node_at nodes r).diary.locals) (held_in n lanes)
    (held_in n lanes) (λ r. ap (λ (d : Diary). d.locals) (h r).diary) (λ s d lane. refl)
