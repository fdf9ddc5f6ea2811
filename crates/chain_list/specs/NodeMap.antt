-- Nodes as a contract sees them: a map from live places to nodes.
use Rattle.std.specs.Prelude.{◌≡◌, ℕ, ◌+◌, ◌^◌, ◌<◌, ◌≤◌, List, [], ◌++◌, length, replicate, get_or, slice_set, Option, Some, None}
use Rattle.std.specs.Prelude.{is_some, IsSome, vec_capacity, refl}
use Rattle.std.specs.List.{count_by}
use Rattle.std.specs.Coded.{Coded, code_by, coded×, coded_list, coded_option, coded_ℕ}
use Rattle.std.specs.declared.alloc.Global.{Global}
use Rattle.std.specs.declared.vec.Vec.{Vec}

-- a node: its value, and the places of its neighbours
pub record Node (X : Type 0) : Type 0 where
  pub value : X
  pub before : Option ℕ
  pub after : Option ℕ

-- for each place below the size the node that is live there, and how many further nodes can be made
pub record NodeMap (X : Type 0) : Type 0 where
  pub places : List (Option (Node X))
  pub spare : ℕ

module _ {X : Type 0} where
  abbrev pub node_map : List (Option (Node X)) → ℕ → NodeMap X
  node_map places spare = record { places = places; spare = spare }

  abbrev pub node : X → Option ℕ → Option ℕ → Node X
  node value before after = record { value = value; before = before; after = after }

  abbrev pub no_nodes : NodeMap X
  no_nodes = node_map [] 0

  -- the node at a place
  abbrev pub node_at : ℕ → NodeMap X → Option (Node X)
  node_at place m = get_or m.places place None

  abbrev pub IsLive : ℕ → NodeMap X → Type 0
  IsLive place m = IsSome (node_at place m)

  abbrev pub live_count : NodeMap X → ℕ
  live_count m = count_by is_some m.places

  -- with what lies at one place, and the spare number, replaced
  abbrev pub with_node : ℕ → Option (Node X) → ℕ → NodeMap X → NodeMap X
  with_node place x spare m = node_map (slice_set m.places place x) spare

  -- with another node at one place
  abbrev pub renewed : ℕ → Node X → NodeMap X → NodeMap X
  renewed place n m = with_node place (Some n) m.spare m

  -- a node with another value
  abbrev pub valued : X → Option (Node X) → Option (Node X)
  valued value None = None
  valued value (Some n) = Some (node value n.before n.after)

  -- with another value at one place
  abbrev pub with_value : ℕ → X → NodeMap X → NodeMap X
  with_value place value m = node_map (slice_set m.places place (valued value (node_at place m))) m.spare

  -- with k further free places
  abbrev pub grown : ℕ → NodeMap X → NodeMap X
  grown k m = node_map (m.places ++ replicate k None) (m.spare + k)

  -- the free places are listed, each once
  pub record IsNodes (places : List (Option (Node X))) (free : Vec ℕ Global) : Type 0 where
    pub empty : (i : ℕ) → i < length free.items
        → (get_or free.items i 0 < length places) × (get_or places (get_or free.items i 0) None ≡ None)
    pub apart : (i j : ℕ) → i < j → j < length free.items → (get_or free.items i 0 ≡ get_or free.items j 0 → ⊥)
    pub all : length free.items + count_by is_some places ≡ length places
    pub room : length places ≤ vec_capacity free
    pub small : length places < 2 ^ 32

abbrev pub node_code : {X : Type 0} → Coded X → Coded (Node X)
node_code {X} code =
    code_by (X × (Option ℕ × Option ℕ)) (coded× code (coded× (coded_option coded_ℕ) (coded_option coded_ℕ)))
    (λ n. (n.value, (n.before, n.after))) (λ p. node p.0 p.1.0 p.1.1) (λ _. refl)

abbrev pub node_map_code : {X : Type 0} → Coded X → Coded (NodeMap X)
node_map_code {X} code =
    code_by (List (Option (Node X)) × ℕ) (coded× (coded_list (coded_option (node_code code))) coded_ℕ)
    (λ m. (m.places, m.spare)) (λ p. node_map p.0 p.1) (λ _. refl)
