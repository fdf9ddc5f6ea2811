-- Links as the nodes of a linked list: the value of each is its thread.
use Rattle.std.specs.Prelude.{ℕ, zero, suc, List, [], ◌∷◌, Option, Some, None}
use Rattle.chain_list.specs.NodeMap.{Node, node}
use Rattle.chain_list.specs.declared.threads.links.Link.{Link}

-- a neighbour: the place and one, or 0 for none
abbrev pub place_in : ℕ → Option ℕ
place_in zero = None
place_in (suc p) = Some p

abbrev pub node_of : Link → Option (Node ℕ)
node_of l = Some (node l.thread (place_in l.before) (place_in l.after))

abbrev pub nodes_of : List Link → List (Option (Node ℕ))
nodes_of [] = []
nodes_of (l ∷ ls) = node_of l ∷ nodes_of ls
