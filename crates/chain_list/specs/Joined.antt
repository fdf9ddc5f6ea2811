-- Values and links that lie apart, as one list of nodes.
use Rattle.std.specs.Prelude.{ℕ, List, [], ◌∷◌, Option, Some, None}
use Rattle.chain_list.specs.declared.row.Links.{Links}
use Rattle.chain_list.specs.NodeMap.{Node, node}

abbrev pub links_of : Option ℕ → Option ℕ → Links
links_of before after = record { before = before; after = after }

abbrev pub no_links : Links
no_links = links_of None None

module _ {X : Type 0} where
  -- a value with its links; where there is no value, the links say nothing
  abbrev pub with_links : Option X → Links → Option (Node X)
  with_links None links = None
  with_links (Some value) links = Some (node value links.before links.after)

  abbrev pub joined : List (Option X) → List Links → List (Option (Node X))
  joined [] links = []
  joined (x ∷ xs) [] = None ∷ joined xs []
  joined (x ∷ xs) (l ∷ ls) = with_links x l ∷ joined xs ls
