-- What holds of the fields of a chain.
use Rattle.std.specs.Prelude.{◌≡◌, ℕ, zero, suc, List, [], ◌∷◌, length, get_or, Option, Some, None, is_some}
use Rattle.std.specs.List.{count_by}
use Rattle.chain_list.specs.NodeMap.{Node}
use Rattle.chain_list.specs.NodeMap.{NodeMap}
use Rattle.chain_list.specs.Chain.{Keyed, keyed, first_or, last_or, stamp_at, Linked, Apart}

-- the stamp at a place, 0 where there is none
abbrev pub stamp_or : Option ℕ → ℕ
stamp_or None = 0
stamp_or (Some stamp) = stamp

module _ {X : Type 0} where
  -- the entry of a node, and then the rest from its after-link on
  abbrev pub entry_and : ℕ → Option ℕ → Option (Node X) → (Option ℕ → List (Keyed X)) → List (Keyed X)
  entry_and place stamp None rest = []
  entry_and place stamp (Some n) rest = keyed (record { place = place; stamp = stamp_or stamp }) n.value ∷ rest n.after

  -- the entries from a place on, at most so many of them
  abbrev pub entries_from : ℕ → List (Option (Node X)) → List (Option ℕ) → Option ℕ → List (Keyed X)
  entries_from zero places stamps at = []
  entries_from (suc n) places stamps None = []
  entries_from (suc n) places stamps (Some place) =
      entry_and place (get_or stamps place None) (get_or places place None) (λ next. entries_from n places stamps next)

  -- the list is what the nodes link, and each place knows the stamp of its entry
  pub record IsChain (nodes : NodeMap X) (stamps : List (Option ℕ)) (first last : Option ℕ) (xs : List (Keyed X)) : Type 0 where
    pub linked : Linked nodes.places None xs None
    pub first_is : first ≡ first_or xs None
    pub last_is : last ≡ last_or None xs
    pub apart : Apart xs
    pub stamped : (place : ℕ) → get_or stamps place None ≡ stamp_at place xs
    pub long : length stamps ≡ length nodes.places
    pub count : count_by is_some nodes.places ≡ length xs

  -- the chain's list
  abbrev pub entries_of : NodeMap X → List (Option ℕ) → Option ℕ → List (Keyed X)
  entries_of nodes stamps first = entries_from (length nodes.places) nodes.places stamps first
