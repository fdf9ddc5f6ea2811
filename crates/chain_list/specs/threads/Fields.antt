-- What holds of the fields of threads.
use Rattle.std.specs.Prelude.{◌≡◌, ℕ, zero, suc, ◌<◌, List, [], ◌∷◌, map, length, get_or, Option, Some, None}
use Rattle.chain_list.specs.NodeMap.{Node}
use Rattle.chain_list.specs.Chain.{Keyed, keyed, first_or, last_or, Linked, Apart}
use Rattle.chain_list.specs.declared.threads.ends.Ends.{Ends}

-- what the nodes of a thread's places hold: the thread
abbrev pub on : ℕ → List ℕ → List (Keyed ℕ)
on k [] = []
on k (p ∷ ps) = keyed (record { place = p; stamp = 0 }) k ∷ on k ps

abbrev pub after_of : Option (Node ℕ) → Option ℕ
after_of None = None
after_of (Some n) = n.after

-- the places from one on, at most so many of them
abbrev pub places_from : ℕ → List (Option (Node ℕ)) → Option ℕ → List ℕ
places_from zero nodes at = []
places_from (suc n) nodes None = []
places_from (suc n) nodes (Some p) = p ∷ places_from n nodes (after_of (get_or nodes p None))

-- the places of the threads with these ends
abbrev pub threads_of : List (Option (Node ℕ)) → List Ends → List (List ℕ)
threads_of nodes ends = map (λ (e : Ends). places_from (length nodes) nodes e.first) ends

abbrev pub no_ends : Ends
no_ends = record { first = None; last = None }

-- a thread is what the nodes link
pub record IsThread (nodes : List (Option (Node ℕ))) (k : ℕ) (ends : Ends) (ps : List ℕ) : Type 0 where
  pub linked : Linked nodes None (on k ps) None
  pub first_is : ends.first ≡ first_or (on k ps) None
  pub last_is : ends.last ≡ last_or None (on k ps)
  pub apart : Apart (on k ps)

-- each thread is
pub record IsThreads (nodes : List (Option (Node ℕ))) (ends : List Ends) (threads : List (List ℕ)) : Type 0 where
  pub long : length ends ≡ length threads
  pub each : (k : ℕ) → k < length ends → IsThread nodes k (get_or ends k no_ends) (get_or threads k [])

-- what comes after a place by its link, or else the first
abbrev pub next_of : Option ℕ → Option ℕ → List (Option (Node ℕ)) → Option ℕ
next_of None first nodes = first
next_of (Some p) first nodes = after_of (get_or nodes p None)
