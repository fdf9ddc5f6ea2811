-- A chain as a contract sees it: the list of its keys and values.
use Rattle.std.specs.Prelude.{◌≡◌, ℕ, Bool, ◌&&◌, nat_eq, List, [], ◌∷◌, get_or, Option, Some, None, if◌then◌else◌, refl}
use Rattle.std.specs.Coded.{Coded, code_by, coded×, coded_list, coded_ℕ}
use Rattle.chain_list.specs.declared.chain.ChainKey.{ChainKey}
use Rattle.chain_list.specs.NodeMap.{Node}
use Rattle.chain_list.specs.NodeMap.{node}

-- a key and its value
pub record Keyed (X : Type 0) : Type 0 where
  pub key : ChainKey
  pub value : X

-- the entries in the order of the list, how many further ones need no memory, and how many keys were given
pub record ChainList (X : Type 0) : Type 0 where
  pub entries : List (Keyed X)
  pub spare : ℕ
  pub given : ℕ

abbrev pub same_key : ChainKey → ChainKey → Bool
same_key a b = nat_eq a.place b.place && nat_eq a.stamp b.stamp

module _ {X : Type 0} where
  abbrev pub chain_list : List (Keyed X) → ℕ → ℕ → ChainList X
  chain_list entries spare given = record { entries = entries; spare = spare; given = given }

  abbrev pub keyed : ChainKey → X → Keyed X
  keyed key value = record { key = key; value = value }

  -- the value of a key
  abbrev pub value_at : ChainKey → List (Keyed X) → Option X
  value_at key [] = None
  value_at key (x ∷ xs) = if same_key x.key key then Some x.value else value_at key xs

  -- the list without a key
  abbrev pub without : ChainKey → List (Keyed X) → List (Keyed X)
  without key [] = []
  without key (x ∷ xs) = if same_key x.key key then without key xs else x ∷ without key xs

  -- another value at a key
  abbrev pub changed : ChainKey → X → List (Keyed X) → List (Keyed X)
  changed key value [] = []
  changed key value (x ∷ xs) = (if same_key x.key key then keyed x.key value else x) ∷ changed key value xs

  -- the key that comes first
  abbrev pub first_key : List (Keyed X) → Option ChainKey
  first_key [] = None
  first_key (x ∷ xs) = Some x.key

  -- the key that comes after a key
  abbrev pub key_after : ChainKey → List (Keyed X) → Option ChainKey
  key_after key [] = None
  key_after key (x ∷ xs) = if same_key x.key key then first_key xs else key_after key xs

  -- the stamp of the entry at a place
  abbrev pub stamp_at : ℕ → List (Keyed X) → Option ℕ
  stamp_at place [] = None
  stamp_at place (x ∷ xs) = if nat_eq x.key.place place then Some x.key.stamp else stamp_at place xs

  -- the place of the first entry, or what comes after the list
  abbrev pub first_or : List (Keyed X) → Option ℕ → Option ℕ
  first_or [] after = after
  first_or (x ∷ xs) after = Some x.key.place

  -- the place of the last entry, or what comes before the list
  abbrev pub last_or : Option ℕ → List (Keyed X) → Option ℕ
  last_or before [] = before
  last_or before (x ∷ xs) = last_or (Some x.key.place) xs

  -- the nodes at the entries' places hold the values, and their links are the neighbours' places: following the after-links
  -- from the first gives the list, and the before-links from the last give it backwards
  abbrev pub Linked : List (Option (Node X)) → Option ℕ → List (Keyed X) → Option ℕ → Type 0
  Linked places before [] after = Unit {0}
  Linked places before (x ∷ xs) after =
      (get_or places x.key.place None ≡ Some (node x.value before (first_or xs after))) × Linked places (Some x.key.place) xs after

  -- no entry lies at the place
  abbrev pub NotAt : ℕ → List (Keyed X) → Type 0
  NotAt place [] = Unit {0}
  NotAt place (x ∷ xs) = (x.key.place ≡ place → ⊥) × NotAt place xs

  -- no two entries lie at one place
  abbrev pub Apart : List (Keyed X) → Type 0
  Apart [] = Unit {0}
  Apart (x ∷ xs) = NotAt x.key.place xs × Apart xs

abbrev pub key_code : Coded ChainKey
key_code =
    code_by (ℕ × ℕ) (coded× coded_ℕ coded_ℕ) (λ k. (k.place, k.stamp))
    (λ p. record { place = p.0; stamp = p.1 }) (λ _. refl)

abbrev pub keyed_code : {X : Type 0} → Coded X → Coded (Keyed X)
keyed_code {X} code = code_by (ChainKey × X) (coded× key_code code) (λ x. (x.key, x.value)) (λ p. keyed p.0 p.1) (λ _. refl)

abbrev pub chain_list_code : {X : Type 0} → Coded X → Coded (ChainList X)
chain_list_code {X} code =
    code_by (List (Keyed X) × (ℕ × ℕ)) (coded× (coded_list (keyed_code code)) (coded× coded_ℕ coded_ℕ))
    (λ c. (c.entries, (c.spare, c.given))) (λ p. chain_list p.0 p.1.0 p.1.1) (λ _. refl)
