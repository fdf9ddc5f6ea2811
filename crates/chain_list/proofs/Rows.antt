-- What one write to values or links that lie apart makes of the nodes.
use Rattle.std.proofs.Common.{◌≡◌, ℕ, zero, suc, ◌+◌, ◌-◌, ◌<◌, true, List, [], ◌∷◌, ◌++◌, length, get_or, set, replicate, Option, Some}
use Rattle.std.proofs.Common.{None, refl, ap, arith}
use Rattle.std.specs.Option.{is_some}
use Rattle.chain_list.specs.NodeMap.{node}
use Rattle.chain_list.specs.declared.row.Links.{Links}
use Rattle.chain_list.specs.Joined.{no_links, with_links, joined}

module _ {X : Type 0} where
  pub length-joined : (xs : List (Option X)) (ls : List Links) → length (joined xs ls) ≡ length xs
  length-joined [] ls = refl
  length-joined (x ∷ xs) [] = ap (λ n. suc n) (length-joined xs [])
  length-joined (x ∷ xs) (l ∷ ls) = ap (λ n. suc n) (length-joined xs ls)

  pub get-joined : (xs : List (Option X)) (ls : List Links) (i : ℕ) (d : Links) → i < length ls →
      get_or (joined xs ls) i None ≡ with_links (get_or xs i None) (get_or ls i d)
  get-joined [] ls i d lt = refl
  get-joined (x ∷ xs) [] i d lt = absurd (omega arith)
  get-joined (x ∷ xs) (l ∷ ls) zero d lt = refl
  get-joined (x ∷ xs) (l ∷ ls) (suc i) d lt = get-joined xs ls i d (omega arith)

  pub set-joined : (xs : List (Option X)) (ls : List Links) (i : ℕ) (y : Option X) (k : Links) → i < length ls →
      joined (set xs i y) (set ls i k) ≡ set (joined xs ls) i (with_links y k)
  set-joined [] ls i y k lt = refl
  set-joined (x ∷ xs) [] i y k lt = absurd (omega arith)
  set-joined (x ∷ xs) (l ∷ ls) zero y k lt = refl
  set-joined (x ∷ xs) (l ∷ ls) (suc i) y k lt = ap (λ r. with_links x l ∷ r) (set-joined xs ls i y k (omega arith))

  pub set-value : (xs : List (Option X)) (ls : List Links) (i : ℕ) (y : Option X) (d : Links) → i < length ls →
      joined (set xs i y) ls ≡ set (joined xs ls) i (with_links y (get_or ls i d))
  set-value [] ls i y d lt = refl
  set-value (x ∷ xs) [] i y d lt = absurd (omega arith)
  set-value (x ∷ xs) (l ∷ ls) zero y d lt = refl
  set-value (x ∷ xs) (l ∷ ls) (suc i) y d lt = ap (λ r. with_links x l ∷ r) (set-value xs ls i y d (omega arith))

  pub set-links : (xs : List (Option X)) (ls : List Links) (i : ℕ) (k : Links) → i < length ls →
      joined xs (set ls i k) ≡ set (joined xs ls) i (with_links (get_or xs i None) k)
  set-links [] ls i k lt = refl
  set-links (x ∷ xs) [] i k lt = absurd (omega arith)
  set-links (x ∷ xs) (l ∷ ls) zero k lt = refl
  set-links (x ∷ xs) (l ∷ ls) (suc i) k lt = ap (λ r. with_links x l ∷ r) (set-links xs ls i k (omega arith))

  pub joined-none : (n : ℕ) → joined {X = X} (replicate n None) (replicate n no_links) ≡ replicate n None
  joined-none zero = refl
  joined-none (suc n) = ap (λ r. None ∷ r) (joined-none n)

  pub joined-more : (xs : List (Option X)) (ls : List Links) (n : ℕ) → length ls ≡ length xs →
      joined (xs ++ replicate n None) (ls ++ replicate n no_links) ≡ joined xs ls ++ replicate n None
  joined-more [] [] n e = joined-none n
  joined-more [] (l ∷ ls) n e = absurd (omega (arith, e))
  joined-more (x ∷ xs) [] n e = absurd (omega (arith, e))
  joined-more (x ∷ xs) (l ∷ ls) n e = ap (λ r. with_links x l ∷ r) (joined-more xs ls n (omega (arith, e)))

  -- what is known of a place that holds a node
  pub record BufferCells (xs : List (Option X)) (ls : List Links) (i : ℕ) : Type 0 where
    pub value : X
    pub links : Links
    pub value_is : get_or xs i None ≡ Some value
    pub links_is : (d : Links) → get_or ls i d ≡ links
    pub node_is : get_or (joined xs ls) i None ≡ Some (node value links.before links.after)
    pub within : i < length ls

  pub held_at : (xs : List (Option X)) (ls : List Links) (i : ℕ) → length ls ≡ length xs → is_some (get_or (joined xs ls) i None) ≡ true →
      BufferCells xs ls i
  held_at [] ls i e h = cc
  held_at (x ∷ xs) [] i e h = absurd (omega (arith, e))
  held_at (None ∷ xs) (l ∷ ls) zero e h = cc
  held_at (Some v ∷ xs) (l ∷ ls) zero e h = record {
    value = v;
    links = l;
    value_is = refl;
    links_is = λ d. refl;
    node_is = refl;
    within =
        omega arith;
  }
  held_at (x ∷ xs) (l ∷ ls) (suc i) e h =
      let r = held_at xs ls i (omega (arith, e)) h in
      record {
        value = r.value;
        links = r.links;
        value_is = r.value_is;
        links_is = r.links_is;
        node_is = r.node_is;
        within =
            omega (arith, r.within);
      }

  -- a place without a node holds no value
  pub empty_at : (xs : List (Option X)) (ls : List Links) (i : ℕ) → length ls ≡ length xs → get_or (joined xs ls) i None ≡ None →
      get_or xs i None ≡ None
  empty_at [] ls i e h = refl
  empty_at (x ∷ xs) [] i e h = absurd (omega (arith, e))
  empty_at (None ∷ xs) (l ∷ ls) zero e h = refl
  empty_at (Some v ∷ xs) (l ∷ ls) zero e h = cc
  empty_at (x ∷ xs) (l ∷ ls) (suc i) e h = empty_at xs ls i (omega (arith, e)) h
