-- What one write to a link makes of the nodes.
use Rattle.std.proofs.Common.{◌≡◌, ℕ, zero, suc, ◌+◌, ◌-◌, ◌^◌, ◌<◌, List, [], ◌∷◌, length, get_or, set, replicate, Option, Some, None}
use Rattle.std.proofs.Common.{refl, ap, arith, add-one}
use Rattle.std.specs.Option.{IfSome}
use Rattle.chain_list.specs.declared.threads.links.Link.{Link}
use Rattle.chain_list.specs.threads.Nodes.{place_in, node_of, nodes_of}

pub length-nodes : (ls : List Link) → length (nodes_of ls) ≡ length ls
length-nodes [] = refl
length-nodes (l ∷ ls) = ap (λ n. suc n) (length-nodes ls)

pub get-nodes : (ls : List Link) (i : ℕ) (d : Link) → i < length ls → get_or (nodes_of ls) i None ≡ node_of (get_or ls i d)
get-nodes [] i d lt = absurd (omega arith)
get-nodes (l ∷ ls) zero d lt = refl
get-nodes (l ∷ ls) (suc i) d lt = get-nodes ls i d (omega arith)

pub set-nodes : (ls : List Link) (i : ℕ) (l : Link) → nodes_of (set ls i l) ≡ set (nodes_of ls) i (node_of l)
set-nodes [] i l = refl
set-nodes (k ∷ ls) zero l = refl
set-nodes (k ∷ ls) (suc i) l = ap (λ r. node_of k ∷ r) (set-nodes ls i l)

pub nodes-replicate : (n : ℕ) (l : Link) → nodes_of (replicate n l) ≡ replicate n (node_of l)
nodes-replicate zero l = refl
nodes-replicate (suc n) l = ap (λ r. node_of l ∷ r) (nodes-replicate n l)

-- ---- neighbours as words
pub code-next : (p : ℕ) → place_in (p + 1) ≡ Some p
code-next p = ap place_in (add-one p)

pub place-before : (k : ℕ) → (k ≡ 0 → ⊥) → Some (k - 1) ≡ place_in k
place-before zero n = absurd (n refl)
place-before (suc k) n = ap (λ i. Some i) (let e : suc k - 1 ≡ k = omega arith in e)

pub code-fits : (o : Option ℕ) (n : ℕ) → n < 2 ^ 32 → IfSome o (λ p. p < n) → IfSome o (λ p. p < 2 ^ 32 - 1)
code-fits None n at_most lt = tt
code-fits (Some p) n at_most lt = omega (arith, at_most, lt)
