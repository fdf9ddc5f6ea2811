-- What a rank needs is small: starts of cells and areas, and the bytes of the messages that come to it.
use Rattle.std.proofs.Common.{ℕ, zero, suc, Bool, true, false, cond, ◌==◌, ◌+◌, ◌*◌, ◌^◌, ◌≡◌, ◌<◌, ◌≤◌, List, [], ◌∷◌, refl, length}
use Rattle.std.proofs.Common.{filter, get_or, sum_by, ap, ap₂, ◌∙◌, sym, arith, eqb-true}
use Rattle.std.proofs.lemmas.Bool.{ne_eqb}
use Rattle.std.proofs.lemmas.List.Sums.{sum_by-cons}
use Rattle.plan_core.specs.declared.Link.{Link}
use Rattle.plan_core.specs.Plan.{Plan, from_to, link, no_cell, no_link}
use Rattle.plan_core.specs.Places.{cell_length}
use Rattle.plan_core.specs.Sound.{SoundPlan}
use Rattle.plan_core.specs.calls.Calls.{cell_start}
use Rattle.plan_tables.specs.Tables.{IsTabled, rank_of, link_length}
use Rattle.plan_tables.specs.AreaTables.{counted_start, message_key}
use Rattle.plan_tables.proofs.Sums.{at_most-bytes, numbered, start-own, sum-filter_le}

numbered-links : (xs ys : List Link) (k : ℕ) → ((i : ℕ) → get_or ys (k + i) no_link ≡ get_or xs i no_link) →
    sum_by (λ l. (get_or ys l no_link).length) (from_to k (length xs)) ≡ sum_by (λ (x : Link). x.length) xs
numbered-links [] ys k h = refl
numbered-links (x ∷ xs) ys k h =
    sum_by-cons (λ l. (get_or ys l no_link).length) k (from_to (suc k) (length xs))
    ∙ ap₂ (λ a b. a + b) (ap (λ (v : Link). v.length) (ap (λ v. get_or ys v no_link) (let e : k ≡ k + 0 = omega arith in e) ∙ h 0))
    (numbered-links xs ys (suc k) (λ i. ap (λ v. get_or ys v no_link) (let e : suc k + i ≡ k + suc i = omega arith in e) ∙ h (suc i)))
    ∙ sym (sum_by-cons (λ (v : Link). v.length) x xs)

link-bytes : (p : Plan) → sum_by (link_length p) (from_to 0 (length p.links)) ≡ sum_by (λ (x : Link). x.length) p.links
link-bytes p = numbered-links p.links p.links 0 (λ i. ap (λ v. get_or p.links v no_link) (let z : 0 + i ≡ i = omega arith in z))

pub at_most-link_bytes : (p : Plan) → IsTabled p → sum_by (link_length p) (from_to 0 (length p.links)) < 2 ^ 64
at_most-link_bytes p t = let a = link-bytes p in let f = t.few_bytes in omega (arith, a, f)

pub at_most-cell_bytes : (p : Plan) → IsTabled p → sum_by (λ k. k.length) p.cells < 2 ^ 64
at_most-cell_bytes p t = let f = t.few_bytes in omega (arith, f)

pub at_most-sent : (p : Plan) (l : ℕ) → IsTabled p → l < length p.links → cell_start p (link p l).source + (link p l).source_offset < 2 ^ 64
at_most-sent p l t h =
    let c = (link p l).source in
    let a = start-own p c (t.sources l h) in
    let b = at_most-bytes p c (2 ^ 64) (t.sources l h) (at_most-cell_bytes p t) in
    let w = t.within l h in
    omega (arith, a, b, w)

-- ---- the bytes of a rank's areas are bytes of links
sums-same : (f g : ℕ → ℕ) (a n : ℕ) → ((i : ℕ) → a ≤ i → f i ≡ g i) → sum_by f (from_to a n) ≡ sum_by g (from_to a n)
sums-same f g a zero same = refl
sums-same f g a (suc n) same =
    let x = sum_by-cons f a (from_to (suc a) n) in
    let y = sum_by-cons g a (from_to (suc a) n) in
    let u = same a (omega arith) in
    let v = sums-same f g (suc a) n (λ i h. same i (omega (arith, h))) in
    omega (arith, x, y, u, v)

-- one of the sums has x more
one-more : (base k x : ℕ) (g : ℕ → ℕ) (a n : ℕ) → sum_by (λ i. cond (k == base + i) (x + g i) (g i)) (from_to a n) ≤ x + sum_by g
    (from_to a n)
one-more base k x g a zero = omega arith
one-more base k x g a (suc n) = at (k == base + a) refl (one-more base k x g (suc a) n)
  where
    h : ℕ → ℕ
    h i = cond (k == base + i) (x + g i) (g i)

    at : (b : Bool) → (k == base + a) ≡ b → sum_by (λ i. cond (k == base + i) (x + g i) (g i)) (from_to (suc a) n) ≤ x + sum_by g
        (from_to (suc a) n) → sum_by (λ i. cond (k == base + i) (x + g i) (g i)) (a ∷ from_to (suc a) n) ≤ x + sum_by g
        (a ∷ from_to (suc a) n)
    at true e rest =
        let u = sum_by-cons (λ i. cond (k == base + i) (x + g i) (g i)) a (from_to (suc a) n) in
        let v = sum_by-cons g a (from_to (suc a) n) in
        let w = ap (λ b. cond b (x + g a) (g a)) e in
        let q = eqb-true _ _ e in
        let s = sums-same (λ i. cond (k == base + i) (x + g i) (g i)) g (suc a) n
        (λ i l. ap (λ b. cond b (x + g i) (g i)) (ne_eqb k (base + i) (λ z. absurd (omega (arith, q, z, l))))) in
        omega (arith, u, v, w, s)
    at false e rest =
        let u = sum_by-cons (λ i. cond (k == base + i) (x + g i) (g i)) a (from_to (suc a) n) in
        let v = sum_by-cons g a (from_to (suc a) n) in
        let w = ap (λ b. cond b (x + g a) (g a)) e in
        omega (arith, u, v, w, rest)

no-sums : (f : ℕ → ℕ) (a n : ℕ) → sum_by (λ i. sum_by f []) (from_to a n) ≡ 0
no-sums f a zero = refl
no-sums f a (suc n) = let x = sum_by-cons (λ i. sum_by f []) a (from_to (suc a) n) in let y = no-sums f (suc a) n in omega (arith, x, y)

by-key : (key f : ℕ → ℕ) (base : ℕ) (ls : List ℕ) (a n : ℕ) → sum_by (λ i. sum_by f (filter (λ l. key l == base + i) ls)) (from_to a n)
    ≤ sum_by f ls
by-key key f base [] a n = let e = no-sums f a n in omega (arith, e)
by-key key f base (l ∷ ls) a n =
    let s = sums-same (λ i. sum_by f (cond (key l == base + i) (l ∷ filter (λ l. key l == base + i) ls)
    (filter (λ l. key l == base + i) ls))) (λ i. cond (key l == base + i) (f l + sum_by f (filter (λ l. key l == base + i) ls))
    (sum_by f (filter (λ l. key l == base + i) ls))) a n (λ i h. split (key l == base + i) (filter (λ l. key l == base + i) ls)) in
    let m = one-more base (key l) (f l) (λ i. sum_by f (filter (λ l. key l == base + i) ls)) a n in
    let r = by-key key f base ls a n in
    let c = sum_by-cons f l ls in
    omega (arith, s, m, r, c)
  where
    split : (b : Bool) (xs : List ℕ) → sum_by f (cond b (l ∷ xs) xs) ≡ cond b (f l + sum_by f xs) (sum_by f xs)
    split true xs = sum_by-cons f l xs
    split false xs = refl

pub at_most-region : (p : Plan) (r : ℕ) → IsTabled p → counted_start p r 81 < 2 ^ 64
at_most-region p r t =
    let a = by-key (message_key p) (link_length p) (r * 81) (from_to 0 (length p.links)) 0 81 in
    let b = link-bytes p in
    let c = sum-filter_le (λ c. rank_of p c == r) (cell_length p) (from_to 0 (length p.cells)) in
    let d = numbered p.cells p.cells 0 (λ i. ap (λ v. get_or p.cells v no_cell) (let z : 0 + i ≡ i = omega arith in z)) in
    let f = t.few_bytes in
    omega (arith, a, b, c, d, f)

-- ---- a sound plan is within the numbers
pub sound-tabled : (p : Plan) (inputs : ℕ) → SoundPlan p inputs → IsTabled p
sound-tabled p inputs s = record {
  ranks = s.few_ranks;
  ranks_known = s.ranks_known;
  sources = λ l h. let k = s.links_sound l h in let a = k.rising in let b = k.cells in omega (arith, a, b);
  targets = λ l h. (s.links_sound l h).cells;
  within = λ l h. (s.links_sound l h).within_source;
  few_cells = s.few_cells;
  few_together = s.few_together;
  few_bytes = s.few_bytes;
}
