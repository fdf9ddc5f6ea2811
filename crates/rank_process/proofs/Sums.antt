-- The messages of the lanes to a rank, summed up rank by rank.
use Rattle.std.proofs.Common.{ℕ, zero, suc, Bool, true, false, cond, ◌+◌, ◌≡◌, ◌≤◌, ◌<◌, ◌==◌, ◌&&◌, ◌*◌, ◌^◌}
use Rattle.std.proofs.Common.{List, [], ◌∷◌, ◌++◌, refl, sym, ap, ap₂}
use Rattle.std.proofs.Common.{◌∙◌, arith, nat_lt, length, filter, map, sum, count_by, get_or, subst}
use Rattle.std.proofs.Math.Bool.{and-false}
use Rattle.std.proofs.lemmas.Bool.{le-ltb}
use Rattle.std.proofs.lemmas.List.Sums.{count_by-le-length, length-filter, sum_by-append}
use Rattle.ptl_types.specs.declared.headers.Lane.{Lane}
use Rattle.ptl_types.specs.declared.headers.Lane.TheVariants.{Request, Answer}
use Rattle.number_lists.specs.Numbers.{from_to}
use Rattle.plan_core.specs.Plan.{Plan, all_links}
use Rattle.plan_core.proofs.Drawing.{row-more}
use Rattle.plan_core.specs.calls.Areas.{comes_to, links_to}
use Rattle.plan_core.specs.calls.Lanes.{goes_along, lane_links, lane_messages}
use Rattle.plan_core.specs.calls.RankOps.{is_message, sends_of}
use Rattle.plan_tables.specs.Tables.{from_rank, to_rank}
use Rattle.plan_tables.proofs.Passes.{get-row}
use Rattle.cuts.proofs.start.Starting.{length-from_to}
use Rattle.rank_frames.specs.Due.{Dues, due_on, messages_due}
use Rattle.rank_process.specs.Opening.{IsDueTo}
use Rattle.worlds.proofs.tasks.Lanes.{once, once-to}

-- ---- how many pass tests
ones-cons : (t : ℕ → Bool) (x : ℕ) (xs : List ℕ) → length (filter t (x ∷ xs)) ≡ cond (t x) 1 0 + length (filter t xs)
ones-cons t x xs = at (t x)
  where
    at : (b : Bool) → length (cond b (x ∷ filter t xs) (filter t xs)) ≡ cond b 1 0 + length (filter t xs)
    at true = omega arith
    at false = omega arith

parted : (a b c : ℕ → Bool) → ((l : ℕ) → cond (a l) 1 0 + cond (b l) 1 0 ≡ cond (c l) 1 0) → (xs : List ℕ)
    → length (filter a xs) + length (filter b xs) ≡ length (filter c xs)
parted a b c each [] = refl
parted a b c each (x ∷ xs) =
    let p = ones-cons a x xs in
    let q = ones-cons b x xs in
    let r = ones-cons c x xs in
    let e = each x in
    let rest = parted a b c each xs in
    omega (arith, p, q, r, e, rest)

fewer : (t u : ℕ → Bool) (xs : List ℕ) → length (filter (λ l. t l && u l) xs) ≤ length (filter t xs)
fewer t u [] = omega arith
fewer t u (x ∷ xs) =
    let p = ones-cons (λ l. t l && u l) x xs in
    let q = ones-cons t x xs in
    let e = at (t x) (u x) in
    let rest = fewer t u xs in
    omega (arith, p, q, e, rest)
  where
    at : (a b : Bool) → cond (a && b) 1 0 ≤ cond a 1 0
    at true true = omega arith
    at true false = omega arith
    at false b = omega arith

none-below : (t : ℕ → Bool) (key : ℕ → ℕ) (xs : List ℕ) → length (filter (λ l. t l && nat_lt (key l) 0) xs) ≡ 0
none-below t key [] = refl
none-below t key (x ∷ xs) =
    let p = ones-cons (λ l. t l && nat_lt (key l) 0) x xs in
    let e = ap {B = ℕ} (λ b. cond b 1 0) (ap (λ b. t x && b) (le-ltb (key x) 0 (omega arith)) ∙ and-false (t x)) in
    let rest = none-below t key xs in
    omega (arith, p, e, rest)

both-filters : (t u : ℕ → Bool) (xs : List ℕ) → filter t (filter u xs) ≡ filter (λ l. t l && u l) xs
both-filters t u [] = refl
both-filters t u (x ∷ xs) = at (both-filters t u xs) (u x) (t x) refl
  where
    at : filter t (filter u xs) ≡ filter (λ l. t l && u l) xs → (a b : Bool) → t x ≡ b
        → filter t (cond a (x ∷ filter u xs) (filter u xs))
        ≡ cond (b && a) (x ∷ filter (λ l. t l && u l) xs) (filter (λ l. t l && u l) xs)
    at h true true g =
        subst (λ v. cond v (x ∷ filter t (filter u xs)) (filter t (filter u xs)) ≡ x ∷ filter (λ l. t l && u l) xs) (sym g)
        (ap (λ (l : List ℕ). x ∷ l) h)
    at h true false g =
        subst (λ v. cond v (x ∷ filter t (filter u xs)) (filter t (filter u xs)) ≡ filter (λ l. t l && u l) xs) (sym g) h
    at h false true g = h
    at h false false g = h

both-passed : (t u : ℕ → Bool) (xs : List ℕ) → count_by t (filter u xs) ≡ length (filter (λ l. t l && u l) xs)
both-passed t u xs = sym (length-filter t (filter u xs)) ∙ ap (λ (l : List ℕ). length l) (both-filters t u xs)

sum-append : (xs ys : List ℕ) → sum (xs ++ ys) ≡ sum xs + sum ys
sum-append xs ys = sum_by-append (λ (n : ℕ). n) xs ys

-- ---- summed up by a key
-- b k passes what t passes with key k
summed : (t : ℕ → Bool) (key : ℕ → ℕ) (b : ℕ → ℕ → Bool)
    → ((k l : ℕ) → cond (t l && nat_lt (key l) k) 1 0 + cond (b k l) 1 0 ≡ cond (t l && nat_lt (key l) (k + 1)) 1 0) → (xs : List ℕ) (n : ℕ)
    → sum (map (λ k. length (filter (b k) xs)) (from_to 0 n)) ≡ length (filter (λ l. t l && nat_lt (key l) n) xs)
summed t key b each xs zero = sym (none-below t key xs)
summed t key b each xs (suc n) =
    let f : ℕ → ℕ = λ k. length (filter (b k) xs) in
    let step : sum (map f (from_to 0 (n + 1))) ≡ sum (map f (from_to 0 n)) + sum (f n ∷ []) =
    ap sum (row-more f n) ∙ sum-append (map f (from_to 0 n)) (f n ∷ []) in
    let up : suc n ≡ n + 1 = omega arith in
    let before = summed t key b each xs n in
    let more = parted (λ l. t l && nat_lt (key l) n) (b n) (λ l. t l && nat_lt (key l) (n + 1)) (each n) xs in
    subst (λ m. sum (map f (from_to 0 m)) ≡ length (filter (λ l. t l && nat_lt (key l) m) xs)) (sym up)
    (omega (arith, step, before, more))

at_most : (t : ℕ → Bool) (key : ℕ → ℕ) (b : ℕ → ℕ → Bool)
    → ((k l : ℕ) → cond (t l && nat_lt (key l) k) 1 0 + cond (b k l) 1 0 ≡ cond (t l && nat_lt (key l) (k + 1)) 1 0) → (xs : List ℕ) (n : ℕ)
    → sum (map (λ k. length (filter (b k) xs)) (from_to 0 n)) ≤ length (filter t xs)
at_most t key b each xs n =
    let a = summed t key b each xs n in
    let c = fewer t (λ l. nat_lt (key l) n) xs in
    omega (arith, a, c)

-- ---- the lanes of a plan
few-requests : (p : Plan) (r n : ℕ) → sum (map (λ s. lane_messages p s r Request) (from_to 0 n)) ≤ length (links_to p r)
few-requests p r n =
    at_most (comes_to p r) (from_rank p) (λ s. goes_along p s r)
    (λ k l. once-to (is_message p l) (to_rank p l == r) (from_rank p l) k 1) (all_links p) n

once-from : (m u : Bool) (s k : ℕ) → cond ((m && u) && nat_lt s k) 1 0 + cond (m && (u && (s == k))) 1 0 ≡ cond
    ((m && u) && nat_lt s (k + 1)) 1 0
once-from true true s k = once s k 1
once-from true false s k = refl
once-from false u s k = refl

few-answers : (p : Plan) (r n : ℕ) → sum (map (λ s. length (lane_links p r s)) (from_to 0 n)) ≤ sends_of p r
few-answers p r n =
    let a = at_most (λ l. is_message p l && (from_rank p l == r)) (to_rank p) (λ s. goes_along p r s)
    (λ k l. once-from (is_message p l) (from_rank p l == r) (to_rank p l) k) (all_links p) n in
    let b = both-passed (is_message p) (λ l. from_rank p l == r) (all_links p) in
    omega (arith, a, b)

no-sum : (n k : ℕ) → sum (map (λ s. 0) (from_to k n)) ≡ 0
no-sum zero k = refl
no-sum (suc n) k = let e = no-sum n (suc k) in omega (arith, e)

-- so many messages come in a whole run
pub few-due : (p : Plan) (r : ℕ) (d : Dues) → IsDueTo p r d
    → messages_due d ≤ length (links_to p r) + cond p.remote (sends_of p r) 0
few-due p r d is =
    let a = ap sum is.requests in
    let b = ap sum is.answers in
    let q = few-requests p r p.ranks in
    let x = at p.remote in
    omega (arith, a, b, q, x)
  where
    at : (remote : Bool) → sum (map (λ s. cond remote (length (lane_links p r s)) 0) (from_to 0 p.ranks)) ≤ cond remote (sends_of p r) 0
    at true = few-answers p r p.ranks
    at false = let e = no-sum p.ranks 0 in omega (arith, e)

-- each lane has at most as many messages as there are links
pub at_most-lane : (p : Plan) (s d : ℕ) (lane : Lane) → lane_messages p s d lane ≤ length p.links
at_most-lane p s d Request = at_most-links p s d
  where
    at_most-links : (p : Plan) (s d : ℕ) → length (lane_links p s d) ≤ length p.links
    at_most-links p s d =
        let f = length-filter (goes_along p s d) (all_links p) in
        let g = count_by-le-length (goes_along p s d) (all_links p) in
        let k = length-from_to 0 (length p.links) in
        omega (arith, f, g, k)
at_most-lane p s d Answer = at p.remote
  where
    at : (remote : Bool) → cond remote (length (lane_links p d s)) 0 ≤ length p.links
    at true =
        let f = length-filter (goes_along p d s) (all_links p) in
        let g = count_by-le-length (goes_along p d s) (all_links p) in
        let k = length-from_to 0 (length p.links) in
        omega (arith, f, g, k)
    at false = omega arith

-- ---- lane by lane
pub due-lane : (p : Plan) (r : ℕ) (d : Dues) → IsDueTo p r d → (s : ℕ) (lane : Lane) → s < p.ranks
    → due_on d s lane ≡ lane_messages p s r lane
due-lane p r d is s Request h =
    ap (λ (l : List ℕ). get_or l s 0) is.requests ∙ get-row (λ q. lane_messages p q r Request) p.ranks s 0 h
due-lane p r d is s Answer h = ap (λ (l : List ℕ). get_or l s 0) is.answers ∙ get-row (λ q. lane_messages p q r Answer) p.ranks s 0 h

-- ---- summed up so far: the lanes from the first k ranks
pub record Summed (p : Plan) (r k : ℕ) (xs ys : List ℕ) (n : ℕ) : Type 0 where
  pub requests : xs ≡ map (λ s. lane_messages p s r Request) (from_to 0 k)
  pub answers : ys ≡ map (λ s. lane_messages p s r Answer) (from_to 0 k)
  pub messages : n ≡ sum xs + sum ys
  pub few : n ≤ k * 2 ^ 28

pub summed-none : (p : Plan) (r : ℕ) → Summed p r 0 [] [] 0
summed-none p r = record { requests = refl; answers = refl; messages = refl; few = omega arith }

pub summed-more : (p : Plan) (r k x y : ℕ) (xs ys : List ℕ) (n : ℕ) → length p.links < 2 ^ 27 → Summed p r k xs ys n
    → x ≡ lane_messages p k r Request → y ≡ lane_messages p k r Answer → Summed p r (k + 1) (xs ++ x ∷ []) (ys ++ y ∷ []) (n + (x + y))
summed-more p r k x y xs ys n small so ex ey = record {
  requests = ap₂ (λ (l : List ℕ) v. l ++ v ∷ []) so.requests ex ∙ sym (row-more (λ s. lane_messages p s r Request) k);
  answers = ap₂ (λ (l : List ℕ) v. l ++ v ∷ []) so.answers ey ∙ sym (row-more (λ s. lane_messages p s r Answer) k);
  messages =
      let a = sum-append xs (x ∷ []) in
      let b = sum-append ys (y ∷ []) in
      let c = so.messages in
      omega (arith, a, b, c);
  few =
      let a = at_most-lane p k r Request in
      let b = at_most-lane p k r Answer in
      let c = so.few in
      omega (arith, a, b, c, small, ex, ey);
}
