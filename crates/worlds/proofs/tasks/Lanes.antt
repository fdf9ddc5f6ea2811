-- The bytes of the messages to a rank, summed up rank by rank that they come from.
use Rattle.std.proofs.Common.{ℕ, Bool, true, false, cond, ◌+◌, ◌^◌, ◌≡◌, ◌<◌, ◌==◌, ◌&&◌, List, [], ◌∷◌, refl, length, filter, sum_by, ap}
use Rattle.std.proofs.Common.{◌∙◌, arith, nat_lt, eqb-true}
use Rattle.std.proofs.Math.Bool.{and-true, and-false}
use Rattle.std.proofs.lemmas.Bool.{le-ltb, lt-ltb, ltb-true, ltb-false, eqb-false, ne_eqb}
use Rattle.std.proofs.lemmas.List.Sums.{count_by-le-length, length-filter, sum_by-cons}
use Rattle.plan_core.specs.Plan.{Plan, all_links}
use Rattle.plan_core.specs.Sound.{SoundPlan}
use Rattle.plan_core.specs.calls.Areas.{comes_to, links_to}
use Rattle.plan_core.specs.calls.Lanes.{goes_along, lane_bytes}
use Rattle.plan_core.specs.calls.RankOps.{is_message, sends_of}
use Rattle.cuts.proofs.start.Starting.{length-from_to}
use Rattle.cuts.proofs.histories.Told.{count-out-le}
use Rattle.plan_tables.specs.Tables.{from_rank, link_length, to_rank}
use Rattle.plan_tables.proofs.ByClass.{filter-alike}
use Rattle.plan_tables.proofs.Room.{at_most-link_bytes, sound-tabled}
use Rattle.plan_tables.proofs.Sums.{sum-filter_le}

-- a message comes to r along the link, from a rank below k
abbrev pub from_below : Plan → ℕ → ℕ → ℕ → Bool
from_below p r k l = comes_to p r l && nat_lt (from_rank p l) k

-- the bytes of these messages
abbrev pub bytes_below : Plan → ℕ → ℕ → ℕ
bytes_below p r k = sum_by (link_length p) (filter (from_below p r k) (all_links p))

-- ---- a sum over those that pass one of two tests, where none passes both
counted : (t : ℕ → Bool) (f : ℕ → ℕ) (x : ℕ) (xs : List ℕ) → sum_by f (filter t (x ∷ xs)) ≡ cond (t x) (f x) 0 + sum_by f (filter t xs)
counted t f x xs = at (t x)
  where
    at : (b : Bool) → sum_by f (cond b (x ∷ filter t xs) (filter t xs)) ≡ cond b (f x) 0 + sum_by f (filter t xs)
    at true = sum_by-cons f x (filter t xs)
    at false = omega arith

pub sum-parted : (t u v : ℕ → Bool) (f : ℕ → ℕ) → ((i : ℕ) → cond (t i) (f i) 0 + cond (u i) (f i) 0 ≡ cond (v i) (f i) 0) → (xs : List ℕ) →
    sum_by f (filter t xs) + sum_by f (filter u xs) ≡ sum_by f (filter v xs)
sum-parted t u v f parted [] = refl
sum-parted t u v f parted (x ∷ xs) =
    let a = counted t f x xs in
    let b = counted u f x xs in
    let c = counted v f x xs in
    let s = parted x in
    let rest = sum-parted t u v f parted xs in
    omega (arith, a, b, c, s, rest)

-- ---- one rank more
-- a link from rank s counts once: below k, or at k
pub once : (s k n : ℕ) → cond (nat_lt s k) n 0 + cond (s == k) n 0 ≡ cond (nat_lt s (k + 1)) n 0
once s k n = at (nat_lt s k) refl (s == k) refl
  where
    at : (a : Bool) → nat_lt s k ≡ a → (b : Bool) → (s == k) ≡ b → cond (nat_lt s k) n 0 + cond (s == k) n 0 ≡ cond (nat_lt s (k + 1)) n 0
    at true e b f =
        let lt = ltb-true _ _ e in
        let x = ap (λ v. cond v n 0) e in
        let y = ap (λ v. cond v n 0) (ne_eqb s k (λ z. omega (arith, lt, z))) in
        let w = ap (λ v. cond v n 0) (lt-ltb s (k + 1) (omega (arith, lt))) in
        omega (arith, x, y, w)
    at false e true f =
        let z = eqb-true _ _ f in
        let x = ap (λ v. cond v n 0) e in
        let y = ap (λ v. cond v n 0) f in
        let w = ap (λ v. cond v n 0) (lt-ltb s (k + 1) (omega (arith, z))) in
        omega (arith, x, y, w)
    at false e false f =
        let le = ltb-false _ _ e in
        let ne = eqb-false s k f in
        let x = ap (λ v. cond v n 0) e in
        let y = ap (λ v. cond v n 0) f in
        let w = ap (λ v. cond v n 0) (le-ltb s (k + 1) (omega (arith, le, ne))) in
        omega (arith, x, y, w)

-- and so does a link that carries a message to r; others count nowhere
pub once-to : (m t : Bool) (s k n : ℕ) → cond ((m && t) && nat_lt s k) n 0 + cond (m && ((s == k) && t)) n 0 ≡ cond
    ((m && t) && nat_lt s (k + 1)) n 0
once-to false t s k n = refl
once-to true true s k n = ap (λ b. cond (nat_lt s k) n 0 + cond b n 0) (and-true (s == k)) ∙ once s k n
once-to true false s k n = ap (λ b. 0 + cond b n 0) (and-false (s == k))

pub more-bytes : (p : Plan) (r k : ℕ) → bytes_below p r k + lane_bytes p k r ≡ bytes_below p r (k + 1)
more-bytes p r k =
    sum-parted (from_below p r k) (goes_along p k r) (from_below p r (k + 1)) (link_length p)
    (λ l. once-to (is_message p l) (to_rank p l == r) (from_rank p l) k (link_length p l)) (all_links p)

-- ---- none come from below rank 0, and all from below the number of ranks
pub no-bytes : (p : Plan) (r : ℕ) → bytes_below p r 0 ≡ 0
no-bytes p r = none (all_links p)
  where
    none : (xs : List ℕ) → sum_by (link_length p) (filter (from_below p r 0) xs) ≡ 0
    none [] = refl
    none (x ∷ xs) =
        let a = counted (from_below p r 0) (link_length p) x xs in
        let b = ap (λ v. cond v (link_length p x) 0) (ap (λ v. comes_to p r x && v) (le-ltb (from_rank p x) 0 (omega arith))
        ∙ and-false (comes_to p r x)) in
        let rest = none xs in
        omega (arith, a, b, rest)

pub all-bytes : (p : Plan) (inputs r : ℕ) → SoundPlan p inputs → bytes_below p r p.ranks ≡ sum_by (link_length p) (links_to p r)
all-bytes p inputs r sound =
    let t = sound-tabled p inputs sound in
    ap (sum_by (link_length p))
    (filter-alike (from_below p r p.ranks) (comes_to p r) 0 (length p.links)
    (λ l h. ap (λ v. comes_to p r l && v) (lt-ltb _ _ (t.ranks_known _ (t.sources l (omega (arith, h))))) ∙ and-true (comes_to p r l)))

-- ---- they are few
pub at_most-bytes_below : (p : Plan) (inputs r k : ℕ) → SoundPlan p inputs → bytes_below p r k < 2 ^ 64
at_most-bytes_below p inputs r k sound =
    let a = sum-filter_le (from_below p r k) (link_length p) (all_links p) in
    let b = at_most-link_bytes p (sound-tabled p inputs sound) in
    omega (arith, a, b)

-- ---- and so are the messages
pub at_most-messages : (p : Plan) (inputs r : ℕ) → SoundPlan p inputs → length (links_to p r) + cond p.remote (sends_of p r) 0 < 2 ^ 33
at_most-messages p inputs r sound = at p.remote
  where
    at : (b : Bool) → length (links_to p r) + cond b (sends_of p r) 0 < 2 ^ 33
    at true = let f = length-filter (comes_to p r) (all_links p) in let g = count_by-le-length (comes_to p r) (all_links p) in let k =
        length-from_to 0 (length p.links) in let s = count-out-le p r in let at_most = sound.few_together in
        omega (arith, f, g, k, s, at_most)
    at false = let f = length-filter (comes_to p r) (all_links p) in let g = count_by-le-length (comes_to p r) (all_links p) in let k =
        length-from_to 0 (length p.links) in let at_most = sound.few_together in omega (arith, f, g, k, at_most)
