-- The calls of the ranks of a plan, counted: what is told of a rank is what its calls make, and what all ranks' operations send to it.
use Rattle.std.proofs.Common.{ℕ, zero, suc, Bool, true, false, cond, not, ◌&&◌, ◌==◌, nat_lt, ◌+◌, ◌≡◌, ◌<◌, ◌≤◌, List, [], ◌∷◌, ◌++◌}
use Rattle.std.proofs.Common.{length, map, max, filter, flat_map, sum_by, get_or, refl, ap, ap₂, ◌∙◌, sym, subst, arith, inl, inr}
use Rattle.std.proofs.Common.{length-append}
use Rattle.std.specs.Prelude.{count_by}
use Rattle.std.proofs.Math.Bool.{and-true, and-false}
use Rattle.std.proofs.lemmas.Bool.{le-ltb, lt-ltb}
use Rattle.std.proofs.lemmas.List.Concat.{length-flat_map}
use Rattle.std.proofs.lemmas.List.Sums.{sum_by-append, sum_by-cons}
use Rattle.ptl_types.specs.declared.calls.Limits.{Limits}
use Rattle.ptl_types.specs.declared.headers.Lane.TheVariants.{Request}
use Rattle.ptl_types.specs.declared.steps.PlannedOp.{PlannedOp}
use Rattle.ptl_types.specs.declared.steps.PlannedOp.TheVariants.{BumpCell}
use Rattle.ptl_types.specs.declared.steps.Call.{Call}
use Rattle.ptl_types.specs.declared.steps.Call.TheVariants.{PtAlloc, CtDone, CtCell, MdBind}
use Rattle.number_lists.specs.Members.{In}
use Rattle.number_lists.specs.Numbers.{from_to}
use Rattle.plan_core.specs.Plan.{Plan, all_links, cell, is_bump, link, out_links, own}
use Rattle.plan_core.specs.Sound.{AreInputsOf, SoundPlan}
use Rattle.plan_core.specs.Values.{Inputs, initial}
use Rattle.plan_core.specs.declared.LinkKind.{LinkKind}
use Rattle.plan_core.specs.declared.LinkKind.TheVariants.{Put, Atomic, Bump}
use Rattle.plan_core.specs.calls.Areas.{area_length, areas_length, blank_area, blank_areas, classes, comes_to, initial_region, links_to}
use Rattle.plan_core.specs.calls.Areas.{longest, region_length}
use Rattle.plan_core.specs.calls.Calls.{area_call, own_cell, prepare_calls, send_act, trigger}
use Rattle.plan_core.specs.calls.Lanes.{goes_along, lane_bytes, lane_links, lane_messages}
use Rattle.plan_core.specs.calls.RankOps.{RankOp, is_message, rank_ops}
use Rattle.plan_core.specs.calls.RankOps.RankOp.{ForDone, ForLink}
use Rattle.plan_core.proofs.Growth.{filter-none}
use Rattle.plan_core.proofs.Links.{out_links-In, own-In}
use Rattle.plan_core.proofs.Lists.{count-cons, length-map'}
use Rattle.plan_core.proofs.Values.{length-initial}
use Rattle.plan_tables.specs.Tables.{from_rank, to_rank}
use Rattle.plan_tables.proofs.Assembling.{rank_ops-apart}
use Rattle.plan_tables.proofs.ByClass.{filter-alike}
use Rattle.plan_tables.proofs.Passes.{get-row}
use Rattle.plan_tables.proofs.Room.{sound-tabled}
use Rattle.plan_costs.proofs.Sums.{same_sum}
use Rattle.cuts.specs.histories.Cut.{IsCut}
use Rattle.cuts.specs.histories.Lanes.{bytes_in}
use Rattle.cuts.specs.histories.Plans.{start_of, system_of}
use Rattle.cuts.specs.histories.System.{Histories, sent_by}
use Rattle.cuts.specs.view.Calls.{prepare}
use Rattle.cuts.specs.view.Slots.{Slots}
use Rattle.cuts.proofs.histories.FromCut.{prepared_of}
use Rattle.cuts.proofs.histories.LaneRequests.{few_bytes, few_messages}
use Rattle.cuts.proofs.start.Areas.{length-blank, length-links}
use Rattle.cuts.proofs.start.Starting.{flat-length}
use Rattle.cuts.proofs.start.Unrefused.{length-rank_ops}
use Rattle.rank_node.specs.Node.{Task}
use Rattle.rank_node.specs.Plans.{IsCompiledFor}
use Rattle.worlds.proofs.tasks.Lanes.{from_below, once-to, sum-parted}
use Rattle.plan_words.specs.Installing.{AreCompiled, AreInstalled, AreTaken, IsNeverPassed, IsOpenedFor, between, bytes_to, is_counting}
use Rattle.plan_words.specs.Installing.{is_descriptor, is_entry, is_triggered, longest_of, messages_to, posts_bytes, posts_to, sends_bytes}
use Rattle.plan_words.specs.Installing.{request_bytes_to, requests_to, sends_to}
use Rattle.plan_words.specs.Takes.{takes_of, to_other}
use Rattle.plan_words.specs.declared.takes.Takes.{Takes}
use Rattle.plan_words.proofs.Sums.{sum-more}

-- ---- sums over lists

count-sum : {X : Type 0} (f : X → Bool) (xs : List X) → count_by f xs ≡ sum_by (λ x. cond (f x) 1 0) xs
count-sum f [] = refl
count-sum f (x ∷ xs) =
    count-cons f x xs ∙ ap (λ n. cond (f x) 1 0 + n) (count-sum f xs) ∙ sym (sum_by-cons (λ x. cond (f x) 1 0) x xs)

zeros : {X Y : Type 0} (w : Y → ℕ) (g : X → Y) → ((x : X) → w (g x) ≡ 0) → (xs : List X) → sum_by w (map g xs) ≡ 0
zeros w g each [] = refl
zeros w g each (x ∷ xs) = sum_by-cons w (g x) (map g xs) ∙ ap₂ (λ a b. a + b) (each x) (zeros w g each xs)

ones : {X Y : Type 0} (w : Y → ℕ) (g : X → Y) → ((x : X) → w (g x) ≡ 1) → (xs : List X) → sum_by w (map g xs) ≡ length xs
ones w g each [] = refl
ones w g each (x ∷ xs) =
    let a = sum_by-cons w (g x) (map g xs) in
    let b = each x in
    let rest = ones w g each xs in
    omega (arith, a, b, rest)

sum-alike : {X : Type 0} (f g : X → ℕ) → ((x : X) → f x ≡ g x) → (xs : List X) → sum_by f xs ≡ sum_by g xs
sum-alike f g same [] = refl
sum-alike f g same (x ∷ xs) =
    sum_by-cons f x xs ∙ ap₂ (λ a b. a + b) (same x) (sum-alike f g same xs) ∙ sym (sum_by-cons g x xs)

each-one : (xs : List ℕ) → sum_by (λ x. 1) xs ≡ length xs
each-one [] = refl
each-one (x ∷ xs) = let a = sum_by-cons (λ x. 1) x xs in let rest = each-one xs in omega (arith, a, rest)

sum-within : (f g : ℕ → ℕ) (k n : ℕ) → ((j : ℕ) → j < k + n → f j ≤ g j) → sum_by f (from_to k n) ≤ sum_by g (from_to k n)
sum-within f g k zero less = omega arith
sum-within f g k (suc n) less =
    let a = sum_by-cons f k (from_to (suc k) n) in
    let b = sum_by-cons g k (from_to (suc k) n) in
    let first = less k (omega arith) in
    let rest = sum-within f g (suc k) n (λ j h. less j (omega (arith, h))) in
    omega (arith, a, b, first, rest)

-- ---- the parts of a preparation

parted : (w : Call → ℕ) (p : Plan) (r : ℕ) → sum_by w (prepare_calls p r) ≡ w PtAlloc + (sum_by w (map (area_call p r) (classes p r))
    + (w CtDone + (sum_by w (map CtCell (own p r)) + (w (MdBind (region_length p r + areas_length p r) p.remote)
    + (sum_by w (map (λ l. trigger p (ForLink l)) (out_links p r)) + sum_by w (map (λ c. trigger p (ForDone c)) (own p r)))))))
parted w p r =
    let ops : List Call = map (trigger p) (rank_ops p r) in
    let bound : List Call = MdBind (region_length p r + areas_length p r) p.remote ∷ ops in
    let counters : List Call = CtDone ∷ (map CtCell (own p r) ++ bound) in
    let a = sum_by-cons w PtAlloc (map (area_call p r) (classes p r) ++ counters) in
    let b = sum_by-append w (map (area_call p r) (classes p r)) counters in
    let d = sum_by-cons w CtDone (map CtCell (own p r) ++ bound) in
    let e = sum_by-append w (map CtCell (own p r)) bound in
    let f = sum_by-cons w (MdBind (region_length p r + areas_length p r) p.remote) ops in
    let g = ap (sum_by w) (rank_ops-apart p r)
    ∙ sum_by-append w (map (λ l. trigger p (ForLink l)) (out_links p r)) (map (λ c. trigger p (ForDone c)) (own p r)) in
    omega (arith, a, b, d, e, f, g)

-- ---- what the calls make

abbrev one_if : (Call → Bool) → Call → ℕ
one_if f call = cond (f call) 1 0

triggered-count : (p : Plan) (r : ℕ) → count_by is_triggered (prepare_calls p r) ≡ length (out_links p r) + length (own p r)
triggered-count p r =
    let w : Call → ℕ = one_if is_triggered in
    let s = count-sum is_triggered (prepare_calls p r) in
    let q = parted w p r in
    let a = zeros w (area_call p r) (λ k. refl) (classes p r) in
    let b = zeros w CtCell (λ k. refl) (own p r) in
    let d = ones w (λ l. trigger p (ForLink l)) (λ l. refl) (out_links p r) in
    let e = ones w (λ c. trigger p (ForDone c)) (λ c. refl) (own p r) in
    omega (arith, s, q, a, b, d, e)

counting-count : (p : Plan) (r : ℕ) → count_by is_counting (prepare_calls p r) ≡ length (own p r) + 1
counting-count p r =
    let w : Call → ℕ = one_if is_counting in
    let s = count-sum is_counting (prepare_calls p r) in
    let q = parted w p r in
    let a = zeros w (area_call p r) (λ k. refl) (classes p r) in
    let b = ones w CtCell (λ k. refl) (own p r) in
    let d = zeros w (λ l. trigger p (ForLink l)) (λ l. refl) (out_links p r) in
    let e = zeros w (λ c. trigger p (ForDone c)) (λ c. refl) (own p r) in
    omega (arith, s, q, a, b, d, e)

entry-count : (p : Plan) (r : ℕ) → count_by is_entry (prepare_calls p r) ≡ length (classes p r)
entry-count p r =
    let w : Call → ℕ = one_if is_entry in
    let s = count-sum is_entry (prepare_calls p r) in
    let q = parted w p r in
    let a = ones w (area_call p r) (λ k. refl) (classes p r) in
    let b = zeros w CtCell (λ k. refl) (own p r) in
    let d = zeros w (λ l. trigger p (ForLink l)) (λ l. refl) (out_links p r) in
    let e = zeros w (λ c. trigger p (ForDone c)) (λ c. refl) (own p r) in
    omega (arith, s, q, a, b, d, e)

descriptor-count : (p : Plan) (r : ℕ) → count_by is_descriptor (prepare_calls p r) ≡ 1
descriptor-count p r =
    let w : Call → ℕ = one_if is_descriptor in
    let s = count-sum is_descriptor (prepare_calls p r) in
    let q = parted w p r in
    let a = zeros w (area_call p r) (λ k. refl) (classes p r) in
    let b = zeros w CtCell (λ k. refl) (own p r) in
    let d = zeros w (λ l. trigger p (ForLink l)) (λ l. refl) (out_links p r) in
    let e = zeros w (λ c. trigger p (ForDone c)) (λ c. refl) (own p r) in
    omega (arith, s, q, a, b, d, e)

-- ---- what its operations send

both : (w : Call → ℕ) (g : ℕ → Call) (a t : ℕ → Bool) (v : ℕ → ℕ) → ((l : ℕ) → cond (a l) (w (g l)) 0 ≡ cond (t l) (v l) 0)
    → (xs : List ℕ) → sum_by w (map g (filter a xs)) ≡ sum_by v (filter t xs)
both w g a t v same [] = refl
both w g a t v same (x ∷ xs) =
    let one = left (a x) in
    let other = right (t x) in
    let e = same x in
    let rest = both w g a t v same xs in
    omega (arith, one, other, e, rest)
  where
    left : (b : Bool) → sum_by w (map g (cond b (x ∷ filter a xs) (filter a xs))) ≡ cond b (w (g x)) 0 + sum_by w (map g (filter a xs))
    left true = sum_by-cons w (g x) (map g (filter a xs))
    left false = omega arith

    right : (b : Bool) → sum_by v (cond b (x ∷ filter t xs) (filter t xs)) ≡ cond b (v x) 0 + sum_by v (filter t xs)
    right true = sum_by-cons v x (filter t xs)
    right false = omega arith

-- a link's operation sends to rank d where it is a message to it, whichever rank has it
by-link : (p : Plan) (d l : ℕ) (here bump : Bool) (u : PlannedOp → ℕ) (v : ℕ) → u (send_act p l) ≡ v
    → cond here (cond (sends_to d (cond bump (BumpCell (link p l).target) (send_act p l))) (u (cond bump (BumpCell (link p l).target)
    (send_act p l))) 0) 0 ≡ cond (not bump && (here && ((cell p (link p l).target).rank == d))) v 0
by-link p d l true true u v e = refl
by-link p d l false true u v e = refl
by-link p d l true false u v e = ap (λ n. cond ((cell p (link p l).target).rank == d) n 0) e
by-link p d l false false u v e = refl

messages-are : (p : Plan) (r d : ℕ) → messages_to d (prepare_calls p r) ≡ length (lane_links p r d)
messages-are p r d =
    let w : Call → ℕ = one_if (posts_to d) in
    let s = count-sum (posts_to d) (prepare_calls p r) in
    let q = parted w p r in
    let a = zeros w (area_call p r) (λ k. refl) (classes p r) in
    let b = zeros w CtCell (λ k. refl) (own p r) in
    let e = zeros w (λ c. trigger p (ForDone c)) (λ c. refl) (own p r) in
    let f = both w (λ l. trigger p (ForLink l)) (λ l. (cell p (link p l).source).rank == r) (goes_along p r d) (λ l. 1)
    (λ l. by-link p d l ((cell p (link p l).source).rank == r) (is_bump (link p l).kind) (λ act. 1) 1 refl) (all_links p) in
    let g = each-one (lane_links p r d) in
    omega (arith, s, q, a, b, e, f, g)

bytes-are : (p : Plan) (r d : ℕ) → bytes_to d (prepare_calls p r) ≡ lane_bytes p r d
bytes-are p r d =
    let w : Call → ℕ = λ call. cond (posts_to d call) (posts_bytes call) 0 in
    let q = parted w p r in
    let a = zeros w (area_call p r) (λ k. refl) (classes p r) in
    let b = zeros w CtCell (λ k. refl) (own p r) in
    let e = zeros w (λ c. trigger p (ForDone c)) (λ c. refl) (own p r) in
    let f = both w (λ l. trigger p (ForLink l)) (λ l. (cell p (link p l).source).rank == r) (goes_along p r d) (λ l. (link p l).length)
    (λ l. by-link p d l ((cell p (link p l).source).rank == r) (is_bump (link p l).kind) sends_bytes (link p l).length refl)
    (all_links p) in
    omega (arith, q, a, b, e, f)

-- ---- the longest message

longest-append : (xs ys : List Call) → longest_of (xs ++ ys) ≡ max (longest_of xs) (longest_of ys)
longest-append [] ys = omega arith
longest-append (x ∷ xs) ys = let rest = longest-append xs ys in omega (arith, rest)

longest-none : {X : Type 0} (g : X → Call) → ((x : X) → posts_bytes (g x) ≡ 0) → (xs : List X) → longest_of (map g xs) ≡ 0
longest-none g each [] = refl
longest-none g each (x ∷ xs) = ap₂ max (each x) (longest-none g each xs)

by-kind : (p : Plan) (l : ℕ) (k : LinkKind) → (k ≡ Bump → (link p l).length ≡ 0)
    → sends_bytes (cond (is_bump k) (BumpCell (link p l).target) (send_act p l)) ≡ (link p l).length
by-kind p l Bump empty = sym (empty refl)
by-kind p l Put empty = refl
by-kind p l Atomic empty = refl

longest-links : (p : Plan) (ls : List ℕ) → ((l : ℕ) → In l ls → posts_bytes (trigger p (ForLink l)) ≡ (link p l).length)
    → longest_of (map (λ l. trigger p (ForLink l)) ls) ≡ longest p ls
longest-links p [] size = refl
longest-links p (l ∷ ls) size = ap₂ max (size l (inl refl)) (longest-links p ls (λ m i. size m (inr i)))

longest-is : (p : Plan) (inputs r : ℕ) → SoundPlan p inputs → longest_of (prepare_calls p r) ≡ longest p (out_links p r)
longest-is p inputs r sound =
    let ops : List Call = map (trigger p) (rank_ops p r) in
    let bound : List Call = MdBind (region_length p r + areas_length p r) p.remote ∷ ops in
    let b = longest-append (map (area_call p r) (classes p r)) (CtDone ∷ (map CtCell (own p r) ++ bound)) in
    let d = longest-append (map CtCell (own p r)) bound in
    let e = longest-none (area_call p r) (λ k. refl) (classes p r) in
    let f = longest-none CtCell (λ k. refl) (own p r) in
    let g = ap longest_of (rank_ops-apart p r)
    ∙ longest-append (map (λ l. trigger p (ForLink l)) (out_links p r)) (map (λ c. trigger p (ForDone c)) (own p r)) in
    let h = longest-none (λ c. trigger p (ForDone c)) (λ c. refl) (own p r) in
    let i = longest-links p (out_links p r)
    (λ l q. by-kind p l (link p l).kind (sound.links_sound l (out_links-In p r l q).0).bump_empty) in
    omega (arith, b, d, e, f, g, h, i)

-- ---- what comes to a rank, rank by rank that it comes from

abbrev below : Plan → ℕ → (ℕ → ℕ) → ℕ → ℕ
below p r f k = sum_by f (filter (from_below p r k) (all_links p))

below-none : (p : Plan) (r : ℕ) (f : ℕ → ℕ) → below p r f 0 ≡ 0
below-none p r f = ap (sum_by f) (filter-none (from_below p r 0) (all_links p)
    (λ l i. ap (λ v. comes_to p r l && v) (le-ltb (from_rank p l) 0 (omega arith)) ∙ and-false (comes_to p r l)))

below-more : (p : Plan) (r : ℕ) (f : ℕ → ℕ) (k : ℕ) → below p r f k + sum_by f (lane_links p k r) ≡ below p r f (k + 1)
below-more p r f k =
    sum-parted (from_below p r k) (goes_along p k r) (from_below p r (k + 1)) f
    (λ l. once-to (is_message p l) (to_rank p l == r) (from_rank p l) k (f l)) (all_links p)

below-all : (p : Plan) (inputs r : ℕ) (f : ℕ → ℕ) → SoundPlan p inputs → below p r f p.ranks ≡ sum_by f (links_to p r)
below-all p inputs r f sound =
    let t = sound-tabled p inputs sound in
    ap (sum_by f)
    (filter-alike (from_below p r p.ranks) (comes_to p r) 0 (length p.links)
    (λ l h. ap (λ v. comes_to p r l && v) (lt-ltb _ _ (t.ranks_known _ (t.sources l (omega (arith, h))))) ∙ and-true (comes_to p r l)))

from-ranks : (p : Plan) (r : ℕ) (f : ℕ → ℕ) (k : ℕ) → sum_by (λ s. sum_by f (lane_links p s r)) (from_to 0 k) ≡ below p r f k
from-ranks p r f zero = sym (below-none p r f)
from-ranks p r f (suc k) =
    let e : suc k ≡ k + 1 = omega arith in
    ap (λ n. sum_by (λ s. sum_by f (lane_links p s r)) (from_to 0 n)) e
    ∙ sum-more (λ s. sum_by f (lane_links p s r)) k
    ∙ ap (λ n. n + sum_by f (lane_links p k r)) (from-ranks p r f k)
    ∙ below-more p r f k
    ∙ ap (below p r f) (sym e)

all-bytes : (p : Plan) (inputs r : ℕ) → SoundPlan p inputs
    → sum_by (λ s. lane_bytes p s r) (from_to 0 p.ranks) ≡ sum_by (λ l. (link p l).length) (links_to p r)
all-bytes p inputs r sound =
    from-ranks p r (λ l. (link p l).length) p.ranks ∙ below-all p inputs r (λ l. (link p l).length) sound

all-messages : (p : Plan) (inputs r : ℕ) → SoundPlan p inputs
    → sum_by (λ s. length (lane_links p s r)) (from_to 0 p.ranks) ≡ length (links_to p r)
all-messages p inputs r sound =
    sum-alike (λ s. length (lane_links p s r)) (λ s. sum_by (λ l. 1) (lane_links p s r)) (λ s. sym (each-one (lane_links p s r)))
    (from_to 0 p.ranks)
    ∙ from-ranks p r (λ l. 1) p.ranks ∙ below-all p inputs r (λ l. 1) sound ∙ each-one (links_to p r)

-- ---- the region

region-long : (p : Plan) (inputs : Inputs) (r : ℕ) → SoundPlan p (length inputs) → AreInputsOf p inputs
    → length (initial_region p inputs r) ≡ region_length p r + areas_length p r
region-long p inputs r sound fit =
    length-append (flat_map (initial p inputs) (own p r)) (blank_areas p r)
    ∙ ap₂ (λ a b. a + b)
    (flat-length p (initial p inputs) (own p r) (λ c i. length-initial p inputs sound fit c (own-In p r c i).0))
    (length-flat_map (λ k. blank_area k (area_length p r k)) (classes p r)
    ∙ sum-alike (λ k. length (blank_area k (area_length p r k))) (area_length p r)
    (λ k. length-blank k (area_length p r k) (length-links p inputs sound r k)) (classes p r))

-- ---- all of it

module _ (p : Plan) (inputs : Inputs) (sound : SoundPlan p (length inputs)) (fit : AreInputsOf p inputs) where
  module _ (tasks : ℕ → Task) (all : AreCompiled p inputs tasks) where
    messages : (s d : ℕ) → s < p.ranks → messages_to d (tasks s).calls ≡ length (lane_links p s d)
    messages s d h = ap (messages_to d) (all s h).calls ∙ messages-are p s d

    bytes : (s d : ℕ) → s < p.ranks → bytes_to d (tasks s).calls ≡ lane_bytes p s d
    bytes s d h = ap (bytes_to d) (all s h).calls ∙ bytes-are p s d

    to-other : (s d : ℕ) → s < p.ranks → to_other p s d ≡ between tasks s d
    to-other s d h = ap (λ n. cond (s == d) 0 n) (sym (messages s d h))

    installed : (r : ℕ) → r < p.ranks → AreInstalled p.ranks tasks r (takes_of p r)
    installed r h =
        let f = all r h in
        record {
          triggered = sym (ap (count_by is_triggered) f.calls ∙ triggered-count p r);
          counting = sym (ap (count_by is_counting) f.calls ∙ counting-count p r);
          entries = sym (ap₂ (λ a b. a + b) (ap (count_by is_entry) f.calls ∙ entry-count p r)
              (ap length f.own ∙ length-map' (own_cell p r) (own p r)));
          descriptors = sym (ap (count_by is_descriptor) f.calls ∙ descriptor-count p r);
          region = sym (ap length f.region ∙ region-long p inputs r sound fit);
          longest = sym (ap longest_of f.calls ∙ longest-is p (length inputs) r sound);
          sent = same_sum (between tasks r) (to_other p r) 0 p.ranks (λ d low high. to-other r d h);
          received = same_sum (λ s. between tasks s r) (λ s. to_other p s r) 0 p.ranks
              (λ s low high. to-other s r (omega (arith, high)));
          own = sym (messages r r h);
          headers = sym (all-messages p (length inputs) r sound)
              ∙ same_sum (λ s. messages_to r (tasks s).calls) (λ s. length (lane_links p s r)) 0 p.ranks
              (λ s low high. sym (messages s r (omega (arith, high))));
          early = sym (all-bytes p (length inputs) r sound)
              ∙ same_sum (λ s. bytes_to r (tasks s).calls) (λ s. lane_bytes p s r) 0 p.ranks
              (λ s low high. sym (bytes s r (omega (arith, high))));
        }

    opened : (r : ℕ) → r < p.ranks → IsOpenedFor (takes_of p r) (tasks r).limits
    opened r h =
        subst (λ l. IsOpenedFor (takes_of p r) l) (sym (all r h).limits)
        (record { triggered = refl; counting = refl; entries = refl; descriptors = refl; headers = refl; longest = refl })

  passed : (r : ℕ) → r < p.ranks → IsNeverPassed p inputs r (takes_of p r)
  passed r h = record {
    headers = λ slots w cut. let a = sum-within (λ s. length (sent_by (system_of p inputs slots) w s r Request))
        (λ s. length (lane_links p s r)) 0 p.ranks (λ s low. few_messages p (slots s) s (start_of p (slots s) s) (w s) false
        (prepare p inputs (slots s) s) (prepared_of p inputs sound (slots s) s) (cut.legal s (omega (arith, low))) r) in
        let b = all-messages p (length inputs) r sound in omega (arith, a, b);
    early = λ slots w cut. let a = sum-within (λ s. bytes_in (sent_by (system_of p inputs slots) w s r Request))
        (λ s. lane_bytes p s r) 0 p.ranks (λ s low. few_bytes p (slots s) s (start_of p (slots s) s) (w s) false
        (prepare p inputs (slots s) s) (prepared_of p inputs sound (slots s) s) (cut.legal s (omega (arith, low))) r) in
        let b = all-bytes p (length inputs) r sound in omega (arith, a, b);
  }

  pub taken : AreTaken p inputs (takes_of p)
  taken = record { installed = installed; opened = opened; passed = passed }

-- by rank, in a list
pub listed-taken : (p : Plan) (inputs : Inputs) (ts : List Takes) (none : Takes) → ts ≡ map (takes_of p) (from_to 0 p.ranks)
    → AreTaken p inputs (takes_of p) → AreTaken p inputs (λ r. get_or ts r none)
listed-taken p inputs ts none e t = record {
  installed = λ tasks all r h. subst (λ x. AreInstalled p.ranks tasks r x) (sym (at r h)) (t.installed tasks all r h);
  opened = λ tasks all r h. subst (λ x. IsOpenedFor x (tasks r).limits) (sym (at r h)) (t.opened tasks all r h);
  passed = λ r h. subst (λ x. IsNeverPassed p inputs r x) (sym (at r h)) (t.passed r h);
}
  where
    at : (r : ℕ) → r < p.ranks → get_or ts r none ≡ takes_of p r
    at r h = ap (λ (v : List Takes). get_or v r none) e ∙ get-row (takes_of p) p.ranks r none h
