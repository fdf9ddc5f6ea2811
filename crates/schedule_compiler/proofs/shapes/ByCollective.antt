-- What each collective gives to the laws of all plans, a line for each: its sizes, that each of its cells has a link, and who holds
-- what it makes.
use Rattle.std.proofs.Common.{ℕ, zero, suc, Bool, ◌+◌, ◌-◌, ◌*◌, ◌≡◌, ◌<◌, ◌≤◌, List, [], ◌∷◌, refl, length, map, filter, get_or, ap, ap₂}
use Rattle.std.proofs.Common.{◌∙◌, arith, true, false, cond, ◌==◌, ◌++◌, length-append, ◌/◌, ◌%◌, div-add-mod', sym, inl, inr, Some, None}
use Rattle.std.proofs.Common.{eq-eqb, eqb-true, le_of_suc-le-suc, ◌⊎◌}
use Rattle.coll_shape.proofs.Asking.{In-is_in}
use Rattle.coll_shape.proofs.ByCollective.{has_both}
use Rattle.coll_shape.specs.Collectives.{source_of, IsRoot, is_in, Reads, buffer_after, holding_places, result_of, all_but_first}
use Rattle.coll_shape.specs.Outline.{list_bytes}
use Rattle.coll_shape.specs.declared.limits.TheConstants.{MOST_RANKS}
use Rattle.coll_shape.specs.declared.types.Buffer.{Buffer}
use Rattle.coll_shape.specs.declared.types.CollStep.{CollStep}
use Rattle.coll_shape.specs.declared.types.CollStep.TheVariants.{Barrier, Broadcast, Reduce, Allreduce, Gather, Allgather, Alltoall, Scan}
use Rattle.coll_shape.specs.declared.types.CollStep.TheVariants.{Scatter, Reducescatter, Exscan, Gatherv}
use Rattle.plan_core.proofs.Drawing.{links-in_all, length-row, many-cells}
use Rattle.plan_core.specs.Draw.{NewCell, add_all, bytes_in, links_of, HasRoom}
use Rattle.plan_core.specs.Members.{In}
use Rattle.plan_core.specs.Plan.{Plan, from_to, cell}
use Rattle.plan_steps.proofs.Grow.{In-get_or}
use Rattle.plan_steps.proofs.StepSizes.{links-append, links-cons}
use Rattle.plan_steps.proofs.allgather.Laws.{allgather-bytes, allgather-links}
use Rattle.plan_steps.proofs.allreduce.Laws.{allreduce-links, allreduce-bytes}
use Rattle.plan_steps.proofs.alltoall.Laws.{alltoall-links, alltoall-bytes}
use Rattle.plan_steps.proofs.barrier.Laws.{barrier-links, barrier-bytes}
use Rattle.plan_steps.proofs.broadcast.Laws.{broadcast-links, broadcast-bytes}
use Rattle.plan_steps.proofs.exscan.Laws.{exscan-links, exscan-bytes}
use Rattle.plan_steps.proofs.gather.Laws.{gather-links, gather-bytes}
use Rattle.plan_steps.proofs.gatherv.Laws.{gatherv-bytes, gatherv-links}
use Rattle.plan_steps.proofs.reduce.Laws.{reduce-links, reduce-bytes}
use Rattle.plan_steps.proofs.reducescatter.Laws.{reducescatter-links, reducescatter-bytes}
use Rattle.plan_steps.proofs.scan.Laws.{scan-links, scan-bytes}
use Rattle.plan_steps.proofs.scatter.Laws.{scatter-links, scatter-bytes}
use Rattle.plan_steps.specs.Collectives.Allgather.{collect_link, collected, ring_node}
use Rattle.plan_steps.specs.Collectives.Allreduce.{result_cell}
use Rattle.plan_steps.specs.Collectives.Alltoall.{exchange_link, exchanged}
use Rattle.plan_steps.specs.Collectives.Barrier.{round_cell, round_rows}
use Rattle.plan_steps.specs.Collectives.Broadcast.{copy_cell, first_cell}
use Rattle.plan_steps.specs.Collectives.Exscan.{shifted}
use Rattle.plan_steps.specs.Collectives.Gather.{gather_link, gathered}
use Rattle.plan_steps.specs.Collectives.Gatherv.{concatenated, held_entry}
use Rattle.plan_steps.specs.Collectives.Reducescatter.{result_block}
use Rattle.plan_steps.specs.Rounds.{rounds}
use Rattle.plan_steps.specs.Collectives.Scan.{scan_cell, scan_rows}
use Rattle.plan_steps.specs.Collectives.Scatter.{scattered}
use Rattle.plan_steps.specs.StepContext.{StepContext, count, bare_entries, bare_entry, entries, full_entry, places, row, rows, entry}
use Rattle.plan_steps.specs.StepContext.{further}
use Rattle.plan_steps.specs.Steps.{giving, passing}
use Rattle.plan_steps.specs.Trees.{up, up_at, unturned, up_number}
use Rattle.ptl_types.specs.Operations.{bytes_of}
use Rattle.schedule_compiler.proofs.shapes.EveryStep.{bytes_after}
use Rattle.schedule_compiler.proofs.shapes.Places.{IsMember, PlaceOf, member}
use Rattle.schedule_compiler.proofs.shapes.Whole.{blocks_long}
use Rattle.plan_steps.specs.Collectives.{step_bytes, step_links}
use Rattle.plan_steps.specs.Collectives.{cells_of, end_of}
use Rattle.schedule_compiler.specs.declared.shapes.judging.TheConstants.{MOST_LINKS}
use Rattle.std.proofs.Math.Nat.{mul-le-mul_right}

-- ---- one step
module _ (s : StepContext) (t : ℕ → Bool) (held : s.holding ≡ filter t (from_to 0 (count s))) (pos : 0 < count s) where
  pub links-of_step : (step : CollStep) → IsRoot step (count s) → links_of (cells_of s step) ≡ step_links step (count s) (length s.holding)
  links-of_step Barrier h = barrier-links s
  links-of_step (Broadcast root a b) h = broadcast-links s root h
  links-of_step (Reduce root o a b) h = reduce-links s root o pos
  links-of_step (Allreduce o a b) h = allreduce-links s o pos
  links-of_step (Gather root a b) h = gather-links s root
  links-of_step (Allgather a b) h = allgather-links s
  links-of_step (Alltoall a b) h = alltoall-links s
  links-of_step (Scan o a b) h = scan-links s o
  links-of_step (Scatter root a b) h = scatter-links s root h
  links-of_step (Reducescatter o a b) h = reducescatter-links s o pos
  links-of_step (Exscan o a b) h = exscan-links s o
  links-of_step (Gatherv root a b) h = gatherv-links s t held root

  pub bytes-of_step : (step : CollStep) → IsRoot step (count s) → bytes_in (cells_of s step) ≡ step_bytes step (count s)
      (length s.holding) s.length
  bytes-of_step Barrier h = barrier-bytes s
  bytes-of_step (Broadcast root a b) h = broadcast-bytes s root h
  bytes-of_step (Reduce root o a b) h = reduce-bytes s root o
  bytes-of_step (Allreduce o a b) h = allreduce-bytes s o
  bytes-of_step (Gather root a b) h = gather-bytes s root
  bytes-of_step (Allgather a b) h = allgather-bytes s
  bytes-of_step (Alltoall a b) h = alltoall-bytes s
  bytes-of_step (Scan o a b) h = scan-bytes s o
  bytes-of_step (Scatter root a b) h = scatter-bytes s root h
  bytes-of_step (Reducescatter o a b) h = reducescatter-bytes s o
  bytes-of_step (Exscan o a b) h = exscan-bytes s o
  bytes-of_step (Gatherv root a b) h = gatherv-bytes s t held root

abbrev Linked : List NewCell → Type 0
Linked ns = length ns ≤ links_of ns

both : (xs ys : List NewCell) → Linked xs → Linked ys → Linked (xs ++ ys)
both xs ys h g = let a = length-append xs ys in let b = links-append xs ys in omega (arith, a, b, h, g)

one : (n : NewCell) → 1 ≤ length n.into → Linked (n ∷ [])
one n h = let a = links-cons n [] in omega (arith, a, h)

in_row : (f : ℕ → NewCell) (k n : ℕ) → ((i : ℕ) → 1 ≤ length (f i).into) → Linked (map f (from_to k n))
in_row f k zero h = omega arith
in_row f k (suc n) h = let a = links-cons (f k) (map f (from_to (suc k) n)) in let b = in_row f (suc k) n h in let c = h k in
    omega (arith, a, b, c)

in_rows : (s : StepContext) (f : ℕ → ℕ → NewCell) (a n : ℕ) → ((k i : ℕ) → 1 ≤ length (f k i).into) → Linked (rows s f a n)
in_rows s f a zero h = omega arith
in_rows s f a (suc n) h = both (row s f a) (rows s f (suc a) n) (in_row (f a) 0 (count s) (h a)) (in_rows s f (suc a) n h)

some : (n : ℕ) → 1 ≤ suc n
some n = omega arith

all : (s : StepContext) → Linked (entries s)
all s = in_row (full_entry s) 0 (count s) (λ i. some 1)

up-linked : (s : StepContext) (root : ℕ) (o : Rattle.ptl_types.specs.declared.elements.AtomicOp.AtomicOp) → Linked (up s root o)
up-linked s root o = in_row (up_at s root o) 0 (count s) (λ j. some _)

either : (b : Bool) (x y : NewCell) → 1 ≤ length x.into → 1 ≤ length y.into → 1 ≤ length (cond b x y).into
either true x y h g = h
either false x y h g = g

firsts : (s : StepContext) (root : ℕ) → Linked (map (first_cell s root) (places s))
firsts s root = in_row (first_cell s root) 0 (count s) (λ i. either (i == root) (full_entry s i) (bare_entry s i) (some 1) (some 0))

copies : (s : StepContext) (root v : ℕ) → 1 ≤ length (copy_cell s root v).into
copies s root zero = some 0
copies s root (suc v) = some 1

results : (s : StepContext) (v : ℕ) → 1 ≤ length (result_cell s v).into
results s zero = some 0
results s (suc v) = some 1

result-blocks : (s : StepContext) (v : ℕ) → 1 ≤ length (result_block s v).into
result-blocks s zero = some 0
result-blocks s (suc v) = some 1

scans : (s : StepContext) (o : Rattle.ptl_types.specs.declared.elements.AtomicOp.AtomicOp) (k i : ℕ) → 1 ≤ length (scan_cell s o k i).into
scans s o zero i = some 0
scans s o (suc k) i = some _

scatters : (s : StepContext) (root i : ℕ) → 1 ≤ length (scattered s root i).into
scatters s root i = at (i == root)
  where
    at : (b : Bool) → 1 ≤ length (cond b (Rattle.plan_steps.specs.Collectives.Scatter.scatter_put s root i ∷ [])
        (Rattle.plan_steps.specs.StepContext.bump (Rattle.plan_steps.specs.StepContext.entry s i)
        ∷ Rattle.plan_steps.specs.Collectives.Scatter.scatter_put s root i ∷ []))
    at true = some 0
    at false = some 1

pub step-linked : (s : StepContext) (step : CollStep) → 0 < count s → Linked (cells_of s step)
step-linked s Barrier p = both (bare_entries s) (round_rows s) (in_row (bare_entry s) 0 (count s) (λ i. some 0))
    (in_rows s (round_cell s) 0 (rounds (count s)) (λ k i. some 1))
step-linked s (Broadcast root a b) p = both (map (first_cell s root) (places s)) (map (copy_cell s root) (places s)) (firsts s root)
    (in_row (copy_cell s root) 0 (count s) (copies s root))
step-linked s (Reduce root o a b) p = both (entries s) (up s root o) (all s) (up-linked s root o)
step-linked s (Allreduce o a b) p = both (entries s) (up s 0 o ++ map (result_cell s) (places s)) (all s)
    (both (up s 0 o) (map (result_cell s) (places s)) (up-linked s 0 o) (in_row (result_cell s) 0 (count s) (results s)))
step-linked s (Gather root a b) p = both (entries s) (gathered s root ∷ []) (all s)
    (one (gathered s root) (let e = length-row (gather_link s) 0 (count s) in omega (arith, e, p)))
step-linked s (Allgather a b) p =
    both (entries s) (rows s (ring_node s) 0 (count s) ++ map (collected s) (places s)) (all s)
    (both (rows s (ring_node s) 0 (count s)) (map (collected s) (places s)) (in_rows s (ring_node s) 0 (count s) (λ k i. some 0))
    (in_row (collected s) 0 (count s) (λ i. let e = length-row (collect_link s i) 0 (count s) in omega (arith, e, p))))
step-linked s (Alltoall a b) p = both (entries s) (map (exchanged s) (places s)) (all s)
    (in_row (exchanged s) 0 (count s) (λ i. let e = length-row (exchange_link s i) 0 (count s) in omega (arith, e, p)))
step-linked s (Scan o a b) p = both (entries s) (scan_rows s o) (all s) (in_rows s (scan_cell s o) 0 (suc (rounds (count s))) (scans s o))
step-linked s (Scatter root a b) p = both (map (first_cell s root) (places s)) (map (scattered s root) (places s)) (firsts s root)
    (in_row (scattered s root) 0 (count s) (scatters s root))
step-linked s (Reducescatter o a b) p = both (entries s) (up s 0 o ++ map (result_block s) (places s)) (all s)
    (both (up s 0 o) (map (result_block s) (places s)) (up-linked s 0 o) (in_row (result_block s) 0 (count s) (result-blocks s)))
step-linked s (Exscan o a b) p =
    both (entries s) (scan_rows s o ++ map (shifted s) (from_to 0 (count s - 1))) (all s)
    (both (scan_rows s o) (map (shifted s) (from_to 0 (count s - 1))) (in_rows s (scan_cell s o) 0 (suc (rounds (count s))) (scans s o))
    (in_row (shifted s) 0 (count s - 1) (λ i. some 1)))
step-linked s (Gatherv root a b) p =
    both (map (held_entry s) (places s)) (concatenated s root ∷ [])
    (in_row (held_entry s) 0 (count s) (λ i. either (is_in i s.holding) (full_entry s i) (bare_entry s i) (some 1) (some 0)))
    (one (concatenated s root) (some _))

-- with few links in the end there is room for the step
pub room-for : (p : Plan) (s : StepContext) (step : CollStep) → 0 < count s → length p.cells ≤ MOST_RANKS + length p.links →
    length p.links + links_of (cells_of s step) ≤ MOST_LINKS → HasRoom p (cells_of s step)
room-for p s step pos h l = let a = step-linked s step pos in record { cells = omega (arith, a, h, l); links = omega (arith, l) }

-- and there are still few cells
pub at_most-after : (p : Plan) (s : StepContext) (step : CollStep) → 0 < count s → length p.cells ≤ MOST_RANKS + length p.links →
    length (add_all p (cells_of s step)).cells ≤ MOST_RANKS + length (add_all p (cells_of s step)).links
at_most-after p s step pos h = let a = step-linked s step pos in let b = many-cells p (cells_of s step) in let c =
    links-in_all p (cells_of
    s step) in omega (
      arith,
      a,
      b,
      c,
      h,
    )

-- ---- a buffer that is held has an element

one-times : (m n : ℕ) → 0 < m → 1 ≤ n → 1 ≤ m * n
one-times m n h k = let a : 1 * n ≤ m * n = mul-le-mul_right n h in omega (arith, a, k)

one-block : (n m : ℕ) → n % m ≡ 0 → 1 ≤ n → 1 ≤ n / m
one-block n m e h = at (n / m) (div-add-mod' n m)
  where
    at : (q : ℕ) → q * m + n % m ≡ n → 1 ≤ q
    at zero d = let z : 0 * m ≡ 0 = omega arith in absurd (omega (arith, z, d, e, h))
    at (suc q) d = omega arith

some-filter : (t : ℕ → Bool) (a n i : ℕ) → i < n → t (a + i) ≡ true → 1 ≤ length (filter t (from_to a n))
some-filter t a zero i h e = absurd (omega arith)
some-filter t a (suc n) zero h e = at (t a) (ap t (let z : a ≡ a + 0 = omega arith in z) ∙ e)
  where
    at : (b : Bool) → b ≡ true → 1 ≤ length (cond b (a ∷ filter t (from_to (suc a) n)) (filter t (from_to (suc a) n)))
    at true f = omega arith
    at false f = cc
some-filter t a (suc n) (suc i) h e = at (t a) (some-filter t (suc a) n i (omega arith)
    (ap t (let z : suc a + i ≡ a + suc i = omega arith in z) ∙ e))
  where
    at : (b : Bool) → 1 ≤ length (filter t (from_to (suc a) n)) →
        1 ≤ length (cond b (a ∷ filter t (from_to (suc a) n)) (filter t (from_to (suc a) n)))
    at true f = omega arith
    at false f = f

some-holds : (g : List ℕ) (x : Buffer) (i : ℕ) → i < length g → In (get_or g i 0) x.spread.holders →
    1 ≤ length (holding_places g x.spread.holders)
some-holds g x i l m = some-filter (λ i. is_in (get_or g i 0) x.spread.holders) 0 (length g) i l
    (ap (λ v. is_in (get_or g v 0) x.spread.holders) (let z : 0 + i ≡ i = omega arith in z) ∙ In-is_in (get_or g i 0) x.spread.holders m)

-- where a member that is read has one
pub after-long : (g : List ℕ) (step : CollStep) (x : Buffer) → 0 < length g → Reads g step x →
    ((r : ℕ) → In r x.spread.holders → 1 ≤ x.spread.length)
    → (r : ℕ) → In r (buffer_after g step x).spread.holders → 1 ≤ (buffer_after g step x).spread.length
after-long g Barrier x pos reads has r i = has r i
after-long g (Broadcast root a b) x pos reads has r i = has (get_or g root 0) reads
after-long g (Reduce root o a b) x pos reads has r i = has (get_or g 0 0) (reads 0 pos)
after-long g (Allreduce o a b) x pos reads has r i = has (get_or g 0 0) (reads 0 pos)
after-long g (Gather root a b) x pos reads has r i = one-times (length g) x.spread.length pos (has (get_or g 0 0) (reads 0 pos))
after-long g (Allgather a b) x pos reads has r i = one-times (length g) x.spread.length pos (has (get_or g 0 0) (reads 0 pos))
after-long g (Alltoall a b) x pos reads has r i = has (get_or g 0 0) (reads.0 0 pos)
after-long g (Scan o a b) x pos reads has r i = has (get_or g 0 0) (reads 0 pos)
after-long g (Scatter root a b) x pos reads has r i = one-block x.spread.length (length g) reads.1 (has (get_or g root 0) reads.0)
after-long g (Reducescatter o a b) x pos reads has r i = one-block x.spread.length (length g) reads.1 (has (get_or g 0 0) (reads.0 0 pos))
after-long g (Exscan o a b) x pos reads has r i = has (get_or g 0 0) (reads 0 pos)
after-long g (Gatherv root a b) x pos reads has r i = one-times (length (holding_places g x.spread.holders)) x.spread.length
    (some-holds g x reads.0 reads.1 reads.2) (has (get_or g reads.0 0) reads.2)

-- ---- who holds B, by the site and by the shape
-- the cell at the member place of rank r that holds B
pub record Here (g : List ℕ) (r : ℕ) (s : StepContext) (step : CollStep) : Type 0 where
  pub place : ℕ
  pub is : PlaceOf g r place
  pub cell : ℕ
  pub holder : (end_of s step place).holder ≡ Some cell

here_of : {g : List ℕ} {r : ℕ} {s : StepContext} {step : CollStep} → (f : ℕ → ℕ) → ((i : ℕ) → (end_of s step i).holder ≡ Some (f i)) →
    IsMember g r → Here g r s step
here_of f h m = record { place = m.place; is = m.is; cell = f m.place; holder = h m.place }

behind-at : (g : List ℕ) (r : ℕ) → In r (all_but_first g) → (j : ℕ) × PlaceOf g r (suc j)
behind-at [] r h = absurd h
behind-at (x ∷ xs) r h = let m = member xs r h in let b = m.is.below in (m.place, record { below = omega arith; there = m.is.there })

in-behind : (g : List ℕ) (j : ℕ) → suc j < length g → In (get_or g (suc j) 0) (all_but_first g)
in-behind [] j h = absurd (omega arith)
in-behind (x ∷ xs) j h = In-get_or xs j 0 (le_of_suc-le-suc h)

pub held_here : (g : List ℕ) (r : ℕ) (s : StepContext) (step : CollStep) (a : ℕ) → source_of step ≡ Some a → IsRoot step (length g)
    → (x : Buffer) → In r (buffer_after g step x).spread.holders → Here g r s step
held_here g r s Barrier a e f x h = cc
held_here g r s (Broadcast root a' b) a e f x h = here_of {step = Broadcast root a' b} (λ i. further s (unturned s root i)) (λ i. refl)
    (member g r h)
held_here g r s (Allreduce o a' b) a e f x h = here_of {step = Allreduce o a' b} (λ i. (end_of s (Allreduce o a' b) i).exit) (λ i. refl)
    (member g r h)
held_here g r s (Allgather a' b) a e f x h = here_of {step = Allgather a' b} (λ i. (end_of s (Allgather a' b) i).exit) (λ i. refl)
    (member g r h)
held_here g r s (Alltoall a' b) a e f x h = here_of {step = Alltoall a' b} (λ i. (end_of s (Alltoall a' b) i).exit) (λ i. refl)
    (member g r h)
held_here g r s (Scan o a' b) a e f x h = here_of {step = Scan o a' b} (λ i. (end_of s (Scan o a' b) i).exit) (λ i. refl) (member g r h)
held_here g r s (Scatter root a' b) a e f x h = here_of {step = Scatter root a' b} (λ i. (end_of s (Scatter root a' b) i).exit)
    (λ i. refl) (member g r h)
held_here g r s (Reducescatter o a' b) a e f x h = here_of {step = Reducescatter o a' b} (λ i. (end_of s (Reducescatter o a' b) i).exit)
    (λ i. refl) (member g r h)
held_here g r s (Exscan o a' b) a e f x h = let m = behind-at g r h in
    record { place = suc m.0; is = m.1; cell = (end_of s (Exscan o a' b) (suc m.0)).exit; holder = refl }
held_here g r s (Reduce root o a' b) a e f x (inl h) = record {
  place = root;
  is = record { below = f; there = h };
  cell =
      up_number s 0;
  holder = ap (λ t. (cond t (giving (up_number s 0)) (passing (up_number s (unturned s root root)))).holder)
      (eq-eqb root root refl);
}
held_here g r s (Reduce root o a' b) a e f x (inr h) = absurd h
held_here g r s (Gather root a' b) a e f x (inl h) = record {
  place = root;
  is = record { below = f; there = h };
  cell =
      further s 0;
  holder = ap (λ t. (cond t (giving (further s 0)) (passing (entry s root))).holder) (eq-eqb root root refl);
}
held_here g r s (Gather root a' b) a e f x (inr h) = absurd h
held_here g r s (Gatherv root a' b) a e f x (inl h) = record {
  place = root;
  is = record { below = f; there = h };
  cell =
      further s 0;
  holder = ap (λ t. (cond t (giving (further s 0)) (passing (entry s root))).holder) (eq-eqb root root refl);
}
held_here g r s (Gatherv root a' b) a e f x (inr h) = absurd h

-- and back
at_root_only : (g : List ℕ) (i root c d u : ℕ) → (cond (i == root) (giving d) (passing u)).holder ≡ Some c →
    In (get_or g i 0) (get_or g root 0 ∷ [])
at_root_only g i root c d u e = at (i == root) refl e
  where
    at : (t : Bool) → (i == root) ≡ t → (cond t (giving d) (passing u)).holder ≡ Some c → In (get_or g i 0) (get_or g root 0 ∷ [])
    at true f h = inl (ap (λ j. get_or g j 0) (sym (eqb-true _ _ f)))
    at false f h = cc

pub held_there : (g : List ℕ) (s : StepContext) (step : CollStep) (x : Buffer) (i c : ℕ) → i < length g
    → (end_of s step i).holder ≡ Some c → In (get_or g i 0) (buffer_after g step x).spread.holders
held_there g s Barrier x i c l e = cc
held_there g s (Broadcast root a b) x i c l e = In-get_or g i 0 l
held_there g s (Reduce root o a b) x i c l e = at_root_only g i root c (up_number s 0) (up_number s (unturned s root i)) e
held_there g s (Allreduce o a b) x i c l e = In-get_or g i 0 l
held_there g s (Gather root a b) x i c l e = at_root_only g i root c (further s 0) (entry s i) e
held_there g s (Allgather a b) x i c l e = In-get_or g i 0 l
held_there g s (Alltoall a b) x i c l e = In-get_or g i 0 l
held_there g s (Scan o a b) x i c l e = In-get_or g i 0 l
held_there g s (Scatter root a b) x i c l e = In-get_or g i 0 l
held_there g s (Reducescatter o a b) x i c l e = In-get_or g i 0 l
held_there g s (Exscan o a b) x zero c l e = cc
held_there g s (Exscan o a b) x (suc j) c l e = in-behind g j l
held_there g s (Gatherv root a b) x i c l e = at_root_only g i root c (further s 0) (entry s i) e

times : (m n w : ℕ) → m * (n * w) ≡ m * n * w
times m n w = omega arith

-- B's length is what the shape says
pub after_bytes : (g : List ℕ) (s : StepContext) (step : CollStep) (x : Buffer) → s.members ≡ g →
    s.holding ≡ holding_places g x.spread.holders
    → s.length ≡ list_bytes x → 0 < length g → Reads g step x → bytes_after s step ≡ list_bytes (buffer_after g step x)
after_bytes g s Barrier x m w e pos r = e
after_bytes g s (Broadcast root a b) x m w e pos r = e
after_bytes g s (Reduce root o a b) x m w e pos r = e
after_bytes g s (Allreduce o a b) x m w e pos r = e
after_bytes g s (Gather root a b) x m w e pos r = ap₂ (λ u v. u * v) (ap length m) e ∙ times (length g) x.spread.length (bytes_of x.ty)
after_bytes g s (Allgather a b) x m w e pos r = ap₂ (λ u v. u * v) (ap length m) e ∙ times (length g) x.spread.length (bytes_of x.ty)
after_bytes g s (Alltoall a b) x m w e pos r = e
after_bytes g s (Scan o a b) x m w e pos r = e
after_bytes g s (Scatter root a b) x m w e pos r = ap₂ (λ u v. u / v) e (ap length m)
    ∙ blocks_long x.spread.length (length g) (bytes_of x.ty) pos r.1
after_bytes g s (Reducescatter o a b) x m w e pos r = ap₂ (λ u v. u / v) e (ap length m)
    ∙ blocks_long x.spread.length (length g) (bytes_of x.ty) pos r.1
after_bytes g s (Exscan o a b) x m w e pos r = e
after_bytes g s (Gatherv root a b) x m w e pos r = ap₂ (λ u v. u * v) (ap length w) e ∙ times (length (holding_places g x.spread.holders))
    x.spread.length (bytes_of x.ty)

-- a step makes a buffer from one that it reads, or it does neither
pub data Kind (step : CollStep) : Type 0 where
  Plain : source_of step ≡ None → result_of step ≡ None → Kind step
  Makes : (a b : ℕ) → source_of step ≡ Some a → result_of step ≡ Some b → Kind step

pub kind_of : (step : CollStep) → Kind step
kind_of step = of (has_both step)
  where
    of : (step ≡ Barrier) ⊎ ((a : ℕ) × (b : ℕ) × (source_of step ≡ Some a) × (result_of step ≡ Some b)) → Kind step
    of (inl e) = Plain (ap source_of e) (ap result_of e)
    of (inr x) = Makes x.0 x.1 x.2 x.3
