-- The judgement by closed forms is that of the plan.
use Rattle.std.proofs.Common.{ℕ, zero, suc, Bool, ◌+◌, ◌*◌, ◌≡◌, ◌≤◌, List, [], ◌∷◌, refl, length, map, get_or, sum_by, ap, ap₂, ◌∙◌, arith}
use Rattle.coll_shape.specs.Collectives.{source_of, is_in}
use Rattle.coll_shape.specs.Outline.{Outline, buffer_at, group_at, list_bytes, step_at, read_buffer}
use Rattle.coll_shape.specs.WellFormed.{IsWellFormed}
use Rattle.plan_core.proofs.Drawing.{cells-add, links-in_all}
use Rattle.plan_core.specs.Draw.{NewCell, add, add_all, bytes_in, cell_of, go_cell_of, go_plan, links_of}
use Rattle.plan_core.specs.Plan.{Plan, from_to}
use Rattle.plan_core.specs.declared.Cell.{Cell}
use Rattle.plan_steps.proofs.StepSizes.{bytes-cons, bytes-row, links-row}
use Rattle.schedule_compiler.proofs.shapes.ByCollective.{bytes-of_step, links-of_step}
use Rattle.schedule_compiler.specs.shapes.Drawing.{drawn_inputs, drawn_upto, input_cell}
use Rattle.plan_steps.specs.Drawing.{site}
use Rattle.schedule_compiler.specs.shapes.Footprint.{judged, refusal, refusal_from, refused_at, size_of}
use Rattle.schedule_compiler.specs.shapes.Judging.{AreSteps, add_sizes, found_from, inputs_size, size_upto}
use Rattle.plan_steps.specs.Collectives.{cells_of}
use Rattle.std.proofs.lemmas.List.Sums.{sum_by-cons, sum_by-append}

-- ---- a plan and what is drawn after it
bytes-in_all : (p : Plan) (ns : List NewCell) → sum_by (λ (k : Cell). k.length) (add_all p ns).cells ≡ sum_by (λ (k : Cell). k.length)
    p.cells + bytes_in ns
unfolding add_all
bytes-in_all p [] = let e : sum_by (λ (k : Cell). k.length) p.cells ≡ sum_by (λ (k : Cell). k.length) p.cells + 0 = omega arith in e
bytes-in_all p (n ∷ ns) =
    let a = bytes-in_all (add p n) ns in
    let b = ap (sum_by (λ (k : Cell). k.length)) (cells-add p n) ∙ sum_by-append (λ (k : Cell). k.length) p.cells (cell_of n ∷ []) in
    let c = sum_by-cons (λ (k : Cell). k.length) (cell_of n) [] in
    let d = bytes-cons n ns in
    omega (arith, a, b, c, d)

size-add_all : (p : Plan) (ns : List NewCell) → size_of (add_all p ns) ≡ add_sizes (size_of p)
    (record { links = links_of ns; bytes = bytes_in ns })
size-add_all p ns = ap₂ (λ l b. record { links = l; bytes = b }) (links-in_all p ns) (bytes-in_all p ns)

go-bytes : (k n : ℕ) → sum_by (λ (k : Cell). k.length) (map go_cell_of (from_to k n)) ≡ 0
go-bytes k zero = refl
go-bytes k (suc n) = sum_by-cons (λ (k : Cell). k.length) (go_cell_of k) (map go_cell_of (from_to (suc k) n))
    ∙ ap (λ v. 0 + v) (go-bytes (suc k) n)

size-go : (n : ℕ) (remote : Bool) → size_of (go_plan n remote) ≡ record { links = 0; bytes = 0 }
unfolding go_plan
size-go n remote = ap (λ b. record { links = 0; bytes = b }) (go-bytes 0 n)

pub size-inputs : (o : Outline) (b : ℕ) → size_of (drawn_inputs o b).plan ≡ inputs_size o b
unfolding drawn_inputs
size-inputs o zero = size-go o.ranks o.remote
size-inputs o (suc b) =
    size-add_all (drawn_inputs o b).plan (map (input_cell (buffer_at o b)) (from_to 0 o.ranks))
    ∙ ap₂ (λ x y. add_sizes x y) (size-inputs o b)
    (ap₂ (λ l b. record { links = l; bytes = b })
    (links-row (input_cell (buffer_at o b)) 0 o.ranks 1 (λ i. refl) ∙ (let e : o.ranks * 1 ≡ o.ranks = omega arith in e))
    (bytes-row (input_cell (buffer_at o b)) 0 o.ranks (list_bytes (buffer_at o b)) (λ i. refl)))

-- ---- all steps
pub size-steps : (o : Outline) → AreSteps o → (k : ℕ) → k ≤ length o.steps → size_of (drawn_upto o k).plan ≡ size_upto o k
unfolding drawn_upto
size-steps o fit zero h = size-inputs o o.inputs
size-steps o fit (suc k) h =
    let s = site o (drawn_upto o k) (step_at o k) (group_at o k) in
    let t : ℕ → Bool = λ i. is_in (get_or (group_at o k) i 0) (read_buffer o (source_of (step_at o k))).spread.holders in
    size-add_all (drawn_upto o k).plan (cells_of s (step_at o k))
    ∙ ap₂ (λ x y. add_sizes x y) (size-steps o fit k (omega arith))
    (ap₂ (λ l b. record { links = l; bytes = b })
    (links-of_step s t refl (fit.some k (omega arith)) (step_at o k) (fit.roots k (omega arith)))
    (bytes-of_step s t refl (fit.some k (omega arith)) (step_at o k) (fit.roots k (omega arith))))

same-found : (o : Outline) → AreSteps o → (k n : ℕ) → k + n ≤ length o.steps → refusal_from o k n ≡ found_from o k n
same-found o fit k zero h = refl
same-found o fit k (suc n) h =
    ap₂ (λ x y. refused_at k x y) (ap judged (size-steps o fit (suc k) (omega arith))) (same-found o fit (suc k) n (omega arith))

pub refusal-found : (o : Outline) → AreSteps o → refusal o ≡ found_from o 0 (length o.steps)
unfolding refusal
refusal-found o fit = same-found o fit 0 (length o.steps) (omega arith)

-- a well-formed shape has such steps
pub are-steps : (o : Outline) → IsWellFormed o → AreSteps o
are-steps o w = record { some = λ k h. (w.fits k h).members.some; roots = λ k h. (w.fits k h).root }
