-- The first link of a barrier comes to its first cell.
use Rattle.std.proofs.Common.{◌≡◌, ℕ, zero, suc, ◌+◌, ◌-◌, ◌*◌, ◌<◌, ◌≤◌, ◌^◌, List, [], ◌∷◌, ◌++◌, length, map, get_or, None, Result, IfOk}
use Rattle.std.proofs.Common.{refl, sym, ap, ap₂, ◌∙◌, subst, arith, length-append}
use Rattle.std.proofs.lemmas.List.{get_or_default}
use Rattle.std.proofs.Math.Nat.{mul-le-mul_right, zero-mul}
use Rattle.number_lists.specs.Numbers.{from_to}
use Rattle.coll_shape.specs.Outline.{Outline, group_at, step_at}
use Rattle.coll_shape.specs.WellFormed.{IsWellFormed}
use Rattle.coll_shape.specs.declared.types.CollStep.{CollStep}
use Rattle.coll_shape.specs.declared.types.CollStep.TheVariants.{Barrier}
use Rattle.given_lines.specs.declared.given.Mark.{Mark}
use Rattle.plan_core.specs.declared.Incoming.{Incoming}
use Rattle.plan_core.specs.declared.Link.{Link}
use Rattle.plan_core.specs.Draw.{NewCell, link_to}
use Rattle.plan_core.specs.Plan.{Plan, link, no_link}
use Rattle.plan_steps.specs.Collectives.{cells_of}
use Rattle.plan_steps.specs.Collectives.Barrier.{barrier_cells, round_rows}
use Rattle.plan_steps.specs.Drawing.{site}
use Rattle.plan_steps.specs.Rounds.{rounds}
use Rattle.plan_steps.specs.Sounding.{with_cell, with_cells}
use Rattle.plan_steps.specs.StepContext.{StepContext, bare_entry, bump, count, exit_at}
use Rattle.plan_steps.proofs.Bridge.{add_all-with}
use Rattle.plan_steps.proofs.Drawn.{Extends, extends-all, extends-refl, extends-trans}
use Rattle.schedule_compiler.specs.shapes.Drawing.{drawing_of, drawn_upto, plan_of}
use Rattle.schedule_compiler.specs.shapes.Footprint.{refusal}
use Rattle.schedule_compiler.specs.shapes.Judging.{inputs_size, size_upto}
use Rattle.schedule_compiler.specs.declared.shapes.footprints.Size.{Size}
use Rattle.schedule_compiler.proofs.shapes.Final.{barrier-cells, few_links}
use Rattle.schedule_compiler.proofs.shapes.Sizes.{are-steps, size-steps}
use Rattle.schedule_compiler.proofs.shapes.Upto.{tables-upto}
use Rattle.marked_plans.specs.Marks.{first_cell, of_barrier, row_marks, step_marks}

-- ---- one step after the other

steps_more : (o : Outline) (n k : ℕ) → Extends (drawn_upto o k).plan (drawn_upto o (k + n)).plan []
unfolding drawn_upto
steps_more o zero k = subst (λ v. Extends (drawn_upto o k).plan (drawn_upto o v).plan []) (let z : k ≡ k + 0 = omega arith in z)
    (extends-refl (drawn_upto o k).plan [])
steps_more o (suc n) k =
    let d = drawn_upto o k in
    let t = step_at o k in
    let g = group_at o k in
    subst (λ v. Extends d.plan (drawn_upto o v).plan []) (let z : suc k + n ≡ k + suc n = omega arith in z)
    (extends-trans d.plan (drawn_upto o (suc k)).plan (drawn_upto o (suc k + n)).plan []
    (subst (λ v. Extends d.plan v []) (sym (add_all-with d.plan (cells_of (site o d t g) t)))
    (extends-all d.plan (cells_of (site o d t g) t) []))
    (steps_more o n (suc k)))

left_after : (k n : ℕ) → k < n → suc k + (n - suc k) ≡ n
left_after k n h = omega arith

pub to_the_end : (o : Outline) (k : ℕ) → k < length o.steps → Extends (drawn_upto o (suc k)).plan (plan_of o) []
unfolding drawing_of
to_the_end o k h = subst (λ v. Extends (drawn_upto o (suc k)).plan (drawn_upto o v).plan []) (left_after k (length o.steps) h)
    (steps_more o (length o.steps - suc k) (suc k))

pub barrier_next : (o : Outline) (k : ℕ) → step_at o k ≡ Barrier
    → (drawn_upto o (suc k)).plan ≡ with_cells (drawn_upto o k).plan (barrier_cells (site o (drawn_upto o k) Barrier (group_at o k)))
unfolding drawn_upto
barrier_next o k e = add_all-with (drawn_upto o k).plan (cells_of (site o (drawn_upto o k) (step_at o k) (group_at o k)) (step_at o k))
    ∙ ap (λ t. with_cells (drawn_upto o k).plan (cells_of (site o (drawn_upto o k) t (group_at o k)) t)) e

-- ---- the first link of new cells

-- it comes to the first of them
record ComesFirst (p q : Plan) : Type 0 where
  within : length p.links < length q.links
  target : (link q (length p.links)).target ≡ length p.cells

at_the_end : (xs : List Link) (x : Link) → get_or (xs ++ x ∷ []) (length xs) no_link ≡ x
at_the_end [] x = refl
at_the_end (y ∷ xs) x = at_the_end xs x

first_of_cells : (p : Plan) (n : NewCell) (i : Incoming) (ns : List NewCell) → n.into ≡ i ∷ [] → ComesFirst p (with_cells p (n ∷ ns))
first_of_cells p n i ns one =
    let c = length p.cells in
    let p' = with_cell p n in
    let more = extends-all p' ns [] in
    let links : p'.links ≡ p.links ++ link_to c i ∷ [] = ap (λ is. p.links ++ map (link_to c) is) one in
    let long : length p'.links ≡ length p.links + 1 = ap length links ∙ length-append p.links (link_to c i ∷ []) in
    let longer = more.more_links in
    let same = more.same_link (length p.links) (omega (arith, long)) in
    let is : link p' (length p.links) ≡ link_to c i =
    ap (λ ls. get_or ls (length p.links) no_link) links ∙ at_the_end p.links (link_to c i) in
    record {
      within = omega (arith, long, longer);
      target = ap (λ (l : Link). l.target) (same ∙ is);
    }

entry_first : (s : StepContext) (m : ℕ) → count s ≡ suc m → (ns : List NewCell) × (barrier_cells s ≡ bare_entry s 0 ∷ ns)
entry_first s m e = (map (bare_entry s) (from_to 1 m) ++ round_rows s, ap (λ n. map (bare_entry s) (from_to 0 n) ++ round_rows s) e)

some_member : (n : ℕ) → 0 < n → (m : ℕ) × (n ≡ suc m)
some_member zero h = absurd (omega arith)
some_member (suc m) h = (m, refl)

first_of_barrier : (p : Plan) (s : StepContext) → 0 < count s → ComesFirst p (with_cells p (barrier_cells s))
first_of_barrier p s some =
    let m = some_member (count s) some in
    let e = entry_first s m.0 m.1 in
    subst (λ cs. ComesFirst p (with_cells p cs)) (sym e.1) (first_of_cells p (bare_entry s 0) (bump (exit_at s 0)) e.0 refl)

later : (p q r : Plan) → ComesFirst p q → Extends q r [] → ComesFirst p r
later p q r first more =
    let l = first.within in
    let n = more.more_links in
    record { within = omega (arith, l, n); target = ap (λ (x : Link). x.target) (more.same_link (length p.links) l) ∙ first.target }

first_in_plan : (o : Outline) → IsWellFormed o → (k : ℕ) → k < length o.steps → step_at o k ≡ Barrier
    → ComesFirst (drawn_upto o k).plan (plan_of o)
first_in_plan o a k h is =
    let p = (drawn_upto o k).plan in
    later p (drawn_upto o (suc k)).plan (plan_of o)
    (subst (ComesFirst p) (sym (barrier_next o k is))
    (first_of_barrier p (site o (drawn_upto o k) Barrier (group_at o k)) (a.shape.members k h).some))
    (to_the_end o k h)

-- ---- a barrier's first link, counted by the sizes of the steps before it

links_before : (o : Outline) → IsWellFormed o → (k : ℕ) → k < length o.steps
    → length (drawn_upto o k).plan.links ≡ (size_upto o k).links
links_before o a k h = ap (λ (s : Size). s.links) (size-steps o (are-steps o a) k (omega arith))

pub barrier_link : (o : Outline) → IsWellFormed o → (k : ℕ) → k < length o.steps → step_at o k ≡ Barrier
    → (size_upto o k).links < length (plan_of o).links
barrier_link o a k h is =
    let n = links_before o a k h in
    let l = (first_in_plan o a k h is).within in
    omega (arith, n, l)

pub barrier_first : (o : Outline) → IsWellFormed o → (k : ℕ) → k < length o.steps → step_at o k ≡ Barrier
    → (link (plan_of o) (size_upto o k).links).target ≡ first_cell o k
barrier_first o a k h is =
    ap (λ n. (link (plan_of o) n).target) (sym (links_before o a k h)) ∙ (first_in_plan o a k h is).target

-- ---- how many cells there are

pub few_cells : (o : Outline) → IsWellFormed o → refusal o ≡ None → length (plan_of o).cells < 2 ^ 24
unfolding drawing_of
few_cells o a none =
    let t = (tables-upto o a.shape.few_ranks (are-steps o a) (length o.steps) (omega arith)).at_most in
    let l = few_links o a none in
    omega (arith, t, l)

pub barrier_within : (o : Outline) → IsWellFormed o → (k : ℕ) → k < length o.steps → step_at o k ≡ Barrier
    → first_cell o k + (rounds (length (group_at o k)) * length (group_at o k) + length (group_at o k)) ≤ length (plan_of o).cells
barrier_within o a k h is =
    let m = some_member (length (group_at o k)) (a.shape.members k h).some in
    let e = m.1 in
    let last = barrier-cells o a k h is (rounds (length (group_at o k))) m.0 (omega arith) (omega (arith, e)) in
    omega (arith, e, last)

-- ---- the inputs' links

inputs_links : (o : Outline) (b : ℕ) → (inputs_size o b).links ≡ b * o.ranks
inputs_links o zero = sym (zero-mul o.ranks)
inputs_links o (suc b) = let e = inputs_links o b in omega (arith, e)

pub links_of_inputs : (o : Outline) → (size_upto o 0).links ≡ o.inputs * o.ranks
links_of_inputs o = inputs_links o o.inputs

pub few_of_inputs : (o : Outline) → IsWellFormed o → o.inputs * o.ranks ≤ 2 ^ 15
few_of_inputs o a =
    let i = a.shape.few_inputs in
    let b = a.shape.few_buffers in
    let r = a.shape.few_ranks in
    let few : o.inputs ≤ 128 = omega (arith, i, b) in
    let m = mul-le-mul_right o.ranks few in
    omega (arith, m, r)

-- ---- a barrier's first cell, as it is found

pub is_barrier : (o : Outline) (k : ℕ) (steps : List CollStep) → steps ≡ o.steps → get_or steps k Barrier ≡ Barrier → step_at o k ≡ Barrier
is_barrier o k steps same is = ap (λ (ts : List CollStep). get_or ts k Barrier) (sym same) ∙ is

pub found_link : (o : Outline) → IsWellFormed o → (k : ℕ) → k < length o.steps → step_at o k ≡ Barrier
    → (p : Plan) (ls : List Link) (n : ℕ) → p ≡ plan_of o → ls ≡ p.links → n ≡ (size_upto o k).links → n < length ls
found_link o a k h is p ls n plan links count =
    let l = barrier_link o a k h is in
    let e = ap length links ∙ ap (λ (q : Plan). length q.links) plan in
    omega (arith, l, e, count)

-- whatever a place past the last reads as
pub found_cell : (o : Outline) → IsWellFormed o → (k : ℕ) → k < length o.steps → step_at o k ≡ Barrier
    → (p : Plan) (ls : List Link) (n : ℕ) (past : Link) → p ≡ plan_of o → ls ≡ p.links → n ≡ (size_upto o k).links
    → (get_or ls n past).target ≡ first_cell o k
found_cell o a k h is p ls n past plan links count =
    ap (λ (l : Link). l.target) (get_or_default ls n past no_link (found_link o a k h is p ls n plan links count))
    ∙ ap (λ (xs : List Link). (get_or xs n no_link).target) (links ∙ ap (λ (q : Plan). q.links) plan)
    ∙ ap (λ i. (link (plan_of o) i).target) count
    ∙ barrier_first o a k h is

pub found_room : (o : Outline) → IsWellFormed o → refusal o ≡ None → (k : ℕ) → k < length o.steps → step_at o k ≡ Barrier
    → (first : ℕ) (g : List ℕ) → first ≡ first_cell o k → g ≡ group_at o k
    → first + (rounds (length g) * length g + length g) < 2 ^ 32
found_room o a none k h is first g first_is group_is =
    let within = barrier_within o a k h is in
    let few = few_cells o a none in
    let all : first_cell o k + (rounds (length (group_at o k)) * length (group_at o k) + length (group_at o k)) < 2 ^ 32 =
    omega (arith, within, few) in
    rw (first_is, group_is) all

pub found_marks : (o : Outline) (k : ℕ) → step_at o k ≡ Barrier → (first : ℕ) (g : List ℕ) → first ≡ first_cell o k → g ≡ group_at o k
    → row_marks k first g ≡ step_marks o k
found_marks o k is first g first_is group_is =
    ap₂ (row_marks k) first_is group_is ∙ ap (λ t. of_barrier t (row_marks k (first_cell o k) (group_at o k))) (sym is)

pub marks_found : {E : Type 0} (o : Outline) (k : ℕ) → step_at o k ≡ Barrier → (first : ℕ) (g : List ℕ) → first ≡ first_cell o k
    → g ≡ group_at o k → (old new : List Mark) (r : Result (Unit {0}) E) → IfOk r (λ u. new ≡ old ++ row_marks k first g)
    → IfOk r (λ u. new ≡ old ++ step_marks o k)
marks_found {E} o k is first g first_is group_is old new r more =
    subst (λ ms. IfOk r (λ u. new ≡ old ++ ms)) (found_marks o k is first g first_is group_is) more

-- ---- the table of held cells

pub held_buffers : (o : Outline) → IsWellFormed o → (drawing_of o).held.buffers ≡ length o.buffers
unfolding drawing_of
held_buffers o a = (tables-upto o a.shape.few_ranks (are-steps o a) (length o.steps) (omega arith)).buffers

pub held_ranks : (o : Outline) → IsWellFormed o → (drawing_of o).held.ranks ≡ o.ranks
unfolding drawing_of
held_ranks o a = (tables-upto o a.shape.few_ranks (are-steps o a) (length o.steps) (omega arith)).ranks
