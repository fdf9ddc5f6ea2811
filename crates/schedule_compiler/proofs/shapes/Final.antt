-- The plan of a shape is sound, and the cells that hold its buffers hold what they mean.
use Rattle.std.proofs.Common.{ℕ, zero, suc, Bool, true, false, cond, ◌+◌, ◌-◌, ◌*◌, ◌/◌, ◌%◌, ◌^◌, div-add-mod', mod-lt, ◌≡◌, ◌≤◌, ◌<◌, ◌⊎◌}
use Rattle.std.proofs.Common.{inl, inr, eq-or-lt_of_le, List, [], ◌∷◌, refl, length, get_or, ap, ap₂, ◌∙◌, sym, subst, arith, Option, Some}
use Rattle.std.proofs.Common.{None, nat_lt, sum_by, le_of_suc-le-suc}
use Rattle.std.proofs.Math.Nat.{mul-le-mul_right, mul-le-mul_left, lt_of_mul-lt-mul_right}
use Rattle.std.proofs.lemmas.Bool.{ltb-false}
use Rattle.std.proofs.lemmas.List.Sums.{sum_by-cons}
use Rattle.ptl_types.specs.Operations.{bytes_of}
use Rattle.ptl_types.specs.declared.elements.ElemType.{ElemType}
use Rattle.ptl_types.specs.declared.elements.ElemType.TheVariants.{U8, I8, U16, I16, U32, I32, U64, I64}
use Rattle.plan_core.specs.declared.Cell.{Cell}
use Rattle.plan_core.specs.declared.Link.{Link}
use Rattle.plan_core.specs.Draw.{HeldCells, held_cell}
use Rattle.plan_core.specs.Members.{In}
use Rattle.plan_core.specs.Plan.{Plan, cell, link, no_cell, no_link}
use Rattle.plan_core.specs.Rounds.{Comes, IsRounds}
use Rattle.coll_shape.specs.declared.types.Buffer.{Buffer}
use Rattle.plan_core.specs.Values.{Inputs, value}
use Rattle.plan_core.specs.Sound.{AreInputsOf, SoundPlan}
use Rattle.coll_shape.specs.declared.types.CollStep.TheVariants.{Barrier}
use Rattle.coll_shape.specs.Outline.{Outline, buffer_at, group_at, list_bytes, read_buffer, step_at}
use Rattle.coll_shape.specs.Collectives.{buffer_after, named, source_of}
use Rattle.plan_steps.specs.StepContext.{StepContext, count, in_row}
use Rattle.plan_steps.specs.Rounds.{rounds}
use Rattle.plan_steps.specs.Sounding.{WellBuilt, with_cells}
use Rattle.coll_shape.specs.Folding.{at}
use Rattle.plan_steps.proofs.Bridge.{add_all-with}
use Rattle.plan_steps.proofs.Drawn.{Extends, drawn_all, extends-all, extends-refl, extends-trans, comes-extends}
use Rattle.plan_steps.proofs.Lengths.{length-value}
use Rattle.plan_steps.proofs.barrier.Laws.{round-comes, round-inside, round-stays}
use Rattle.plan_steps.proofs.RoundCounts.{rounds-enough}
use Rattle.plan_steps.specs.Collectives.{cells_of}
use Rattle.schedule_compiler.specs.shapes.Drawing.{drawing_of, drawn_inputs, drawn_upto, plan_of}
use Rattle.plan_steps.specs.declared.drawing.Drawing.{Drawing}
use Rattle.plan_steps.specs.Drawing.{drawn_step, site}
use Rattle.schedule_compiler.specs.shapes.Footprint.{Excess, Refused, footprint, judged, refusal, refusal_from, refused_at, size_of}
use Rattle.schedule_compiler.specs.shapes.Judging.{inputs_size}
use Rattle.schedule_compiler.proofs.shapes.Sizes.{size-inputs}
use Rattle.coll_shape.specs.WellFormed.{IsWellFormed, StepFits, and_one, made_upto}
use Rattle.schedule_compiler.specs.shapes.Results.{IsResult, IsResultCell}
use Rattle.schedule_compiler.specs.shapes.Results.IsResult.{IsEmpty}
use Rattle.coll_shape.specs.Meaning.{AreInputs, lists_of, meaning_of, meant_upto}
use Rattle.schedule_compiler.proofs.shapes.Whole.{Fine, sound_cells}
use Rattle.schedule_compiler.proofs.shapes.ByCollective.{Kind, after-long, kind_of}
use Rattle.schedule_compiler.proofs.shapes.Kept.{fine_after}
use Rattle.schedule_compiler.proofs.shapes.ByCollective.Kind.{Plain, Makes}
use Rattle.schedule_compiler.proofs.shapes.Means.{Means, fit_after, means_after, result-at}
use Rattle.schedule_compiler.proofs.shapes.Begin.{Begun, begun, fine-begun, means-begun}
use Rattle.coll_shape.specs.declared.limits.TheConstants.{MOST_GIVEN}
use Rattle.schedule_compiler.specs.declared.shapes.judging.TheConstants.{MOST_LINKS, MOST_BYTES}

-- a drawing that keeps what is kept
abbrev IsFine : Outline → ℕ → Drawing → Type 0
IsFine o m d = Fine o m d.plan d.held d.exits

begins : (o : Outline) → IsWellFormed o → Begun o o.inputs (drawn_inputs o o.inputs).plan (drawn_inputs o o.inputs).held
    (drawn_inputs o o.inputs).exits
begins o a = begun o a.shape.some_rank a.shape.few_ranks o.inputs a.shape.few_inputs

fine_upto : (o : Outline) → IsWellFormed o → (k : ℕ) → k ≤ length o.steps →
    Fine o (made_upto o k) (drawn_upto o k).plan (drawn_upto o k).held (drawn_upto o k).exits
unfolding drawn_upto
fine_upto o a zero h = fine-begun o (drawn_inputs o o.inputs).plan (drawn_inputs o o.inputs).held (drawn_inputs o o.inputs).exits a.held
    (begins o a)
fine_upto o a (suc k) h =
    let d = drawn_upto o k in
    let g = group_at o k in
    let t = step_at o k in
    let e = drawn_step o d t g in
    subst (λ v. Fine o (made_upto o (suc k)) v e.held e.exits) (sym (add_all-with d.plan (cells_of (site o d t g) t)))
    (fine_after o (made_upto o k) d.plan d.held d.exits g t (fine_upto o a k (omega arith)) (a.fits k (omega arith)))

pub fine-shape : (o : Outline) → IsWellFormed o → Fine o (length o.buffers) (drawing_of o).plan (drawing_of o).held (drawing_of o).exits
unfolding drawing_of
fine-shape o a = let d = drawn_upto o (length o.steps) in subst (λ v. Fine o v d.plan d.held d.exits) a.all
    (fine_upto o a (length o.steps) (omega arith))

-- ---- values
-- the lists have the lengths of the input cells
fit_begin : (o : Outline) (inputs : Inputs) → IsWellFormed o → AreInputs o inputs → AreInputsOf (drawn_inputs o o.inputs).plan inputs
fit_begin o inputs a ins i h =
    let be = begins o a in
    let n = o.ranks in
    let w = be.ranks in
    let h' : i < o.inputs * o.ranks = subst (λ v. i < v) (ap₂ (λ u v. u * v) ins.many w) h in
    let r_lt : i % n < n = mod-lt i (let s = a.shape.some_rank in let z : 0 < n = omega (arith, s) in z) in
    let split : i / n * n + i % n ≡ i = (let q = div-add-mod' i n in omega (arith, q)) in
    let b_lt : i / n < o.inputs = lt_of_mul-lt-mul_right n (let z : i / n * n < o.inputs * n = omega (arith, split, h') in z) in
    ap (λ v. length (get_or (get_or inputs (i / v) []) (i % v) [])) w
    ∙ ins.long (i / n) (i % n) b_lt r_lt
    ∙ sym (be.row_long (i / n) (i % n) b_lt r_lt)
    ∙ ap (λ v. (cell (drawn_inputs o o.inputs).plan v).length) (ap (λ v. n + v) split ∙ ap (λ v. v + i) (sym w))

record Meant (o : Outline) (inputs : Inputs) (m : ℕ) (d : Drawing) (lists : List (List (List ℕ))) : Type 0 where
  fit : AreInputsOf d.plan inputs
  means : Means o inputs m d.plan d.held lists

meant_all : (o : Outline) (inputs : Inputs) → IsWellFormed o → AreInputs o inputs → (k : ℕ) → k ≤ length o.steps →
    Meant o inputs (made_upto o k) (drawn_upto o k) (meant_upto o inputs k)
unfolding drawn_upto meant_upto
meant_all o inputs a ins zero h = record {
  fit = fit_begin o inputs a ins;
  means = means-begun o inputs (drawn_inputs o o.inputs).plan
      (drawn_inputs o o.inputs).held (drawn_inputs o o.inputs).exits ins.many (begins o a);
}
meant_all o inputs a ins (suc k) h =
    let d = drawn_upto o k in
    let g = group_at o k in
    let t = step_at o k in
    let e = drawn_step o d t g in
    let m = meant_all o inputs a ins k (omega arith) in
    let f = fine_upto o a k (omega arith) in
    let s = a.fits k (omega arith) in
    let w = sym (add_all-with d.plan (cells_of (site o d t g) t)) in record {
      fit = subst (λ v. AreInputsOf v inputs) w (fit_after o inputs ins.many (made_upto o k) d.plan d.held d.exits (meant_upto o inputs k)
          g t f m.fit m.means s);
      means = subst (λ v. Means o inputs (made_upto o (suc k)) v e.held (meant_upto o inputs (suc k))) w
          (means_after o inputs ins.many (made_upto o k) d.plan d.held d.exits (meant_upto o inputs k) g f m.fit m.means t s);
    }

pub inputs_fit : (o : Outline) (inputs : Inputs) → IsWellFormed o → AreInputs o inputs → AreInputsOf (plan_of o) inputs
unfolding drawing_of
inputs_fit o inputs a ins = (meant_all o inputs a ins (length o.steps) (omega arith)).fit

pub meaning : (o : Outline) (inputs : Inputs) → IsWellFormed o → AreInputs o inputs
    → (b r : ℕ) → b < length o.buffers → r < o.ranks → IsResult (value (plan_of o) inputs) (at (lists_of (meaning_of o inputs) b) r)
    (held_cell (drawing_of o).held b r)
unfolding drawing_of meaning_of
meaning o inputs a ins b r k l = (meant_all o inputs a ins (length o.steps) (omega arith)).means.lists b r
    (let w = a.all in omega (arith, w, k)) l

-- ---- sizes
member_le : (f : Cell → ℕ) (xs : List Cell) (c : ℕ) → c < length xs → f (get_or xs c no_cell) ≤ sum_by f xs
member_le f [] c h = absurd (omega arith)
member_le f (x ∷ xs) zero h = let e = sum_by-cons f x xs in omega arith
member_le f (x ∷ xs) (suc c) h = let e = sum_by-cons f x xs in let k = member_le f xs c (le_of_suc-le-suc h) in omega arith

sum_le : (xs : List Link) (m : ℕ) → ((l : ℕ) → l < length xs → (get_or xs l no_link).length ≤ m) → sum_by (λ k. k.length) xs ≤ length xs * m
sum_le [] m h = omega arith
sum_le (x ∷ xs) m h =
    let e = sum_by-cons (λ (k : Link). k.length) x xs in
    let a = h 0 (omega arith) in
    let b = sum_le xs m (λ l i. h (suc l) (omega arith)) in
    let q : suc (length xs) * m ≡ m + length xs * m = omega arith in
    omega (arith, e, a, b, q)

small_enough : (p : Plan) (inputs : ℕ) → WellBuilt p (inputs * p.ranks) → length p.links ≤ MOST_LINKS →
    sum_by (λ k. k.length) p.cells ≤ 1073741824 → SoundPlan p inputs
small_enough p inputs b at_most small = record {
  some_rank = b.some_rank;
  few_ranks = b.few_ranks;
  links_sound = b.links_sound;
  needs = b.needs;
  go_needs = b.go_needs;
  apart = b.apart;
  covered = b.covered;
  input_cells = b.input_cells;
  input_links = b.input_links;
  ranks_known = b.ranks_known;
  whole = b.whole;
  all_go = b.all_go;
  few_cells = (let m = b.many_links in let n = b.few_ranks in omega arith);
  few_together = (let m = b.many_links in let n = b.few_ranks in omega arith);
  few_bytes = (let s = sum_le p.links 1073741824 (λ l h. let k = b.links_sound l h in let w = k.within_source in let up = k.rising in
      let top = k.cells in let i = member_le (λ k. k.length) p.cells (link p l).source (omega arith) in omega arith) in
      let t : length p.links * 1073741824 ≤ MOST_LINKS * 1073741824 = mul-le-mul_right 1073741824 at_most in omega arith);
}

-- a shape that isn't refused is within the limits at its end
record Within (p : Plan) : Type 0 where
  links : length p.links ≤ MOST_LINKS
  bytes : sum_by (λ k. k.length) p.cells ≤ 1073741824

no_name : {n : Excess} → Some n ≡ None → ⊥
no_name e = cc

no_refusal : {n : Refused} → Some n ≡ None → ⊥
no_refusal e = cc

judged_within : (p : Plan) → judged (size_of p) ≡ None → Within p
judged_within p e = at_links (nat_lt MOST_LINKS (length p.links)) refl e
  where
    at_links : (b : Bool) → nat_lt MOST_LINKS (length p.links) ≡ b →
        cond b (Some Excess.Links) (cond (nat_lt MOST_BYTES (sum_by (λ k. k.length) p.cells)) (Some Excess.Bytes) None) ≡ None → Within p
    at_links true f e = absurd (no_name e)
    at_links false f e = at_bytes (nat_lt MOST_BYTES (sum_by (λ k. k.length) p.cells)) refl e
      where
        at_bytes : (c : Bool) → nat_lt MOST_BYTES (sum_by (λ k. k.length) p.cells) ≡ c → cond c (Some Excess.Bytes) None ≡ None → Within p
        at_bytes true g e = absurd (no_name e)
        at_bytes false g e = record { links = ltb-false _ _ f; bytes = (let i = ltb-false _ _ g in omega arith) }

none_refused : (o : Outline) (n k : ℕ) → Within (drawn_upto o k).plan → refusal_from o k n ≡ None → Within (drawn_upto o (k + n)).plan
none_refused o zero k w e = subst (λ v. Within (drawn_upto o v).plan) (let z : k ≡ k + 0 = omega arith in z) w
none_refused o (suc n) k w e = by (judged (footprint o k)) refl e (λ v f. none_refused o n (suc k) v f)
  where
    by : (x : Option Excess) → judged (footprint o k) ≡ x → refused_at k x (refusal_from o (suc k) n) ≡ None
        → (Within (drawn_upto o (suc k)).plan → refusal_from o (suc k) n ≡ None → Within (drawn_upto o (suc k + n)).plan) →
        Within (drawn_upto o (k + suc n)).plan
    by None j f later = subst (λ v. Within (drawn_upto o v).plan) (let z : suc k + n ≡ k + suc n = omega arith in z)
        (later (judged_within (drawn_upto o (suc k)).plan j) f)
    by (Some name) j f later = absurd (no_refusal f)

eight : (ty : ElemType) → bytes_of ty ≤ 8
eight U8 = omega arith
eight I8 = omega arith
eight U16 = omega arith
eight I16 = omega arith
eight U32 = omega arith
eight I32 = omega arith
eight U64 = omega arith
eight I64 = omega arith

-- the inputs of a shape are small
record FewInputs (o : Outline) (b : ℕ) : Type 0 where
  links : (inputs_size o b).links ≡ b * o.ranks
  bytes : (inputs_size o b).bytes ≤ b * (o.ranks * 32768)

few_upto : (o : Outline) → IsWellFormed o → (b : ℕ) → b ≤ o.inputs → FewInputs o b
few_upto o a zero h = record { links = omega arith; bytes = omega arith }
few_upto o a (suc b) h =
    let f = few_upto o a b (omega arith) in
    let l = f.links in
    let y = f.bytes in
    let e = eight (buffer_at o b).ty in
    let n = a.short b (omega arith) in
    let x : list_bytes (buffer_at o b) ≤ MOST_GIVEN * bytes_of (buffer_at o b).ty = mul-le-mul_right (bytes_of (buffer_at o b).ty) n in
    let z : list_bytes (buffer_at o b) ≤ 32768 = omega (arith, x, e) in
    let w : o.ranks * list_bytes (buffer_at o b) ≤ o.ranks * 32768 = mul-le-mul_left o.ranks z in
    let q : suc b * (o.ranks * 32768) ≡ b * (o.ranks * 32768) + o.ranks * 32768 = omega arith in
    let r : suc b * o.ranks ≡ b * o.ranks + o.ranks = omega arith in
    record { links = omega (arith, l, r); bytes = omega (arith, y, w, q) }

small_within : (o : Outline) → IsWellFormed o → Within (drawn_inputs o o.inputs).plan
small_within o a =
    let f = few_upto o a o.inputs (omega arith) in
    let l = f.links in
    let y = f.bytes in
    let n = a.shape.few_ranks in
    let i : o.inputs ≤ 128 = (let u = a.shape.few_inputs in let v = a.shape.few_buffers in omega (arith, u, v)) in
    let u : o.inputs * o.ranks ≤ 128 * o.ranks = mul-le-mul_right o.ranks i in
    let v : o.inputs * (o.ranks * 32768) ≤ 128 * (o.ranks * 32768) = mul-le-mul_right (o.ranks * 32768) i in
    let p = ap (λ (z : Rattle.schedule_compiler.specs.declared.shapes.footprints.Size.Size). z.links) (size-inputs o o.inputs) in
    let q = ap (λ (z : Rattle.schedule_compiler.specs.declared.shapes.footprints.Size.Size). z.bytes) (size-inputs o o.inputs) in
    record { links = omega (arith, l, u, n, p); bytes = omega (arith, y, v, n, q) }

start : (o : Outline) → IsWellFormed o → Within (drawn_upto o 0).plan
unfolding drawn_upto
start o a = small_within o a

within : (o : Outline) → IsWellFormed o → refusal o ≡ None → Within (drawn_upto o (length o.steps)).plan
unfolding refusal
within o a none = subst (λ v. Within (drawn_upto o v).plan) (let z : 0 + length o.steps ≡ length o.steps = omega arith in z)
    (none_refused o (length o.steps) 0 (start o a) none)

pub few_links : (o : Outline) → IsWellFormed o → refusal o ≡ None → length (plan_of o).links ≤ MOST_LINKS
unfolding drawing_of
few_links o a none = (within o a none).links

pub sound : (o : Outline) → IsWellFormed o → refusal o ≡ None → SoundPlan (plan_of o) o.inputs
unfolding drawing_of
sound o a none =
    let f = fine_upto o a (length o.steps) (omega arith) in
    let w = within o a none in
    small_enough (drawn_upto o (length o.steps)).plan o.inputs (subst (λ v. WellBuilt (drawn_upto o (length o.steps)).plan (o.inputs * v))
    (sym f.ranks) f.built) w.links w.bytes

-- ---- barriers
extends_steps : (o : Outline) (inputs : Inputs) (n k : ℕ) → Extends (drawn_upto o k).plan (drawn_upto o (k + n)).plan inputs
unfolding drawn_upto
extends_steps o inputs zero k = subst (λ v. Extends (drawn_upto o k).plan (drawn_upto o v).plan inputs)
    (let z : k ≡ k + 0 = omega arith in z) (extends-refl (drawn_upto o k).plan inputs)
extends_steps o inputs (suc n) k =
    let d = drawn_upto o k in
    let t = step_at o k in
    let g = group_at o k in
    subst (λ v. Extends d.plan (drawn_upto o v).plan inputs) (let z : suc k + n ≡ k + suc n = omega arith in z)
    (extends-trans d.plan (drawn_upto o (suc k)).plan (drawn_upto o (suc k + n)).plan inputs
    (subst (λ v. Extends d.plan v inputs) (sym (add_all-with d.plan (cells_of (site o d t g) t)))
    (extends-all d.plan (cells_of (site o d t g) t) inputs))
    (extends_steps o inputs n (suc k)))

dummies : ℕ → Inputs
dummies zero = []
dummies (suc n) = [] ∷ dummies n

length-dummies : (n : ℕ) → length (dummies n) ≡ n
unfolding dummies
length-dummies zero = refl
length-dummies (suc n) = ap suc (length-dummies n)

-- the rounds of a barrier right after it
record AreRounds (q : Plan) (s : StepContext) : Type 0 where
  stays : (j r : ℕ) → j < rounds (count s) → r < count s → Comes q (in_row s j r) (in_row s (suc j) r)
  comes : (j m r : ℕ) → j < rounds (count s) → m < count s → r < count s → (m + 2 ^ j) % count s ≡ r →
      Comes q (in_row s j m) (in_row s (suc j) r)
  inside : (j r : ℕ) → j ≤ rounds (count s) → r < count s → in_row s j r < length q.cells

barrier_now : (o : Outline) (m : ℕ) (p : Plan) (h : HeldCells) (e : List ℕ) (g : List ℕ) → (fine : Fine o m p h e) →
    (fits : StepFits o m g Barrier)
    → AreRounds (with_cells p (cells_of (Rattle.plan_steps.specs.Beginning.site_of o p h e None g) Barrier))
    (Rattle.plan_steps.specs.Beginning.site_of o p h e None g)
barrier_now o m p h e g fine fits =
    let s = Rattle.plan_steps.specs.Beginning.site_of o p h e None g in
    let q = with_cells p (cells_of s Barrier) in
    let ins = dummies o.inputs in
    let c : length (dummies o.inputs) * p.ranks ≡ o.inputs * o.ranks = ap₂ (λ u v. u * v) (length-dummies o.inputs) fine.ranks in
    let dr = drawn_all p (cells_of s Barrier) ins (subst (WellBuilt p) (sym c) fine.built) (let b = fine.behind in let r = fine.ranks in
    omega (arith, b, r, c)) (sound_cells o m p h e g fine Barrier fits) in record {
      stays = λ j r t l. round-stays q ins s fits.members.some fits.members.at_most dr j r t l;
      comes = λ j m r t k l z. round-comes q ins s fits.members.some fits.members.at_most dr j m r t k l z;
      inside = λ j r t l. round-inside q ins s fits.members.some fits.members.at_most dr j r t l;
    }

plan_next : (o : Outline) (k : ℕ) → step_at o k ≡ Barrier → (drawn_upto o (suc k)).plan ≡ with_cells (drawn_upto o k).plan
    (cells_of (site o (drawn_upto o k) Barrier (group_at o k)) Barrier)
unfolding drawn_upto
plan_next o k e = add_all-with (drawn_upto o k).plan (cells_of (site o (drawn_upto o k) (step_at o k) (group_at o k)) (step_at o k))
    ∙ ap (λ t. with_cells (drawn_upto o k).plan (cells_of (site o (drawn_upto o k) t (group_at o k)) t)) e

-- in the whole plan
record BarrierOf (o : Outline) (k : ℕ) : Type 0 where
  rounds_are : AreRounds (plan_of o) (site o (drawn_upto o k) Barrier (group_at o k))

barrier_of : (o : Outline) → IsWellFormed o → (k : ℕ) → k < length o.steps → step_at o k ≡ Barrier → BarrierOf o k
unfolding drawing_of
barrier_of o a k h is =
    let d = drawn_upto o k in
    let g = group_at o k in
    let s = site o d Barrier g in
    let f = fine_upto o a k (omega arith) in
    let fits : StepFits o (made_upto o k) g Barrier = subst (StepFits o (made_upto o k) g) is (a.fits k h) in
    let now : AreRounds (drawn_upto o (suc k)).plan s = subst (λ v. AreRounds v s) (sym (plan_next o k is))
    (barrier_now o (made_upto o k) d.plan d.held d.exits g f fits) in
    let ins = dummies 0 in
    let more : Extends (drawn_upto o (suc k)).plan (drawn_upto o (length o.steps)).plan ins =
    subst (λ w. Extends (drawn_upto o (suc k)).plan (drawn_upto o w).plan ins) (left k (length o.steps) h)
    (extends_steps o ins (steps_left k (length o.steps)) (suc k)) in
    record {
      rounds_are = record {
        stays = λ j r t l. comes-extends (drawn_upto o (suc k)).plan (drawn_upto o (length o.steps)).plan ins more (in_row s j r)
            (in_row s (suc j) r) (now.inside (suc j) r t l) (now.stays j r t l);
        comes = λ j m r t u l z. comes-extends (drawn_upto o (suc k)).plan (drawn_upto o (length o.steps)).plan ins more (in_row s j m)
            (in_row s (suc j) r) (now.inside (suc j) r t l) (now.comes j m r t u l z);
        inside = λ j r t l. let x = now.inside j r t l in let y = more.longer in omega (arith, x, y);
      };
    }
  where
    steps_left : ℕ → ℕ → ℕ
    steps_left k n = n - suc k

    left : (k n : ℕ) → k < n → suc k + steps_left k n ≡ n
    left k n h = omega arith

pub barrier-rounds : (o : Outline) → IsWellFormed o → (k : ℕ) → k < length o.steps → step_at o k ≡ Barrier
    → IsRounds (plan_of o) (length (group_at o k)) (rounds (length (group_at o k)))
    (in_row (site o (drawn_upto o k) Barrier (group_at o k)))
barrier-rounds o a k h is =
    let b = (barrier_of o a k h is).rounds_are in
    record {
      stays = λ j r t l. b.stays j r t l;
      comes = λ j m r t u l z. b.comes j m r t u l z;
      enough =
          rounds-enough (length (group_at o k)) (a.shape.members k h).at_most;
    }

pub barrier-cells : (o : Outline) → IsWellFormed o → (k : ℕ) → k < length o.steps → step_at o k ≡ Barrier
    → (j r : ℕ) → j ≤ rounds (length (group_at o k)) → r < length (group_at o k) → in_row (site o (drawn_upto o k) Barrier (group_at o k))
    j r < length (plan_of o).cells
barrier-cells o a k h is j r t l = (barrier_of o a k h is).rounds_are.inside j r t l

-- ---- the cells that hold buffers
pub result-cell : (o : Outline) → IsWellFormed o → (b r c : ℕ) → b < length o.buffers → r < o.ranks →
    held_cell (drawing_of o).held b r ≡ Some c → IsResultCell (plan_of o) (buffer_at o b) r c
result-cell o a b r c k l z =
    let f = fine-shape o a in
    let w = f.holders b r k l (f.held_in b r c k l z).1 in
    let e : w.number ≡ c = one (sym w.is ∙ z) in
    subst (IsResultCell (plan_of o) (buffer_at o b) r) e (record { in_plan = w.in_plan; rank = w.rank; ty = w.ty; long = w.long })
  where
    one : {a b : ℕ} → Some a ≡ Some b → a ≡ b
    one f = cc

-- a cell holds a buffer exactly at its holders
pub held-holder : (o : Outline) → IsWellFormed o → (b r c : ℕ) → b < length o.buffers → r < o.ranks →
    held_cell (drawing_of o).held b r ≡ Some c → In r (buffer_at o b).spread.holders
held-holder o a b r c k l z = ((fine-shape o a).held_in b r c k l z).1

-- a buffer that some rank holds has an element there
long_upto : (o : Outline) → IsWellFormed o → (k : ℕ) → k ≤ length o.steps → (b r : ℕ) → b < made_upto o k →
    In r (buffer_at o b).spread.holders → 1 ≤ (buffer_at o b).spread.length
long_upto o a zero h b r l i = a.some b l
long_upto o a (suc k) h b r l i = by (kind_of (step_at o k)) (λ b r l i. long_upto o a k (omega arith) b r l i)
  where
    fits : StepFits o (made_upto o k) (group_at o k) (step_at o k)
    fits = a.fits k (omega arith)

    Longs : ℕ → Type 0
    Longs m = (b r : ℕ) → b < m → In r (buffer_at o b).spread.holders → 1 ≤ (buffer_at o b).spread.length

    by : Kind (step_at o k) → ((b r : ℕ) → b < made_upto o k → In r (buffer_at o b).spread.holders → 1 ≤ (buffer_at o b).spread.length) →
        1 ≤ (buffer_at o b).spread.length
    by (Plain src res) before = before b r (subst (λ v. b < and_one v (made_upto o k)) res l) i
    by (Makes x y src res) before = at (eq-or-lt_of_le (le_of_suc-le-suc (subst (λ v. b < and_one v (made_upto o k)) res l)))
      where
        at : (b ≡ made_upto o k) ⊎ (b < made_upto o k) → 1 ≤ (buffer_at o b).spread.length
        at (inr w) = before b r w i
        at (inl e) =
            let n = fits.next y res in
            let e' : b ≡ y = omega (arith, e, n) in
            let makes : buffer_at o b ≡ named (buffer_at o y).name
            (buffer_after (group_at o k) (step_at o k) (read_buffer o (source_of (step_at o k)))) = ap (buffer_at o) e'
            ∙ fits.makes y res in
            let long = after-long (group_at o k) (step_at o k) (read_buffer o (source_of (step_at o k))) fits.members.some fits.reads
            (λ q j. subst (λ v. In q (read_buffer o v).spread.holders → 1 ≤ (read_buffer o v).spread.length) (sym src)
            (before x q (fits.source x src)) j) r (subst (λ (v : Buffer). In r v.spread.holders) makes i) in
            subst (λ (v : Buffer). 1 ≤ v.spread.length) (sym makes) long

pub held-long : (o : Outline) → IsWellFormed o → (b r : ℕ) → b < length o.buffers → In r (buffer_at o b).spread.holders →
    1 ≤ (buffer_at o b).spread.length
held-long o a b r k i = long_upto o a (length o.steps) (omega arith) b r (let w = a.all in omega (arith, w, k)) i

-- no cell holds it exactly where the list is empty
pub value-held : (o : Outline) (inputs : Inputs) → IsWellFormed o → AreInputs o inputs → (b r c : ℕ) → b < length o.buffers → r < o.ranks
    → held_cell (drawing_of o).held b r ≡ Some c → value (plan_of o) inputs c ≡ at (lists_of (meaning_of o inputs) b) r
value-held o inputs a ins b r c k l z = result-at (value (plan_of o) inputs) (at (lists_of (meaning_of o inputs) b) r)
    (held_cell (drawing_of o).held b r) c (meaning o inputs a ins b r k l) z

pub unheld-empty : (o : Outline) (inputs : Inputs) → IsWellFormed o → AreInputs o inputs → (b r : ℕ) → b < length o.buffers → r < o.ranks
    → held_cell (drawing_of o).held b r ≡ None → at (lists_of (meaning_of o inputs) b) r ≡ []
unheld-empty o inputs a ins b r k l z = by (held_cell (drawing_of o).held b r) z (meaning o inputs a ins b r k l)
  where
    by : (v : Option ℕ) → v ≡ None → IsResult (value (plan_of o) inputs) (at (lists_of (meaning_of o inputs) b) r) v →
        at (lists_of (meaning_of o inputs) b) r ≡ []
    by None e (IsEmpty h) = h
    by (Some c) e h = cc

pub empty-unheld : (o : Outline) (inputs : Inputs) → IsWellFormed o → AreInputs o inputs → (b r : ℕ) → b < length o.buffers → r < o.ranks
    → at (lists_of (meaning_of o inputs) b) r ≡ [] → held_cell (drawing_of o).held b r ≡ None
empty-unheld o inputs a ins b r k l z = by (held_cell (drawing_of o).held b r) refl
  where
    by : (v : Option ℕ) → held_cell (drawing_of o).held b r ≡ v → v ≡ None
    by None e = refl
    by (Some c) e =
        let w = result-cell o a b r c k l e in
        let f = fine-shape o a in
        let long = length-value (plan_of o) inputs (o.inputs * o.ranks) f.built (inputs_fit o inputs a ins) c w.in_plan in
        let none = ap length (value-held o inputs a ins b r c k l e ∙ z) in
        let some = held-long o a b r k (held-holder o a b r c k l e) in
        let bytes = Rattle.op_laws.proofs.Bytes.bytes-pos (buffer_at o b).ty in
        let most = mul-le-mul_right (bytes_of (buffer_at o b).ty) some in
        let size = w.long in
        absurd (omega (arith, long, none, most, bytes, size))
