-- The drawing after some inputs, and after some steps: its tables, and room for the next step.
use Rattle.std.proofs.Common.{ℕ, zero, suc, Bool, true, false, cond, nat_lt, Err, ◌+◌, ◌-◌, ◌*◌, ◌≡◌, ◌<◌, ◌≤◌, List, Option, Some, None}
use Rattle.std.proofs.Common.{refl, length, map, get_or, ap, ◌∙◌, sym, subst, arith}
use Rattle.std.proofs.Math.Nat.{mul-le-mul_right}
use Rattle.std.proofs.lemmas.Bool.{ltb-false}
use Rattle.std.proofs.lemmas.List.{get_or_read_under}
use Rattle.plan_core.specs.Draw.{HasRoom, HeldCells, go_plan, hold, links_of}
use Rattle.plan_core.specs.Plan.{from_to}
use Rattle.plan_core.proofs.Drawing.{length-row, links-in_all, many-cells}
use Rattle.coll_shape.specs.declared.types.CollStep.{CollStep}
use Rattle.coll_shape.specs.declared.types.Buffer.{Buffer}
use Rattle.coll_shape.specs.WellFormed.{IsShape}
use Rattle.coll_shape.specs.Outline.{Outline, buffer_at, no_buffer, group_at, step_at}
use Rattle.coll_shape.specs.Collectives.{result_of}
use Rattle.plan_steps.specs.declared.ends.StepExit.{StepExit}
use Rattle.plan_steps.specs.Beginning.{held_after}
use Rattle.plan_steps.specs.Drawing.{IsBegun}
use Rattle.plan_steps.proofs.Settled.{buffers-held_by, length-exits_by, ranks-held_by}
use Rattle.plan_steps.proofs.StepSizes.{links-row}
use Rattle.schedule_compiler.specs.declared.shapes.footprints.Size.{Size}
use Rattle.plan_steps.specs.Collectives.{cells_of, ends_of}
use Rattle.schedule_compiler.specs.shapes.Drawing.{drawing_of, drawn_input, drawn_inputs, drawn_upto, hold_row, input_cell, opened}
use Rattle.plan_steps.specs.declared.drawing.Drawing.{Drawing}
use Rattle.plan_steps.specs.Drawing.{drawn_step}
use Rattle.plan_steps.specs.Drawing.{site}
use Rattle.schedule_compiler.specs.declared.shapes.faults.CompileFault.{CompileFault}
use Rattle.schedule_compiler.specs.declared.shapes.faults.CompileFault.TheVariants.{TooMany, TooLarge, NoMemory}
use Rattle.schedule_compiler.specs.shapes.Footprint.{judged}
use Rattle.schedule_compiler.specs.shapes.Judging.{AreSteps, Judges, found_from, inputs_size, size_upto}
use Rattle.schedule_compiler.specs.shapes.Compiling.{Draws}
use Rattle.schedule_compiler.proofs.shapes.ByCollective.{at_most-after, room-for}
use Rattle.schedule_compiler.proofs.shapes.Sizes.{refusal-found, size-inputs, size-steps}
use Rattle.coll_shape.specs.declared.limits.TheConstants.{MOST_RANKS}
use Rattle.schedule_compiler.specs.declared.shapes.judging.TheConstants.{MOST_LINKS, MOST_BYTES}

-- ---- one more
next : (k : ℕ) → k + 1 ≡ suc k
next k = omega arith

pub row-none : (h : HeldCells) (b first : ℕ) → hold_row h b first 0 ≡ h
unfolding hold_row
row-none h b first = refl

row-suc : (h : HeldCells) (b first r : ℕ) → hold_row h b first (suc r) ≡ hold (hold_row h b first r) b r (first + r)
unfolding hold_row
row-suc h b first r = refl

pub row-next : (h : HeldCells) (b first r : ℕ) → hold_row h b first (r + 1) ≡ hold (hold_row h b first r) b r (first + r)
row-next h b first r = ap (hold_row h b first) (next r) ∙ row-suc h b first r

pub inputs-none : (o : Outline) → drawn_inputs o 0 ≡ opened o
unfolding drawn_inputs
inputs-none o = refl

inputs-suc : (o : Outline) (b : ℕ) → drawn_inputs o (suc b) ≡ drawn_input o (drawn_inputs o b) b
unfolding drawn_inputs
inputs-suc o b = refl

pub inputs-next : (o : Outline) (b : ℕ) → drawn_inputs o (b + 1) ≡ drawn_input o (drawn_inputs o b) b
inputs-next o b = ap (drawn_inputs o) (next b) ∙ inputs-suc o b

pub upto-none : (o : Outline) → drawn_upto o 0 ≡ drawn_inputs o o.inputs
unfolding drawn_upto
upto-none o = refl

upto-suc : (o : Outline) (k : ℕ) → drawn_upto o (suc k) ≡ drawn_step o (drawn_upto o k) (step_at o k) (group_at o k)
unfolding drawn_upto
upto-suc o k = refl

pub upto-next : (o : Outline) (k : ℕ) → drawn_upto o (k + 1) ≡ drawn_step o (drawn_upto o k) (step_at o k) (group_at o k)
upto-next o k = ap (drawn_upto o) (next k) ∙ upto-suc o k

pub upto-all : (o : Outline) (k : ℕ) → k ≡ length o.steps → drawn_upto o k ≡ drawing_of o
unfolding drawing_of
upto-all o k e = ap (drawn_upto o) e

-- ---- tables
-- they are of the shape's ranks and buffers, and there are few cells
pub record Tables (o : Outline) (d : Drawing) : Type 0 where
  pub exits : length d.exits ≡ o.ranks
  pub ranks : d.held.ranks ≡ o.ranks
  pub buffers : d.held.buffers ≡ length o.buffers
  pub at_most : length d.plan.cells ≤ MOST_RANKS + length d.plan.links

ranks-row : (h : HeldCells) (b first n : ℕ) → (hold_row h b first n).ranks ≡ h.ranks
unfolding hold_row hold
ranks-row h b first zero = refl
ranks-row h b first (suc n) = ranks-row h b first n

buffers-row : (h : HeldCells) (b first n : ℕ) → (hold_row h b first n).buffers ≡ h.buffers
unfolding hold_row hold
buffers-row h b first zero = refl
buffers-row h b first (suc n) = buffers-row h b first n

length-numbers : (k n : ℕ) → length (from_to k n) ≡ n
length-numbers k zero = refl
length-numbers k (suc n) = ap suc (length-numbers (suc k) n)

go-at_most : (n : ℕ) (remote : Bool) → n ≤ MOST_RANKS → length (go_plan n remote).cells ≤ MOST_RANKS + length (go_plan n remote).links
unfolding go_plan
go-at_most n remote h = let e = length-row Rattle.plan_core.specs.Draw.go_cell_of 0 n in omega (arith, e, h)

row-links : (o : Outline) (b : ℕ) → links_of (map (input_cell (buffer_at o b)) (from_to 0 o.ranks)) ≡ o.ranks
row-links o b = links-row (input_cell (buffer_at o b)) 0 o.ranks 1 (λ i. refl) ∙ (let e : o.ranks * 1 ≡ o.ranks = omega arith in e)

tables-opened : (o : Outline) → o.ranks ≤ MOST_RANKS → Tables o (opened o)
tables-opened o h = record { exits = length-numbers 0 o.ranks; ranks = refl; buffers = refl; at_most = go-at_most o.ranks o.remote h }

tables-input : (o : Outline) (d : Drawing) (b : ℕ) → Tables o d → Tables o (drawn_input o d b)
tables-input o d b t = record {
  exits = t.exits;
  ranks = ranks-row d.held b (length d.plan.cells) o.ranks ∙ t.ranks;
  buffers = buffers-row d.held b (length d.plan.cells) o.ranks ∙ t.buffers;
  at_most = (let f = t.at_most in
      let c = many-cells d.plan (map (input_cell (buffer_at o b)) (from_to 0 o.ranks)) in
      let l = links-in_all d.plan (map (input_cell (buffer_at o b)) (from_to 0 o.ranks)) in
      let n = length-row (input_cell (buffer_at o b)) 0 o.ranks in
      let m = row-links o b in
      omega (arith, f, c, l, n, m));
}

pub tables-inputs : (o : Outline) → o.ranks ≤ MOST_RANKS → (b : ℕ) → Tables o (drawn_inputs o b)
tables-inputs o h zero = subst (Tables o) (sym (inputs-none o)) (tables-opened o h)
tables-inputs o h (suc b) = subst (Tables o) (sym (inputs-suc o b)) (tables-input o (drawn_inputs o b) b (tables-inputs o h b))

ranks-after : (r : Option ℕ) (h : HeldCells) (g : List ℕ) (ends : List StepExit) → (held_after r h g ends).ranks ≡ h.ranks
ranks-after None h g ends = refl
ranks-after (Some b) h g ends = ranks-held_by h g ends b (length g)

buffers-after : (r : Option ℕ) (h : HeldCells) (g : List ℕ) (ends : List StepExit) → (held_after r h g ends).buffers ≡ h.buffers
buffers-after None h g ends = refl
buffers-after (Some b) h g ends = buffers-held_by h g ends b (length g)

tables-step : (o : Outline) (d : Drawing) (t : CollStep) (g : List ℕ) → 0 < length g → Tables o d → Tables o (drawn_step o d t g)
tables-step o d t g pos w = record {
  exits = length-exits_by d.exits g (ends_of (site o d t g) t) (length g) ∙ w.exits;
  ranks = ranks-after (result_of t) d.held g (ends_of (site o d t g) t) ∙ w.ranks;
  buffers = buffers-after (result_of t) d.held g (ends_of (site o d t g) t) ∙ w.buffers;
  at_most = at_most-after d.plan (site o d t g) t pos w.at_most;
}

pub tables-upto : (o : Outline) → o.ranks ≤ MOST_RANKS → AreSteps o → (k : ℕ) → k ≤ length o.steps → Tables o (drawn_upto o k)
tables-upto o h are zero l = subst (Tables o) (sym (upto-none o)) (tables-inputs o h o.inputs)
tables-upto o h are (suc k) l = subst (Tables o) (sym (upto-suc o k))
    (tables-step o (drawn_upto o k) (step_at o k) (group_at o k) (are.some k (omega arith)) (tables-upto o h are k (omega arith)))

-- ---- room for an input
links-inputs : (o : Outline) (b : ℕ) → (inputs_size o b).links ≡ b * o.ranks
links-inputs o zero = omega arith
links-inputs o (suc b) = let e = links-inputs o b in let r : suc b * o.ranks ≡ b * o.ranks + o.ranks = omega arith in omega (arith, e, r)

-- few cells and links after b inputs
pub at_most-inputs : (o : Outline) → IsShape o → (b : ℕ) → b ≤ o.inputs → (length (drawn_inputs o b).plan.links ≤ 32768) ×
    (length (drawn_inputs o b).plan.cells ≤ 33024)
at_most-inputs o shape b h =
    let l = ap (λ (z : Size). z.links) (size-inputs o b) ∙ links-inputs o b in
    let t = (tables-inputs o shape.few_ranks b).at_most in
    let i : b ≤ 128 = (let u = shape.few_inputs in let v = shape.few_buffers in omega (arith, u, v, h)) in
    let m : b * o.ranks ≤ 128 * o.ranks = mul-le-mul_right o.ranks i in
    let r = shape.few_ranks in
    (omega (arith, l, m, r), omega (arith, l, m, r, t))

pub room-input : (o : Outline) → IsShape o → (b : ℕ) → b ≤ o.inputs →
    HasRoom (drawn_inputs o b).plan (map (input_cell (buffer_at o b)) (from_to 0 o.ranks))
room-input o shape b h =
    let f = at_most-inputs o shape b h in
    let l = f.0 in
    let c = f.1 in
    let n = length-row (input_cell (buffer_at o b)) 0 o.ranks in
    let m = row-links o b in
    let r = shape.few_ranks in
    record { cells = omega (arith, c, n, r); links = omega (arith, l, m, r) }

-- ---- room for a step
size-grows : (o : Outline) (n k : ℕ) → (size_upto o k).links ≤ (size_upto o (k + n)).links
size-grows o zero k = let e = ap (λ v. (size_upto o v).links) (let z : k + 0 ≡ k = omega arith in z) in omega (arith, e)
size-grows o (suc n) k =
    let a = size-grows o n (suc k) in
    let e = ap (λ v. (size_upto o v).links) (let z : k + suc n ≡ suc k + n = omega arith in z) in
    omega (arith, a, e)

pub size-most : (o : Outline) (k : ℕ) → k ≤ length o.steps → (size_upto o k).links ≤ (size_upto o (length o.steps)).links
size-most o k h = let a = size-grows o (left k (length o.steps)) k in let e = ap (λ v. (size_upto o v).links) (there k (length o.steps) h)
    in omega (arith, a, e)
  where
    left : ℕ → ℕ → ℕ
    left k n = n - k

    there : (k n : ℕ) → k ≤ n → k + left k n ≡ n
    there k n h = omega arith

module _ (o : Outline) (shape : IsShape o) (are : AreSteps o) (at_most : (size_upto o (length o.steps)).links ≤ MOST_LINKS) (k : ℕ)
    (h : k < length o.steps) where
  abbrev d : Drawing
  d = drawn_upto o k

  abbrev t : CollStep
  t = step_at o k

  abbrev g : List ℕ
  g = group_at o k

  links-now : length d.plan.links ≡ (size_upto o k).links
  links-now = ap (λ (z : Size). z.links) (size-steps o are k (omega arith))

  links-then : length d.plan.links + links_of (cells_of (site o d t g) t) ≤ MOST_LINKS
  links-then =
      let e = links-in_all d.plan (cells_of (site o d t g) t) in
      let u = ap (λ (z : Drawing). length z.plan.links) (upto-suc o k) in
      let s = ap (λ (z : Size). z.links) (size-steps o are (suc k) h) in
      let m = size-most o (suc k) h in
      omega (arith, e, u, s, m, at_most)

  pub room-step : HasRoom d.plan (cells_of (site o d t g) t)
  room-step = room-for d.plan (site o d t g) t (are.some k h) (tables-upto o shape.few_ranks are k (omega arith)).at_most links-then

  pub begun-step : IsBegun o d t g
  begun-step =
      let w = tables-upto o shape.few_ranks are k (omega arith) in record {
        members = shape.members k h;
        root = are.roots k h;
        source = shape.sources k h;
        result = shape.results k h;
        exits = w.exits;
        ranks = w.ranks;
        buffers = w.buffers;
        cells = (let f = w.at_most in let l = links-then in omega (arith, f, l));
      }

-- ---- a shape without a refusal is within the limit
no-name : {n : Rattle.schedule_compiler.specs.shapes.Footprint.Excess} → Some n ≡ None → ⊥
no-name e = cc

judged-at_most : (f : Size) → judged f ≡ None → f.links ≤ MOST_LINKS
judged-at_most f e = at (nat_lt MOST_LINKS f.links) refl e
  where
    at : (b : Bool) → nat_lt MOST_LINKS f.links ≡ b → cond b (Some Rattle.schedule_compiler.specs.shapes.Footprint.Excess.Links)
        (cond (nat_lt MOST_BYTES f.bytes) (Some Rattle.schedule_compiler.specs.shapes.Footprint.Excess.Bytes) None) ≡ None → f.links ≤
        MOST_LINKS
    at true g e = absurd (no-name e)
    at false g e = ltb-false _ _ g

found-at_most : (o : Outline) (n k : ℕ) → (size_upto o k).links ≤ MOST_LINKS → found_from o k n ≡ None →
    (size_upto o (k + n)).links ≤ MOST_LINKS
found-at_most o zero k w e = subst (λ v. (size_upto o v).links ≤ MOST_LINKS) (let z : k ≡ k + 0 = omega arith in z) w
found-at_most o (suc n) k w e = by (judged (size_upto o (suc k))) refl e (λ v f. found-at_most o n (suc k) v f)
  where
    no-refusal : {r : Rattle.schedule_compiler.specs.shapes.Footprint.Refused} → Some r ≡ None → ⊥
    no-refusal f = cc

    by : (x : Option Rattle.schedule_compiler.specs.shapes.Footprint.Excess) → judged (size_upto o (suc k)) ≡ x →
        Rattle.schedule_compiler.specs.shapes.Footprint.refused_at k x (found_from o (suc k) n) ≡ None
        → ((size_upto o (suc k)).links ≤ MOST_LINKS → found_from o (suc k) n ≡ None → (size_upto o (suc k + n)).links ≤ MOST_LINKS) →
        (size_upto o (k + suc n)).links ≤ MOST_LINKS
    by None j f later = subst (λ v. (size_upto o v).links ≤ MOST_LINKS) (let z : suc k + n ≡ k + suc n = omega arith in z)
        (later (judged-at_most (size_upto o (suc k)) j) f)
    by (Some name) j f later = absurd (no-refusal f)

pub not-refused : (o : Outline) → IsShape o → found_from o 0 (length o.steps) ≡ None → (size_upto o (length o.steps)).links ≤ MOST_LINKS
not-refused o shape e =
    subst (λ v. (size_upto o v).links ≤ MOST_LINKS) (let z : 0 + length o.steps ≡ length o.steps = omega arith in z)
    (found-at_most o (length o.steps) 0 (let l = (at_most-inputs o shape o.inputs (omega arith)).0 in let s =
    ap (λ (z : Size). z.links)
    (size-inputs o o.inputs) in
    omega (arith, l, s)) e)

-- what is judged is answered
pub judged-fault : (o : Outline) → AreSteps o → (f : CompileFault) → Judges o (Err f) → Draws o (Err f)
judged-fault o are (TooMany k) e = refusal-found o are ∙ e
judged-fault o are (TooLarge k) e = refusal-found o are ∙ e
judged-fault o are NoMemory e = absurd e

-- ---- one place of the table
pub ranks-one : (h : HeldCells) (b r c : ℕ) → (hold h b r c).ranks ≡ h.ranks
unfolding hold
ranks-one h b r c = refl

pub buffers-one : (h : HeldCells) (b r c : ℕ) → (hold h b r c).buffers ≡ h.buffers
unfolding hold
buffers-one h b r c = refl

-- ---- what holds of a drawing holds of one that is the same
pub as-drawn : (P : Drawing → CollStep → List ℕ → Type 0) → {d e : Drawing} {s t : CollStep} {g k : List ℕ}
    → d ≡ e → s ≡ t → g ≡ k → P d s g → P e t k
as-drawn P {d} {e} {s} {t} {g} {k} a b u x = subst (λ v. P v t k) a (subst (λ v. P d v k) b (subst (λ v. P d s v) u x))

pub step-after : (o : Outline) → {d e : Drawing} {s t : CollStep} {g k : List ℕ} → d ≡ e → s ≡ t → g ≡ k
    → drawn_step o d s g ≡ drawn_step o e t k
step-after o {d} {e} {s} {t} {g} {k} a b u =
    ap (λ v. drawn_step o v s g) a ∙ ap (λ v. drawn_step o e v g) b ∙ ap (λ v. drawn_step o e t v) u

-- a buffer of the shape, whatever stands past the last
pub the-buffer : (o : Outline) (b : ℕ) (xs : List Buffer) (x : Buffer) → xs ≡ o.buffers → b < length o.buffers → x ≡ get_or xs b x →
    buffer_at o b ≡ x
the-buffer o b xs x e l f = sym (get_or_read_under o.buffers b (length o.buffers) x no_buffer (f ∙ ap (λ ys. get_or ys b x) e) l refl)
