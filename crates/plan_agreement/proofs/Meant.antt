-- Results that are computed as in the shape's own plan are what the shape means.
use Rattle.std.proofs.Common.{ℕ, zero, suc, take, drop, ◌+◌, ◌*◌, ◌/◌, ◌%◌, ◌≡◌, ◌≤◌, ◌<◌, List, [], length, map, get_or}
use Rattle.std.proofs.Common.{Option, Some, None, refl, ap, ap₂, sym, subst, div-add-mod', mod-eq_of_lt}
use Rattle.std.proofs.Math.Nat.{mul-le-mul_right}
use Rattle.std.proofs.lemmas.List.Elements.{All-append, All-drop, All-nil, All-take}
use Rattle.number_lists.specs.Numbers.{from_to}
use Rattle.ptl_types.specs.Elements.{part}
use Rattle.coll_shape.specs.Rows.{in_rows}
use Rattle.coll_shape.proofs.Rows.{row-at, rows-many}
use Rattle.std.proofs.Common.{◌∙◌, arith}
use Rattle.std.proofs.Common.{mod-lt, inl, inr}
use Rattle.std.specs.Prelude.{All, MatchOption}
use Rattle.std.proofs.lemmas.Bool.{cases_lt}
use Rattle.std.proofs.lemmas.List.{get_or_past, length-map, take-map}
use Rattle.coll_shape.specs.Folding.{at}
use Rattle.coll_shape.specs.Meaning.{AreInputs, Lists, lists_of, meaning_of}
use Rattle.coll_shape.specs.Outline.{Outline}
use Rattle.coll_shape.specs.WellFormed.{IsWellFormed}
use Rattle.given_lines.specs.declared.given.Mark.{Mark}
use Rattle.given_lines.specs.declared.given.Mark.TheVariants.{Result, Enter, Leave}
use Rattle.plan_core.specs.Draw.{held_cell}
use Rattle.plan_core.specs.Plan.{Plan, cell}
use Rattle.plan_core.specs.Sound.{AreInputsOf, SoundPlan}
use Rattle.plan_core.specs.Values.{value}
use Rattle.plan_core.proofs.Values.{get_or-values, length-value}
use Rattle.plan_tables.proofs.Passes.{get-row}
use Rattle.plan_slices.specs.declared.cut.Cut.{Cut}
use Rattle.plan_slices.specs.Slices.{AreCuts, AreSlices, block, cut_at, slice, slice_at, slice_of, sliced}
use Rattle.plan_slices.proofs.Landing.{block-pos, blocks, slice-blocks}
use Rattle.plan_slices.proofs.Together.{length-of, same-first, same-slices}
use Rattle.plan_slices.proofs.Values.{Given, inputs-sliced, sliced-cells, value-sliced}
use Rattle.schedule_compiler.specs.shapes.Drawing.{drawing_of, plan_of}
use Rattle.schedule_compiler.proofs.shapes.Final.{inputs_fit, result-cell, unheld-empty, value-held}
use Rattle.plan_terms.specs.terms.Terms.{IsSolution, Keeps, Solved, Table, input_at}
use Rattle.plan_terms.specs.Cells.{AreCells, Suits}
use Rattle.plan_terms.proofs.NextCell.{suits_before}
use Rattle.plan_terms.proofs.terms.Runs.{get-map}
use Rattle.mark_judge.specs.Due.{mark_at}
use Rattle.plan_agreement.specs.declared.comparing.Unlike.{Unlike}
use Rattle.plan_agreement.specs.Agreement.{AreAlikeTo, AreMeantTo, AreNoResultsTo, IsAlike, IsAlwaysMeant, IsFirstResult}
use Rattle.plan_agreement.specs.Agreement.{IsFirstUnlike, IsOpenAt, IsPartAlike, IsPartAlikeAt, IsPartAlwaysMeant, IsPlanFor, IsResult}
use Rattle.plan_agreement.specs.Agreement.{held_cut, held_places, unsliced}
use Rattle.plan_agreement.specs.Evaluated.{CutAlike, Evaluated, IsEvaluated}

-- ---- the inputs' bytes
get_nothing : {X : Type 0} (i : ℕ) (d : X) → get_or [] i d ≡ d
get_nothing i d = get_or_past [] i d (omega arith)

pub input_bytes : (o : Outline) (inputs : Lists) (ranks : ℕ) → ranks ≡ o.ranks → 0 < ranks → AreInputs o inputs → (i : ℕ)
    → All (λ x. x < 256) (input_at ranks inputs i)
input_bytes o inputs ranks e some ins i =
    elim (cases_lt (i / ranks) o.inputs) [
      | inl h ↦
          let r : i % ranks < o.ranks = subst (λ n. i % ranks < n) e (mod-lt i some) in
          ins.bytes (i / ranks) (i % ranks) h r
      | inr h ↦
          let past : length inputs ≤ i / ranks = omega (arith, ins.many, h) in
          let none : get_or inputs (i / ranks) [] ≡ [] = get_or_past inputs (i / ranks) [] past in
          let nothing : input_at ranks inputs i ≡ [] =
          ap (λ (v : List (List ℕ)). get_or v (i % ranks) []) none ∙ get_nothing (i % ranks) [] in
          let none_small : All (λ (x : ℕ). x < 256) [] = λ k d l. absurd (omega (arith, l)) in
          subst (All (λ x. x < 256)) (sym nothing) none_small
    ]

-- ---- the inputs of a slice
-- slice j of all inputs, where the cells are cut so
abbrev inner_of : (o : Outline) (cuts : List Cut) (j : ℕ) (inputs : Lists) → Lists
inner_of o cuts j inputs =
    in_rows o.ranks o.inputs (map (λ i. slice_at cuts j (o.ranks + i) (input_at o.ranks inputs i)) (from_to 0 (o.inputs * o.ranks)))

row-of : (n m i : ℕ) → 0 < n → i < m * n → i / n < m
row-of n m i some h = elim (cases_lt (i / n) m) [
  | inl l ↦ l
  | inr l ↦
      let a : m * n ≤ i / n * n = mul-le-mul_right n l in
      let b = div-add-mod' i n in
      absurd (omega (arith, h, a, b))
]

inner-at : (o : Outline) (cuts : List Cut) (j : ℕ) (inputs : Lists) → 0 < o.ranks → (i : ℕ) → i < o.inputs * o.ranks
    → input_at o.ranks (inner_of o cuts j inputs) i ≡ slice_at cuts j (o.ranks + i) (input_at o.ranks inputs i)
inner-at o cuts j inputs some i h =
    let f : ℕ → List ℕ = λ i. slice_at cuts j (o.ranks + i) (input_at o.ranks inputs i) in
    row-at o.ranks o.inputs (i / o.ranks) (i % o.ranks) (map f (from_to 0 (o.inputs * o.ranks))) [] (row-of o.ranks o.inputs i some h)
    (mod-lt i some)
    ∙ ap (λ n. get_or (map f (from_to 0 (o.inputs * o.ranks))) n []) (div-add-mod' i o.ranks)
    ∙ get-row f (o.inputs * o.ranks) i [] h

inner-slices : (p : Plan) (o : Outline) (cuts ks : List Cut) (j : ℕ) (inputs : Lists) → p.ranks ≡ o.ranks → 0 < o.ranks
    → length inputs ≡ o.inputs → ((i : ℕ) → i < o.inputs * o.ranks → cut_at cuts (o.ranks + i) ≡ cut_at ks (o.ranks + i))
    → AreSlices p ks j inputs (inner_of o cuts j inputs)
inner-slices p o cuts ks j inputs e some many alike =
    let count : length (inner_of o cuts j inputs) ≡ length inputs = rows-many o.ranks o.inputs _ ∙ sym many in
    record {
      many = count;
      each = λ i h.
          let below : i < o.inputs * o.ranks = subst (λ n. i < n) (ap₂ (λ n m. n * m) many e) h in
          ap (λ n. input_at n (inner_of o cuts j inputs) i) e
          ∙ inner-at o cuts j inputs some i below
          ∙ ap (λ (k : Cut). slice_of k (j % k.count) (input_at o.ranks inputs i)) (alike i below)
          ∙ sym (ap (λ n. slice_at ks j (n + i) (input_at n inputs i)) e);
    }

-- bytes all
All-slice : (k : Cut) (j n : ℕ) (xs : List ℕ) → All (λ x. x < 256) xs → All (λ x. x < 256) (slice k j n xs)
All-slice k j zero xs all = All-nil (λ x. x < 256)
All-slice k j (suc n) xs all =
    All-append (λ x. x < 256) (part (j * k.width) k.width xs) (slice k j n (drop (block k) xs))
    (All-take (λ x. x < 256) k.width (drop (j * k.width) xs) (All-drop (λ x. x < 256) (j * k.width) xs all))
    (All-slice k j n (drop (block k) xs) (All-drop (λ x. x < 256) (block k) xs all))

inner-bytes : (o : Outline) (cuts : List Cut) (j : ℕ) (inputs : Lists) (ranks : ℕ) → ranks ≡ o.ranks → 0 < ranks → AreInputs o inputs
    → (i : ℕ) → All (λ x. x < 256) (input_at ranks (inner_of o cuts j inputs) i)
inner-bytes o cuts j inputs ranks e some ins i =
    let own : 0 < o.ranks = subst (λ n. 0 < n) e some in
    elim (cases_lt i (o.inputs * o.ranks)) [
      | inl h ↦
          subst (All (λ x. x < 256))
          (sym (ap (λ n. input_at n (inner_of o cuts j inputs) i) e ∙ inner-at o cuts j inputs own i h))
          (All-slice (cut_at cuts (o.ranks + i)) (j % (cut_at cuts (o.ranks + i)).count) _ (input_at o.ranks inputs i)
          (input_bytes o inputs o.ranks refl own ins i))
      | inr h ↦
          let row : o.inputs ≤ i / ranks = past-row o.inputs ranks i some (subst (λ n. o.inputs * n ≤ i) (sym e) h) in
          let many : length (inner_of o cuts j inputs) ≡ o.inputs = rows-many o.ranks o.inputs _ in
          let none : get_or (inner_of o cuts j inputs) (i / ranks) [] ≡ [] =
          get_or_past (inner_of o cuts j inputs) (i / ranks) [] (omega (arith, row, many)) in
          let nothing : input_at ranks (inner_of o cuts j inputs) i ≡ [] =
          ap (λ (v : List (List ℕ)). get_or v (i % ranks) []) none ∙ get_nothing (i % ranks) [] in
          subst (All (λ x. x < 256)) (sym nothing) (All-nil (λ x. x < 256))
    ]
  where
    past-row : (m n i : ℕ) → 0 < n → m * n ≤ i → m ≤ i / n
    past-row m n i some h = elim (cases_lt (i / n) m) [
      | inr l ↦ l
      | inl l ↦
          let a : suc (i / n) * n ≤ m * n = mul-le-mul_right n (let z : suc (i / n) ≤ m = omega (arith, l) in z) in
          let b : suc (i / n) * n ≡ i / n * n + n = grind arith in
          let c = div-add-mod' i n in
          let d = mod-lt i some in
          absurd (omega (arith, h, a, b, c, d))
    ]

-- ---- what stands at a cell's places
at_cell : (q : Plan) (count : ℕ) (t : Table) (cells : List (List ℕ)) (inputs : Lists) (V : ℕ → ℕ) (c : ℕ)
    → AreCells q count t (length q.cells) cells → Suits q count t inputs V → c < length q.cells
    → map V (get_or cells c []) ≡ value q inputs c
at_cell q count t cells inputs V c are suits h =
    sym (get-map V cells c)
    ∙ ap (λ (v : List (List ℕ)). get_or v c []) (are inputs V suits)
    ∙ get_or-values q inputs (length q.cells) c h

-- slice j of what a cell holds
at_slice : (p : Plan) (count : ℕ) (t : Table) (v : Evaluated) (j : ℕ) (inputs inner : Lists) (V : ℕ → ℕ) (c : ℕ) → IsEvaluated p count t v
    → Given p v.cuts j inputs inner → length inner ≡ count → IsSolution t inner V → c < length p.cells
    → map V (get_or v.places c []) ≡ slice_at v.cuts j c (value p inputs c)
at_slice p count t v j inputs inner V c done given many solution h =
    at_cell (sliced p v.cuts) count t v.places inner V c done.are
    (record { many = many; fits = inputs-sliced p v.cuts j inputs inner given; solution = solution })
    (subst (λ n. c < n) (sym (sliced-cells p v.cuts)) h)
    ∙ value-sliced p v.cuts j inputs inner given c h

-- ---- a list that is cut into whole blocks
pub record IsCutList (k : Cut) (xs : List ℕ) : Type 0 where
  pub blocks : ℕ
  pub long : length xs ≡ blocks * block k

cut-value : (p : Plan) (cuts : List Cut) (inputs : Lists) (c : ℕ) → SoundPlan p (length inputs) → AreInputsOf p inputs → AreCuts p cuts
    → c < length p.cells → IsCutList (cut_at cuts c) (value p inputs c)
cut-value p cuts inputs c sound fit cut h = record {
  blocks = (cell p c).length / block (cut_at cuts c);
  long = length-value p inputs sound fit c h ∙ blocks (cut_at cuts c) (cell p c).length (cut.cells c h).long;
}

slice-nothing : (k : Cut) (j : ℕ) → 0 < k.count → 0 < k.width → slice_of k j [] ≡ []
slice-nothing k j some wide = slice-blocks k (block-pos k some wide) j 0 [] (let z : 0 ≡ 0 * block k = grind arith in z)

-- ---- together
pub record AreCompared (p : Plan) (o : Outline) (count : ℕ) (t : Table) (given own : Evaluated) : Type 0 where
  pub many : count ≡ o.inputs
  pub ranks : t.ranks ≡ o.ranks
  pub some : 0 < o.ranks
  pub theirs : IsEvaluated p count t given
  pub ours : IsEvaluated (plan_of o) count t own
  pub ours_for : IsPlanFor (plan_of o) o
  pub alike : CutAlike given own o.ranks (o.inputs * o.ranks)
  pub solved : (inputs : Lists) → ((i : ℕ) → All (λ x. x < 256) (input_at t.ranks inputs i)) → Solved t inputs

module _ (p : Plan) (o : Outline) (count : ℕ) (t : Table) (given own : Evaluated) (wf : IsWellFormed o) (for : IsPlanFor p o)
    (both : AreCompared p o count t given own) (inputs : Lists) (ins : AreInputs o inputs) where
  -- what is meant of a buffer at a rank
  abbrev due_list : ℕ → ℕ → List ℕ
  due_list b r = at (lists_of (meaning_of o inputs) b) r

  sound-for : (q : Plan) → IsPlanFor q o → SoundPlan q (length inputs)
  sound-for q f = subst (SoundPlan q) (sym ins.many) f.sound

  solution : (j : ℕ) → Solved t (inner_of o given.cuts j inputs)
  solution j =
      both.solved (inner_of o given.cuts j inputs)
      (inner-bytes o given.cuts j inputs t.ranks both.ranks (subst (λ n. 0 < n) (sym both.ranks) both.some) ins)

  many-inner : (j : ℕ) → length (inner_of o given.cuts j inputs) ≡ count
  many-inner j = rows-many o.ranks o.inputs _ ∙ sym both.many

  -- slice j of the cell of a result
  their-slice : (j c : ℕ) → c < length p.cells
      → map (solution j).at (get_or given.places c []) ≡ slice_at given.cuts j c (value p inputs c)
  their-slice j c h =
      at_slice p count t given j inputs (inner_of o given.cuts j inputs) (solution j).at c both.theirs
      (record {
        sound = sound-for p for;
        fit = for.fits inputs ins;
        cuts = both.theirs.cuts;
        slices = inner-slices p o given.cuts given.cuts j inputs for.ranks both.some ins.many (λ i l. refl);
      })
      (many-inner j) (solution j).is h

  -- slice j of a cell of the shape's own plan
  own-slice : (j c : ℕ) → c < length (plan_of o).cells
      → map (solution j).at (get_or own.places c []) ≡ slice_at own.cuts j c (value (plan_of o) inputs c)
  own-slice j c h =
      at_slice (plan_of o) count t own j inputs (inner_of o given.cuts j inputs) (solution j).at c both.ours
      (record {
        sound = sound-for (plan_of o) both.ours_for;
        fit = inputs_fit o inputs wf ins;
        cuts = both.ours.cuts;
        slices = inner-slices (plan_of o) o given.cuts own.cuts j inputs both.ours_for.ranks both.some ins.many both.alike;
      })
      (many-inner j) (solution j).is h

  module _ (b r : ℕ) (h : b < length o.buffers) (l : r < o.ranks) (k : Cut) (some : 0 < k.count) (wide : 0 < k.width) where
    held-slice : (j : ℕ) (held : Option ℕ) → held_cell (drawing_of o).held b r ≡ held → k ≡ held_cut own.cuts k held
        → map (solution j).at (held_places own.places held) ≡ slice_of k (j % k.count) (due_list b r)
    held-slice j None z e =
        sym (slice-nothing k (j % k.count) some wide) ∙ ap (slice_of k (j % k.count)) (sym (unheld-empty o inputs wf ins b r h l z))
    held-slice j (Some c) z e =
        own-slice j c (result-cell o wf b r c h l z).in_plan
        ∙ ap (λ (k : Cut). slice_of k (j % k.count) (value (plan_of o) inputs c)) (sym e)
        ∙ ap (slice_of k (j % k.count)) (value-held o inputs wf ins b r c h l z)

    held-cut : (held : Option ℕ) → held_cell (drawing_of o).held b r ≡ held → k ≡ held_cut own.cuts k held → IsCutList k (due_list b r)
    held-cut None z e = record {
      blocks = 0;
      long = ap length (unheld-empty o inputs wf ins b r h l z) ∙ (let z : 0 ≡ 0 * block k = grind arith in z);
    }
    held-cut (Some c) z e =
        subst (IsCutList k) (value-held o inputs wf ins b r c h l z)
        (subst (λ (k : Cut). IsCutList k (value (plan_of o) inputs c)) (sym e)
        (cut-value (plan_of o) own.cuts inputs c (sound-for (plan_of o) both.ours_for) (inputs_fit o inputs wf ins) both.ours.cuts
        (result-cell o wf b r c h l z).in_plan))

  module _ (b r c : ℕ) (cell : c < length p.cells) (h : b < length o.buffers) (l : r < o.ranks)
      (cut : cut_at given.cuts c ≡ held_cut own.cuts (cut_at given.cuts c) (held_cell (drawing_of o).held b r)) where
    abbrev its_cut : Cut
    its_cut = cut_at given.cuts c

    some : 0 < its_cut.count
    some = (both.theirs.cuts.cells c cell).count

    wide : 0 < its_cut.width
    wide = (both.theirs.cuts.cells c cell).width

    theirs : IsCutList its_cut (value p inputs c)
    theirs = cut-value p given.cuts inputs c (sound-for p for) (for.fits inputs ins) both.theirs.cuts cell

    ours : IsCutList its_cut (due_list b r)
    ours = held-cut b r h l its_cut some wide (held_cell (drawing_of o).held b r) refl cut

    abbrev due_places : List ℕ
    due_places = held_places own.places (held_cell (drawing_of o).held b r)

    first : (j : ℕ) → j < its_cut.count → map (solution j).at (get_or given.places c []) ≡ slice_of its_cut j (value p inputs c)
    first j m = their-slice j c cell ∙ ap (λ n. slice_of its_cut n (value p inputs c)) (mod-eq_of_lt m)

    second : (j : ℕ) → j < its_cut.count → map (solution j).at due_places ≡ slice_of its_cut j (due_list b r)
    second j m =
        held-slice b r h l its_cut some wide j (held_cell (drawing_of o).held b r) refl cut
        ∙ ap (λ n. slice_of its_cut n (due_list b r)) (mod-eq_of_lt m)

    same_cell : get_or given.places c [] ≡ due_places → value p inputs c ≡ due_list b r
    same_cell e =
        same-slices its_cut some wide theirs.blocks ours.blocks (value p inputs c) (due_list b r) theirs.long ours.long
        (λ j m. sym (first j m) ∙ ap (map (solution j).at) e ∙ second j m)

    same_part : (shared : ℕ) → shared ≤ length (get_or given.places c []) → shared ≤ length due_places
        → take shared (get_or given.places c []) ≡ take shared due_places
        → take (unsliced its_cut shared) (value p inputs c) ≡ take (unsliced its_cut shared) (due_list b r)
    same_part shared within due e =
        let a = sym (length-map (get_or given.places c []) (solution 0).at) ∙ ap length (first 0 some)
        ∙ length-of its_cut some wide theirs.blocks ours.blocks (value p inputs c) (due_list b r) theirs.long ours.long in
        let d = sym (length-map due_places (solution 0).at) ∙ ap length (second 0 some)
        ∙ length-of its_cut some wide ours.blocks theirs.blocks (due_list b r) (value p inputs c) ours.long theirs.long in
        same-first its_cut some wide theirs.blocks ours.blocks (value p inputs c) (due_list b r) theirs.long ours.long shared
        (omega (arith, within, a)) (omega (arith, due, d))
        (λ j m. ap (take shared) (sym (first j m))
        ∙ take-map (solution j).at shared (get_or given.places c [])
        ∙ ap (map (solution j).at) e
        ∙ sym (take-map (solution j).at shared due_places)
        ∙ ap (take shared) (second j m))

pub meant : (p : Plan) (o : Outline) (count : ℕ) (t : Table) (given own : Evaluated) → IsWellFormed o → IsPlanFor p o
    → AreCompared p o count t given own → (m : Mark) → IsAlike p o given own m → IsAlwaysMeant p o m
meant p o count t given own wf for both (Result b r c) alike =
    λ inputs ins. same_cell p o count t given own wf for both inputs ins b r c alike.due.cell alike.due.buffer alike.due.rank
    alike.due.cut alike.places
meant p o count t given own wf for both (Enter s r c) alike = λ inputs ins. tt
meant p o count t given own wf for both (Leave s r c) alike = λ inputs ins. tt

-- by the places of the cells of both plans, one after the other
evaluated-before : (q : Plan) (count : ℕ) (u v : Table) (w : Evaluated) → Keeps u v → IsEvaluated q count u w → IsEvaluated q count v w
evaluated-before q count u v w keeps done = record {
  cuts = done.cuts;
  are = λ inputs V suits. done.are inputs V (suits_before (sliced q w.cuts) count u v inputs V keeps suits);
}

pub compared : (p : Plan) (o : Outline) (q : Plan) (count : ℕ) (t u v : Table) (given own : Evaluated) → IsWellFormed o
    → count ≡ o.inputs → t.ranks ≡ o.ranks → q ≡ plan_of o → Keeps t u → Keeps u v → IsEvaluated q count u own
    → IsEvaluated p count v given → IsPlanFor (plan_of o) o → CutAlike given own o.ranks (o.inputs * o.ranks)
    → ((inputs : Lists) → ((i : ℕ) → All (λ x. x < 256) (input_at v.ranks inputs i)) → Solved v inputs)
    → AreCompared p o count v given own
compared p o q count t u v given own wf many ranks is first second ours theirs own_for alike solved = record {
  many = many;
  ranks = second.ranks ∙ first.ranks ∙ ranks;
  some = (let a = wf.shape.some_rank in omega (arith, a));
  theirs = theirs;
  ours = subst (λ r. IsEvaluated r count v own) is (evaluated-before q count u v own second ours);
  ours_for = own_for;
  alike = alike;
  solved = solved;
}

-- ---- the first bytes
any_part : (p : Plan) (o : Outline) (count : ℕ) (t : Table) (given own : Evaluated) (b r c k : ℕ) → IsWellFormed o → IsPlanFor p o
    → AreCompared p o count t given own → (0 < k → IsPartAlikeAt p o given own b r c k) → (inputs : Lists) → AreInputs o inputs
    → take k (value p inputs c) ≡ take k (at (lists_of (meaning_of o inputs) b) r)
any_part p o count t given own b r c zero wf for both alike inputs ins = refl
any_part p o count t given own b r c (suc k) wf for both alike inputs ins =
    let is = alike (omega arith) in
    ap (λ n. take n (value p inputs c)) is.bytes
    ∙ same_part p o count t given own wf for both inputs ins b r c is.due.cell is.due.buffer is.due.rank is.due.cut is.shared is.within
    is.within_due is.places
    ∙ sym (ap (λ n. take n (at (lists_of (meaning_of o inputs) b) r)) is.bytes)

pub part_meant : (p : Plan) (o : Outline) (count : ℕ) (t : Table) (given own : Evaluated) → IsWellFormed o → IsPlanFor p o
    → AreCompared p o count t given own → (m : Mark) (k : ℕ) → IsPartAlike p o given own m k → IsPartAlwaysMeant p o m k
part_meant p o count t given own wf for both (Result b r c) k alike = any_part p o count t given own b r c k wf for both alike
part_meant p o count t given own wf for both (Enter s r c) k alike = λ inputs ins. tt
part_meant p o count t given own wf for both (Leave s r c) k alike = λ inputs ins. tt

-- ---- up to the first that isn't alike
pub first_meant : (p : Plan) (o : Outline) (count : ℕ) (t : Table) (given own : Evaluated) → IsWellFormed o → IsPlanFor p o
    → AreCompared p o count t given own → (ms : List Mark) (n : ℕ) → n ≡ length ms → (first : Option Unlike)
    → MatchOption first (AreAlikeTo p o given own ms n) (IsFirstUnlike p o given own ms)
    → MatchOption first (AreMeantTo p o ms n) (IsOpenAt p o ms)
first_meant p o count t given own wf for both ms n e None alike =
    λ i h. meant p o count t given own wf for both (mark_at ms i) (alike i h)
first_meant p o count t given own wf for both ms n e (Some u) alike = record {
  mark = alike.mark;
  result = alike.result;
  before = λ j h. meant p o count t given own wf for both (mark_at ms j) (alike.before j h);
  part = part_meant p o count t given own wf for both (mark_at ms u.mark) u.bytes alike.part;
}

-- ---- with nothing to compare with
no_result : (p : Plan) (o : Outline) (m : Mark) → (IsResult m → ⊥) → IsAlwaysMeant p o m
no_result p o (Result b r c) not = absurd (not tt)
no_result p o (Enter s r c) not = λ inputs ins. tt
no_result p o (Leave s r c) not = λ inputs ins. tt

none_of : (p : Plan) (o : Outline) (m : Mark) → IsPartAlwaysMeant p o m 0
none_of p o (Result b r c) = λ inputs ins. refl
none_of p o (Enter s r c) = λ inputs ins. tt
none_of p o (Leave s r c) = λ inputs ins. tt

pub result_open : (p : Plan) (o : Outline) (ms : List Mark) (n : ℕ) (first : Option Unlike)
    → MatchOption first (AreNoResultsTo ms n) (IsFirstResult ms) → MatchOption first (AreMeantTo p o ms n) (IsOpenAt p o ms)
result_open p o ms n None none = λ i h. no_result p o (mark_at ms i) (none i h)
result_open p o ms n (Some u) is = record {
  mark = is.mark;
  result = is.result;
  before = λ j h. no_result p o (mark_at ms j) (is.before j h);
  part = subst (IsPartAlwaysMeant p o (mark_at ms u.mark)) (sym is.nothing) (none_of p o (mark_at ms u.mark));
}
