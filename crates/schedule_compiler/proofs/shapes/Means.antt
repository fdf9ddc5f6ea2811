-- What the held cells hold is what the buffers mean, and a step keeps that.
use Rattle.std.proofs.Common.{ℕ, suc, true, false, ◌+◌, ◌*◌, ◌/◌, ◌%◌, ◌≡◌, ◌<◌, List, [], ◌∷◌, refl, length, get_or, ap, ◌∙◌, sym, subst}
use Rattle.std.proofs.Common.{inl, inr, arith, Option, Some, None}
use Rattle.std.proofs.lemmas.List.{get_or_append_left, get_or_at, length_push}
use Rattle.plan_core.specs.declared.Cell.{Cell}
use Rattle.plan_core.specs.Draw.{HeldCells, held_cell}
use Rattle.plan_core.specs.Members.{In}
use Rattle.plan_core.specs.Plan.{Plan, cell}
use Rattle.plan_core.specs.Values.{Inputs, value}
use Rattle.plan_core.specs.Sound.{AreInputsOf}
use Rattle.plan_core.proofs.Lists.{length-map'}
use Rattle.coll_shape.specs.declared.types.CollStep.{CollStep}
use Rattle.coll_shape.specs.Outline.{Outline, buffer_at, read_buffer}
use Rattle.coll_shape.specs.Collectives.{AllHold, Asked, HasAsked, HeldAt, HeldAtInBlocks, HeldByAll, HeldByAllInBlocks, HeldBySome}
use Rattle.coll_shape.specs.Collectives.{Nothing, asks_of, is_in, list_after, result_of, root_of, source_of}
use Rattle.plan_steps.specs.StepContext.{StepContext, source_at}
use Rattle.plan_steps.specs.Beginning.{held_after}
use Rattle.plan_steps.specs.Sounding.{EachAt, Known, with_cells}
use Rattle.coll_shape.specs.Folding.{at}
use Rattle.plan_steps.proofs.Grow.{get_or-map}
use Rattle.plan_steps.proofs.Drawn.{Drawn, Extends, drawn_all, each-same, extends-all}
use Rattle.plan_steps.proofs.Entries.{get_or-each}
use Rattle.plan_steps.proofs.Lengths.{length-value}
use Rattle.plan_steps.specs.Collectives.{cells_of, end_of, ends_of}
use Rattle.coll_shape.specs.WellFormed.{StepFits, and_one}
use Rattle.schedule_compiler.specs.shapes.Results.{IsResult}
use Rattle.coll_shape.specs.Meaning.{at_place, lists_of, made_lists, place_from, taken, type_read, with_step}
use Rattle.coll_shape.proofs.Asking.{In-is_in}
use Rattle.coll_shape.proofs.ByCollective.{AskedFits, asked_fits}
use Rattle.schedule_compiler.specs.shapes.Results.IsResult.{Holds, IsEmpty}
use Rattle.schedule_compiler.proofs.shapes.Places.{place-of}
use Rattle.schedule_compiler.proofs.shapes.EveryStep.{AsksValuesSo, step-value}
use Rattle.schedule_compiler.proofs.shapes.Whole.{Fine, blocks, does_hold, held_is, holder_of, holding, length_is, place_is, sound_cells}
use Rattle.schedule_compiler.proofs.shapes.Whole.{test_is}
use Rattle.schedule_compiler.proofs.shapes.Whole.{whole_site}
use Rattle.schedule_compiler.proofs.shapes.ByCollective.{Kind, kind_of}
use Rattle.schedule_compiler.proofs.shapes.Kept.{fine_after, held_new, held_old}
use Rattle.schedule_compiler.proofs.shapes.ByCollective.Kind.{Makes, Plain}

pub record Means (o : Outline) (inputs : Inputs) (m : ℕ) (p : Plan) (h : HeldCells) (means : List (List (List ℕ))) : Type 0 where
  pub many : length means ≡ m
  pub lists : (b r : ℕ) → b < m → r < o.ranks → IsResult (value p inputs) (at (lists_of means b) r) (held_cell h b r)

pub result-at : (val : ℕ → List ℕ) (list : List ℕ) (o : Option ℕ) (c : ℕ) → IsResult val list o → o ≡ Some c → val c ≡ list
result-at val list (Some d) c (Holds x e) h = ap val (sym (one h)) ∙ e
  where
    one : {a b : ℕ} → Some a ≡ Some b → a ≡ b
    one h = cc
result-at val list None c (IsEmpty e) h = cc

result-same : (v w : ℕ → List ℕ) (list : List ℕ) (o : Option ℕ) → ((c : ℕ) → o ≡ Some c → w c ≡ v c) → IsResult v list o → IsResult w list o
result-same v w list (Some d) same (Holds x e) = Holds x (same x refl ∙ e)
result-same v w list None same (IsEmpty e) = IsEmpty e

-- a list that no cell holds is empty
result-none : (val : ℕ → List ℕ) (list : List ℕ) (o : Option ℕ) → ((c : ℕ) → o ≡ Some c → ⊥) → IsResult val list o → list ≡ []
result-none val list (Some d) none r = absurd (none d refl)
result-none val list None none (IsEmpty e) = e

module _ (o : Outline) (inputs : Inputs) (all : length inputs ≡ o.inputs) (m : ℕ) (p : Plan) (h : HeldCells) (e : List ℕ)
    (means : List (List (List ℕ))) (g : List ℕ) (step : CollStep)
    (fine : Fine o m p h e) (fit : AreInputsOf p inputs) (meant : Means o inputs m p h means) (fits : StepFits o m g step) where
  abbrev s : StepContext
  s = Rattle.schedule_compiler.proofs.shapes.Whole.s o m p h e g step fine fits

  abbrev q : Plan
  q = with_cells p (cells_of s step)

  grown : Extends p q inputs
  grown = extends-all p (cells_of s step) inputs

  input_count : length inputs * p.ranks ≡ o.inputs * o.ranks
  input_count = ap (λ v. v * p.ranks) all ∙ ap (λ v. o.inputs * v) fine.ranks

  pub fit_after : AreInputsOf q inputs
  fit_after i l =
      let c = fine.built.input_cells i (let w = input_count in let z : i < length inputs * p.ranks =
      subst (λ v. i < length inputs * v) grown.ranks l in
      omega (arith, w, z)) in
      ap (λ v. length (get_or (get_or inputs (i / v) []) (i % v) [])) grown.ranks
      ∙ fit i (subst (λ v. i < length inputs * v) grown.ranks l)
      ∙ sym (ap (λ v. (cell q (v + i)).length) grown.ranks ∙ ap (λ (k : Cell). k.length) (grown.same_cell (p.ranks + i) c.0))

  lens : (c : ℕ) → c < length q.cells → length (value q inputs c) ≡ (cell q c).length
  lens c l = length-value q inputs (o.inputs * o.ranks) (fine_after o m p h e g step fine fits).built fit_after c l

  known : EachAt (Known (cell q) (value q inputs)) (length p.cells) (cells_of s step)
  known = each-same (Drawn q inputs) (Known (cell q) (value q inputs)) (length p.cells) (cells_of s step)
      (λ c n l d. record { is_cell = d.is_cell; is_value = d.is_value; is_long = lens c d.in_plan ∙ ap (λ (k : Cell). k.length) d.is_cell })
      (drawn_all p (cells_of s step) inputs (subst (Rattle.plan_steps.specs.Sounding.WellBuilt p) (sym input_count) fine.built)
      (let w = fine.behind in let f = fine.ranks in let z = input_count in omega (arith, w, f, z)) (sound_cells o m p h e g fine step fits))

  pub taken-many : (a : ℕ) → length (taken g (lists_of means a)) ≡ length g
  taken-many a = length-map' (at (lists_of means a)) g

  taken-at : (a i : ℕ) → i < length g → at (taken g (lists_of means a)) i ≡ at (lists_of means a) (get_or g i 0)
  taken-at a i l = get_or-map (at (lists_of means a)) g i 0 [] l

  pub value_a : (a i : ℕ) → source_of step ≡ Some a → i < length g → In (get_or g i 0) (buffer_at o a).spread.holders
      → (value q inputs (source_at s i) ≡ at (taken g (lists_of means a)) i) × (length (value q inputs (source_at s i)) ≡ s.length)
  value_a a i f l w =
      let c = holder_of o m p h e g step fine fits a i f l w in
      let same = held_is o m p h e g step fine fits a i f l c in
      let below = c.in_plan in
      let more = grown.longer in (
        ap (value q inputs) same ∙ grown.same_value c.number below ∙ result-at (value p inputs) (at (lists_of means a) (get_or g i 0))
            (held_cell h a (get_or g i 0)) c.number (meant.lists a (get_or g i 0) (fits.source a f) (fits.members.ranks i l)) c.is
            ∙ sym (taken-at a i l),
        ap (λ x. length (value q inputs x)) same ∙ lens c.number (omega (arith, below, more))
            ∙ ap (λ (k : Cell). k.length) (grown.same_cell c.number below) ∙ c.long ∙ sym (length_is o m p h e g step fine fits a f),
      )

  pub all_a : (a : ℕ) → source_of step ≡ Some a → AllHold g (buffer_at o a) → (i : ℕ) → i < length g
      → (value q inputs (source_at s i) ≡ at (taken g (lists_of means a)) i) × (length (value q inputs (source_at s i)) ≡ s.length)
  all_a a f w i l = value_a a i f l (w i l)

  -- a member that does not hold A has no list
  pub none_a : (a i : ℕ) → source_of step ≡ Some a → i < length g → is_in i s.holding ≡ false → at (taken g (lists_of means a)) i ≡ []
  none_a a i f l w =
      taken-at a i l
      ∙ result-none (value p inputs) (at (lists_of means a) (get_or g i 0)) (held_cell h a (get_or g i 0)) no_cell
      (meant.lists a (get_or g i 0) (fits.source a f) (fits.members.ranks i l))
    where
      clash : false ≡ true → ⊥
      clash z = cc

      no_cell : (c : ℕ) → held_cell h a (get_or g i 0) ≡ Some c → ⊥
      no_cell c z =
          let x = fine.held_in a (get_or g i 0) c (fits.source a f) (fits.members.ranks i l) z in
          clash (sym w ∙ test_is o m p h e g step fine fits i l ∙ In-is_in (get_or g i 0) (read_buffer o (source_of step)).spread.holders
          (subst (λ v. In (get_or g i 0) (read_buffer o v).spread.holders) (sym f) x.1))

  -- ---- buffers that were there
  old_lists : (b r : ℕ) → b < m → r < o.ranks → IsResult (value q inputs) (at (lists_of means b) r) (held_cell h b r)
  old_lists b r k l = result-same (value p inputs) (value q inputs) (at (lists_of means b) r) (held_cell h b r)
      (λ c z. grown.same_value c (fine.held_in b r c k l z).0) (meant.lists b r k l)

  pub means_plain : Means o inputs m q h means
  means_plain = record { many = meant.many; lists = old_lists }

-- the step's values
module _ (o : Outline) (inputs : Inputs) (all : length inputs ≡ o.inputs) (m : ℕ) (p : Plan) (h : HeldCells) (e : List ℕ)
    (means : List (List (List ℕ))) (g : List ℕ)
    (fine : Fine o m p h e) (fit : AreInputsOf p inputs) (meant : Means o inputs m p h means) where
  abbrev site : (step : CollStep) → StepFits o m g step → StepContext
  site step fits = Rattle.schedule_compiler.proofs.shapes.Whole.s o m p h e g step fine fits

  abbrev after : (step : CollStep) → StepFits o m g step → Plan
  after step fits = with_cells p (cells_of (site step fits) step)

  -- what is asked of the values, where the members have A
  abbrev ValuesSo : (step : CollStep) → StepFits o m g step → ℕ → Asked → Type 0
  ValuesSo step fits a w =
      AsksValuesSo (cell (after step fits)) (value (after step fits) inputs) (site step fits) (taken g (lists_of means a)) fits.members.some
      fits.members.at_most
      (taken-many o inputs all m p h e means g step fine fit meant fits a) (whole_site o m p h e g step fine fits) w

  values_so : (step : CollStep) (fits : StepFits o m g step) (a : ℕ) → source_of step ≡ Some a → (w : Asked) → HasAsked g (buffer_at o a) w
      → HasAsked g (read_buffer o (source_of step)) w → AskedFits w (root_of step) (source_of step) → ValuesSo step fits a w
  values_so step fits a f Nothing r b k = absurd (none (sym f ∙ k))
    where
      none : Some a ≡ None → ⊥
      none z = cc
  values_so step fits a f (HeldAt root) r b k =
      value_a o inputs all m p h e means g step fine fit meant fits a root f (place_is o m p h e g step fine fits root k) r
  values_so step fits a f (HeldAtInBlocks root) r b k = (
    value_a o inputs all m p h e means g step fine fit meant fits a root f (place_is o m p h e g step fine fits root k) r.0,
    blocks o m p h e g step fine fits b.1,
  )
  values_so step fits a f HeldByAll r b k = all_a o inputs all m p h e means g step fine fit meant fits a f r
  values_so step fits a f HeldByAllInBlocks r b k = (
    all_a o inputs all m p h e means g step fine fit meant fits a f r.0,
    blocks o m p h e g step fine fits b.1,
  )
  values_so step fits a f HeldBySome r b k = (
    holding o m p h e g step fine fits,
    λ i l w. value_a o inputs all m p h e means g step fine fit meant fits a i f l (does_hold o m p h e g step fine fits a i f l w),
    λ i l w. none_a o inputs all m p h e means g step fine fit meant fits a i f l w,
  )

  asks_values : (step : CollStep) (fits : StepFits o m g step) (a : ℕ) → source_of step ≡ Some a → ValuesSo step fits a (asks_of step)
  asks_values step fits a f = values_so step fits a f (asks_of step)
      (subst (λ v. HasAsked g (read_buffer o v) (asks_of step)) f fits.reads) fits.reads (asked_fits step)

  module _ (step : CollStep) (fits : StepFits o m g step) where
    means_old : (a b : ℕ) → b < m → lists_of (with_step o.ranks g (type_read o step) step means (Some a)) b ≡ lists_of means b
    means_old a b k = get_or_append_left means (made_lists o.ranks g (type_read o step) step (lists_of means a) ∷ []) [] b
        (let w = meant.many in omega (arith, w, k))

    means_new : (a : ℕ) → lists_of (with_step o.ranks g (type_read o step) step means (Some a)) m ≡ made_lists o.ranks g
        (type_read o step) step (lists_of means a)
    means_new a = get_or_at means (made_lists o.ranks g (type_read o step) step (lists_of means a)) [] [] m meant.many

    abbrev h' : HeldCells
    h' = Rattle.plan_steps.specs.Steps.held_by h g (ends_of (site step fits) step) m (length g)

    module _ (a : ℕ) (src : source_of step ≡ Some a) (res : result_of step ≡ Some m) where
      new_lists : (r : ℕ) → r < o.ranks → IsResult (value (after step fits) inputs)
          (at (made_lists o.ranks g (type_read o step) step (lists_of means a)) r) (held_cell h' m r)
      new_lists r l =
          subst (IsResult (value (after step fits) inputs) (at (made_lists o.ranks g (type_read o step) step (lists_of means a)) r))
          (sym (held_new o m p h e g step fine fits a src res r l))
          (subst (λ x. IsResult (value (after step fits) inputs) x
          (at_place (λ i. (end_of (site step fits) step i).holder) None (place_from 0 g r)))
          (sym (get_or-each (λ r. at_place (list_after (type_read o step) step (taken g (lists_of means a))) [] (place_from 0 g r)) [] 0
          o.ranks r l
          ∙ ap (λ r. at_place (list_after (type_read o step) step (taken g (lists_of means a))) [] (place_from 0 g r))
          (let z : 0 + r ≡ r = omega arith in z)))
          (by (place_from 0 g r) refl))
        where
          by : (v : Option ℕ) → place_from 0 g r ≡ v → IsResult (value (after step fits) inputs)
              (at_place (list_after (type_read o step) step (taken g (lists_of means a))) [] v)
              (at_place (λ i. (end_of (site step fits) step i).holder) None v)
          by None f = IsEmpty refl
          by (Some i) f =
              step-value (cell (after step fits)) (value (after step fits) inputs) (site step fits) (taken g (lists_of means a))
              fits.members.some fits.members.at_most
              (taken-many o inputs all m p h e means g step fine fit meant fits a) (whole_site o m p h e g step fine fits) step fits.root
              (asks_values step fits a src)
              (known o inputs all m p h e means g step fine fit meant fits) i (place-of g r i f).below

      means_makes : Means o inputs (suc m) (after step fits) h' (with_step o.ranks g (type_read o step) step means (Some a))
      means_makes = record {
        many = length_push means (made_lists o.ranks g (type_read o step) step (lists_of means a))
            ∙ (let w = meant.many in omega (arith, w));
        lists = λ b r k l. elim (Rattle.schedule_compiler.proofs.shapes.Kept.last_or o m p h e g step fine fits a src res b k) [
          | inl z ↦ subst (λ v. IsResult (value (after step fits) inputs)
              (at (lists_of (with_step o.ranks g (type_read o step) step means (Some a)) v) r) (held_cell h' v r)) (sym z)
              (subst (λ v. IsResult (value (after step fits) inputs) (at v r) (held_cell h' m r)) (sym (means_new a)) (new_lists r l))
          | inr w ↦ subst (λ v. IsResult (value (after step fits) inputs) (at v r) (held_cell h' b r)) (sym (means_old a b w))
              (subst (IsResult (value (after step fits) inputs) (at (lists_of means b) r))
              (sym (held_old o m p h e g step fine fits b r w l))
              (old_lists o inputs all m p h e means g step fine fit meant fits b r w l))
        ];
      }

    pub means_after : Means o inputs (and_one (result_of step) m) (after step fits)
        (held_after (result_of step) h g (ends_of (site step fits) step))
        (with_step o.ranks g (type_read o step) step means (source_of step))
    means_after = by (kind_of step)
      where
        by : Kind step → Means o inputs (and_one (result_of step) m) (after step fits)
            (held_after (result_of step) h g (ends_of (site step fits) step))
            (with_step o.ranks g (type_read o step) step means (source_of step))
        by (Plain src res) =
            subst (λ v. Means o inputs (and_one (result_of step) m) (after step fits)
            (held_after (result_of step) h g (ends_of (site step fits) step)) (with_step o.ranks g (type_read o step) step means v))
            (sym src)
            (subst (λ v. Means o inputs (and_one v m) (after step fits) (held_after v h g (ends_of (site step fits) step)) means)
            (sym res) (means_plain o inputs all m p h e means g step fine fit meant fits))
        by (Makes a b src res) =
            let is_m : Some b ≡ Some m = ap (λ v. Some v) (fits.next b res) in
            subst (λ v. Means o inputs (and_one (result_of step) m) (after step fits)
            (held_after (result_of step) h g (ends_of (site step fits) step)) (with_step o.ranks g (type_read o step) step means v))
            (sym src)
            (subst (λ v. Means o inputs (and_one v m) (after step fits) (held_after v h g (ends_of (site step fits) step))
            (with_step o.ranks g (type_read o step) step means (Some a))) (sym (res ∙ is_m)) (means_makes a src (res ∙ is_m)))
