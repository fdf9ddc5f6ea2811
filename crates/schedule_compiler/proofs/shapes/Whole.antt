-- What is kept from step to step, and why each step's cells are sound.
use Rattle.std.proofs.Common.{ℕ, Bool, true, ◌+◌, ◌-◌, ◌*◌, ◌/◌, ◌%◌, ◌≡◌, ◌≤◌, ◌<◌, List, [], ◌∷◌, refl, length, get_or, ap, ◌∙◌, sym}
use Rattle.std.proofs.Common.{subst, arith, Some, None, div-add-mod', inl, inr, ◌⊎◌}
use Rattle.std.proofs.Math.Nat.{mod-eq_of_lt, add-mul-mod_self_right, mul-div_right}
use Rattle.op_laws.proofs.Bytes.{bytes-pos}
use Rattle.ptl_types.specs.Operations.{bytes_of}
use Rattle.plan_core.specs.declared.Cell.{Cell}
use Rattle.plan_core.specs.Draw.{HeldCells, NewCell, cell_of, held_cell}
use Rattle.plan_core.specs.Members.{In}
use Rattle.plan_core.specs.Plan.{Plan, cell}
use Rattle.coll_shape.specs.declared.types.Buffer.{Buffer}
use Rattle.coll_shape.specs.declared.types.CollStep.{CollStep}
use Rattle.coll_shape.specs.declared.types.CollStep.TheVariants.{Barrier}
use Rattle.coll_shape.specs.Outline.{Outline, buffer_at, list_bytes, read_buffer}
use Rattle.coll_shape.specs.Collectives.{AllHold, Asked, HasAsked, HasBlocks, HeldAt, HeldAtInBlocks, HeldByAll, HeldByAllInBlocks}
use Rattle.coll_shape.specs.Collectives.{HeldBySome, IsPlace, Nothing, asks_of, is_in, result_of, root_of, source_of}
use Rattle.plan_steps.specs.StepContext.{StepContext, exit_at, source_at}
use Rattle.plan_steps.specs.Beginning.{or_0, site_of, source_in}
use Rattle.plan_steps.specs.Sounding.{EachAt, Ground, HasA, SoundNewCell, WellBuilt, with_cell, with_cells}
use Rattle.plan_steps.proofs.Grow.{cell-new, get_or-map, length-cells}
use Rattle.plan_steps.proofs.Drawn.{Extends, extends-all}
use Rattle.plan_steps.proofs.Entries.{cells_all}
use Rattle.plan_steps.proofs.HeldSizes.{is_in-filter}
use Rattle.plan_steps.specs.Collectives.{cells_of}
use Rattle.coll_shape.specs.WellFormed.{StepFits}
use Rattle.coll_shape.proofs.Asking.{is_in-In}
use Rattle.coll_shape.proofs.ByCollective.{AskedFits, asked_fits, has_both}
use Rattle.schedule_compiler.proofs.shapes.EveryStep.{Asks, AsksSo, Blocks, Holding, step-sound}

-- ---- what is kept
pub record HeldCell (p : Plan) (h : HeldCells) (b r : ℕ) (x : Buffer) : Type 0 where
  pub number : ℕ
  pub is : held_cell h b r ≡ Some number
  pub in_plan : number < length p.cells
  pub rank : (cell p number).rank ≡ r
  pub ty : (cell p number).ty ≡ x.ty
  pub long : (cell p number).length ≡ list_bytes x

-- m buffers were made: these are held where the shape says so, and nowhere else
pub record Fine (o : Outline) (m : ℕ) (p : Plan) (h : HeldCells) (e : List ℕ) : Type 0 where
  pub built : WellBuilt p (o.inputs * o.ranks)
  pub behind : o.ranks + o.inputs * o.ranks ≤ length p.cells
  pub ranks : p.ranks ≡ o.ranks
  pub exits : length e ≡ o.ranks
  pub exit_in : (r : ℕ) → r < o.ranks → get_or e r 0 < length p.cells
  pub exit_rank : (r : ℕ) → r < o.ranks → (cell p (get_or e r 0)).rank ≡ r
  pub held_ranks : h.ranks ≡ o.ranks
  pub held_buffers : h.buffers ≡ length o.buffers
  pub held_many : length h.cells ≡ length o.buffers * o.ranks
  pub holders : (b r : ℕ) → b < m → r < o.ranks → In r (buffer_at o b).spread.holders → HeldCell p h b r (buffer_at o b)
  pub held_in : (b r c : ℕ) → b < m → r < o.ranks → held_cell h b r ≡ Some c → (c < length p.cells) × In r (buffer_at o b).spread.holders
  pub unheld : (b r : ℕ) → m ≤ b → r < o.ranks → held_cell h b r ≡ None

-- a cell that is drawn, in its plan
pub record Inside (q : Plan) (c : ℕ) (n : NewCell) : Type 0 where
  pub in_plan : c < length q.cells
  pub is_cell : cell q c ≡ cell_of n

pub inside_all : (p : Plan) (ns : List NewCell) → EachAt (Inside (with_cells p ns)) (length p.cells) ns
inside_all p [] = tt
inside_all p (n ∷ ns) =
    let x = extends-all (with_cell p n) ns [] in
    let e = length-cells p n in
    let l = x.longer in (
      record { in_plan = omega arith; is_cell = x.same_cell (length p.cells) (omega arith) ∙ cell-new p n },
      subst (λ c. EachAt (Inside (with_cells (with_cell p n) ns)) c ns) e (inside_all (with_cell p n) ns),
    )

-- ---- numbers
pub whole_list : (n w : ℕ) → 0 < w → (n * w) % w ≡ 0
whole_list n w pos = ap (λ v. v % w) (let q : n * w ≡ 0 + n * w = omega arith in q) ∙ add-mul-mod_self_right 0 n w ∙ mod-eq_of_lt pos

-- blocks of elements are blocks of bytes
pub blocks_long : (n m w : ℕ) → 0 < m → n % m ≡ 0 → n * w / m ≡ n / m * w
blocks_long n m w pos e =
    let q : n ≡ m * (n / m) = omega (arith, div-add-mod' n m, e) in
    ap (λ v. v * w / m) q ∙ ap (λ v. v / m) (let z : m * (n / m) * w ≡ m * (n / m * w) = omega arith in z) ∙ mul-div_right (n / m * w) pos

pub blocks_all : (n m w : ℕ) → 0 < m → n % m ≡ 0 → n * w ≡ m * (n * w / m)
blocks_all n m w pos e =
    let q : n ≡ m * (n / m) = omega (arith, div-add-mod' n m, e) in
    ap (λ v. v * w) q ∙ (let z : m * (n / m) * w ≡ m * (n / m * w) = omega arith in z) ∙ ap (λ v. m * v) (sym (blocks_long n m w pos e))

-- ---- members of lists
-- ---- a step
module _ (o : Outline) (m : ℕ) (p : Plan) (h : HeldCells) (e : List ℕ) (g : List ℕ) (step : CollStep) (fine : Fine o m p h e)
    (fits : StepFits o m g step) where
  abbrev pub s : StepContext
  s = site_of o p h e (source_of step) g

  abbrev pub q : Plan
  q = with_cells p (cells_of s step)

  pub grown : Extends p q []
  grown = extends-all p (cells_of s step) []

  exit_is : (i : ℕ) → i < length g → exit_at s i ≡ get_or e (get_or g i 0) 0
  exit_is i l = get_or-map (λ r. get_or e r 0) g i 0 0 l

  pub source_is : (a i : ℕ) → source_of step ≡ Some a → i < length g → source_at s i ≡ or_0 (held_cell h a (get_or g i 0))
  source_is a i f l = get_or-map (source_in h (source_of step)) g i 0 0 l ∙ ap (λ v. source_in h v (get_or g i 0)) f

  pub ground : Ground p.ranks (cell q) s
  ground = record {
    some = fits.members.some;
    at_most = fits.members.at_most;
    members = λ i l. let r = fits.members.ranks i l in let f = fine.ranks in omega (arith, r, f);
    exit_low = λ i l. subst (λ v. v < length p.cells) (sym (exit_is i l)) (fine.exit_in (get_or g i 0) (fits.members.ranks i l));
    exit_rank = λ i l. ap (λ v. (cell q v).rank) (exit_is i l)
        ∙ ap (λ (c : Cell). c.rank) (grown.same_cell (get_or e (get_or g i 0) 0) (fine.exit_in (get_or g i 0) (fits.members.ranks i l)))
        ∙ fine.exit_rank (get_or g i 0) (fits.members.ranks i l);
  }

  -- A's cell at place i
  pub held_is : (a i : ℕ) → source_of step ≡ Some a → i < length g → (c : HeldCell p h a (get_or g i 0) (buffer_at o a)) →
      source_at s i ≡ c.number
  held_is a i f l c = source_is a i f l ∙ ap or_0 c.is

  pub length_is : (a : ℕ) → source_of step ≡ Some a → s.length ≡ list_bytes (buffer_at o a)
  length_is a f = ap (λ v. list_bytes (read_buffer o v)) f

  has_a : (a i : ℕ) → source_of step ≡ Some a → i < length g → HeldCell p h a (get_or g i 0) (buffer_at o a) → HasA (cell q) s i
  has_a a i f l c = record {
    low = subst (λ v. v < length p.cells) (sym (held_is a i f l c)) c.in_plan;
    long = ap (λ v. (cell q v).length) (held_is a i f l c) ∙ ap (λ (k : Cell). k.length) (grown.same_cell c.number c.in_plan) ∙ c.long
        ∙ sym (length_is a f);
  }

  pub holder_of : (a i : ℕ) → source_of step ≡ Some a → i < length g → In (get_or g i 0) (buffer_at o a).spread.holders →
      HeldCell p h a (get_or g i 0) (buffer_at o a)
  holder_of a i f l w = fine.holders a (get_or g i 0) (fits.source a f) (fits.members.ranks i l) w

  pub has : (a i : ℕ) → source_of step ≡ Some a → i < length g → In (get_or g i 0) (buffer_at o a).spread.holders → HasA (cell q) s i
  has a i f l w = has_a a i f l (holder_of a i f l w)

  pub all_have : (a : ℕ) → source_of step ≡ Some a → AllHold g (buffer_at o a) → (i : ℕ) → i < length g → HasA (cell q) s i
  all_have a f w i l = has a i f l (w i l)

  pub whole_site : s.length % bytes_of s.ty ≡ 0
  whole_site = whole_list (read_buffer o (source_of step)).spread.length (bytes_of (read_buffer o (source_of step)).ty)
      (bytes-pos (read_buffer o (source_of step)).ty)

  pub blocks : HasBlocks g (read_buffer o (source_of step)) → Blocks s
  blocks w =
      let x = read_buffer o (source_of step) in record {
        all = blocks_all x.spread.length (length g) (bytes_of x.ty) fits.members.some w;
        whole = ap (λ v. v % bytes_of x.ty) (blocks_long x.spread.length (length g) (bytes_of x.ty) fits.members.some w)
            ∙ whole_list (x.spread.length / length g) (bytes_of x.ty) (bytes-pos x.ty);
      }

  -- the members that hold A
  abbrev pub test : ℕ → Bool
  test i = is_in (get_or g i 0) (read_buffer o (source_of step)).spread.holders

  pub holding : Holding s
  holding = record { test = test; is = refl }

  pub test_is : (i : ℕ) → i < length g → is_in i s.holding ≡ test i
  test_is i l = is_in-filter test 0 (length g) i (omega arith) (omega arith)

  pub does_hold : (a i : ℕ) → source_of step ≡ Some a → i < length g → is_in i s.holding ≡ true →
      In (get_or g i 0) (buffer_at o a).spread.holders
  does_hold a i f l w = subst (λ v. In (get_or g i 0) (read_buffer o v).spread.holders) f
      (is_in-In (get_or g i 0) (read_buffer o (source_of step)).spread.holders (sym (test_is i l) ∙ w))

  pub place_is : (root : ℕ) → root_of step ≡ Some root → root < length g
  place_is root k = subst (IsPlace (length g)) k fits.root

  -- what is asked of A, where the members have it
  pub asks_so : (a : ℕ) → source_of step ≡ Some a → (w : Asked) → HasAsked g (buffer_at o a) w
      → HasAsked g (read_buffer o (source_of step)) w → AskedFits w (root_of step) (source_of step) → AsksSo (cell q) s w
  asks_so a f Nothing r b k = tt
  asks_so a f (HeldAt root) r b k = has a root f (place_is root k) r
  asks_so a f (HeldAtInBlocks root) r b k = (has a root f (place_is root k) r.0, blocks b.1)
  asks_so a f HeldByAll r b k = all_have a f r
  asks_so a f HeldByAllInBlocks r b k = (all_have a f r.0, blocks b.1)
  asks_so a f HeldBySome r b k = (holding, λ i l w. has a i f l (does_hold a i f l w))

module _ (o : Outline) (m : ℕ) (p : Plan) (h : HeldCells) (e : List ℕ) (g : List ℕ) (fine : Fine o m p h e) where
  pub asks : (step : CollStep) → (fits : StepFits o m g step) → Asks (cell (q o m p h e g step fine fits)) (s o m p h e g step fine fits)
      step
  asks step fits = by (has_both step)
    where
      by : (step ≡ Barrier) ⊎ ((a : ℕ) × (b : ℕ) × (source_of step ≡ Some a) × (result_of step ≡ Some b))
          → Asks (cell (q o m p h e g step fine fits)) (s o m p h e g step fine fits) step
      by (inl z) = subst (AsksSo (cell (q o m p h e g step fine fits)) (s o m p h e g step fine fits)) (ap asks_of (sym z)) tt
      by (inr x) = asks_so o m p h e g step fine fits x.0 x.2 (asks_of step)
          (subst (λ v. HasAsked g (read_buffer o v) (asks_of step)) x.2 fits.reads) fits.reads (asked_fits step)

  pub sound_cells : (step : CollStep) → (fits : StepFits o m g step) → EachAt (SoundNewCell p.ranks (cell (q o m p h e g step fine fits)))
      (length p.cells) (cells_of (s o m p h e g step fine fits) step)
  sound_cells step fits =
      step-sound p.ranks (cell (q o m p h e g step fine fits)) (s o m p h e g step fine fits) (ground o m p h e g step fine fits)
      (whole_site o m p h e g step fine fits) step fits.root (asks step fits)
      (cells_all p (cells_of (s o m p h e g step fine fits) step))
