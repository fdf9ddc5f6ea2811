-- A step keeps what is kept.
use Rattle.std.proofs.Common.{ℕ, suc, ◌+◌, ◌*◌, ◌≡◌, ◌≤◌, ◌<◌, ◌⊎◌, List, [], refl, length, get_or, ap, ◌∙◌, sym, subst, inl, inr, arith}
use Rattle.std.proofs.Common.{Option, Some, None, eq-or-lt_of_le, le_of_suc-le-suc}
use Rattle.coll_shape.specs.Collectives.{result_of, source_of, buffer_after, named}
use Rattle.coll_shape.specs.Meaning.{at_place, place_from}
use Rattle.coll_shape.specs.Outline.{Outline, buffer_at, list_bytes, read_buffer}
use Rattle.coll_shape.specs.WellFormed.{AreMembers, StepFits, and_one}
use Rattle.coll_shape.specs.declared.types.Buffer.{Buffer}
use Rattle.coll_shape.specs.declared.types.CollStep.{CollStep}
use Rattle.plan_core.specs.Draw.{HeldCells, held_cell}
use Rattle.plan_core.specs.Members.{In}
use Rattle.plan_core.specs.Plan.{Plan, cell}
use Rattle.plan_core.specs.declared.Cell.{Cell}
use Rattle.plan_steps.proofs.Drawn.{Extends, extends-all, grows_all}
use Rattle.plan_steps.proofs.Entries.{get_or-each}
use Rattle.plan_steps.proofs.Settled.{exits_by-rank, exits_by-stays, held_by-member, held_by-stays, length-exits_by, many-held_by}
use Rattle.plan_steps.proofs.Settled.{buffers-held_by, ranks-held_by, rows-apart}
use Rattle.plan_steps.specs.Beginning.{held_after}
use Rattle.plan_steps.specs.StepContext.{StepContext}
use Rattle.plan_steps.specs.Sounding.{EachAt, with_cells}
use Rattle.plan_steps.specs.Steps.{end_at, exits_by, held_by, passing}
use Rattle.plan_steps.specs.declared.ends.StepExit.{StepExit}
use Rattle.coll_shape.proofs.ByCollective.{after_ty}
use Rattle.schedule_compiler.proofs.shapes.ByCollective.{Kind, after_bytes, held_here, held_there, kind_of}
use Rattle.schedule_compiler.proofs.shapes.ByCollective.Kind.{Makes, Plain}
use Rattle.schedule_compiler.proofs.shapes.EveryStep.{bytes_after, exit_node, holder_node}
use Rattle.schedule_compiler.proofs.shapes.Places.{no-place, place-is, place-of}
use Rattle.schedule_compiler.proofs.shapes.Whole.{Fine, HeldCell, Inside, inside_all, sound_cells}
use Rattle.plan_steps.specs.Collectives.{cells_of, end_of, ends_of}

module _ (o : Outline) (m : ℕ) (p : Plan) (h : HeldCells) (e : List ℕ) (g : List ℕ) (step : CollStep) (fine : Fine o m p h e)
    (fits : StepFits o m g step) where
  abbrev s : StepContext
  s = Rattle.schedule_compiler.proofs.shapes.Whole.s o m p h e g step fine fits

  abbrev q : Plan
  q = with_cells p (cells_of s step)

  abbrev ends : List StepExit
  ends = ends_of s step

  grown : Extends p q []
  grown = extends-all p (cells_of s step) []

  insides : EachAt (Inside q) (length p.cells) (cells_of s step)
  insides = inside_all p (cells_of s step)

  end_is : (i : ℕ) → i < length g → end_at ends i ≡ end_of s step i
  end_is i l = get_or-each (end_of s step) (passing 0) 0 (length g) i l ∙ ap (end_of s step) (let z : 0 + i ≡ i = omega arith in z)

  long_exits : o.ranks ≤ length e
  long_exits = let x = fine.exits in omega (arith, x)

  pub exit_now : (r : ℕ) → r < o.ranks → get_or (exits_by e g ends (length g)) r 0 ≡ at_place (λ i. (end_of s step i).exit) (get_or e r 0)
      (place_from 0 g r)
  exit_now r l = by (place_from 0 g r) refl
    where
      by : (v : Option ℕ) → place_from 0 g r ≡ v → get_or (exits_by e g ends (length g)) r 0 ≡ at_place (λ i. (end_of s step i).exit)
          (get_or e r 0) v
      by None f = exits_by-stays e g ends (length g) r (λ i w z. no-place o.ranks g r fits.members f i w z)
      by (Some i) f =
          let w = place-of g r i f in
          ap (λ v. get_or (exits_by e g ends (length g)) v 0) (sym w.there)
          ∙ exits_by-rank o.ranks e g ends fits.members long_exits i w.below
          ∙ ap (λ (v : StepExit). v.exit) (end_is i w.below)

  ExitOk : ℕ → ℕ → Type 0
  ExitOk r c = (c < length q.cells) × ((cell q c).rank ≡ r)

  exit_ok : (r : ℕ) → r < o.ranks → (get_or (exits_by e g ends (length g)) r 0 < length q.cells) ×
      ((cell q (get_or (exits_by e g ends (length g)) r 0)).rank ≡ r)
  exit_ok r l = subst (λ c. (c < length q.cells) × ((cell q c).rank ≡ r)) (sym (exit_now r l)) (by (place_from 0 g r) refl)
    where
      by : (v : Option ℕ) → place_from 0 g r ≡ v → (at_place (λ i. (end_of s step i).exit) (get_or e r 0) v < length q.cells) ×
          ((cell q (at_place (λ i. (end_of s step i).exit) (get_or e r 0) v)).rank ≡ r)
      by None f = let w = fine.exit_in r l in let u = grown.longer in
          (omega (arith, w, u), ap (λ (c : Cell). c.rank) (grown.same_cell (get_or e r 0) w) ∙ fine.exit_rank r l)
      by (Some i) f =
          let w = place-of g r i f in
          let x = exit_node (Inside q) s fits.members.some step fits.root insides i w.below in
          (x.holds.in_plan, ap (λ (c : Cell). c.rank) x.holds.is_cell ∙ x.on_rank ∙ w.there)

  -- ---- without a new buffer
  same_held : (b r : ℕ) → HeldCell p h b r (buffer_at o b) → HeldCell q h b r (buffer_at o b)
  same_held b r c =
      let w = c.in_plan in let u = grown.longer in record {
        number = c.number;
        is = c.is;
        in_plan = omega (arith, w, u);
        rank = ap (λ (k : Cell). k.rank) (grown.same_cell c.number w) ∙ c.rank;
        ty = ap (λ (k : Cell). k.ty) (grown.same_cell c.number w) ∙ c.ty;
        long = ap (λ (k : Cell). k.length) (grown.same_cell c.number w) ∙ c.long;
      }

  fine_plain : Fine o m q h (exits_by e g ends (length g))
  fine_plain = record {
    built = built_after;
    behind = (let w = fine.behind in let u = grown.longer in omega (arith, w, u));
    ranks = grown.ranks ∙ fine.ranks;
    exits = length-exits_by e g ends (length g) ∙ fine.exits;
    exit_in = λ r l. (exit_ok r l).0;
    exit_rank = λ r l. (exit_ok r l).1;
    held_ranks = fine.held_ranks;
    held_buffers = fine.held_buffers;
    held_many = fine.held_many;
    holders = λ b r l w i. same_held b r (fine.holders b r l w i);
    held_in = λ b r c l w z. let f = fine.held_in b r c l w z in (let a = f.0 in let u = grown.longer in omega (arith, a, u), f.1);
    unheld = fine.unheld;
  }
    where
      built_after : Rattle.plan_steps.specs.Sounding.WellBuilt q (o.inputs * o.ranks)
      built_after = grows_all p (cells_of s step) (o.inputs * o.ranks) fine.built (let w = fine.behind in let f = fine.ranks in
          omega (arith, w, f)) (sound_cells o m p h e g fine step fits)

  -- ---- with the new buffer m
  abbrev h' : HeldCells
  h' = held_by h g ends m (length g)

  members' : AreMembers h.ranks g
  members' = subst (λ n. AreMembers n g) (sym fine.held_ranks) fits.members

  low : (r : ℕ) → r < o.ranks → r < h.ranks
  low r l = let f = fine.held_ranks in omega (arith, l, f)

  pub held_old : (b r : ℕ) → b < m → r < o.ranks → held_cell h' b r ≡ held_cell h b r
  held_old b r k l =
      ap (λ v. get_or h'.cells (b * v + r) None) (ranks-held_by h g ends m (length g))
      ∙ held_by-stays h g ends m (length g) (b * h.ranks + r)
      (λ i w z. rows-apart h.ranks m b (get_or g i 0) r (low (get_or g i 0) (fits.members.ranks i w)) (low r l)
      (λ y. absurd (omega (arith, y, k))) z)

  module _ (a : ℕ) (src : source_of step ≡ Some a) (res : result_of step ≡ Some m) where
    room : (r : ℕ) → r < h.ranks → m * h.ranks + r < length h.cells
    room r l =
        let b = fits.result m res in
        let n = fine.held_ranks in
        let c = fine.held_many in
        let u : suc m * h.ranks ≡ m * h.ranks + h.ranks = omega arith in
        let w = Rattle.std.proofs.Math.Nat.mul-le-mul_right h.ranks b in
        let z : length o.buffers * h.ranks ≡ length o.buffers * o.ranks = ap (λ v. length o.buffers * v) n in
        omega (arith, u, w, z, c, l)

    pub held_new : (r : ℕ) → r < o.ranks → held_cell h' m r ≡ at_place (λ i. (end_of s step i).holder) None (place_from 0 g r)
    held_new r l = ap (λ v. get_or h'.cells (m * v + r) None) (ranks-held_by h g ends m (length g)) ∙ by (place_from 0 g r) refl
      where
        by : (v : Option ℕ) → place_from 0 g r ≡ v → get_or h'.cells (m * h.ranks + r) None ≡ at_place (λ i. (end_of s step i).holder)
            None v
        by None f =
            held_by-stays h g ends m (length g) (m * h.ranks + r)
            (λ i w z. no-place o.ranks g r fits.members f i w (let y : get_or g i 0 ≡ r = omega (arith, z) in y))
            ∙ fine.unheld m r (omega arith) l
        by (Some i) f =
            let w = place-of g r i f in
            ap (λ v. get_or h'.cells (m * h.ranks + v) None) (sym w.there)
            ∙ held_by-member h g ends m members' room (λ u k. fine.unheld m u (omega arith) (let n = fine.held_ranks in
            omega (arith, k, n))) (length g) i w.below (omega arith)
            ∙ ap (λ (v : StepExit). v.holder) (end_is i w.below)

    at_some : {v : Option ℕ} {i : ℕ} → v ≡ Some i → (f : ℕ → Option ℕ) → at_place f None v ≡ f i
    at_some z f = ap (λ v. at_place f None v) z

    pub made : buffer_at o m ≡ named (buffer_at o m).name (buffer_after g step (read_buffer o (source_of step)))
    made = fits.makes m res

    bytes_are : bytes_after s step ≡ list_bytes (buffer_at o m)
    bytes_are = after_bytes g s step (read_buffer o (source_of step)) refl refl refl fits.members.some fits.reads ∙ ap list_bytes (sym made)

    new_holder : (r : ℕ) → r < o.ranks → In r (buffer_at o m).spread.holders → HeldCell q h' m r (buffer_at o m)
    new_holder r l i =
        let x = held_here g r s step a src fits.root (read_buffer o (source_of step))
        (subst (λ (v : Buffer). In r v.spread.holders) made i) in
        let place : place_from 0 g r ≡ Some x.place = subst (λ v. place_from 0 g v ≡ Some x.place) x.is.there
        (place-is o.ranks g x.place fits.members x.is.below) in
        let y = holder_node (Inside q) s fits.members.some step fits.root insides x.place x.cell x.is.below x.holder in
        record {
          number = x.cell;
          is = held_new r l ∙ at_some place (λ i. (end_of s step i).holder) ∙ x.holder;
          in_plan = y.holds.in_plan;
          rank = ap (λ (c : Cell). c.rank) y.holds.is_cell ∙ y.on_rank ∙ x.is.there;
          ty = ap (λ (c : Cell). c.ty) y.holds.is_cell ∙ y.ty
              ∙ sym (ap (λ (v : Buffer). v.ty) made ∙ after_ty g step (read_buffer o (source_of step)));
          long = ap (λ (c : Cell). c.length) y.holds.is_cell ∙ y.long ∙ bytes_are;
        }

    old_holder : (b r : ℕ) → b < m → r < o.ranks → In r (buffer_at o b).spread.holders → HeldCell q h' b r (buffer_at o b)
    old_holder b r k l i =
        let c = same_held b r (fine.holders b r k l i) in
        record { number = c.number; is = held_old b r k l ∙ c.is; in_plan = c.in_plan; rank = c.rank; ty = c.ty; long = c.long }

    pub last_or : (b : ℕ) → b < suc m → (b ≡ m) ⊎ (b < m)
    last_or b l = eq-or-lt_of_le (le_of_suc-le-suc l)

    new_in : (r c : ℕ) → r < o.ranks → held_cell h' m r ≡ Some c → (c < length q.cells) × In r (buffer_at o m).spread.holders
    new_in r c l z = by (place_from 0 g r) refl (sym (held_new r l) ∙ z)
      where
        by : (v : Option ℕ) → place_from 0 g r ≡ v → at_place (λ i. (end_of s step i).holder) None v ≡ Some c → (c < length q.cells) ×
            In r (buffer_at o m).spread.holders
        by None f k = cc
        by (Some i) f k =
            let w = place-of g r i f in (
              (holder_node (Inside q) s fits.members.some step fits.root insides i c w.below k).holds.in_plan,
              subst (λ (v : Buffer). In r v.spread.holders) (sym made)
                  (subst (λ v. In v (buffer_after g step (read_buffer o (source_of step))).spread.holders) w.there
                  (held_there g s step (read_buffer o (source_of step)) i c w.below k)),
            )

    fine_makes : Fine o (suc m) q h' (exits_by e g ends (length g))
    fine_makes = record {
      built = fine_plain.built;
      behind = fine_plain.behind;
      ranks = fine_plain.ranks;
      exits = fine_plain.exits;
      exit_in = fine_plain.exit_in;
      exit_rank = fine_plain.exit_rank;
      held_ranks = ranks-held_by h g ends m (length g) ∙ fine.held_ranks;
      held_buffers = buffers-held_by h g ends m (length g) ∙ fine.held_buffers;
      held_many = many-held_by h g ends m (length g) ∙ fine.held_many;
      holders = λ b r k l i. elim (last_or b k) [
        | inl z ↦ subst (λ v. HeldCell q h' v r (buffer_at o v)) (sym z)
            (new_holder r l (subst (λ v. In r (buffer_at o v).spread.holders) z i))
        | inr w ↦ old_holder b r w l i
      ];
      held_in = λ b r c k l z. elim (last_or b k) [
        | inl y ↦ subst (λ v. (c < length q.cells) × In r (buffer_at o v).spread.holders) (sym y)
            (new_in r c l (subst (λ v. held_cell h' v r ≡ Some c) y z))
        | inr w ↦ fine_plain.held_in b r c w l (sym (held_old b r w l) ∙ z)
      ];
      unheld = λ b r k l. ap (λ v. get_or h'.cells (b * v + r) None) (ranks-held_by h g ends m (length g))
          ∙ held_by-stays h g ends m (length g) (b * h.ranks + r)
          (λ i w z. rows-apart h.ranks m b (get_or g i 0) r (low (get_or g i 0) (fits.members.ranks i w)) (low r l)
          (λ y. absurd (omega (arith, y, k))) z)
          ∙ fine.unheld b r (omega (arith, k)) l;
    }

  pub fine_after : Fine o (and_one (result_of step) m) q (held_after (result_of step) h g ends) (exits_by e g ends (length g))
  fine_after = by (kind_of step)
    where
      by : Kind step → Fine o (and_one (result_of step) m) q (held_after (result_of step) h g ends) (exits_by e g ends (length g))
      by (Plain src res) = subst (λ v. Fine o (and_one v m) q (held_after v h g ends) (exits_by e g ends (length g))) (sym res) fine_plain
      by (Makes a b src res) =
          let is_m : Some b ≡ Some m = ap (λ v. Some v) (fits.next b res) in
          subst (λ v. Fine o (and_one v m) q (held_after v h g ends) (exits_by e g ends (length g))) (sym (res ∙ is_m))
          (fine_makes a src (res ∙ is_m))
