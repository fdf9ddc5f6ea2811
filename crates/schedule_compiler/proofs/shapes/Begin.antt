-- The beginning: go cells and input cells.
use Rattle.std.proofs.Common.{ℕ, zero, suc, Bool, cond, ◌&&◌, ◌+◌, ◌-◌, ◌*◌, ◌/◌, ◌%◌, ◌≡◌, ◌≤◌, ◌<◌, ◌⊎◌, List, [], ◌∷◌, refl, length, map}
use Rattle.std.proofs.Common.{get_or, ap, ap₂, ◌∙◌, sym, subst, inl, inr, arith, Option, Some, None, eq-or-lt_of_le, le_of_suc-le-suc}
use Rattle.std.proofs.Common.{le-leb, replicate, set, get_or-set_same, get_or-set_other}
use Rattle.std.proofs.Math.Nat.{mod-eq_of_lt, add-mul-mod_self_right, mul-le-mul_right}
use Rattle.std.proofs.lemmas.Nat.{div-mul-add}
use Rattle.std.proofs.lemmas.Bool.{lt-ltb}
use Rattle.std.proofs.lemmas.List.{length-replicate, length-set}
use Rattle.op_laws.proofs.Bytes.{bytes-pos}
use Rattle.ptl_types.specs.Operations.{bytes_of}
use Rattle.plan_core.specs.declared.Cell.{Cell}
use Rattle.plan_core.specs.declared.Incoming.{Incoming}
use Rattle.plan_core.specs.Draw.{HeldCells, NewCell, cell_of, go_cell_of, go_plan, held_cell, hold, place_of}
use Rattle.plan_core.specs.Members.{In}
use Rattle.plan_core.specs.Plan.{Plan, cell, from_to, in_links, link, no_cell}
use Rattle.plan_core.specs.Values.{Inputs, blank, initial, input_bytes, land_as, value, due}
use Rattle.plan_core.proofs.Lists.{each, length-map'}
use Rattle.plan_core.proofs.Links.{in_links-In, In-from_to}
use Rattle.plan_core.proofs.Values.{step, value-eq}
use Rattle.coll_shape.specs.declared.types.Buffer.{Buffer}
use Rattle.coll_shape.specs.Outline.{Outline, buffer_at, list_bytes}
use Rattle.plan_steps.specs.Sounding.{SoundIncoming, WellBuilt, with_cell, with_cells}
use Rattle.coll_shape.specs.Folding.{at}
use Rattle.plan_steps.proofs.Bridge.{add_all-with}
use Rattle.plan_steps.proofs.CellKinds.{bump-sound}
use Rattle.plan_steps.proofs.Drawn.{each_of_map, extends-all, length-add_all, length-map-from}
use Rattle.plan_steps.proofs.Entries.{get_or-each}
use Rattle.plan_steps.proofs.Grow.{cell-old, length-cells, length-from_to}
use Rattle.plan_steps.proofs.Settled.{rows-apart}
use Rattle.plan_steps.proofs.Sound.{grows}
use Rattle.schedule_compiler.specs.shapes.Drawing.{drawn_inputs, hold_row, input_cell, opened}
use Rattle.schedule_compiler.specs.shapes.Results.{IsResult}
use Rattle.coll_shape.specs.Meaning.{lists_of}
use Rattle.schedule_compiler.specs.shapes.Results.IsResult.{Holds}
use Rattle.schedule_compiler.proofs.shapes.Whole.{Fine, Inside, inside_all, whole_list}
use Rattle.schedule_compiler.proofs.shapes.Means.{Means}
use Rattle.coll_shape.specs.declared.limits.TheConstants.{MOST_RANKS}

-- ---- go cells
go-cell : (n : ℕ) (remote : Bool) (c : ℕ) → c < n → cell (go_plan n remote) c ≡ go_cell_of c
unfolding go_plan
go-cell n remote c h = get_or-each go_cell_of no_cell 0 n c h ∙ ap go_cell_of (let e : 0 + c ≡ c = omega arith in e)

go-many : (n : ℕ) (remote : Bool) → length (go_plan n remote).cells ≡ n
unfolding go_plan
go-many n remote = length-map' go_cell_of (from_to 0 n) ∙ length-from_to 0 n

go-links : (n : ℕ) (remote : Bool) → (go_plan n remote).links ≡ []
unfolding go_plan
go-links n remote = refl

go-ranks : (n : ℕ) (remote : Bool) → (go_plan n remote).ranks ≡ n
unfolding go_plan
go-ranks n remote = refl

go-built : (n : ℕ) (remote : Bool) → 1 ≤ n → n ≤ MOST_RANKS → WellBuilt (go_plan n remote) 0
unfolding go_plan
go-built n remote some at_most = record {
  some_rank = some;
  few_ranks = at_most;
  links_sound = λ l h. absurd (omega arith);
  needs = λ c h k. absurd (let m = go-many n remote in omega arith);
  go_needs = λ r h. (
    ap (λ (k : Cell). k.needs) (go-cell n remote r h),
    refl,
    ap (λ (k : Cell). k.rank) (go-cell n remote r h),
    ap (λ (k : Cell). k.length) (go-cell n remote r h),
  );
  apart = λ l m h. absurd (omega arith);
  covered = λ c h k. absurd (let m = go-many n remote in omega arith);
  input_cells = λ i h. absurd (omega arith);
  input_links = λ l h. absurd (omega arith);
  ranks_known = λ c h. let m = go-many n remote in let l : c < n = omega arith in ap-lt (ap (λ (k : Cell). k.rank) (go-cell n remote c l))
      l;
  whole = λ c h. let m = go-many n remote in let l : c < n = omega arith in
      ap (λ (k : Cell). k.length % bytes_of k.ty) (go-cell n remote c l);
  all_go = (let m = go-many n remote in omega arith);
  many_links = (let m = go-many n remote in omega arith);
}
  where
    ap-lt : {a b n : ℕ} → a ≡ b → b < n → a < n
    ap-lt e h = omega arith

-- ---- input cells, one more
place_mod : (k a n : ℕ) → a < n → (k * n + a) % n ≡ a
place_mod k a n h = ap (λ v. v % n) (let q : k * n + a ≡ a + k * n = omega arith in q) ∙ add-mul-mod_self_right a k n ∙ mod-eq_of_lt h

one_input : (p : Plan) (x : Buffer) (k a : ℕ) → WellBuilt p (k * p.ranks + a) → p.ranks + (k * p.ranks + a) ≡ length p.cells →
    a < p.ranks → WellBuilt (with_cell p (input_cell x a)) (suc (k * p.ranks + a))
one_input p x k a built full h =
    grows p (input_cell x a) (k * p.ranks + a) (suc (k * p.ranks + a)) built
    (record {
      rank_known = h;
      whole = whole_list x.spread.length (bytes_of x.ty) (bytes-pos x.ty);
      some_link = omega arith;
      each_into = λ j m. elim m [
        | inl e ↦ subst (SoundIncoming (cell (with_cell p (input_cell x a))) (length p.cells) (input_cell x a)) e
            (bump-sound (cell (with_cell p (input_cell x a))) (length p.cells) (input_cell x a) a refl (omega arith)
            (ap (λ (c : Cell). c.rank) (cell-old p (input_cell x a) a (omega arith)) ∙ (built.go_needs a h).2))
        | inr z ↦ absurd z
      ];
      apart = (tt, tt);
    })
    (λ l. absurd (omega arith))
    (omega arith) (omega arith)
    (λ j l m. let e : j ≡ k * p.ranks + a = omega arith in (omega arith, refl, sym (ap (λ v. v % p.ranks) e ∙ place_mod k a p.ranks h)))
    (λ l j m. elim m [ inl e ↦ sym (ap (λ (v : Incoming). v.kind) e) ∙ refl | inr z ↦ absurd z ])

add_inputs : (x : Buffer) (m a k : ℕ) (p : Plan) → WellBuilt p (k * p.ranks + a) → p.ranks + (k * p.ranks + a) ≡ length p.cells →
    a + m ≤ p.ranks → WellBuilt (with_cells p (map (input_cell x) (from_to a m))) (k * p.ranks + (a + m))
add_inputs x zero a k p built full h = subst (λ v. WellBuilt p (k * p.ranks + v)) (let e : a ≡ a + 0 = omega arith in e) built
add_inputs x (suc m) a k p built full h =
    subst (λ v. WellBuilt (with_cells (with_cell p (input_cell x a)) (map (input_cell x) (from_to (suc a) m))) (k * p.ranks + v))
    (let e : suc a + m ≡ a + suc m = omega arith in e)
    (add_inputs x m (suc a) k (with_cell p (input_cell x a))
    (subst (WellBuilt (with_cell p (input_cell x a))) (let e : suc (k * p.ranks + a) ≡ k * p.ranks + suc a = omega arith in e)
    (one_input p x k a built full (omega arith)))
    (let e = length-cells p (input_cell x a) in omega arith) (omega arith))

-- ---- a row of the table of held cells
module _ (h : HeldCells) (b first : ℕ) where
  pub row-ranks : (n : ℕ) → (hold_row h b first n).ranks ≡ h.ranks
  unfolding hold_row hold
  row-ranks zero = refl
  row-ranks (suc n) = row-ranks n

  pub row-buffers : (n : ℕ) → (hold_row h b first n).buffers ≡ h.buffers
  unfolding hold_row hold
  row-buffers zero = refl
  row-buffers (suc n) = row-buffers n

  pub row-many : (n : ℕ) → length (hold_row h b first n).cells ≡ length h.cells
  unfolding hold_row hold
  row-many zero = refl
  row-many (suc n) = length-set (hold_row h b first n).cells (place_of (hold_row h b first n) b n) (Some (first + n)) ∙ row-many n

  row-stays : (n x : ℕ) → ((r : ℕ) → r < n → b * h.ranks + r ≡ x → ⊥) → get_or (hold_row h b first n).cells x None ≡ get_or h.cells x None
  unfolding hold_row hold
  row-stays zero x ne = refl
  row-stays (suc n) x ne =
      get_or-set_other (hold_row h b first n).cells (place_of (hold_row h b first n) b n) x (Some (first + n)) None
      (λ e. ne n (omega arith) (ap (λ v. b * v + n) (sym (row-ranks n)) ∙ sym e))
      ∙ row-stays n x (λ r l e. ne r (omega arith) e)

  row-there : (n r : ℕ) → r < n → b * h.ranks + n ≤ length h.cells → get_or (hold_row h b first n).cells (b * h.ranks + r) None ≡ Some
      (first + r)
  unfolding hold_row hold
  row-there zero r l w = absurd (omega arith)
  row-there (suc n) r l w = at (eq-or-lt_of_le (le_of_suc-le-suc l)) (λ k. row-there n r k (omega arith))
    where
      place : place_of (hold_row h b first n) b n ≡ b * h.ranks + n
      place = ap (λ v. b * v + n) (row-ranks n)

      at : (r ≡ n) ⊎ (r < n) → (r < n → get_or (hold_row h b first n).cells (b * h.ranks + r) None ≡ Some (first + r))
          → get_or (set (hold_row h b first n).cells (place_of (hold_row h b first n) b n) (Some (first + n))) (b * h.ranks + r) None
          ≡ Some (first + r)
      at (inl e) later =
          ap (λ v. get_or (set (hold_row h b first n).cells (place_of (hold_row h b first n) b n) (Some (first + n))) v None)
          (ap (λ v. b * h.ranks + v) e ∙ sym place)
          ∙ get_or-set_same (hold_row h b first n).cells (place_of (hold_row h b first n) b n) (Some (first + n)) None
          (let m = row-many n in let q = place in omega (arith, m, q, w))
          ∙ ap (λ v. Some (first + v)) (sym e)
      at (inr k) later =
          get_or-set_other (hold_row h b first n).cells (place_of (hold_row h b first n) b n) (b * h.ranks + r) (Some (first + n)) None
          (λ e. let q = place in absurd (omega (arith, e, q, k)))
          ∙ later k

-- ---- after m inputs
pub record Begun (o : Outline) (m : ℕ) (p : Plan) (h : HeldCells) (e : List ℕ) : Type 0 where
  pub ranks : p.ranks ≡ o.ranks
  pub built : WellBuilt p (m * o.ranks)
  pub full : length p.cells ≡ o.ranks + m * o.ranks
  pub exits : e ≡ from_to 0 o.ranks
  pub held_ranks : h.ranks ≡ o.ranks
  pub held_buffers : h.buffers ≡ length o.buffers
  pub held_many : length h.cells ≡ length o.buffers * o.ranks
  pub row : (b r : ℕ) → b < m → r < o.ranks → held_cell h b r ≡ Some (o.ranks + (b * o.ranks + r))
  pub none : (b r : ℕ) → m ≤ b → r < o.ranks → held_cell h b r ≡ None
  pub row_ty : (b r : ℕ) → b < m → r < o.ranks → (cell p (o.ranks + (b * o.ranks + r))).ty ≡ (buffer_at o b).ty
  pub row_long : (b r : ℕ) → b < m → r < o.ranks → (cell p (o.ranks + (b * o.ranks + r))).length ≡ list_bytes (buffer_at o b)

pub in_rows : (b r k n : ℕ) → b < k → r < n → b * n + r < k * n
in_rows b r k n h l = let e : suc b * n ≡ b * n + n = omega arith in let m = mul-le-mul_right n h in omega (arith, e, m)

module _ (o : Outline) (m : ℕ) (p : Plan) (h : HeldCells) (e : List ℕ) (begun : Begun o m p h e) (below : m < length o.buffers) where
  abbrev x : Buffer
  x = buffer_at o m

  abbrev new_cells : List NewCell
  new_cells = map (input_cell x) (from_to 0 o.ranks)

  abbrev q : Plan
  q = with_cells p new_cells

  abbrev h' : HeldCells
  h' = hold_row h m (length p.cells) o.ranks

  len : length q.cells ≡ length p.cells + o.ranks
  len = length-add_all p new_cells ∙ ap (λ v. length p.cells + v) (length-map-from (input_cell x) 0 o.ranks)

  more : suc m * o.ranks ≡ m * o.ranks + o.ranks
  more = omega arith

  built_more : WellBuilt q (suc m * o.ranks)
  built_more =
      let r = begun.ranks in
      let f = begun.full in
      let z = ap (λ v. m * v) r in
      subst (WellBuilt q) (let w : m * p.ranks + (0 + o.ranks) ≡ suc m * o.ranks = omega (arith, more, z) in w)
      (add_inputs x o.ranks 0 m p (subst (WellBuilt p) (let w : m * o.ranks ≡ m * p.ranks + 0 = omega (arith, z) in w) begun.built)
      (omega (arith, f, r, z)) (omega (arith, r)))

  last : (b : ℕ) → b < suc m → (b ≡ m) ⊎ (b < m)
  last b l = eq-or-lt_of_le (le_of_suc-le-suc l)

  new_one : (r : ℕ) → r < o.ranks → cell q (o.ranks + (m * o.ranks + r)) ≡ cell_of (input_cell x r)
  new_one r l =
      let i = each_of_map (Inside q) (length p.cells) (input_cell x) 0 o.ranks (inside_all p new_cells) r l in
      let f = begun.full in
      ap (cell q) (let z : o.ranks + (m * o.ranks + r) ≡ length p.cells + r = omega (arith, f) in z) ∙ i.is_cell
      ∙ ap (λ v. cell_of (input_cell x v)) (let z : 0 + r ≡ r = omega arith in z)

  old_one : (b r : ℕ) → b < m → r < o.ranks → cell q (o.ranks + (b * o.ranks + r)) ≡ cell p (o.ranks + (b * o.ranks + r))
  old_one b r k l = (extends-all p new_cells []).same_cell (o.ranks + (b * o.ranks + r)) (let f = begun.full in let w =
      in_rows b r m o.ranks k l in omega (arith, f, w))

  row_at : (b r : ℕ) → get_or h'.cells (b * h'.ranks + r) None ≡ get_or h'.cells (b * h.ranks + r) None
  row_at b r = ap (λ v. get_or h'.cells (b * v + r) None) (row-ranks h m (length p.cells) o.ranks)

  other_row : (b r : ℕ) → (m ≡ b → ⊥) → r < o.ranks → held_cell h' b r ≡ held_cell h b r
  other_row b r ne l =
      let n = begun.held_ranks in
      row_at b r ∙ row-stays h m (length p.cells) o.ranks (b * h.ranks + r)
      (λ i w z. rows-apart h.ranks m b i r (omega (arith, w, n)) (omega (arith, l, n)) ne z)

  this_row : (r : ℕ) → r < o.ranks → held_cell h' m r ≡ Some (length p.cells + r)
  this_row r l =
      let n = begun.held_ranks in
      let c = begun.held_many in
      let w = mul-le-mul_right o.ranks below in
      let z = ap (λ v. m * v) n in
      row_at m r ∙ row-there h m (length p.cells) o.ranks r l (omega (arith, more, w, z, c))

  pub begun-more : Begun o (suc m) q h' e
  begun-more = record {
    ranks = (extends-all p new_cells []).ranks ∙ begun.ranks;
    built = built_more;
    full = (let f = begun.full in omega (arith, len, f, more));
    exits = begun.exits;
    held_ranks = row-ranks h m (length p.cells) o.ranks ∙ begun.held_ranks;
    held_buffers = row-buffers h m (length p.cells) o.ranks ∙ begun.held_buffers;
    held_many = row-many h m (length p.cells) o.ranks ∙ begun.held_many;
    row = λ b r k l. elim (last b k) [
      | inl z ↦ subst (λ v. held_cell h' v r ≡ Some (o.ranks + (v * o.ranks + r))) (sym z)
          (this_row r l ∙ ap (λ v. Some v) (let f = begun.full in let w : length p.cells + r ≡ o.ranks + (m * o.ranks + r) =
          omega (arith, f) in w))
      | inr w ↦ other_row b r (λ y. absurd (omega (arith, y, w))) l ∙ begun.row b r w l
    ];
    none = λ b r k l. other_row b r (λ y. absurd (omega (arith, y, k))) l ∙ begun.none b r (omega (arith, k)) l;
    row_ty = λ b r k l. elim (last b k) [
      | inl z ↦ subst (λ v. (cell q (o.ranks + (v * o.ranks + r))).ty ≡ (buffer_at o v).ty) (sym z) (ap (λ (c : Cell). c.ty) (new_one r l))
      | inr w ↦ ap (λ (c : Cell). c.ty) (old_one b r w l) ∙ begun.row_ty b r w l
    ];
    row_long = λ b r k l. elim (last b k) [
      | inl z ↦ subst (λ v. (cell q (o.ranks + (v * o.ranks + r))).length ≡ list_bytes (buffer_at o v)) (sym z)
          (ap (λ (c : Cell). c.length) (new_one r l))
      | inr w ↦ ap (λ (c : Cell). c.length) (old_one b r w l) ∙ begun.row_long b r w l
    ];
  }

get_or-nothing : (n i : ℕ) → get_or {A = Option ℕ} (replicate n None) i None ≡ None
get_or-nothing zero i = refl
get_or-nothing (suc n) zero = refl
get_or-nothing (suc n) (suc i) = get_or-nothing n i

begun-none : (o : Outline) → 1 ≤ o.ranks → o.ranks ≤ MOST_RANKS → Begun o 0 (opened o).plan (opened o).held (opened o).exits
begun-none o some at_most = record {
  ranks = go-ranks o.ranks o.remote;
  built = subst (WellBuilt (go_plan o.ranks o.remote)) (let e : 0 ≡ 0 * o.ranks = omega arith in e)
      (go-built o.ranks o.remote some at_most);
  full = (let m = go-many o.ranks o.remote in omega (arith, m));
  exits = refl;
  held_ranks = refl;
  held_buffers = refl;
  held_many = length-replicate (length o.buffers * o.ranks) None;
  row = λ b r h. absurd (omega arith);
  none = λ b r k l. get_or-nothing (length o.buffers * o.ranks) (b * o.ranks + r);
  row_ty = λ b r h. absurd (omega arith);
  row_long = λ b r h. absurd (omega arith);
}

pub begun : (o : Outline) → 1 ≤ o.ranks → o.ranks ≤ MOST_RANKS → (m : ℕ) → m ≤ length o.buffers →
    Begun o m (drawn_inputs o m).plan (drawn_inputs o m).held (drawn_inputs o m).exits
unfolding drawn_inputs
begun o some at_most zero h = begun-none o some at_most
begun o some at_most (suc m) h =
    let d = drawn_inputs o m in
    subst (λ v. Begun o (suc m) v (hold_row d.held m (length d.plan.cells) o.ranks) d.exits)
    (sym (add_all-with d.plan (map (input_cell (buffer_at o m)) (from_to 0 o.ranks))))
    (begun-more o m d.plan d.held d.exits (begun o some at_most m (omega arith)) (omega arith))

get_or-row : (n r : ℕ) → r < n → get_or (from_to 0 n) r 0 ≡ r
get_or-row n r h = ap (λ xs. get_or xs r 0) (sym (same 0 n)) ∙ get_or-each (λ i. i) 0 0 n r h ∙ (let z : 0 + r ≡ r = omega arith in z)
  where
    same : (k n : ℕ) → map (λ i. i) (from_to k n) ≡ from_to k n
    same k zero = refl
    same k (suc n) = ap (λ xs. k ∷ xs) (same (suc k) n)

pub fine-begun : (o : Outline) (p : Plan) (h : HeldCells) (e : List ℕ) →
    ((b : ℕ) → b < o.inputs → (buffer_at o b).spread.holders ≡ from_to 0 o.ranks) → Begun o o.inputs p h e → Fine o o.inputs p h e
fine-begun o p h e all be = record {
  built = be.built;
  behind = (let f = be.full in omega (arith, f));
  ranks = be.ranks;
  exits = ap length be.exits ∙ length-from_to 0 o.ranks;
  exit_in = λ r l. let f = be.full in let x = exit_is r l in omega (arith, f, x, l);
  exit_rank = λ r l. ap (λ c. (cell p c).rank) (exit_is r l) ∙ (be.built.go_needs r (let f = be.ranks in omega (arith, f, l))).2;
  held_ranks = be.held_ranks;
  held_buffers = be.held_buffers;
  held_many = be.held_many;
  holders = λ b r k l m. record {
    number = o.ranks + (b * o.ranks + r);
    is = be.row b r k l;
    in_plan =
        (let f = be.full in let w = in_rows b r o.inputs o.ranks k l in omega (arith, f, w));
    rank = row_rank b r k l;
    ty =
        be.row_ty b r k l;
    long = be.row_long b r k l;
  };
  held_in = λ b r c k l z. (
    (let f = be.full in let w = in_rows b r o.inputs o.ranks k l in let y = one (sym (be.row b r k l) ∙ z) in omega (arith, f, w, y)),
    subst (In r) (sym (all b k)) (In-from_to 0 o.ranks r (omega arith) (omega (arith, l))),
  );
  unheld = be.none;
}
  where
    exit_is : (r : ℕ) → r < o.ranks → get_or e r 0 ≡ r
    exit_is r l = ap (λ xs. get_or xs r 0) be.exits ∙ get_or-row o.ranks r l

    one : {a b : ℕ} → Some a ≡ Some b → a ≡ b
    one f = cc

    row_rank : (b r : ℕ) → b < o.inputs → r < o.ranks → (cell p (o.ranks + (b * o.ranks + r))).rank ≡ r
    row_rank b r k l =
        let w = be.ranks in
        ap (λ v. (cell p (v + (b * o.ranks + r))).rank) (sym w)
        ∙ (be.built.input_cells (b * o.ranks + r) (in_rows b r o.inputs o.ranks k l)).2
        ∙ ap (λ v. (b * o.ranks + r) % v) w ∙ place_mod b r o.ranks l

-- ---- the inputs' values
each-id : {X Z : Type 0} (f : X → Z → Z) (xs : List X) (z : Z) → ((x : X) → In x xs → f x z ≡ z) → each f xs z ≡ z
each-id f [] z h = refl
each-id f (x ∷ xs) z h = ap (each f xs) (h x (inl refl)) ∙ each-id f xs z (λ y i. h y (inr i))

input-value : (p : Plan) (inputs : Inputs) → WellBuilt p (length inputs * p.ranks) → (i : ℕ) → i < length inputs * p.ranks →
    value p inputs (p.ranks + i) ≡ input_bytes p inputs i
input-value p inputs built i h =
    value-eq p inputs built.links_sound (p.ranks + i)
    ∙ each-id (step p inputs) (in_links p (p.ranks + i)) (initial p inputs (p.ranks + i))
    (λ l m. let r = in_links-In p (p.ranks + i) l m in
    ap (λ k. land_as k (cell p (link p l).target) (link p l).target_offset (due p inputs l) (initial p inputs (p.ranks + i)))
    (built.input_links l r.0 (let t = r.1 in omega arith)))
    ∙ ap (λ b. cond b (input_bytes p inputs (p.ranks + i - p.ranks)) (blank (cell p (p.ranks + i))))
    (ap₂ (λ u v. u && v) (le-leb p.ranks (p.ranks + i) (omega arith))
    (lt-ltb (p.ranks + i) (p.ranks + length inputs * p.ranks) (omega arith)))
    ∙ ap (input_bytes p inputs) (let e : p.ranks + i - p.ranks ≡ i = omega arith in e)

-- input b at rank r
pub input-is : (inputs : Inputs) (n b r : ℕ) → r < n → get_or (get_or inputs ((b * n + r) / n) []) ((b * n + r) % n) [] ≡ at
    (lists_of inputs b) r
input-is inputs n b r l = ap₂ (λ u v. get_or (get_or inputs u []) v []) (div-mul-add b n r l) (place_mod b r n l)

pub means-begun : (o : Outline) (inputs : Inputs) (p : Plan) (h : HeldCells) (e : List ℕ) → length inputs ≡ o.inputs →
    Begun o o.inputs p h e → Means o inputs o.inputs p h inputs
means-begun o inputs p h e all be = record {
  many = all;
  lists = λ b r k l.
      let w = in_rows b r o.inputs o.ranks k l in
      let c : length inputs * p.ranks ≡ o.inputs * o.ranks = ap₂ (λ u v. u * v) all be.ranks in
      subst (IsResult (value p inputs) (at (lists_of inputs b) r)) (sym (be.row b r k l))
      (Holds (o.ranks + (b * o.ranks + r))
      (ap (λ v. value p inputs (v + (b * o.ranks + r))) (sym be.ranks)
      ∙ input-value p inputs (subst (WellBuilt p) (sym c) be.built) (b * o.ranks + r) (omega (arith, w, c))
      ∙ ap (λ v. get_or (get_or inputs ((b * o.ranks + r) / v) []) ((b * o.ranks + r) % v) []) be.ranks
      ∙ input-is inputs o.ranks b r l));
}
