-- A gather of what is held is sound, and the root has the lists of those that hold one.
use Rattle.std.proofs.Common.{ℕ, zero, suc, Bool, true, false, cond, ◌+◌, ◌*◌, ◌%◌, ◌≡◌, ◌<◌, List, [], ◌∷◌, ◌++◌, refl, length, map}
use Rattle.std.proofs.Common.{filter, flat_map, get_or, ap, ap₂, ◌∙◌, sym, subst, arith, le_of_suc-le-suc, ◌≤◌}
use Rattle.coll_shape.specs.Collectives.{is_in}
use Rattle.op_laws.proofs.Bytes.{part_all}
use Rattle.plan_core.specs.Draw.{cell_of, NewCell, bytes_in, links_of}
use Rattle.plan_core.specs.Plan.{from_to}
use Rattle.plan_core.specs.declared.Cell.{Cell}
use Rattle.plan_steps.proofs.CellKinds.{bumped-sound, copying-sound, gathering_after-sound, gathering_after-value}
use Rattle.plan_steps.proofs.Drawn.{each_front}
use Rattle.plan_steps.proofs.Entries.{behind, both_parts, each_places, entry-value, of_places}
use Rattle.plan_steps.proofs.HeldSizes.{is_in-filter}
use Rattle.plan_steps.specs.Collectives.Gatherv.{concatenated, gatherv_cells, held_entry, holder_put}
use Rattle.plan_steps.specs.StepContext.{StepContext, bare_entry, count, entry, exit_at, full_entry, further, places, rank_at, source_at}
use Rattle.plan_steps.specs.Sounding.{EachAt, Ground, HasA, IsCell, Known, SoundNewCell}
use Rattle.ptl_types.specs.Operations.{bytes_of}
use Rattle.plan_core.proofs.Drawing.{length-row}
use Rattle.plan_steps.proofs.StepSizes.{links-cons, links-append, bytes-cons, bytes-append}

-- a member of a filtered row is within the row, and has passed the test
pub filtered-at : (t : ℕ → Bool) (k n j : ℕ) → j < length (filter t (from_to k n)) → (get_or (filter t (from_to k n)) j 0 < k + n) ×
    (t (get_or (filter t (from_to k n)) j 0) ≡ true)
filtered-at t k zero j h = absurd (omega arith)
filtered-at t k (suc n) j h = at (t k) refl j h (λ i l. let r = filtered-at t (suc k) n i l in (let a = r.0 in omega (arith, a), r.1))
  where
    at : (b : Bool) → t k ≡ b → (j : ℕ) → j < length (cond b (k ∷ filter t (from_to (suc k) n)) (filter t (from_to (suc k) n)))
        → ((i : ℕ) → i < length (filter t (from_to (suc k) n)) → (get_or (filter t (from_to (suc k) n)) i 0 < k + suc n) ×
        (t (get_or (filter t (from_to (suc k) n)) i 0) ≡ true))
        → (get_or (cond b (k ∷ filter t (from_to (suc k) n)) (filter t (from_to (suc k) n))) j 0 < k + suc n) ×
        (t (get_or (cond b (k ∷ filter t (from_to (suc k) n)) (filter t (from_to (suc k) n))) j 0) ≡ true)
    at true e zero l later = (omega arith, e)
    at true e (suc j) l later = later j (le_of_suc-le-suc l)
    at false e j l later = later j l

-- lists by their place in the row, one after the other
by-place : (x : ℕ → List ℕ) (hs gs : List ℕ) (k : ℕ) → ((i : ℕ) → get_or gs (k + i) 0 ≡ get_or hs i 0) →
    flat_map (λ j. x (get_or gs j 0)) (from_to k (length hs)) ≡ flat_map x hs
by-place x [] gs k same = refl
by-place x (h ∷ hs) gs k same =
    ap₂ (λ a b. a ++ b) (ap x (ap (λ v. get_or gs v 0) (let z : k ≡ k + 0 = omega arith in z) ∙ same 0))
    (by-place x hs gs (suc k) (λ i. ap (λ v. get_or gs v 0) (let z : suc k + i ≡ k + suc i = omega arith in z) ∙ same (suc i)))

-- those that fail the test are empty
without-empty : (x : ℕ → List ℕ) (t : ℕ → Bool) (k n : ℕ) → ((i : ℕ) → i < k + n → t i ≡ false → x i ≡ []) →
    flat_map x (filter t (from_to k n)) ≡ flat_map x (from_to k n)
without-empty x t k zero none = refl
without-empty x t k (suc n) none = at (t k) refl (without-empty x t (suc k) n (λ i h e. none i (omega (arith, h)) e))
  where
    at : (b : Bool) → t k ≡ b → flat_map x (filter t (from_to (suc k) n)) ≡ flat_map x (from_to (suc k) n) →
        flat_map x (cond b (k ∷ filter t (from_to (suc k) n)) (filter t (from_to (suc k) n))) ≡ x k ++ flat_map x (from_to (suc k) n)
    at true e rest = ap (λ v. x k ++ v) rest
    at false e rest = rest ∙ ap (λ v. v ++ flat_map x (from_to (suc k) n)) (sym (none k (omega arith) e))

module _ (k : ℕ → Cell) (s : StepContext) (root : ℕ) (t : ℕ → Bool) (held : s.holding ≡ filter t (from_to 0 (count s))) where
  is_held : (i : ℕ) → i < count s → is_in i s.holding ≡ t i
  is_held i h = ap (is_in i) held ∙ is_in-filter t 0 (count s) i (omega arith) (omega arith)

  -- the i-th holder is a place that holds
  holder : (i : ℕ) → i < length s.holding → (get_or s.holding i 0 < count s) × (is_in (get_or s.holding i 0) s.holding ≡ true)
  holder i h =
      let r = filtered-at t 0 (count s) i (subst (λ hs. i < length hs) held h) in
      let e = ap (λ hs. get_or hs i 0) held in
      let l : get_or s.holding i 0 < count s = (let a = r.0 in omega (arith, a, e)) in
      (l, is_held (get_or s.holding i 0) l ∙ ap t e ∙ r.1)

  held-full : (i : ℕ) → is_in i s.holding ≡ true → held_entry s i ≡ full_entry s i
  held-full i e = ap (λ b. cond b (full_entry s i) (bare_entry s i)) e

  pub gatherv-sound : (ranks : ℕ) → Ground ranks k s → root < count s → s.length % bytes_of s.ty ≡ 0 →
      (length s.holding * s.length) % bytes_of s.ty ≡ 0 → ((i : ℕ) → i < count s → is_in i s.holding ≡ true → HasA k s i)
      → EachAt (IsCell k) s.first (gatherv_cells s root) → EachAt (SoundNewCell ranks k) s.first (gatherv_cells s root)
  gatherv-sound ranks ground root_in whole whole' has cells =
      both_parts (SoundNewCell ranks k) s s.first (held_entry s) (concatenated s root ∷ [])
      (each_places (SoundNewCell ranks k) s s.first (held_entry s) (λ i h. one i h (is_in i s.holding) refl)) (
        gathering_after-sound ranks k (s.first + count s) s.ty (length s.holding * s.length) s.length (length s.holding) (rank_at s root)
            (entry s root) (λ i. entry s (get_or s.holding i 0)) (λ q. 0) (λ q. q)
            (ground.members root root_in) whole' refl (omega arith) (rank_of root root_in)
            (λ d h. let r = holder d h in (
              let a = r.0 in omega (arith, a),
              (let l = long (get_or s.holding d 0) r.0 r.1 in omega (arith, l)),
              h,
            )) (λ d e h i q. q),
        tt,
      )
    where
      firsts : EachAt (IsCell k) s.first (map (held_entry s) (places s))
      firsts = each_front (IsCell k) s.first (map (held_entry s) (places s)) (concatenated s root ∷ []) cells

      at_place : (i : ℕ) → i < count s → k (entry s i) ≡ cell_of (held_entry s i)
      at_place i h = (of_places (IsCell k) s s.first (held_entry s) firsts i h).is_cell

      rank_of : (i : ℕ) → i < count s → (k (entry s i)).rank ≡ rank_at s i
      rank_of i h = ap (λ (c : Cell). c.rank) (at_place i h) ∙ at (is_in i s.holding)
        where
          at : (b : Bool) → (cell_of (cond b (full_entry s i) (bare_entry s i))).rank ≡ rank_at s i
          at true = refl
          at false = refl

      long : (i : ℕ) → i < count s → is_in i s.holding ≡ true → (k (entry s i)).length ≡ s.length
      long i h e = ap (λ (c : Cell). c.length) (at_place i h ∙ ap cell_of (held-full i e))

      one : (i : ℕ) → i < count s → (b : Bool) → is_in i s.holding ≡ b →
          SoundNewCell ranks k (s.first + i) (cond b (full_entry s i) (bare_entry s i))
      one i h true e =
          let a : HasA k s i = has i h e in
          let l = a.low in let x = ground.exit_low i h in
          copying-sound ranks k (s.first + i) s.ty s.length (rank_at s i) (exit_at s i) (source_at s i) (ground.members i h) whole
          (omega arith) (ground.exit_rank i h) (omega arith) a.long
      one i h false e = let x = ground.exit_low i h in bumped-sound ranks k (s.first + i) (rank_at s i) (exit_at s i) (ground.members i h)
          (omega arith) (ground.exit_rank i h)

  -- the lists of all places, where those that do not hold have none
  pub gatherv-value : (val x : ℕ → List ℕ) → ((i : ℕ) → i < count s → is_in i s.holding ≡ true → (val (source_at s i) ≡ x i) ×
      (length (val (source_at s i)) ≡ s.length))
      → ((i : ℕ) → i < count s → is_in i s.holding ≡ false → x i ≡ []) → EachAt (Known k val) s.first (gatherv_cells s root)
      → val (further s 0) ≡ flat_map x (from_to 0 (count s))
  gatherv-value val x has none known =
      let last = behind (Known k val) s s.first (held_entry s) (concatenated s root ∷ []) known in
      ap val (let e : s.first + (count s + 0) ≡ s.first + count s = omega arith in e)
      ∙ last.0.is_value
      ∙ gathering_after-value s.ty (length s.holding * s.length) s.length (length s.holding) (rank_at s root) (entry s root)
      (λ i. entry s (get_or s.holding i 0)) (λ q. 0) (λ q. q) val (λ j. x (get_or s.holding j 0)) refl
      (λ q h. let r = holder q h in ap length (sym (has (get_or s.holding q 0) r.0 r.1).0) ∙ (has (get_or s.holding q 0) r.0 r.1).1)
      (λ d h. let r = holder d h in (
        h,
        part_all s.length (val (entry s (get_or s.holding d 0)))
            (ap length (ent (get_or s.holding d 0) r.0 r.1) ∙ (has (get_or s.holding d 0) r.0 r.1).1) ∙ ent (get_or s.holding d 0) r.0 r.1
            ∙ (has (get_or s.holding d 0) r.0 r.1).0,
      ))
      (λ d e h i q. q)
      ∙ by-place x s.holding s.holding 0 (λ i. ap (λ v. get_or s.holding v 0) (let z : 0 + i ≡ i = omega arith in z))
      ∙ ap (λ hs. flat_map x hs) held
      ∙ without-empty x t 0 (count s) (λ i h e. none i (omega (arith, h)) (is_held i (omega (arith, h)) ∙ e))
    where
      ent : (i : ℕ) → i < count s → is_in i s.holding ≡ true → val (entry s i) ≡ val (source_at s i)
      ent i h e =
          entry-value k val s i
          (subst (Known k val (entry s i)) (held-full i e) (of_places (Known k val) s s.first (held_entry s)
          (each_front (Known k val) s.first (map (held_entry s) (places s)) (concatenated s root ∷ []) known) i h))
          (has i h e).1

-- ---- its links and bytes, in closed form
-- ---- cells that have more where t holds
links-where : (t : ℕ → Bool) (f : ℕ → NewCell) (k n : ℕ) → ((i : ℕ) → k ≤ i → i < k + n → length (f i).into ≡ cond (t i) 2 1) →
    links_of (map f (from_to k n)) ≡ n + length (filter t (from_to k n))
links-where t f k zero h = refl
links-where t f k (suc n) h = at (t k) refl (links-cons (f k) (map f (from_to (suc k) n)))
    (h k (let z : k ≤ k = omega arith in z) (omega arith)) (links-where t f (suc k) n (λ i g l. h i (omega arith) (omega arith)))
  where
    at : (b : Bool) → t k ≡ b → links_of (f k ∷ map f (from_to (suc k) n)) ≡ length (f k).into + links_of (map f (from_to (suc k) n)) →
        length (f k).into ≡ cond (t k) 2 1
        → links_of (map f (from_to (suc k) n)) ≡ n + length (filter t (from_to (suc k) n)) →
        links_of (f k ∷ map f (from_to (suc k) n)) ≡ suc n + length
        (cond (t k) (k ∷ filter t (from_to (suc k) n)) (filter t (from_to (suc k) n)))
    at true e c d r = let g = d ∙ ap (λ b. cond b 2 1) e in let q =
        ap (λ b. length (cond b (k ∷ filter t (from_to (suc k) n))
        (filter t (from_to (suc k) n)))) e in omega (arith, c, g, r, q)
    at false e c d r = let g = d ∙ ap (λ b. cond b 2 1) e in let q =
        ap (λ b. length (cond b (k ∷ filter t (from_to (suc k) n))
        (filter t (from_to (suc k) n)))) e in omega (arith, c, g, r, q)

bytes-where : (t : ℕ → Bool) (f : ℕ → NewCell) (a k n : ℕ) → ((i : ℕ) → k ≤ i → i < k + n → (f i).length ≡ cond (t i) a 0) →
    bytes_in (map f (from_to k n)) ≡ length (filter t (from_to k n)) * a
bytes-where t f a k zero h = let z : 0 ≡ 0 * a = omega arith in z
bytes-where t f a k (suc n) h = at (t k) refl (bytes-cons (f k) (map f (from_to (suc k) n)))
    (h k (let z : k ≤ k = omega arith in z) (omega arith)) (bytes-where t f a (suc k) n (λ i g l. h i (omega arith) (omega arith)))
  where
    at : (b : Bool) → t k ≡ b → bytes_in (f k ∷ map f (from_to (suc k) n)) ≡ (f k).length + bytes_in (map f (from_to (suc k) n)) →
        (f k).length ≡ cond (t k) a 0
        → bytes_in (map f (from_to (suc k) n)) ≡ length (filter t (from_to (suc k) n)) * a →
        bytes_in (f k ∷ map f (from_to (suc k) n)) ≡ length
        (cond (t k) (k ∷ filter t (from_to (suc k) n)) (filter t (from_to (suc k) n))) * a
    at true e c d r =
        c ∙ ap₂ (λ x y. x + y) (d ∙ ap (λ b. cond b a 0) e) r
        ∙ (let z : a + length (filter t (from_to (suc k) n)) * a ≡ suc (length (filter t (from_to (suc k) n))) * a = omega arith in z)
        ∙ sym (ap (λ b. length (cond b (k ∷ filter t (from_to (suc k) n)) (filter t (from_to (suc k) n))) * a) e)
    at false e c d r =
        c ∙ ap₂ (λ x y. x + y) (d ∙ ap (λ b. cond b a 0) e) r
        ∙ (let z : 0 + length (filter t (from_to (suc k) n)) * a ≡ length (filter t (from_to (suc k) n)) * a = omega arith in z)
        ∙ sym (ap (λ b. length (cond b (k ∷ filter t (from_to (suc k) n)) (filter t (from_to (suc k) n))) * a) e)

module _ (s : StepContext) (t : ℕ → Bool) (held : s.holding ≡ filter t (from_to 0 (count s))) where
  holds : (i : ℕ) → i < count s → is_in i s.holding ≡ t i
  holds i h = ap (is_in i) held ∙ is_in-filter t 0 (count s) i (let z : 0 ≤ i = omega arith in z) (let z : i < 0 + count s =
      omega arith in z)

  entry-size : (i : ℕ) → i < count s → length (held_entry s i).into ≡ cond (t i) 2 1
  entry-size i h = ap (λ b. length (cond b (full_entry s i) (bare_entry s i)).into) (holds i h) ∙ at (t i)
    where
      at : (b : Bool) → length (cond b (full_entry s i) (bare_entry s i)).into ≡ cond b 2 1
      at true = refl
      at false = refl

  entry-bytes : (i : ℕ) → i < count s → (held_entry s i).length ≡ cond (t i) s.length 0
  entry-bytes i h = ap (λ b. (cond b (full_entry s i) (bare_entry s i)).length) (holds i h) ∙ at (t i)
    where
      at : (b : Bool) → (cond b (full_entry s i) (bare_entry s i)).length ≡ cond b s.length 0
      at true = refl
      at false = refl

  pub gatherv-links : (root : ℕ) → links_of (gatherv_cells s root) ≡ count s + length s.holding + 1 + length s.holding
  gatherv-links root =
      let a = links-append (map (held_entry s) (places s)) (concatenated s root ∷ []) in
      let b = links-where t (held_entry s) 0 (count s) (λ i g l. entry-size i (let z : i < count s = omega (arith, l) in z)) in
      let c = links-cons (concatenated s root) [] in
      let d = length-row (holder_put s) 0 (length s.holding) in
      let e = ap length held in
      omega (arith, a, b, c, d, e)

  pub gatherv-bytes : (root : ℕ) → bytes_in (gatherv_cells s root) ≡ 2 * (length s.holding * s.length)
  gatherv-bytes root =
      let a = bytes-append (map (held_entry s) (places s)) (concatenated s root ∷ []) in
      let b = bytes-where t (held_entry s) s.length 0 (count s) (λ i g l. entry-bytes i (let z : i < count s = omega (arith, l) in z))
      ∙ ap (λ v. length v * s.length) (sym held) in
      let c = bytes-cons (concatenated s root) [] in
      omega (arith, a, b, c)
