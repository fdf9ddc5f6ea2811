-- A scan is sound, and each place has the fold of the places up to it.
use Rattle.std.proofs.Common.{ℕ, zero, suc, Bool, true, false, cond, ◌+◌, ◌-◌, ◌*◌, ◌%◌, ◌^◌, ◌≡◌, ◌≤◌, ◌<◌, List, [], ◌∷◌, refl, length}
use Rattle.std.proofs.Common.{map, ap, ◌∙◌, subst, inl, inr, arith, nat_le, le_refl, sum_by, ap₂, sym}
use Rattle.coll_shape.specs.Folding.{folded}
use Rattle.plan_core.specs.Draw.{NewCell, links_of, bytes_in}
use Rattle.plan_core.specs.Members.{In}
use Rattle.plan_core.specs.Plan.{from_to}
use Rattle.plan_core.specs.declared.Cell.{Cell}
use Rattle.plan_steps.proofs.CellKinds.{combining-sound, combining-value}
use Rattle.plan_steps.proofs.Drawn.{each_of_rows, each_rows}
use Rattle.plan_steps.proofs.Entries.{Ground, HasA, IsCell, Known, behind, both_parts, entries-sound}
use Rattle.plan_steps.proofs.RoundCounts.{rounds-enough}
use Rattle.plan_steps.proofs.Scans.{scanned}
use Rattle.plan_steps.proofs.Trees.{entry-cells, entry-known}
use Rattle.plan_steps.specs.Rounds.{rounds}
use Rattle.plan_steps.specs.Collectives.Scan.{scan_cell, scan_cells, scan_number, scan_rows}
use Rattle.plan_steps.specs.StepContext.{StepContext, count, entry, full_entry, rank_at, rows, source_at, atomic, entries, row}
use Rattle.plan_steps.specs.Sounding.{EachAt, SoundNewCell}
use Rattle.ptl_types.specs.Elements.{combined, starting}
use Rattle.ptl_types.specs.Operations.{bytes_of}
use Rattle.ptl_types.specs.declared.elements.AtomicOp.{AtomicOp}
use Rattle.plan_steps.proofs.StepSizes.{links-cons, links-append, bytes-append, links-row, bytes-rows, entry-links, entry-bytes}
use Rattle.std.proofs.lemmas.Bool.{leb-true, leb-false}
use Rattle.std.proofs.lemmas.List.Sums.{sum_by-cons}

module _ (k : ℕ → Cell) (s : StepContext) (o : AtomicOp) where
  abbrev each_scan : List NewCell
  each_scan = rows s (scan_cell s o) 0 (suc (rounds (count s)))

  pub scan-at : (P : ℕ → NewCell → Type 0) → EachAt P (s.first + count s) each_scan → (j r : ℕ) → j ≤ rounds (count s) → r < count s →
      P (scan_number s j r) (scan_cell s o j r)
  scan-at P h j r i l =
      let z : 0 + j ≡ j = omega arith in
      subst (λ c. P c (scan_cell s o j r)) (let e : s.first + count s + (j * count s + r) ≡ s.first + (count s + (j * count s + r)) =
      omega arith in e)
      (subst (λ v. P (s.first + count s + (j * count s + r)) (scan_cell s o v r)) z
      (each_of_rows P (s.first + count s) (scan_cell s o) (count s) 0 (suc (rounds (count s))) h j r (omega arith) l))

  pub scan-sound : (ranks : ℕ) → Ground ranks k s → s.length % bytes_of s.ty ≡ 0 → ((i : ℕ) → i < count s → HasA k s i)
      → EachAt (IsCell k) s.first (scan_cells s o) → EachAt (SoundNewCell ranks k) s.first (scan_cells s o)
  scan-sound ranks ground whole has cells =
      both_parts (SoundNewCell ranks k) s s.first (full_entry s) each_scan
      (entries-sound ranks k s ground whole has)
      (each_rows (SoundNewCell ranks k) (s.first + count s) (scan_cell s o) (count s) 0 (suc (rounds (count s)))
      (λ j r h i. let z : j ≡ 0 + j = omega arith in subst (λ v. SoundNewCell ranks k (s.first + count s + (j * count s + r))
      (scan_cell s o v r)) z (one j r h i)))
    where
      row_cells : EachAt (IsCell k) (s.first + count s) each_scan
      row_cells = behind (IsCell k) s s.first (full_entry s) each_scan cells

      Ok : ℕ → ℕ → Type 0
      Ok c d = (d < c) × ((k d).ty ≡ s.ty) × ((k d).length ≡ s.length)

      earlier : (c j r : ℕ) → j ≤ rounds (count s) → r < count s → scan_number s j r < c → (scan_number s j r < c) ×
          ((k (scan_number s j r)).ty ≡ s.ty) × ((k (scan_number s j r)).length ≡ s.length)
      earlier c j r h i l = let q = (scan-at (IsCell k) row_cells j r h i).is_cell in
          (l, ap (λ (x : Cell). x.ty) q, ap (λ (x : Cell). x.length) q)

      one : (j r : ℕ) → j < suc (rounds (count s)) → r < count s → SoundNewCell ranks k (s.first + count s + (j * count s + r))
          (scan_cell s o j r)
      one zero r h i =
          combining-sound ranks k (s.first + count s + (0 * count s + r)) o s.ty s.length (rank_at s r) (entry s r) []
          (ground.members r i) whole
          (λ c m. elim m [
            | inl e ↦ subst (λ c. (c < s.first + count s + (0 * count s + r)) × ((k c).ty ≡ s.ty) ×
                ((k c).length ≡ s.length)) e (let q = entry-cells k s each_scan cells r i in
                (omega arith, ap (λ (x : Cell). x.ty) q, ap (λ (x : Cell). x.length) q))
            | inr z ↦ absurd z
          ])
      one (suc j) r h i =
          combining-sound ranks k (s.first + count s + (suc j * count s + r)) o s.ty s.length (rank_at s r) (scan_number s j r)
          (cond (nat_le (2 ^ j) r) (scan_number s j (r - 2 ^ j) ∷ []) []) (ground.members r i) whole
          (λ c m. elim m [
            | inl e ↦ subst (λ c. (c < s.first + count s + (suc j * count s + r)) × ((k c).ty ≡ s.ty) × ((k c).length ≡ s.length)) e
                (earlier (s.first + count s + (suc j * count s + r)) j r (omega arith) i
                (let q : suc j * count s ≡ j * count s + count s = omega arith in omega (arith, q)))
            | inr n ↦ second (nat_le (2 ^ j) r) c n
          ])
        where
          second : (b : Bool) (c : ℕ) → In c (cond b (scan_number s j (r - 2 ^ j) ∷ []) []) →
              (c < s.first + count s + (suc j * count s + r)) × ((k c).ty ≡ s.ty) × ((k c).length ≡ s.length)
          second true c (inl e) = subst (λ c. (c < s.first + count s + (suc j * count s + r)) × ((k c).ty ≡ s.ty) ×
              ((k c).length ≡ s.length)) e (earlier (s.first + count s + (suc j * count s + r)) j (r - 2 ^ j) (omega arith) (omega arith)
              (let q : suc j * count s ≡ j * count s + count s = omega arith in omega (arith, q)))
          second true c (inr z) = absurd z
          second false c z = absurd z

  pub scan-value : (val x : ℕ → List ℕ) → count s ≤ 256 → s.length % bytes_of s.ty ≡ 0 →
      ((i : ℕ) → i < count s → (val (source_at s i) ≡ x i) × (length (val (source_at s i)) ≡ s.length)) →
      EachAt (Known k val) s.first (scan_cells s o)
      → (r : ℕ) → r < count s → val (scan_number s (rounds (count s)) r) ≡ folded o s.ty (map x (from_to 0 (suc r)))
      (starting o s.ty s.length)
  scan-value val x small whole has known r h =
      scanned o s.ty s.length (count s) whole x (λ j r. val (scan_number s j r)) (rounds (count s)) first next (rounds (count s)) r
      (le_refl (rounds (count s))) (rounds-enough (count s) small) h
    where
      row_known : EachAt (Known k val) (s.first + count s) each_scan
      row_known = behind (Known k val) s s.first (full_entry s) each_scan known

      first : (r : ℕ) → r < count s → val (scan_number s 0 r) ≡ combined o s.ty (starting o s.ty s.length) (x r)
      first r i =
          let e = entry-known k val x s each_scan known has r i in
          (scan-at (Known k val) row_known 0 r (omega arith) i).is_value
          ∙ combining-value o s.ty s.length (rank_at s r) (entry s r ∷ []) val whole
          (λ c m. elim m [ inl q ↦ subst (λ c. length (val c) ≡ s.length) q e.1 | inr z ↦ absurd z ])
          ∙ ap (combined o s.ty (starting o s.ty s.length)) e.0

      long : (j r : ℕ) → j ≤ rounds (count s) → r < count s → length (val (scan_number s j r)) ≡ s.length
      long j r i l = (scan-at (Known k val) row_known j r i l).is_long

      next : (j r : ℕ) → j < rounds (count s) → r < count s → val (scan_number s (suc j) r) ≡ cond (nat_le (2 ^ j) r)
          (combined o s.ty (combined o s.ty (starting o s.ty s.length) (val (scan_number s j r))) (val (scan_number s j (r - 2 ^ j))))
          (combined o s.ty (starting o s.ty s.length) (val (scan_number s j r)))
      next j r t i =
          (scan-at (Known k val) row_known (suc j) r t i).is_value
          ∙ combining-value o s.ty s.length (rank_at s r) (scan_number s j r ∷ cond (nat_le (2 ^ j) r) (scan_number s j (r - 2 ^ j) ∷ [])
          []) val whole (λ c m. elim m [
            | inl q ↦ subst (λ c. length (val c) ≡ s.length) q (long j r (omega arith) i)
            | inr n ↦ second
                (nat_le (2 ^ j) r) c n
          ])
          ∙ both (nat_le (2 ^ j) r)
        where
          second : (b : Bool) (c : ℕ) → In c (cond b (scan_number s j (r - 2 ^ j) ∷ []) []) → length (val c) ≡ s.length
          second true c (inl q) = subst (λ c. length (val c) ≡ s.length) q (long j (r - 2 ^ j) (omega arith) (omega arith))
          second true c (inr z) = absurd z
          second false c z = absurd z

          both : (b : Bool) → folded o s.ty (map val (scan_number s j r ∷ cond b (scan_number s j (r - 2 ^ j) ∷ []) []))
              (starting o s.ty s.length) ≡ cond b (combined o s.ty (combined o s.ty (starting o s.ty s.length) (val (scan_number s j r)))
              (val (scan_number s j (r - 2 ^ j)))) (combined o s.ty (starting o s.ty s.length) (val (scan_number s j r)))
          both true = refl
          both false = refl

-- ---- its links and bytes, in closed form
-- ---- scans: in round k the places from 2 ^ k on have two links
links-above : (f : ℕ → NewCell) (t k n : ℕ) → ((i : ℕ) → length (f i).into ≡ cond (nat_le t i) 2 1) →
    links_of (map f (from_to k n)) ≡ n + (k + n - t - (k - t))
links-above f t k zero h = let e : 0 ≡ 0 + (k + 0 - t - (k - t)) = omega arith in e
links-above f t k (suc n) h = at (nat_le t k) refl (links-cons (f k) (map f (from_to (suc k) n))) (h k) (links-above f t (suc k) n h)
  where
    at : (b : Bool) → nat_le t k ≡ b → links_of (f k ∷ map f (from_to (suc k) n)) ≡ length (f k).into + links_of
        (map f (from_to (suc k) n)) → length (f k).into ≡ cond (nat_le t k) 2 1
        → links_of (map f (from_to (suc k) n)) ≡ n + (suc k + n - t - (suc k - t)) → links_of (f k ∷ map f (from_to (suc k) n)) ≡ suc n
        + (k + suc n - t - (k - t))
    at true e c d r = let l = leb-true _ _ e in let g = d ∙ ap (λ b. cond b 2 1) e in omega (arith, l, c, g, r)
    at false e c d r = let l = leb-false _ _ e in let g = d ∙ ap (λ b. cond b 2 1) e in omega (arith, l, c, g, r)

scan-size : (s : StepContext) (o : AtomicOp) (k i : ℕ) → length (scan_cell s o (suc k) i).into ≡ cond (nat_le (2 ^ k) i) 2 1
scan-size s o k i = at (nat_le (2 ^ k) i)
  where
    at : (b : Bool)
        → length (map (atomic s.length) (scan_number s k i ∷ cond b (scan_number s k (i - 2 ^ k) ∷ []) [])) ≡ cond b 2 1
    at true = refl
    at false = refl

further-rows : (s : StepContext) (o : AtomicOp) (a n : ℕ) → links_of (rows s (scan_cell s o) (suc a) n) ≡ sum_by
    (λ k. count s + (count s - 2 ^ k)) (from_to a n)
further-rows s o a zero = refl
further-rows s o a (suc n) =
    links-append (row s (scan_cell s o) (suc a)) (rows s (scan_cell s o) (suc (suc a)) n)
    ∙ ap₂ (λ x y. x + y)
    (links-above (scan_cell s o (suc a)) (2 ^ a) 0 (count s) (scan-size s o a)
    ∙ (let e : count s + (0 + count s - 2 ^ a - (0 - 2 ^ a)) ≡ count s + (count s - 2 ^ a) = omega arith in e))
    (further-rows s o (suc a) n)
    ∙ sym (sum_by-cons (λ k. count s + (count s - 2 ^ k)) a (from_to (suc a) n))

pub scan-links : (s : StepContext) (o : AtomicOp) → links_of (scan_cells s o) ≡ 2 * count s + count s + sum_by
    (λ k. count s + (count s - 2 ^ k)) (from_to 0 (rounds (count s)))
scan-links s o =
    let a = links-append (entries s) (scan_rows s o) in
    let b = links-append (row s (scan_cell s o) 0) (rows s (scan_cell s o) 1 (rounds (count s))) in
    let c = entry-links s in
    let d = links-row (scan_cell s o 0) 0 (count s) 1 (λ i. refl) in
    let e = further-rows s o 0 (rounds (count s)) in
    let q : count s * 1 ≡ count s = omega arith in
    omega (arith, a, b, c, d, e, q)

pub scan-bytes : (s : StepContext) (o : AtomicOp) → bytes_in (scan_cells s o) ≡ count s * s.length + suc (rounds (count s)) *
    (count s * s.length)
scan-bytes s o = bytes-append (entries s) (scan_rows s o) ∙ ap₂ (λ x y. x + y) (entry-bytes s)
    (bytes-rows s (scan_cell s o) 0 (suc (rounds (count s))) s.length (λ k i. refl))
