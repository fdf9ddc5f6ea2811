-- A barrier is sound, and its exit at a place comes after every entry.
use Rattle.std.proofs.Common.{ℕ, zero, suc, ◌+◌, ◌-◌, ◌*◌, ◌%◌, ◌^◌, ◌≡◌, ◌≤◌, ◌<◌, List, refl, length, map, ap, ◌∙◌, sym, subst, inl, inr}
use Rattle.std.proofs.Common.{arith, mod-lt, pow_pos, ap₂}
use Rattle.plan_core.specs.Draw.{NewCell, links_of, bytes_in}
use Rattle.plan_core.specs.Plan.{Plan, cell}
use Rattle.plan_core.specs.Rounds.{Comes}
use Rattle.plan_core.specs.Values.{Inputs}
use Rattle.plan_core.specs.declared.Cell.{Cell}
use Rattle.plan_steps.proofs.CellKinds.{told-sound}
use Rattle.plan_steps.proofs.Drawn.{Drawn, each_front, each_of_rows, each_rows}
use Rattle.plan_steps.proofs.Entries.{Ground, IsCell, bare-sound, behind, both_parts, of_places}
use Rattle.plan_steps.proofs.Folds.{Turned, turn}
use Rattle.plan_steps.proofs.Folds.Turned.{Above, Below}
use Rattle.plan_steps.proofs.RoundCounts.{rounds-at_most}
use Rattle.plan_steps.specs.Collectives.Barrier.{barrier_cells, round_links, round_cell, round_rows}
use Rattle.plan_steps.specs.Rounds.{rounds}
use Rattle.plan_steps.specs.StepContext.{StepContext, bare_entry, bump, count, entry, in_row, places, put, rank_at, rows, silent}
use Rattle.plan_steps.specs.StepContext.{bare_entries}
use Rattle.plan_steps.specs.Sounding.{EachAt, SoundNewCell}
use Rattle.plan_steps.proofs.StepSizes.{links-append, bytes-append, links-row, bytes-row, links-rows, bytes-rows}

module _ (k : ℕ → Cell) (s : StepContext) where
  abbrev round_node : ℕ → ℕ → NewCell
  round_node j r = silent (rank_at s r) (round_links s j r)

  abbrev each_round : List NewCell
  each_round = rows s round_node 0 (rounds (count s))

  pub round-at : (P : ℕ → NewCell → Type 0) → EachAt P (s.first + count s) each_round → (j r : ℕ) → j < rounds (count s) → r < count s →
      P (in_row s (suc j) r) (round_node j r)
  round-at P h j r i l =
      let z : 0 + j ≡ j = omega arith in
      subst (λ c. P c (round_node j r)) (let q : suc j * count s ≡ j * count s + count s = omega arith in
      let e : s.first + count s + (j * count s + r) ≡ s.first + (suc j * count s + r) = omega (arith, q) in e)
      (subst (λ v. P (s.first + count s + (j * count s + r)) (round_node v r)) z
      (each_of_rows P (s.first + count s) round_node (count s) 0 (rounds (count s)) h j r i l))

  pub first_round : (r : ℕ) → in_row s 0 r ≡ entry s r
  first_round r = omega arith

  round_rank : EachAt (IsCell k) s.first (barrier_cells s) → (j r : ℕ) → j ≤ rounds (count s) → r < count s →
      (k (in_row s j r)).rank ≡ rank_at s r
  round_rank cells zero r h i = ap (λ c. (k c).rank) (first_round r)
      ∙ ap (λ (x : Cell). x.rank) (of_places (IsCell k) s s.first (bare_entry s)
      (each_front (IsCell k) s.first (map (bare_entry s) (places s)) each_round cells) r i).is_cell
  round_rank cells (suc j) r h i = ap (λ (x : Cell). x.rank)
      (round-at (IsCell k) (behind (IsCell k) s s.first (bare_entry s) each_round cells) j r h i).is_cell

  pub barrier-sound : (ranks : ℕ) → Ground ranks k s → EachAt (IsCell k) s.first (barrier_cells s) →
      EachAt (SoundNewCell ranks k) s.first (barrier_cells s)
  barrier-sound ranks ground cells =
      both_parts (SoundNewCell ranks k) s s.first (bare_entry s) each_round
      (bare-sound ranks k s ground)
      (each_rows (SoundNewCell ranks k) (s.first + count s) round_node (count s) 0 (rounds (count s))
      (λ j r h i. let z : j ≡ 0 + j = omega arith in subst (λ v. SoundNewCell ranks k (s.first + count s + (j * count s + r))
      (round_node v r)) z
      (let n = mod-lt (r + (count s - 2 ^ j)) ground.some in
      told-sound ranks k (s.first + count s + (j * count s + r)) (rank_at s r) (in_row s j r)
      (in_row s j ((r + (count s - 2 ^ j)) % count s)) (ground.members r i) (omega arith) (round_rank cells j r (omega arith) i)
      (omega (arith, n)))))

-- ---- a barrier that is drawn: round j + 1 at place r comes after round j there and at the place 2 ^ j before it
module _ (q : Plan) (inputs : Inputs) (s : StepContext) (pos : 0 < count s) (small : count s ≤ 256)
    (drawn : EachAt (Drawn q inputs) s.first (barrier_cells s)) where
  row_drawn : EachAt (Drawn q inputs) (s.first + count s) (rows s (λ j r. silent (rank_at s r) (round_links s j r)) 0 (rounds (count s)))
  row_drawn = behind (Drawn q inputs) s s.first (bare_entry s)
      (rows s (λ j r. silent (rank_at s r) (round_links s j r)) 0 (rounds (count s))) drawn

  there : (j r : ℕ) → j < rounds (count s) → r < count s → Drawn q inputs (in_row s (suc j) r) (silent (rank_at s r) (round_links s j r))
  there j r t h = round-at (cell q) s (Drawn q inputs) row_drawn j r t h

  pub round-stays : (j r : ℕ) → j < rounds (count s) → r < count s → Comes q (in_row s j r) (in_row s (suc j) r)
  round-stays j r t h = (there j r t h).comes (bump (in_row s j r)) (inl refl)

  pub round-comes : (j m r : ℕ) → j < rounds (count s) → m < count s → r < count s → (m + 2 ^ j) % count s ≡ r →
      Comes q (in_row s j m) (in_row s (suc j) r)
  round-comes j m r t l h e =
      subst (λ v. Comes q (in_row s j v) (in_row s (suc j) r))
      (before (rounds-at_most (count s) j t) (turn m (2 ^ j) (count s) l (let f = rounds-at_most (count s) j t in omega (arith, f)))
      (turn r (count s - 2 ^ j) (count s) h (let p : 0 < 2 ^ j = pow_pos j in omega (arith, p))))
      ((there j r t h).comes (put 0 (in_row s j ((r + (count s - 2 ^ j)) % count s)) 0 0) (inr (inl refl)))
    where
      before : 2 ^ j < count s → Turned m (2 ^ j) (count s) → Turned r (count s - 2 ^ j) (count s) → (r + (count s - 2 ^ j)) % count s ≡ m
      before f (Below a x) (Below b y) = omega (arith, x, y, e, f)
      before f (Below a x) (Above b y) = omega (arith, x, y, e, f)
      before f (Above a x) (Below b y) = omega (arith, x, y, e, f)
      before f (Above a x) (Above b y) = omega (arith, x, y, e, f)

  -- each round's cells are the plan's
  pub round-inside : (j r : ℕ) → j ≤ rounds (count s) → r < count s → in_row s j r < length q.cells
  round-inside zero r t h = subst (λ c. c < length q.cells) (sym (first_round (cell q) s r))
      ((of_places (Drawn q inputs) s s.first (bare_entry s) (each_front (Drawn q inputs) s.first (map (bare_entry s) (places s))
      (rows s (λ j r. silent (rank_at s r) (round_links s j r)) 0 (rounds (count s))) drawn) r h).in_plan)
  round-inside (suc j) r t h = (there j r t h).in_plan

-- ---- its links and bytes, in closed form
pub barrier-links : (s : StepContext) → links_of (barrier_cells s) ≡ count s + 2 * (rounds (count s) * count s)
barrier-links s =
    let m = count s in
    let k = rounds (count s) in
    links-append (bare_entries s) (round_rows s)
    ∙ ap₂ (λ x y. x + y) (links-row (bare_entry s) 0 m 1 (λ i. refl)) (links-rows s (round_cell s) 0 k 2 (λ k i. refl))
    ∙ (let z : m * 1 + k * (m * 2) ≡ m + 2 * (k * m) = omega arith in z)

pub barrier-bytes : (s : StepContext) → bytes_in (barrier_cells s) ≡ 0
barrier-bytes s =
    let a = bytes-append (bare_entries s) (round_rows s) in
    let b = bytes-row (bare_entry s) 0 (count s) 0 (λ i. refl) in
    let c = bytes-rows s (round_cell s) 0 (rounds (count s)) 0 (λ k i. refl) in
    let d : count s * 0 ≡ 0 = omega arith in
    let e : rounds (count s) * (count s * 0) ≡ 0 = ap (λ v. rounds (count s) * v) d
    ∙ (let z : rounds (count s) * 0 ≡ 0 = omega arith in z) in
    omega (arith, a, b, c, d, e)
