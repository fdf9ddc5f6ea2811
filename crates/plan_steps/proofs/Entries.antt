-- What a step begins with, and its entries.
use Rattle.std.proofs.Common.{ℕ, zero, suc, ◌+◌, ◌%◌, ◌≡◌, ◌<◌, List, [], ◌∷◌, ◌++◌, length, map, get_or, ap, ◌∙◌, sym, subst, arith}
use Rattle.plan_core.specs.Draw.{NewCell}
use Rattle.plan_core.specs.Plan.{Plan, cell, from_to}
use Rattle.plan_core.specs.declared.Cell.{Cell}
use Rattle.plan_steps.proofs.CellKinds.{bumped-sound, copying-sound, copying-value}
use Rattle.plan_steps.proofs.Drawn.{each_append, each_back, each_map, each_of_map, extends-all, length-map-from}
use Rattle.plan_steps.proofs.Grow.{cell-new, length-cells}
pub use Rattle.plan_steps.specs.Sounding.{Ground, HasA, IsCell, Known}
use Rattle.plan_steps.specs.Sounding.{EachAt, SoundNewCell, with_cell, with_cells}
use Rattle.plan_steps.specs.StepContext.{StepContext, bare_entry, count, entries, entry, full_entry, places, rank_at, exit_at, source_at}
use Rattle.ptl_types.specs.Operations.{bytes_of}

pub cells_all : (p : Plan) (ns : List NewCell) → EachAt (IsCell (cell (with_cells p ns))) (length p.cells) ns
cells_all p [] = tt
cells_all p (n ∷ ns) =
    let x = extends-all (with_cell p n) ns [] in
    let e = length-cells p n in (
      record { is_cell = x.same_cell (length p.cells) (omega arith) ∙ cell-new p n },
      subst (λ c. EachAt (IsCell (cell (with_cells (with_cell p n) ns))) c ns) e (cells_all (with_cell p n) ns),
    )

pub get_or-each : {X : Type 0} (f : ℕ → X) (d : X) (a m i : ℕ) → i < m → get_or (map f (from_to a m)) i d ≡ f (a + i)
get_or-each f d a zero i h = absurd (omega arith)
get_or-each f d a (suc m) zero h = ap f (let e : a ≡ a + 0 = omega arith in e)
get_or-each f d a (suc m) (suc i) h = get_or-each f d (suc a) m i (omega arith) ∙ ap f (let e : suc a + i ≡ a + suc i = omega arith in e)

zero_add : (i : ℕ) → 0 + i ≡ i
zero_add i = omega arith

-- ---- a list of nodes, one a place
pub each_places : (P : ℕ → NewCell → Type 0) (s : StepContext) (c : ℕ) (f : ℕ → NewCell) → ((i : ℕ) → i < count s → P (c + i) (f i)) →
    EachAt P c (map f (places s))
each_places P s c f h = each_map P c f 0 (count s) (λ i l. subst (λ j. P (c + i) (f j)) (sym (zero_add i)) (h i l))

pub of_places : (P : ℕ → NewCell → Type 0) (s : StepContext) (c : ℕ) (f : ℕ → NewCell) → EachAt P c (map f (places s)) → (i : ℕ) →
    i < count s → P (c + i) (f i)
of_places P s c f h i l = subst (λ j. P (c + i) (f j)) (zero_add i) (each_of_map P c f 0 (count s) h i l)

pub length-places : (s : StepContext) (f : ℕ → NewCell) → length (map f (places s)) ≡ count s
length-places s f = length-map-from f 0 (count s)

-- what stands after one list of places
pub behind : (P : ℕ → NewCell → Type 0) (s : StepContext) (c : ℕ) (f : ℕ → NewCell) (ns : List NewCell) →
    EachAt P c (map f (places s) ++ ns) → EachAt P (c + count s) ns
behind P s c f ns h = subst (λ v. EachAt P (c + v) ns) (length-places s f) (each_back P c (map f (places s)) ns h)

pub both_parts : (P : ℕ → NewCell → Type 0) (s : StepContext) (c : ℕ) (f : ℕ → NewCell) (ns : List NewCell) →
    EachAt P c (map f (places s)) → EachAt P (c + count s) ns → EachAt P c (map f (places s) ++ ns)
both_parts P s c f ns h k = each_append P c (map f (places s)) ns h (subst (λ v. EachAt P (c + v) ns) (sym (length-places s f)) k)

-- ---- entries
pub entries-sound : (ranks : ℕ) (k : ℕ → Cell) (s : StepContext) → Ground ranks k s → s.length % bytes_of s.ty ≡ 0 →
    ((i : ℕ) → i < count s → HasA k s i) → EachAt (SoundNewCell ranks k) s.first (entries s)
entries-sound ranks k s ground whole has = each_places (SoundNewCell ranks k) s s.first (full_entry s)
    (λ i h. let a = has i h in let l = a.low in let e = ground.exit_low i h in
    copying-sound ranks k (s.first + i) s.ty s.length (rank_at s i) (exit_at s i) (source_at s i) (ground.members i h) whole (omega arith)
    (ground.exit_rank i h) (omega arith) a.long)

pub bare-sound : (ranks : ℕ) (k : ℕ → Cell) (s : StepContext) → Ground ranks k s →
    EachAt (SoundNewCell ranks k) s.first (map (bare_entry s) (places s))
bare-sound ranks k s ground = each_places (SoundNewCell ranks k) s s.first (bare_entry s)
    (λ i h. let e = ground.exit_low i h in bumped-sound ranks k (s.first + i) (rank_at s i) (exit_at s i) (ground.members i h)
    (omega arith) (ground.exit_rank i h))

-- E(i) holds A
pub entry-value : (k : ℕ → Cell) (v : ℕ → List ℕ) (s : StepContext) (i : ℕ) → Known k v (entry s i) (full_entry s i) →
    length (v (source_at s i)) ≡ s.length → v (entry s i) ≡ v (source_at s i)
entry-value k v s i h e = h.is_value ∙ copying-value s.ty s.length (rank_at s i) (exit_at s i) (source_at s i) v e
