-- What is read of a plan's text.
use Rattle.std.proofs.Common.{◌≡◌, ℕ, zero, suc, ◌+◌, ◌≤◌, Bool, List, [], ◌∷◌, length, Option, Ok, Err, inl, inr, refl, sym, ap, arith}
use Rattle.std.specs.Prelude.{codes}
use Rattle.std.specs.Prelude.{◌==◌}
use Rattle.std.specs.Str.{bytes_eq}
use Rattle.std.proofs.lemmas.Bool.{cases_cond}
use Rattle.std.proofs.lemmas.List.Sums.{count_by-le-length}
use Rattle.std.proofs.lemmas.List.Splits.{length-slice_split}
use Rattle.coll_shape.specs.declared.types.Buffer.{Buffer}
use Rattle.coll_text.specs.Text.{is_empty, lines, words}
use Rattle.plan_core.specs.declared.Cell.{Cell}
use Rattle.plan_core.specs.declared.Link.{Link}
use Rattle.given_lines.specs.declared.fault.GivenRefusal.TheVariants.{AfterEnd}
use Rattle.given_lines.specs.declared.given.Counts.{Counts}
use Rattle.given_lines.specs.declared.given.Mark.{Mark}
use Rattle.given_lines.specs.Given.{Given, Read, after_head, and_then, at_line, ended, given, head_read, marks_from, read_given, rows}
use Rattle.given_lines.specs.Given.{unless_bad}
use Rattle.given_lines.specs.Words.{bounded_links, cell_of, counts_of, done_of, link_of, mark_of}

-- both were read
and_then-read : {A B : Type 0} (r : Read A) (next : A → Read B) (y : B) → and_then r next ≡ Ok y → (x : A) × (r ≡ Ok x) × (next x ≡ Ok y)
and_then-read (Ok x) next y e = (x, refl, e)
and_then-read (Err refusal) next y e = absurd (let z : ⊥ = cc in z)

same_read : {A : Type 0} (x y : A) (r : Read A) → r ≡ Ok x → r ≡ Ok y → x ≡ y
same_read x y r e f = cc

-- ---- no more lines are named than the text has

few_rows : {A : Type 0} (read : ℕ → List (List ℕ) → Option A) (count n k : ℕ) (pieces : List (List ℕ)) (r : List A × List (List ℕ))
    → rows read count n k pieces ≡ Ok r → length r.1 ≤ length pieces
unfolding rows
few_rows {A} read zero n k pieces r e =
    let whole = same_read ([], pieces) r (Ok ([], pieces)) refl e in
    let m = ap (λ (v : List A × List (List ℕ)). length v.1) whole in
    omega (arith, m)
few_rows {A} read (suc count) n k [] r e = absurd (let z : ⊥ = cc in z)
few_rows {A} read (suc count) n k (piece ∷ []) r e = absurd (let z : ⊥ = cc in z)
few_rows {A} read (suc count) n k (line ∷ piece ∷ pieces) r e =
    let first = and_then-read (unless_bad k (read n (words line)))
    (λ x. and_then (rows read count (n + 1) (k + 1) (piece ∷ pieces)) (λ more. Ok (x ∷ more.0, more.1))) r e in
    let rest = and_then-read (rows read count (n + 1) (k + 1) (piece ∷ pieces)) (λ more. Ok (first.0 ∷ more.0, more.1)) r first.2 in
    let h = few_rows read count (n + 1) (k + 1) (piece ∷ pieces) rest.0 rest.1 in
    let whole = same_read (first.0 ∷ rest.0.0, rest.0.1) r (Ok (first.0 ∷ rest.0.0, rest.0.1)) refl rest.2 in
    let m = ap (λ (v : List A × List (List ℕ)). length v.1) whole in
    omega (arith, h, m)

few_after_head : (ranks least k : ℕ) (pieces : List (List ℕ)) (r : Counts × List (List ℕ)) → head_read ranks least k pieces ≡ Ok r
    → length r.1 ≤ length pieces
unfolding head_read
few_after_head ranks least k [] r e = absurd (let z : ⊥ = cc in z)
few_after_head ranks least k (piece ∷ []) r e = absurd (let z : ⊥ = cc in z)
few_after_head ranks least k (line ∷ piece ∷ pieces) r e =
    let first = and_then-read (at_line k (bounded_links (counts_of ranks least (words line))))
    (λ counts. Ok (counts, piece ∷ pieces)) r e in
    let whole = same_read (first.0, piece ∷ pieces) r (Ok (first.0, piece ∷ pieces)) refl first.2 in
    let m = ap (λ (v : Counts × List (List ℕ)). length v.1) whole in
    omega (arith, m)

none_ended : (k : ℕ) (pieces : List (List ℕ)) (ms : List Mark) → ended k pieces ≡ Ok ms → length ms ≡ 0
none_ended k [] ms e = ap length (same_read ms [] (Ok ms) refl (sym e))
none_ended k (piece ∷ []) ms e =
    elim (cases_cond (is_empty piece) (Ok []) (Err (k, AfterEnd)) (Ok ms) (sym e)) [
      | inl f ↦ ap length (same_read ms [] (Ok ms) refl f)
      | inr f ↦ absurd (let z : ⊥ = cc in z)
    ]
none_ended k (line ∷ piece ∷ pieces) ms e = absurd (let z : ⊥ = cc in z)

few_from : (buffers : List Buffer) (k : ℕ) (pieces : List (List ℕ)) (ms : List Mark) → marks_from buffers k pieces ≡ Ok ms
    → length ms ≤ length pieces
unfolding marks_from
few_from buffers k [] ms e = absurd (let z : ⊥ = cc in z)
few_from buffers k (piece ∷ []) ms e = absurd (let z : ⊥ = cc in z)
few_from buffers k (line ∷ piece ∷ pieces) ms e =
    elim (cases_cond (bytes_eq line (codes "end")) (ended (k + 1) (piece ∷ pieces))
    (and_then (unless_bad k (mark_of buffers (words line)))
    (λ x. and_then (marks_from buffers (k + 1) (piece ∷ pieces)) (λ more. Ok (x ∷ more)))) (Ok ms) (sym e)) [
      | inl f ↦ let n = none_ended (k + 1) (piece ∷ pieces) ms (sym f) in omega (arith, n)
      | inr f ↦
          let first = and_then-read (unless_bad k (mark_of buffers (words line)))
          (λ x. and_then (marks_from buffers (k + 1) (piece ∷ pieces)) (λ more. Ok (x ∷ more))) ms (sym f) in
          let rest = and_then-read (marks_from buffers (k + 1) (piece ∷ pieces)) (λ more. Ok (first.0 ∷ more)) ms first.2 in
          let n = few_from buffers (k + 1) (piece ∷ pieces) rest.0 rest.1 in
          let whole = same_read (first.0 ∷ rest.0) ms (Ok (first.0 ∷ rest.0)) refl rest.2 in
          let m = ap length whole in
          omega (arith, n, m)
    ]

few_lines : (text : List ℕ) → length (lines text) ≤ length text + 1
few_lines text =
    let n = length-slice_split (λ (b : ℕ). b == 10) text in
    let m = count_by-le-length (λ (b : ℕ). b == 10) text in
    omega (arith, n, m)

-- ---- all of it

-- what was read: a plan of the description's ranks, and fewer named cells than the text has bytes
pub record IsPlanOf (n : ℕ) (text : List ℕ) (g : Given) : Type 0 where
  pub ranks : g.plan.ranks ≡ n
  pub few : length g.marks ≤ length text + 1

of_parts : (ranks : ℕ) (text : List ℕ) (remote : Bool) (cells : List Cell) (links : List Link) (done : List ℕ) (marks : List Mark)
    (g : Given) → given ranks remote cells links done marks ≡ g → length marks ≤ length text + 1 → IsPlanOf ranks text g
of_parts ranks text remote cells links done marks g e few =
    let m = ap (λ (v : Given). length v.marks) e in
    record {
      ranks = ap (λ (v : Given). v.plan.ranks) (sym e);
      few = omega (arith, m, few);
    }

-- what is read after the cells, the links and the done counters
abbrev after_done : ℕ → List Buffer → ℕ → Counts → List Cell → List Link → List ℕ × List (List ℕ) → Read Given
after_done ranks buffers k counts cells links done =
    and_then (marks_from buffers (k + 1 + counts.cells + counts.links + ranks) done.1)
    (λ marks. Ok (given ranks counts.remote cells links done.0 marks))

abbrev after_links : ℕ → List Buffer → ℕ → Counts → List Cell → List Link × List (List ℕ) → Read Given
after_links ranks buffers k counts cells links =
    and_then (rows done_of ranks 0 (k + 1 + counts.cells + counts.links) links.1) (after_done ranks buffers k counts cells links.0)

abbrev after_cells : ℕ → List Buffer → ℕ → Counts → List Cell × List (List ℕ) → Read Given
after_cells ranks buffers k counts cells =
    and_then (rows link_of counts.links 0 (k + 1 + counts.cells) cells.1) (after_links ranks buffers k counts cells.0)

pub plan_read : (ranks least : ℕ) (buffers : List Buffer) (k : ℕ) (text : List ℕ) (g : Given)
    → read_given ranks least buffers k (lines text) ≡ Ok g → IsPlanOf ranks text g
unfolding read_given
plan_read ranks least buffers k text g e =
    let head = and_then-read (head_read ranks least k (lines text)) (λ head. after_head ranks buffers k head.0 head.1) g e in
    let counts = head.0.0 in
    let cells = and_then-read (rows cell_of counts.cells 0 (k + 1) head.0.1) (after_cells ranks buffers k counts) g head.2 in
    let links = and_then-read (rows link_of counts.links 0 (k + 1 + counts.cells) cells.0.1)
    (after_links ranks buffers k counts cells.0.0) g cells.2 in
    let done = and_then-read (rows done_of ranks 0 (k + 1 + counts.cells + counts.links) links.0.1)
    (after_done ranks buffers k counts cells.0.0 links.0.0) g links.2 in
    let marks = and_then-read (marks_from buffers (k + 1 + counts.cells + counts.links + ranks) done.0.1)
    (λ marks. Ok (given ranks counts.remote cells.0.0 links.0.0 done.0.0 marks)) g done.2 in
    let a = few_lines text in
    let b = few_after_head ranks least k (lines text) head.0 head.1 in
    let c = few_rows cell_of counts.cells 0 (k + 1) head.0.1 cells.0 cells.1 in
    let d = few_rows link_of counts.links 0 (k + 1 + counts.cells) cells.0.1 links.0 links.1 in
    let f = few_rows done_of ranks 0 (k + 1 + counts.cells + counts.links) links.0.1 done.0 done.1 in
    let h = few_from buffers (k + 1 + counts.cells + counts.links + ranks) done.0.1 marks.0 marks.1 in
    let whole = given ranks counts.remote cells.0.0 links.0.0 done.0.0 marks.0 in
    of_parts ranks text counts.remote cells.0.0 links.0.0 done.0.0 marks.0 g (same_read whole g (Ok whole) refl marks.2)
    (omega (arith, a, b, c, d, f, h))
