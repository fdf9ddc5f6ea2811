-- How many links a plan has that was read.
use Rattle.std.proofs.Common.{ℕ, zero, suc, Bool, true, false, cond, ◌≡◌, ◌≤◌, ◌+◌, List, [], ◌∷◌, Option, Some, None, length}
use Rattle.std.proofs.Common.{Ok, Err, refl, ap, ◌∙◌, sym, subst}
use Rattle.std.specs.Prelude.{nat_lt}
use Rattle.std.proofs.lemmas.Bool.{ltb-false}
use Rattle.coll_shape.specs.declared.types.Buffer.{Buffer}
use Rattle.coll_text.specs.Text.{words}
use Rattle.plan_core.specs.declared.Cell.{Cell}
use Rattle.plan_core.specs.declared.Link.{Link}
use Rattle.given_lines.specs.declared.fault.GivenRefusal.TheVariants.{TooMany}
use Rattle.given_lines.specs.declared.given.Counts.{Counts}
use Rattle.given_lines.specs.Given.{Given, Read, after_head, and_then, at_line, given, head_read, marks_from, read_given, rows, unless_bad}
use Rattle.given_lines.specs.Words.{bounded_links, cell_of, counts_of, done_of, link_of}

-- both were read
both_read : {A B : Type 0} (r : Read A) (next : A → Read B) (y : B) → and_then r next ≡ Ok y → (x : A) × (r ≡ Ok x) × (next x ≡ Ok y)
both_read (Ok x) next y e = (x, refl, e)
both_read (Err refusal) next y e = absurd (let z : ⊥ = cc in z)

one_read : {A : Type 0} (x y : A) (r : Read A) → r ≡ Ok x → r ≡ Ok y → x ≡ y
one_read x y r e f = cc

-- as many things as lines were asked for
length_rows : {A : Type 0} (read : ℕ → List (List ℕ) → Option A) (count n k : ℕ) (pieces : List (List ℕ)) (r : List A × List (List ℕ))
    → rows read count n k pieces ≡ Ok r → length r.0 ≡ count
unfolding rows
length_rows {A} read zero n k pieces r e =
    let whole = one_read ([], pieces) r (Ok ([], pieces)) refl e in
    ap (λ (v : List A × List (List ℕ)). length v.0) (sym whole)
length_rows {A} read (suc count) n k [] r e = absurd (let z : ⊥ = cc in z)
length_rows {A} read (suc count) n k (piece ∷ []) r e = absurd (let z : ⊥ = cc in z)
length_rows {A} read (suc count) n k (line ∷ piece ∷ pieces) r e =
    let first = both_read (unless_bad k (read n (words line)))
    (λ x. and_then (rows read count (n + 1) (k + 1) (piece ∷ pieces)) (λ more. Ok (x ∷ more.0, more.1))) r e in
    let rest = both_read (rows read count (n + 1) (k + 1) (piece ∷ pieces)) (λ more. Ok (first.0 ∷ more.0, more.1)) r first.2 in
    let h = length_rows read count (n + 1) (k + 1) (piece ∷ pieces) rest.0 rest.1 in
    let whole = one_read (first.0 ∷ rest.0.0, rest.0.1) r (Ok (first.0 ∷ rest.0.0, rest.0.1)) refl rest.2 in
    ap (λ (v : List A × List (List ℕ)). length v.0) (sym whole) ∙ ap suc h

-- the head names no more links than are read
bounded : (k : ℕ) (x : Option Counts) (counts : Counts) → at_line k (bounded_links x) ≡ Ok counts → counts.links ≤ 500000
bounded k None counts e = absurd (let z : ⊥ = cc in z)
bounded k (Some y) counts e = at (nat_lt 500000 y.links) refl e
  where
    at : (b : Bool) → nat_lt 500000 y.links ≡ b → at_line k (cond b (Err TooMany) (Ok y)) ≡ Ok counts → counts.links ≤ 500000
    at true q f = absurd (let z : ⊥ = cc in z)
    at false q f = subst (λ (v : Counts). v.links ≤ 500000) (one_read y counts (Ok y) refl f) (ltb-false 500000 y.links q)

bounded_head : (ranks least k : ℕ) (pieces : List (List ℕ)) (r : Counts × List (List ℕ)) → head_read ranks least k pieces ≡ Ok r
    → r.0.links ≤ 500000
unfolding head_read
bounded_head ranks least k [] r e = absurd (let z : ⊥ = cc in z)
bounded_head ranks least k (piece ∷ []) r e = absurd (let z : ⊥ = cc in z)
bounded_head ranks least k (line ∷ piece ∷ pieces) r e =
    let first = both_read (at_line k (bounded_links (counts_of ranks least (words line))))
    (λ counts. Ok (counts, piece ∷ pieces)) r e in
    let whole = one_read (first.0, piece ∷ pieces) r (Ok (first.0, piece ∷ pieces)) refl first.2 in
    subst (λ (v : Counts × List (List ℕ)). v.0.links ≤ 500000) whole
    (bounded k (counts_of ranks least (words line)) first.0 first.1)

-- what is read after the cells, the links and the done counters
abbrev after_done : ℕ → List Buffer → ℕ → Counts → List Cell → List Link → List ℕ × List (List ℕ) → Read Given
after_done ranks buffers k counts cells links done =
    and_then (marks_from buffers (k + 1 + counts.cells + counts.links + ranks) done.1)
    (λ marks. Ok (given ranks counts.remote cells links done.0 marks))

abbrev after_links : ℕ → List Buffer → ℕ → Counts → List Cell → List Link × List (List ℕ) → Read Given
after_links ranks buffers k counts cells links =
    and_then (rows done_of ranks 0 (k + 1 + counts.cells + counts.links) links.1) (after_done ranks buffers k counts cells links.0)

abbrev after_cells : ℕ → List Buffer → ℕ → Counts → List Cell × List (List ℕ) → Read Given
after_cells ranks buffers k counts cells =
    and_then (rows link_of counts.links 0 (k + 1 + counts.cells) cells.1) (after_links ranks buffers k counts cells.0)

pub few_links : (ranks least : ℕ) (buffers : List Buffer) (k : ℕ) (pieces : List (List ℕ)) (g : Given)
    → read_given ranks least buffers k pieces ≡ Ok g → length g.plan.links ≤ 500000
unfolding read_given
few_links ranks least buffers k pieces g e =
    let head = both_read (head_read ranks least k pieces) (λ head. after_head ranks buffers k head.0 head.1) g e in
    let counts = head.0.0 in
    let cells = both_read (rows cell_of counts.cells 0 (k + 1) head.0.1) (after_cells ranks buffers k counts) g head.2 in
    let links = both_read (rows link_of counts.links 0 (k + 1 + counts.cells) cells.0.1)
    (after_links ranks buffers k counts cells.0.0) g cells.2 in
    let done = both_read (rows done_of ranks 0 (k + 1 + counts.cells + counts.links) links.0.1)
    (after_done ranks buffers k counts cells.0.0 links.0.0) g links.2 in
    let marks = both_read (marks_from buffers (k + 1 + counts.cells + counts.links + ranks) done.0.1)
    (λ marks. Ok (given ranks counts.remote cells.0.0 links.0.0 done.0.0 marks)) g done.2 in
    let whole = given ranks counts.remote cells.0.0 links.0.0 done.0.0 marks.0 in
    let same = ap (λ (v : Given). length v.plan.links) (one_read whole g (Ok whole) refl marks.2) in
    let many = length_rows link_of counts.links 0 (k + 1 + counts.cells) cells.0.1 links.0 links.1 in
    let at_most = bounded_head ranks least k pieces head.0 head.1 in
    subst (λ n. n ≤ 500000) (sym many ∙ same) at_most
