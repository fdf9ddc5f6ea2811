-- A plan's text is read as the plan.
use Rattle.std.proofs.Common.{◌≡◌, ℕ, zero, suc, ◌+◌, ◌<◌, ◌≤◌, List, [], ◌∷◌, ◌++◌, map, length, get_or, Option, Some, Ok}
use Rattle.std.proofs.Common.{Bool, true, false, cond, refl, sym, ap, ap₂, ◌∙◌, arith, append_assoc}
use Rattle.std.specs.Prelude.{◌==◌}
use Rattle.std.specs.List.{flat_map, join_with_byte}
use Rattle.std.proofs.lemmas.Bool.Decides.{nat_tests}
use Rattle.std.proofs.lemmas.List.Sums.{count_by-le-length, length-filter}
use Rattle.number_lists.specs.Numbers.{from_to}
use Rattle.coll_text.specs.Text.{line, lines, words}
use Rattle.coll_text.proofs.ReadBack.{line_of, none_is, words_of_joined}
use Rattle.coll_text.proofs.WordsBack.{solid_apart}
use Rattle.coll_shape.specs.declared.types.Buffer.{Buffer}
use Rattle.coll_lang.specs.Language.{is_allowed}
use Rattle.coll_lang.proofs.Leading.{solid_allowed}
use Rattle.coll_lang.proofs.Reading.{some_piece}
use Rattle.coll_lang.proofs.SoundSteps.{from_to-long}
use Rattle.plan_core.specs.declared.Cell.{Cell}
use Rattle.plan_core.specs.declared.Link.{Link}
use Rattle.plan_core.specs.Plan.{Plan, cell, link, no_cell, no_link, own, out_links, all_cells, all_links}
use Rattle.plan_core.specs.calls.RankOps.{done_threshold, is_message, sends_of}
use Rattle.run_text.specs.Plans.{cell_line_of, done_line_of, link_line_of, plan_line, plan_text}
use Rattle.run_text.specs.declared.plans.PlanLine.TheVariants.{Head, EndLine}
use Rattle.given_lines.specs.Given.{Read, and_then, given, head_read, marks_from, read_given, rows, unless_bad}
use Rattle.given_lines.specs.Words.{cell_of, counts_of, done_of, link_of}
use Rattle.given_lines.proofs.Heads.{before, read, whole}
use Rattle.text_laws.specs.Written.{CanBeWritten}
use Rattle.text_laws.proofs.Words.{AreSolid, IsRow, cell_row, counts_of_plan, done_row, head_row, link_row}

no_break : (b : ℕ) → is_allowed b ≡ true → b == 10 ≡ false
no_break b h = grind (arith, nat_tests, h)

-- a line is cut off what comes after it
cut_off : (w : List ℕ) (ws : List (List ℕ)) (rest : List ℕ) → AreSolid (w ∷ ws)
    → lines (line (w ∷ ws) ++ rest) ≡ join_with_byte 32 (w ∷ ws) ∷ lines rest
cut_off w ws rest solid =
    let l = join_with_byte 32 (w ∷ ws) in
    ap lines (append_assoc l (10 ∷ []) rest) ∙ line_of l rest (none_is is_allowed 10 l no_break (solid_allowed (w ∷ ws) solid))

-- and cut into its words
told : (w : List ℕ) (ws : List (List ℕ)) → AreSolid (w ∷ ws) → words (join_with_byte 32 (w ∷ ws)) ≡ w ∷ ws
told w ws solid = words_of_joined w ws (solid_apart (w ∷ ws) solid)

rows_back : {A : Type 0} (read : ℕ → List (List ℕ) → Option A) (text : ℕ → List ℕ) (value : ℕ → A) (count n k : ℕ) (rest : List ℕ)
    → ((j : ℕ) → n ≤ j → j < n + count → IsRow read j (text j) (value j))
    → rows read count n k (lines (flat_map text (from_to n count) ++ rest)) ≡ Ok (map value (from_to n count), lines rest)
unfolding rows
rows_back {A} read text value zero n k rest each = refl
rows_back {A} read text value (suc count) n k rest each =
    let row = each n (omega arith) (omega arith) in
    let next : suc n ≡ n + 1 = omega arith in
    let later = flat_map text (from_to (n + 1) count) ++ rest in
    let l = join_with_byte 32 (row.key ∷ row.others) in
    let p = some_piece 0 later in
    let cut : lines (flat_map text (from_to n (suc count)) ++ rest) ≡ l ∷ p.0 ∷ p.1 =
    ap (λ q. lines ((text n ++ flat_map text (from_to q count)) ++ rest)) next
    ∙ ap lines (append_assoc (text n) (flat_map text (from_to (n + 1) count)) rest)
    ∙ ap (λ (t : List ℕ). lines (t ++ later)) row.is
    ∙ cut_off row.key row.others later row.solid
    ∙ ap (λ (v : List (List ℕ)). l ∷ v) p.2 in
    let said : read n (words l) ≡ Some (value n) = ap (read n) (told row.key row.others row.solid) ∙ row.says in
    let more = rows_back read text value count (n + 1) (k + 1) rest (λ j low lt. each j (omega (arith, low)) (omega (arith, lt))) in
    ap (rows read (suc count) n k) cut
    ∙ ap (λ (o : Option A). and_then (unless_bad k o) (λ x. and_then (rows read count (n + 1) (k + 1) (p.0 ∷ p.1))
    (λ more. Ok (x ∷ more.0, more.1)))) said
    ∙ ap (λ (v : List (List ℕ)). and_then (rows read count (n + 1) (k + 1) v) (λ more. Ok (value n ∷ more.0, more.1))) (sym p.2)
    ∙ ap (λ (r : Read (List A × List (List ℕ))). and_then r (λ more. Ok (value n ∷ more.0, more.1))) more
    ∙ ap (λ q. Ok (value n ∷ map value (from_to q count), lines rest)) (sym next)

-- a list is what stands at its places
at_places : {A : Type 0} (f : ℕ → A) (d : A) (k : ℕ) (xs : List A) → ((i j : ℕ) → i < length xs → j ≡ k + i → f j ≡ get_or xs i d)
    → map f (from_to k (length xs)) ≡ xs
at_places {A} f d k [] same = refl
at_places {A} f d k (x ∷ xs) same =
    ap₂ (λ (y : A) (ys : List A). y ∷ ys) (same 0 k (omega arith) (omega arith))
    (at_places f d (suc k) xs (λ i j lt e. same (suc i) j (omega (arith, lt)) (omega (arith, e))))

all_cells_are : (p : Plan) → map (cell p) (from_to 0 (length p.cells)) ≡ p.cells
all_cells_are p =
    at_places (cell p) no_cell 0 p.cells (λ i j lt e. ap (λ m. get_or p.cells m no_cell) (let same : j ≡ i = omega (arith, e) in same))

all_links_are : (p : Plan) → map (link p) (from_to 0 (length p.links)) ≡ p.links
all_links_are p =
    at_places (link p) no_link 0 p.links (λ i j lt e. ap (λ m. get_or p.links m no_link) (let same : j ≡ i = omega (arith, e) in same))

-- no threshold is more than all cells and links
only_some : (b : Bool) (x most : ℕ) → x ≤ most → cond b x 0 ≤ most
only_some true x most le = le
only_some false x most le = omega arith

own_few : (p : Plan) (r : ℕ) → length (own p r) ≤ length p.cells
own_few p r =
    let e = length-filter (λ c. (cell p c).rank == r) (all_cells p) in
    let most = count_by-le-length (λ c. (cell p c).rank == r) (all_cells p) in
    let all = from_to-long 0 (length p.cells) in
    omega (arith, e, most, all)

sends_few : (p : Plan) (r : ℕ) → sends_of p r ≤ length p.links
sends_few p r =
    let sent = count_by-le-length (is_message p) (out_links p r) in
    let e = length-filter (λ l. (cell p (link p l).source).rank == r) (all_links p) in
    let most = count_by-le-length (λ l. (cell p (link p l).source).rank == r) (all_links p) in
    let all = from_to-long 0 (length p.links) in
    omega (arith, sent, e, most, all)

threshold_small : (p : Plan) (r : ℕ) → done_threshold p r ≤ length p.cells + length p.links
threshold_small p r =
    let cells = own_few p r in
    let sends = only_some p.remote (sends_of p r) (length p.links) (sends_few p r) in
    omega (arith, cells, sends)

end_back : (buffers : List Buffer) (k : ℕ) → marks_from buffers k (lines (plan_line EndLine)) ≡ Ok []
unfolding marks_from
end_back buffers k = refl

pub plan_back : (p : Plan) (least k : ℕ) (buffers : List Buffer) → CanBeWritten least p
    → read_given p.ranks least buffers k (lines (plan_text p))
    ≡ Ok (given p.ranks p.remote p.cells p.links (map (done_threshold p) (from_to 0 p.ranks)) [])
plan_back p least k buffers fits =
    let n = length p.cells in
    let m = length p.links in
    let first = plan_line (Head p.ranks n m p.remote) in
    let ending = plan_line EndLine in
    let dones = flat_map (done_line_of p) (from_to 0 p.ranks) ++ ending in
    let links = flat_map (link_line_of p) (from_to 0 m) ++ dones in
    let cells = flat_map (cell_line_of p) (from_to 0 n) ++ links in
    let of_cells = flat_map (cell_line_of p) (from_to 0 n) in
    let of_links = flat_map (link_line_of p) (from_to 0 m) in
    let row = head_row least k p fits in
    let l = join_with_byte 32 (row.key ∷ row.others) in
    let cut : lines (plan_text p) ≡ l ∷ lines cells =
    ap lines (append_assoc first (of_cells ++ of_links) dones ∙ ap (λ (t : List ℕ). first ++ t) (append_assoc of_cells of_links dones)
    ∙ ap (λ (t : List ℕ). t ++ cells) row.is) ∙ cut_off row.key row.others cells row.solid in
    let said : counts_of p.ranks least (words l) ≡ Some (counts_of_plan p) =
    ap (counts_of p.ranks least) (told row.key row.others row.solid) ∙ row.says in
    let head : head_read p.ranks least k (lines (plan_text p)) ≡ Ok (counts_of_plan p, lines cells) =
    read p.ranks least k (plan_text p) l cells (counts_of_plan p) cut said fits.links in
    let cells_back : rows cell_of n 0 (k + 1) (lines cells) ≡ Ok (p.cells, lines links) =
    rows_back cell_of (cell_line_of p) (cell p) n 0 (k + 1) links
    (λ j low lt. cell_row j (cell p j) (omega (arith, lt, fits.cells)) (fits.each_cell j (omega (arith, lt))))
    ∙ ap (λ (xs : List Cell). Ok (xs, lines links)) (all_cells_are p) in
    let links_back : rows link_of m 0 (k + 1 + n) (lines links) ≡ Ok (p.links, lines dones) =
    rows_back link_of (link_line_of p) (link p) m 0 (k + 1 + n) dones
    (λ j low lt. link_row j (link p j) (omega (arith, lt, fits.links)) (fits.each_link j (omega (arith, lt))))
    ∙ ap (λ (xs : List Link). Ok (xs, lines dones)) (all_links_are p) in
    let done_back = rows_back done_of (done_line_of p) (done_threshold p) p.ranks 0 (k + 1 + n + m) ending
    (λ j low lt. done_row j (done_threshold p j) (omega (arith, lt, fits.ranks))
    (let small = threshold_small p j in omega (arith, small, fits.cells, fits.links))) in
    let b = before p.ranks least k (lines (plan_text p)) (lines cells) (lines links) (lines dones) (lines ending) (counts_of_plan p)
    p.cells p.links (map (done_threshold p) (from_to 0 p.ranks)) (k + 1) (k + 1 + n) (k + 1 + n + m) (k + 1 + n + m + p.ranks)
    head refl cells_back refl links_back refl done_back refl in
    whole p.ranks least k buffers (lines (plan_text p)) (counts_of_plan p) p.cells p.links
    (map (done_threshold p) (from_to 0 p.ranks)) (k + 1 + n + m + p.ranks) (lines ending) [] b
    (end_back buffers (k + 1 + n + m + p.ranks))
