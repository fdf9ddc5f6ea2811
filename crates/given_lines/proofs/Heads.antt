-- The first line, and what comes after it.
use Rattle.std.proofs.Common.{◌≡◌, ℕ, ◌+◌, ◌<◌, ◌≤◌, List, [], ◌∷◌, Some, None, Ok, Err, true, false, refl, arith}
use Rattle.std.specs.Prelude.{nat_lt}
use Rattle.std.proofs.lemmas.Bool.Decides.{nat_tests}
use Rattle.coll_shape.specs.declared.types.Buffer.{Buffer}
use Rattle.coll_text.specs.Text.{lines, words}
use Rattle.coll_lang.proofs.Reading.{some_piece}
use Rattle.plan_core.specs.declared.Cell.{Cell}
use Rattle.plan_core.specs.declared.Link.{Link}
use Rattle.given_lines.specs.declared.fault.GivenFault.{GivenFault}
use Rattle.given_lines.specs.declared.fault.GivenFault.TheVariants.{NoMemory, Refused}
use Rattle.given_lines.specs.declared.fault.GivenRefusal.TheVariants.{BadPlan, TooMany, Unended}
use Rattle.given_lines.specs.declared.given.Counts.{Counts}
use Rattle.given_lines.specs.declared.given.Mark.{Mark}
use Rattle.given_lines.specs.Given.{given, head_read, marks_from, read_given, rows}
use Rattle.given_lines.specs.Reads.{Fails}
use Rattle.given_lines.specs.Words.{cell_of, counts_of, done_of, link_of}

-- ---- the first line

pub ends_early : (ranks least k : ℕ) (text : List ℕ) (fault : GivenFault)
    → ((piece : List ℕ) × (lines text ≡ piece ∷ [])) × (fault ≡ Refused k Unended) → Fails fault (head_read ranks least k (lines text))
unfolding head_read
ends_early ranks least k text fault missing = rw (missing.1, missing.0.1) refl

pub bad : (ranks least k : ℕ) (text line rest : List ℕ) → lines text ≡ line ∷ lines rest → counts_of ranks least (words line) ≡ None
    → head_read ranks least k (lines text) ≡ Err (k, BadPlan)
unfolding head_read
bad ranks least k text line rest cut said =
    let p = some_piece 0 rest in
    rw (cut, p.2, said) refl

is_above : (n : ℕ) → 500000 < n → nat_lt 500000 n ≡ true
is_above n lt = grind (arith, nat_tests)

pub too_many : (ranks least k : ℕ) (text line rest : List ℕ) (counts : Counts) → lines text ≡ line ∷ lines rest
    → counts_of ranks least (words line) ≡ Some counts → 500000 < counts.links → head_read ranks least k (lines text) ≡ Err (k, TooMany)
unfolding head_read
too_many ranks least k text line rest counts cut said many =
    let p = some_piece 0 rest in
    rw (cut, p.2, said, is_above counts.links many) refl

not_above : (n : ℕ) → n ≤ 500000 → nat_lt 500000 n ≡ false
not_above n le = grind (arith, nat_tests)

pub read : (ranks least k : ℕ) (text line rest : List ℕ) (counts : Counts) → lines text ≡ line ∷ lines rest
    → counts_of ranks least (words line) ≡ Some counts → counts.links ≤ 500000
    → head_read ranks least k (lines text) ≡ Ok (counts, lines rest)
unfolding head_read
read ranks least k text line rest counts cut said within =
    let p = some_piece 0 rest in
    rw (cut, p.2, said, not_above counts.links within) refl

-- ---- where reading stops: in the head, the cells, the links, the done counters, the named cells

pub in_head : (ranks least k : ℕ) (buffers : List Buffer) (pieces : List (List ℕ)) (fault : GivenFault)
    → Fails fault (head_read ranks least k pieces) → Fails fault (read_given ranks least buffers k pieces)
unfolding read_given
in_head ranks least k buffers pieces NoMemory fails = tt
in_head ranks least k buffers pieces (Refused line name) fails = rw fails refl

pub in_cells : (ranks least k : ℕ) (buffers : List Buffer) (pieces second : List (List ℕ)) (counts : Counts) (from : ℕ) (fault : GivenFault)
    → head_read ranks least k pieces ≡ Ok (counts, second) → from ≡ k + 1 → Fails fault (rows cell_of counts.cells 0 from second)
    → Fails fault (read_given ranks least buffers k pieces)
unfolding read_given
in_cells ranks least k buffers pieces second counts from NoMemory head e fails = tt
in_cells ranks least k buffers pieces second counts from (Refused line name) head e fails =
    let f : rows cell_of counts.cells 0 (k + 1) second ≡ Err (line, name) = rw e at fails in
    rw (head, f) refl

pub in_links : (ranks least k : ℕ) (buffers : List Buffer) (pieces second third : List (List ℕ)) (counts : Counts) (cells : List Cell)
    (from next : ℕ) (fault : GivenFault) → head_read ranks least k pieces ≡ Ok (counts, second) → from ≡ k + 1
    → rows cell_of counts.cells 0 from second ≡ Ok (cells, third) → next ≡ from + counts.cells
    → Fails fault (rows link_of counts.links 0 next third) → Fails fault (read_given ranks least buffers k pieces)
unfolding read_given
in_links ranks least k buffers pieces second third counts cells from next NoMemory head e c n fails = tt
in_links ranks least k buffers pieces second third counts cells from next (Refused line name) head e c n fails =
    let c1 : rows cell_of counts.cells 0 (k + 1) second ≡ Ok (cells, third) = rw e at c in
    let f : rows link_of counts.links 0 (k + 1 + counts.cells) third ≡ Err (line, name) = rw (n, e) at fails in
    rw (head, c1, f) refl

pub in_done : (ranks least k : ℕ) (buffers : List Buffer) (pieces second third fourth : List (List ℕ)) (counts : Counts) (cells : List Cell)
    (links : List Link) (from next later : ℕ) (fault : GivenFault) → head_read ranks least k pieces ≡ Ok (counts, second) → from ≡ k + 1
    → rows cell_of counts.cells 0 from second ≡ Ok (cells, third) → next ≡ from + counts.cells
    → rows link_of counts.links 0 next third ≡ Ok (links, fourth) → later ≡ next + counts.links
    → Fails fault (rows done_of ranks 0 later fourth) → Fails fault (read_given ranks least buffers k pieces)
unfolding read_given
in_done ranks least k buffers pieces second third fourth counts cells links from next later NoMemory head e c n l m fails = tt
in_done ranks least k buffers pieces second third fourth counts cells links from next later (Refused line name) head e c n l m fails =
    let c1 : rows cell_of counts.cells 0 (k + 1) second ≡ Ok (cells, third) = rw e at c in
    let l1 : rows link_of counts.links 0 (k + 1 + counts.cells) third ≡ Ok (links, fourth) = rw (n, e) at l in
    let f : rows done_of ranks 0 (k + 1 + counts.cells + counts.links) fourth ≡ Err (line, name) = rw (m, n, e) at fails in
    rw (head, c1, l1, f) refl

-- ---- all that stands before the named cells, and after which line

pub record IsBefore (ranks least k : ℕ) (pieces : List (List ℕ)) (counts : Counts) (cells : List Cell) (links : List Link) (done : List ℕ)
    (last : ℕ) (rest : List (List ℕ)) : Type 0 where
  pub second : List (List ℕ)
  pub third : List (List ℕ)
  pub fourth : List (List ℕ)
  pub head : head_read ranks least k pieces ≡ Ok (counts, second)
  pub of_cells : rows cell_of counts.cells 0 (k + 1) second ≡ Ok (cells, third)
  pub of_links : rows link_of counts.links 0 (k + 1 + counts.cells) third ≡ Ok (links, fourth)
  pub of_done : rows done_of ranks 0 (k + 1 + counts.cells + counts.links) fourth ≡ Ok (done, rest)
  pub number : last ≡ k + 1 + counts.cells + counts.links + ranks

pub before : (ranks least k : ℕ) (pieces second third fourth rest : List (List ℕ)) (counts : Counts) (cells : List Cell) (links : List Link)
    (done : List ℕ) (from next later last : ℕ) → head_read ranks least k pieces ≡ Ok (counts, second) → from ≡ k + 1
    → rows cell_of counts.cells 0 from second ≡ Ok (cells, third) → next ≡ from + counts.cells
    → rows link_of counts.links 0 next third ≡ Ok (links, fourth) → later ≡ next + counts.links
    → rows done_of ranks 0 later fourth ≡ Ok (done, rest) → last ≡ later + ranks
    → IsBefore ranks least k pieces counts cells links done last rest
before ranks least k pieces second third fourth rest counts cells links done from next later last head e c n l m d o =
    record {
      second = second;
      third = third;
      fourth = fourth;
      head = head;
      of_cells = rw e at c;
      of_links = rw (n, e) at l;
      of_done = rw (m, n, e) at d;
      number = rw (m, n, e) at o;
    }

pub in_marks : (ranks least k : ℕ) (buffers : List Buffer) (pieces : List (List ℕ)) (counts : Counts) (cells : List Cell)
    (links : List Link) (done : List ℕ) (last : ℕ) (rest : List (List ℕ)) (fault : GivenFault)
    → IsBefore ranks least k pieces counts cells links done last rest → Fails fault (marks_from buffers last rest)
    → Fails fault (read_given ranks least buffers k pieces)
unfolding read_given
in_marks ranks least k buffers pieces counts cells links done last rest NoMemory b fails = tt
in_marks ranks least k buffers pieces counts cells links done last rest (Refused line name) b fails =
    let f : marks_from buffers (k + 1 + counts.cells + counts.links + ranks) rest ≡ Err (line, name) = rw b.number at fails in
    rw (b.head, b.of_cells, b.of_links, b.of_done, f) refl

pub whole : (ranks least k : ℕ) (buffers : List Buffer) (pieces : List (List ℕ)) (counts : Counts) (cells : List Cell) (links : List Link)
    (done : List ℕ) (last : ℕ) (rest : List (List ℕ)) (marks : List Mark)
    → IsBefore ranks least k pieces counts cells links done last rest → marks_from buffers last rest ≡ Ok marks
    → read_given ranks least buffers k pieces ≡ Ok (given ranks counts.remote cells links done marks)
unfolding read_given
whole ranks least k buffers pieces counts cells links done last rest marks b named =
    let m : marks_from buffers (k + 1 + counts.cells + counts.links + ranks) rest ≡ Ok marks = rw b.number at named in
    rw (b.head, b.of_cells, b.of_links, b.of_done, m) refl
