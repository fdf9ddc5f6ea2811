-- Reading answers the first refusal of the table.
use Rattle.std.proofs.Common.{◌≡◌, ◌<◌, ◌≤◌, ℕ, ◌+◌, List, [], ◌∷◌, ◌++◌, length, Option, Some, None, Result, Ok, Err, Bool, true, false}
use Rattle.std.proofs.Common.{◌&&◌, cond, not, refl, sym, ap, ◌∙◌, arith, subst, inl, inr, ◌⊎◌}
use Rattle.std.specs.Prelude.{◌==◌, nat_lt}
use Rattle.std.specs.List.{list_all, onto_first}
use Rattle.std.proofs.lemmas.Bool.Decides.{nat_tests}
use Rattle.coll_text.specs.Text.{lines, is_empty}
use Rattle.coll_lang.specs.Program.{Program}
use Rattle.coll_lang.specs.Language.{Past, nothing, is_allowed, line_at, judge, is_finished, read_from, program_in, read}
use Rattle.coll_lang.specs.declared.stage.Stage.{Stage}
use Rattle.coll_lang.specs.declared.stage.Stage.TheVariants.{Header, Ranks, Options, Groups, Inputs, Data, Steps, Choosing, Prints}
use Rattle.coll_lang.specs.declared.stage.Stage.TheVariants.{Finished}
use Rattle.coll_lang.specs.declared.fault.Refusal.{Refusal}
use Rattle.coll_lang.specs.declared.fault.Refusal.TheVariants.{TooLong, BadByte, Unended, AfterEnd}
use Rattle.coll_lang.proofs.Sound.{not_above}
use Rattle.coll_lang.specs.declared.whole.TheConstants.{LONGEST_TEXT}
use Rattle.text_laws.specs.refusals.Rows.{offends}
use Rattle.text_laws.specs.refusals.Texts.{said_by, piece_offends, IsRefusedAt, IsFirstRefusal, TextsByTheRows}
use Rattle.text_laws.proofs.refusals.Lowest.{way, first_of, all_names, lowest_of, first_is, refusal_in}
use Rattle.text_laws.proofs.refusals.Lines.{first_judged, name_is}
use Rattle.text_laws.proofs.refusals.Counting.{Held, held_on, held_first, counts_of}

answered : (r : Result Past Refusal) → ((next : Past) × (r ≡ Ok next)) ⊎ ((name : Refusal) × (r ≡ Err name))
answered (Ok next) = inl (next, refl)
answered (Err name) = inr (name, refl)

abbrev refused : ℕ → Refusal → Result Past (ℕ × Refusal)
refused k name = Err (k, name)

-- the line and the name of a refusal
abbrev line_in : {A : Type 0} → Result A (ℕ × Refusal) → ℕ
line_in (Ok x) = 0
line_in (Err e) = e.0

abbrev name_in : {A : Type 0} → Result A (ℕ × Refusal) → Option Refusal
name_in (Ok x) = None
name_in (Err e) = Some e.1

-- the first row that a piece offends
abbrev first_there : Past → List ℕ → List (List ℕ) → Option Refusal
first_there past piece pieces = first_of (piece_offends past piece pieces) all_names

-- the last piece: Unended where a line is due, else AfterEnd where there are bytes
last_there : (past : Past) (piece : List ℕ)
    → first_there past piece [] ≡ cond (is_finished past.stage) (cond (is_empty piece) None (Some AfterEnd)) (Some Unended)
last_there past piece = tests (is_finished past.stage) (is_empty piece)
  where
    tests : (finished empty : Bool)
        → cond (not finished) (Some Unended) (cond (finished && not empty) (Some AfterEnd) None)
        ≡ cond finished (cond empty None (Some AfterEnd)) (Some Unended)
    tests true true = refl
    tests true false = refl
    tests false empty = refl

-- a piece with others after it
when_finished : (past : Past) (piece next : List ℕ) (pieces : List (List ℕ)) → is_finished past.stage ≡ true
    → first_there past piece (next ∷ pieces) ≡ Some AfterEnd
when_finished past piece next pieces done = rw done refl

when_due : (past : Past) (piece next : List ℕ) (pieces : List (List ℕ)) → is_finished past.stage ≡ false
    → first_there past piece (next ∷ pieces) ≡ first_of (offends past piece) all_names
when_due past piece next pieces going = rw going refl

-- a line is taken only where one is due
due : (past next : Past) (line : List ℕ) → judge past line ≡ Ok next → is_finished past.stage ≡ false
unfolding judge line_at
due past next line h = at past.stage (list_all is_allowed line) h
  where
    over : (b : Bool) → (let r : Result Past Refusal = cond b (Err AfterEnd) (Err BadByte) in r ≡ Ok next) → true ≡ false
    over true h = cc
    over false h = cc

    at : (stage : Stage) (b : Bool) → cond b (line_at stage past line) (Err BadByte) ≡ Ok next → is_finished stage ≡ false
    at Header b h = refl
    at Ranks b h = refl
    at Options b h = refl
    at Groups b h = refl
    at Inputs b h = refl
    at (Data left ty count) b h = refl
    at Steps b h = refl
    at Choosing b h = refl
    at Prints b h = refl
    at Finished b h = over b h

-- the same from any line on
record Found (past : Past) (pieces : List (List ℕ)) (k j : ℕ) (name : Refusal) : Type 0 where
  before : List (List ℕ)
  piece : List ℕ
  after : List (List ℕ)
  last : Past
  are : pieces ≡ before ++ piece ∷ after
  number : j ≡ length before + k
  says : said_by past before ≡ Some last
  row : first_there last piece after ≡ Some name

here : (past : Past) (piece : List ℕ) (pieces : List (List ℕ)) (k j : ℕ) (name : Refusal) → k ≡ j
    → first_there past piece pieces ≡ Some name → Found past (piece ∷ pieces) k j name
here past piece pieces k j name e row = record {
  before = [];
  piece = piece;
  after = pieces;
  last = past;
  are = refl;
  number = omega
      (arith, e);
  says = refl;
  row = row;
}

-- the last piece
ends : (finished empty : Bool) (past : Past) (k j : ℕ) (name : Refusal)
    → cond finished (cond empty (Ok past) (refused k AfterEnd)) (refused k Unended) ≡ refused j name
    → (k ≡ j) × (cond finished (cond empty None (Some AfterEnd)) (Some Unended) ≡ Some name)
ends true true past k j name h = cc
ends true false past k j name h = (ap line_in h, ap name_in h)
ends false empty past k j name h = (ap line_in h, ap name_in h)

said_more : (past next last : Past) (line : List ℕ) (before : List (List ℕ)) → judge past line ≡ Ok next → said_by next before ≡ Some last
    → said_by past (line ∷ before) ≡ Some last
said_more past next last line before e h = rw e h

finds : (past : Past) (piece : List ℕ) (pieces : List (List ℕ)) (k j : ℕ) (name : Refusal) → Held past
    → read_from past k (piece ∷ pieces) ≡ Err (j, name) → Found past (piece ∷ pieces) k j name
unfolding read_from
finds past piece [] k j name held h =
    let e = ends (is_finished past.stage) (is_empty piece) past k j name h in
    here past piece [] k j name e.0 (last_there past piece ∙ e.1)
finds past piece (other ∷ pieces) k j name held h = elim (way (is_finished past.stage)) [
  | inl done ↦
      let r : refused k AfterEnd ≡ refused j name = sym (rw done refl) ∙ h in
      here past piece (other ∷ pieces) k j name (ap line_in r) (when_finished past piece other pieces done ∙ ap name_in r)
  | inr going ↦ elim (answered (judge past piece)) [
    | inl next ↦
        let r : read_from next.0 (k + 1) (other ∷ pieces) ≡ Err (j, name) = sym (rw (going, next.1) refl) ∙ h in
        let f = finds next.0 other pieces (k + 1) j name (held_on past next.0 piece held next.1) r in
        record {
          before = piece ∷ f.before;
          piece = f.piece;
          after = f.after;
          last = f.last;
          are = ap (λ (x : List (List ℕ)). piece ∷ x) f.are;
          number = longer f.before f.number;
          says = said_more past next.0 f.last piece f.before next.1 f.says;
          row = f.row;
        }
    | inr fault ↦
        let r : refused k fault.0 ≡ refused j name = sym (rw (going, fault.1) refl) ∙ h in
        here past piece (other ∷ pieces) k j name (ap line_in r)
        (when_due past piece other pieces going
        ∙ (sym (first_judged past piece (counts_of past held) going) ∙ (ap refusal_in fault.1 ∙ ap name_in r)))
  ]
]
  where
    longer : (before : List (List ℕ)) → j ≡ length before + (k + 1) → j ≡ length (piece ∷ before) + k
    longer before e = omega (arith, e)

-- and back
last_refused : (finished empty : Bool) (past : Past) (k j : ℕ) (name : Refusal) → j ≡ k
    → cond finished (cond empty None (Some AfterEnd)) (Some Unended) ≡ Some name
    → cond finished (cond empty (Ok past) (refused k AfterEnd)) (refused k Unended) ≡ refused j name
last_refused true true past k j name e h = cc
last_refused true false past k j name e h = cc
last_refused false empty past k j name e h = cc

line_refused : (past : Past) (piece other : List ℕ) (pieces : List (List ℕ)) (k j : ℕ) (name : Refusal) → Held past → j ≡ k
    → first_there past piece (other ∷ pieces) ≡ Some name
    → read_from past k (piece ∷ other ∷ pieces) ≡ refused j name
unfolding read_from
line_refused past piece other pieces k j name held e h = elim (way (is_finished past.stage)) [
  | inl done ↦ rw done (over (sym (when_finished past piece other pieces done) ∙ h))
  | inr going ↦
      let r : first_of (offends past piece) all_names ≡ Some name = sym (when_due past piece other pieces going) ∙ h in
      let named : judge past piece ≡ Err name = name_is (judge past piece) name (first_judged past piece (counts_of past held) going ∙ r) in
      rw (going, named) (ap (λ k. refused k name) (sym e))
]
  where
    over : Some AfterEnd ≡ Some name → refused k AfterEnd ≡ refused j name
    over h = cc

some_is : (x y : Past) → Some x ≡ Some y → x ≡ y
some_is x y e = cc

some_pieces : (before : List (List ℕ)) (piece : List ℕ) (after : List (List ℕ))
    → (first : List ℕ) × (others : List (List ℕ)) × (before ++ piece ∷ after ≡ first ∷ others)
some_pieces [] piece after = (piece, after, refl)
some_pieces (line ∷ before) piece after = (line, before ++ piece ∷ after, refl)

goes_on : (past next : Past) (k : ℕ) (line : List ℕ) (before : List (List ℕ)) (piece : List ℕ) (after : List (List ℕ))
    → judge past line ≡ Ok next
    → read_from past k (line ∷ (before ++ piece ∷ after)) ≡ read_from next (k + 1) (before ++ piece ∷ after)
unfolding read_from
goes_on past next k line before piece after e =
    let some = some_pieces before piece after in
    let going = due past next line e in
    rw (some.2, going, e) refl

refuses : (past last : Past) (before : List (List ℕ)) (piece : List ℕ) (after : List (List ℕ)) (k j : ℕ) (name : Refusal) → Held past
    → j ≡ length before + k → said_by past before ≡ Some last
    → first_there last piece after ≡ Some name → read_from past k (before ++ piece ∷ after) ≡ Err (j, name)
unfolding read_from
refuses past last [] piece after k j name held e says row = at_once after
    (subst (λ p. first_there p piece after ≡ Some name) (sym (some_is past last says)) row)
  where
    start : j ≡ k
    start = omega (arith, e)

    at_once : (after : List (List ℕ)) → first_there past piece after ≡ Some name → read_from past k (piece ∷ after) ≡ Err (j, name)
    at_once [] row = last_refused (is_finished past.stage) (is_empty piece) past k j name start (sym (last_there past piece) ∙ row)
    at_once (other ∷ pieces) row = line_refused past piece other pieces k j name held start row
refuses past last (line ∷ before) piece after k j name held e says row = elim (answered (judge past line)) [
  | inl next ↦
      let more : said_by next.0 before ≡ Some last = sym (rw next.1 refl) ∙ says in
      goes_on past next.0 k line before piece after next.1
      ∙ refuses next.0 last before piece after (k + 1) j name (held_on past next.0 line held next.1) (omega (arith, e)) more row
  | inr fault ↦ absurd (nothing_said (sym (rw fault.1 refl) ∙ says))
]
  where
    nothing_said : None ≡ Some last → ⊥
    nothing_said h = cc

-- a text has a piece at least
some_lines : (bytes : List ℕ) → (piece : List ℕ) × (pieces : List (List ℕ)) × (lines bytes ≡ piece ∷ pieces)
some_lines [] = ([], [], refl)
some_lines (b ∷ bytes) = elim (b == 10) as
    (λ t. (piece : List ℕ) × (pieces : List (List ℕ)) × (cond t ([] ∷ lines bytes) (onto_first b (lines bytes)) ≡ piece ∷ pieces)) [
      | true ↦ ([], lines bytes, refl)
      | false ↦ let h = some_lines bytes in (b ∷ h.0, h.1, ap (onto_first b) h.2)
    ]

abbrev answer : ℕ → Refusal → Result Program (ℕ × Refusal)
answer k name = Err (k, name)

program_refused : (r : Result Past (ℕ × Refusal)) (k : ℕ) (name : Refusal) → program_in r ≡ answer k name → r ≡ refused k name
program_refused (Ok past) k name h = cc
program_refused (Err e) k name h = cc

too_long : (k : ℕ) (name : Refusal) → answer 0 TooLong ≡ answer k name → (k ≡ 0) × (name ≡ TooLong)
too_long k name h = (sym (ap line_in h), same_name (sym (ap name_in h)))
  where
    same_name : Some name ≡ Some TooLong → name ≡ TooLong
    same_name e = cc

above : (n : ℕ) → nat_lt LONGEST_TEXT n ≡ true → LONGEST_TEXT < n
above n h = grind (arith, nat_tests)

is_above : (n : ℕ) → LONGEST_TEXT < n → nat_lt LONGEST_TEXT n ≡ true
is_above n h = grind (arith, nat_tests)

isnt_above : (n : ℕ) → n ≤ LONGEST_TEXT → nat_lt LONGEST_TEXT n ≡ false
isnt_above n h = grind (arith, nat_tests)

reading : (bytes : List ℕ) (k : ℕ) (name : Refusal) → read_from nothing 1 (lines bytes) ≡ Err (k, name) → IsRefusedAt bytes k name
reading bytes k name h =
    let some = some_lines bytes in
    let f = finds nothing some.0 some.1 1 k name held_first (sym (ap (read_from nothing 1) some.2) ∙ h) in
    record {
      before = f.before;
      piece = f.piece;
      after = f.after;
      past = f.last;
      are = some.2
          ∙ f.are;
      number = f.number;
      says = f.says;
      row = lowest_of (piece_offends f.last f.piece f.after) name f.row;
    }

there : (bytes : List ℕ) (k : ℕ) (name : Refusal) → read bytes ≡ Err (k, name) → IsFirstRefusal bytes k name
unfolding read
there bytes k name h = elim (way (nat_lt LONGEST_TEXT (length bytes))) [
  | inl long ↦ inl ((above (length bytes) long, (too_long k name (sym (rw long refl) ∙ h)).0, (too_long k name (sym (rw long refl) ∙ h)).1))
  | inr short ↦ inr ((
    not_above LONGEST_TEXT (length bytes) short,
    reading bytes k name
        (program_refused (read_from nothing 1 (lines bytes)) k name (sym (rw short refl) ∙ h)),
  ))
]

back : (bytes : List ℕ) (k : ℕ) (name : Refusal) → IsFirstRefusal bytes k name → read bytes ≡ Err (k, name)
unfolding read
back bytes k name (inl long) = let t = is_above (length bytes) long.0 in rw t (sym (at_line_0 k name long.1 long.2))
  where
    at_line_0 : (k : ℕ) (name : Refusal) → k ≡ 0 → name ≡ TooLong → answer k name ≡ answer 0 TooLong
    at_line_0 k name e f = rw (e, f) refl
back bytes k name (inr at) =
    let t = isnt_above (length bytes) at.0 in
    let r = at.1 in
    let e : read_from nothing 1 (lines bytes)
    ≡ Err (k, name) = ap (read_from nothing 1) r.are
    ∙ refuses nothing r.past r.before r.piece r.after 1 k name held_first r.number r.says
    (first_is (piece_offends r.past r.piece r.after) name r.row) in
    rw (t, e) refl

pub texts_by_the_rows : TextsByTheRows
texts_by_the_rows bytes k name = (there bytes k name, back bytes k name)
