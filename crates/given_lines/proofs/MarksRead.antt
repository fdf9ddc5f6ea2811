-- Lines that name cells, one after the other.
use Rattle.std.proofs.Common.{◌≡◌, ℕ, ◌+◌, List, [], ◌∷◌, ◌++◌, Some, None, Ok, Err, Bool}
use Rattle.std.proofs.Common.{true, false, cond, refl, sym, ap, ◌∙◌, append_assoc}
use Rattle.std.specs.Prelude.{◌==◌, codes}
use Rattle.std.specs.List.{onto_first}
use Rattle.std.specs.Str.{bytes_eq}
use Rattle.std.proofs.lemmas.List.{append-nil}
use Rattle.coll_shape.specs.declared.types.Buffer.{Buffer}
use Rattle.coll_text.specs.Text.{is_empty, lines, words}
use Rattle.coll_lang.proofs.Reading.{not_empty, some_piece}
use Rattle.given_lines.specs.declared.fault.GivenFault.{GivenFault}
use Rattle.given_lines.specs.declared.fault.GivenFault.TheVariants.{Refused}
use Rattle.given_lines.specs.declared.fault.GivenRefusal.TheVariants.{AfterEnd, BadPlan, Unended}
use Rattle.given_lines.specs.declared.given.Mark.{Mark}
use Rattle.given_lines.specs.Given.{Read, and_then, ended, marks_from}
use Rattle.given_lines.specs.Reads.{Fails}
use Rattle.given_lines.specs.Words.{mark_of}

-- what is read after these
abbrev pub after : List Mark → Read (List Mark) → Read (List Mark)
after done read = and_then read (λ more. Ok (done ++ more))

-- all named cells, where these stand before what is left, which begins with line k
unfoldable pub left_over : List Buffer → ℕ → List Mark → List (List ℕ) → Read (List Mark)
left_over buffers k done pieces = after done (marks_from buffers k pieces)

none_yet : (r : Read (List Mark)) → r ≡ after [] r
none_yet (Err refusal) = refl
none_yet (Ok more) = refl

pub begins : (buffers : List Buffer) (k : ℕ) (pieces : List (List ℕ)) → marks_from buffers k pieces ≡ left_over buffers k [] pieces
unfolding left_over
begins buffers k pieces = none_yet (marks_from buffers k pieces)

one_more : (done : List Mark) (x : Mark) (r : Read (List Mark)) → after done (and_then r (λ more. Ok (x ∷ more))) ≡ after (done ++ x ∷ []) r
one_more done x (Err refusal) = refl
one_more done x (Ok more) = ap (λ (l : List Mark). Ok l) (sym (append_assoc done (x ∷ []) more))

pub turn : (buffers : List Buffer) (k next : ℕ) (done more : List Mark) (text line rest : List ℕ) (x : Mark) (all : Read (List Mark))
    → all ≡ left_over buffers k done (lines text) → lines text ≡ line ∷ lines rest → bytes_eq line (codes "end") ≡ false
    → mark_of buffers (words line) ≡ Some x → next ≡ k + 1 → more ≡ done ++ x ∷ [] → all ≡ left_over buffers next more (lines rest)
unfolding left_over marks_from
turn buffers k next done more text line rest x all so_far cut other said number grew =
    let p = some_piece 0 rest in
    let step : left_over buffers k done (line ∷ p.0 ∷ p.1) ≡ left_over buffers (k + 1) (done ++ x ∷ []) (p.0 ∷ p.1) =
    rw (other, said) (one_more done x (marks_from buffers (k + 1) (p.0 ∷ p.1))) in
    rw (number, grew, p.2) (so_far ∙ ap (left_over buffers k done) (cut ∙ ap (λ (l : List (List ℕ)). line ∷ l) p.2) ∙ step)

pub is_bad : (buffers : List Buffer) (k : ℕ) (done : List Mark) (text line rest : List ℕ) (all : Read (List Mark))
    → all ≡ left_over buffers k done (lines text) → lines text ≡ line ∷ lines rest → bytes_eq line (codes "end") ≡ false
    → mark_of buffers (words line) ≡ None → all ≡ Err (k, BadPlan)
unfolding left_over marks_from
is_bad buffers k done text line rest all so_far cut other none =
    let p = some_piece 0 rest in
    let step : left_over buffers k done (line ∷ p.0 ∷ p.1) ≡ Err (k, BadPlan) = rw (other, none) refl in
    so_far ∙ ap (left_over buffers k done) (cut ∙ ap (λ (l : List (List ℕ)). line ∷ l) p.2) ∙ step

pub no_line : (buffers : List Buffer) (k : ℕ) (done : List Mark) (text : List ℕ) (all : Read (List Mark)) (fault : GivenFault)
    → all ≡ left_over buffers k done (lines text)
    → ((piece : List ℕ) × (lines text ≡ piece ∷ [])) × (fault ≡ Refused k Unended) → Fails fault all
unfolding left_over marks_from
no_line buffers k done text all fault so_far missing =
    let step : left_over buffers k done (missing.0.0 ∷ []) ≡ Err (k, Unended) = refl in
    rw missing.1 (so_far ∙ ap (left_over buffers k done) missing.0.1 ∙ step)

full : (k b : ℕ) (piece : List ℕ) (pieces : List (List ℕ)) → ended k ((b ∷ piece) ∷ pieces) ≡ Err (k, AfterEnd)
full k b piece [] = rw (not_empty b piece) refl
full k b piece (other ∷ pieces) = refl

too_much : (k b : ℕ) (bytes : List ℕ) → ended k (lines (b ∷ bytes)) ≡ Err (k, AfterEnd)
too_much k b bytes =
    let h = some_piece 0 bytes in
    elim (b == 10) as (λ t. ended k (cond t ([] ∷ lines bytes) (onto_first b (lines bytes))) ≡ Err (k, AfterEnd)) [
      | true ↦ rw h.2 refl
      | false ↦ rw h.2 (full k b h.0 h.1)
    ]

-- nothing may stand after the end
at_end : (k : ℕ) (bytes : List ℕ) → ended k (lines bytes) ≡ cond (is_empty bytes) (Ok []) (Err (k, AfterEnd))
at_end k [] = refl
at_end k (b ∷ bytes) = rw (not_empty b bytes) (too_much k b bytes)

these : (k : ℕ) (done : List Mark) (t : Bool) → after done (cond t (Ok []) (Err (k, AfterEnd))) ≡ cond t (Ok done) (Err (k, AfterEnd))
these k done true = ap (λ (l : List Mark). Ok l) (append-nil done)
these k done false = refl

-- the cells that were read, with the answer after the line `end`
pub ends : (buffers : List Buffer) (k next : ℕ) (done : List Mark) (text line rest : List ℕ) (all : Read (List Mark))
    → all ≡ left_over buffers k done (lines text) → lines text ≡ line ∷ lines rest → bytes_eq line (codes "end") ≡ true → next ≡ k + 1
    → all ≡ cond (is_empty rest) (Ok done) (Err (next, AfterEnd))
unfolding left_over marks_from
ends buffers k next done text line rest all so_far cut last number =
    let p = some_piece 0 rest in
    let e : ended (k + 1) (p.0 ∷ p.1) ≡ cond (is_empty rest) (Ok []) (Err (k + 1, AfterEnd)) = rw p.2 at (at_end (k + 1) rest) in
    let step : left_over buffers k done (line ∷ p.0 ∷ p.1) ≡ cond (is_empty rest) (Ok done) (Err (k + 1, AfterEnd)) =
    rw (last, e) (these (k + 1) done (is_empty rest)) in
    rw number (so_far ∙ ap (left_over buffers k done) (cut ∙ ap (λ (l : List (List ℕ)). line ∷ l) p.2) ∙ step)
