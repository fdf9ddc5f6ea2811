-- A text by its parts.
use Rattle.std.proofs.Common.{ℕ, ◌≡◌, ◌<◌, ◌≤◌, List, length, take, drop, None, Result, sym, subst, ap, ◌∙◌, refl}
use Rattle.std.proofs.lemmas.Bool.{le-ltb, lt-ltb}
use Rattle.coll_text.specs.Text.{lines}
use Rattle.coll_lang.specs.declared.fault.Refusal.{Refusal}
use Rattle.coll_lang.specs.Language.{read}
use Rattle.coll_lang.specs.Program.{Program}
use Rattle.given_verdicts.specs.declared.judging.TheConstants.{LONGEST_GIVEN}
use Rattle.order_lines.specs.Check.{description_bytes, line_after}
use Rattle.plan_top.specs.notes.Again.{given_in, with_description}
use Rattle.plan_top.specs.notes.Notes.{IsNoteOf, description_in}

pub long_in : (bytes : List ℕ) → LONGEST_GIVEN < length bytes → None ≡ given_in bytes
long_in bytes long = rw (lt-ltb LONGEST_GIVEN (length bytes) long) refl

pub short_in : (bytes : List ℕ) (front k : ℕ) (r : Result Program (ℕ × Refusal)) → length bytes ≤ LONGEST_GIVEN
    → front ≡ description_bytes (lines bytes) → k ≡ line_after 1 (lines bytes) → read (take front bytes) ≡ r
    → with_description k r (lines (drop front bytes)) ≡ given_in bytes
short_in bytes front k r short at line is =
    let parted : given_in bytes ≡ with_description k (read (take front bytes)) (lines (drop front bytes)) =
    rw (at, line, le-ltb LONGEST_GIVEN (length bytes) short) refl in
    sym (parted ∙ ap (λ v. with_description k v (lines (drop front bytes))) is)

-- ---- what is read as the description

pub front_note : (bytes : List ℕ) (at n : ℕ) (name : Refusal) (text : List ℕ) → length bytes ≤ LONGEST_GIVEN
    → at ≡ description_bytes (lines bytes) → IsNoteOf (take at bytes) n name text → IsNoteOf (description_in bytes) n name text
front_note bytes at n name text short is note =
    rw (le-ltb LONGEST_GIVEN (length bytes) short) (subst (λ k. IsNoteOf (take k bytes) n name text) is note)

pub long_note : (bytes : List ℕ) (n : ℕ) (name : Refusal) (text : List ℕ) → LONGEST_GIVEN < length bytes → IsNoteOf bytes n name text
    → IsNoteOf (description_in bytes) n name text
long_note bytes n name text long note = rw (lt-ltb LONGEST_GIVEN (length bytes) long) note
