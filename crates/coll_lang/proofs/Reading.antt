-- Reading line by line.
use Rattle.std.proofs.Common.{◌≡◌, ℕ, ◌+◌, List, [], ◌∷◌, length, Ok, Err, true, false, cond, eqb, suc, refl, ap, arith}
use Rattle.std.specs.Prelude.{◌==◌}
use Rattle.std.proofs.lemmas.Bool.Decides.{nat_tests}
use Rattle.std.specs.List.{onto_first}
use Rattle.coll_text.specs.Text.{lines}
use Rattle.coll_text.specs.Text.{is_empty}
use Rattle.coll_lang.specs.declared.fault.Refusal.{Refusal}
use Rattle.coll_lang.specs.declared.fault.Refusal.TheVariants.{Unended, AfterEnd}
use Rattle.coll_lang.specs.declared.fault.LineFault.{LineFault}
use Rattle.coll_lang.specs.declared.fault.LineFault.TheVariants as faults
use Rattle.coll_lang.specs.Answers.{Fails}
use Rattle.coll_lang.specs.Verdicts as verdicts
use Rattle.coll_lang.specs.Verdicts.{fault_at}
use Rattle.coll_lang.specs.Language.{Past, judge, read_from, is_finished}

-- there is a piece at least, and one that isn't empty where there are bytes
pub some_piece : (b : ℕ) (bytes : List ℕ) → (piece : List ℕ) × (pieces : List (List ℕ)) × (lines bytes ≡ piece ∷ pieces)
some_piece b [] = ([], [], refl)
some_piece b (c ∷ bytes) =
    elim (c == 10) as (λ t. (piece : List ℕ) × (pieces : List (List ℕ))
    × (cond t ([] ∷ lines bytes) (onto_first c (lines bytes)) ≡ piece ∷ pieces)) [
      | true ↦ ([], lines bytes, refl)
      | false ↦ let h = some_piece b bytes in (c ∷ h.0, h.1, ap (onto_first c) h.2)
    ]

pub goes_on : (past next : Past) (k : ℕ) (line bytes : List ℕ) → is_finished past.stage ≡ false → judge past line ≡ Ok next
    → read_from past k (line ∷ lines bytes) ≡ read_from next (k + 1) (lines bytes)
unfolding read_from
goes_on past next k line bytes going taken =
    let h = some_piece 0 bytes in
    rw (h.2, going, taken) refl

pub ends_at : (past : Past) (name : Refusal) (k : ℕ) (line bytes : List ℕ) → is_finished past.stage ≡ false → judge past line ≡ Err name
    → read_from past k (line ∷ lines bytes) ≡ Err (k, name)
unfolding read_from
ends_at past name k line bytes going taken =
    let h = some_piece 0 bytes in
    rw (h.2, going, taken) refl

pub breaks_off : (past : Past) (k : ℕ) (line : List ℕ) → is_finished past.stage ≡ false → read_from past k (line ∷ []) ≡ Err (k, Unended)
unfolding read_from
breaks_off past k line going = rw going refl

pub not_empty : (b : ℕ) (piece : List ℕ) → is_empty (b ∷ piece) ≡ false
not_empty b piece = no_zero (length piece)
  where
    no_zero : (n : ℕ) → eqb (suc n) 0 ≡ false
    no_zero n = grind (arith, nat_tests)

full : (past : Past) (k b : ℕ) (piece : List ℕ) (pieces : List (List ℕ)) → is_finished past.stage ≡ true
    → read_from past k ((b ∷ piece) ∷ pieces) ≡ Err (k, AfterEnd)
unfolding read_from
full past k b piece [] done = rw (done, not_empty b piece) refl
full past k b piece (other ∷ pieces) done = rw done refl

too_much : (past : Past) (k b : ℕ) (bytes : List ℕ) → is_finished past.stage ≡ true
    → read_from past k (lines (b ∷ bytes)) ≡ Err (k, AfterEnd)
unfolding read_from
too_much past k b bytes done =
    let h = some_piece 0 bytes in
    elim (b == 10) as (λ t. read_from past k (cond t ([] ∷ lines bytes) (onto_first b (lines bytes))) ≡ Err (k, AfterEnd)) [
      | true ↦ rw (h.2, done) refl
      | false ↦ rw h.2 (full past k b h.0 h.1 done)
    ]

pub finished : (past : Past) (k : ℕ) (bytes : List ℕ) → is_finished past.stage ≡ true
    → read_from past k (lines bytes) ≡ cond (is_empty bytes) (Ok past) (Err (k, AfterEnd))
unfolding read_from
finished past k [] done = rw done refl
finished past k (b ∷ bytes) done = rw (not_empty b bytes) (too_much past k b bytes done)

pub fails_at : (past : Past) (fault : LineFault) (k : ℕ) (line bytes : List ℕ) → is_finished past.stage ≡ false
    → Fails fault (judge past line)
    → verdicts.Fails (fault_at k fault) (read_from past k (line ∷ lines bytes))
fails_at past (faults.Refused name) k line bytes going taken = ends_at past name k line bytes going taken
fails_at past faults.NoMemory k line bytes going taken = tt
