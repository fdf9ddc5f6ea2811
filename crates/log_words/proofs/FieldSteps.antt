-- One field more.
use Rattle.std.proofs.Common.{◌≡◌, ℕ, ◌+◌, ◌≤◌, List, [], ◌∷◌, ◌++◌, take, drop, length, zero, suc, Option, false, refl, sym, ap, subst}
use Rattle.std.proofs.Common.{◌∙◌, arith, add-one}
use Rattle.std.specs.Prelude.{Result, Ok}
use Rattle.std.specs.List.{list_any}
use Rattle.log_words.specs.Words.{Word, Rest, rest, is_arrow, key_of, value_of}
use Rattle.log_words.specs.Reading.{Taken, same_key, with_fields}
use Rattle.log_words.specs.declared.faults.Flaw.{Flaw}
use Rattle.log_words.specs.declared.faults.LineFault.{LineFault}

module _ {X : Type 0} (set : List ℕ → Option Word → X → Result X Flaw) where
  more : (before : List Word) (w : Word) (ws : List Word) (past : ℕ) (x y : X) → is_arrow w ≡ false
      → list_any (same_key w) before ≡ false → set (key_of w) (value_of w) x ≡ Ok y
      → with_fields set before (w ∷ ws) past x ≡ with_fields set (before ++ w ∷ []) ws past y
  more before w ws past x y h t e = rw (h, t, e) refl

-- the same where the words that are left are read as the whole is
module _ {X : Type 0} (set : List ℕ → Option Word → X → Result X Flaw) (whole : Result (Taken X) LineFault) where
  stands : (before : List Word) (r later : Rest) (w : Word) (x : X) → with_fields set before r.words r.past x ≡ whole
      → r ≡ rest (w ∷ later.words) later.past → with_fields set before (w ∷ later.words) later.past x ≡ whole
  stands before r later w x reads e = subst (λ (q : Rest). with_fields set before q.words q.past x ≡ whole) e reads

  pub when_more : (before : List Word) (r later : Rest) (w : Word) (x y : X) → with_fields set before r.words r.past x ≡ whole
      → r ≡ rest (w ∷ later.words) later.past → is_arrow w ≡ false → list_any (same_key w) before ≡ false
      → set (key_of w) (value_of w) x ≡ Ok y → with_fields set (before ++ w ∷ []) later.words later.past y ≡ whole
  when_more before r later w x y reads e h t s =
      sym (more set before w later.words later.past x y h t s) ∙ stands before r later w x reads e

-- the words up to this one, and those behind it
by_suc : (n : ℕ) (all : List Word) (w : Word) (ws : List Word) → drop n all ≡ w ∷ ws
    → (take (suc n) all ≡ take n all ++ w ∷ []) × (drop (suc n) all ≡ ws) × (suc n ≤ length all)
by_suc zero [] w ws e = absurd (cc)
by_suc zero (a ∷ all) w ws e = (cc, cc, omega arith)
by_suc (suc n) [] w ws e = absurd (cc)
by_suc (suc n) (a ∷ all) w ws e =
    let r = by_suc n all w ws e in
    (ap (λ l. a ∷ l) r.0, r.1, omega (arith, r.2))

pub parted : (n : ℕ) (all : List Word) (w : Word) (ws : List Word) → drop n all ≡ w ∷ ws
    → (take (n + 1) all ≡ take n all ++ w ∷ []) × (drop (n + 1) all ≡ ws) × (n + 1 ≤ length all)
parted n all w ws e = rw add-one (by_suc n all w ws e)
