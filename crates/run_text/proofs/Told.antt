-- What was read decides what is owed for all that the source has.
use Rattle.std.proofs.Common.{◌≡◌, ℕ, ◌+◌, ◌≤◌, ◌<◌, List, [], ◌++◌, length, drop, Option, Some, None, refl, sym, ◌∙◌, ap, arith, ◌⊎◌}
use Rattle.std.proofs.Common.{inl, inr}
use Rattle.std.proofs.lemmas.Bool.{cases_lt}
use Rattle.std.proofs.lemmas.List.{append-nil, length-append}
use Rattle.std.proofs.Math.ListN.{drop_of_length-le}
use Rattle.std.proofs.Math.Nat.{eq-or-lt_of_le}
use Rattle.std.proofs.Math.Seq.{drop-append_seam}
use Rattle.port_io.specs.Ends.{GivesFront, IsAtEnd}
use Rattle.run_text.specs.Ending.{IsTold}

-- a text that isn't too long
pub short-text : (longest : ℕ) (text : List ℕ) → (longest < length text → ⊥) → length text ≤ longest
short-text longest text at_most = elim (cases_lt longest (length text)) [ inl long ↦ absurd (at_most long) | inr short ↦ short ]

-- two texts that are one, or both too long
abbrev pub AreAlike : ℕ → List ℕ → List ℕ → Type 0
AreAlike longest xs ys = (xs ≡ ys) ⊎ ((longest < length xs) × (longest < length ys))

-- a text and what follows it, which is nothing unless the text is too long already
alike-more : (longest : ℕ) (all text more : List ℕ) → all ≡ text ++ more → length text ≤ longest + 1 → (length text ≤ longest → more ≡ [])
    → AreAlike longest all text
alike-more longest all text more is short whole = at (eq-or-lt_of_le short)
  where
    at : (length text ≡ longest + 1) ⊎ (length text < longest + 1) → AreAlike longest all text
    at (inl full) = inr (let n = ap length is in let m = length-append text more in (omega (arith, full, n, m), omega (arith, full)))
    at (inr less) = inl (is ∙ ap (λ xs. text ++ xs) (whole (omega (arith, less))) ∙ append-nil text)

-- past a text of n + 1 elements, or of all there are
pub drop-past : (n : ℕ) (text rest : List ℕ) → length text ≤ n + 1 → (length text ≤ n → rest ≡ []) → rest ≡ drop (n + 1) (text ++ rest)
drop-past n text rest short whole = past (eq-or-lt_of_le short)
  where
    past : (length text ≡ n + 1) ⊎ (length text < n + 1) → rest ≡ drop (n + 1) (text ++ rest)
    past (inl full) = sym (drop-append_seam text rest) ∙ ap (λ i. drop i (text ++ rest)) full
    past (inr less) =
        let none : rest ≡ [] = whole (omega arith) in
        none ∙ sym (drop_of_length-le (text ++ rest) (omega (arith, length-append text rest, ap length none)))

-- The bytes of the source, as far as they count: those that it tells, or else those that were read.
pub record Told (longest : ℕ) (left left' : Option (List ℕ)) (text : List ℕ) : Type 0 where
  pub bytes : List ℕ
  pub told : IsTold left bytes
  pub alike : AreAlike longest bytes text
  pub rest : IsTold left' (drop (longest + 1) bytes)
  pub nothing : length text ≤ longest → IsTold left' []

pub told-read : (longest : ℕ) (left left' : Option (List ℕ)) (text : List ℕ) → GivesFront left left' text → length text ≤ longest + 1
    → (length text ≤ longest → IsAtEnd left') → Told longest left left' text
told-read longest None None text front short whole = record { bytes = text; told = tt; alike = inl refl; rest = tt; nothing = λ h. tt }
told-read longest None (Some rest) text front short whole = absurd (cc)
told-read longest (Some all) None text front short whole = absurd front
told-read longest (Some all) (Some rest) text front short whole = record {
  bytes = all;
  told = refl;
  alike = alike-more longest all text rest front short whole;
  rest = drop-past longest text rest short whole ∙ ap (drop (longest + 1)) (sym front);
  nothing = whole;
}

-- the bytes that are told, where they are
pub told-any : (left : Option (List ℕ)) → (bytes : List ℕ) × IsTold left bytes
told-any None = ([], tt)
told-any (Some told) = (told, refl)
