-- A row of places that hold one blank value until they are written, as a contract sees it.
use Rattle.std.specs.Prelude.{ℕ, ◌-◌, List, ◌++◌, length, replicate, refl}
use Rattle.std.specs.Coded.{Coded, code_by, coded×, coded_list, coded_ℕ}

-- what the places hold, and how many further ones need no memory
pub record Placed (X : Type 0) : Type 0 where
  pub items : List X
  pub spare : ℕ

module _ {X : Type 0} where
  abbrev pub placed : List X → ℕ → Placed X
  placed items spare = record { items = items; spare = spare }

  -- the list made as long as `len` by blank entries
  abbrev pub filled_up : List X → ℕ → X → List X
  filled_up xs len blank = xs ++ replicate (len - length xs) blank

abbrev pub placed_code : {X : Type 0} → Coded X → Coded (Placed X)
placed_code {X} code =
    code_by (List X × ℕ) (coded× (coded_list code) coded_ℕ) (λ p. (p.items, p.spare)) (λ p. placed p.0 p.1) (λ _. refl)
