-- Which descriptions are read from their text.
use Rattle.std.specs.Prelude.{◌≡◌, ◌≤◌, ◌<◌, ◌↔◌, ℕ, List, length, get_or, Option, Some, None, Ok, Bool, true, false}
use Rattle.coll_text.specs.Text.{is_name}
use Rattle.coll_shape.specs.declared.types.Version.{Version}
use Rattle.coll_shape.specs.declared.types.Version.TheVariants.{One, Two}
use Rattle.coll_shape.specs.Outline.{Outline}
use Rattle.coll_shape.specs.WellFormed.{IsWellFormed}
use Rattle.coll_shape.specs.Meaning.{AreInputs}
use Rattle.coll_shape.specs.declared.limits.TheConstants.{MOST_STEPS, MOST_PRINTS}
use Rattle.coll_lang.specs.Program.{Chosen, Program}
use Rattle.coll_lang.specs.Language.{read}
use Rattle.coll_lang.specs.Spelling.{text, choice_name, no_choice}
use Rattle.coll_lang.specs.declared.whole.TheConstants.{LONGEST_TEXT}

-- the name of a choice step by its number
abbrev pub chosen_name : Chosen → ℕ → List ℕ
chosen_name c i = choice_name (get_or c.steps i no_choice)

abbrev pub is_two : Version → Bool
is_two One = false
is_two Two = true

-- the steps and prints of a choice text
pub record AreChoices (c : Chosen) : Type 0 where
  pub some : 1 ≤ length c.steps
  pub at_most : length c.steps ≤ MOST_STEPS
  pub few_prints : length c.prints ≤ MOST_PRINTS
  pub spelled : (i : ℕ) → i < length c.steps → is_name (chosen_name c i) ≡ true
  pub distinct : (i j : ℕ) → i < length c.steps → j < length c.steps → chosen_name c i ≡ chosen_name c j → i ≡ j
  pub printed : (i : ℕ) → i < length c.prints → get_or c.prints i 0 < length c.steps

-- version 2, ranks, and nothing else
pub record IsBare (o : Outline) : Type 0 where
  pub version : is_two o.version ≡ true
  pub remote : o.remote ≡ false
  pub groups : length o.groups ≡ 0
  pub buffers : length o.buffers ≡ 0
  pub inputs : o.inputs ≡ 0
  pub steps : length o.steps ≡ 0
  pub on : length o.on ≡ 0
  pub prints : length o.prints ≡ 0

-- a choice text says its choices, and nothing else
abbrev pub FitsChoices : Outline → Option Chosen → Type 0
FitsChoices o None = Unit {0}
FitsChoices o (Some c) = AreChoices c × IsBare o

-- well formed, with the values that the shape asks, and not too long
pub record IsReadable (d : Program) : Type 0 where
  pub formed : IsWellFormed d.shape
  pub given : AreInputs d.shape d.inputs
  pub choices : FitsChoices d.shape d.choices
  pub short : length (text d) ≤ LONGEST_TEXT

-- a text is read as a description exactly where the description is readable and the text is its one spelling
abbrev pub ReadsExactly : Type 0
ReadsExactly = (bytes : List ℕ) (d : Program) → (read bytes ≡ Ok d) ↔ (IsReadable d × (bytes ≡ text d))
