-- What a text describes.
use Rattle.std.specs.Prelude.{ℕ, List, Option}
use Rattle.coll_shape.specs.Outline.{Outline}
use Rattle.coll_lang.specs.declared.choices.ChoiceStep.{ChoiceStep}

-- the steps of a choice text, and the numbers of those that are printed
pub record Chosen : Type 0 where
  pub steps : List ChoiceStep
  pub prints : List ℕ

-- the inputs are lists of bytes, for each input and each rank one
pub record Program : Type 0 where
  pub shape : Outline
  pub inputs : List (List (List ℕ))
  -- of a choice text; its shape has its ranks and nothing else
  pub choices : Option Chosen
