-- What a description keeps, brought out: it holds in one way, but for who holds what, which a test tells.
use Rattle.std.proofs.Common.{ℕ, ◌<◌, List, Option, Some, None}
use Rattle.std.proofs.Math.Bridge.{le_prop}
use Rattle.std.proofs.Math.Bool.{Bool-set}
use Rattle.std.proofs.Math.Logic.{∥∥₁_elim, ∥∥₁_map}
use Rattle.std.specs.Coded.{coded_ℕ}
use base.Stored.{Coded-set}
use Rattle.coll_shape.specs.Outline.{Outline}
use Rattle.coll_shape.specs.Meaning.{AreInputs}
use Rattle.coll_shape.proofs.Formed as shapes
use Rattle.coll_lang.specs.Program.{Chosen, Program}
use Rattle.coll_lang.specs.Readable.{AreChoices, IsBare, FitsChoices, IsReadable}

lt_prop : {a b : ℕ} → IsProp (a < b)
lt_prop = le_prop

number_set : IsSet ℕ
number_set = Coded-set coded_ℕ

inputs_prop : (o : Outline) (inputs : List (List (List ℕ))) → IsProp (AreInputs o inputs)
inputs_prop o inputs = hlevel (le_prop, lt_prop, number_set)

choices_prop : (c : Chosen) → IsProp (AreChoices c)
choices_prop c = hlevel (le_prop, lt_prop, number_set, Bool-set)

bare_prop : (o : Outline) → IsProp (IsBare o)
bare_prop o = hlevel (number_set, Bool-set)

fits_prop : (o : Outline) (c : Option Chosen) → IsProp (FitsChoices o c)
fits_prop o None = hlevel number_set
fits_prop o (Some c) = hlevel (choices_prop, bare_prop)

pub kept : (d : Program) → ∥ IsReadable d ∥₁ → IsReadable d
kept d h = record {
  formed = shapes.whole d.shape (∥∥₁_map h (λ r. r.formed));
  given = ∥∥₁_elim h (inputs_prop d.shape d.inputs) (λ r. r.given);
  choices = ∥∥₁_elim h (fits_prop d.shape d.choices) (λ r. r.choices);
  short = ∥∥₁_elim h le_prop (λ r. r.short);
}

pub choices_kept : (c : Chosen) → ∥ AreChoices c ∥₁ → AreChoices c
choices_kept c h = ∥∥₁_elim h (choices_prop c) (λ a. a)
