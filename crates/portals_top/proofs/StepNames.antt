-- The names of the steps of a choice text.
use Rattle.std.proofs.Common.{◌≡◌, ◌<◌, ◌∙◌, ℕ, List, ap, get_or, length}
use Rattle.std.proofs.lemmas.List.{get_or_default}
use Rattle.coll_lang.specs.declared.choices.ChoiceStep.{ChoiceStep}
use Rattle.coll_lang.specs.Program.{Chosen}
use Rattle.coll_lang.specs.Readable.{chosen_name}
use Rattle.coll_lang.specs.Spelling.{choice_name, no_choice}

-- the name of a step, from what its parts tell
pub name-is : (c : Chosen) (s : ℕ) (x : ChoiceStep) (xs : List ChoiceStep) (name : List ℕ) → s < length c.steps → xs ≡ c.steps
    → x ≡ get_or xs s x → name ≡ choice_name x → name ≡ chosen_name c s
name-is c s x xs name inside same is told =
    told ∙ ap choice_name (is ∙ ap (λ (ys : List ChoiceStep). get_or ys s x) same ∙ get_or_default c.steps s x no_choice inside)
