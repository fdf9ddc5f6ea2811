-- The one spelling of a description.
use Rattle.std.specs.Prelude.{ℕ, List, [], ◌∷◌, ◌++◌, Option, Some, None, Bool, true, false, map, take, drop, codes, get_or}
use Rattle.std.specs.List.{flat_map}
use Rattle.std.specs.Fmt.{decimal}
use Rattle.coll_text.specs.Text.{line}
use Rattle.coll_text.specs.Elements.{elements, value_word}
use Rattle.coll_shape.specs.Outline.{no_buffer, no_group}
use Rattle.coll_shape.specs.Rows.{joined}
use Rattle.coll_shape.specs.Collectives.{word_of, root_of, op_of, source_of, result_of}
use Rattle.coll_shape.specs.declared.types.Version.{Version}
use Rattle.coll_shape.specs.declared.types.Buffer.{Buffer}
use Rattle.coll_shape.specs.declared.types.Group.{Group}
use Rattle.coll_shape.specs.declared.types.CollStep.{CollStep}
use Rattle.coll_lang.specs.Words.{type_word, op_word, version_word, choice_word}
use Rattle.coll_lang.specs.Program.{Chosen, Program}
use Rattle.coll_lang.specs.declared.choices.ChoiceStep.{ChoiceStep}
use Rattle.coll_lang.specs.declared.choices.ChoiceStep.TheVariants.{Elect, Tickets}
use Rattle.coll_lang.specs.declared.choices.ChoiceKind.TheVariants as kinds

abbrev pub head_text : Version → ℕ → List ℕ
head_text version ranks = line (codes "coll" ∷ version_word version ∷ []) ++ line (codes "ranks" ∷ decimal ranks ∷ [])

abbrev pub remote_text : Bool → List ℕ
remote_text true = line (codes "complete" ∷ codes "remote" ∷ [])
remote_text false = []

abbrev pub group_text : Group → List ℕ
group_text g = line (codes "group" ∷ g.name ∷ map decimal g.members)

abbrev pub groups_text : List Group → List ℕ
groups_text groups = flat_map group_text groups

abbrev pub input_text : Buffer → List ℕ
input_text b = line (codes "input" ∷ b.name ∷ type_word b.ty ∷ decimal b.spread.length ∷ [])

abbrev pub data_text : Buffer → List ℕ → List ℕ
data_text b bytes = line (map (value_word b.ty) (elements b.ty bytes))

-- each input with its data lines, of lists that stand input by input
abbrev pub inputs_text : ℕ → List Buffer → List (List ℕ) → List ℕ
inputs_text ranks [] lists = []
inputs_text ranks (b ∷ bs) lists = input_text b ++ (flat_map (data_text b) (take ranks lists) ++ inputs_text ranks bs (drop ranks lists))

abbrev pub name_at : List Buffer → ℕ → List ℕ
name_at bs i = (get_or bs i no_buffer).name

-- what there is of something, each in words
abbrev pub if_there : {A : Type 0} → (A → List ℕ) → Option A → List (List ℕ)
if_there f None = []
if_there f (Some x) = f x ∷ []

-- a step's word, its root, its operation, A and B, as far as it has them
unfoldable pub step_words : List Buffer → CollStep → List (List ℕ)
step_words bs s =
    word_of s ∷ (if_there decimal (root_of s)
    ++ (if_there op_word (op_of s) ++ (if_there (name_at bs) (source_of s) ++ if_there (name_at bs) (result_of s))))

-- `on GROUP`, where a step names one
abbrev pub on_words : List Group → Option ℕ → List (List ℕ)
on_words groups None = []
on_words groups (Some i) = codes "on" ∷ (get_or groups i no_group).name ∷ []

-- each step with the group that it names; there are as many of these as steps
abbrev pub steps_text : List Group → List Buffer → List CollStep → List (Option ℕ) → List ℕ
steps_text groups bs [] ons = []
steps_text groups bs (s ∷ ss) [] = []
steps_text groups bs (s ∷ ss) (on ∷ ons) = line (on_words groups on ++ step_words bs s) ++ steps_text groups bs ss ons

-- the prints of things by their names
abbrev pub prints_text : (ℕ → List ℕ) → List ℕ → List ℕ
prints_text name prints = flat_map (λ i. line (codes "print" ∷ name i ∷ [])) prints

abbrev pub choice_name : ChoiceStep → List ℕ
choice_name (Elect name) = name
choice_name (Tickets name) = name

abbrev pub choice_words : ChoiceStep → List (List ℕ)
choice_words (Elect name) = choice_word kinds.Elect ∷ name ∷ []
choice_words (Tickets name) = choice_word kinds.Tickets ∷ name ∷ []

abbrev pub choices_text : List ChoiceStep → List ℕ
choices_text choices = flat_map (λ c. line (choice_words c)) choices

abbrev pub no_choice : ChoiceStep
no_choice = Elect []

-- the steps of a choice text and its prints
abbrev pub chosen_text : Option Chosen → List ℕ
chosen_text None = []
chosen_text (Some c) = choices_text c.steps ++ prints_text (λ i. choice_name (get_or c.steps i no_choice)) c.prints

-- the one spelling of a description
unfoldable pub text : Program → List ℕ
text d =
    head_text d.shape.version d.shape.ranks
    ++ (remote_text d.shape.remote
    ++ (groups_text d.shape.groups
    ++ (inputs_text d.shape.ranks (take d.shape.inputs d.shape.buffers) (joined d.inputs)
    ++ (steps_text d.shape.groups d.shape.buffers d.shape.steps d.shape.on
    ++ (prints_text (name_at d.shape.buffers) d.shape.prints
    ++ (chosen_text d.choices ++ line (codes "end" ∷ [])))))))
