-- What a line is by its words, wherever it stands.
use Rattle.std.specs.Prelude.{ℕ, List, [], ◌∷◌, Option, Some, None, Bool, true, false, ◌&&◌, not, if◌then◌else◌, codes, option_and_then}
use Rattle.std.specs.Prelude.{option_map}
use Rattle.std.specs.List.{list_any}
use Rattle.std.specs.Str.{bytes_eq}
use Rattle.coll_text.specs.Text.{is_name, is_empty}
use Rattle.coll_text.specs.Named.{op_named, type_named}
use Rattle.ptl_types.specs.declared.elements.ElemType.{ElemType}
use Rattle.ptl_types.specs.declared.elements.AtomicOp.{AtomicOp}
use Rattle.ptl_types.specs.declared.elements.AtomicOp.TheVariants as ops
use Rattle.coll_shape.specs.declared.collectives.StepKind.{StepKind}
use Rattle.coll_shape.specs.Collectives.{kind_named, takes_root, takes_op, takes_buffers}
use Rattle.coll_lang.specs.declared.choices.ChoiceKind.{ChoiceKind}
use Rattle.coll_lang.specs.declared.choices.ChoiceKind.TheVariants.{Elect, Tickets}

-- the words of a step: its kind, the word of the root where the kind takes one, its operation (`sum` where it takes none), and
-- A and B where it takes them
pub record StepWords : Type 0 where
  pub kind : StepKind
  pub root : Option (List ℕ)
  pub op : AtomicOp
  pub names : Option (List ℕ × List ℕ)

-- A line that may stand after the first two. Numbers are still words.
pub data Form : Type 0 where
  complete : Form
  group : (name : List ℕ) (members : List (List ℕ)) → Form
  input : (name : List ℕ) (ty : ElemType) (count : List ℕ) → Form
  step : (on : Option (List ℕ)) (words : StepWords) → Form
  choice : (kind : ChoiceKind) (name : List ℕ) → Form
  print : (name : List ℕ) → Form
  last : Form

infixl 10 ◌>>=◌
abbrev pub ◌>>=◌ : {A B : Type 0} → Option A → (A → Option B) → Option B
o >>= f = option_and_then f o

-- the word of the root, where one is due, and the words after it
unfoldable pub root_in : Bool → List (List ℕ) → Option (Option (List ℕ) × List (List ℕ))
root_in false ws = Some (None, ws)
root_in true [] = None
root_in true (word ∷ ws) = if is_empty word then None else Some (Some word, ws)

-- the operation, where one is due, and the words after it
unfoldable pub op_in : Bool → List (List ℕ) → Option (AtomicOp × List (List ℕ))
op_in false ws = Some (ops.Sum, ws)
op_in true [] = None
op_in true (word ∷ ws) = option_map (λ op. (op, ws)) (op_named word)

-- two names where they are due, and no more
unfoldable pub names_in : Bool → List (List ℕ) → Option (Option (List ℕ × List ℕ))
names_in false [] = Some None
names_in false (w ∷ ws) = None
names_in true [] = None
names_in true (a ∷ []) = None
names_in true (a ∷ b ∷ []) = if is_name a && is_name b then Some (Some (a, b)) else None
names_in true (a ∷ b ∷ w ∷ ws) = None

unfoldable pub step_in : List ℕ → List (List ℕ) → Option StepWords
step_in key ws = do
  kind ← kind_named key
  root ← root_in (takes_root kind) ws
  op ← op_in (takes_op kind) root.1
  names ← names_in (takes_buffers kind) op.1
  Some (record { kind = kind; root = root.0; op = op.0; names = names })

-- a step on a group
unfoldable pub on_in : List (List ℕ) → Option Form
on_in [] = None
on_in (name ∷ []) = None
on_in (name ∷ key ∷ ws) = if is_name name then option_map (step (Some name)) (step_in key ws) else None

-- `NAME MEMBER ..` of a group, at least one
unfoldable pub group_in : List (List ℕ) → Option Form
group_in [] = None
group_in (name ∷ []) = None
group_in (name ∷ member ∷ members) =
    if is_name name && not (list_any is_empty (member ∷ members)) then Some (group name (member ∷ members)) else None

-- `NAME TYPE COUNT` of an input
unfoldable pub input_in : List (List ℕ) → Option Form
input_in [] = None
input_in (name ∷ []) = None
input_in (name ∷ ty ∷ []) = None
input_in (name ∷ ty ∷ count ∷ []) =
    if is_name name && not (is_empty count) then option_map (λ t. input name t count) (type_named ty) else None
input_in (name ∷ ty ∷ count ∷ w ∷ ws) = None

-- a name alone
unfoldable pub name_in : (List ℕ → Form) → List (List ℕ) → Option Form
name_in form [] = None
name_in form (name ∷ []) = if is_name name then Some (form name) else None
name_in form (name ∷ w ∷ ws) = None

-- no word more
abbrev pub alone : Form → List (List ℕ) → Option Form
alone form [] = Some form
alone form (w ∷ ws) = None

unfoldable pub complete_in : List (List ℕ) → Option Form
complete_in [] = None
complete_in (word ∷ []) = if bytes_eq word (codes "remote") then Some complete else None
complete_in (word ∷ w ∷ ws) = None

-- what the words of a line are
unfoldable pub form_of : List (List ℕ) → Option Form
form_of [] = None
form_of (key ∷ ws) =
    if bytes_eq key (codes "complete") then complete_in ws
    else if bytes_eq key (codes "group") then group_in ws
    else if bytes_eq key (codes "input") then input_in ws
    else if bytes_eq key (codes "on") then on_in ws
    else if bytes_eq key (codes "elect") then name_in (choice Elect) ws
    else if bytes_eq key (codes "tickets") then name_in (choice Tickets) ws
    else if bytes_eq key (codes "print") then name_in print ws
    else if bytes_eq key (codes "end") then alone last ws
    else option_map (step None) (step_in key ws)
