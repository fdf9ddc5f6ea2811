-- The lines after the first two that are no data lines: their words, and where they may stand. The steps are those of the
-- collectives' rows.
use Rattle.std.specs.Prelude.{◌≡◌, ℕ, List, [], ◌∷◌, ◌++◌, Bool, true, false, ◌&&◌, ◌||◌, ◌==◌, not, if◌then◌else◌, is_some, codes}
use Rattle.std.specs.List.{list_all, list_any}
use Rattle.std.specs.Str.{bytes_eq}
use Rattle.coll_text.specs.Text.{is_name, is_empty}
use Rattle.coll_text.specs.Named.{op_named, type_named}
use Rattle.coll_shape.specs.declared.types.Version.{Version}
use Rattle.coll_shape.specs.declared.types.Version.TheVariants.{One, Two}
use Rattle.coll_shape.specs.declared.collectives.StepKind.{StepKind}
use Rattle.coll_shape.specs.Collectives.{kind_named, kind_since, takes_root, takes_op, takes_buffers}
use Rattle.coll_lang.specs.Forms.{form_of}
use Rattle.coll_lang.specs.Language.{holds_of, stands_in, may_stand}
use Rattle.coll_lang.specs.declared.stage.Stage.{Stage}
use Rattle.coll_lang.specs.declared.stage.Stage.TheVariants.{Options, Groups, Inputs, Steps, Choosing, Prints}

-- what a word must be; of a number only that it isn't empty, since what isn't one is another row
pub data Place : Type 0 where
  name : Place
  type : Place
  op : Place
  number : Place
  remote : Place

abbrev pub fits : Place → List ℕ → Bool
fits name word = is_name word
fits type word = is_some (type_named word)
fits op word = is_some (op_named word)
fits number word = not (is_empty word)
fits remote word = bytes_eq word (codes "remote")

-- as many words as places, each as its place asks
abbrev pub all_fit : List Place → List (List ℕ) → Bool
all_fit [] [] = true
all_fit [] (w ∷ ws) = false
all_fit (p ∷ ps) [] = false
all_fit (p ∷ ps) (w ∷ ws) = all_fit ps ws && fits p w

-- the places of a step: ROOT, OP, A and B, where its row has them
abbrev pub places : (root operation buffers : Bool) → List Place
places root operation buffers =
    (if root then number ∷ [] else []) ++ ((if operation then op ∷ [] else []) ++ (if buffers then name ∷ name ∷ [] else []))

abbrev pub places_of : StepKind → List Place
places_of kind = places (takes_root kind) (takes_op kind) (takes_buffers kind)

-- a step of the version, without `on`
abbrev pub is_step : Version → List (List ℕ) → Bool
is_step version [] = false
is_step version (key ∷ ws) = holds_of (λ kind. all_fit (places_of kind) ws && stands_in (kind_since kind) version) (kind_named key)

-- a name and one member or more
abbrev pub is_group : List (List ℕ) → Bool
is_group [] = false
is_group (group ∷ []) = false
is_group (group ∷ member ∷ members) = is_name group && list_all (fits number) (member ∷ members)

-- a name and a step of any version
abbrev pub is_on : List (List ℕ) → Bool
is_on [] = false
is_on (group ∷ ws) = is_name group && is_step Two ws

-- The parts of a text: 0 `complete remote`, 1 groups, 2 inputs, 3 steps, 4 the steps of a choice text, 5 prints and the end.
-- Those whose lines may stand at a stage; at the other stages another line is due, or none is.
abbrev pub parts_at : Stage → List ℕ
parts_at Options = 0 ∷ 1 ∷ 2 ∷ 3 ∷ 4 ∷ 5 ∷ []
parts_at Groups = 1 ∷ 2 ∷ 3 ∷ 5 ∷ []
parts_at Inputs = 2 ∷ 3 ∷ 5 ∷ []
parts_at Steps = 3 ∷ 5 ∷ []
parts_at Choosing = 4 ∷ 5 ∷ []
parts_at Prints = 5 ∷ []
parts_at _ = []

abbrev pub has_part : Stage → ℕ → Bool
has_part stage part = list_any (λ p. p == part) (parts_at stage)

-- each other line's first word, the version from which on it stands, its part, and a test of its other words
abbrev pub others : List (List ℕ × Version × ℕ × (List (List ℕ) → Bool))
others =
    (codes "complete", One, 0, all_fit (remote ∷ []))
    ∷ (codes "group", Two, 1, is_group)
    ∷ (codes "input", One, 2, all_fit (name ∷ type ∷ number ∷ []))
    ∷ (codes "on", Two, 3, is_on)
    ∷ (codes "elect", Two, 4, all_fit (name ∷ []))
    ∷ (codes "tickets", Two, 4, all_fit (name ∷ []))
    ∷ (codes "print", One, 5, all_fit (name ∷ []))
    ∷ (codes "end", One, 5, all_fit []) ∷ []

-- the words are those of a line that may stand here
abbrev pub may_be : Version → Stage → List (List ℕ) → Bool
may_be version stage [] = false
may_be version stage (key ∷ ws) =
    list_any (λ line. bytes_eq key line.0 && (line.3 ws && (stands_in line.1 version && has_part stage line.2))) others
    || (is_step version (key ∷ ws) && has_part stage 3)

-- The words of a line say what may stand here exactly where they are those of a line of the table that may.
abbrev pub WordsByTheTable : Type 0
WordsByTheTable =
    (version : Version) (stage : Stage) (ws : List (List ℕ))
    → holds_of (may_stand version stage) (form_of ws) ≡ may_be version stage ws
