-- The words of a line, by the table of lines.
use Rattle.std.proofs.Common.{◌≡◌, ℕ, List, [], ◌∷◌, ◌++◌, Option, Some, None, Bool, true, false, ◌&&◌, ◌||◌, not, cond, refl, sym, ap, ◌∙◌}
use Rattle.std.proofs.Common.{subst, codes, inl, inr}
use Rattle.std.specs.Prelude.{is_some, option_and_then, option_map}
use Rattle.std.specs.List.{list_all, list_any}
use Rattle.std.specs.Str.{bytes_eq}
use Rattle.ptl_types.specs.declared.elements.ElemType.{ElemType}
use Rattle.ptl_types.specs.declared.elements.AtomicOp.{AtomicOp}
use Rattle.coll_text.specs.Text.{is_name, is_empty}
use Rattle.coll_text.specs.Named.{op_named, type_named}
use Rattle.coll_text.proofs.Spelled.{same}
use Rattle.coll_shape.specs.declared.types.Version.{Version}
use Rattle.coll_shape.specs.declared.types.Version.TheVariants.{One, Two}
use Rattle.coll_shape.specs.declared.collectives.StepKind.{StepKind}
use Rattle.coll_shape.specs.Collectives.{kind_named, kind_since, takes_root, takes_op, takes_buffers}
use Rattle.coll_lang.specs.Forms.{Form, StepWords, complete, group, input, step, choice, print, last, root_in, op_in}
use Rattle.coll_lang.specs.Forms.{names_in, step_in, on_in, group_in, input_in, name_in, alone, complete_in, form_of}
use Rattle.coll_lang.specs.Language.{holds_of, stands_in, stands_at, may_stand}
use Rattle.coll_lang.specs.declared.choices.ChoiceKind.{ChoiceKind}
use Rattle.coll_lang.specs.declared.choices.ChoiceKind.TheVariants.{Elect, Tickets}
use Rattle.coll_lang.specs.declared.stage.Stage.{Stage}
use Rattle.coll_lang.specs.declared.stage.Stage.TheVariants.{Header, Ranks, Options, Groups, Inputs, Data, Steps, Choosing, Prints}
use Rattle.coll_lang.specs.declared.stage.Stage.TheVariants.{Finished}
use Rattle.text_laws.specs.refusals.Grammar.{Place, name, type, op, number, remote, fits, all_fit, places, places_of, is_step, is_group}
use Rattle.text_laws.specs.refusals.Grammar.{is_on}
use Rattle.text_laws.specs.refusals.Grammar.{has_part, may_be, WordsByTheTable}
use Rattle.text_laws.proofs.refusals.Lowest.{way}

-- where each form may stand
complete_stands : (stage : Stage) → stands_at stage complete ≡ has_part stage 0
complete_stands Header = refl
complete_stands Ranks = refl
complete_stands Options = refl
complete_stands Groups = refl
complete_stands Inputs = refl
complete_stands (Data left ty count) = refl
complete_stands Steps = refl
complete_stands Choosing = refl
complete_stands Prints = refl
complete_stands Finished = refl

groups_stand : (stage : Stage) (n : List ℕ) (ms : List (List ℕ)) → stands_at stage (group n ms) ≡ has_part stage 1
groups_stand Header n ms = refl
groups_stand Ranks n ms = refl
groups_stand Options n ms = refl
groups_stand Groups n ms = refl
groups_stand Inputs n ms = refl
groups_stand (Data left ty count) n ms = refl
groups_stand Steps n ms = refl
groups_stand Choosing n ms = refl
groups_stand Prints n ms = refl
groups_stand Finished n ms = refl

inputs_stand : (stage : Stage) (n : List ℕ) (t : ElemType) (c : List ℕ) → stands_at stage (input n t c) ≡ has_part stage 2
inputs_stand Header n t c = refl
inputs_stand Ranks n t c = refl
inputs_stand Options n t c = refl
inputs_stand Groups n t c = refl
inputs_stand Inputs n t c = refl
inputs_stand (Data left ty count) n t c = refl
inputs_stand Steps n t c = refl
inputs_stand Choosing n t c = refl
inputs_stand Prints n t c = refl
inputs_stand Finished n t c = refl

steps_stand : (stage : Stage) (on : Option (List ℕ)) (words : StepWords) → stands_at stage (step on words) ≡ has_part stage 3
steps_stand Header on words = refl
steps_stand Ranks on words = refl
steps_stand Options on words = refl
steps_stand Groups on words = refl
steps_stand Inputs on words = refl
steps_stand (Data left ty count) on words = refl
steps_stand Steps on words = refl
steps_stand Choosing on words = refl
steps_stand Prints on words = refl
steps_stand Finished on words = refl

choices_stand : (stage : Stage) (kind : ChoiceKind) (n : List ℕ) → stands_at stage (choice kind n) ≡ has_part stage 4
choices_stand Header kind n = refl
choices_stand Ranks kind n = refl
choices_stand Options kind n = refl
choices_stand Groups kind n = refl
choices_stand Inputs kind n = refl
choices_stand (Data left ty count) kind n = refl
choices_stand Steps kind n = refl
choices_stand Choosing kind n = refl
choices_stand Prints kind n = refl
choices_stand Finished kind n = refl

prints_stand : (stage : Stage) (n : List ℕ) → stands_at stage (print n) ≡ has_part stage 5
prints_stand Header n = refl
prints_stand Ranks n = refl
prints_stand Options n = refl
prints_stand Groups n = refl
prints_stand Inputs n = refl
prints_stand (Data left ty count) n = refl
prints_stand Steps n = refl
prints_stand Choosing n = refl
prints_stand Prints n = refl
prints_stand Finished n = refl

lasts_stand : (stage : Stage) → stands_at stage last ≡ has_part stage 5
lasts_stand Header = refl
lasts_stand Ranks = refl
lasts_stand Options = refl
lasts_stand Groups = refl
lasts_stand Inputs = refl
lasts_stand (Data left ty count) = refl
lasts_stand Steps = refl
lasts_stand Choosing = refl
lasts_stand Prints = refl
lasts_stand Finished = refl

-- ---- tests
or_false : (c : Bool) → c ≡ (c || false)
or_false true = refl
or_false false = refl

-- the line of a word that is no step's
alone_there : (b c : Bool) → b ≡ c → b ≡ ((c || false) || false)
alone_there b c e = e ∙ (or_false c ∙ or_false (c || false))

nothing_more : (c : Bool) → (c && false) ≡ false
nothing_more true = refl
nothing_more false = refl

one_word : (m : Form → Bool) (o x : Bool) (form : Form) → m form ≡ o → holds_of m (cond x (Some form) None) ≡ (x && o)
one_word m o true form h = h
one_word m o false form h = refl

complete_fit : (m : Form → Bool) (o : Bool) → m complete ≡ o → (ws : List (List ℕ))
    → holds_of m (complete_in ws) ≡ (all_fit (remote ∷ []) ws && o)
unfolding complete_in
complete_fit m o h [] = refl
complete_fit m o h (w ∷ []) = one_word m o (bytes_eq w (codes "remote")) complete h
complete_fit m o h (w ∷ v ∷ ws) = refl

name_fit : (m : Form → Bool) (o : Bool) (form : List ℕ → Form) → ((n : List ℕ) → m (form n) ≡ o) → (ws : List (List ℕ))
    → holds_of m (name_in form ws) ≡ (all_fit (name ∷ []) ws && o)
unfolding name_in
name_fit m o form h [] = refl
name_fit m o form h (n ∷ []) = one_word m o (is_name n) (form n) (h n)
name_fit m o form h (n ∷ w ∷ ws) = refl

alone_fit : (m : Form → Bool) (o : Bool) (form : Form) → m form ≡ o → (ws : List (List ℕ))
    → holds_of m (alone form ws) ≡ (all_fit [] ws && o)
alone_fit m o form h [] = h
alone_fit m o form h (w ∷ ws) = refl

-- `NAME TYPE COUNT`
three_words : (m : Form → Bool) (o x y : Bool) (ty : Option ElemType) (make : ElemType → Form) → ((t : ElemType) → m (make t) ≡ o)
    → holds_of m (cond (x && not y) (option_map make ty) None) ≡ (((not y && is_some ty) && x) && o)
three_words m o true true ty make h = refl
three_words m o true false None make h = refl
three_words m o true false (Some t) make h = h t
three_words m o false true ty make h = refl
three_words m o false false None make h = refl
three_words m o false false (Some t) make h = refl

input_fit : (m : Form → Bool) (o : Bool) → ((n : List ℕ) (t : ElemType) (c : List ℕ) → m (input n t c) ≡ o) → (ws : List (List ℕ))
    → holds_of m (input_in ws) ≡ (all_fit (name ∷ type ∷ number ∷ []) ws && o)
unfolding input_in
input_fit m o h [] = refl
input_fit m o h (n ∷ []) = refl
input_fit m o h (n ∷ t ∷ []) = refl
input_fit m o h (n ∷ t ∷ c ∷ []) = three_words m o (is_name n) (is_empty c) (type_named t) (λ t. input n t c) (λ t. h n t c)
input_fit m o h (n ∷ t ∷ c ∷ w ∷ ws) = refl

-- `NAME MEMBER ..`
none_empty : (ws : List (List ℕ)) → not (list_any is_empty ws) ≡ list_all (fits number) ws
none_empty [] = refl
none_empty (w ∷ ws) = one (is_empty w) (list_any is_empty ws) (list_all (fits number) ws) (none_empty ws)
  where
    one : (x y z : Bool) → not y ≡ z → not (x || y) ≡ (not x && z)
    one true y z h = refl
    one false y z h = h

members_fit : (m : Form → Bool) (o x y z : Bool) (form : Form) → not y ≡ z → m form ≡ o
    → holds_of m (cond (x && not y) (Some form) None) ≡ ((x && z) && o)
members_fit m o true true z form e h = ap (λ b. b && o) e
members_fit m o true false z form e h = h ∙ ap (λ b. b && o) e
members_fit m o false y z form e h = refl

group_fit : (m : Form → Bool) (o : Bool) → ((n : List ℕ) (ms : List (List ℕ)) → m (group n ms) ≡ o) → (ws : List (List ℕ))
    → holds_of m (group_in ws) ≡ (is_group ws && o)
unfolding group_in
group_fit m o h [] = refl
group_fit m o h (n ∷ []) = refl
group_fit m o h (n ∷ w ∷ ws) =
    members_fit m o (is_name n) (list_any is_empty (w ∷ ws)) (list_all (fits number) (w ∷ ws)) (group n (w ∷ ws)) (none_empty (w ∷ ws))
    (h n (w ∷ ws))

-- ---- steps
two_names : (m : StepWords → Bool) (c x y : Bool) (make : Option (List ℕ × List ℕ) → StepWords) (a b : List ℕ)
    → ((names : Option (List ℕ × List ℕ)) → m (make names) ≡ c)
    → holds_of m (option_and_then (λ names. Some (make names)) (cond (x && y) (Some (Some (a, b))) None)) ≡ ((y && x) && c)
two_names m c true true make a b h = h (Some (a, b))
two_names m c true false make a b h = refl
two_names m c false true make a b h = refl
two_names m c false false make a b h = refl

names_fit : (m : StepWords → Bool) (c due : Bool) (make : Option (List ℕ × List ℕ) → StepWords)
    → ((names : Option (List ℕ × List ℕ)) → m (make names) ≡ c) → (ws : List (List ℕ))
    → holds_of m (option_and_then (λ names. Some (make names)) (names_in due ws)) ≡ (all_fit (cond due (name ∷ name ∷ []) []) ws && c)
unfolding names_in
names_fit m c false make h [] = h None
names_fit m c false make h (w ∷ ws) = refl
names_fit m c true make h [] = refl
names_fit m c true make h (a ∷ []) = refl
names_fit m c true make h (a ∷ b ∷ []) = two_names m c (is_name a) (is_name b) make a b h
names_fit m c true make h (a ∷ b ∷ w ∷ ws) = refl

-- an operation before the others
one_op : (m : StepWords → Bool) (c b : Bool) (ws : List (List ℕ)) (rest : AtomicOp × List (List ℕ) → Option StepWords)
    (found : Option AtomicOp)
    → ((o : AtomicOp) → holds_of m (rest (o, ws)) ≡ (b && c))
    → holds_of m (option_and_then rest (option_map (λ o. (o, ws)) found)) ≡ ((b && is_some found) && c)
one_op m c true ws rest None h = refl
one_op m c false ws rest None h = refl
one_op m c true ws rest (Some o) h = h o
one_op m c false ws rest (Some o) h = h o

ops_fit : (m : StepWords → Bool) (c due : Bool) (ps : List Place) (rest : AtomicOp × List (List ℕ) → Option StepWords)
    → ((o : AtomicOp) (ws : List (List ℕ)) → holds_of m (rest (o, ws)) ≡ (all_fit ps ws && c)) → (ws : List (List ℕ))
    → holds_of m (option_and_then rest (op_in due ws)) ≡ (all_fit (cond due (op ∷ []) [] ++ ps) ws && c)
unfolding op_in
ops_fit m c false ps rest h ws = h _ ws
ops_fit m c true ps rest h [] = refl
ops_fit m c true ps rest h (w ∷ ws) = one_op m c (all_fit ps ws) ws rest (op_named w) (λ o. h o ws)

-- a root before the others
one_root : (m : StepWords → Bool) (c e b : Bool) (rest : Option (List ℕ) × List (List ℕ) → Option StepWords)
    (root : Option (List ℕ) × List (List ℕ))
    → holds_of m (rest root) ≡ (b && c) → holds_of m (option_and_then rest (cond e None (Some root))) ≡ ((b && not e) && c)
one_root m c true true rest root h = refl
one_root m c true false rest root h = refl
one_root m c false true rest root h = h
one_root m c false false rest root h = h

roots_fit : (m : StepWords → Bool) (c due : Bool) (ps : List Place) (rest : Option (List ℕ) × List (List ℕ) → Option StepWords)
    → ((root : Option (List ℕ)) (ws : List (List ℕ)) → holds_of m (rest (root, ws)) ≡ (all_fit ps ws && c)) → (ws : List (List ℕ))
    → holds_of m (option_and_then rest (root_in due ws)) ≡ (all_fit (cond due (number ∷ []) [] ++ ps) ws && c)
unfolding root_in
roots_fit m c false ps rest h ws = h None ws
roots_fit m c true ps rest h [] = refl
roots_fit m c true ps rest h (w ∷ ws) = one_root m c (is_empty w) (all_fit ps ws) rest (Some w, ws) (h (Some w) ws)

-- a step's words, by what its kind takes
words_fit : (m : StepWords → Bool) (c : Bool) (kind : StepKind) (r o b : Bool)
    → ((root : Option (List ℕ)) (q : AtomicOp) (names : Option (List ℕ × List ℕ))
    → m (record { kind = kind; root = root; op = q; names = names }) ≡ c) → (ws : List (List ℕ))
    → holds_of m (option_and_then (λ (root : Option (List ℕ) × List (List ℕ)). option_and_then
    (λ (q : AtomicOp × List (List ℕ)). option_and_then
    (λ names. Some (record { kind = kind; root = root.0; op = q.0; names = names })) (names_in b q.1)) (op_in o root.1)) (root_in r ws))
    ≡ (all_fit (places r o b) ws && c)
words_fit m c kind r o b h ws =
    roots_fit m c r (cond o (op ∷ []) [] ++ cond b (name ∷ name ∷ []) []) _
    (λ root ws. ops_fit m c o (cond b (name ∷ name ∷ []) []) _
    (λ q ws. names_fit m c b (λ names. record { kind = kind; root = root; op = q; names = names }) (h root q) ws) ws) ws

-- a test of the kind alone, of the step of that first word
steps_fit : (m : StepWords → Bool) (v : StepKind → Bool) (key : List ℕ) (ws : List (List ℕ))
    → ((kind : StepKind) (root : Option (List ℕ)) (q : AtomicOp) (names : Option (List ℕ × List ℕ))
    → m (record { kind = kind; root = root; op = q; names = names }) ≡ v kind)
    → holds_of m (step_in key ws) ≡ holds_of (λ kind. all_fit (places_of kind) ws && v kind) (kind_named key)
unfolding step_in
steps_fit m v key ws h = go (kind_named key)
  where
    go : (found : Option StepKind)
        → holds_of m (option_and_then (λ kind. option_and_then
        (λ (root : Option (List ℕ) × List (List ℕ)). option_and_then
        (λ (q : AtomicOp × List (List ℕ)). option_and_then
        (λ names. Some (record { kind = kind; root = root.0; op = q.0; names = names })) (names_in (takes_buffers kind) q.1))
        (op_in (takes_op kind) root.1)) (root_in (takes_root kind) ws)) found)
        ≡ holds_of (λ kind. all_fit (places_of kind) ws && v kind) found
    go None = refl
    go (Some kind) = words_fit m (v kind) kind (takes_root kind) (takes_op kind) (takes_buffers kind) (h kind) ws

-- a test of the kind, and one that is the same for all
with_both : (o : Bool) (p : StepKind → Bool) (v : StepKind → Bool) (found : Option StepKind)
    → holds_of (λ kind. p kind && (v kind && o)) found ≡ (holds_of (λ kind. p kind && v kind) found && o)
with_both o p v None = refl
with_both o p v (Some kind) = joined (p kind) (v kind)
  where
    joined : (x y : Bool) → (x && (y && o)) ≡ ((x && y) && o)
    joined true y = refl
    joined false y = refl

mapped : {A B : Type 0} (m : B → Bool) (f : A → B) (x : Option A) → holds_of m (option_map f x) ≡ holds_of (λ a. m (f a)) x
mapped m f None = refl
mapped m f (Some a) = refl

step_test : (version : Version) (stage : Stage) (key : List ℕ) (ws : List (List ℕ))
    → holds_of (may_stand version stage) (option_map (step None) (step_in key ws)) ≡ (is_step version (key ∷ ws) && has_part stage 3)
step_test version stage key ws =
    mapped (may_stand version stage) (step None) (step_in key ws)
    ∙ (steps_fit (λ words. may_stand version stage (step None words))
    (λ kind. stands_in (kind_since kind) version && has_part stage 3) key ws
    (λ kind root q names. ap (λ b. stands_in (kind_since kind) version && b)
    (steps_stand stage None (record { kind = kind; root = root; op = q; names = names })))
    ∙ with_both (has_part stage 3) (λ kind. all_fit (places_of kind) ws) (λ kind. stands_in (kind_since kind) version) (kind_named key))

-- on a group: every kind stands in version 2
stands_in_two : (v : Version) → stands_in v Two ≡ true
stands_in_two One = refl
stands_in_two Two = refl

named_first : (m : Form → Bool) (o x : Bool) (f : Option Form) (s : Bool) → holds_of m f ≡ (s && o)
    → holds_of m (cond x f None) ≡ ((x && s) && o)
named_first m o true f s h = h
named_first m o false f s h = refl

on_fit : (version : Version) (stage : Stage) (ws : List (List ℕ))
    → holds_of (may_stand version stage) (on_in ws) ≡ (is_on ws && (stands_in Two version && has_part stage 3))
unfolding on_in
on_fit version stage [] = refl
on_fit version stage (n ∷ []) = sym (ap (λ b. b && (stands_in Two version && has_part stage 3)) (nothing_more (is_name n)))
on_fit version stage (n ∷ key ∷ ws) =
    named_first (may_stand version stage) (stands_in Two version && has_part stage 3) (is_name n)
    (option_map (step (Some n)) (step_in key ws)) (is_step Two (key ∷ ws))
    (mapped (may_stand version stage) (step (Some n)) (step_in key ws)
    ∙ (steps_fit (λ words. may_stand version stage (step (Some n) words))
    (λ kind. stands_in (kind_since kind) Two && (stands_in Two version && has_part stage 3)) key ws
    (λ kind root q names. ap (λ b. stands_in Two version && b)
    (steps_stand stage (Some n) (record { kind = kind; root = root; op = q; names = names }))
    ∙ sym (ap (λ b. b && (stands_in Two version && has_part stage 3)) (stands_in_two (kind_since kind))))
    ∙ with_both (stands_in Two version && has_part stage 3) (λ kind. all_fit (places_of kind) ws)
    (λ kind. stands_in (kind_since kind) Two) (kind_named key)))

-- ---- the words after a first word
abbrev By : List ℕ → Type 0
By key = (version : Version) (stage : Stage) (ws : List (List ℕ))
    → holds_of (may_stand version stage) (form_of (key ∷ ws)) ≡ may_be version stage (key ∷ ws)

by_complete : By (codes "complete")
unfolding form_of
by_complete version stage ws =
    alone_there (holds_of (may_stand version stage) (complete_in ws))
    (all_fit (remote ∷ []) ws && (stands_in One version && has_part stage 0))
    (complete_fit (may_stand version stage) (stands_in One version && has_part stage 0) (complete_stands stage) ws)

by_group : By (codes "group")
unfolding form_of
by_group version stage ws =
    alone_there (holds_of (may_stand version stage) (group_in ws)) (is_group ws && (stands_in Two version && has_part stage 1))
    (group_fit (may_stand version stage) (stands_in Two version && has_part stage 1)
    (λ n ms. ap (λ b. stands_in Two version && b) (groups_stand stage n ms)) ws)

by_input : By (codes "input")
unfolding form_of
by_input version stage ws =
    alone_there (holds_of (may_stand version stage) (input_in ws))
    (all_fit (name ∷ type ∷ number ∷ []) ws && (stands_in One version && has_part stage 2))
    (input_fit (may_stand version stage) (stands_in One version && has_part stage 2) (inputs_stand stage) ws)

by_on : By (codes "on")
unfolding form_of
by_on version stage ws = alone_there (holds_of (may_stand version stage) (on_in ws))
    (is_on ws && (stands_in Two version && has_part stage 3)) (on_fit version stage ws)

by_choice : (version : Version) (stage : Stage) (kind : ChoiceKind) (ws : List (List ℕ))
    → holds_of (may_stand version stage) (name_in (choice kind) ws)
    ≡ (((all_fit (name ∷ []) ws && (stands_in Two version && has_part stage 4)) || false) || false)
by_choice version stage kind ws =
    alone_there (holds_of (may_stand version stage) (name_in (choice kind) ws))
    (all_fit (name ∷ []) ws && (stands_in Two version && has_part stage 4))
    (name_fit (may_stand version stage) (stands_in Two version && has_part stage 4) (choice kind)
    (λ n. ap (λ b. stands_in Two version && b) (choices_stand stage kind n)) ws)

by_elect : By (codes "elect")
unfolding form_of
by_elect version stage ws = by_choice version stage Elect ws

by_tickets : By (codes "tickets")
unfolding form_of
by_tickets version stage ws = by_choice version stage Tickets ws

by_print : By (codes "print")
unfolding form_of
by_print version stage ws =
    alone_there (holds_of (may_stand version stage) (name_in print ws))
    (all_fit (name ∷ []) ws && (stands_in One version && has_part stage 5))
    (name_fit (may_stand version stage) (stands_in One version && has_part stage 5) print (prints_stand stage) ws)

by_end : By (codes "end")
unfolding form_of
by_end version stage ws =
    alone_there (holds_of (may_stand version stage) (alone last ws)) (all_fit [] ws && (stands_in One version && has_part stage 5))
    (alone_fit (may_stand version stage) (stands_in One version && has_part stage 5) last (lasts_stand stage) ws)

another : (key : List ℕ) → bytes_eq key (codes "complete") ≡ false → bytes_eq key (codes "group") ≡ false
    → bytes_eq key (codes "input") ≡ false → bytes_eq key (codes "on") ≡ false
    → bytes_eq key (codes "elect") ≡ false → bytes_eq key (codes "tickets") ≡ false → bytes_eq key (codes "print") ≡ false
    → bytes_eq key (codes "end") ≡ false → By key
unfolding form_of
another key e0 e1 e2 e3 e4 e5 e6 e7 version stage ws = rw (e0, e1, e2, e3, e4, e5, e6, e7) (step_test version stage key ws)

-- the first word is that one, or it isn't
either : (key word : List ℕ) → By word → (bytes_eq key word ≡ false → By key) → By key
either key word by others = elim (way (bytes_eq key word)) [ inl e ↦ subst By (sym (same key word e)) by | inr e ↦ others e ]

by_key : (key : List ℕ) → By key
by_key key =
    either key (codes "complete") by_complete (λ e0.
    either key (codes "group") by_group (λ e1.
    either key (codes "input") by_input (λ e2.
    either key (codes "on") by_on (λ e3.
    either key (codes "elect") by_elect (λ e4.
    either key (codes "tickets") by_tickets (λ e5.
    either key (codes "print") by_print (λ e6.
    either key (codes "end") by_end (λ e7.
    another key e0 e1 e2 e3 e4 e5 e6 e7))))))))

pub words_by_the_table : WordsByTheTable
unfolding form_of
words_by_the_table version stage [] = refl
words_by_the_table version stage (key ∷ ws) = by_key key version stage ws
