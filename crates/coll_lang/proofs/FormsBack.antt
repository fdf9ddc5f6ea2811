-- The words of a line are read as its form.
use Rattle.std.proofs.Common.{◌≡◌, ℕ, ◌<◌, ◌≤◌, ◌^◌, List, [], ◌∷◌, ◌++◌, length, Option, Some, None, Bool, true, false, cond, ◌&&◌, not}
use Rattle.std.proofs.Common.{refl}
use Rattle.std.proofs.Common.{sym, ap, ◌∙◌, arith, codes}
use Rattle.std.specs.Prelude.{nat_le, ◌==◌, option_and_then}
use Rattle.std.specs.List.{list_all}
use Rattle.std.specs.Str.{bytes_eq}
use Rattle.std.specs.Fmt.{decimal}
use Rattle.std.proofs.lemmas.Bool.Decides.{nat_tests}
use Rattle.std.proofs.lemmas.Fmt.{decimal_nonempty}
use Rattle.ptl_types.specs.declared.elements.ElemType.{ElemType}
use Rattle.ptl_types.specs.declared.elements.ElemType.TheVariants as types
use Rattle.ptl_types.specs.declared.elements.AtomicOp.{AtomicOp}
use Rattle.ptl_types.specs.declared.elements.AtomicOp.TheVariants as ops
use Rattle.coll_text.specs.Text.{is_name, is_letter, is_name_byte, is_empty, number_between}
use Rattle.coll_text.specs.Named.{op_named, type_named}
use Rattle.coll_text.proofs.Spelled.{both}
use Rattle.coll_text.proofs.ReadBack.{passes_too, number_read}
use Rattle.coll_text.proofs.WordsBack.{is_solid}
use Rattle.coll_lang.specs.Words.{type_word, op_word}
use Rattle.std.specs.Prelude.{is_some, option_map}
use Rattle.std.specs.List.{list_any, AllByRecursion}
use Rattle.coll_shape.specs.declared.collectives.StepKind.{StepKind}
use Rattle.coll_shape.specs.Collectives.{all_kinds, kind_word, takes_buffers, takes_op, takes_root}
use Rattle.coll_shape.proofs.ByCollective.{every_kind, kind_back}
use Rattle.coll_lang.specs.Words.{choice_word}
use Rattle.coll_lang.specs.Forms.{StepWords, complete, group, input, step, choice, print, last, op_in, root_in, names_in}
use Rattle.coll_lang.specs.Forms.{step_in, on_in, group_in, input_in, name_in, complete_in, form_of}
use Rattle.coll_lang.specs.declared.choices.ChoiceKind.{ChoiceKind}
use Rattle.coll_lang.specs.declared.choices.ChoiceKind.TheVariants.{Elect, Tickets}
use Rattle.coll_lang.proofs.FormSaid.{names_there, on_there, op_there, said_words, word_there}

-- words of seen bytes
pub name_solid : (w : List ℕ) → is_name w ≡ true → list_all is_solid w ≡ true
name_solid [] h = cc
name_solid (b ∷ bs) h =
    let p = both (is_letter b && list_all is_name_byte bs) (nat_le (length bs) 15) h in
    let q = both (is_letter b) (list_all is_name_byte bs) p.0 in
    rw (letter b q.0, passes_too is_name_byte is_solid bs name_byte q.1) refl
  where
    letter : (b : ℕ) → is_letter b ≡ true → is_solid b ≡ true
    letter b h = grind (arith, nat_tests)

    name_byte : (b : ℕ) → is_name_byte b ≡ true → is_solid b ≡ true
    name_byte b h = grind (arith, nat_tests)

pub type_solid : (ty : ElemType) → list_all is_solid (type_word ty) ≡ true
type_solid types.U8 = refl
type_solid types.I8 = refl
type_solid types.U16 = refl
type_solid types.I16 = refl
type_solid types.U32 = refl
type_solid types.I32 = refl
type_solid types.U64 = refl
type_solid types.I64 = refl

pub op_solid : (op : AtomicOp) → list_all is_solid (op_word op) ≡ true
op_solid ops.Min = refl
op_solid ops.Max = refl
op_solid ops.Sum = refl
op_solid ops.Prod = refl
op_solid ops.Lor = refl
op_solid ops.Land = refl
op_solid ops.Bor = refl
op_solid ops.Band = refl
op_solid ops.Lxor = refl
op_solid ops.Bxor = refl

pub type_back : (ty : ElemType) → type_named (type_word ty) ≡ Some ty
type_back types.U8 = refl
type_back types.I8 = refl
type_back types.U16 = refl
type_back types.I16 = refl
type_back types.U32 = refl
type_back types.I32 = refl
type_back types.U64 = refl
type_back types.I64 = refl

op_back : (op : AtomicOp) → op_named (op_word op) ≡ Some op
op_back ops.Min = refl
op_back ops.Max = refl
op_back ops.Sum = refl
op_back ops.Prod = refl
op_back ops.Lor = refl
op_back ops.Land = refl
op_back ops.Bor = refl
op_back ops.Band = refl
op_back ops.Lxor = refl
op_back ops.Bxor = refl

pub number_full : (n : ℕ) → n < 2 ^ 64 → is_empty (decimal n) ≡ false
number_full n small = full (length (decimal n)) (decimal_nonempty n small)
  where
    full : (n : ℕ) → 0 < n → n == 0 ≡ false
    full n lt = grind (arith, nat_tests)

pub between_read : (low high n : ℕ) → low ≤ n → n ≤ high → high < 2 ^ 64 → number_between low high (decimal n) ≡ Some n
between_read low high n least most fits =
    ap (option_and_then (λ n. cond (nat_le low n && nat_le n high) (Some n) None)) (number_read n (omega arith))
    ∙ ap (λ t. cond (t && nat_le n high) (Some n) None) (is_true low n least) ∙ ap (λ t. cond t (Some n) None) (is_true n high most)
  where
    is_true : (a b : ℕ) → a ≤ b → nat_le a b ≡ true
    is_true a b le = grind (arith, nat_tests)

pub input_back : (name : List ℕ) (ty : ElemType) (count : List ℕ) → is_name name ≡ true → is_empty count ≡ false
    → form_of (codes "input" ∷ name ∷ type_word ty ∷ count ∷ []) ≡ Some (input name ty count)
unfolding form_of input_in
input_back name ty count named full = rw (named, full, type_back ty) refl

pub print_back : (name : List ℕ) → is_name name ≡ true → form_of (codes "print" ∷ name ∷ []) ≡ Some (print name)
unfolding form_of name_in
print_back name named = rw named refl

pub choice_back : (kind : ChoiceKind) (name : List ℕ) → is_name name ≡ true
    → form_of (choice_word kind ∷ name ∷ []) ≡ Some (choice kind name)
unfolding form_of name_in
choice_back Elect name named = rw named refl
choice_back Tickets name named = rw named refl

pub last_back : form_of (codes "end" ∷ []) ≡ Some last
unfolding form_of
last_back = refl

pub complete_back : form_of (codes "complete" ∷ codes "remote" ∷ []) ≡ Some complete
unfolding form_of complete_in
complete_back = refl

none_empty : (ws : List (List ℕ)) → AllByRecursion (λ w. is_empty w ≡ false) ws → list_any is_empty ws ≡ false
none_empty [] h = refl
none_empty (w ∷ ws) h = rw (h.0, none_empty ws h.1) refl

pub group_back : (name member : List ℕ) (members : List (List ℕ)) → is_name name ≡ true
    → AllByRecursion (λ w. is_empty w ≡ false) (member ∷ members)
    → form_of (codes "group" ∷ name ∷ member ∷ members) ≡ Some (group name (member ∷ members))
unfolding form_of group_in
group_back name member members named full = rw (named, none_empty (member ∷ members) full) refl

-- ---- steps
-- a step's words have what its kind takes, spelled so
abbrev pub RootFull : Option (List ℕ) → Type 0
RootFull None = Unit {0}
RootFull (Some w) = is_empty w ≡ false

abbrev pub NamesFull : Option (List ℕ × List ℕ) → Type 0
NamesFull None = Unit {0}
NamesFull (Some n) = (is_name n.0 ≡ true) × (is_name n.1 ≡ true)

pub record IsSpelled (w : StepWords) : Type 0 where
  pub root : is_some w.root ≡ takes_root w.kind
  pub op : takes_op w.kind ≡ false → w.op ≡ ops.Sum
  pub names : is_some w.names ≡ takes_buffers w.kind
  pub full : RootFull w.root
  pub named : NamesFull w.names

root_back : (due : Bool) (root : Option (List ℕ)) (ws : List (List ℕ)) → is_some root ≡ due → RootFull root
    → root_in due (word_there root ++ ws) ≡ Some (root, ws)
unfolding root_in
root_back true None ws e f = cc
root_back false None ws e f = refl
root_back true (Some w) ws e f = rw f refl
root_back false (Some w) ws e f = cc

ops_back : (due : Bool) (op : AtomicOp) (ws : List (List ℕ)) → (due ≡ false → op ≡ ops.Sum)
    → op_in due (op_there due op ++ ws) ≡ Some (op, ws)
unfolding op_in
ops_back true op ws h = rw (op_back op) refl
ops_back false op ws h = ap (λ (o : AtomicOp). Some (o, ws)) (sym (h refl))

names_back : (due : Bool) (names : Option (List ℕ × List ℕ)) → is_some names ≡ due → NamesFull names
    → names_in due (names_there names) ≡ Some names
unfolding names_in
names_back true None e f = cc
names_back false None e f = refl
names_back true (Some n) e f = rw (f.0, f.1) refl
names_back false (Some n) e f = cc

pub step_back : (w : StepWords) → IsSpelled w
    → step_in (kind_word w.kind) (word_there w.root ++ (op_there (takes_op w.kind) w.op ++ names_there w.names)) ≡ Some w
unfolding step_in
step_back w h =
    rw (
      kind_back w.kind,
      root_back (takes_root w.kind) w.root (op_there (takes_op w.kind) w.op ++ names_there w.names) h.root h.full,
      ops_back (takes_op w.kind) w.op (names_there w.names) h.op,
      names_back (takes_buffers w.kind) w.names h.names h.named,
    ) refl

-- the word of a kind is none of the other first words of lines
apart : (k : StepKind) (word : List ℕ) → list_all (λ k. not (bytes_eq (kind_word k) word)) all_kinds ≡ true
    → bytes_eq (kind_word k) word ≡ false
apart k word h = of (bytes_eq (kind_word k) word) (every_kind (λ k. not (bytes_eq (kind_word k) word)) h k)
  where
    of : (b : Bool) → not b ≡ true → b ≡ false
    of true e = cc
    of false e = refl

plain_back : (k : StepKind) (ws : List (List ℕ)) → form_of (kind_word k ∷ ws) ≡ option_map (step None) (step_in (kind_word k) ws)
unfolding form_of
plain_back k ws =
    rw (
      apart k (codes "complete") refl,
      apart k (codes "group") refl,
      apart k (codes "input") refl,
      apart k (codes "on") refl,
      apart k (codes "elect") refl,
      apart k (codes "tickets") refl,
      apart k (codes "print") refl,
      apart k (codes "end") refl,
    ) refl

-- a group that is named
abbrev pub NameFull : Option (List ℕ) → Type 0
NameFull None = Unit {0}
NameFull (Some name) = is_name name ≡ true

pub step_form_back : (on : Option (List ℕ)) (w : StepWords) → IsSpelled w → NameFull on
    → form_of (on_there on ++ said_words w) ≡ Some (step on w)
unfolding form_of on_in
step_form_back None w h n =
    plain_back w.kind (word_there w.root ++ (op_there (takes_op w.kind) w.op ++ names_there w.names))
    ∙ ap (option_map (step None)) (step_back w h)
step_form_back (Some name) w h n = rw (n, step_back w h) refl
