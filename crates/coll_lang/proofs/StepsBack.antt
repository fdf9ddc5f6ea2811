-- The line of a step is read as the step that it was written of.
use Rattle.std.proofs.Common.{◌≡◌, ℕ, ◌<◌, ◌^◌, List, [], ◌∷◌, ◌++◌, length, Option, Some, None, Ok, true, false, ◌&&◌, refl}
use Rattle.std.proofs.Common.{sym, ap, ◌∙◌}
use Rattle.std.specs.Prelude.{nat_lt, nat_le, is_some}
use Rattle.std.specs.Fmt.{decimal}
use Rattle.ptl_types.specs.declared.elements.AtomicOp.{AtomicOp}
use Rattle.ptl_types.specs.declared.elements.AtomicOp.TheVariants as ops
use Rattle.coll_text.specs.Text.{is_name}
use Rattle.coll_text.proofs.ReadBack.{number_read}
use Rattle.coll_shape.specs.declared.types.Buffer.{Buffer}
use Rattle.coll_shape.specs.declared.types.CollStep.{CollStep}
use Rattle.coll_shape.specs.Collectives.{kind_of, kind_word, step_of, takes_op}
use Rattle.coll_shape.proofs.ByCollective.{has_kind, oper_of, or_else}
use Rattle.coll_shape.specs.Collectives.{IsPlace, can_read, made_length, op_of, result_of, root_of, source_of}
use Rattle.coll_shape.specs.declared.limits.TheConstants.{MOST_BUFFERS, MOST_STEPS, MOST_ELEMENTS}
use Rattle.coll_lang.specs.Forms.{StepWords, step}
use Rattle.coll_lang.specs.Language.{Past, form_line, step_line, rooted_line, step_on, root_number, source_named, group_named, members_in}
use Rattle.coll_lang.specs.Language.{with_made}
use Rattle.coll_lang.specs.Words.{op_word}
use Rattle.coll_lang.specs.Spelling.{if_there, name_at, step_words}
use Rattle.coll_lang.specs.declared.stage.Stage.TheVariants.{Steps}
use Rattle.coll_lang.proofs.FormSaid.{names_there, op_there, said_words, word_there}
use Rattle.coll_lang.proofs.FormsBack.{IsSpelled, NamesFull, RootFull, number_full}
use Rattle.coll_lang.proofs.Leaders.{isnt_full}

-- ---- its words
abbrev pub if_word : Option ℕ → Option (List ℕ)
if_word None = None
if_word (Some r) = Some (decimal r)

abbrev pub pair_of : List Buffer → Option ℕ → Option ℕ → Option (List ℕ × List ℕ)
pair_of bs None r = None
pair_of bs (Some a) None = None
pair_of bs (Some a) (Some b) = Some (name_at bs a, name_at bs b)

abbrev pub words_of : List Buffer → CollStep → StepWords
words_of bs s = record { kind = kind_of s; root = if_word (root_of s); op = oper_of s; names = pair_of bs (source_of s) (result_of s) }

root_words : (o : Option ℕ) → if_there decimal o ≡ word_there (if_word o)
root_words None = refl
root_words (Some r) = refl

op_words : (o : Option AtomicOp) → if_there op_word o ≡ op_there (is_some o) (or_else ops.Sum o)
op_words None = refl
op_words (Some o) = refl

-- A and B are both there, or none of them
abbrev pub Both : Option ℕ → Option ℕ → Type 0
Both a b = is_some a ≡ is_some b

both : (s : CollStep) → Both (source_of s) (result_of s)
both s = let k = has_kind s in k.source ∙ sym k.result

buffer_words : (bs : List Buffer) (a b : Option ℕ) → Both a b
    → if_there (name_at bs) a ++ if_there (name_at bs) b ≡ names_there (pair_of bs a b)
buffer_words bs None None e = refl
buffer_words bs None (Some b) e = cc
buffer_words bs (Some a) None e = cc
buffer_words bs (Some a) (Some b) e = refl

pub words_said : (bs : List Buffer) (s : CollStep) → step_words bs s ≡ said_words (words_of bs s)
unfolding step_words
words_said bs s =
    let k = has_kind s in
    let names = if_there (name_at bs) (source_of s) ++ if_there (name_at bs) (result_of s) in
    ap (λ (w : List ℕ). w ∷ (if_there decimal (root_of s) ++ (if_there op_word (op_of s) ++ names))) k.word
    ∙ ap (λ (x : List (List ℕ)). kind_word (kind_of s) ∷ (x ++ (if_there op_word (op_of s) ++ names))) (root_words (root_of s))
    ∙ ap (λ (x : List (List ℕ)). kind_word (kind_of s) ∷ (word_there (if_word (root_of s)) ++ (x ++ names)))
    (op_words (op_of s) ∙ ap (λ b. op_there b (oper_of s)) k.op)
    ∙ ap (λ (x : List (List ℕ)). kind_word (kind_of s)
    ∷ (word_there (if_word (root_of s)) ++ (op_there (takes_op (kind_of s)) (oper_of s) ++ x)))
    (buffer_words bs (source_of s) (result_of s) (both s))

-- they are spelled as words of a step are
root_full : (o : Option ℕ) → ((r : ℕ) → o ≡ Some r → r < 2 ^ 64) → RootFull (if_word o)
root_full None h = tt
root_full (Some r) h = number_full r (h r refl)

root_there : (o : Option ℕ) → is_some (if_word o) ≡ is_some o
root_there None = refl
root_there (Some r) = refl

no_op : (o : Option AtomicOp) → is_some o ≡ false → or_else ops.Sum o ≡ ops.Sum
no_op None e = refl
no_op (Some o) e = cc

pair_there : (bs : List Buffer) (a b : Option ℕ) → Both a b → is_some (pair_of bs a b) ≡ is_some a
pair_there bs None b e = refl
pair_there bs (Some a) None e = cc
pair_there bs (Some a) (Some b) e = refl

pair_full : (bs : List Buffer) (a b : Option ℕ) → ((i : ℕ) → a ≡ Some i → is_name (name_at bs i) ≡ true)
    → ((i : ℕ) → b ≡ Some i → is_name (name_at bs i) ≡ true) → NamesFull (pair_of bs a b)
pair_full bs None b n m = tt
pair_full bs (Some a) None n m = tt
pair_full bs (Some a) (Some b) n m = (n a refl, m b refl)

pub spelled_of : (bs : List Buffer) (s : CollStep) → ((r : ℕ) → root_of s ≡ Some r → r < 2 ^ 64)
    → ((a : ℕ) → source_of s ≡ Some a → is_name (name_at bs a) ≡ true) → ((b : ℕ) → result_of s ≡ Some b → is_name (name_at bs b) ≡ true)
    → IsSpelled (words_of bs s)
spelled_of bs s h n m =
    let k = has_kind s in
    record {
      root = root_there (root_of s) ∙ k.root;
      op = λ e. no_op (op_of s) (k.op ∙ e);
      names = pair_there bs (source_of s) (result_of s) (both s) ∙ k.source;
      full = root_full (root_of s) h;
      named = pair_full bs (source_of s) (result_of s) n m;
    }

-- ---- the tests of its line
pub root_said : (o : Option ℕ) → ((r : ℕ) → o ≡ Some r → r < 2 ^ 64) → root_number (if_word o) ≡ Some (or_else 0 o)
root_said None h = refl
root_said (Some r) h = number_read r (h r refl)

pub root_below : (n : ℕ) (o : Option ℕ) → IsPlace n o → 0 < n → nat_le n (or_else 0 o) ≡ false
root_below n None h some = isnt_full 0 n some
root_below n (Some r) h some = isnt_full r n h

pub step_taken : (past : Past) (w : StepWords) (on : Option (List ℕ)) (k : Option ℕ) (root a : ℕ) (x : Buffer)
    → root_number w.root ≡ Some root → source_named past w.names ≡ Ok (a, x) → group_named past.groups on ≡ Some k
    → nat_le (length (members_in past k)) root ≡ false
    → can_read (members_in past k) (step_of w.kind root w.op a (length past.buffers)) x ≡ true
    → nat_le MOST_STEPS (length past.steps) ≡ false
    → (is_some w.names && nat_le MOST_BUFFERS (length past.buffers)) ≡ false
    → nat_lt MOST_ELEMENTS (made_length (members_in past k) (step_of w.kind root w.op a (length past.buffers)) x) ≡ false
    → form_line past (step on w) ≡ Ok (record past {
      stage = Steps;
      buffers = with_made past.buffers (members_in past k) (step_of w.kind root w.op a (length past.buffers)) x w.names;
      steps = past.steps ++ step_of w.kind root w.op a (length past.buffers) ∷ [];
      on = past.on ++ k ∷ [];
    })
unfolding form_line step_line rooted_line step_on
step_taken past w on k root a x er es eg eb ec e64 e128 em = rw (er, es, eg, eb, ec, e64, e128, em) refl
