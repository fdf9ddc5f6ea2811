-- The words of a step, by its kind.
use Rattle.std.proofs.Common.{◌≡◌, ℕ, ◌<◌, ◌^◌, List, [], ◌∷◌, ◌++◌, Option, Some, None, Bool, true, false, cond, refl, sym, ap, ◌∙◌}
use Rattle.std.specs.Prelude.{is_some}
use Rattle.std.specs.Fmt.{decimal}
use Rattle.ptl_types.specs.declared.elements.AtomicOp.{AtomicOp}
use Rattle.coll_text.proofs.Spelled.{number_spelled}
use Rattle.coll_shape.specs.declared.types.Buffer.{Buffer}
use Rattle.coll_shape.specs.Collectives.{kind_word, step_of, takes_buffers, takes_op, takes_root}
use Rattle.coll_shape.proofs.ByCollective.{of_kind}
use Rattle.coll_lang.specs.Words.{op_word}
use Rattle.coll_lang.specs.Forms.{StepWords}
use Rattle.coll_lang.specs.Language.{root_number}
use Rattle.coll_lang.specs.Spelling.{if_there, name_at, step_words}
use Rattle.coll_lang.proofs.FormSaid.{Takes, names_there, op_there, said_words, word_there}

-- ---- words
word_is : (root : Option (List ℕ)) (due : Bool) (n : ℕ) → n < 2 ^ 64 → is_some root ≡ due → root_number root ≡ Some n
    → word_there root ≡ if_there decimal (cond due (Some n) None)
word_is None due n small e h = ap (λ b. if_there decimal (cond b (Some n) None)) e
word_is (Some w) due n small e h =
    ap (λ (x : List ℕ). x ∷ []) (number_spelled n w small h) ∙ ap (λ b. if_there decimal (cond b (Some n) None)) e

op_is : (due : Bool) (o : AtomicOp) → op_there due o ≡ if_there op_word (cond due (Some o) None)
op_is true o = refl
op_is false o = refl

names_are : (bs : List Buffer) (names : Option (List ℕ × List ℕ)) (due : Bool) (a b : ℕ) → is_some names ≡ due
    → ((n : List ℕ × List ℕ) → names ≡ Some n → (name_at bs a ≡ n.0) × (name_at bs b ≡ n.1))
    → names_there names ≡ if_there (name_at bs) (cond due (Some a) None) ++ if_there (name_at bs) (cond due (Some b) None)
names_are bs None due a b e h = ap (λ t. if_there (name_at bs) (cond t (Some a) None) ++ if_there (name_at bs) (cond t (Some b) None)) e
names_are bs (Some n) due a b e h =
    let w = h n refl in
    ap (λ (x : List ℕ). x ∷ n.1 ∷ []) (sym w.0) ∙ ap (λ (x : List ℕ). name_at bs a ∷ x ∷ []) (sym w.1)
    ∙ ap (λ t. if_there (name_at bs) (cond t (Some a) None) ++ if_there (name_at bs) (cond t (Some b) None)) e

-- the words of a step are those of its line
pub words_of_step : (bs : List Buffer) (w : StepWords) (root a b : ℕ) → Takes w → root < 2 ^ 64 → root_number w.root ≡ Some root
    → ((n : List ℕ × List ℕ) → w.names ≡ Some n → (name_at bs a ≡ n.0) × (name_at bs b ≡ n.1))
    → step_words bs (step_of w.kind root w.op a b) ≡ said_words w
unfolding step_words
words_of_step bs w root a b t small r names =
    let k = of_kind w.kind root w.op a b in
    rw (k.word, k.root, k.op, k.source, k.result)
    (ap (λ (x : List (List ℕ)). kind_word w.kind
    ∷ (x ++ (if_there op_word (cond (takes_op w.kind) (Some w.op) None)
    ++ (if_there (name_at bs) (cond (takes_buffers w.kind) (Some a) None)
    ++ if_there (name_at bs) (cond (takes_buffers w.kind) (Some b) None))))) (sym (word_is w.root (takes_root w.kind) root small t.root r))
    ∙ ap (λ (x : List (List ℕ)). kind_word w.kind
    ∷ (word_there w.root ++ (x
    ++ (if_there (name_at bs) (cond (takes_buffers w.kind) (Some a) None)
    ++ if_there (name_at bs) (cond (takes_buffers w.kind) (Some b) None))))) (sym (op_is (takes_op w.kind) w.op))
    ∙ ap (λ (x : List (List ℕ)). kind_word w.kind ∷ (word_there w.root ++ (op_there (takes_op w.kind) w.op ++ x)))
    (sym (names_are bs w.names (takes_buffers w.kind) a b t.names names)))
