-- Words after others, as they are written one after the other.
use Rattle.std.proofs.Common.{◌≡◌, ℕ, List, [], ◌∷◌, ◌++◌, length, map, take, get_or, Option, Some, None, refl, sym, ap, ◌∙◌, arith, codes}
use Rattle.std.proofs.Common.{append_assoc}
use Rattle.std.specs.List.{flat_map, join_with_byte}
use Rattle.std.specs.Fmt.{decimal}
use Rattle.std.proofs.lemmas.List.{append-nil}
use Rattle.std.proofs.lemmas.Grind.{flat_map-append}
use Rattle.coll_text.specs.Text.{line}
use Rattle.coll_text.proofs.Writes.{join_spaced}
use Rattle.coll_shape.specs.declared.types.Buffer.{Buffer}
use Rattle.coll_shape.specs.declared.types.Group.{Group}
use Rattle.coll_shape.specs.declared.types.CollStep.{CollStep}
use Rattle.coll_shape.specs.Outline.{no_group}
use Rattle.coll_shape.proofs.ByCollective.{has_kind}
use Rattle.coll_shape.specs.Collectives.{kind_of, kind_word}
use Rattle.coll_shape.specs.Collectives.{root_of, op_of, source_of, result_of}
use Rattle.coll_lang.specs.Words.{op_word}
use Rattle.coll_shape.specs.Rows.{joined}
use Rattle.coll_lang.specs.Program.{Program}
use Rattle.coll_lang.specs.Spaced.{spaced}
use Rattle.coll_lang.specs.Spelling.{chosen_text, group_text, groups_text, head_text, if_there, inputs_text, name_at, on_words, prints_text}
use Rattle.coll_lang.specs.Spelling.{remote_text, step_words, steps_text, text}

pub one_word : (out w : List ℕ) → out ++ 32 ∷ w ≡ out ++ spaced (w ∷ [])
one_word out w = ap (λ (x : List ℕ). out ++ x) (sym (append-nil (32 ∷ w)))

pub no_word : (out : List ℕ) → out ≡ out ++ spaced []
no_word out = sym (append-nil out)

numbers_spaced : (ms : List ℕ) → flat_map (λ r. 32 ∷ decimal r) ms ≡ spaced (map decimal ms)
numbers_spaced [] = refl
numbers_spaced (m ∷ ms) = ap (λ (x : List ℕ). (32 ∷ decimal m) ++ x) (numbers_spaced ms)

four : (o a b c d : List ℕ) → (((o ++ a) ++ b) ++ c) ++ d ≡ o ++ ((a ++ (b ++ c)) ++ d)
four o a b c d = simp append_assoc

pub group_line : (out : List ℕ) (g : Group)
    → (((out ++ codes "group") ++ (32 ∷ g.name)) ++ flat_map (λ r. 32 ∷ decimal r) g.members) ++ 10 ∷ [] ≡ out ++ group_text g
group_line out g =
    four out (codes "group") (32 ∷ g.name) (flat_map (λ r. 32 ∷ decimal r) g.members) (10 ∷ [])
    ∙ ap (λ (x : List ℕ). out ++ ((codes "group" ++ ((32 ∷ g.name) ++ x)) ++ 10 ∷ [])) (numbers_spaced g.members)
    ∙ ap (λ (x : List ℕ). out ++ (x ++ 10 ∷ [])) (sym (join_spaced (codes "group") (g.name ∷ map decimal g.members)))

three : (o a b c : List ℕ) → ((o ++ a) ++ b) ++ c ≡ o ++ (a ++ (b ++ c))
three o a b c = simp append_assoc

pub first_words : (out : List ℕ) (groups : List Group) (i : ℕ) (word : List ℕ)
    → ((out ++ codes "on") ++ (32 ∷ (get_or groups i no_group).name)) ++ (32 ∷ word)
    ≡ out ++ join_with_byte 32 (on_words groups (Some i) ++ word ∷ [])
first_words out groups i word =
    three out (codes "on") (32 ∷ (get_or groups i no_group).name) (32 ∷ word)
    ∙ ap (λ (x : List ℕ). out ++ (codes "on" ++ ((32 ∷ (get_or groups i no_group).name) ++ x))) (sym (append-nil (32 ∷ word)))
    ∙ ap (λ (x : List ℕ). out ++ x) (sym (join_spaced (codes "on") ((get_or groups i no_group).name ∷ word ∷ [])))

-- more words after a line's first ones
join_more : (w : List ℕ) (ws zs : List (List ℕ)) → join_with_byte 32 (w ∷ (ws ++ zs)) ≡ join_with_byte 32 (w ∷ ws) ++ spaced zs
join_more w ws zs =
    join_spaced w (ws ++ zs)
    ∙ ap (λ (x : List ℕ). w ++ x) (flat_map-append (λ w. 32 ∷ w) ws zs)
    ∙ (sym (append_assoc w (spaced ws) (spaced zs)) ∙ ap (λ (x : List ℕ). x ++ spaced zs) (sym (join_spaced w ws)))

first_more : (groups : List Group) (on : Option ℕ) (word : List ℕ) (zs : List (List ℕ))
    → join_with_byte 32 (on_words groups on ++ (word ∷ zs)) ≡ join_with_byte 32 (on_words groups on ++ word ∷ []) ++ spaced zs
first_more groups None word zs = join_more word [] zs
first_more groups (Some i) word zs = join_more (codes "on") ((get_or groups i no_group).name ∷ word ∷ []) zs

five : (o f r p a b : List ℕ) → ((((((o ++ f) ++ r) ++ p) ++ a) ++ b) ++ 10 ∷ []) ≡ o ++ ((f ++ (r ++ (p ++ (a ++ b)))) ++ 10 ∷ [])
five o f r p a b = simp append_assoc

pub step_line : (out : List ℕ) (groups : List Group) (bs : List Buffer) (s : CollStep) (on : Option ℕ)
    → ((((((out ++ join_with_byte 32 (on_words groups on ++ kind_word (kind_of s) ∷ [])) ++ spaced (if_there decimal (root_of s)))
    ++ spaced (if_there op_word (op_of s))) ++ spaced (if_there (name_at bs) (source_of s)))
    ++ spaced (if_there (name_at bs) (result_of s))) ++ 10 ∷ [])
    ≡ out ++ line (on_words groups on ++ step_words bs s)
unfolding step_words
step_line out groups bs s on =
    let r = if_there decimal (root_of s) in
    let o = if_there op_word (op_of s) in
    let a = if_there (name_at bs) (source_of s) in
    let b = if_there (name_at bs) (result_of s) in
    five out (join_with_byte 32 (on_words groups on ++ kind_word (kind_of s) ∷ [])) (spaced r) (spaced o) (spaced a) (spaced b)
    ∙ ap (λ (x : List ℕ). out
    ++ ((join_with_byte 32 (on_words groups on ++ kind_word (kind_of s) ∷ []) ++ (spaced r ++ (spaced o ++ x))) ++ 10 ∷ []))
    (sym (flat_map-append (λ w. 32 ∷ w) a b))
    ∙ ap (λ (x : List ℕ). out ++ ((join_with_byte 32 (on_words groups on ++ kind_word (kind_of s) ∷ []) ++ (spaced r ++ x)) ++ 10 ∷ []))
    (sym (flat_map-append (λ w. 32 ∷ w) o (a ++ b)))
    ∙ ap (λ (x : List ℕ). out ++ ((join_with_byte 32 (on_words groups on ++ kind_word (kind_of s) ∷ []) ++ x) ++ 10 ∷ []))
    (sym (flat_map-append (λ w. 32 ∷ w) r (o ++ (a ++ b))))
    ∙ ap (λ (x : List ℕ). out ++ (x ++ 10 ∷ [])) (sym (first_more groups on (kind_word (kind_of s)) (r ++ (o ++ (a ++ b)))))
    ∙ ap (λ (w : List ℕ). out ++ line (on_words groups on ++ w ∷ (r ++ (o ++ (a ++ b))))) (sym (has_kind s).word)

-- all parts after what stands there
pub all_parts : (o h m g i s p c e : List ℕ)
    → ((((o ++ (h ++ (m ++ (g ++ i)))) ++ s) ++ p) ++ c) ++ e ≡ o ++ (h ++ (m ++ (g ++ (i ++ (s ++ (p ++ (c ++ e)))))))
all_parts o h m g i s p c e = simp append_assoc

pub first_parts : (o h m g i : List ℕ) → (((o ++ h) ++ m) ++ g) ++ i ≡ o ++ (h ++ (m ++ (g ++ i)))
first_parts o h m g i = simp append_assoc

-- no step is written without what tells its group
pub no_more_groups : (groups : List Group) (bs : List Buffer) (ss : List CollStep) (ons : List (Option ℕ)) → length ons ≡ 0
    → steps_text groups bs ss ons ≡ []
no_more_groups groups bs [] ons e = refl
no_more_groups groups bs (s ∷ ss) [] e = refl
no_more_groups groups bs (s ∷ ss) (on ∷ ons) e = absurd (omega (arith, e))

pub written : (out : List ℕ) (d : Program)
    → ((((out ++ (head_text d.shape.version d.shape.ranks
    ++ (remote_text d.shape.remote
    ++ (groups_text d.shape.groups ++ inputs_text d.shape.ranks (take d.shape.inputs d.shape.buffers) (joined d.inputs)))))
    ++ steps_text d.shape.groups d.shape.buffers d.shape.steps d.shape.on) ++ prints_text (name_at d.shape.buffers) d.shape.prints)
    ++ chosen_text d.choices) ++ line (codes "end" ∷ [])
    ≡ out ++ text d
unfolding text
written out d =
    all_parts out (head_text d.shape.version d.shape.ranks) (remote_text d.shape.remote) (groups_text d.shape.groups)
    (inputs_text d.shape.ranks (take d.shape.inputs d.shape.buffers) (joined d.inputs))
    (steps_text d.shape.groups d.shape.buffers d.shape.steps d.shape.on) (prints_text (name_at d.shape.buffers) d.shape.prints)
    (chosen_text d.choices) (line (codes "end" ∷ []))
