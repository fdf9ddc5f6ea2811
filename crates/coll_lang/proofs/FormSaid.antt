-- What a line says that may stand after the first two: its words are spelled so, and its names are names.
use Rattle.std.proofs.Common.{◌≡◌, ℕ, List, [], ◌∷◌, ◌++◌, Option, Some, None, Bool, true, false, cond, ◌&&◌, not, refl, sym, ap, ◌∙◌}
use Rattle.std.proofs.Common.{codes, subst}
use Rattle.std.specs.Prelude.{is_some, option_map}
use Rattle.std.specs.List.{list_any}
use Rattle.std.specs.Str.{bytes_eq}
use Rattle.ptl_types.specs.declared.elements.ElemType.{ElemType}
use Rattle.ptl_types.specs.declared.elements.ElemType.TheVariants as types
use Rattle.ptl_types.specs.declared.elements.AtomicOp.{AtomicOp}
use Rattle.ptl_types.specs.declared.elements.AtomicOp.TheVariants as ops
use Rattle.coll_text.specs.Text.{is_name, is_empty}
use Rattle.coll_text.specs.Named.{op_named, type_named}
use Rattle.coll_text.proofs.Spelled.{both, chosen, mapped, then, same}
use Rattle.coll_shape.specs.declared.collectives.StepKind.{StepKind}
use Rattle.coll_shape.specs.Collectives.{all_kinds, kind_named, kind_word, named_among, takes_buffers, takes_op, takes_root}
use Rattle.coll_lang.specs.Words.{type_word, op_word, choice_word}
use Rattle.coll_lang.specs.Forms.{Form, StepWords, complete, group, input, step, choice, print, last, op_in, root_in}
use Rattle.coll_lang.specs.Forms.{names_in, step_in, on_in, group_in, input_in, name_in, complete_in, alone, form_of}
use Rattle.coll_lang.specs.declared.choices.ChoiceKind.TheVariants.{Elect, Tickets}

-- the words of a form
abbrev pub word_there : Option (List ℕ) → List (List ℕ)
word_there None = []
word_there (Some word) = word ∷ []

abbrev pub op_there : Bool → AtomicOp → List (List ℕ)
op_there true op = op_word op ∷ []
op_there false op = []

abbrev pub names_there : Option (List ℕ × List ℕ) → List (List ℕ)
names_there None = []
names_there (Some n) = n.0 ∷ n.1 ∷ []

abbrev pub said_words : StepWords → List (List ℕ)
said_words w = kind_word w.kind ∷ (word_there w.root ++ (op_there (takes_op w.kind) w.op ++ names_there w.names))

abbrev pub on_there : Option (List ℕ) → List (List ℕ)
on_there None = []
on_there (Some name) = codes "on" ∷ name ∷ []

abbrev pub form_words : Form → List (List ℕ)
form_words complete = codes "complete" ∷ codes "remote" ∷ []
form_words (group name members) = codes "group" ∷ name ∷ members
form_words (input name ty count) = codes "input" ∷ name ∷ type_word ty ∷ count ∷ []
form_words (step on w) = on_there on ++ said_words w
form_words (choice kind name) = choice_word kind ∷ name ∷ []
form_words (print name) = codes "print" ∷ name ∷ []
form_words last = codes "end" ∷ []

abbrev pub SecondNamed : Option (List ℕ × List ℕ) → Type 0
SecondNamed None = Unit {0}
SecondNamed (Some n) = is_name n.1 ≡ true

-- a step has what its kind takes, and a new name that is one
pub record Takes (w : StepWords) : Type 0 where
  pub root : is_some w.root ≡ takes_root w.kind
  pub op : takes_op w.kind ≡ false → w.op ≡ ops.Sum
  pub names : is_some w.names ≡ takes_buffers w.kind
  pub named : SecondNamed w.names

-- a new name is one
abbrev pub Fits : Form → Type 0
Fits complete = Unit {0}
Fits (group name members) = is_name name ≡ true
Fits (input name ty count) = is_name name ≡ true
Fits (step on w) = Takes w
Fits (choice kind name) = is_name name ≡ true
Fits (print name) = Unit {0}
Fits last = Unit {0}

pub record FormSaid (ws : List (List ℕ)) (f : Form) : Type 0 where
  pub spelled : ws ≡ form_words f
  pub fits : Fits f

some_is : {T : Type 0} (a b : T) → Some a ≡ Some b → a ≡ b
some_is a b e = cc

-- one link of a chain of keywords
link : {T : Type 0} (P : T → Type 0) (b : Bool) (t : T) (o : Option T) (x : T) → cond b (Some t) o ≡ Some x → (b ≡ true → P t)
    → (o ≡ Some x → P x) → P x
link P true t o x h first others = subst P (some_is t x h) (first refl)
  where
    some_is : {T : Type 0} (a b : T) → Some a ≡ Some b → a ≡ b
    some_is a b e = cc
link P false t o x h first others = others h

type_spelled : (w : List ℕ) (t : ElemType) → type_named w ≡ Some t → w ≡ type_word t
type_spelled w t h =
    let P : ElemType → Type 0 = λ t. w ≡ type_word t in
    link P (bytes_eq w (codes "u8")) types.U8 _ t h (same w (codes "u8")) (λ h1.
    link P (bytes_eq w (codes "i8")) types.I8 _ t h1 (same w (codes "i8")) (λ h2.
    link P (bytes_eq w (codes "u16")) types.U16 _ t h2 (same w (codes "u16")) (λ h3.
    link P (bytes_eq w (codes "i16")) types.I16 _ t h3 (same w (codes "i16")) (λ h4.
    link P (bytes_eq w (codes "u32")) types.U32 _ t h4 (same w (codes "u32")) (λ h5.
    link P (bytes_eq w (codes "i32")) types.I32 _ t h5 (same w (codes "i32")) (λ h6.
    link P (bytes_eq w (codes "u64")) types.U64 _ t h6 (same w (codes "u64")) (λ h7.
    link P (bytes_eq w (codes "i64")) types.I64 None t h7 (same w (codes "i64")) (λ h8. absurd (never t h8)))))))))
  where
    never : (t : ElemType) → None ≡ Some t → ⊥
    never t h = cc

op_spelled : (w : List ℕ) (t : AtomicOp) → op_named w ≡ Some t → w ≡ op_word t
op_spelled w t h =
    let P : AtomicOp → Type 0 = λ t. w ≡ op_word t in
    link P (bytes_eq w (codes "min")) ops.Min _ t h (same w (codes "min")) (λ h1.
    link P (bytes_eq w (codes "max")) ops.Max _ t h1 (same w (codes "max")) (λ h2.
    link P (bytes_eq w (codes "sum")) ops.Sum _ t h2 (same w (codes "sum")) (λ h3.
    link P (bytes_eq w (codes "prod")) ops.Prod _ t h3 (same w (codes "prod")) (λ h4.
    link P (bytes_eq w (codes "lor")) ops.Lor _ t h4 (same w (codes "lor")) (λ h5.
    link P (bytes_eq w (codes "land")) ops.Land _ t h5 (same w (codes "land")) (λ h6.
    link P (bytes_eq w (codes "bor")) ops.Bor _ t h6 (same w (codes "bor")) (λ h7.
    link P (bytes_eq w (codes "band")) ops.Band _ t h7 (same w (codes "band")) (λ h8.
    link P (bytes_eq w (codes "lxor")) ops.Lxor _ t h8 (same w (codes "lxor")) (λ h9.
    link P (bytes_eq w (codes "bxor")) ops.Bxor None t h9 (same w (codes "bxor")) (λ h10. absurd (never t h10)))))))))))
  where
    never : (t : AtomicOp) → None ≡ Some t → ⊥
    never t h = cc

alone_said : (key word : List ℕ) (form f : Form) (ws : List (List ℕ)) → word ∷ [] ≡ form_words form → Fits form → key ≡ word
    → alone form ws ≡ Some f → FormSaid (key ∷ ws) f
alone_said key word form f [] spelled fits e h =
    subst (λ f. FormSaid (key ∷ []) f) (some_is form f h) (record { spelled = ap (λ (x : List ℕ). x ∷ []) e ∙ spelled; fits = fits })
alone_said key word form f (w ∷ ws) spelled fits e h = cc

complete_said : (key : List ℕ) (ws : List (List ℕ)) (f : Form) → key ≡ codes "complete" → complete_in ws ≡ Some f → FormSaid (key ∷ ws) f
unfolding complete_in
complete_said key [] f e h = cc
complete_said key (w ∷ []) f e h =
    let p = chosen (bytes_eq w (codes "remote")) (Some complete) f h in
    subst (λ f. FormSaid (key ∷ w ∷ []) f) (some_is complete f p.1) (record {
      spelled = ap (λ (x : List ℕ). x ∷ w ∷ []) e ∙ ap (λ (x : List ℕ). codes "complete" ∷ x ∷ []) (same w (codes "remote") p.0);
      fits = tt;
    })
complete_said key (w ∷ v ∷ ws) f e h = cc

input_said : (key : List ℕ) (ws : List (List ℕ)) (f : Form) → key ≡ codes "input" → input_in ws ≡ Some f → FormSaid (key ∷ ws) f
unfolding input_in
input_said key [] f e h = cc
input_said key (name ∷ []) f e h = cc
input_said key (name ∷ ty ∷ []) f e h = cc
input_said key (name ∷ ty ∷ count ∷ []) f e h =
    let p = chosen (is_name name && not (is_empty count)) (option_map (λ t. input name t count) (type_named ty)) f h in
    let m = mapped (λ t. input name t count) (type_named ty) f p.1 in
    let q = both (is_name name) (not (is_empty count)) p.0 in
    subst (λ f. FormSaid (key ∷ name ∷ ty ∷ count ∷ []) f) m.2 (record {
      spelled = ap (λ (x : List ℕ). x ∷ name ∷ ty ∷ count ∷ []) e
          ∙ ap (λ (x : List ℕ). codes "input" ∷ name ∷ x ∷ count ∷ []) (type_spelled ty m.0 m.1);
      fits = q.0;
    })
input_said key (name ∷ ty ∷ count ∷ w ∷ ws) f e h = cc

name_said : (make : List ℕ → Form) (key word : List ℕ) (ws : List (List ℕ)) (f : Form)
    → ((name : List ℕ) → form_words (make name) ≡ word ∷ name ∷ []) → ((name : List ℕ) → is_name name ≡ true → Fits (make name))
    → key ≡ word
    → name_in make ws ≡ Some f → FormSaid (key ∷ ws) f
unfolding name_in
name_said make key word [] f spelled fits e h = cc
name_said make key word (w ∷ []) f spelled fits e h =
    let p = chosen (is_name w) (Some (make w)) f h in
    subst (λ f. FormSaid (key ∷ w ∷ []) f) (some_is (make w) f p.1)
    (record { spelled = ap (λ (x : List ℕ). x ∷ w ∷ []) e ∙ sym (spelled w); fits = fits w p.0 })
name_said make key word (w ∷ v ∷ ws) f spelled fits e h = cc

group_said : (key : List ℕ) (ws : List (List ℕ)) (f : Form) → key ≡ codes "group" → group_in ws ≡ Some f → FormSaid (key ∷ ws) f
unfolding group_in
group_said key [] f e h = cc
group_said key (name ∷ []) f e h = cc
group_said key (name ∷ member ∷ members) f e h =
    let p = chosen (is_name name && not (list_any is_empty (member ∷ members))) (Some (group name (member ∷ members))) f h in
    let q = both (is_name name) (not (list_any is_empty (member ∷ members))) p.0 in
    subst (λ f. FormSaid (key ∷ name ∷ member ∷ members) f) (some_is (group name (member ∷ members)) f p.1)
    (record { spelled = ap (λ (x : List ℕ). x ∷ name ∷ member ∷ members) e; fits = q.0 })

record NamesSaid (due : Bool) (ws : List (List ℕ)) (n : Option (List ℕ × List ℕ)) : Type 0 where
  spelled : ws ≡ names_there n
  there : is_some n ≡ due
  named : SecondNamed n

names_said : (due : Bool) (ws : List (List ℕ)) (n : Option (List ℕ × List ℕ)) → names_in due ws ≡ Some n → NamesSaid due ws n
unfolding names_in
names_said false [] n h = subst (λ n. NamesSaid false [] n) (some_is None n h) (record { spelled = refl; there = refl; named = tt })
names_said false (w ∷ ws) n h = cc
names_said true [] n h = cc
names_said true (a ∷ []) n h = cc
names_said true (a ∷ b ∷ []) n h =
    let p = chosen (is_name a && is_name b) (Some (Some (a, b))) n h in
    subst (λ n. NamesSaid true (a ∷ b ∷ []) n) (some_is (Some (a, b)) n p.1)
    (record { spelled = refl; there = refl; named = (both (is_name a) (is_name b) p.0).1 })
names_said true (a ∷ b ∷ w ∷ ws) n h = cc

record OpSaid (due : Bool) (ws : List (List ℕ)) (o : AtomicOp × List (List ℕ)) : Type 0 where
  spelled : ws ≡ op_there due o.0 ++ o.1
  none : due ≡ false → o.0 ≡ ops.Sum

op_said : (due : Bool) (ws : List (List ℕ)) (o : AtomicOp × List (List ℕ)) → op_in due ws ≡ Some o → OpSaid due ws o
unfolding op_in
op_said false ws o h =
    subst (λ (o : AtomicOp × List (List ℕ)). OpSaid false ws o) (some_is (ops.Sum, ws) o h) (record { spelled = refl; none = λ e. refl })
op_said true [] o h = cc
op_said true (w ∷ ws) o h =
    let m = mapped (λ op. (op, ws)) (op_named w) o h in
    record {
      spelled = ap (λ x. x ∷ ws) (op_spelled w m.0 m.1) ∙ ap (λ (o : AtomicOp × List (List ℕ)). op_word o.0 ∷ o.1) m.2;
      none = λ e. cc;
    }

record RootSaid (due : Bool) (ws : List (List ℕ)) (r : Option (List ℕ) × List (List ℕ)) : Type 0 where
  spelled : ws ≡ word_there r.0 ++ r.1
  there : is_some r.0 ≡ due

root_said : (due : Bool) (ws : List (List ℕ)) (r : Option (List ℕ) × List (List ℕ)) → root_in due ws ≡ Some r → RootSaid due ws r
unfolding root_in
root_said false ws r h =
    subst (λ (r : Option (List ℕ) × List (List ℕ)). RootSaid false ws r) (some_is (None, ws) r h) (record { spelled = refl; there = refl })
root_said true [] r h = cc
root_said true (w ∷ ws) r h = full (is_empty w) h
  where
    full : (e : Bool) → cond e None (Some (Some w, ws)) ≡ Some r → RootSaid true (w ∷ ws) r
    full true h = cc
    full false h = subst (λ (r : Option (List ℕ) × List (List ℕ)). RootSaid true (w ∷ ws) r) (some_is (Some w, ws) r h)
        (record { spelled = refl; there = refl })

kind_among : (word : List ℕ) (ks : List StepKind) (k : StepKind) → named_among word ks ≡ Some k → word ≡ kind_word k
kind_among word [] k h = cc
kind_among word (x ∷ xs) k h =
    let P : StepKind → Type 0 = λ k. word ≡ kind_word k in
    link P (bytes_eq word (kind_word x)) x (named_among word xs) k h (same word (kind_word x)) (kind_among word xs k)

record WordsSaid (ws : List (List ℕ)) (w : StepWords) : Type 0 where
  spelled : ws ≡ said_words w
  takes : Takes w

step_said : (key : List ℕ) (ws : List (List ℕ)) (w : StepWords) → step_in key ws ≡ Some w → WordsSaid (key ∷ ws) w
unfolding step_in
step_said key ws w h =
    let k = then _ (kind_named key) w h in
    let r = then _ (root_in (takes_root k.0) ws) w k.2 in
    let o = then _ (op_in (takes_op k.0) r.0.1) w r.2 in
    let n = then _ (names_in (takes_buffers k.0) o.0.1) w o.2 in
    let root = root_said (takes_root k.0) ws r.0 r.1 in
    let op = op_said (takes_op k.0) r.0.1 o.0 o.1 in
    let names = names_said (takes_buffers k.0) o.0.1 n.0 n.1 in
    subst (λ w. WordsSaid (key ∷ ws) w) (some_is (record { kind = k.0; root = r.0.0; op = o.0.0; names = n.0 }) w n.2) (record {
      spelled = ap (λ (x : List ℕ). x ∷ ws) (kind_among key all_kinds k.0 k.1)
          ∙ ap (λ (x : List (List ℕ)). kind_word k.0 ∷ x)
          (root.spelled ∙ ap (λ (x : List (List ℕ)). word_there r.0.0 ++ x) (op.spelled
          ∙ ap (λ (x : List (List ℕ)). op_there (takes_op k.0) o.0.0 ++ x) names.spelled));
      takes = record { root = root.there; op = op.none; names = names.there; named = names.named };
    })

plain_said : (key : List ℕ) (ws : List (List ℕ)) (f : Form) → option_map (step None) (step_in key ws) ≡ Some f → FormSaid (key ∷ ws) f
plain_said key ws f h =
    let m = mapped (step None) (step_in key ws) f h in
    let s = step_said key ws m.0 m.1 in
    subst (λ f. FormSaid (key ∷ ws) f) m.2 (record { spelled = s.spelled; fits = s.takes })

on_said : (key : List ℕ) (ws : List (List ℕ)) (f : Form) → key ≡ codes "on" → on_in ws ≡ Some f → FormSaid (key ∷ ws) f
unfolding on_in
on_said key [] f e h = cc
on_said key (name ∷ []) f e h = cc
on_said key (name ∷ first ∷ ws) f e h =
    let p = chosen (is_name name) (option_map (step (Some name)) (step_in first ws)) f h in
    let m = mapped (step (Some name)) (step_in first ws) f p.1 in
    let s = step_said first ws m.0 m.1 in
    subst (λ f. FormSaid (key ∷ name ∷ first ∷ ws) f) m.2
    (record {
      spelled = ap (λ (x : List ℕ). x ∷ name ∷ first ∷ ws) e ∙ ap (λ (x : List (List ℕ)). codes "on" ∷ name ∷ x) s.spelled;
      fits = s.takes;
    })

form_link : (ws : List (List ℕ)) (b : Bool) (now later : Option Form) (f : Form) → cond b now later ≡ Some f
    → (b ≡ true → now ≡ Some f → FormSaid ws f) → (later ≡ Some f → FormSaid ws f) → FormSaid ws f
form_link ws true now later f h first others = first refl h
form_link ws false now later f h first others = others h

pub form_said : (ws : List (List ℕ)) (f : Form) → form_of ws ≡ Some f → FormSaid ws f
unfolding form_of
form_said [] f h = cc
form_said (key ∷ ws) f h =
    form_link (key ∷ ws) (bytes_eq key (codes "complete")) (complete_in ws) _ f h
    (λ e g. complete_said key ws f (same key (codes "complete") e) g) (λ h1.
    form_link (key ∷ ws) (bytes_eq key (codes "group")) (group_in ws) _ f h1 (λ e g. group_said key ws f (same key (codes "group") e) g)
    (λ h2.
    form_link (key ∷ ws) (bytes_eq key (codes "input")) (input_in ws) _ f h2 (λ e g. input_said key ws f (same key (codes "input") e) g)
    (λ h3.
    form_link (key ∷ ws) (bytes_eq key (codes "on")) (on_in ws) _ f h3 (λ e g. on_said key ws f (same key (codes "on") e) g) (λ h4.
    form_link (key ∷ ws) (bytes_eq key (codes "elect")) (name_in (choice Elect) ws) _ f h4
    (λ e g. name_said (choice Elect) key (codes "elect") ws f (λ name. refl) (λ name n. n) (same key (codes "elect") e) g) (λ h5.
    form_link (key ∷ ws) (bytes_eq key (codes "tickets")) (name_in (choice Tickets) ws) _ f h5
    (λ e g. name_said (choice Tickets) key (codes "tickets") ws f (λ name. refl) (λ name n. n) (same key (codes "tickets") e) g) (λ h6.
    form_link (key ∷ ws) (bytes_eq key (codes "print")) (name_in print ws) _ f h6
    (λ e g. name_said print key (codes "print") ws f (λ name. refl) (λ name n. tt) (same key (codes "print") e) g) (λ h7.
    form_link (key ∷ ws) (bytes_eq key (codes "end")) (alone last ws) (option_map (step None) (step_in key ws)) f h7
    (λ e g. alone_said key (codes "end") last f ws refl tt (same key (codes "end") e) g) (λ h8.
    plain_said key ws f h8))))))))
