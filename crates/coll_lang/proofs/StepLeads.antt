-- A step's line leads to what is said after it.
use Rattle.std.proofs.Common.{◌≡◌, ℕ, ◌<◌, ◌≤◌, ◌^◌, List, [], ◌∷◌, ◌++◌, length, get_or, Option, Some, None, Ok, Bool, true, false, ◌&&◌}
use Rattle.std.proofs.Common.{refl, sym, ap, ◌∙◌, arith, codes, subst}
use Rattle.std.specs.Prelude.{nat_lt, nat_le, is_some, option_map}
use Rattle.std.specs.List.{AllByRecursion, list_all}
use Rattle.ptl_types.specs.declared.elements.AtomicOp.{AtomicOp}
use Rattle.coll_text.specs.Text.{is_name, line}
use Rattle.coll_text.proofs.WordsBack.{is_solid, number_solid}
use Rattle.coll_shape.specs.declared.collectives.StepKind.{StepKind}
use Rattle.coll_shape.specs.declared.types.Version.{Version}
use Rattle.coll_shape.specs.declared.types.Version.TheVariants.{One, Two}
use Rattle.coll_shape.specs.declared.types.Buffer.{Buffer}
use Rattle.coll_shape.specs.declared.types.Group.{Group}
use Rattle.coll_shape.specs.declared.types.CollStep.{CollStep}
use Rattle.coll_shape.specs.declared.types.CollStep.TheVariants.{Barrier}
use Rattle.coll_shape.specs.Outline.{no_buffer, no_group, buffer_at, read_buffer}
use Rattle.coll_shape.specs.Collectives.{kind_of, kind_since, kind_word, step_of, takes_op}
use Rattle.coll_shape.specs.Collectives.{IsPlace, Reads, buffer_after, can_read, made_length, named, result_of, since, source_of, root_of}
use Rattle.coll_shape.specs.WellFormed.{StandsIn, StepFits}
use Rattle.coll_shape.proofs.Asking.{can-reads}
use Rattle.coll_shape.proofs.ByCollective.{again, every_kind, has_kind, made_after, or_else, place_of}
use Rattle.coll_shape.specs.declared.limits.TheConstants.{MOST_RANKS, MOST_BUFFERS, MOST_STEPS, MOST_ELEMENTS}
use Rattle.coll_lang.specs.Forms.{StepWords, step}
use Rattle.coll_lang.specs.Language.{Past, form_line, form_since, source_named, buffer_named, is_taken, group_named, members_in, new_buffer}
use Rattle.coll_lang.specs.Language.{stands_in, with_made}
use Rattle.coll_lang.specs.Spelling.{name_at, on_words, step_words}
use Rattle.coll_lang.specs.declared.stage.Stage.{Stage}
use Rattle.coll_lang.specs.declared.stage.Stage.TheVariants.{Steps}
use Rattle.coll_lang.proofs.FormSaid.{names_there, on_there, op_there, said_words, word_there}
use Rattle.coll_lang.proofs.FormsBack.{IsSpelled, NameFull, NamesFull, name_solid, op_solid, step_form_back}
use Rattle.coll_lang.proofs.Leading.{Leads, Wider, form_leads}
use Rattle.coll_lang.proofs.Leaders.{isnt_above, isnt_full, name_found}
use Rattle.coll_lang.proofs.InputsBack.{Parts, fresh, longer, comes_next, named_there}
use Rattle.coll_lang.proofs.Sound.{outline}
use Rattle.coll_lang.proofs.StepsBack.{if_word, pair_of, root_below, root_said, spelled_of, step_taken}
use Rattle.coll_lang.proofs.StepsBack.{words_of, words_said}

-- ---- the group that a step names
abbrev pub on_name : List Group → Option ℕ → Option (List ℕ)
on_name gs None = None
on_name gs (Some i) = Some (get_or gs i no_group).name

-- there is such a group, of a name of its own
abbrev pub IsOn : List Group → Version → Option ℕ → Type 0
IsOn gs v None = Unit {0}
IsOn gs v (Some i) = (i < length gs) × StandsIn Two v × (is_name (get_or gs i no_group).name ≡ true)

abbrev pub Apart : List Group → Type 0
Apart gs = (i j : ℕ) → i < length gs → j < length gs → (get_or gs i no_group).name ≡ (get_or gs j no_group).name → i ≡ j

pub on_found : (gs : List Group) (v : Version) (k : Option ℕ) → Apart gs → IsOn gs v k → group_named gs (on_name gs k) ≡ Some k
on_found gs v None a h = refl
on_found gs v (Some i) a h =
    ap (option_map (λ i. Some i))
    (name_found (λ (g : Group). g.name) gs no_group i h.0 (λ k below e. clash k i below (a k i (before k i (length gs) below h.0) h.0 e)))
  where
    clash : (k i : ℕ) → k < i → k ≡ i → ⊥
    clash k i l e = omega (arith, l, e)

    before : (k i n : ℕ) → k < i → i < n → k < n
    before k i n l m = omega (arith, l, m)

stands : (u v : Version) → StandsIn u v → stands_in u v ≡ true
stands One v h = refl
stands Two One h = absurd h
stands Two Two h = refl

pub since_kind : (s : CollStep) → kind_since (kind_of s) ≡ since s
since_kind s = sym (has_kind s).since

pub form_stands : (gs : List Group) (v : Version) (k : Option ℕ) (bs : List Buffer) (s : CollStep) → IsOn gs v k → StandsIn (since s) v
    → stands_in (form_since (step (on_name gs k) (words_of bs s))) v ≡ true
form_stands gs v None bs s h st = ap (λ u. stands_in u v) (since_kind s) ∙ stands (since s) v st
form_stands gs v (Some i) bs s h st = stands Two v h.1

-- ---- the buffer that it makes
pub makes_it : (base : Past) (g : List ℕ) (s : CollStep) (x c : Buffer) (b : ℕ) → result_of s ≡ Some b
    → c ≡ named c.name (buffer_after g s x) → new_buffer g s x c.name ≡ c
makes_it base g s x c b r e = sym (e ∙ ap (named c.name) (made_after g s x b r))

pub source_found : (past : Past) (na nb : List ℕ) (a : ℕ) (x : Buffer) → is_taken past nb ≡ false
    → buffer_named past.buffers na ≡ Some (a, x) → source_named past (Some (na, nb)) ≡ Ok (a, x)
unfolding source_named
source_found past na nb a x new found = rw (new, found) refl

-- ---- its words are seen bytes
kind_solid : (k : StepKind) → list_all is_solid (kind_word k) ≡ true
kind_solid = every_kind (λ k. list_all is_solid (kind_word k)) refl

abbrev Solid : List (List ℕ) → Type 0
Solid ws = AllByRecursion (λ w. list_all is_solid w ≡ true) ws

behind : (xs ys : List (List ℕ)) → Solid xs → Solid ys → Solid (xs ++ ys)
behind [] ys h k = k
behind (x ∷ xs) ys h k = (h.0, behind xs ys h.1 k)

root_solid : (o : Option ℕ) → ((r : ℕ) → o ≡ Some r → r < 2 ^ 64) → Solid (word_there (if_word o))
root_solid None h = tt
root_solid (Some r) h = (number_solid r (h r refl), tt)

op_there_solid : (due : Bool) (op : AtomicOp) → Solid (op_there due op)
op_there_solid true op = (op_solid op, tt)
op_there_solid false op = tt

names_solid : (n : Option (List ℕ × List ℕ)) → NamesFull n → Solid (names_there n)
names_solid None h = tt
names_solid (Some n) h = (name_solid n.0 h.0, (name_solid n.1 h.1, tt))

words_solid : (bs : List Buffer) (s : CollStep) → ((r : ℕ) → root_of s ≡ Some r → r < 2 ^ 64) → IsSpelled (words_of bs s)
    → Solid (said_words (words_of bs s))
words_solid bs s small sp =
    let w = words_of bs s in (
      kind_solid w.kind,
      behind (word_there w.root) (op_there (takes_op w.kind) w.op ++ names_there w.names) (root_solid (root_of s) small)
          (behind (op_there (takes_op w.kind) w.op) (names_there w.names) (op_there_solid (takes_op w.kind) w.op)
          (names_solid w.names sp.named)),
    )

-- a step's line leads on, where it is taken
step_form_leads : (past next : Past) (on : Option (List ℕ)) (w : StepWords) → IsSpelled w → NameFull on → Solid (said_words w)
    → stands_in (form_since (step on w)) past.version ≡ true → Wider past.stage Steps → form_line past (step on w) ≡ Ok next
    → Leads past next (line (on_there on ++ said_words w))
step_form_leads past next None w sp full solid since wider taken =
    form_leads past next (step None w) (kind_word w.kind) (word_there w.root ++ (op_there (takes_op w.kind) w.op ++ names_there w.names))
    solid (step_form_back None w sp full) since (wider (step None w) refl) taken
step_form_leads past next (Some name) w sp full solid since wider taken =
    form_leads past next (step (Some name) w) (codes "on") (name ∷ said_words w) (refl, (name_solid name full, solid))
    (step_form_back (Some name) w sp full) since (wider (step (Some name) w) refl) taken

on_spelled : (gs : List Group) (k : Option ℕ) → on_words gs k ≡ on_there (on_name gs k)
on_spelled gs None = refl
on_spelled gs (Some i) = refl

on_full : (gs : List Group) (v : Version) (k : Option ℕ) → IsOn gs v k → NameFull (on_name gs k)
on_full gs v None h = tt
on_full gs v (Some i) h = h.2

-- ---- a step that makes a buffer
pub makes_leads : (base : Past) (st : Stage) (done rest : List Buffer) (c : Buffer) (steps : List CollStep) (ons : List (Option ℕ))
    (s : CollStep) (k : Option ℕ) (a b : ℕ)
    → Wider st Steps → Parts base.groups base.buffers done (c ∷ rest) → StepFits (outline base) (length done) (members_in base k) s
    → source_of s ≡ Some a → result_of s ≡ Some b
    → base.ranks ≤ MOST_RANKS → length base.buffers ≤ MOST_BUFFERS → length steps < MOST_STEPS → c.spread.length ≤ MOST_ELEMENTS
    → ((i : ℕ) → i < length base.buffers → is_name (name_at base.buffers i) ≡ true) → Apart base.groups → IsOn base.groups base.version k
    → StandsIn (since s) base.version
    → Leads (record base { stage = st; buffers = done; steps = steps; on = ons })
    (record base { stage = Steps; buffers = done ++ c ∷ []; steps = steps ++ s ∷ []; on = ons ++ k ∷ [] })
    (line (on_words base.groups k ++ step_words base.buffers s))
makes_leads base st done rest c steps ons s k a b wider p f es er ranks at_most room small names apart on since =
    let all = base.buffers in
    let past : Past = record base { stage = st; buffers = done; steps = steps; on = ons } in
    let next : Past = record base { stage = Steps; buffers = done ++ c ∷ []; steps = steps ++ s ∷ []; on = ons ++ k ∷ [] } in
    let g = members_in base k in
    let x = get_or all a no_buffer in
    let l = longer all done (c ∷ rest) p.are in
    let own = comes_next all done rest c p.are in
    let bl : b ≡ length done = f.next b er in
    let al : a < length done = f.source a es in
    let w = words_of all s in
    let nb : name_at all b ≡ c.name = ap (λ i. name_at all i) bl ∙ ap (λ (x : Buffer). x.name) own in
    let pair : w.names ≡ Some (name_at all a, c.name) =
    ap (λ o. pair_of all o (result_of s)) es ∙ ap (λ o. pair_of all (Some a) o) er ∙ ap (λ n. Some (name_at all a, n)) nb in
    let read : source_named past w.names ≡ Ok (a, x) =
    ap (source_named past) pair
    ∙ source_found past (name_at all a) c.name a x (fresh base.groups all done rest c p)
    (named_there base.groups all done (c ∷ rest) p a al) in
    let is : step_of w.kind (place_of s) w.op a (length done) ≡ s =
    ap (λ n. step_of w.kind (place_of s) w.op a n) (sym bl) ∙ ap (λ o. step_of w.kind (place_of s) w.op a (or_else 0 o)) (sym er)
    ∙ ap (λ o. step_of w.kind (place_of s) w.op (or_else 0 o) (or_else 0 (result_of s))) (sym es) ∙ sym (again s) in
    let read_is : read_buffer (outline base) (source_of s) ≡ x = ap (read_buffer (outline base)) es in
    let reads : can_read g s x ≡ true = can-reads g s x (subst (λ (y : Buffer). Reads g s y) read_is f.reads) in
    let at_b : buffer_at (outline base) b ≡ c = ap (λ i. get_or all i no_buffer) bl ∙ own in
    let made : c ≡ named c.name (buffer_after g s x) =
    sym at_b ∙ f.makes b er ∙ ap (λ (y : Buffer). named y.name (buffer_after g s (read_buffer (outline base) (source_of s)))) at_b
    ∙ ap (λ (y : Buffer). named c.name (buffer_after g s y)) read_is in
    let new : new_buffer g s x c.name ≡ c = makes_it base g s x c b er made in
    let long : made_length g s x ≤ MOST_ELEMENTS = subst (λ (y : Buffer). y.spread.length ≤ MOST_ELEMENTS) (sym new) small in
    let root_small : (r : ℕ) → root_of s ≡ Some r → r < 2 ^ 64 =
    λ r e. few_place r (length g) (subst (λ o. IsPlace (length g) o) e f.root) f.members.at_most in
    let sp = spelled_of all s root_small (λ i e. names i (of_source i e)) (λ i e. names i (f.result i e)) in
    let taken : form_line past (step (on_name base.groups k) w) ≡ Ok next =
    step_taken past w (on_name base.groups k) k (place_of s) a x (root_said (root_of s) root_small) read
    (on_found base.groups base.version k apart on) (root_below (length g) (root_of s) f.root f.members.some)
    (ap (λ t. can_read g t x) is ∙ reads) (isnt_full (length steps) MOST_STEPS room)
    (ap (λ (o : Option (List ℕ × List ℕ)). is_some o && nat_le MOST_BUFFERS (length done)) pair
    ∙ isnt_full (length done) MOST_BUFFERS (omega (arith, l, at_most)))
    (ap (λ t. nat_lt MOST_ELEMENTS (made_length g t x)) is ∙ isnt_above (made_length g s x) MOST_ELEMENTS long)
    ∙ ap (λ (o : Option (List ℕ × List ℕ)).
    let q : Past = record base {
      stage = Steps;
      buffers = with_made done g (step_of w.kind (place_of s) w.op a (length done)) x o;
      steps = steps ++ step_of w.kind (place_of s) w.op a (length done) ∷ [];
      on = ons ++ k ∷ [];
    } in Ok q) pair
    ∙ ap (λ t. let q : Past = record base {
      stage = Steps;
      buffers = done ++ new_buffer g t x c.name ∷ [];
      steps = steps ++ t ∷ [];
      on = ons ++ k ∷ [];
    } in Ok q) is
    ∙ ap (λ (y : Buffer).
    let q : Past = record base { stage = Steps; buffers = done ++ y ∷ []; steps = steps ++ s ∷ []; on = ons ++ k ∷ [] } in Ok q) new in
    subst (λ (ws : List (List ℕ)). Leads past next (line ws))
    (ap (λ (v : List (List ℕ)). v ++ said_words w) (sym (on_spelled base.groups k))
    ∙ ap (λ (v : List (List ℕ)). on_words base.groups k ++ v) (sym (words_said all s)))
    (step_form_leads past next (on_name base.groups k) w sp (on_full base.groups base.version k on) (words_solid all s root_small sp)
    (form_stands base.groups base.version k all s on since) wider taken)
  where
    few_place : (r n : ℕ) → r < n → n ≤ MOST_RANKS → r < 2 ^ 64
    few_place r n l at_most = omega (arith, l, at_most)

    of_source : (i : ℕ) → source_of s ≡ Some i → i < length base.buffers
    of_source i e = let z = f.source i e in let y = longer base.buffers done (c ∷ rest) p.are in omega (arith, z, y)

-- ---- a step that makes none
no_source : (past : Past) → source_named past None ≡ Ok (0, no_buffer)
unfolding source_named
no_source past = refl

pub meets_leads : (base : Past) (st : Stage) (done : List Buffer) (steps : List CollStep) (ons : List (Option ℕ)) (k : Option ℕ)
    → Wider st Steps → 0 < length (members_in base k) → length steps < MOST_STEPS → Apart base.groups → IsOn base.groups base.version k
    → Leads (record base { stage = st; buffers = done; steps = steps; on = ons })
    (record base { stage = Steps; buffers = done; steps = steps ++ Barrier ∷ []; on = ons ++ k ∷ [] })
    (line (on_words base.groups k ++ step_words base.buffers Barrier))
meets_leads base st done steps ons k wider some room apart on =
    let all = base.buffers in
    let past : Past = record base { stage = st; buffers = done; steps = steps; on = ons } in
    let next : Past = record base { stage = Steps; buffers = done; steps = steps ++ Barrier ∷ []; on = ons ++ k ∷ [] } in
    let w = words_of all Barrier in
    let small : (r : ℕ) → root_of Barrier ≡ Some r → r < 2 ^ 64 = λ r e. never_root r e in
    let sp = spelled_of all Barrier small (λ i e. absurd (clash i e)) (λ i e. absurd (clash i e)) in
    let taken : form_line past (step (on_name base.groups k) w) ≡ Ok next =
    step_taken past w (on_name base.groups k) k 0 0 no_buffer refl (no_source past) (on_found base.groups base.version k apart on)
    (root_below (length (members_in base k)) None tt some) refl (isnt_full (length steps) MOST_STEPS room) refl refl in
    subst (λ (ws : List (List ℕ)). Leads past next (line ws))
    (ap (λ (v : List (List ℕ)). v ++ said_words w) (sym (on_spelled base.groups k))
    ∙ ap (λ (v : List (List ℕ)). on_words base.groups k ++ v) (sym (words_said all Barrier)))
    (step_form_leads past next (on_name base.groups k) w sp (on_full base.groups base.version k on) (words_solid all Barrier small sp)
    (form_stands base.groups base.version k all Barrier on tt) wider taken)
  where
    clash : (i : ℕ) → (let o : Option ℕ = None in o ≡ Some i) → ⊥
    clash i e = cc

    never_root : (r : ℕ) → (let o : Option ℕ = None in o ≡ Some r) → r < 2 ^ 64
    never_root r e = absurd (clash r e)
