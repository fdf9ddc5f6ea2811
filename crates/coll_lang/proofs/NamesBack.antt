-- What a shape keeps of the names of its groups and buffers: they are spelled as names, and no two are alike.
use Rattle.std.proofs.Common.{◌≡◌, ℕ, ◌+◌, ◌-◌, ◌<◌, List, [], ◌++◌, length, map, get_or, true, sym, ap, ◌∙◌, arith, subst, length-append}
use Rattle.std.proofs.lemmas.List.{get_or-map, get_or-append_right, get_or_append_left}
use Rattle.coll_text.specs.Text.{is_name}
use Rattle.coll_shape.specs.declared.types.Buffer.{Buffer}
use Rattle.coll_shape.specs.declared.types.Group.{Group}
use Rattle.coll_shape.specs.Outline.{Outline, no_buffer, no_group}
use Rattle.coll_shape.specs.WellFormed.{IsWellFormed, names}
use Rattle.coll_lang.specs.Spelling.{name_at}
use Rattle.coll_lang.proofs.AllLines.{long_map}
use Rattle.coll_lang.proofs.StepLeads.{Apart}

pub record AreNames (gs : List Group) (bs : List Buffer) : Type 0 where
  pub groups_spelled : (i : ℕ) → i < length gs → is_name (get_or gs i no_group).name ≡ true
  pub spelled : (j : ℕ) → j < length bs → is_name (name_at bs j) ≡ true
  pub groups_apart : Apart gs
  pub distinct : (i j : ℕ) → i < length bs → j < length bs → name_at bs i ≡ name_at bs j → i ≡ j
  pub apart : (i j : ℕ) → i < length gs → j < length bs → (get_or gs i no_group).name ≡ name_at bs j → ⊥

abbrev group_names : List Group → List (List ℕ)
group_names gs = map (λ (g : Group). g.name) gs

abbrev buffer_names : List Buffer → List (List ℕ)
buffer_names bs = map (λ (b : Buffer). b.name) bs

group_name : (gs : List Group) (bs : List Buffer) (i : ℕ) → i < length gs
    → get_or (group_names gs ++ buffer_names bs) i [] ≡ (get_or gs i no_group).name
group_name gs bs i l =
    let m = long_map (λ (g : Group). g.name) gs in
    get_or_append_left (group_names gs) (buffer_names bs) [] i (omega (arith, m, l))
    ∙ get_or-map (λ (g : Group). g.name) gs i no_group [] l

behind_first : (n j : ℕ) → (n + j) - n ≡ j
behind_first n j = omega arith

buffer_name : (gs : List Group) (bs : List Buffer) (j : ℕ) → j < length bs
    → get_or (group_names gs ++ buffer_names bs) (length gs + j) [] ≡ name_at bs j
buffer_name gs bs j l =
    get_or-append_right (group_names gs) (buffer_names bs) (length gs) (length gs + j) [] (long_map (λ (g : Group). g.name) gs)
    (omega arith)
    ∙ ap (λ i. get_or (buffer_names bs) i []) (behind_first (length gs) j)
    ∙ get_or-map (λ (b : Buffer). b.name) bs j no_buffer [] l

pub are_names : (o : Outline) → IsWellFormed o → AreNames o.groups o.buffers
are_names o f =
    let gs = o.groups in
    let bs = o.buffers in
    record {
      groups_spelled = λ i h. subst (λ (x : List ℕ). is_name x ≡ true) (group_name gs bs i h) (f.spelled i (left i h));
      spelled = λ j h. subst (λ (x : List ℕ). is_name x ≡ true) (buffer_name gs bs j h) (f.spelled (length gs + j) (right j h));
      groups_apart = λ i j hi hj e. f.distinct i j (left i hi) (left j hj) (group_name gs bs i hi ∙ (e ∙ sym (group_name gs bs j hj)));
      distinct = λ i j hi hj e. same_rest (length gs) i j
          (f.distinct (length gs + i) (length gs + j) (right i hi) (right j hj)
          (buffer_name gs bs i hi ∙ (e ∙ sym (buffer_name gs bs j hj))));
      apart = λ i j hi hj e. never (length gs) i j hi
          (f.distinct i (length gs + j) (left i hi) (right j hj) (group_name gs bs i hi ∙ (e ∙ sym (buffer_name gs bs j hj))));
    }
  where
    count : length (names o) ≡ length o.groups + length o.buffers
    count =
        let m = long_map (λ (g : Group). g.name) o.groups in
        let k = long_map (λ (b : Buffer). b.name) o.buffers in
        let l = length-append (group_names o.groups) (buffer_names o.buffers) in
        omega (arith, m, k, l)

    left : (i : ℕ) → i < length o.groups → i < length (names o)
    left i h = omega (arith, count, h)

    right : (j : ℕ) → j < length o.buffers → length o.groups + j < length (names o)
    right j h = omega (arith, count, h)

    same_rest : (n i j : ℕ) → n + i ≡ n + j → i ≡ j
    same_rest n i j e = omega (arith, e)

    never : (n i j : ℕ) → i < n → i ≡ n + j → ⊥
    never n i j l e = omega (arith, l, e)
