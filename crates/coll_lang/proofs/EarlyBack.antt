-- The lines before the steps are read as what they were written of.
use Rattle.std.proofs.Common.{◌≡◌, ℕ, suc, ◌<◌, ◌≤◌, ◌^◌, List, [], ◌∷◌, ◌++◌, length, map, take, get_or, Some, Ok, Bool, true, false, ◌||◌}
use Rattle.std.proofs.Common.{refl, sym, ap, ◌∙◌, arith, codes, subst}
use Rattle.std.specs.Prelude.{nat_lt, is_some}
use Rattle.std.specs.List.{list_all, join_with_byte, AllByRecursion}
use Rattle.std.specs.Fmt.{decimal}
use Rattle.std.proofs.lemmas.List.{get_or-take, length-take-le, take_all}
use Rattle.coll_text.specs.Text.{words, line, is_name, is_empty}
use Rattle.coll_text.proofs.ReadBack.{number_read}
use Rattle.coll_text.proofs.WordsBack.{is_solid, number_solid}
use Rattle.coll_shape.specs.declared.types.Version.{Version}
use Rattle.coll_shape.specs.declared.types.Version.TheVariants.{One, Two}
use Rattle.coll_shape.specs.declared.types.Buffer.{Buffer}
use Rattle.coll_shape.specs.declared.types.Group.{Group}
use Rattle.coll_shape.specs.Outline.{no_group}
use Rattle.coll_shape.specs.WellFormed.{most_ranks, StandsIn, AreMembers}
use Rattle.coll_shape.specs.declared.limits.TheConstants.{MOST_RANKS, MOST_GROUPS}
use Rattle.coll_lang.specs.Words.{version_word}
use Rattle.coll_lang.specs.Forms.{complete, group, form_of}
use Rattle.coll_lang.specs.Language.{Past, nothing, ranks_in, all_numbers, are_members, is_rising, is_taken, buffer_number, group_line}
use Rattle.coll_lang.specs.Language.{form_line, line_at, judge, is_allowed, stands_in}
use Rattle.coll_lang.specs.Spelling.{head_text, remote_text, group_text, groups_text}
use Rattle.coll_lang.specs.declared.stage.Stage.{Stage}
use Rattle.coll_lang.specs.declared.stage.Stage.TheVariants.{Ranks, Options, Groups}
use Rattle.coll_lang.proofs.Leading.{Leads, one_line, then, solid_allowed, solid_words, form_leads, Wider, options_wider}
use Rattle.coll_lang.proofs.FormsBack.{name_solid, number_full, between_read, group_back, complete_back}
use Rattle.coll_lang.proofs.Leaders.{at, Led, led_none, each_leads, texts, texts-list, isnt_full, is_below, name_missing, take-next}

-- ---- the first two lines
abbrev pub start : Version → ℕ → Past
start v n = record nothing { stage = Options; version = v; ranks = n }

header_taken : (v : Version) → judge nothing (codes "coll" ++ 32 ∷ version_word v) ≡ Ok (record nothing { stage = Ranks; version = v })
unfolding judge line_at
header_taken One = refl
header_taken Two = refl

header_allowed : (v : Version) → list_all is_allowed (codes "coll" ++ 32 ∷ version_word v) ≡ true
header_allowed One = refl
header_allowed Two = refl

header_line : (v : Version) → (codes "coll" ++ 32 ∷ version_word v) ++ 10 ∷ [] ≡ line (codes "coll" ∷ version_word v ∷ [])
header_line One = refl
header_line Two = refl

ranks_taken : (past : Past) (l : List ℕ) (ws : List (List ℕ)) (n : ℕ) → past.stage ≡ Ranks → list_all is_allowed l ≡ true → words l ≡ ws
    → ranks_in (most_ranks past.version) ws ≡ Some n → judge past l ≡ Ok (record past { stage = Options; ranks = n })
unfolding judge line_at
ranks_taken past l ws n at allowed is number = rw (allowed, at, is, number) refl

ranks_back : (most n : ℕ) → 1 ≤ n → n ≤ most → most < 2 ^ 64 → ranks_in most (codes "ranks" ∷ decimal n ∷ []) ≡ Some n
unfolding ranks_in
ranks_back most n some at_most small = between_read 1 most n some at_most small

few_most : (v : Version) → most_ranks v < 2 ^ 64
few_most One = omega arith
few_most Two = omega arith

pub head_leads : (v : Version) (n : ℕ) → 1 ≤ n → n ≤ most_ranks v → Leads nothing (start v n) (head_text v n)
head_leads v n some at_most =
    let first : Past = record nothing { stage = Ranks; version = v } in
    let ws = codes "ranks" ∷ decimal n ∷ [] in
    let fits = few_most v in
    let solid : AllByRecursion (λ w. list_all is_solid w ≡ true) ws = (refl, (number_solid n (omega (arith, at_most, fits)), tt)) in
    let allowed = solid_allowed ws solid in
    then nothing first (start v n) (line (codes "coll" ∷ version_word v ∷ [])) (line ws)
    (subst (λ (x : List ℕ). Leads nothing first x) (header_line v)
    (one_line nothing first (codes "coll" ++ 32 ∷ version_word v) refl (header_allowed v) (header_taken v)))
    (one_line first (start v n) (join_with_byte 32 ws) refl allowed
    (ranks_taken first (join_with_byte 32 ws) ws n refl allowed (solid_words (codes "ranks") (decimal n ∷ []) solid)
    (ranks_back (most_ranks v) n some at_most fits)))

pub remote_led : (v : Version) (n : ℕ) (b : Bool) → Led (start v n) (remote_text b) (record (start v n) { remote = b }) Groups
unfolding form_line
remote_led v n false = led_none Options (start v n) Groups options_wider
remote_led v n true = record {
  stage = Groups;
  wider = λ form h. h;
  leads = form_leads (start v n) (record (start v n) { stage = Groups; remote = true }) complete (codes "complete") (codes "remote" ∷ [])
      (refl, (refl, tt)) complete_back refl refl refl;
}

-- ---- groups
all_below : (n : ℕ) (ms : List ℕ) → ((i : ℕ) → i < length ms → get_or ms i 0 < n) → list_all (λ m. nat_lt m n) ms ≡ true
all_below n [] h = refl
all_below n (m ∷ ms) h = rw (is_below m n (h 0 (omega arith)), all_below n ms (λ i l. h (suc i) (omega (arith, l)))) refl

rises_back : (ms : List ℕ) → ((i j : ℕ) → i < j → j < length ms → get_or ms i 0 < get_or ms j 0) → is_rising ms ≡ true
rises_back [] h = refl
rises_back (m ∷ []) h = refl
rises_back (m ∷ k ∷ ks) h =
    rw (
      is_below m k (h 0 1 (omega arith) (omega arith)),
      rises_back (k ∷ ks)
          (λ i j lt l. h (suc i) (suc j) (omega (arith, lt)) (omega (arith, l))),
    ) refl

members_back : (n : ℕ) (ms : List ℕ) → AreMembers n ms → are_members n ms ≡ true
members_back n ms a = rw (all_below n ms a.ranks, rises_back ms a.rising, is_below 0 (length ms) a.some) refl

numbers_back : (ms : List ℕ) → ((i : ℕ) → i < length ms → get_or ms i 0 < 2 ^ 64) → all_numbers (map decimal ms) ≡ Some ms
numbers_back [] h = refl
numbers_back (m ∷ ms) h = rw (number_read m (h 0 (omega arith)), numbers_back ms (λ i l. h (suc i) (omega (arith, l)))) refl

numbers_full : (ms : List ℕ) → ((i : ℕ) → i < length ms → get_or ms i 0 < 2 ^ 64)
    → AllByRecursion (λ w. is_empty w ≡ false) (map decimal ms)
numbers_full [] h = tt
numbers_full (m ∷ ms) h = (number_full m (h 0 (omega arith)), numbers_full ms (λ i l. h (suc i) (omega (arith, l))))

numbers_solid : (ms : List ℕ) → ((i : ℕ) → i < length ms → get_or ms i 0 < 2 ^ 64)
    → AllByRecursion (λ w. list_all is_solid w ≡ true) (map decimal ms)
numbers_solid [] h = tt
numbers_solid (m ∷ ms) h = (number_solid m (h 0 (omega arith)), numbers_solid ms (λ i l. h (suc i) (omega (arith, l))))

group_taken : (past : Past) (g : Group) → all_numbers (map decimal g.members) ≡ Some g.members → is_taken past g.name ≡ false
    → length past.groups < MOST_GROUPS → are_members past.ranks g.members ≡ true
    → form_line past (group g.name (map decimal g.members)) ≡ Ok (record past { stage = Groups; groups = past.groups ++ g ∷ [] })
unfolding form_line group_line
group_taken past g en ef at_most em =
    let full = isnt_full (length past.groups) MOST_GROUPS at_most in
    rw (en, ef, full, em) refl

-- a group's line
group_leads : (past : Past) (g : Group) → stands_in Two past.version ≡ true → Wider past.stage Groups → is_name g.name ≡ true
    → AreMembers past.ranks g.members → past.ranks ≤ MOST_RANKS → is_taken past g.name ≡ false → length past.groups < MOST_GROUPS
    → Leads past (record past { stage = Groups; groups = past.groups ++ g ∷ [] }) (group_text g)
group_leads past g v w named a at_most fresh room =
    let small : (i : ℕ) → i < length g.members → get_or g.members i 0 < 2 ^ 64 =
    λ i l. below (get_or g.members i 0) past.ranks (a.ranks i l) at_most in
    cut g.members refl small a.some
  where
    below : (m n : ℕ) → m < n → n ≤ MOST_RANKS → m < 2 ^ 64
    below m n l at_most = omega (arith, l, at_most)

    cut : (ms : List ℕ) → g.members ≡ ms → ((i : ℕ) → i < length g.members → get_or g.members i 0 < 2 ^ 64) → 0 < length g.members
        → Leads past (record past { stage = Groups; groups = past.groups ++ g ∷ [] }) (group_text g)
    cut [] e small some = absurd (let z = ap length e in omega (arith, some, z))
    cut (m ∷ ms) e small some =
        let full = subst (λ (l : List ℕ). AllByRecursion (λ w. is_empty w ≡ false) (map decimal l)) e (numbers_full g.members small) in
        let form : form_of (codes "group" ∷ g.name ∷ map decimal g.members) ≡ Some (group g.name (map decimal g.members)) =
        subst (λ (l : List ℕ). form_of (codes "group" ∷ g.name ∷ map decimal l) ≡ Some (group g.name (map decimal l))) (sym e)
        (group_back g.name (decimal m) (map decimal ms) named full) in
        form_leads past (record past { stage = Groups; groups = past.groups ++ g ∷ [] }) (group g.name (map decimal g.members))
        (codes "group") (g.name ∷ map decimal g.members)
        (refl, (name_solid g.name named, numbers_solid g.members small)) form v (w (group g.name (map decimal g.members)) refl)
        (group_taken past g (numbers_back g.members small) fresh room (members_back past.ranks g.members a))

-- all groups, one after the other
pub record AreGroups (n : ℕ) (v : Version) (gs : List Group) : Type 0 where
  pub at_most : length gs ≤ MOST_GROUPS
  pub stands : (i : ℕ) → i < length gs → StandsIn Two v
  pub members : (i : ℕ) → i < length gs → AreMembers n (get_or gs i no_group).members
  pub spelled : (i : ℕ) → i < length gs → is_name (get_or gs i no_group).name ≡ true
  pub apart : (i j : ℕ) → i < length gs → j < length gs → (get_or gs i no_group).name ≡ (get_or gs j no_group).name → i ≡ j

two_stands : (v : Version) → StandsIn Two v → stands_in Two v ≡ true
two_stands One h = absurd h
two_stands Two h = refl

pub groups_led : (base : Past) (gs : List Group) → base.buffers ≡ [] → base.ranks ≤ MOST_RANKS → AreGroups base.ranks base.version gs
    → (s : Stage)
    → Wider s Groups → Led (at s (record base { groups = [] })) (groups_text gs) (record base { groups = gs }) Groups
groups_led base gs none at_most a s w =
    let st : ℕ → Past = λ i. record base { groups = take i gs } in
    let item : ℕ → List ℕ = λ i. group_text (get_or gs i no_group) in
    let one : (i : ℕ) → i < length gs → (s : Stage) → Wider s Groups → Leads (at s (st i)) (at Groups (st (suc i))) (item i) =
    λ i l s w. step i l s w in
    subst (λ (x : List ℕ). Led (at s (st 0)) x (record base { groups = gs }) Groups) (sym (texts-list group_text gs no_group))
    (subst (λ (l : List Group). Led (at s (st 0)) (texts item 0 (length gs)) (record base { groups = l }) Groups) (take_whole gs)
    (each_leads st item Groups (length gs) one 0 (length gs) (omega arith) s w))
  where
    take_whole : (gs : List Group) → take (length gs) gs ≡ gs
    take_whole gs = take_all (length gs) gs (omega arith)

    clash : (i j : ℕ) → i < j → i ≡ j → ⊥
    clash i j l e = omega (arith, l, e)

    step : (i : ℕ) → i < length gs → (s : Stage) → Wider s Groups
        → Leads (at s (record base { groups = take i gs })) (at Groups (record base { groups = take (suc i) gs }))
        (group_text (get_or gs i no_group))
    step i l s w =
        let g = get_or gs i no_group in
        let past : Past = record base { stage = s; groups = take i gs } in
        let len = length-take-le i gs (let z : i ≤ length gs = omega (arith, l) in z) in
        let most = a.at_most in
        let fresh : is_taken past g.name ≡ false =
        ap (λ o. is_some o || is_some (buffer_number base.buffers g.name)) (name_missing (λ (g : Group). g.name) (take i gs) no_group g.name
        (λ k lt e. clash k i (omega (arith, lt, len))
        (a.apart k i (omega (arith, lt, len, l)) l
        (sym (ap (λ (x : Group). x.name) (get_or-take i gs k no_group (omega (arith, lt, len)))) ∙ e))))
        ∙ ap (λ (bs : List Buffer). is_some (buffer_number bs g.name)) none in
        subst (λ (x : List Group). Leads past (record base { stage = Groups; groups = x }) (group_text g)) (sym (take-next gs i no_group l))
        (group_leads past g (two_stands base.version (a.stands i l)) w (a.spelled i l) (a.members i l) at_most fresh
        (omega (arith, len, l, most)))
