-- The facts of an outline with one line more.
use Rattle.std.proofs.Common.{◌≡◌, ℕ, zero, suc, ◌+◌, ◌<◌, ◌≤◌, List, [], ◌∷◌, ◌++◌, length, map, get_or, Option, None, true, false, refl}
use Rattle.std.proofs.Common.{sym, ap, ◌∙◌, arith, subst, inl, inr, ◌⊎◌, append_assoc}
use Rattle.std.specs.List.{sum_by}
use Rattle.std.proofs.lemmas.List.{append-nil}
use Rattle.coll_text.specs.Text.{is_name}
use Rattle.number_lists.specs.Members.{In, Distinct}
use Rattle.number_lists.specs.Numbers.{from_to}
use Rattle.coll_shape.specs.declared.types.Version.{Version}
use Rattle.coll_shape.specs.declared.types.Version.TheVariants.{Two}
use Rattle.coll_shape.specs.declared.types.Buffer.{Buffer}
use Rattle.coll_shape.specs.declared.types.Group.{Group}
use Rattle.coll_shape.specs.declared.types.CollStep.{CollStep}
use Rattle.coll_shape.specs.declared.types.CollStep.TheVariants.{Barrier}
use Rattle.coll_shape.specs.Outline.{Outline, no_buffer, no_group, buffer_at, step_at, group_at, members_of}
use Rattle.coll_shape.specs.Collectives.{result_of, since}
use Rattle.coll_shape.specs.WellFormed.{most_ranks, StandsIn, AreMembers, IsGroup, and_one, made_upto, StepFits, elements_of}
use Rattle.coll_shape.specs.WellFormed.{printed_elements, names}
use Rattle.coll_shape.specs.declared.limits.TheConstants.{MOST_GROUPS, MOST_BUFFERS, MOST_STEPS, MOST_PRINTS, MOST_GIVEN, MOST_ELEMENTS}
use Rattle.coll_lang.proofs.Facts.{Facts, made_most, in_inserted, apart_too}
use Rattle.coll_lang.proofs.Growing.{old_at, new_at, longer, split, each_more, none_there, fit_stays, step_old, made_same}

fit_at : (o : Outline) (m m' : ℕ) (g g' : List ℕ) (s s' : CollStep) → m ≡ m' → g ≡ g' → s ≡ s' → StepFits o m g s → StepFits o m' g' s'
fit_at o m m' g g' s s' em eg es f =
    subst (λ v. StepFits o v g' s') em (subst (λ v. StepFits o m v s') eg (subst (λ v. StepFits o m g v) es f))

-- ---- a step
abbrev pub grown : Outline → CollStep → Option ℕ → List Buffer → Outline
grown o s i c = record o { buffers = o.buffers ++ c; steps = o.steps ++ s ∷ []; on = o.on ++ i ∷ [] }

pub record IsStep (o : Outline) (s : CollStep) (i : Option ℕ) (c : List Buffer) : Type 0 where
  pub few_buffers : length (o.buffers ++ c) ≤ MOST_BUFFERS
  pub few_steps : length o.steps < MOST_STEPS
  pub no_prints : o.prints ≡ []
  pub group : IsGroup o i
  pub stands : StandsIn (since s) o.version
  pub short : (b : ℕ) → b < length (o.buffers ++ c) → (get_or (o.buffers ++ c) b no_buffer).spread.length ≤ MOST_ELEMENTS
  pub fits : StepFits (grown o s i c) (length o.buffers) (members_of (from_to 0 o.ranks) o.groups i) s
  pub counts : and_one (result_of s) (length o.buffers) ≡ length (o.buffers ++ c)
  pub spelled : (x : List ℕ) → In x (names (grown o s i c)) → is_name x ≡ true
  pub distinct : Distinct (names (grown o s i c))

pub step_facts : (o : Outline) (s : CollStep) (i : Option ℕ) (c : List Buffer) → Facts o → IsStep o s i c → Facts (grown o s i c)
step_facts o s i c f h = record {
  some_rank = f.some_rank;
  few_ranks = f.few_ranks;
  few_buffers = h.few_buffers;
  few_steps = let a = h.few_steps in omega (arith, a, steps_longer);
  few_prints = f.few_prints;
  few_groups = f.few_groups;
  on_groups = let e = f.on_groups in omega (arith, e, steps_longer, ons_longer);
  on_group = λ k l. on_group k (split k (length o.steps) (length p.steps) steps_longer l);
  named_members = f.named_members;
  short = h.short;
  printed = λ j l. none_there o.prints h.no_prints j l;
  groups = f.groups;
  steps = each_more (λ (t : CollStep). StandsIn (since t) o.version) o.steps s Barrier f.steps h.stands;
  held = λ b l. subst (λ (x : Buffer). x.spread.holders ≡ from_to 0 o.ranks) (sym (input_same b l)) (f.held b l);
  some = λ b l. subst (λ (x : Buffer). 1 ≤ x.spread.length) (sym (input_same b l)) (f.some b l);
  small = λ b l. subst (λ (x : Buffer). x.spread.length ≤ MOST_GIVEN) (sym (input_same b l)) (f.small b l);
  fits = λ k l. fits_each k (split k (length o.steps) (length p.steps) steps_longer l);
  all = all_made;
  spelled = h.spelled;
  distinct = h.distinct;
  few_printed = subst (λ (ps : List ℕ). sum_by (λ b. elements_of (buffer_at p b)) ps ≤ MOST_ELEMENTS) (sym h.no_prints) (omega arith);
}
  where
    p : Outline
    p = grown o s i c

    steps_longer : length (o.steps ++ s ∷ []) ≡ length o.steps + 1
    steps_longer = longer o.steps s

    ons_longer : length (o.on ++ i ∷ []) ≡ length o.on + 1
    ons_longer = longer o.on i

    on_group : (k : ℕ) → (k < length o.steps) ⊎ (k ≡ length o.steps) → IsGroup o (get_or (o.on ++ i ∷ []) k None)
    on_group k (inl l) = let e = f.on_groups in subst (IsGroup o) (sym (old_at o.on (i ∷ []) None k (omega (arith, e, l)))) (f.on_group k l)
    on_group k (inr q) = subst (IsGroup o) (sym (ap (λ v. get_or (o.on ++ i ∷ []) v None) (q ∙ sym f.on_groups) ∙ new_at o.on i None))
        h.group

    inputs_few : o.inputs ≤ length o.buffers
    inputs_few = subst (λ n. o.inputs ≤ n) f.all (made_most o 0 (length o.steps) (omega arith))

    input_same : (b : ℕ) → b < o.inputs → get_or (o.buffers ++ c) b no_buffer ≡ buffer_at o b
    input_same b l = let m = inputs_few in old_at o.buffers c no_buffer b (omega (arith, l, m))

    made_is : made_upto p (length o.steps) ≡ length o.buffers
    made_is = made_same o p s refl refl (length o.steps) (omega arith) ∙ f.all

    here : step_at p (length o.steps) ≡ s
    here = new_at o.steps s Barrier

    all_made : made_upto p (length (o.steps ++ s ∷ [])) ≡ length (o.buffers ++ c)
    all_made =
        ap (made_upto p) (steps_longer ∙ (let e : length o.steps + 1 ≡ suc (length o.steps) = omega arith in e))
        ∙ ap (λ (t : CollStep). and_one (result_of t) (made_upto p (length o.steps))) here
        ∙ ap (and_one (result_of s)) made_is
        ∙ h.counts

    fits_each : (k : ℕ) → (k < length o.steps) ⊎ (k ≡ length o.steps) → StepFits p (made_upto p k) (group_at p k) (step_at p k)
    fits_each k (inl l) =
        let le = subst (λ n. made_upto o k ≤ n) f.all
        (made_most o k (length o.steps) (let z : k ≤ length o.steps = omega (arith, l) in z)) in
        let e = f.on_groups in
        fit_at p (made_upto o k) (made_upto p k) (group_at o k) (group_at p k) (step_at o k) (step_at p k)
        (sym (made_same o p s refl refl k (omega (arith, l))))
        (ap (members_of (from_to 0 o.ranks) o.groups) (sym (old_at o.on (i ∷ []) None k (omega (arith, e, l)))))
        (sym (step_old o s k l))
        (fit_stays o p c (made_upto o k) (group_at o k) (step_at o k) refl refl le (f.fits k l))
    fits_each k (inr q) =
        subst (λ v. StepFits p (made_upto p v) (group_at p v) (step_at p v)) (sym q)
        (fit_at p (length o.buffers) (made_upto p (length o.steps)) (members_of (from_to 0 o.ranks) o.groups i)
        (group_at p (length o.steps)) s (step_at p (length o.steps))
        (sym made_is)
        (ap (members_of (from_to 0 o.ranks) o.groups)
        (sym (ap (λ v. get_or (o.on ++ i ∷ []) v None) (sym f.on_groups) ∙ new_at o.on i None)))
        (sym here)
        h.fits)

-- ---- a print
abbrev pub with_print : Outline → ℕ → Outline
with_print o i = record o { prints = o.prints ++ i ∷ [] }

pub print_facts : (o : Outline) (i : ℕ) → Facts o → i < length o.buffers → length o.prints < MOST_PRINTS
    → printed_elements (with_print o i) ≤ MOST_ELEMENTS → Facts (with_print o i)
print_facts o i f there at_most le = record {
  some_rank = f.some_rank;
  few_ranks = f.few_ranks;
  few_buffers = f.few_buffers;
  few_steps = f.few_steps;
  few_prints = let l = longer o.prints i in omega (arith, at_most, l);
  few_groups = f.few_groups;
  on_groups = f.on_groups;
  on_group = f.on_group;
  named_members = f.named_members;
  short = f.short;
  printed = each_more (λ b. b < length o.buffers) o.prints i 0 f.printed there;
  groups = f.groups;
  steps = f.steps;
  held = f.held;
  some = f.some;
  small = f.small;
  fits = λ k l.
      let le = subst (λ n. made_upto o k ≤ n) f.all (made_most o k (length o.steps) (let z : k ≤ length o.steps = omega (arith, l) in z)) in
      fit_at p (made_upto o k) (made_upto p k) (group_at o k) (group_at p k) (step_at o k) (step_at p k) (same_made k) refl refl
      (fit_stays o p [] (made_upto o k) (group_at o k) (step_at o k) refl (sym (append-nil o.buffers)) le (f.fits k l));
  all = sym (same_made (length o.steps)) ∙ f.all;
  spelled = f.spelled;
  distinct = f.distinct;
  few_printed = le;
}
  where
    p : Outline
    p = with_print o i

    same_made : (k : ℕ) → made_upto o k ≡ made_upto p k
    same_made zero = refl
    same_made (suc k) = ap (and_one (result_of (step_at o k))) (same_made k)

-- ---- where nothing but groups and inputs was said
pub record IsEarly (o : Outline) : Type 0 where
  pub no_steps : o.steps ≡ []
  pub no_on : o.on ≡ []
  pub no_prints : o.prints ≡ []
  pub counted : o.inputs ≡ length o.buffers

none_printed : (o : Outline) → o.prints ≡ [] → printed_elements o ≤ MOST_ELEMENTS
none_printed o e = subst (λ (ps : List ℕ). sum_by (λ b. elements_of (buffer_at o b)) ps ≤ MOST_ELEMENTS) (sym e) (omega arith)

-- the steps' facts of an outline without steps
no_made : (o : Outline) → o.steps ≡ [] → made_upto o (length o.steps) ≡ o.inputs
no_made o e = ap (λ (ss : List CollStep). made_upto o (length ss)) e

pub record IsGroupLine (o : Outline) (g : Group) : Type 0 where
  pub at_most : length o.groups < MOST_GROUPS
  pub members : AreMembers o.ranks g.members
  pub stands : StandsIn Two o.version
  pub named : is_name g.name ≡ true
  pub fresh : In g.name (names o) → ⊥

abbrev pub with_group : Outline → Group → Outline
with_group o g = record o { groups = o.groups ++ g ∷ [] }

-- the names with a group's after those of the groups
pub map_more : {X Y : Type 0} (f : X → Y) (xs : List X) (x : X) → map f (xs ++ x ∷ []) ≡ map f xs ++ f x ∷ []
map_more f [] x = refl
map_more f (y ∷ xs) x = ap (λ v. f y ∷ v) (map_more f xs x)

pub group_names : (o : Outline) (g : Group)
    → names (with_group o g) ≡ map (λ (g : Group). g.name) o.groups ++ g.name ∷ map (λ (b : Buffer). b.name) o.buffers
group_names o g =
    ap (λ v. v ++ map (λ (b : Buffer). b.name) o.buffers) (map_more (λ (g : Group). g.name) o.groups g)
    ∙ append_assoc (map (λ (g : Group). g.name) o.groups) (g.name ∷ []) (map (λ (b : Buffer). b.name) o.buffers)

-- one name more among names
one_spelled : (xs ys : List (List ℕ)) (x : List ℕ) → is_name x ≡ true → ((y : List ℕ) → In y (xs ++ ys) → is_name y ≡ true) → (y : List ℕ)
    → In y (xs ++ x ∷ ys) → is_name y ≡ true
one_spelled xs ys x named h y i = go (in_inserted y x xs ys i)
  where
    go : (x ≡ y) ⊎ In y (xs ++ ys) → is_name y ≡ true
    go (inl e) = subst (λ v. is_name v ≡ true) e named
    go (inr k) = h y k

pub group_facts : (o : Outline) (g : Group) → Facts o → IsEarly o → IsGroupLine o g → Facts (with_group o g)
group_facts o g f a h = record {
  some_rank = f.some_rank;
  few_ranks = f.few_ranks;
  few_buffers = f.few_buffers;
  few_steps = f.few_steps;
  few_prints = f.few_prints;
  few_groups = let l = longer o.groups g in let w = h.at_most in omega (arith, w, l);
  on_groups = f.on_groups;
  on_group = λ k l. none_there o.steps a.no_steps k l;
  named_members = each_more (λ (g : Group). AreMembers o.ranks g.members) o.groups g no_group f.named_members h.members;
  short = f.short;
  printed = f.printed;
  groups = λ i l. h.stands;
  steps = f.steps;
  held = f.held;
  some = f.some;
  small = f.small;
  fits = λ k l. none_there o.steps a.no_steps k l;
  all = no_made (with_group o g) a.no_steps ∙ a.counted;
  spelled = λ x i. one_spelled (map (λ (g : Group). g.name) o.groups) (map (λ (b : Buffer). b.name) o.buffers) g.name h.named f.spelled x
      (subst (In x) (group_names o g) i);
  distinct = subst Distinct (sym (group_names o g))
      (apart_too g.name (map (λ (g : Group). g.name) o.groups) (map (λ (b : Buffer). b.name) o.buffers) f.distinct h.fresh);
  few_printed = none_printed (with_group o g) a.no_prints;
}

pub record IsInputLine (o : Outline) (b : Buffer) : Type 0 where
  pub at_most : length o.buffers < MOST_BUFFERS
  pub held : b.spread.holders ≡ from_to 0 o.ranks
  pub some : 1 ≤ b.spread.length
  pub small : b.spread.length ≤ MOST_GIVEN
  pub named : is_name b.name ≡ true
  pub fresh : In b.name (names o) → ⊥

abbrev pub with_input : Outline → Buffer → Outline
with_input o b = record o { buffers = o.buffers ++ b ∷ []; inputs = o.inputs + 1 }

-- the names with a buffer's after all others
pub buffer_names : (gs : List Group) (bs : List Buffer) (b : Buffer)
    → map (λ (g : Group). g.name) gs ++ map (λ (b : Buffer). b.name) (bs ++ b ∷ [])
    ≡ (map (λ (g : Group). g.name) gs ++ map (λ (b : Buffer). b.name) bs) ++ b.name ∷ []
buffer_names gs bs b =
    ap (λ v. map (λ (g : Group). g.name) gs ++ v) (map_more (λ (b : Buffer). b.name) bs b)
    ∙ sym (append_assoc (map (λ (g : Group). g.name) gs) (map (λ (b : Buffer). b.name) bs) (b.name ∷ []))

pub spelled_more : (o : Outline) (b : Buffer) → Facts o → is_name b.name ≡ true → (x : List ℕ)
    → In x (map (λ (g : Group). g.name) o.groups ++ map (λ (b : Buffer). b.name) (o.buffers ++ b ∷ [])) → is_name x ≡ true
spelled_more o b f named x i =
    one_spelled (names o) [] b.name named (λ y k. f.spelled y (subst (In y) (append-nil (names o)) k)) x
    (subst (In x) (buffer_names o.groups o.buffers b) i)

pub distinct_more : (o : Outline) (b : Buffer) → Facts o → (In b.name (names o) → ⊥)
    → Distinct (map (λ (g : Group). g.name) o.groups ++ map (λ (b : Buffer). b.name) (o.buffers ++ b ∷ []))
distinct_more o b f fresh =
    subst Distinct (sym (buffer_names o.groups o.buffers b))
    (apart_too b.name (names o) [] (subst Distinct (sym (append-nil (names o))) f.distinct)
    (λ k. fresh (subst (In b.name) (append-nil (names o)) k)))

pub input_facts : (o : Outline) (b : Buffer) → Facts o → IsEarly o → IsInputLine o b → Facts (with_input o b)
input_facts o b f a h = record {
  some_rank = f.some_rank;
  few_ranks = f.few_ranks;
  few_buffers = let w = h.at_most in omega (arith, w, l);
  few_steps = f.few_steps;
  few_prints = f.few_prints;
  few_groups = f.few_groups;
  on_groups = f.on_groups;
  on_group = λ k l. none_there o.steps a.no_steps k l;
  named_members = f.named_members;
  short = each_more (λ (b : Buffer). b.spread.length ≤ MOST_ELEMENTS) o.buffers b no_buffer f.short (let w = h.small in omega (arith, w));
  printed = λ j l. none_there o.prints a.no_prints j l;
  groups = f.groups;
  steps = f.steps;
  held = λ i k. each_more (λ (b : Buffer). b.spread.holders ≡ from_to 0 o.ranks) o.buffers b no_buffer (λ i k. f.held i (below i k)) h.held
      i (inside i k);
  some = λ i k. each_more (λ (b : Buffer). 1 ≤ b.spread.length) o.buffers b no_buffer (λ i k. f.some i (below i k)) h.some i (inside i k);
  small = λ i k. each_more (λ (b : Buffer). b.spread.length ≤ MOST_GIVEN) o.buffers b no_buffer (λ i k. f.small i (below i k)) h.small i
      (inside i k);
  fits = λ k l. none_there o.steps a.no_steps k l;
  all = no_made (with_input o b) a.no_steps ∙ (let c = a.counted in omega (arith, c, l));
  spelled = spelled_more o b f h.named;
  distinct = distinct_more o b f h.fresh;
  few_printed = none_printed (with_input o b) a.no_prints;
}
  where
    l : length (o.buffers ++ b ∷ []) ≡ length o.buffers + 1
    l = longer o.buffers b

    below : (i : ℕ) → i < length o.buffers → i < o.inputs
    below i k = let c = a.counted in omega (arith, c, k)

    inside : (i : ℕ) → i < o.inputs + 1 → i < length (o.buffers ++ b ∷ [])
    inside i k = let c = a.counted in let e = l in omega (arith, c, k, e)

-- `complete remote`
abbrev pub with_remote : Outline → Outline
with_remote o = record o { remote = true }

pub remote_facts : (o : Outline) → Facts o → IsEarly o → Facts (with_remote o)
remote_facts o f a = record {
  some_rank = f.some_rank;
  few_ranks = f.few_ranks;
  few_buffers = f.few_buffers;
  few_steps = f.few_steps;
  few_prints = f.few_prints;
  few_groups = f.few_groups;
  on_groups = f.on_groups;
  on_group = λ k l. none_there o.steps a.no_steps k l;
  named_members = f.named_members;
  short = f.short;
  printed = f.printed;
  groups = f.groups;
  steps = f.steps;
  held = f.held;
  some = f.some;
  small = f.small;
  fits = λ k l. none_there o.steps a.no_steps k l;
  all = no_made (with_remote o) a.no_steps ∙ a.counted;
  spelled = f.spelled;
  distinct = f.distinct;
  few_printed = none_printed (with_remote o) a.no_prints;
}

-- nothing but the ranks
abbrev pub bare : Version → ℕ → Outline
bare version ranks = record {
  version = version;
  ranks = ranks;
  remote = false;
  groups = [];
  buffers = [];
  inputs = 0;
  steps = [];
  on = [];
  prints = [];
}

pub bare_facts : (version : Version) (ranks : ℕ) → 1 ≤ ranks → ranks ≤ most_ranks version → Facts (bare version ranks)
bare_facts version ranks some at_most = record {
  some_rank = some;
  few_ranks = at_most;
  few_buffers = omega arith;
  few_steps = omega arith;
  few_prints = omega arith;
  few_groups = omega arith;
  on_groups = refl;
  on_group = λ k l. absurd (nothing_below k l);
  named_members = λ k l. absurd (nothing_below k l);
  short = λ k l. absurd (nothing_below k l);
  printed = λ k l. absurd (nothing_below k l);
  groups = λ k l. absurd (nothing_below k l);
  steps = λ k l. absurd (nothing_below k l);
  held = λ k l. absurd (nothing_below k l);
  some = λ k l. absurd (nothing_below k l);
  small = λ k l. absurd (nothing_below k l);
  fits = λ k l. absurd (nothing_below k l);
  all = refl;
  spelled = λ x h. absurd h;
  distinct = tt;
  few_printed = omega arith;
}
  where
    nothing_below : (i : ℕ) → i < 0 → ⊥
    nothing_below i l = omega arith
