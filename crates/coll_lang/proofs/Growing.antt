-- An outline with a group, an input, a step or a print more keeps its facts.
use Rattle.std.proofs.Common.{◌≡◌, ℕ, zero, suc, ◌+◌, ◌<◌, ◌≤◌, List, [], ◌∷◌, ◌++◌, length, map, get_or, Option, Some, None, Bool, true}
use Rattle.std.proofs.Common.{false, cond, ◌||◌, refl, sym, ap, ◌∙◌, arith, subst, inl, inr, ◌⊎◌, length-append}
use Rattle.std.specs.Prelude.{is_some, nat_lt}
use Rattle.std.specs.List.{position_or_len, position}
use Rattle.std.specs.Str.{bytes_eq}
use Rattle.std.proofs.lemmas.List.{get_or_append_left}
use Rattle.std.proofs.lemmas.List.Sums.{fails_before_first}
use Rattle.std.proofs.lemmas.Slice.Eq.{bytes_eq-Decides}
use Rattle.std.proofs.lemmas.Bool.Decides.{nat_tests}
use Rattle.std.proofs.Math.Seq.{get_or-append_seam}
use Rattle.number_lists.specs.Members.{In}
use Rattle.coll_shape.specs.declared.types.Buffer.{Buffer}
use Rattle.coll_shape.specs.declared.types.CollStep.{CollStep}
use Rattle.coll_shape.specs.declared.types.CollStep.TheVariants.{Barrier}
use Rattle.coll_shape.specs.Outline.{Outline, no_buffer, buffer_at, step_at, read_buffer}
use Rattle.coll_shape.specs.Collectives.{source_of, result_of, Reads, buffer_after, named}
use Rattle.coll_shape.specs.WellFormed.{AreMembers, and_one, made_upto, StepFits}

-- at the end of a list
pub old_at : {X : Type 0} (xs ys : List X) (d : X) (i : ℕ) → i < length xs → get_or (xs ++ ys) i d ≡ get_or xs i d
old_at xs ys d i l = get_or_append_left xs ys d i l

pub new_at : {X : Type 0} (xs : List X) (x d : X) → get_or (xs ++ x ∷ []) (length xs) d ≡ x
new_at xs x d = get_or-append_seam xs x [] d

pub longer : {X : Type 0} (xs : List X) (x : X) → length (xs ++ x ∷ []) ≡ length xs + 1
longer xs x = length-append xs (x ∷ [])

pub split : (i n m : ℕ) → m ≡ n + 1 → i < m → (i < n) ⊎ (i ≡ n)
split i n m e l = grind arith

-- a fact of each element, with one more
pub each_more : {X : Type 0} (P : X → Type 0) (xs : List X) (x d : X) → ((i : ℕ) → i < length xs → P (get_or xs i d)) → P x → (i : ℕ)
    → i < length (xs ++ x ∷ []) → P (get_or (xs ++ x ∷ []) i d)
each_more P xs x d h p i l = go (split i (length xs) (length (xs ++ x ∷ [])) (longer xs x) l)
  where
    go : (i < length xs) ⊎ (i ≡ length xs) → P (get_or (xs ++ x ∷ []) i d)
    go (inl k) = subst P (sym (old_at xs (x ∷ []) d i k)) (h i k)
    go (inr e) = subst P (sym (ap (λ v. get_or (xs ++ x ∷ []) v d) e ∙ new_at xs x d)) p

pub none_there : {A X : Type 0} (xs : List X) → xs ≡ [] → (i : ℕ) → i < length xs → A
none_there [] e i l = absurd (omega arith)
none_there (x ∷ xs) e i l = cc

-- ---- steps that were made before
pub read_stays : (o p : Outline) (c : List Buffer) (r : Option ℕ) (m : ℕ) → p.buffers ≡ o.buffers ++ c → m ≤ length o.buffers
    → ((a : ℕ) → r ≡ Some a → a < m) → read_buffer p r ≡ read_buffer o r
read_stays o p c None m e le h = refl
read_stays o p c (Some a) m e le h =
    let below = h a refl in
    ap (λ (bs : List Buffer). get_or bs a no_buffer) e ∙ old_at o.buffers c no_buffer a (omega (arith, below, le))

pub fit_stays : (o p : Outline) (c : List Buffer) (m : ℕ) (g : List ℕ) (s : CollStep) → p.ranks ≡ o.ranks → p.buffers ≡ o.buffers ++ c
    → m ≤ length o.buffers → StepFits o m g s → StepFits p m g s
fit_stays o p c m g s er eb le f =
    let l = ap length eb ∙ length-append o.buffers c in
    let same = read_stays o p c (source_of s) m eb le f.source in
    let kept : (b : ℕ) → b < length o.buffers → buffer_at p b ≡ buffer_at o b =
    λ b lt. ap (λ (bs : List Buffer). get_or bs b no_buffer) eb ∙ old_at o.buffers c no_buffer b lt in
    record {
      members = subst (λ n. AreMembers n g) (sym er) f.members;
      root = f.root;
      source = f.source;
      reads = subst (Reads g s) (sym same) f.reads;
      next = f.next;
      result = λ b e. let r = f.result b e in omega (arith, r, l);
      makes = λ b e. kept b (f.result b e) ∙ f.makes b e
          ∙ ap (λ (x : Buffer). named x.name (buffer_after g s (read_buffer o (source_of s)))) (sym (kept b (f.result b e)))
          ∙ ap (λ (x : Buffer). named (buffer_at p b).name (buffer_after g s x)) (sym same);
    }

-- with a step more, earlier ones are on their groups and make their buffers as before
pub step_old : (o : Outline) (s : CollStep) (k : ℕ) → k < length o.steps → get_or (o.steps ++ s ∷ []) k Barrier ≡ step_at o k
step_old o s k l = old_at o.steps (s ∷ []) Barrier k l

pub made_same : (o p : Outline) (s : CollStep) → p.inputs ≡ o.inputs → p.steps ≡ o.steps ++ s ∷ [] → (k : ℕ) → k ≤ length o.steps
    → made_upto p k ≡ made_upto o k
made_same o p s ei es zero le = ei
made_same o p s ei es (suc k) le =
    ap (λ (t : CollStep). and_one (result_of t) (made_upto p k))
    (ap (λ (ss : List CollStep). get_or ss k Barrier) es ∙ step_old o s k (omega arith))
    ∙ ap (and_one (result_of (step_at o k))) (made_same o p s ei es k (omega arith))

-- ---- names that aren't taken
at_some : {X : Type 0} (name_of : X → List ℕ) (d : X) (name : List ℕ) (xs : List X) → In name (map name_of xs)
    → (i : ℕ) × (i < length xs) × (name_of (get_or xs i d) ≡ name)
at_some name_of d name [] h = absurd h
at_some name_of d name (x ∷ xs) (inl e) = (0, omega arith, e)
at_some name_of d name (x ∷ xs) (inr h) = let w = at_some name_of d name xs h in let l = w.1 in (suc w.0, omega (arith, l), w.2)

pub not_there : {X : Type 0} (name_of : X → List ℕ) (xs : List X) (d : X) (name : List ℕ)
    → is_some (position (λ x. bytes_eq (name_of x) name) xs) ≡ false → In name (map name_of xs) → ⊥
not_there {X = X} name_of xs d name fresh h =
    let p : X → Bool = λ x. bytes_eq (name_of x) name in
    let first = position_or_len p xs in
    let past : length xs ≤ first = none_first first (length xs) (passes_none (nat_lt first (length xs)) first fresh) in
    let w = at_some name_of d name xs h in
    let lt = w.1 in
    clash (bytes_eq (name_of (get_or xs w.0 d)) name) ((bytes_eq-Decides (name_of (get_or xs w.0 d)) name).1 w.2)
    (fails_before_first p xs w.0 d (omega (arith, past, lt)))
  where
    passes_none : (b : Bool) (n : ℕ) → is_some (let o : Option ℕ = cond b (Some n) None in o) ≡ false → b ≡ false
    passes_none true n h = cc
    passes_none false n h = refl

    none_first : (n m : ℕ) → nat_lt n m ≡ false → m ≤ n
    none_first n m h = grind (arith, nat_tests)

    clash : (b : Bool) → b ≡ true → b ≡ false → ⊥
    clash b t f = cc

pub untaken : (a b : Bool) → (a || b) ≡ false → (a ≡ false) × (b ≡ false)
untaken true b h = cc
untaken false b h = (refl, h)
