-- What is kept line by line of an outline, from which it is well formed. What follows from other facts isn't kept twice.
use Rattle.std.proofs.Common.{◌≡◌, ℕ, zero, suc, ◌+◌, ◌-◌, ◌<◌, ◌≤◌, List, [], ◌∷◌, ◌++◌, length, get_or, Option, Some, None, true, refl}
use Rattle.std.proofs.Common.{sym, ap, arith, subst, inl, inr, ◌⊎◌}
use Rattle.coll_text.specs.Text.{is_name}
use Rattle.number_lists.specs.Members.{In, Distinct}
use Rattle.number_lists.specs.Numbers.{from_to}
use Rattle.coll_shape.specs.declared.types.Version.{Version}
use Rattle.coll_shape.specs.declared.types.Version.TheVariants.{One, Two}
use Rattle.coll_shape.specs.Outline.{Outline, buffer_at, step_at, group_at, no_group}
use Rattle.coll_shape.specs.Collectives.{source_of, result_of, since}
use Rattle.coll_shape.specs.WellFormed.{most_ranks, StandsIn, AreMembers, IsNumber, IsGroup, and_one, made_upto, StepFits, printed_elements}
use Rattle.coll_shape.specs.WellFormed.{names, IsWellFormed}
use Rattle.coll_shape.specs.declared.limits.TheConstants.{MOST_RANKS, MOST_GROUPS, MOST_BUFFERS, MOST_STEPS, MOST_PRINTS, MOST_GIVEN}
use Rattle.coll_shape.specs.declared.limits.TheConstants.{MOST_ELEMENTS}

pub record Facts (o : Outline) : Type 0 where
  pub some_rank : 1 ≤ o.ranks
  pub few_ranks : o.ranks ≤ most_ranks o.version
  pub few_buffers : length o.buffers ≤ MOST_BUFFERS
  pub few_steps : length o.steps ≤ MOST_STEPS
  pub few_prints : length o.prints ≤ MOST_PRINTS
  pub few_groups : length o.groups ≤ MOST_GROUPS
  pub on_groups : length o.on ≡ length o.steps
  pub on_group : (k : ℕ) → k < length o.steps → IsGroup o (get_or o.on k None)
  pub named_members : (i : ℕ) → i < length o.groups → AreMembers o.ranks (get_or o.groups i no_group).members
  pub short : (b : ℕ) → b < length o.buffers → (buffer_at o b).spread.length ≤ MOST_ELEMENTS
  pub printed : (i : ℕ) → i < length o.prints → get_or o.prints i 0 < length o.buffers
  pub groups : (i : ℕ) → i < length o.groups → StandsIn Two o.version
  pub steps : (k : ℕ) → k < length o.steps → StandsIn (since (step_at o k)) o.version
  pub held : (b : ℕ) → b < o.inputs → (buffer_at o b).spread.holders ≡ from_to 0 o.ranks
  pub some : (b : ℕ) → b < o.inputs → 1 ≤ (buffer_at o b).spread.length
  pub small : (b : ℕ) → b < o.inputs → (buffer_at o b).spread.length ≤ MOST_GIVEN
  pub fits : (k : ℕ) → k < length o.steps → StepFits o (made_upto o k) (group_at o k) (step_at o k)
  pub all : made_upto o (length o.steps) ≡ length o.buffers
  pub spelled : (x : List ℕ) → In x (names o) → is_name x ≡ true
  pub distinct : Distinct (names o)
  pub few_printed : printed_elements o ≤ MOST_ELEMENTS

-- ---- members and places
pub in_at : {X : Type 0} (xs : List X) (i : ℕ) (d : X) → i < length xs → In (get_or xs i d) xs
in_at [] i d l = absurd (omega arith)
in_at (x ∷ xs) zero d l = inl refl
in_at (x ∷ xs) (suc i) d l = inr (in_at xs i d (omega arith))

pub apart : {X : Type 0} (xs : List X) (d : X) → Distinct xs → (i j : ℕ) → i < length xs → j < length xs → get_or xs i d ≡ get_or xs j d
    → i ≡ j
apart [] d h i j li lj e = absurd (omega arith)
apart (x ∷ xs) d h zero zero li lj e = refl
apart (x ∷ xs) d h zero (suc j) li lj e = absurd (h.0 (subst (λ v. In v xs) (sym e) (in_at xs j d (omega arith))))
apart (x ∷ xs) d h (suc i) zero li lj e = absurd (h.0 (subst (λ v. In v xs) e (in_at xs i d (omega arith))))
apart (x ∷ xs) d h (suc i) (suc j) li lj e = ap (λ v. suc v) (apart xs d h.1 i j (omega arith) (omega arith) e)

pub in_left : {X : Type 0} (x : X) (xs ys : List X) → In x xs → In x (xs ++ ys)
in_left x [] ys h = absurd h
in_left x (y ∷ xs) ys (inl e) = inl e
in_left x (y ∷ xs) ys (inr h) = inr (in_left x xs ys h)

pub in_right : {X : Type 0} (x : X) (xs ys : List X) → In x ys → In x (xs ++ ys)
in_right x [] ys h = h
in_right x (y ∷ xs) ys h = inr (in_right x xs ys h)

pub in_either : {X : Type 0} (x : X) (xs ys : List X) → In x (xs ++ ys) → In x xs ⊎ In x ys
in_either x [] ys h = inr h
in_either x (y ∷ xs) ys (inl e) = inl (inl e)
in_either x (y ∷ xs) ys (inr h) = later (in_either x xs ys h)
  where
    later : In x xs ⊎ In x ys → In x (y ∷ xs) ⊎ In x ys
    later (inl k) = inl (inr k)
    later (inr k) = inr k

-- one more that is new stands apart, wherever it is put
pub apart_too : {X : Type 0} (x : X) (xs ys : List X) → Distinct (xs ++ ys) → (In x (xs ++ ys) → ⊥) → Distinct (xs ++ x ∷ ys)
apart_too x [] ys h new = (new, h)
apart_too x (y ∷ xs) ys h new = (other, apart_too x xs ys h.1 (λ k. new (inr k)))
  where
    other : In y (xs ++ x ∷ ys) → ⊥
    other k = go (in_either y xs (x ∷ ys) k)
      where
        go : In y xs ⊎ In y (x ∷ ys) → ⊥
        go (inl i) = h.0 (in_left y xs ys i)
        go (inr (inl e)) = new (inl (sym e))
        go (inr (inr i)) = h.0 (in_right y xs ys i)

pub in_inserted : {X : Type 0} (y x : X) (xs ys : List X) → In y (xs ++ x ∷ ys) → (x ≡ y) ⊎ In y (xs ++ ys)
in_inserted y x xs ys h = go (in_either y xs (x ∷ ys) h)
  where
    go : In y xs ⊎ In y (x ∷ ys) → (x ≡ y) ⊎ In y (xs ++ ys)
    go (inl i) = inr (in_left y xs ys i)
    go (inr (inl e)) = inl e
    go (inr (inr i)) = inr (in_right y xs ys i)

-- ---- buffers that are made
made_grows : (o : Outline) (k : ℕ) → o.inputs ≤ made_upto o k
made_grows o zero = omega arith
made_grows o (suc k) = more (result_of (step_at o k)) (made_upto o k) (made_grows o k)
  where
    more : (r : Option ℕ) (m : ℕ) → o.inputs ≤ m → o.inputs ≤ and_one r m
    more None m h = h
    more (Some b) m h = omega (arith, h)

made_below : (o : Outline) (k n : ℕ) → made_upto o k ≤ made_upto o (k + n)
made_below o k zero =
    subst (λ v. made_upto o k ≤ made_upto o v) (let e : k ≡ k + 0 = omega arith in e)
    (let z : made_upto o k ≤ made_upto o k = omega arith in z)
made_below o k (suc n) =
    subst (λ v. made_upto o k ≤ made_upto o v) (let e : suc (k + n) ≡ k + suc n = omega arith in e)
    (more (result_of (step_at o (k + n))) (made_upto o (k + n)) (made_below o k n))
  where
    more : (r : Option ℕ) (m : ℕ) → made_upto o k ≤ m → made_upto o k ≤ and_one r m
    more None m h = h
    more (Some b) m h = omega (arith, h)

pub made_most : (o : Outline) (k l : ℕ) → k ≤ l → made_upto o k ≤ made_upto o l
made_most o k l le = subst (λ v. made_upto o k ≤ made_upto o v) (let e : k + (l - k) ≡ l = omega arith in e) (made_below o k (l - k))

pub few_of : (v : Version) (n : ℕ) → n ≤ most_ranks v → n ≤ MOST_RANKS
few_of One n h = omega (arith, h)
few_of Two n h = h

-- ---- so it is well formed
pub formed : (o : Outline) → Facts o → IsWellFormed o
formed o f = record {
  shape = record {
    some_rank = f.some_rank;
    few_ranks = few_of o.version o.ranks f.few_ranks;
    few_buffers = f.few_buffers;
    few_inputs = let a = made_grows o (length o.steps) in let b = f.all in omega (arith, a, b);
    few_steps = f.few_steps;
    few_prints = f.few_prints;
    few_groups = f.few_groups;
    on_groups = f.on_groups;
    on_group = f.on_group;
    named_members = f.named_members;
    members = λ k l. (f.fits k l).members;
    sources = λ k l. source_in (source_of (step_at o k)) k l (λ a e. (f.fits k l).source a e);
    results = λ k l. result_in (result_of (step_at o k)) (λ b e. (f.fits k l).result b e);
    short = f.short;
    printed = f.printed;
  };
  version = record { few_ranks = f.few_ranks; groups = f.groups; steps = f.steps };
  held = f.held;
  some = f.some;
  short = f.small;
  fits = f.fits;
  all = f.all;
  spelled = λ i l. f.spelled (get_or (names o) i []) (in_at (names o) i [] l);
  distinct = λ i j li lj e. apart (names o) [] f.distinct i j li lj e;
  few_printed = f.few_printed;
}
  where
    source_in : (r : Option ℕ) (k : ℕ) → k < length o.steps → ((a : ℕ) → r ≡ Some a → a < made_upto o k) → IsNumber o r
    source_in None k l h = tt
    source_in (Some a) k l h =
        let below = h a refl in
        let m = made_most o k (length o.steps) (let z : k ≤ length o.steps = omega arith in z) in
        let e = f.all in
        omega (arith, below, m, e)

    result_in : (r : Option ℕ) → ((b : ℕ) → r ≡ Some b → b < length o.buffers) → IsNumber o r
    result_in None h = tt
    result_in (Some b) h = h b refl
