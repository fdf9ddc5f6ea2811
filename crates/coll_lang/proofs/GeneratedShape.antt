-- The generated shape is well formed.
use Rattle.std.proofs.Common.{◌≡◌, ℕ, zero, suc, ◌+◌, ◌<◌, ◌≤◌, List, [], ◌∷◌, length, map, get_or, Option, Some, None, true, refl, sym, ap}
use Rattle.std.proofs.Common.{◌∙◌, arith, subst, codes}
use Rattle.ptl_types.specs.declared.elements.ElemType.TheVariants.{U32}
use Rattle.std.specs.Prelude.{All}
use Rattle.std.specs.List.{AllByRecursion}
use Rattle.std.proofs.lemmas.List.Elements.{All-cons, All-nil}
use Rattle.coll_text.specs.Text.{is_name}
use Rattle.number_lists.specs.Members.{In}
use Rattle.number_lists.specs.Numbers.{from_to}
use Rattle.ptl_types.specs.declared.elements.AtomicOp.TheVariants.{Sum, Max}
use Rattle.coll_shape.specs.declared.types.Buffer.{Buffer}
use Rattle.coll_shape.specs.declared.types.CollStep.{CollStep}
use Rattle.coll_shape.specs.declared.types.CollStep.TheVariants.{Allreduce, Allgather, Alltoall, Scan}
use Rattle.coll_shape.specs.Outline.{Outline, buffer_at, group_at, members_of, read_buffer, step_at}
use Rattle.coll_shape.specs.Collectives.{AllHold, IsRoot, Reads, buffer_after, named, result_of, since, source_of}
use Rattle.coll_shape.specs.WellFormed.{AreMembers, FitsVersion, IsGroup, IsNumber, IsShape, IsWellFormed, StandsIn, StepFits, made_upto}
use Rattle.coll_shape.specs.WellFormed.{names, printed_elements}
use Rattle.coll_shape.specs.declared.limits.TheConstants.{MOST_RANKS, MOST_GIVEN, MOST_ELEMENTS}
use Rattle.coll_lang.specs.Generated.{even_words, everyone, generated_shape}
use Rattle.coll_lang.specs.Held.{IsSmall}
use Rattle.coll_lang.proofs.Facts.{in_at}
use Rattle.coll_lang.proofs.SoundSteps.{everyone_are}

abbrev o : Outline
o = generated_shape

abbrev g : List ℕ
g = from_to 0 64

all_of_them : everyone ≡ from_to 0 64
unfolding everyone
all_of_them = refl

never : {A : Type 0} (n k : ℕ) → n + k < n → A
never n k l = absurd (above n k l)
  where
    above : (n k : ℕ) → n + k < n → ⊥
    above n k l = omega (arith, l)

-- ---- who is in it
no_group_at : (k : ℕ) → get_or o.on k None ≡ None
no_group_at zero = refl
no_group_at (suc zero) = refl
no_group_at (suc (suc zero)) = refl
no_group_at (suc (suc (suc zero))) = refl
no_group_at (suc (suc (suc (suc zero)))) = refl
no_group_at (suc (suc (suc (suc (suc k))))) = refl

on_all : (k : ℕ) → group_at o k ≡ g
on_all k = ap (members_of g o.groups) (no_group_at k)

members_are : AreMembers 64 g
members_are = everyone_are 64 (omega arith) (omega arith)

all_hold : (x : Buffer) → x.spread.holders ≡ g → AllHold g x
all_hold x e = λ i l. subst (In (get_or g i 0)) (sym e) (in_at g i 0 l)

-- ---- a step from A to B
same : (x y : ℕ) → Some x ≡ Some y → x ≡ y
same x y e = cc

fit : (m : ℕ) (s : CollStep) (a b : ℕ) → source_of s ≡ Some a → result_of s ≡ Some b → IsRoot s (length g) → a < m
    → Reads g s (buffer_at o a) → b ≡ m → b < length o.buffers
    → buffer_at o b ≡ named (buffer_at o b).name (buffer_after g s (buffer_at o a)) → StepFits o m g s
fit m s a b es er root earlier reads next there makes = record {
  members = members_are;
  root = root;
  source = λ x e. subst (λ n. n < m) (same a x (sym es ∙ e)) earlier;
  reads = subst (Reads g s) (sym read) reads;
  next = λ x e. sym (same b x (sym er ∙ e)) ∙ next;
  result = λ x e. subst (λ n. n < length o.buffers) (same b x (sym er ∙ e)) there;
  makes = λ x e. subst (λ n. buffer_at o n ≡ named (buffer_at o n).name (buffer_after g s (read_buffer o (source_of s))))
      (same b x (sym er ∙ e))
      (subst (λ (y : Buffer). buffer_at o b ≡ named (buffer_at o b).name (buffer_after g s y)) (sym read) makes);
}
  where
    read : read_buffer o (source_of s) ≡ buffer_at o a
    read = ap (read_buffer o) es

held_alike : (name : List ℕ) (count : ℕ)
    → (let f : List ℕ → Buffer = λ h. record { name = name; ty = U32; spread = record { length = count; holders = h } } in f everyone ≡ f g)
held_alike name count =
    ap (λ (h : List ℕ). let b : Buffer = record { name = name; ty = U32; spread = record { length = count; holders = h } } in b) all_of_them

fits_at : (k : ℕ) → k < 5 → StepFits o (made_upto o k) g (step_at o k)
fits_at zero l = fit 1 (Allreduce Sum 0 1) 0 1 refl refl tt (omega arith) (all_hold (buffer_at o 0) all_of_them) refl (omega arith)
    (held_alike (codes "b") 64)
fits_at (suc zero) l =
    fit 2 (Scan Max 0 2) 0 2 refl refl tt (omega arith) (all_hold (buffer_at o 0) all_of_them) refl (omega arith)
    (held_alike (codes "c") 64)
fits_at (suc (suc zero)) l =
    fit 3 (Allgather 0 3) 0 3 refl refl tt (omega arith) (all_hold (buffer_at o 0) all_of_them) refl (omega arith)
    (held_alike (codes "d") 4096)
fits_at (suc (suc (suc zero))) l =
    fit 4 (Alltoall 0 4) 0 4 refl refl tt (omega arith) (all_hold (buffer_at o 0) all_of_them, refl) refl (omega arith)
    (held_alike (codes "e") 64)
fits_at (suc (suc (suc (suc zero)))) l = record {
  members = members_are;
  root = tt;
  source = λ x e. none x e;
  reads = tt;
  next = λ x e. none x e;
  result = λ x e. none x e;
  makes = λ x e. none x e;
}
  where
    none : {A : Type 0} (x : ℕ) → (let n : Option ℕ = None in n ≡ Some x) → A
    none x e = absurd (clash x e)
      where
        clash : (x : ℕ) → (let n : Option ℕ = None in n ≡ Some x) → ⊥
        clash x e = cc
fits_at (suc (suc (suc (suc (suc k))))) l = never 5 k (omega (arith, l))

-- ---- numbers in range
sources_at : (k : ℕ) → k < 5 → IsNumber o (source_of (step_at o k))
sources_at zero l = omega arith
sources_at (suc zero) l = omega arith
sources_at (suc (suc zero)) l = omega arith
sources_at (suc (suc (suc zero))) l = omega arith
sources_at (suc (suc (suc (suc zero)))) l = tt
sources_at (suc (suc (suc (suc (suc k))))) l = never 5 k (omega (arith, l))

results_at : (k : ℕ) → k < 5 → IsNumber o (result_of (step_at o k))
results_at zero l = omega arith
results_at (suc zero) l = omega arith
results_at (suc (suc zero)) l = omega arith
results_at (suc (suc (suc zero))) l = omega arith
results_at (suc (suc (suc (suc zero)))) l = tt
results_at (suc (suc (suc (suc (suc k))))) l = never 5 k (omega (arith, l))

short_at : (b : ℕ) → b < 5 → (buffer_at o b).spread.length ≤ MOST_ELEMENTS
short_at zero l = omega arith
short_at (suc zero) l = omega arith
short_at (suc (suc zero)) l = omega arith
short_at (suc (suc (suc zero))) l = omega arith
short_at (suc (suc (suc (suc zero)))) l = omega arith
short_at (suc (suc (suc (suc (suc b))))) l = never 5 b (omega (arith, l))

printed_at : (i : ℕ) → i < 5 → get_or o.prints i 0 < 5
printed_at zero l = omega arith
printed_at (suc zero) l = omega arith
printed_at (suc (suc zero)) l = omega arith
printed_at (suc (suc (suc zero))) l = omega arith
printed_at (suc (suc (suc (suc zero)))) l = omega arith
printed_at (suc (suc (suc (suc (suc i))))) l = never 5 i (omega (arith, l))

since_at : (k : ℕ) → k < 5 → StandsIn (since (step_at o k)) o.version
since_at zero l = tt
since_at (suc zero) l = tt
since_at (suc (suc zero)) l = tt
since_at (suc (suc (suc zero))) l = tt
since_at (suc (suc (suc (suc zero)))) l = tt
since_at (suc (suc (suc (suc (suc k))))) l = never 5 k (omega (arith, l))

-- ---- names
spelled_at : (i : ℕ) → i < 5 → is_name (get_or (names o) i []) ≡ true
spelled_at zero l = refl
spelled_at (suc zero) l = refl
spelled_at (suc (suc zero)) l = refl
spelled_at (suc (suc (suc zero))) l = refl
spelled_at (suc (suc (suc (suc zero)))) l = refl
spelled_at (suc (suc (suc (suc (suc i))))) l = never 5 i (omega (arith, l))

-- the letters are in order
letter_at : (i : ℕ) → i < 5 → get_or (get_or (names o) i []) 0 0 ≡ 97 + i
letter_at zero l = refl
letter_at (suc zero) l = omega arith
letter_at (suc (suc zero)) l = omega arith
letter_at (suc (suc (suc zero))) l = omega arith
letter_at (suc (suc (suc (suc zero)))) l = omega arith
letter_at (suc (suc (suc (suc (suc i))))) l = never 5 i (omega (arith, l))

apart : (i j : ℕ) → i < 5 → j < 5 → get_or (names o) i [] ≡ get_or (names o) j [] → i ≡ j
apart i j li lj e =
    let a = letter_at i li in
    let b = letter_at j lj in
    let c = ap (λ (x : List ℕ). get_or x 0 0) e in
    omega (arith, a, b, c)

-- ---- the whole shape
none_there : {A : Type 0} (i : ℕ) → i < 0 → A
none_there i l = absurd (omega (arith, l))

one_alone : (P : ℕ → Type 0) → P 0 → (b : ℕ) → b < 1 → P b
one_alone P p zero l = p
one_alone P p (suc b) l = absurd (omega (arith, l))

shape : IsShape o
shape = record {
  some_rank = omega arith;
  few_ranks = omega arith;
  few_buffers = omega arith;
  few_inputs = omega arith;
  few_steps = omega arith;
  few_prints = omega arith;
  few_groups = omega arith;
  on_groups = refl;
  on_group = λ k l. subst (IsGroup o) (sym (no_group_at k)) tt;
  named_members = λ i l. none_there i l;
  members = λ k l. subst (AreMembers 64) (sym (on_all k)) members_are;
  sources = sources_at;
  results = results_at;
  short = short_at;
  printed = printed_at;
}

version : FitsVersion o
version = record { few_ranks = omega arith; groups = λ i l. none_there i l; steps = since_at }

elements_are : printed_elements o ≡ 278528
unfolding everyone
elements_are = refl

pub generated_formed : IsWellFormed o
generated_formed = record {
  shape = shape;
  version = version;
  held = one_alone (λ b. (buffer_at o b).spread.holders ≡ from_to 0 64) all_of_them;
  some = one_alone (λ b. 1 ≤ (buffer_at o b).spread.length) (omega arith);
  short = one_alone (λ b. (buffer_at o b).spread.length ≤ MOST_GIVEN) (omega arith);
  fits = λ k l. subst (λ (m : List ℕ). StepFits o (made_upto o k) m (step_at o k)) (sym (on_all k)) (fits_at k l);
  all = refl;
  spelled = spelled_at;
  distinct = apart;
  few_printed = (let e = elements_are in omega (arith, e));
}

-- each buffer is small
everyone_few : length everyone ≤ MOST_RANKS
everyone_few = let e = ap length all_of_them in omega (arith, e)

abbrev words_are_small : List (List ℕ × ℕ) → Type 0
words_are_small ws = AllByRecursion (λ w. w.1 ≤ MOST_ELEMENTS) ws

abbrev words_of : List (List ℕ × ℕ) → List Buffer
words_of ws = map (λ w. even_words w.0 w.1) ws

all_small : (ws : List (List ℕ × ℕ)) → words_are_small ws → All IsSmall (words_of ws)
all_small [] h = All-nil IsSmall
all_small (w ∷ ws) h = All-cons IsSmall (even_words w.0 w.1) (words_of ws) (record { short = h.0; at_most = everyone_few })
    (all_small ws h.1)

pub buffers_small : All IsSmall o.buffers
buffers_small = all_small ((codes "a", 64) ∷ (codes "b", 64) ∷ (codes "c", 64) ∷ (codes "d", 4096) ∷ (codes "e", 64) ∷ [])
    (omega arith, (omega arith, (omega arith, (omega arith, (omega arith, tt)))))
