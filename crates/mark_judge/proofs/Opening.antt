-- Which lines are open ones: some entry into their step doesn't lead there.
use Rattle.std.proofs.Common.{ℕ, Bool, true, false, cond, not, ◌&&◌, ◌||◌, ◌≡◌, ◌+◌, ◌<◌, ◌≤◌, ◌==◌, List, [], ◌∷◌, refl, ap, ap₂}
use Rattle.std.proofs.Common.{◌∙◌, sym, length, get_or, set, take, drop, inl, inr, arith}
use Rattle.std.specs.List.{list_any}
use Rattle.std.proofs.lemmas.Bool.{cases_eq}
use Rattle.std.proofs.lemmas.List.{get_or-set_other, get_or-set_same, length-set, take-append-drop}
use Rattle.std.proofs.lemmas.List.Folds.{list_any-append}
use Rattle.given_lines.specs.declared.given.Mark.{Mark}
use Rattle.given_lines.specs.declared.given.Mark.TheVariants.{Result, Enter, Leave}
use Rattle.mark_judge.specs.declared.entry_bits.Bits.{Bits}
use Rattle.mark_judge.specs.declared.entries.Entry.{Entry}
use Rattle.mark_judge.specs.Due.{cell_of, mark_at}
use Rattle.mark_judge.specs.Judged.{is_apart, is_open}
use Rattle.mark_judge.specs.Leading.{leads}
use Rattle.mark_judge.specs.Tables.{AreReached, does_lack, does_miss, entries_in, entry_at, is_unmet, no_bits, no_entry}
use Rattle.mark_judge.proofs.Tests.{any_none, any_places, or-false, or_assoc}
use Rattle.plan_core.specs.Plan.{Plan}

-- ---- a line by the words of its cell
pub unmet_is : (p : Plan) (es : List Entry) (roots : List ℕ) (words : List Bits) (m : Mark) → AreReached p es roots words
    → cell_of m < length p.cells → is_unmet roots words es m ≡ list_any (does_miss p m) es
unmet_is p es roots words (Result b r c) reached h = sym (any_none (does_miss p (Result b r c)) es (λ e i. refl))
unmet_is p es roots words (Enter s r c) reached h = sym (any_none (does_miss p (Enter s r c)) es (λ e i. refl))
unmet_is p es roots words (Leave s r c) reached h =
    any_places (does_miss p (Leave s r c)) no_entry (does_lack (get_or words (get_or roots c 0) no_bits) es s) 0 es
    (λ i j lt e. let q : j ≡ i = omega (arith, e) in
    ap (does_lack (get_or words (get_or roots c 0) no_bits) es s) q
    ∙ ap (λ t. ((entry_at es i).step == s) && not t) (reached c i h lt))

-- ---- a line among all that is noted
-- by entries instead of lines
pub open_is : (p : Plan) (ms : List Mark) (m : Mark) → list_any (does_miss p m) (entries_in ms) ≡ is_open p ms m
open_is p ms (Result b r c) = any_none (does_miss p (Result b r c)) (entries_in ms) (λ e i. refl)
open_is p ms (Enter s r c) = any_none (does_miss p (Enter s r c)) (entries_in ms) (λ e i. refl)
open_is p ms (Leave s r c) = among ms
  where
    among : (xs : List Mark) → list_any (does_miss p (Leave s r c)) (entries_in xs) ≡ list_any (is_apart p s c) xs
    among [] = refl
    among (Result b q d ∷ xs) = among xs
    among (Enter t q b ∷ xs) = ap (λ x. ((t == s) && not (leads p b c)) || x) (among xs)
    among (Leave t q d ∷ xs) = among xs

-- ---- a line is noted
abbrev pub AreUnmetTo : List Bool → List ℕ → List Bits → List Entry → List Mark → ℕ → List Bool → Type 0
AreUnmetTo old roots words es ms n new =
    ((j : ℕ) → j < n → get_or new j false ≡ (get_or old j false || is_unmet roots words es (mark_at ms j)))
    × ((j : ℕ) → n ≤ j → get_or new j false ≡ get_or old j false)

noted_here : (xs : List Bool) (i : ℕ) (so : Bool) → i < length xs
    → get_or (cond so (set xs i true) xs) i false ≡ (get_or xs i false || so)
noted_here xs i true h = get_or-set_same xs i true false h ∙ sym (or_true (get_or xs i false))
  where
    or_true : (b : Bool) → (b || true) ≡ true
    or_true true = refl
    or_true false = refl
noted_here xs i false h = sym (or-false (get_or xs i false))

noted_other : (xs : List Bool) (i j : ℕ) (so : Bool) → (j ≡ i → ⊥) → get_or (cond so (set xs i true) xs) j false ≡ get_or xs j false
noted_other xs i j true ne = get_or-set_other xs i j true false ne
noted_other xs i j false ne = refl

pub length_noted : (xs : List Bool) (i : ℕ) (so : Bool) → length (cond so (set xs i true) xs) ≡ length xs
length_noted xs i true = length-set xs i true
length_noted xs i false = refl

or_new : (o u : Bool) → (o || (not o && u)) ≡ (o || u)
or_new true u = refl
or_new false u = refl

pub unmet_more : (old : List Bool) (roots : List ℕ) (words : List Bits) (es : List Entry) (ms : List Mark) (i : ℕ) (now new : List Bool)
    → (m : Mark) (so : Bool)
    → i < length now → m ≡ mark_at ms i → so ≡ (not (get_or now i false) && is_unmet roots words es m) → new ≡ cond so (set now i true) now
    → AreUnmetTo old roots words es ms i now → AreUnmetTo old roots words es ms (i + 1) new
unmet_more old roots words es ms i now new m so h is told noted before = (
  (λ j lt. elim (cases_eq j i) [
    | inl e ↦ ap (λ n. get_or new n false) e
        ∙ ap (λ (xs : List Bool). get_or xs i false) noted
        ∙ noted_here now i so h
        ∙ ap (λ t. get_or now i false || t) told
        ∙ or_new (get_or now i false) (is_unmet roots words es m)
        ∙ ap₂ (λ a b. a || b) (before.1 i (omega arith)) (ap (is_unmet roots words es) is)
        ∙ ap (λ n. get_or old n false || is_unmet roots words es (mark_at ms n)) (sym e)
    | inr ne ↦ ap (λ (xs : List Bool). get_or xs j false) noted
        ∙ noted_other now i j so ne
        ∙ before.0 j (omega (arith, lt, ne))
  ]),
  (λ j le. ap (λ (xs : List Bool). get_or xs j false) noted
      ∙ noted_other now i j so (λ q. absurd (omega (arith, le, q)))
      ∙ before.1 j (omega (arith, le))),
)

-- ---- so many entries more
pub some_more : {X : Type 0} (f : X → Bool) (left some rest : List X) (n : ℕ) (old new whole : Bool) → some ≡ take n left
    → rest ≡ drop n left → new ≡ (old || list_any f some) → (old || list_any f left) ≡ whole → (new || list_any f rest) ≡ whole
some_more f left some rest n old new whole a b e before =
    ap (λ t. t || list_any f rest) e
    ∙ or_assoc old (list_any f some) (list_any f rest)
    ∙ ap (λ t. old || t)
    (ap₂ (λ xs ys. list_any f xs || list_any f ys) a b
    ∙ sym (list_any-append f (take n left) (drop n left))
    ∙ ap (list_any f) (take-append-drop n left))
    ∙ before
