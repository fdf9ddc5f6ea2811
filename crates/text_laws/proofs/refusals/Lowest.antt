-- The first of the names, in the order of their numbers, is the lowest row that is offended.
use Rattle.std.proofs.Common.{◌≡◌, ◌≤◌, ◌<◌, ℕ, suc, ◌+◌, ◌-◌, List, [], ◌∷◌, length, get_or, Option, Some, None, Result, Ok, Err, Bool}
use Rattle.std.proofs.Common.{true, false, cond, refl, sym, ap, ◌∙◌, arith, subst, inl, inr, ◌⊎◌}
use Rattle.coll_lang.specs.Words.{refusal_number}
use Rattle.coll_lang.specs.declared.fault.Refusal.{Refusal}
use Rattle.coll_lang.specs.declared.fault.Refusal.TheVariants.{TooLong, BadByte, BadHeader, BadRanks, BadLine, BadNumber, NameTaken}
use Rattle.coll_lang.specs.declared.fault.Refusal.TheVariants.{UnknownBuffer, BadRoot, WrongShape, TooMany, TooLarge, Unended, AfterEnd}
use Rattle.coll_lang.specs.declared.fault.Refusal.TheVariants.{BadOrder, BadGroup, BadJson, BadForm, OneThread}
use Rattle.text_laws.specs.refusals.Table.{IsLowest}

pub way : (b : Bool) → (b ≡ true) ⊎ (b ≡ false)
way true = inl refl
way false = inr refl

-- the first of these that is offended
abbrev pub first_of : (Refusal → Bool) → List Refusal → Option Refusal
first_of offends [] = None
first_of offends (n ∷ ns) = cond (offends n) (Some n) (first_of offends ns)

-- rows with whether each is offended, and the first that is
abbrev pub first_row : List (Refusal × Bool) → Option Refusal
first_row [] = None
first_row (row ∷ rows) = cond row.1 (Some row.0) (first_row rows)

abbrev pub refusal_in : {A : Type 0} → Result A Refusal → Option Refusal
refusal_in (Ok x) = None
refusal_in (Err name) = Some name

-- by number, from 1 on
abbrev pub all_names : List Refusal
all_names =
    TooLong ∷ BadByte ∷ BadHeader ∷ BadRanks ∷ BadLine ∷ BadNumber ∷ NameTaken ∷ UnknownBuffer ∷ BadRoot ∷ WrongShape
    ∷ TooMany ∷ TooLarge ∷ Unended ∷ AfterEnd ∷ BadOrder ∷ BadGroup ∷ BadJson ∷ BadForm ∷ OneThread ∷ []

at_number : (name : Refusal) → get_or all_names (refusal_number name - 1) TooLong ≡ name
at_number TooLong = refl
at_number BadByte = refl
at_number BadHeader = refl
at_number BadRanks = refl
at_number BadLine = refl
at_number BadNumber = refl
at_number NameTaken = refl
at_number UnknownBuffer = refl
at_number BadRoot = refl
at_number WrongShape = refl
at_number TooMany = refl
at_number TooLarge = refl
at_number Unended = refl
at_number AfterEnd = refl
at_number BadOrder = refl
at_number BadGroup = refl
at_number BadJson = refl
at_number BadForm = refl
at_number OneThread = refl

ranged : (name : Refusal) → (1 ≤ refusal_number name) × (refusal_number name < 20)
ranged TooLong = (omega arith, omega arith)
ranged BadByte = (omega arith, omega arith)
ranged BadHeader = (omega arith, omega arith)
ranged BadRanks = (omega arith, omega arith)
ranged BadLine = (omega arith, omega arith)
ranged BadNumber = (omega arith, omega arith)
ranged NameTaken = (omega arith, omega arith)
ranged UnknownBuffer = (omega arith, omega arith)
ranged BadRoot = (omega arith, omega arith)
ranged WrongShape = (omega arith, omega arith)
ranged TooMany = (omega arith, omega arith)
ranged TooLarge = (omega arith, omega arith)
ranged Unended = (omega arith, omega arith)
ranged AfterEnd = (omega arith, omega arith)
ranged BadOrder = (omega arith, omega arith)
ranged BadGroup = (omega arith, omega arith)
ranged BadJson = (omega arith, omega arith)
ranged BadForm = (omega arith, omega arith)
ranged OneThread = (omega arith, omega arith)

same_number : (a b : Refusal) → refusal_number a ≡ refusal_number b → a ≡ b
same_number a b e = sym (at_number a) ∙ (ap (λ i. get_or all_names (i - 1) TooLong) e ∙ at_number b)

-- names with the numbers from k on
NumberedFrom : ℕ → List Refusal → Type 0
NumberedFrom k [] = Unit {0}
NumberedFrom k (n ∷ ns) = (refusal_number n ≡ k) × NumberedFrom (suc k) ns

all_numbered : NumberedFrom 1 all_names
unfolding NumberedFrom
all_numbered = (
  refl,
  (
    refl,
    (
      refl,
      (refl, (refl, (refl, (refl, (refl, (refl, (refl, (refl, (refl, (refl, (refl, (refl, (refl, (refl, (refl, (refl, tt)))))))))))))))),
    ),
  ),
)

here_or_later : (k m : ℕ) → k ≤ m → (m ≡ k) ⊎ (suc k ≤ m)
here_or_later k m l = grind arith

pub clash : {A : Type 0} → true ≡ false → A
clash e = absurd (never e)
  where
    never : true ≡ false → ⊥
    never e = cc

no_name : {A : Type 0} (n : Refusal) → Some n ≡ None → A
no_name n e = absurd (never n e)
  where
    never : (n : Refusal) → Some n ≡ None → ⊥
    never n e = cc

same_name : (a b : Refusal) → Some a ≡ Some b → a ≡ b
same_name a b e = cc

-- the first of names from k on is offended, and is the lowest of those from k on
lowest_from : (offends : Refusal → Bool) (k : ℕ) (ns : List Refusal) (name : Refusal) → NumberedFrom k ns → first_of offends ns ≡ Some name
    → (offends name ≡ true) × ((other : Refusal) → k ≤ refusal_number other → offends other ≡ true
    → refusal_number name ≤ refusal_number other)
unfolding NumberedFrom
lowest_from offends k [] name h e = absurd (never name e)
  where
    never : (n : Refusal) → None ≡ Some n → ⊥
    never n e = cc
lowest_from offends k (n ∷ ns) name h e = elim (way (offends n)) [
  | inl is ↦
      let same : n ≡ name = same_name n name (sym (ap (λ b. cond b (Some n) (first_of offends ns)) is) ∙ e) in (
        subst (λ x. offends x ≡ true) same is,
        λ other l o. subst
            (λ x. refusal_number x ≤ refusal_number other) same (let at = h.0 in omega (arith, at, l)),
      )
  | inr isnt ↦
      let rest = lowest_from offends (suc k) ns name h.1 (sym (ap (λ b. cond b (Some n) (first_of offends ns)) isnt) ∙ e) in (
        rest.0,
        λ other l o. elim (here_or_later k (refusal_number other) l) [
          | inl at ↦ clash (sym o ∙ (ap offends (same_number other n (at ∙ sym h.0)) ∙ isnt))
          | inr later ↦ rest.1 other later o
        ],
      )
]

none_from : (offends : Refusal → Bool) (k : ℕ) (ns : List Refusal) → NumberedFrom k ns → first_of offends ns ≡ None
    → (other : Refusal) → k ≤ refusal_number other → refusal_number other < k + length ns → offends other ≡ false
unfolding NumberedFrom
none_from offends k [] h e other l u = absurd (omega (arith, l, u))
none_from offends k (n ∷ ns) h e other l u = elim (way (offends n)) [
  | inl is ↦ no_name n (sym (ap (λ b. cond b (Some n) (first_of offends ns)) is) ∙ e)
  | inr isnt ↦ elim (here_or_later k (refusal_number other) l) [
    | inl at ↦ ap offends (same_number other n (at ∙ sym h.0)) ∙ isnt
    | inr later ↦ none_from offends (suc k) ns h.1 (sym (ap (λ b. cond b (Some n) (first_of offends ns)) isnt) ∙ e) other later
        (omega (arith, u))
  ]
]

pub lowest_of : (offends : Refusal → Bool) (name : Refusal) → first_of offends all_names ≡ Some name → IsLowest offends name
lowest_of offends name e =
    let h = lowest_from offends 1 all_names name all_numbered e in
    record { offends_it = h.0; lowest = λ other o. h.1 other (ranged other).0 o }

pub none_of : (offends : Refusal → Bool) → first_of offends all_names ≡ None → (name : Refusal) → offends name ≡ false
none_of offends e name = none_from offends 1 all_names all_numbered e name (ranged name).0 (ranged name).1

pub first_is : (offends : Refusal → Bool) (name : Refusal) → IsLowest offends name → first_of offends all_names ≡ Some name
first_is offends name h = go (first_of offends all_names) refl
  where
    go : (r : Option Refusal) → first_of offends all_names ≡ r → r ≡ Some name
    go None e = clash (sym h.offends_it ∙ none_of offends e name)
    go (Some m) e =
        let low = lowest_of offends m e in
        let le = low.lowest name h.offends_it in
        let ge = h.lowest m low.offends_it in
        ap (λ n. Some n) (same_number m name (omega (arith, le, ge)))

pub none_is : (offends : Refusal → Bool) → ((name : Refusal) → offends name ≡ false) → first_of offends all_names ≡ None
none_is offends h = go (first_of offends all_names) refl
  where
    go : (r : Option Refusal) → first_of offends all_names ≡ r → r ≡ None
    go None e = refl
    go (Some m) e = clash (sym (lowest_of offends m e).offends_it ∙ h m)
