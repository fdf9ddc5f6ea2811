-- Tables that grow.
use Rattle.std.proofs.Common.{ℕ, ◌+◌, ◌≡◌, ◌≤◌, ◌<◌, List, [], ◌∷◌, ◌++◌, length, map, get_or, refl, ap, sym, subst, ◌∙◌, arith, inl}
use Rattle.std.proofs.Common.{inr}
use Rattle.std.proofs.lemmas.Bool.{cases_lt}
use Rattle.std.proofs.lemmas.List.{get_or_append_left, get_or_push, length_push}
use Rattle.number_lists.specs.Numbers.{from_to}
use Rattle.ptl_types.specs.Elements.{little_endian}
use Rattle.plan_terms.specs.declared.terms.term.Member.{Member}
use Rattle.plan_terms.specs.declared.terms.term.Making.{Making}
use Rattle.plan_terms.specs.terms.Terms.{AreBefore, IsTable, Keeps, Table, Term, made_value, no_term, place_of_term}
use Rattle.plan_terms.specs.terms.Terms.{term_value}
use Rattle.plan_terms.specs.terms.Folds.{IsPlaceOf}

abbrev pub with_term : Table → Term → Table
with_term t x = record { ranks = t.ranks; cells = t.cells; stride = t.stride; terms = t.terms ++ x ∷ [] }

pub same_table : (t : Table) → Keeps t t
same_table t = record { ranks = refl; cells = refl; stride = refl; solution = λ inputs V s. s }

pub kept_on : (t u v : Table) → Keeps t u → Keeps u v → Keeps t v
kept_on t u v h k = record {
  ranks = k.ranks ∙ h.ranks;
  cells = k.cells ∙ h.cells;
  stride = k.stride ∙ h.stride;
  solution = λ inputs V s. h.solution inputs V (k.solution inputs V s);
}

pub one_more : (t : Table) (x : Term) → Keeps t (with_term t x)
one_more t x = record {
  ranks = refl;
  cells = refl;
  stride = refl;
  solution = λ inputs V s. record {
    small = s.small;
    given = s.given;
    terms = λ r h.
        let l : r < length (t.terms ++ x ∷ []) = omega (arith, length_push t.terms x) in
        s.terms r l ∙ ap (λ (y : Term). little_endian 8 (term_value V y)) (get_or_append_left t.terms (x ∷ []) no_term r h);
  };
}

-- the places of a term have its value
pub its_place : (t : Table) (r s : ℕ) (making : Making) (ms : List Member) → r < length t.terms → s ≡ place_of_term t r
    → get_or t.terms r no_term ≡ record { making = making; members = ms } → IsPlaceOf t s making ms
its_place t r s making ms h place is inputs V solution =
    ap (λ p. map V (from_to p 8)) place ∙ solution.terms r h ∙ ap (λ (x : Term). little_endian 8 (term_value V x)) is

pub new_place : (t : Table) (s : ℕ) (making : Making) (ms : List Member) → s ≡ place_of_term t (length t.terms)
    → IsPlaceOf (with_term t (record { making = making; members = ms })) s making ms
new_place t s making ms place =
    let x : Term = record { making = making; members = ms } in
    its_place (with_term t x) (length t.terms) s making ms (omega (arith, length_push t.terms x)) place
    (get_or_push t.terms x no_term (length t.terms) refl)

-- a table with a term more
pub more_is_table : (t : Table) (making : Making) (ms : List Member) → IsTable t → place_of_term t (length t.terms) + 8 ≤ 4294967295
    → AreBefore (place_of_term t (length t.terms)) making ms → IsTable (with_term t (record { making = making; members = ms }))
more_is_table t making ms table room before =
    let x : Term = record { making = making; members = ms } in
    let n = length_push t.terms x in
    record {
      room = omega (arith, n, room);
      before = λ r h.
          let B : Term → Type 0 = λ y. AreBefore (place_of_term t r) y.making y.members in
          elim (cases_lt r (length t.terms)) [
            | inl l ↦ subst B (sym (get_or_append_left t.terms (x ∷ []) no_term r l)) (table.before r l)
            | inr l ↦
                let e : r ≡ length t.terms = omega (arith, n, h, l) in
                subst B (sym (get_or_push t.terms x no_term r (sym e)))
                (subst (λ k. AreBefore (place_of_term t k) making ms) (sym e) before)
          ];
    }

-- the places of a term that is a fold
pub its_fold : (t : Table) (r s : ℕ) (making : Making) → r < length t.terms → s ≡ place_of_term t r
    → (get_or t.terms r no_term).making ≡ making → IsPlaceOf t s making (get_or t.terms r no_term).members
its_fold t r s making h place is inputs V solution =
    ap (λ p. map V (from_to p 8)) place ∙ solution.terms r h
    ∙ ap (λ m. little_endian 8 (made_value V m (get_or t.terms r no_term).members)) is
