-- A data line, word by word.
use Rattle.std.proofs.Common.{◌≡◌, ℕ, suc, ◌-◌, ◌<◌, List, [], ◌∷◌, ◌++◌, length, Option, Some, None, Result, Ok, Err, Bool, true, false}
use Rattle.std.proofs.Common.{cond, eqb, ◌≢◌, ◌&&◌, not, refl, sym, ap, arith, append_assoc}
use Rattle.std.proofs.lemmas.List.{append-nil}
use Rattle.std.proofs.lemmas.Bool.Decides.{nat_tests}
use Rattle.std.specs.Prelude.{option_map, ◌==◌, if◌then◌else◌}
use Rattle.std.specs.List.{list_any}
use Rattle.ptl_types.specs.Operations.{bytes_of}
use Rattle.ptl_types.specs.Elements.{little_endian}
use Rattle.coll_text.specs.Text.{is_empty}
use Rattle.coll_text.specs.Values.{value_of, all_values, or_no_value, data_line}
use Rattle.ptl_types.specs.declared.elements.ElemType.{ElemType}
use Rattle.coll_text.specs.declared.values.Flaw.{Flaw}
use Rattle.coll_text.specs.declared.values.Flaw.TheVariants.{Malformed, NoValue}

-- what is read in the end, where so many words are still due, a word was no value or not, and the bytes are these
unfoldable pub left_over : ElemType → ℕ → Bool → List ℕ → List (List ℕ) → Result (List ℕ) Flaw
left_over ty left bad out ws =
    if length ws == left && not (list_any is_empty ws)
    then (if bad then Err NoValue else or_no_value (option_map (λ more. out ++ more) (all_values ty ws)))
    else Err Malformed

none_before : (o : Option (List ℕ)) → or_no_value o ≡ or_no_value (option_map (λ more. [] ++ more) o)
none_before None = refl
none_before (Some bytes) = refl

pub begins : (ty : ElemType) (count : ℕ) (ws : List (List ℕ)) → data_line ty count ws ≡ left_over ty count false [] ws
unfolding data_line left_over
begins ty count ws = ap (λ r. cond (length ws == count && not (list_any is_empty ws)) r (Err Malformed)) (none_before (all_values ty ws))

joined : (out b : List ℕ) (o : Option (List ℕ)) → or_no_value (option_map (λ more. out ++ more) (option_map (λ more. b ++ more) o))
    ≡ or_no_value (option_map (λ more. (out ++ b) ++ more) o)
joined out b None = refl
joined out b (Some bytes) = ap (λ (l : List ℕ). Ok l) (sym (append_assoc out b bytes))

one_less : (a left : ℕ) → 0 < left → eqb (suc a) left ≡ eqb a (left - 1)
one_less a left lt = grind (arith, nat_tests)

pub takes : (ty : ElemType) (left : ℕ) (bad : Bool) (out w : List ℕ) (ws : List (List ℕ)) (n : ℕ) → 0 < left → is_empty w ≡ false →
    value_of ty w ≡ Some n
    → left_over ty left bad out (w ∷ ws) ≡ left_over ty (left - 1) bad (out ++ little_endian (bytes_of ty) n) ws
unfolding left_over
takes ty left bad out w ws n lt full value =
    rw (one_less (length ws) left lt, full, value)
    (ap (λ r. cond (eqb (length ws) (left - 1) && not (list_any is_empty ws)) (cond bad (Err NoValue) r) (Err Malformed))
    (joined out (little_endian (bytes_of ty) n) (all_values ty ws)))

spoilt : (bad : Bool) (r : Result (List ℕ) Flaw) → cond bad r r ≡ r
spoilt true r = refl
spoilt false r = refl

pub spoils : (ty : ElemType) (left : ℕ) (bad : Bool) (out w : List ℕ) (ws : List (List ℕ)) → 0 < left → is_empty w ≡ false →
    value_of ty w ≡ None
    → left_over ty left bad out (w ∷ ws) ≡ left_over ty (left - 1) true out ws
unfolding left_over
spoils ty left bad out w ws lt full none =
    rw (one_less (length ws) left lt, full, none)
    (ap (λ r. cond (eqb (length ws) (left - 1) && not (list_any is_empty ws)) r (Err Malformed)) (spoilt bad (Err NoValue)))

pub stops_at_empty : (ty : ElemType) (left : ℕ) (bad : Bool) (out w : List ℕ) (ws : List (List ℕ)) → is_empty w ≡ true →
    left_over ty left bad out (w ∷ ws) ≡ Err Malformed
unfolding left_over
stops_at_empty ty left bad out w ws empty = rw empty (elim (eqb (suc (length ws)) left) as
    (λ b. cond (b && false) (cond bad (Err NoValue) (or_no_value (option_map (λ more. out ++ more) (all_values ty (w ∷ ws)))))
    (Err Malformed) ≡ Err Malformed) [ true ↦ refl | false ↦ refl ])

pub stops_past_count : (ty : ElemType) (bad : Bool) (out w : List ℕ) (ws : List (List ℕ)) → left_over ty 0 bad out (w ∷ ws) ≡ Err Malformed
unfolding left_over
stops_past_count ty bad out w ws = rw (eq-no (length ws)) refl
  where
    eq-no : (n : ℕ) → eqb (suc n) 0 ≡ false
    eq-no n = grind (arith, nat_tests)

pub ends_short : (ty : ElemType) (left : ℕ) (bad : Bool) (out : List ℕ) → left ≢ 0 → left_over ty left bad out [] ≡ Err Malformed
unfolding left_over
ends_short ty left bad out ne = let e : eqb 0 left ≡ false = grind (arith, nat_tests) in rw e refl

pub ends : (ty : ElemType) (out : List ℕ) → left_over ty 0 false out [] ≡ Ok out
unfolding left_over
ends ty out = ap (λ (l : List ℕ). Ok l) (append-nil out)

pub ends_bad : (ty : ElemType) (out : List ℕ) → left_over ty 0 true out [] ≡ Err NoValue
unfolding left_over
ends_bad ty out = refl

-- a data line from its first word to its end
pub ruleset word_by_word = (begins, takes, spoils, stops_at_empty, stops_past_count, ends_short, ends, ends_bad)
