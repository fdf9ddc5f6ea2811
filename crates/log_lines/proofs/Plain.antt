-- Lines in which each byte may stand and no word is empty: no flaw is told of them before a word is read.
use Rattle.std.proofs.Common.{◌≡◌, ℕ, ◌+◌, List, [], ◌∷◌, length, drop, Option, Some, None, Bool, true, false, cond, refl, sym}
use Rattle.std.proofs.Common.{ap, ◌∙◌, arith, add-one, drop-cons, get_or, subst, suc, ◌<◌}
use Rattle.std.specs.Prelude.{◌&&◌, ◌||◌, ◌==◌, not}
use Rattle.std.proofs.lemmas.Bool.Decides.{nat_tests}
use Rattle.std.proofs.lemmas.Iterator.Adapters.{position_from-zero}
use Rattle.std.specs.List.{list_all, list_any, onto_first, position, position_from}
use Rattle.coll_text.specs.Text.{is_empty, words}
use Rattle.log_words.specs.Words.{placed}
use Rattle.log_words.specs.declared.faults.LineFault.{LineFault}
use Rattle.log_lines.specs.Lines.{byte_flaw, empty_flaw, is_allowed, is_note}

-- the words that are read by one who looks at bytes: all where one begins, and else those behind the first
abbrev pub begun : Bool → List (List ℕ) → List (List ℕ)
begun true ws = ws
begun false ws = drop 1 ws

abbrev pub fine : Bool → List ℕ → Bool
fine begins [] = not begins
fine begins (b ∷ bs) = is_allowed b && (not (begins && b == 32) && fine (b == 32) bs)

no_more : (a l : Bool) → (a && false) ≡ ((a && l) && false)
no_more true true = refl
no_more true false = refl
no_more false l = refl

apart : (a l n : Bool) → (a && (l && n)) ≡ ((a && l) && n)
apart true l n = refl
apart false l n = refl

not_empty : (b : ℕ) (w : List ℕ) → is_empty (b ∷ w) ≡ false
not_empty b w = grind (arith, nat_tests)

pub fine_is : (begins : Bool) (line : List ℕ)
    → fine begins line ≡ (list_all is_allowed line && not (list_any is_empty (begun begins (words line))))
fine_is true [] = refl
fine_is false [] = refl
fine_is begins (b ∷ bs) = by_byte begins (b == 32) (words bs) (fine_is true bs) (fine_is false bs)
  where
    by_byte : (begins is : Bool) (ws : List (List ℕ)) → fine true bs ≡ (list_all is_allowed bs && not (list_any is_empty ws))
        → fine false bs ≡ (list_all is_allowed bs && not (list_any is_empty (drop 1 ws)))
        → (is_allowed b && (not (begins && is) && fine is bs))
        ≡ ((is_allowed b && list_all is_allowed bs) && not (list_any is_empty (begun begins (cond is ([] ∷ ws) (onto_first b ws)))))
    by_byte true true ws new old = no_more (is_allowed b) (list_all is_allowed bs)
    by_byte false true ws new old =
        ap (λ r. is_allowed b && r) new ∙ apart (is_allowed b) (list_all is_allowed bs) (not (list_any is_empty ws))
    by_byte true false [] new old = ap (λ r. is_allowed b && r) old ∙ apart (is_allowed b) (list_all is_allowed bs) true
    by_byte true false (w ∷ ws) new old =
        ap (λ r. is_allowed b && r) old ∙ apart (is_allowed b) (list_all is_allowed bs) (not (list_any is_empty ws))
        ∙ ap (λ e. (is_allowed b && list_all is_allowed bs) && not (e || list_any is_empty ws)) (sym (not_empty b w))
    by_byte false false [] new old = ap (λ r. is_allowed b && r) old ∙ apart (is_allowed b) (list_all is_allowed bs) true
    by_byte false false (w ∷ ws) new old =
        ap (λ r. is_allowed b && r) old ∙ apart (is_allowed b) (list_all is_allowed bs) (not (list_any is_empty ws))

-- one byte more
pub fine_next : (begins whole : Bool) (i : ℕ) (line : List ℕ) → i < length line → fine begins (drop i line) ≡ whole
    → is_allowed (get_or line i 0) ≡ true → (begins && get_or line i 0 == 32) ≡ false
    → fine (get_or line i 0 == 32) (drop (i + 1) line) ≡ whole
fine_next begins whole i line l h a e =
    let step : fine begins (get_or line i 0 ∷ drop (suc i) line) ≡ whole = subst (λ bs. fine begins bs ≡ whole) (drop-cons line i 0 l) h in
    let rest = fine (get_or line i 0 == 32) (drop (suc i) line) in
    rw add-one (sym (by_tests (is_allowed (get_or line i 0)) (begins && get_or line i 0 == 32) rest a e) ∙ step)
  where
    by_tests : (allowed empty rest : Bool) → allowed ≡ true → empty ≡ false → (allowed && (not empty && rest)) ≡ rest
    by_tests true false rest a e = refl
    by_tests true true rest a e = absurd (cc)
    by_tests false empty rest a e = absurd (cc)

-- none are where a word is empty
pub fine_stops : (begins : Bool) (i : ℕ) (line : List ℕ) → i < length line → (begins && get_or line i 0 == 32) ≡ true
    → fine begins (drop i line) ≡ false
fine_stops begins i line l e =
    ap (λ bs. fine begins bs) (drop-cons line i 0 l)
    ∙ by_tests (is_allowed (get_or line i 0)) (begins && get_or line i 0 == 32) (fine (get_or line i 0 == 32) (drop (suc i) line)) e
  where
    by_tests : (allowed empty rest : Bool) → empty ≡ true → (allowed && (not empty && rest)) ≡ false
    by_tests true true rest e = refl
    by_tests false true rest e = refl
    by_tests allowed false rest e = absurd (cc)

pub allowed : (a : Bool) → not a ≡ false → a ≡ true
allowed true e = refl
allowed false e = absurd (cc)

-- ---- what isn't told of them

both : (a b : Bool) → (a && not b) ≡ true → (a ≡ true) × (b ≡ false)
both true false h = (refl, refl)
both true true h = absurd (cc)
both false b h = absurd (cc)

none_barred : (i : ℕ) (bs : List ℕ) → list_all is_allowed bs ≡ true → position_from (λ b. not (is_allowed b)) i bs ≡ None
none_barred i [] h = refl
none_barred i (b ∷ bs) h = by_test (is_allowed b) (none_barred (i + 1) bs) h
  where
    by_test : (a : Bool) → (list_all is_allowed bs ≡ true → position_from (λ b. not (is_allowed b)) (i + 1) bs ≡ None)
        → (a && list_all is_allowed bs) ≡ true
        → cond (not a) (Some i) (position_from (λ b. not (is_allowed b)) (i + 1) bs) ≡ None
    by_test true later h = later h
    by_test false later h = absurd (cc)

none_empty : (k : ℕ) (ws : List (List ℕ)) → list_any is_empty ws ≡ false → empty_flaw (placed k ws) ≡ None
none_empty k [] h = refl
none_empty k (w ∷ ws) h = by_test (is_empty w) _ (none_empty (k + length w + 1) ws) h
  where
    by_test : (e : Bool) (fault : Option LineFault) → (list_any is_empty ws ≡ false → empty_flaw (placed (k + length w + 1) ws) ≡ None)
        → (e || list_any is_empty ws) ≡ false
        → cond e fault (empty_flaw (placed (k + length w + 1) ws)) ≡ None
    by_test true fault later h = absurd (cc)
    by_test false fault later h = later h

pub no_flaw : (line : List ℕ) → (list_all is_allowed line && not (list_any is_empty (words line))) ≡ true
    → byte_flaw (position (λ b. not (is_allowed b)) line) line ≡ None
no_flaw line h =
    let two = both (list_all is_allowed line) (list_any is_empty (words line)) h in
    let bytes = position_from-zero (λ b. not (is_allowed b)) line ∙ none_barred 0 line two.0 in
    ap (λ p. byte_flaw p line) bytes ∙ spaces (is_note line) (none_empty 1 (words line) two.1)
  where
    spaces : (note : Bool) → empty_flaw (placed 1 (words line)) ≡ None → cond note None (empty_flaw (placed 1 (words line))) ≡ None
    spaces true e = refl
    spaces false e = e
