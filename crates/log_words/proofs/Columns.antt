-- The columns of the words of a line.
use denote.Ref.{Bor}
use Rattle.std.proofs.Common.{◌≡◌, ℕ, ◌+◌, ◌≤◌, List, [], ◌∷◌, length, Option, Some, None, Bool, true, false, cond, refl, ap, subst}
use Rattle.std.proofs.Common.{◌∙◌, arith}
use Rattle.std.specs.Prelude.{◌==◌, ◌^◌, IfSome}
use Rattle.std.specs.Option.{option_copied}
use Rattle.std.specs.List.{onto_first}
use Rattle.coll_text.specs.Text.{words, words_left}
use Rattle.log_words.specs.Words.{Rest, rest_from, placed, behind, begins, begins_at, is_last}

-- a further word begins no sooner than those that are left
pub behind_from : (k : ℕ) (ws : List (List ℕ)) → k ≤ behind k ws
behind_from k [] = omega arith
behind_from k (w ∷ ws) = omega (arith, behind_from (k + length w + 1) ws)

-- all words of a line end at its end
pub behind_words : (k : ℕ) (line : List ℕ) → behind k (words line) ≡ k + length line + 1
behind_words k [] = refl
behind_words k (b ∷ bs) = by_byte (b == 32) (words bs) (behind_words k bs) (behind_words (k + 1) bs)
  where
    by_byte : (is : Bool) (ws : List (List ℕ)) → behind k ws ≡ k + length bs + 1 → behind (k + 1) ws ≡ k + 1 + length bs + 1
        → behind k (cond is ([] ∷ ws) (onto_first b ws)) ≡ k + length (b ∷ bs) + 1
    by_byte true ws here more =
        let e : k + 0 + 1 ≡ k + 1 = omega arith in
        let f : k + 1 + length bs + 1 ≡ k + length (b ∷ bs) + 1 = omega arith in
        ap (λ n. behind n ws) e ∙ more ∙ f
    by_byte false [] here more = absurd (omega (arith, here))
    by_byte false (w ∷ ws) here more =
        let e : k + length (b ∷ w) + 1 ≡ k + 1 + length w + 1 = omega arith in
        let f : k + 1 + length bs + 1 ≡ k + length (b ∷ bs) + 1 = omega arith in
        ap (λ n. behind n ws) e ∙ more ∙ f

-- the first of them begins where they begin
pub begins_from : (k : ℕ) (ws : List (List ℕ)) → begins_at (placed k ws) (behind k ws) ≡ k
begins_from k [] = refl
begins_from k (w ∷ ws) = refl

-- there are no more words than columns
pub few_words : (k : ℕ) (ws : List (List ℕ)) → length (placed k ws) ≤ behind k ws
few_words k ws = omega (arith, more k ws)
  where
    more : (k : ℕ) (ws : List (List ℕ)) → k + length (placed k ws) ≤ behind k ws
    more k [] = omega arith
    more k (w ∷ ws) = omega (arith, more (k + length w + 1) ws)

-- a word and the one behind it have room
pub room : (k : ℕ) (left : Option (Bor (List ℕ))) (r : Bor (List ℕ)) (text : List ℕ) (ws : List (List ℕ))
    → behind k (words_left (option_copied left)) ≤ 2 ^ 63 → left ≡ Some r → words r.now ≡ text ∷ ws → k + length text + 1 ≤ 2 ^ 63
room k left r text ws h e p =
    let all : behind k (words r.now) ≤ 2 ^ 63 =
    subst (λ (l : Option (Bor (List ℕ))). behind k (words_left (option_copied l)) ≤ 2 ^ 63) e h in
    let others : behind (k + length text + 1) ws ≤ 2 ^ 63 = subst (λ (v : List (List ℕ)). behind k v ≤ 2 ^ 63) p all in
    omega (arith, behind_from (k + length text + 1) ws)

pub at_most : (k : ℕ) (ws : List (List ℕ)) → behind k ws ≤ 2 ^ 63 → length (placed k ws) ≤ 2 ^ 63
at_most k ws h = omega (arith, few_words k ws)

-- bytes have a word, so that none is left only where no bytes are
pub some_word : (k : ℕ) (line : List ℕ) → is_last (placed k (words line)) ≡ false
some_word k [] = refl
some_word k (b ∷ bs) = by_byte (b == 32) (words bs)
  where
    by_byte : (is : Bool) (ws : List (List ℕ)) → is_last (placed k (cond is ([] ∷ ws) (onto_first b ws))) ≡ false
    by_byte true ws = refl
    by_byte false [] = refl
    by_byte false (w ∷ ws) = refl

-- the bytes that are left have the words that are left
pub text_words : (k : ℕ) (left : Option (Bor (List ℕ))) (r : Rest) → rest_from k (words_left (option_copied left)) ≡ r
    → IfSome left (λ text. placed (begins r) (words text.now) ≡ r.words)
text_words k None r e = tt
text_words k (Some t) r e =
    subst (λ (q : Rest). placed (begins q) (words t.now) ≡ q.words) e (ap (λ n. placed n (words t.now)) (begins_from k (words t.now)))
