-- Lines of words.
use Rattle.std.proofs.Common.{◌≡◌, ℕ, ◌+◌, ◌<◌, List, [], ◌∷◌, ◌++◌, length, get_or, take, map, sym, ap, ◌∙◌, append_assoc}
use Rattle.std.specs.Borrow.{Bor}
use Rattle.std.specs.List.{flat_map}
use Rattle.std.proofs.lemmas.List.{flat_map_more, take_more}
use Rattle.std.proofs.lemmas.List.Folds.{flat_map-map}
use Rattle.coll_text.specs.Text.{line}
use Rattle.coll_text.proofs.Writes.{join_spaced}

-- a space and the word
abbrev pub spaced : Bor (List ℕ) → List ℕ
spaced word = 32 ∷ word.now

-- one word more
pub word_more : (first : List ℕ) (words : List (Bor (List ℕ))) (i : ℕ) (word : Bor (List ℕ)) (text one two : List ℕ) → i < length words
    → word ≡ get_or words i word → text ≡ first ++ flat_map spaced (take i words) → one ≡ text ++ 32 ∷ [] → two ≡ one ++ word.now
    → two ≡ first ++ flat_map spaced (take (i + 1) words)
word_more first words i word text one two inside is so_far space then =
    then
    ∙ ap (λ (v : List ℕ). v ++ word.now) (space ∙ ap (λ (v : List ℕ). v ++ 32 ∷ []) so_far)
    ∙ append_assoc (first ++ flat_map spaced (take i words)) (32 ∷ []) word.now
    ∙ flat_map_more spaced first (take i words) word
    ∙ ap (λ (v : List (Bor (List ℕ))). first ++ flat_map spaced v)
    (ap (λ (w : Bor (List ℕ)). take i words ++ w ∷ []) is ∙ sym (take_more words i word inside))

-- all of them, and the LF
pub whole_line : (first : List ℕ) (words : List (Bor (List ℕ))) (text end : List ℕ) → text ≡ first ++ flat_map spaced words
    → end ≡ text ++ 10 ∷ [] → end ≡ line (first ∷ map (λ (word : Bor (List ℕ)). word.now) words)
whole_line first words text end is last =
    let now = λ (word : Bor (List ℕ)). word.now in
    let one : line (first ∷ map now words) ≡ (first ++ flat_map (λ w. 32 ∷ w) (map now words)) ++ 10 ∷ [] =
    ap (λ (v : List ℕ). v ++ 10 ∷ []) (join_spaced first (map now words)) in
    let two : (first ++ flat_map (λ w. 32 ∷ w) (map now words)) ++ 10 ∷ [] ≡ (first ++ flat_map spaced words) ++ 10 ∷ [] =
    ap (λ (v : List ℕ). (first ++ v) ++ 10 ∷ []) (flat_map-map (λ w. 32 ∷ w) now words) in
    last ∙ ap (λ (v : List ℕ). v ++ 10 ∷ []) is ∙ sym (one ∙ two)
