-- Marks as the bits of words.
use Rattle.std.specs.Prelude.{◌≡◌, ℕ, zero, suc, ◌+◌, ◌*◌, ◌/◌, ◌%◌, ◌^◌, ◌≤◌, List, [], ◌∷◌, ◌++◌, map, length, sum}

-- the lowest n bits of a word, the lowest first
unfoldable pub bits : ℕ → ℕ → List ℕ
bits zero word = []
bits (suc n) word = word % 2 ∷ bits n (word / 2)

-- the marks of words that have n each
unfoldable pub marks_of : ℕ → List ℕ → List ℕ
marks_of n [] = []
marks_of n (w ∷ ws) = bits n w ++ marks_of n ws

-- how many of each word are 1
abbrev pub counts_of : ℕ → List ℕ → List ℕ
counts_of n words = map (λ w. sum (bits n w)) words

-- so many places in whole words
abbrev pub rounded : ℕ → ℕ
rounded places = 64 * ((places + 63) / 64)

-- the layout: words of 64 marks, with a count for each
pub record IsMarks (words counts : List ℕ) : Type 0 where
  pub counted : counts ≡ counts_of 64 words
  pub at_most : length words ≤ 2 ^ 23
