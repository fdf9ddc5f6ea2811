-- Bytes that a call names in hexadecimal: two digits a byte, and `-` for none.
use Rattle.std.specs.Prelude.{ℕ, ◌+◌, ◌*◌, List, [], ◌∷◌, codes, unwrap_or, if◌then◌else◌}
use Rattle.std.specs.Str.{bytes_eq}
use Rattle.log_words.specs.Words.{hex_digit}

abbrev pub digit_value : ℕ → ℕ
digit_value b = unwrap_or (hex_digit b) 0

abbrev pub byte_of : ℕ → ℕ → ℕ
byte_of high low = digit_value high * 16 + digit_value low

abbrev pub byte_pairs : List ℕ → List ℕ
byte_pairs (high ∷ low ∷ digits) = byte_of high low ∷ byte_pairs digits
byte_pairs _ = []

-- of a word that is such
abbrev pub bytes_in : List ℕ → List ℕ
bytes_in word = if bytes_eq word (codes "-") then [] else byte_pairs word
