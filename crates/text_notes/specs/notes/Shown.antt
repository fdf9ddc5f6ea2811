-- Printable text of limited length.
use Rattle.std.specs.Prelude.{ℕ, ◌≡◌, ◌≤◌, ◌+◌, ◌/◌, ◌%◌, List, [], ◌∷◌, ◌++◌, length, true, All, nat_lt, if◌then◌else◌}
use Rattle.std.specs.List.{flat_map, fold, list_all}
use Rattle.coll_lang.specs.Language.{is_allowed}
use Rattle.text_notes.specs.declared.notes.printable.TheConstants.{LONGEST}

-- a text goes on with a byte, where it has room
abbrev pub with_byte : List ℕ → ℕ → List ℕ
with_byte text b = if nat_lt (length text) LONGEST then text ++ b ∷ [] else text

-- `0` to `9`, `a` to `f`
abbrev pub hex_digit : ℕ → ℕ
hex_digit n = if nat_lt n 10 then 48 + n else 87 + n

-- a byte from 0x20 to 0x7E as it is, another one as `\x` and two digits
abbrev pub with_shown : List ℕ → ℕ → List ℕ
with_shown text b =
    if is_allowed b then with_byte text b
    else with_byte (with_byte (with_byte (with_byte text 92) 120) (hex_digit (b / 16))) (hex_digit (b % 16))

-- a text goes on with these bytes
unfoldable pub then_shown : List ℕ → List ℕ → List ℕ
then_shown text bytes = fold with_shown text bytes

-- what stands on a line of a note, without its LF
abbrev pub IsNote : List ℕ → Type 0
IsNote text = (length text ≤ LONGEST) × (list_all is_allowed text ≡ true)

-- lines of notes
abbrev pub AreNotes : List ℕ → Type 0
AreNotes bytes = (texts : List (List ℕ)) × All IsNote texts × (bytes ≡ flat_map (λ text. text ++ 10 ∷ []) texts)
