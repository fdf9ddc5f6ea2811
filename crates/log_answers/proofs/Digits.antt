-- Bytes as digits, one byte at a time.
use Rattle.std.proofs.Common.{◌≡◌, ◌≢◌, ℕ, ◌+◌, ◌/◌, ◌%◌, ◌≤◌, ◌<◌, suc, List, [], ◌∷◌, length, get_or, drop, Bool, true, false}
use Rattle.std.proofs.Common.{refl, ap}
use Rattle.std.proofs.Common.{add-one, drop-cons, eq-eqb}
use Rattle.std.proofs.lemmas.List.{drop_all}
use Rattle.std.proofs.lemmas.Slice.Eq.{bytes_eq-Decides}
use Rattle.std.specs.Bool.{Decides}
use Rattle.std.specs.Str.{bytes_eq}
use Rattle.log_answers.specs.Texts.{hex_char, hex_digits}

-- the digits of a byte, and others behind them
goes_on : (b : ℕ) (bs rest : List ℕ)
    → bytes_eq (hex_char (b / 16) ∷ hex_char (b % 16) ∷ rest) (hex_digits (b ∷ bs)) ≡ bytes_eq rest (hex_digits bs)
goes_on b bs rest =
    rw (eq-eqb (hex_char (b / 16)) (hex_char (b / 16)) refl, eq-eqb (hex_char (b % 16)) (hex_char (b % 16)) refl) refl

-- one byte more of those from i on
pub step : (i : ℕ) (bytes word rest : List ℕ) → i < length bytes
    → word ≡ hex_char (get_or bytes i 0 / 16) ∷ hex_char (get_or bytes i 0 % 16) ∷ rest
    → bytes_eq word (hex_digits (drop i bytes)) ≡ bytes_eq rest (hex_digits (drop (i + 1) bytes))
step i bytes word rest l e =
    let b = get_or bytes i 0 in
    rw (add-one, drop-cons bytes i 0, e) (goes_on b (drop (suc i) bytes) rest)

-- and where they don't stand there
decided : {P : Type 0} (r : Bool) → Decides r P → ¬ P → r ≡ false
decided true d n = absurd (n (d.0 refl))
decided false d n = refl

pub stop_at : (i : ℕ) (bytes word : List ℕ) → i < length bytes
    → ((ds : List ℕ) → word ≢ hex_char (get_or bytes i 0 / 16) ∷ hex_char (get_or bytes i 0 % 16) ∷ ds)
    → bytes_eq word (hex_digits (drop i bytes)) ≡ false
stop_at i bytes word l none =
    let b = get_or bytes i 0 in
    let all = hex_char (b / 16) ∷ hex_char (b % 16) ∷ hex_digits (drop (suc i) bytes) in
    rw (drop-cons bytes i 0) (decided (bytes_eq word all) (bytes_eq-Decides word all) (none (hex_digits (drop (suc i) bytes))))

-- all bytes are compared
pub finished : (i : ℕ) (bytes word : List ℕ) → length bytes ≤ i → bytes_eq word (hex_digits (drop i bytes)) ≡ bytes_eq word []
finished i bytes word e = ap (λ l. bytes_eq word (hex_digits l)) (drop_all i bytes e)
