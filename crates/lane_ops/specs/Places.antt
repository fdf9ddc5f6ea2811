-- One element of a list of bytes combined with the one at its place.
use Rattle.std.specs.Prelude.{ℕ, ◌*◌, List}
use Rattle.ptl_types.specs.Elements.{pattern, little_endian, part, written}

abbrev pub combined_at : (ℕ → ℕ → ℕ) → ℕ → ℕ → List ℕ → List ℕ → List ℕ
combined_at f w i xs ys = written (i * w) (little_endian w (f (pattern (part (i * w) w xs)) (pattern (part (i * w) w ys)))) xs
