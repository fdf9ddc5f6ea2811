-- Lines of a result that are made as texts before the first is written. They are numbered print by print, and rank by rank in each.
use Rattle.std.specs.Prelude.{ℕ, ◌+◌, ◌/◌, ◌%◌, ◌<◌, ◌≡◌, List, Option, IfSome, get_or, length, slice_index_or}
use Rattle.port_io.specs.Memory.{Tray}
use Rattle.coll_shape.specs.Outline.{Outline}
use Rattle.coll_shape.specs.Meaning.{Lists}
use Rattle.run_text.specs.Lines.{line_at}

-- the text, where there is one, is the line of this buffer at this rank
abbrev pub IsMade : Outline → Lists → ℕ → ℕ → Option Tray → Type 0
IsMade o lists b r text = IfSome text (λ (s : Tray). s.taken ≡ line_at o lists b r)

-- the text at each place is that of the line with this number
abbrev pub AreMade : Outline → Lists → List (Option Tray) → Type 0
AreMade o lists texts = (j : ℕ) (d : Option Tray) → j < length texts →
    IsMade o lists (get_or o.prints (j / o.ranks) 0) (j % o.ranks) (slice_index_or texts j d)

-- from the place `first` on lie the texts of a buffer's lines, by rank, as many as there are
abbrev pub AreMadeFrom : Outline → Lists → ℕ → ℕ → List (Option Tray) → Type 0
AreMadeFrom o lists b first texts = (r : ℕ) (d : Option Tray) → r < o.ranks → first + r < length texts →
    IsMade o lists b r (slice_index_or texts (first + r) d)
