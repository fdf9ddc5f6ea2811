-- What is printed of the buffers that are there.
use Rattle.std.specs.Prelude.{◌≡◌, ℕ, ◌<◌, length, get_or}
use Rattle.coll_shape.specs.Outline.{Outline}
use Rattle.coll_shape.specs.Meaning.{Lists, lists_of, meaning_of}

-- the lists of each buffer that is printed are what the description means
abbrev pub PrintsMeaning : Outline → Lists → Lists → Type 0
PrintsMeaning o inputs held =
    (i : ℕ) → i < length o.prints → lists_of held (get_or o.prints i 0) ≡ lists_of (meaning_of o inputs) (get_or o.prints i 0)
