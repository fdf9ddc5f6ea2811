-- Lines that are numbered print by print.
use Rattle.std.proofs.Common.{ℕ, ◌+◌, ◌*◌, ◌/◌, List, Option, get_or, subst}
use Rattle.std.specs.Prelude.{slice_index_or}
use Rattle.std.proofs.lemmas.Nat.{div-mul-add, mod-mul-add}
use Rattle.port_io.specs.Memory.{Tray}
use Rattle.coll_shape.specs.Outline.{Outline}
use Rattle.coll_shape.specs.Meaning.{Lists}
use Rattle.run_text.specs.Made.{AreMade, AreMadeFrom, IsMade}

-- the texts at the numbers of a print's lines
pub by-print : (o : Outline) (lists : Lists) (texts : List (Option Tray)) → AreMade o lists texts → (i : ℕ)
    → AreMadeFrom o lists (get_or o.prints i 0) (i * o.ranks) texts
by-print o lists texts made i r d ranked within =
    let j = i * o.ranks + r in
    let text = slice_index_or texts j d in
    subst (λ p. IsMade o lists (get_or o.prints p 0) r text) (div-mul-add i o.ranks r ranked)
    (subst (λ q. IsMade o lists (get_or o.prints (j / o.ranks) 0) q text) (mod-mul-add i o.ranks r ranked) (made j d within))
