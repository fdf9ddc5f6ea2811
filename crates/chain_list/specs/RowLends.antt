-- What a row ends as, once a `&mut` to the value of one of its places has ended.
use Rattle.std.specs.Prelude.{ℕ, List, get_or, slice_set, Option, None}
use Rattle.std.specs.Borrow.{Fml, RattleType, MutBor, Lends}
use Rattle.chain_list.specs.NodeMap.{Node, valued}
use Rattle.chain_list.specs.contracts.row.Row.{the_row}

-- the node of the place has the last value written through r
abbrev pub lends_value_at : (R : RattleType) → MutBor (List (Option (Node R.Denot))) → ℕ → MutBor R.Denot → Fml
lends_value_at R b place r = Lends (the_row R) R b r (λ w. slice_set b.now place (valued w (get_or b.now place None)))
