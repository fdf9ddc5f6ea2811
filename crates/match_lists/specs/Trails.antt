-- Places that a walk comes to.
use Rattle.std.specs.Prelude.{ℕ, Option, Some, None}
use Rattle.match_lists.specs.declared.trails.Unseen.{Unseen}

-- where such a place lies, if there is one
abbrev pub place_in : Option Unseen → Option ℕ
place_in None = None
place_in (Some u) = Some u.place
