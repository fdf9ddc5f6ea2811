-- What a reader's buffers and groups keep, so that its numbers fit their types. These are no rules of the language.
use Rattle.std.specs.Prelude.{◌≤◌, length}
use Rattle.coll_shape.specs.declared.types.Buffer.{Buffer}
use Rattle.coll_shape.specs.declared.types.Group.{Group}
use Rattle.coll_shape.specs.declared.limits.TheConstants.{MOST_RANKS, MOST_ELEMENTS}

pub record IsSmall (b : Buffer) : Type 0 where
  pub short : b.spread.length ≤ MOST_ELEMENTS
  pub at_most : length b.spread.holders ≤ MOST_RANKS

pub record HasMembers (g : Group) : Type 0 where
  pub some : 1 ≤ length g.members
  pub at_most : length g.members ≤ MOST_RANKS
