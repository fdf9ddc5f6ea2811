-- How long the lists of a description are, in bytes.
use Rattle.std.specs.Prelude.{◌≡◌, ℕ, ◌<◌, ◌%◌, List, length, if◌then◌else◌}
use Rattle.ptl_types.specs.declared.elements.ElemType.{ElemType}
use Rattle.ptl_types.specs.Operations.{bytes_of}
use Rattle.coll_shape.specs.declared.types.Buffer.{Buffer}
use Rattle.coll_shape.specs.Outline.{Outline, buffer_at, list_bytes}
use Rattle.coll_shape.specs.Folding.{at}
use Rattle.coll_shape.specs.Collectives.{Asked, Nothing, HeldAt, HeldAtInBlocks, HeldByAll, HeldByAllInBlocks, HeldBySome, is_in}
use Rattle.coll_shape.specs.Meaning.{Lists, lists_of}

-- the bytes of a buffer's list at a rank
abbrev pub bytes_at : Buffer → ℕ → ℕ
bytes_at x r = if is_in r x.spread.holders then list_bytes x else 0

-- a list for each of the first n buffers and each rank, as long as the buffer's length and holders say
pub record AreLong (o : Outline) (n : ℕ) (lists : Lists) : Type 0 where
  pub many : length lists ≡ n
  pub ranks : (b : ℕ) → b < n → length (lists_of lists b) ≡ o.ranks
  pub long : (b r : ℕ) → b < n → r < o.ranks → length (at (lists_of lists b) r) ≡ bytes_at (buffer_at o b) r

-- equally long lists of whole elements
pub record AreEven (ty : ElemType) (xs : List (List ℕ)) : Type 0 where
  pub even : (i : ℕ) → i < length xs → length (at xs i) ≡ length (at xs 0)
  pub whole : length (at xs 0) % bytes_of ty ≡ 0

-- A step that all members' lists are asked of finds them so.
abbrev pub AreAsked : Asked → ElemType → List (List ℕ) → Type 0
AreAsked Nothing ty xs = Unit {0}
AreAsked (HeldAt root) ty xs = Unit {0}
AreAsked (HeldAtInBlocks root) ty xs = Unit {0}
AreAsked HeldByAll ty xs = AreEven ty xs
AreAsked HeldByAllInBlocks ty xs = AreEven ty xs
AreAsked HeldBySome ty xs = Unit {0}
