-- Which row of the table of refusals counts where several hold.
use Rattle.std.specs.Prelude.{◌≡◌, ◌≤◌, Bool, true}
use Rattle.coll_lang.specs.Words.{refusal_number}
use Rattle.coll_lang.specs.declared.fault.Refusal.{Refusal}

-- the row of that name holds, and no row with a lower number does
pub record IsLowest (offends : Refusal → Bool) (name : Refusal) : Type 0 where
  pub offends_it : offends name ≡ true
  pub lowest : (other : Refusal) → offends other ≡ true → refusal_number name ≤ refusal_number other
