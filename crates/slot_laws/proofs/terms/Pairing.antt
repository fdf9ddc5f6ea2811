-- A renaming that takes one handle more, that of a thing that is new, to its handle in the other run. It exchanges the two slots, so that
-- it keeps handles apart.
use Rattle.std.specs.Prelude.{ℕ, ◌==◌, ◌&&◌, if◌then◌else◌}
use Rattle.ptl_types.specs.declared.handles.Handle.{Handle}
use Rattle.log_answers.specs.declared.owed.Owed.{Owed}
use Rattle.log_answers.specs.declared.owed.Owed.TheVariants as owed
use Rattle.log_answers.specs.declared.owed.Sort.{Sort}
use Rattle.log_answers.specs.declared.owed.Sort.TheVariants.{Entry}
use Rattle.slot_laws.proofs.terms.Counting.{same_sort}
use Rattle.slot_laws.proofs.terms.Scenes.{Renamings}

-- the slot p for q, and q for p
abbrev pub exchanged : ℕ → ℕ → ℕ → ℕ
exchanged p q slot = if slot == p then q else if slot == q then p else slot

-- the slots p and q are exchanged in the handles of one stamp
abbrev pub with_exchange : ℕ → ℕ → ℕ → (Handle → Handle) → Handle → Handle
with_exchange stamp p q f x = if x.stamp == stamp then record x { slot = exchanged p q x.slot } else f x

-- h goes to h', of one sort at one rank
abbrev pub with_pair : ℕ → Sort → Handle → Handle → Renamings → Renamings
with_pair rank sort h h' g k s = if (k == rank) && same_sort s sort then with_exchange h.stamp h.slot h'.slot (g k s) else g k s

-- of what is new in both runs
abbrev pub paired : ℕ → Owed → Owed → Renamings → Renamings
paired rank (owed.New sort h) (owed.New sort' h') g = with_pair rank sort h h' g
paired rank (owed.Linked h) (owed.Linked h') g = with_pair rank Entry h h' g
paired rank _ _ g = g
