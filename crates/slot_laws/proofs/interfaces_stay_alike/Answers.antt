use Rattle.slot_laws.proofs.Calls.{answers_alike, answers_ordered}
use Rattle.slot_laws.proofs.Named.{named_alike, ordered_named, rising_here, rising_there}
use Rattle.slot_laws.proofs.Opening.{new_alike, new_ordered}
use Rattle.slot_laws.specs.Alike.{AftersAlike, IsConsistentAfter}
use Rattle.slot_laws.proofs.interfaces_stay_alike.Goals as goal

pub returns-clause-first : goal.returns-clause-first
returns-clause-first c = λ r rank ranks l region. (new_alike r rank ranks l region, new_ordered rank ranks l region)

pub returns-clause-later : goal.returns-clause-later
returns-clause-later c = λ r is none call s t x y alike here there m n same word.
    let both : AftersAlike r x y = answers_alike r is none call s t x y alike here there m n same in
    let after : IsConsistentAfter x = answers_ordered call s x (rising_here r s t alike.near) here m in
    let after' : IsConsistentAfter y = answers_ordered call t y (rising_there r s t alike.near) there n in (
      named_alike r is x y word both after after',
      ordered_named x word (rising_here r x.seat y.seat both.near) after,
      ordered_named y word (rising_there r x.seat y.seat both.near) after',
    )
