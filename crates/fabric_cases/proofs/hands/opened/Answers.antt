use Rattle.rank_slots.proofs.Slotwise.{on_ok}
use Rattle.fabric_cases.proofs.hands.opened.Goals as goal

pub returns-clause-count : goal.returns-clause-count
returns-clause-count g c = on_ok c.open.result (λ r h. h.0) c.open.ensures.hands

pub returns-clause-hands : goal.returns-clause-hands
returns-clause-hands g c = on_ok c.open.result (λ r h. λ i d low. (h.1 i d low).0) c.open.ensures.hands

pub returns-clause-parts : goal.returns-clause-parts
returns-clause-parts g c = on_ok c.open.result (λ r h. h.2) c.open.ensures.hands
