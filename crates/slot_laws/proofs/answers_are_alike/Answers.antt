use Rattle.slot_laws.proofs.Calls.{answers_alike, arrived_alike}
use Rattle.slot_laws.proofs.answers_are_alike.Goals as goal

pub returns-clause-calls : goal.returns-clause-calls
returns-clause-calls c = λ r is none call s t x y alike here there m n same. answers_alike r is none call s t x y alike here there m n same

pub returns-clause-messages : goal.returns-clause-messages
returns-clause-messages c = λ r is m s t alike. arrived_alike r is m s t alike
