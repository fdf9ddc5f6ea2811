-- What stays in a source when a call has ended.
use Rattle.std.proofs.Common.{◌≡◌, ℕ, ◌+◌, ◌≤◌, List, length, drop}
use Rattle.port_io.specs.Ends.{Inflow}
use Rattle.run_text.specs.declared.status.Status.{Status}
use Rattle.run_text.specs.declared.status.Status.TheVariants.{Done, Usage, Refused, ReadFault, WriteFault, NoMemory}
use Rattle.run_text.specs.Ending.{IsTold, Leaves, MayAnswer}
use Rattle.run_text.proofs.Told.{Told}

-- after a text was read
pub leaves : (longest : ℕ) (owed status : Status) (text : List ℕ) (source source' : Inflow)
    (told : Told longest source.left source'.left text)
    → (owed ≡ Done → length text ≤ longest) → MayAnswer status owed → Leaves status source' (drop (longest + 1) told.bytes)
leaves longest owed Done text source source' told short allowed = (told.rest, told.nothing (short allowed))
leaves longest owed Usage text source source' told short allowed = told.rest
leaves longest owed Refused text source source' told short allowed = told.rest
leaves longest owed ReadFault text source source' told short allowed = tt
leaves longest owed WriteFault text source source' told short allowed = told.rest
leaves longest owed NoMemory text source source' told short allowed = tt

-- where nothing is read
pub stays : (status : Status) (source : Inflow) (bytes : List ℕ) → IsTold source.left bytes → MayAnswer status Usage →
    Leaves status source bytes
stays Done source bytes told allowed = absurd (cc)
stays Usage source bytes told allowed = told
stays Refused source bytes told allowed = told
stays ReadFault source bytes told allowed = tt
stays WriteFault source bytes told allowed = told
stays NoMemory source bytes told allowed = tt
