-- What is answered to words, from what they ask for.
use Rattle.std.proofs.Common.{◌≡◌, Bool, Option, Some, None, refl, sym, subst}
use Rattle.port_io.specs.Ends.{Inflow, Outflow}
use Rattle.run_text.proofs.Told.{told-any}
use Rattle.run_text.specs.Ending.{Written}
use Rattle.run_text.specs.declared.status.Status.{Status}
use Rattle.log_top.specs.Answered.{AnswersSome}
use Rattle.log_top.specs.Ending.{alone}
use Rattle.log_top.specs.Telling.{owed_usage}
use Rattle.log_top.specs.declared.ending.Ended.{Ended}
use Rattle.log_top.specs.declared.top.Mode.{Mode}

pub as_asked : (a b : Option (Mode × Bool)) (source source' : Inflow) (sink sink' : Outflow) (e : Ended) → a ≡ b
    → AnswersSome a source source' sink sink' e → AnswersSome b source source' sink sink' e
as_asked a b source source' sink sink' e is h =
    subst (λ (x : Option (Mode × Bool)). AnswersSome x source source' sink sink' e) is h

pub usage_answers : (source : Inflow) (sink sink' : Outflow) (status : Status) (e : Ended) → e ≡ alone status
    → Written owed_usage sink sink' status → AnswersSome None source source sink sink' e
usage_answers source sink sink' status e is w =
    let t = told-any source.left in
    (t.0, t.1, (subst (λ (x : Ended). Written owed_usage sink sink' x.status) (sym is) w, refl))
