-- By `Conditions`.
use Rattle.verdict_laws.proofs.Conditions.{can_run, fit, guarded, sound}
use Rattle.verdict_laws.proofs.flawless_plans_can_run.Goals as goal

pub returns : goal.returns
returns c = record {
  sound = λ p o said marks h. sound p o said marks h;
  inputs = λ p o said marks inputs h given. fit p o said marks h inputs given;
  guarded = λ p o said marks h. guarded p o said marks h;
  can_run = λ p o said marks held h few named. can_run p o said marks h held few named;
}
