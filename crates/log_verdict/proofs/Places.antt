-- Calls that are made of no open interface.
use Rattle.std.proofs.Common.{◌≡◌, ℕ, Option, refl}
use Rattle.log_words.specs.Words.{Word, Rest}
use Rattle.log_words.specs.declared.call_fields.said.Opening.{Opening}
use Rattle.log_lines.specs.declared.calls.Call.{Call}
use Rattle.log_lines.specs.declared.calls.Call.TheVariants as said
use Rattle.log_verdict.specs.Answering.{Came}
use Rattle.log_verdict.specs.Steps.{CallsSeat, Makes}
use Rattle.log_verdict.specs.declared.scenes.Scene.{Scene}

-- it neither opens an interface nor lets a message arrive
pub record NoPlace (call : Call) : Type 0 where
  pub not_Open : (x0 : Opening) → (call ≡ said.Open x0 → ⊥)
  pub not_Deliver : (x0 : Word) → (call ≡ said.Deliver x0 → ⊥)

-- then an open interface answers
pub no_place : (call : Call) (rank : ℕ) (said_by : Option Rest) (s : Scene) (c : Came) → NoPlace call → CallsSeat call rank said_by s c
    → Makes call rank said_by s c
unfolding Makes
no_place (said.Open x0) rank said_by s c n h = absurd (n.not_Open x0 refl)
no_place (said.Deliver x0) rank said_by s c n h = absurd (n.not_Deliver x0 refl)
no_place _ rank said_by s c n h = h
