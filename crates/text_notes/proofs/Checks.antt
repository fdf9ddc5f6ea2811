-- Texts of a description and orders that are read.
use Rattle.std.proofs.Common.{◌≡◌, ℕ, ◌<◌, ◌≤◌, List, length, Result, Ok, Err, refl, sym, ◌∙◌, inl, inr}
use Rattle.std.proofs.lemmas.Bool.{cases_lt, lt-ltb}
use Rattle.ptl_types.specs.declared.steps.LocalStep.{LocalStep}
use Rattle.coll_lang.specs.declared.fault.Refusal.{Refusal}
use Rattle.coll_lang.specs.declared.fault.Refusal.TheVariants.{TooLong}
use Rattle.coll_lang.specs.Program.{Program}
use Rattle.order_lines.specs.Check.{read_check}
use Rattle.order_lines.specs.declared.checking.TheConstants.{LONGEST_CHECK}

too_long : (bytes : List ℕ) → LONGEST_CHECK < length bytes → read_check bytes ≡ Err (0, TooLong)
unfolding read_check
too_long bytes long = rw (lt-ltb LONGEST_CHECK (length bytes) long) refl

-- they aren't too long
pub short_check : (bytes : List ℕ) (both : Program × List (List LocalStep)) → read_check bytes ≡ Ok both → length bytes ≤ LONGEST_CHECK
short_check bytes both is =
    elim (cases_lt LONGEST_CHECK (length bytes)) [
      | inl long ↦ (let e = sym is ∙ too_long bytes long in absurd (cc))
      | inr short ↦ short
    ]
