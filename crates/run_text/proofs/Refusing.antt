-- The line of a refusal, put by put.
use Rattle.std.proofs.Common.{◌≡◌, ℕ, [], ◌∷◌, ◌++◌, ap, append_assoc}
use Rattle.std.specs.Prelude.{codes}
use Rattle.std.specs.Fmt.{decimal}
use Rattle.coll_lang.specs.declared.fault.Refusal.{Refusal}
use Rattle.coll_lang.specs.Words.{refusal_word}
use Rattle.run_text.specs.Refused.{refusal_line}

pub refusal_line-puts : (number : ℕ) (name : Refusal) → refusal_line number name ≡ codes "refused" ++
    ((32 ∷ decimal number) ++ ((32 ∷ refusal_word name) ++ (10 ∷ [])))
refusal_line-puts number name = ap (λ xs. codes "refused" ++ (32 ∷ xs)) (append_assoc (decimal number) (32 ∷ refusal_word name) (10 ∷ []))
