use Rattle.std.proofs.Common.{◌≡◌, ℕ, List, [], ◌∷◌, Option, Some, None, Bor, refl}
use Rattle.coll_text.specs.Cuts.{parts_after}
use Rattle.log_verdict.specs.Judging.{ranks_of}
use Rattle.log_verdict.proofs.Pieces.{not_empty}
use Rattle.log_verdict.proofs.judge.ranks_after.Goals as goal

-- more words than two
not_two : (key n : List ℕ) (ws all : List (List ℕ)) → all ≡ n ∷ ws → (ws ≡ [] → ⊥) → None ≡ ranks_of (key ∷ all)
not_two key n [] all e h = absurd (h refl)
not_two key n (w ∷ ws) all e h = rw e refl

some_after : (separator : ℕ) (after : Option (Bor (List ℕ))) (x : Bor (List ℕ)) → after ≡ Some x → parts_after separator after ≡ [] → ⊥
some_after separator None x e q = absurd cc
some_after separator (Some y) x e q = not_empty separator y.now q

pub returns-in-Some : goal.returns-in-Some
returns-in-Some c = not_two c.args.key.now _ _ _ c.cut.ensures.parts (some_after 32 _ _ c.in-Some.is)
