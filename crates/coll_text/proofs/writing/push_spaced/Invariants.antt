use Rattle.std.proofs.Common.{◌≡◌, ◌∷◌, ◌++◌, drop}
use Rattle.std.specs.List.{flat_map}
use Rattle.coll_text.proofs.writing.push_spaced.Given as goal

-- what stands there with what is left is the whole
abbrev pub invariant-loop-word : goal.invariant-loop-word
invariant-loop-word l = l.out.items ++ flat_map (λ w. 32 ∷ w.now) (drop l.word-index l.words) ≡ l.fn.out.items ++ flat_map
    (λ w. 32 ∷ w.now) l.words
