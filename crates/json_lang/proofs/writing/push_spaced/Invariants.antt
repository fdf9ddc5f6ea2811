use Rattle.std.proofs.Common.{◌≡◌, ◌∷◌, ◌++◌, drop}
use Rattle.std.specs.List.{flat_map}
use Rattle.serde_json.specs.View.{view}
use Rattle.json_lang.specs.Values.{word_of}
use Rattle.json_lang.proofs.writing.push_spaced.Given as goal

-- what stands there with what is left is the whole
abbrev pub invariant-loop-value : goal.invariant-loop-value
invariant-loop-value l = l.out.items ++ flat_map (λ v. 32 ∷ word_of (view v)) (drop l.value-index l.values)
    ≡ l.fn.out.items ++ flat_map (λ v. 32 ∷ word_of (view v)) l.values
