use Rattle.std.proofs.Common.{◌≡◌, ◌++◌, drop}
use Rattle.std.specs.List.{flat_map}
use Rattle.serde_json.specs.View.{view}
use Rattle.json_lang.specs.LineText.{input_lines}
use Rattle.json_lang.proofs.writing.push_inputs.Given as goal

-- what stands there with what is left is the whole
abbrev pub invariant-loop-input : goal.invariant-loop-input
invariant-loop-input l = l.out.items ++ flat_map (λ v. input_lines (view v)) (drop l.input-index l.inputs)
    ≡ l.fn.out.items ++ flat_map (λ v. input_lines (view v)) l.inputs
