use Rattle.std.proofs.Common.{◌≡◌, ◌++◌, drop}
use Rattle.std.specs.List.{flat_map}
use Rattle.log_answers.specs.Items.{field_in, fields_owed}
use Rattle.log_answers.specs.Printing.{field_text}
use Rattle.log_answers.proofs.printing.push_fields.Given as goal

-- what stands there with what is left is the whole
abbrev pub invariant-loop-key : goal.invariant-loop-key
invariant-loop-key g l =
    l.out.items
    ++ flat_map (λ key. field_text key.now (field_in key.now (fields_owed (g.K.Knows.known l.around) l.owed))) (drop l.key-index l.keys)
    ≡ l.fn.out.items ++ flat_map (λ key. field_text key.now (field_in key.now (fields_owed (g.K.Knows.known l.around) l.owed))) l.keys
