use Rattle.std.proofs.Common.{◌≡◌, ◌++◌, drop}
use Rattle.std.specs.List.{flat_map}
use Rattle.serde_json.specs.View.{view}
use Rattle.json_lang.specs.LineText.{print_line}
use Rattle.json_lang.proofs.writing.push_prints.Given as goal

-- what stands there with what is left is the whole
abbrev pub invariant-loop-print : goal.invariant-loop-print
invariant-loop-print l = l.out.items ++ flat_map (λ v. print_line (view v)) (drop l.print-index l.prints)
    ≡ l.fn.out.items ++ flat_map (λ v. print_line (view v)) l.prints
