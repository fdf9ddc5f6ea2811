use Rattle.std.proofs.Common.{◌≡◌, ◌++◌, drop}
use Rattle.std.specs.List.{flat_map}
use Rattle.serde_json.specs.View.{view}
use Rattle.json_lang.specs.LineText.{group_line}
use Rattle.json_lang.proofs.writing.push_groups.Given as goal

-- what stands there with what is left is the whole
abbrev pub invariant-loop-group : goal.invariant-loop-group
invariant-loop-group l = l.out.items ++ flat_map (λ v. group_line (view v)) (drop l.group-index l.groups)
    ≡ l.fn.out.items ++ flat_map (λ v. group_line (view v)) l.groups
