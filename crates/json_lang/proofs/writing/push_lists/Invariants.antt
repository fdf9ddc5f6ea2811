use Rattle.std.proofs.Common.{◌≡◌, ◌++◌, drop}
use Rattle.std.specs.List.{flat_map}
use Rattle.serde_json.specs.View.{view}
use Rattle.json_lang.specs.LineText.{list_line}
use Rattle.json_lang.proofs.writing.push_lists.Given as goal

-- what stands there with what is left is the whole
abbrev pub invariant-loop-list : goal.invariant-loop-list
invariant-loop-list l = l.out.items ++ flat_map (λ v. list_line (view v)) (drop l.list-index l.lists)
    ≡ l.fn.out.items ++ flat_map (λ v. list_line (view v)) l.lists
