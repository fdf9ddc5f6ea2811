use Rattle.std.proofs.Common.{List, ℕ, ◌++◌, codes, ap, ◌∙◌}
use Rattle.std.specs.List.{flat_map}
use Rattle.serde_json.specs.View.{view}
use Rattle.json_lang.specs.LineText.{list_line, list_at}
use Rattle.json_lang.proofs.Written.{input_joined}
use Rattle.json_lang.proofs.writing.push_input.Goals as goal

pub returns : goal.returns
returns c =
    let rows = c.list_at-rows.result.now in
    c.in_ok-push_lists.ensures
    ∙ ap (λ (x : List ℕ). x ++ flat_map (λ v. list_line (view v)) rows) c.in_ok-push_input_line.ensures
    ∙ input_joined c.args.out.now.items (view c.args.input.now) rows (list_at (codes "rows") (view c.args.input.now)) c.list_at-rows.ensures
