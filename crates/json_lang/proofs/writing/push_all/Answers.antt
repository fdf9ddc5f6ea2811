use Rattle.std.proofs.Common.{[], ◌∷◌, codes}
use Rattle.coll_text.specs.Text.{line}
use Rattle.serde_json.specs.View.{view}
use Rattle.json_lang.specs.LineText.{line_text, word_at, list_at, remote_line}
use Rattle.json_lang.proofs.Written.{all_joined}
use Rattle.json_lang.proofs.writing.push_all.Goals as goal

pub returns : goal.returns
unfolding line_text
returns c =
    let d = view c.args.value.now in
    rw (
      c.in_ok-push_line.ensures.added,
      c.in_ok-push_prints.ensures,
      c.in_ok-push_lists.ensures,
      c.in_ok-push_inputs.ensures,
      c.in_ok-push_groups.ensures,
      c.in_ok-push_remote.ensures,
      c.in_ok-push_member_line-2.ensures,
      c.in_ok-push_member_line.ensures,
    )
    (all_joined c.args.out.now.items
    (line (codes "coll" ∷ word_at (codes "coll") d ∷ [])) (line (codes "ranks" ∷ word_at (codes "ranks") d ∷ []))
    (remote_line d) (line (codes "end" ∷ []))
    c.list_at.result.now c.list_at-2.result.now c.list_at-3.result.now c.list_at-4.result.now
    (list_at (codes "groups") d) (list_at (codes "inputs") d) (list_at (codes "steps") d) (list_at (codes "prints") d)
    c.list_at.ensures c.list_at-2.ensures c.list_at-3.ensures c.list_at-4.ensures)
