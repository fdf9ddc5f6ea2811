use Rattle.std.proofs.Common.{List, ℕ, [], ◌∷◌, ◌++◌, ap, ◌∙◌}
use Rattle.std.specs.List.{flat_map}
use Rattle.serde_json.specs.View.{view}
use Rattle.json_lang.specs.Values.{word_of}
use Rattle.json_lang.proofs.Written.{keyed_line}
use Rattle.json_lang.proofs.writing.push_keyed_line.Goals as goal

pub returns : goal.returns
returns c =
    c.in_ok-push.ensures.items
    ∙ ap (λ (x : List ℕ). x ++ 10 ∷ []) (c.in_ok-push_spaced.ensures
    ∙ ap (λ (x : List ℕ). x ++ flat_map (λ v. 32 ∷ word_of (view v)) c.args.values.now) c.in_ok-extend_from_slice.ensures.items)
    ∙ keyed_line c.args.out.now.items c.args.key.now c.args.values.now
