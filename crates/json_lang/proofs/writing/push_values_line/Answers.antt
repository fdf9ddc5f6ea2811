use Rattle.std.proofs.Common.{List, ℕ, [], ◌∷◌, ◌++◌, map, sym, ap, ◌∙◌}
use Rattle.std.specs.List.{flat_map}
use Rattle.coll_text.specs.Text.{line}
use Rattle.serde_json.specs.View.{view}
use Rattle.json_lang.specs.Values.{word_of}
use Rattle.json_lang.proofs.Written.{keyed_line}
use Rattle.json_lang.proofs.writing.push_values_line.Goals as goal

pub returns : goal.returns
returns c =
    c.in_ok-push-2.ensures.items
    ∙ ap (λ (x : List ℕ). x ++ 10 ∷ []) (c.in_ok-push_spaced.ensures
    ∙ ap (λ (x : List ℕ). x ++ flat_map (λ v. 32 ∷ word_of (view v)) c.in-Some.others.now) c.in_ok-push_word.ensures)
    ∙ keyed_line c.args.out.now.items (word_of (view c.in-Some.first.now)) c.in-Some.others.now
    ∙ ap (λ vs. c.args.out.now.items ++ line (map word_of (map view vs))) (sym c.in-Some.ensures.cases.0)
