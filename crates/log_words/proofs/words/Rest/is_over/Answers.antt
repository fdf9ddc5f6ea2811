use denote.Ref.{Bor}
use Rattle.std.proofs.Common.{ℕ, List, Option, ap, sym, ◌∙◌}
use Rattle.std.specs.Option.{option_copied}
use Rattle.coll_text.specs.Text.{words_left}
use Rattle.log_words.specs.Words.{Rest, is_last, placed}
use Rattle.log_words.proofs.Columns.{some_word}
use Rattle.log_words.proofs.words.Rest.is_over.Goals as goal

pub returns-in-Some : goal.returns-in-Some
returns-in-Some c =
    let k = c.self.inside.column in
    sym (some_word k c.in-Some.field-0.now)
    ∙ ap (λ (l : Option (Bor (List ℕ))). is_last (placed k (words_left (option_copied l)))) (sym c.in-Some.is)
    ∙ ap (λ (r : Rest). is_last r.words) c.self.view_is
