use Rattle.std.proofs.Common.{ℕ, Option, ap, ◌∙◌}
use Rattle.log_words.specs.Words.{key_by, key_of, value_by, value_of, word}
use Rattle.log_words.proofs.words.Word.field.Goals as goal

pub returns-in-None-clause-key : goal.returns-in-None-clause-key
unfolding key_of
returns-in-None-clause-key c =
    ap (λ (o : Option ℕ). key_by o c.self.inside.text.now) c.in-None.ensures.value ∙ ap key_of c.self.view_is

pub returns-in-None-clause-value : goal.returns-in-None-clause-value
unfolding value_of
returns-in-None-clause-value c =
    ap (λ (o : Option ℕ). value_by o (word c.self.inside.text.now c.self.inside.column)) c.in-None.ensures.value
    ∙ ap value_of c.self.view_is

pub returns-in-Some-clause-key : goal.returns-in-Some-clause-key
unfolding key_of
returns-in-Some-clause-key c =
    ap (λ (o : Option ℕ). key_by o c.self.inside.text.now) c.in-Some.ensures.value ∙ ap key_of c.self.view_is
