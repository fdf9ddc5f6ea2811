-- What is encoded reads as its message again.
use Rattle.std.proofs.Common.{ℕ, List, ◌++◌, ap, ◌∙◌}
use Rattle.message_codec.specs.Encoding.{encoding}
use Rattle.message_codec.specs.Reading.{reading}
use Rattle.message_codec.proofs.Laws.{again}
use Rattle.message_codec.proofs.encoding.encode.Goals as goal

pub returns-in-Ok-clause-again : goal.returns-in-Ok-clause-again
returns-in-Ok-clause-again c =
    let m = c.args.message.now in
    ap reading (c.in-Ok.ensures.ok ∙ ap (λ (l : List ℕ). l ++ encoding m) c.clear.ensures.items) ∙ again m c.in-Ok.ensures.has
