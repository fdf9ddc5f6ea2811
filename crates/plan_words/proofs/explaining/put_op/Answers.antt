use Rattle.std.proofs.Common.{ℕ, List, ◌≡◌, ◌∷◌, ◌∙◌, ap, map, subst}
use Rattle.std.specs.Prelude.{codes}
use Rattle.std.specs.Fmt.{decimal}
use Rattle.coll_text.specs.Text.{line}
use Rattle.run_text.specs.Putting.{Puts}
use Rattle.run_text.specs.Worded.{word_bytes}
use Rattle.run_text.proofs.Taking.{Puts-exit, Puts-then}
use Rattle.plan_words.proofs.Naming.{fired}
use Rattle.plan_words.proofs.explaining.put_op.Goals as goal

pub returns-in_err-put : goal.returns-in_err-put
returns-in_err-put g c =
    rw (fired c.args.number c.args.words.now)
    (Puts-exit _ _ _ _ (codes "f") (line (decimal c.args.number ∷ map word_bytes c.args.words.now)) _ c.from_residual.ensures.0
    c.in_err-put.ensures.puts)

pub returns : goal.returns
returns g c =
    let digits : c.as_bytes.result.now ≡ decimal c.args.number =
    c.as_bytes.ensures.value ∙ (c.format.ensures.text ∙ ap decimal c.from.ensures) in
    let rest =
    subst
    (λ (d : List ℕ). Puts (g.K.Sink.outflow c.put.new.sink) (g.K.Sink.outflow c.put_line.new.sink) c.put.new.self c.put_line.new.out
    (line (d ∷ map word_bytes c.args.words.now)) c.put_line.result)
    digits c.put_line.ensures in
    rw (fired c.args.number c.args.words.now)
    (Puts-then _ _ _ _ _ _ (codes "f") (line (decimal c.args.number ∷ map word_bytes c.args.words.now)) _ c.in_ok-put.ensures.puts rest)
