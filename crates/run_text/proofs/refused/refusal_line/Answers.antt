use Rattle.std.proofs.Common.{◌∷◌}
use Rattle.std.specs.Prelude.{codes}
use Rattle.std.specs.Fmt.{decimal}
use Rattle.coll_lang.specs.Words.{refusal_word}
use Rattle.run_text.proofs.Refusing.{refusal_line-puts}
use Rattle.run_text.proofs.Taking.{Puts-exit, Puts-exit-then, Puts-then}
use Rattle.run_text.proofs.refused.refusal_line.Goals as goal

pub returns-in_err-put : goal.returns-in_err-put
returns-in_err-put g c = rw refusal_line-puts (Puts-exit _ _ _ _ (codes "refused") _ _ c.from_residual.ensures.0 c.in_err-put.ensures.puts)

pub returns-in_err-put_number : goal.returns-in_err-put_number
returns-in_err-put_number g c =
    rw refusal_line-puts (Puts-exit-then _ _ _ _ _ _ (codes "refused") (32 ∷ decimal c.args.number) _ _
    c.from_residual-in_err-put_number.ensures.0 c.in_ok-put.ensures.puts c.in_err-put_number.ensures)

pub returns-in_err-put_word : goal.returns-in_err-put_word
returns-in_err-put_word g c =
    let failed = rw (c.as_bytes.ensures.value, c.word.ensures.value) at c.in_err-put_word.ensures in
    rw refusal_line-puts (Puts-then _ _ _ _ _ _ (codes "refused") _ _ c.in_ok-put.ensures.puts
    (Puts-exit-then _ _ _ _ _ _ (32 ∷ decimal c.args.number) (32 ∷ refusal_word c.args.name) _ _
    c.from_residual-in_err-put_word.ensures.0 c.in_ok-put_number.ensures failed))

pub returns : goal.returns
returns g c =
    let put = rw (c.as_bytes.ensures.value, c.word.ensures.value) at c.in_ok-put_word.ensures in
    rw refusal_line-puts (Puts-then _ _ _ _ _ _ (codes "refused") _ _ c.in_ok-put.ensures.puts
    (Puts-then _ _ _ _ _ _ (32 ∷ decimal c.args.number) _ _ c.in_ok-put_number.ensures
    (Puts-then _ _ _ _ _ _ (32 ∷ refusal_word c.args.name) _ _ put c.put-2.ensures.puts)))
