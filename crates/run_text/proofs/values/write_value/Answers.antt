use Rattle.std.proofs.Common.{◌∷◌, ◌++◌, ◌∙◌, List, ℕ, ap, drop, sym}
use Rattle.run_text.proofs.Spaced.{plain-word, signed-word}
use Rattle.run_text.proofs.values.write_value.Goals as goal

pub returns-then-negative-clause-written : goal.returns-then-negative-clause-written
returns-then-negative-clause-written c =
    let p = c.printed_value-negative in
    let word = signed-word c.args.ty c.args.n p.result.1 p.result.0 c.if-negative.true p.ensures.value in
    c.mark.ensures.written
    ∙ (ap (λ (v : List ℕ). 32 ∷ v) (c.mark-sign.ensures.written ∙ ap (λ (v : List ℕ). 45 ∷ v) c.write_number-start.ensures.written)
    ∙ ap (λ (v : List ℕ). 32 ∷ (v ++ drop c.args.end c.args.block.now)) (sym word))

pub returns-clause-written : goal.returns-clause-written
returns-clause-written c =
    let p = c.printed_value-negative in
    let word = plain-word c.args.ty c.args.n p.result.1 p.result.0 c.if-negative.false p.ensures.value in
    c.mark-2.ensures.written
    ∙ (ap (λ (v : List ℕ). 32 ∷ v) c.write_number-start.ensures.written
    ∙ ap (λ (v : List ℕ). 32 ∷ (v ++ drop c.args.end c.args.block.now)) (sym word))
