use Rattle.std.proofs.Common.{◌≡◌, ◌<◌, ◌+◌, ◌-◌, ◌∙◌, ◌∷◌, ap, arith, drop, length}
use Rattle.std.proofs.lemmas.List.{drop-set}
use Rattle.run_text.proofs.values.mark.Goals as goal

pub returns-clause-written : goal.returns-clause-written
returns-clause-written c =
    let some = c.requires.nonempty in let inside = c.requires.inside in let at = c.args.at in
    let low : at - 1 < length c.args.block.now = omega (arith, some, inside) in
    let one : at - 1 + 1 ≡ at = omega (arith, some) in
    drop-set c.args.block.now (at - 1) c.args.byte low ∙ ap (λ k. c.args.byte ∷ drop k c.args.block.now) one
