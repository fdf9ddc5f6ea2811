-- All words stand there.
use Rattle.std.proofs.Common.{List, ℕ, ◌++◌, ap, ◌∙◌, arith}
use Rattle.std.specs.Borrow.{Bor}
use Rattle.std.specs.List.{flat_map}
use Rattle.std.proofs.lemmas.List.{take_all}
use Rattle.given_verdicts.proofs.Wording.{spaced, whole_line}
use Rattle.given_verdicts.proofs.saying.line_of.Goals as goal

pub returns : goal.returns
returns c =
    let first = c.args.first.now in
    let words = c.args.words.now in
    let t = c.loop-word-test.false in
    whole_line first words c.loop-word.text.items _
    (c.loop-word.invariant
    ∙ ap (λ (v : List (Bor (List ℕ))). first ++ flat_map spaced v) (take_all c.loop-word.word-index words (omega (arith, t))))
    c.in_ok-push-2.ensures.items
