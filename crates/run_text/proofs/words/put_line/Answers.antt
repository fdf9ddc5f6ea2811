use Rattle.std.proofs.Common.{◌∷◌}
use Rattle.std.specs.List.{flat_map}
use Rattle.run_text.specs.declared.words.Word.{Word}
use Rattle.run_text.specs.Worded.{word_bytes}
use Rattle.run_text.proofs.Taking.{Puts-exit, Puts-exit-then, Puts-then}
use Rattle.run_text.proofs.Wording.{worded}
use Rattle.run_text.proofs.words.put_line.Goals as goal

pub returns-in_err-put : goal.returns-in_err-put
returns-in_err-put g c =
    rw (worded c.args.first.now word_bytes c.args.words.now)
    (Puts-exit _ _ _ _ c.args.first.now _ _ c.from_residual.ensures.0 c.in_err-put.ensures.puts)

pub returns-in_err-put_all : goal.returns-in_err-put_all
returns-in_err-put_all g c =
    rw (worded c.args.first.now word_bytes c.args.words.now)
    (Puts-exit-then _ _ _ _ _ _ c.args.first.now (flat_map (λ (w : Word). 32 ∷ word_bytes w) c.args.words.now) _ _
    c.from_residual-in_err-put_all.ensures.0 c.in_ok-put.ensures.puts c.in_err-put_all.ensures)

pub returns : goal.returns
returns g c =
    rw (worded c.args.first.now word_bytes c.args.words.now) (Puts-then _ _ _ _ _ _ c.args.first.now _ _ c.in_ok-put.ensures.puts
    (Puts-then _ _ _ _ _ _ (flat_map (λ (w : Word). 32 ∷ word_bytes w) c.args.words.now) _ _ c.in_ok-put_all.ensures c.put-2.ensures.puts))
