use Rattle.std.proofs.Common.{◌++◌}
use Rattle.run_text.proofs.Taking.{EndsWith-stops, EndsWith-then, Fails-more, Fails-then, Takes-more, Takes-then}
use Rattle.rank_process.proofs.printing.write_line.Goals as goal

pub returns-in_err-put : goal.returns-in_err-put
returns-in_err-put g c =
    let head = c.args.head.now in
    let line = c.args.line.now in
    EndsWith-stops _ _ (head ++ line) _ c.from_residual.ensures.0
    (Fails-more _ _ head line (rw c.requires at c.in_err-put.ensures.puts))

pub returns-in_err-put-2 : goal.returns-in_err-put-2
returns-in_err-put-2 g c =
    let head = c.args.head.now in
    let line = c.args.line.now in
    EndsWith-stops _ _ (head ++ line) _ c.from_residual-in_err-put-2.ensures.0
    (Fails-then _ _ _ (head ++ line) _
    (Takes-more _ _ head _ line (rw c.requires at c.in_ok-put.ensures.puts)) c.in_err-put-2.ensures.puts)

pub returns : goal.returns
returns g c =
    let head = c.args.head.now in
    let line = c.args.line.now in
    EndsWith-then _ _ _ (head ++ line) _ _
    (Takes-then _ _ _ (head ++ line) _ _
    (Takes-more _ _ head _ line (rw c.requires at c.in_ok-put.ensures.puts)) c.in_ok-put-2.ensures.puts)
    c.end.ensures.ends
