use Rattle.std.specs.Fmt.{decimal}
use Rattle.run_text.proofs.Taking.{Puts-exit, Puts-then}
use Rattle.run_text.proofs.words.put_marked.Goals as goal

pub returns-in_err-put : goal.returns-in_err-put
returns-in_err-put g c = Puts-exit _ _ _ _ c.args.mark.now (decimal c.args.number) _ c.from_residual.ensures.0 c.in_err-put.ensures.puts

pub returns : goal.returns
returns g c = Puts-then _ _ _ _ _ _ c.args.mark.now (decimal c.args.number) _ c.in_ok-put.ensures.puts
    (rw (c.as_bytes.ensures.value, c.format.ensures.text) at c.put-2.ensures.puts)
