use Rattle.std.proofs.Common.{◌++◌}
use Rattle.run_text.proofs.Taking.{EndsWith-then}
use Rattle.log_top.proofs.verdicts.write_end.Goals as goal

pub returns-clause-ends : goal.returns-clause-ends
returns-clause-ends g c =
    EndsWith-then _ _ _ (c.args.pieces.now ++ c.args.text.now) c.put.new.self _ c.in_ok-put.ensures.puts c.end.ensures.ends
