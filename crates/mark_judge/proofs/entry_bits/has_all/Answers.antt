-- By `Bits`.
use Rattle.std.proofs.Common.{sym, ◌∙◌}
use Rattle.mark_judge.proofs.Bits.{all_among}
use Rattle.mark_judge.proofs.entry_bits.has_all.Goals as goal

pub returns : goal.returns
returns c = λ t j h. all_among c.args.bits c.args.mask c.joined.result (sym c.is_same.ensures ∙ t) c.joined.ensures j h
