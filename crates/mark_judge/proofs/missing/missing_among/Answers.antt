-- The first rank whose result has no line.
use Rattle.std.proofs.Common.{ℕ, ◌∙◌, sym, arith}
use Rattle.mark_judge.specs.declared.flaw.Due.TheVariants.{Result}
use Rattle.mark_judge.specs.Judged.{missing}
use Rattle.mark_judge.specs.Tables.{has}
use Rattle.mark_judge.proofs.Finds.{found_here, none_in_all, none_more}
use Rattle.mark_judge.proofs.missing.missing_among.Goals as goal

pub returns-then-is_some : goal.returns-then-is_some
returns-then-is_some c =
    found_here (λ (r : ℕ). missing (has c.args.named.now) (Result c.args.buffer r)) c.args.holders.now c.loop-rank.rank-index 0 _
    (omega arith) c.missing-flaw.ensures (sym c.is_some.ensures ∙ c.if-is_some.true) c.loop-rank.invariant

pub loop-rank-preserved : goal.loop-rank-preserved
loop-rank-preserved c =
    none_more (λ (r : ℕ). missing (has c.args.named.now) (Result c.args.buffer r)) c.args.holders.now c.loop-rank.rank-index 0 _
    (omega arith) c.missing-flaw.ensures (sym c.is_some.ensures ∙ c.if-is_some.false) c.loop-rank.invariant

pub returns : goal.returns
returns c =
    none_in_all (λ (r : ℕ). missing (has c.args.named.now) (Result c.args.buffer r)) c.args.holders.now c.loop-rank.rank-index
    (omega arith) c.loop-rank.invariant
