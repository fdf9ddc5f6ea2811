use Rattle.std.proofs.Common.{◌≡◌, ◌≢◌, ◌<◌, ◌≤◌, ◌+◌, ◌⊎◌, ◌∙◌, ⊎_elim, ℕ, sym, subst, arith, true≢false}
use Rattle.std.proofs.lemmas.Bool.{cases_eq}
use Rattle.rank_threads.specs.Turns.{FoundIdle}
use Rattle.rank_threads.proofs.Turns.{none-after}
use Rattle.rank_threads.proofs.fabric.Fabric.sweep_part.Goals as goal
use Rattle.rank_threads.proofs.fabric.Fabric.sweep_part.Goals.{then-work, else-work}

-- one rank more
more : (P Q : ℕ → Type 0) (n r : ℕ) → (r < n → P r) → (r ≢ n → P r → Q r) → Q n → r < n + 1 → Q r
more P Q n r below keep at_n h = ⊎_elim (λ (e : r ≡ n). subst Q (sym e) at_n)
    (λ (apart : r ≢ n). keep apart (below (omega (arith, apart, h)))) (cases_eq r n)

-- one that isn't between is another
other : (first n end r : ℕ) → first ≤ n → n < end → (r < first ⊎ end ≤ r) → r ≢ n
other first n end r low high o = λ is. ⊎_elim (λ (h : r < first). omega (arith, is, h, low)) (λ (h : end ≤ r). omega (arith, is, h, high)) o

pub work-requires-clause-rank : goal.work-requires-clause-rank
work-requires-clause-rank g c = omega (arith, c.requires.end)

pub loop-rank-preserved : goal.loop-rank-preserved
loop-rank-preserved g c = let i = c.loop-rank.invariant in let w = c.work.ensures in record {
  hand = w.hand;
  parts = w.parts ∙ i.parts;
  idle = λ r low h. more (FoundIdle c.args.self.now.job c.loop-rank.hand.knows) (FoundIdle c.args.self.now.job c.work.new.hand.knows)
      c.loop-rank.rank r (λ k. i.idle r low k) (w.others r) w.idle (omega (arith, h));
  others = λ r o h. w.others r (other c.args.first c.loop-rank.rank c.args.end r (omega arith) (omega arith) o) (i.others r o h);
  none = elim c.if-work.branch [
    | then-work b ↦ λ no. absurd (true≢false (sym b.worked-is ∙ no))
    | else-work b ↦ λ no.
        none-after c.args.hand.now.knows c.loop-rank.hand.knows c.work.new.hand.knows (i.none (sym b.worked-is ∙ no))
        (w.none b.if-work.false)
  ];
}

pub returns-clause-idle : goal.returns-clause-idle
returns-clause-idle g c = λ r low h. c.loop-rank.invariant.idle r low (omega (arith, h, c.loop-rank-test.false))
