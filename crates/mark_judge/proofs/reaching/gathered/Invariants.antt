use Rattle.std.proofs.Common.{ℕ, ◌≡◌, ◌||◌, get_or, take}
use Rattle.std.specs.List.{list_any}
use Rattle.mark_judge.specs.Tables.{has_bit, no_bits}
use Rattle.mark_judge.proofs.reaching.gathered.Given as goal

abbrev pub invariant-loop-l : goal.invariant-loop-l
invariant-loop-l l =
    (k : ℕ) → has_bit l.word k ≡ (has_bit l.fn.own k || list_any (λ m. has_bit (get_or l.words (get_or l.sources m 0) no_bits) k)
    (take l.l-index l.links))
