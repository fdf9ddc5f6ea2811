use Rattle.std.proofs.Common.{ℕ, ◌+◌, ◌<◌, List, [], ◌∷◌, ◌++◌, sym, subst, inl, inr, arith}
use Rattle.std.proofs.lemmas.Bool.{cases_lt}
use Rattle.plan_core.specs.Members.{In}
use Rattle.plan_core.proofs.Lists.{In-append_cases, In-append_left, In-append_right}
use Rattle.order_check.proofs.taking.all_ranks.Goals as goal

all_more : (queue : List ℕ) (n : ℕ) → ((q : ℕ) → q < n → In q queue) → (q : ℕ) → q < n + 1 → In q (queue ++ n ∷ [])
all_more queue n all q h = elim (cases_lt q n) [
  | inl l ↦ In-append_left q queue (n ∷ []) (all q l)
  | inr l ↦ In-append_right q queue (n ∷ []) (inl (omega arith))
]

known_more : (queue : List ℕ) (n : ℕ) → ((q : ℕ) → In q queue → q < n) → (q : ℕ) → In q (queue ++ n ∷ []) → q < n + 1
known_more queue n known q i = elim (In-append_cases q queue (n ∷ []) i) [
  | inl j ↦ (let l = known q j in omega arith)
  | inr j ↦ elim j [ inl e ↦ omega arith | inr z ↦ absurd z ]
]

pub loop-r-preserved : goal.loop-r-preserved
loop-r-preserved c = record {
  all = λ q h. subst (λ v. In q v) (sym c.in_ok-look_again.ensures) (all_more c.loop-r.queue.items c.loop-r.r c.loop-r.invariant.all q h);
  known = λ q i. known_more c.loop-r.queue.items c.loop-r.r c.loop-r.invariant.known q
      (subst (λ v. In q v) c.in_ok-look_again.ensures i);
}

pub returns-clause-known : goal.returns-clause-known
returns-clause-known c = λ q i. let l = c.loop-r.invariant.known q i in omega arith
