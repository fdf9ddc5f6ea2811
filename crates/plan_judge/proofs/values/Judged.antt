-- Plans without a flaw.
use Rattle.std.proofs.Common.{◌≡◌, ℕ, ◌*◌, ◌/◌, ◌%◌, ◌<◌, List, length, None, sym, subst, ◌∙◌, arith, div-add-mod', mod-lt}
use Rattle.std.proofs.Math.Nat.{lt_of_mul-lt-mul_right}
use Rattle.plan_core.specs.Plan.{Plan}
use Rattle.plan_core.specs.Sound.{SoundPlan}
use Rattle.plan_core.specs.Values.{Inputs}
use Rattle.plan_judge.specs.Causes.{judged}
use Rattle.plan_judge.proofs.Flawless.{none_sound}
use Rattle.plan_judge.specs.values.Given.{AreLists, IsGiven}

pub input_in : (i n m : ℕ) → i < m * n → i / n < m
input_in i n m h = let e = div-add-mod' i n in lt_of_mul-lt-mul_right n (let z : i / n * n < m * n = omega (arith, e, h) in z)

pub given : (p : Plan) (inputs : Inputs) (lengths : List ℕ) → judged p lengths ≡ None → AreLists p.ranks lengths inputs → IsGiven p inputs
given p inputs lengths none lists =
    let j = none_sound p lengths none in
    record {
      sound = subst (SoundPlan p) (sym lists.many) j.0;
      rows = lists.rows;
      fits = λ i h.
          let some = j.0.some_rank in
          let rank : i % p.ranks < p.ranks = mod-lt i (let z : 0 < p.ranks = omega (arith, some) in z) in
          let there : i < length lengths * p.ranks = rw lists.many at h in
          lists.long (i / p.ranks) (i % p.ranks) (input_in i p.ranks (length inputs) h) rank ∙ sym (j.1 i there);
    }
