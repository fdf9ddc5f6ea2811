use Rattle.std.proofs.Common.{◌<◌, ◌≤◌, ◌*◌, ◌/◌, ◌^◌, ℕ, arith}
use Rattle.std.proofs.Math.Nat.{div-le_of_le-mul}
use Rattle.std.proofs.lemmas.Nat.{mul-le, mul-lt}
use Rattle.rank_threads.proofs.workers.block_start.Goals as goal

-- a part of the ranks is no more than all
part-le : (worker workers ranks : ℕ) → worker ≤ workers → worker * ranks / workers ≤ ranks
part-le worker workers ranks h = div-le_of_le-mul workers {m = worker * ranks} {n = ranks}
    (mul-le worker ranks workers ranks h (omega arith))

pub overflow_mul-result : goal.overflow_mul-result
overflow_mul-result c = let h : c.args.worker * c.from.result < 2 ^ 32 * 2 ^ 32 = mul-lt c.args.worker c.from.result (2 ^ 32) (2 ^ 32)
    (omega arith) (omega arith) in omega (arith, h)

pub overflow_cast-result : goal.overflow_cast-result
overflow_cast-result c = let h = part-le c.args.worker c.args.workers c.from.result c.requires.worker in omega (arith, h)

pub returns-clause-within : goal.returns-clause-within
returns-clause-within c = let h = part-le c.args.worker c.args.workers c.from.result c.requires.worker in omega (arith, h)
