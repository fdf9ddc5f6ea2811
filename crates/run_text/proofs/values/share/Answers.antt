use Rattle.std.proofs.Common.{◌<◌, ◌≤◌, ◌*◌, ◌/◌, ℕ, arith}
use Rattle.std.proofs.Math.Nat.{div-mul-le_self, le-min, min-le_left, mul-le-mul_right}
use Rattle.std.proofs.lemmas.Nat.{le-div}
use Rattle.std.specs.Prelude.{min}
use Rattle.run_text.proofs.values.share.Goals as goal

-- as many whole elements as there are, 64 at most, have no more bytes than there are
fits : (len size : ℕ) → min (len / size) 64 * size ≤ len
fits len size = let a = mul-le-mul_right size (min-le_left (len / size) 64) in let b = div-mul-le_self len size in omega (arith, a, b)

-- and at least those of one
some_bytes : (len size : ℕ) → 0 < size → size ≤ len → 0 < min (len / size) 64 * size
some_bytes len size pos one =
    let there : 1 ≤ len / size = le-div 1 len size pos (omega (arith, one)) in
    let first : 1 ≤ min (len / size) 64 = le-min there (omega arith) in
    let a = mul-le-mul_right size first in omega (arith, a, pos)
