use Rattle.std.proofs.Common.{◌≡◌, ℕ, ◌+◌, ◌-◌, ◌/◌, ◌%◌, ◌^◌, ◌<◌, ◌≤◌, sum, refl, arith}
use Rattle.triggered_ops.specs.marks.Bits.{bits}
use Rattle.triggered_ops.proofs.marks.Words.{IsSearch, search-more, search-jump, search-end}
use Rattle.triggered_ops.proofs.marks.bit_at.Goals as goal

-- the bit comes to lie before the last
passed : (word i rest left bit z c : ℕ) → IsSearch 64 word i rest left bit → sum (bits z rest) ≡ c → c ≤ left → bit + z < 64
passed word i rest left bit z c s e le = search-more 64 word i (rest / 2 ^ z) (left - c) (bit + z)
    (search-jump z 64 word i rest left bit (bit + z) c s e le refl)

pub overflow_shr-rest : goal.overflow_shr-rest
overflow_shr-rest c =
    let lt = passed c.args.word c.args.i c.loop-rest.rest c.loop-rest.left c.loop-rest.bit c.step_of-step.result (c.loop-rest.rest % 2)
    c.loop-rest.invariant c.step_of-step.ensures.passed c.loop-rest-test.true in
    omega (arith, lt)

pub overflow_add-bit : goal.overflow_add-bit
overflow_add-bit c =
    let lt = passed c.args.word c.args.i c.loop-rest.rest c.loop-rest.left c.loop-rest.bit c.step_of-step.result (c.loop-rest.rest % 2)
    c.loop-rest.invariant c.step_of-step.ensures.passed c.loop-rest-test.true in
    omega (arith, lt)

pub loop-rest-smaller : goal.loop-rest-smaller
loop-rest-smaller c =
    let lt = search-more _ _ _ _ _ _ c.loop-rest.invariant in
    omega (arith, lt, c.step_of-step.ensures.more)

pub loop-rest-preserved : goal.loop-rest-preserved
loop-rest-preserved c =
    search-jump c.step_of-step.result 64 c.args.word c.args.i c.loop-rest.rest c.loop-rest.left c.loop-rest.bit
    (c.loop-rest.bit + c.step_of-step.result) (c.loop-rest.rest % 2) c.loop-rest.invariant c.step_of-step.ensures.passed
    c.loop-rest-test.true refl

pub returns-clause-within : goal.returns-clause-within
returns-clause-within c = search-more _ _ _ _ _ _ c.loop-rest.invariant

pub returns-clause-before : goal.returns-clause-before
returns-clause-before c = (search-end 64 c.args.word c.args.i c.loop-rest.rest c.loop-rest.left c.loop-rest.bit c.loop-rest.invariant
    c.loop-rest-test.false).0

pub returns-clause-here : goal.returns-clause-here
returns-clause-here c = (search-end 64 c.args.word c.args.i c.loop-rest.rest c.loop-rest.left c.loop-rest.bit c.loop-rest.invariant
    c.loop-rest-test.false).1
