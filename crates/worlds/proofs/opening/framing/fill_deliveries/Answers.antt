-- Both lanes of one pair more in each turn.
use Rattle.std.proofs.Common.{ℕ, ◌+◌, ◌*◌, ◌<◌, List, subst, sym, arith}
use Rattle.std.proofs.lemmas.Nat.{div_below, mod_below}
use Rattle.worlds.specs.parts.Marks.{delivery_count}
use Rattle.worlds.proofs.opening.Counted.{AreFilled, filled_more}
use Rattle.worlds.proofs.opening.Laid.{all-laid, at_most-pairs}
use Rattle.worlds.proofs.opening.framing.fill_deliveries.Goals as goal

pub overflow_mul-pairs : goal.overflow_mul-pairs
overflow_mul-pairs c = let q = at_most-pairs c.args.setting.ranks c.requires.at_most in omega (arith, q)

pub loop-pair-init : goal.loop-pair-init
loop-pair-init c = record { size = c.requires.counted; laid = λ k h. absurd (omega (arith, h)) }

pub mark_pair-requires : goal.mark_pair-requires
mark_pair-requires c =
    let n = c.args.setting.ranks in
    let h : c.loop-pair.pair < n * n = c.loop-pair-test.true in
    record {
      at_most = c.requires.at_most;
      counted = c.loop-pair.invariant.size;
      size = c.requires.lanes;
      source = div_below c.loop-pair.pair n n c.requires.nonempty h;
      destination = mod_below c.loop-pair.pair n c.requires.nonempty;
    }

pub loop-pair-preserved : goal.loop-pair-preserved
loop-pair-preserved c =
    let n = c.args.setting.ranks in
    let i = c.loop-pair.pair in
    let lanes = c.args.lanes.now in
    let h : i < n * n = c.loop-pair-test.true in
    subst (λ (v : List ℕ). AreFilled n c.args.setting.window lanes v (i + 1)) (sym c.mark_pair.ensures)
    (filled_more n c.args.setting.window lanes c.loop-pair.deliveries i h c.loop-pair.invariant)

pub returns : goal.returns
returns c =
    let n = c.args.setting.ranks in
    let t = c.loop-pair-test.false in
    let v = c.loop-pair.invariant in
    record {
      size = v.size;
      counts = all-laid (delivery_count c.args.lanes.now n c.args.setting.window) n c.loop-pair.deliveries 0
          (λ k h. v.laid k (omega (arith, h, t)));
    }
