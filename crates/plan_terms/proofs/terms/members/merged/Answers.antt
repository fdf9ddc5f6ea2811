-- One member more, of the first list or of the second.
use Rattle.std.proofs.Common.{◌<◌, length, arith}
use Rattle.plan_terms.proofs.terms.Folds.{first_goes_on, second_goes_on}
use Rattle.plan_terms.proofs.terms.Rising.{merged_first, merged_second}
use Rattle.plan_terms.proofs.terms.members.merged.Goals as goal
use Rattle.plan_terms.proofs.terms.members.merged.Goals.{then-is_first_next+in_ok-append, else-is_first_next+in_ok-append-2}

pub loop-k-preserved : goal.loop-k-preserved
loop-k-preserved c =
    let a = c.args in
    let l = c.loop-k in
    let b = c.if-is_first_next in
    elim c.if-is_first_next.branch [
      | then-is_first_next+in_ok-append w ↦
          let here : l.i < length a.first.now = c.is_first_next.ensures.first w.if-is_first_next.true in
          record {
            so_far = omega arith;
            first = omega arith;
            second = omega arith;
            more = first_goes_on a.op a.ty a.first.now a.second.now l.all w.append.new.self b.all l.i l.j b.i b.j here w.i-is w.j-is
                w.all-is
                l.invariant.more w.in_ok-append.ensures.more;
            order = merged_first a.first.now a.second.now l.all w.append.new.self b.all l.i l.j b.i b.j here w.i-is w.j-is w.all-is
                (c.is_first_next.ensures.before w.if-is_first_next.true) l.invariant.order w.in_ok-append.ensures.rising
                w.in_ok-append.ensures.up_to;
          }
      | else-is_first_next+in_ok-append-2 w ↦
          let here : l.j < length a.second.now = c.is_first_next.ensures.second w.if-is_first_next.false in
          record {
            so_far = omega arith;
            first = omega arith;
            second = omega arith;
            more = second_goes_on a.op a.ty a.first.now a.second.now l.all w.append-else-is_first_next.new.self b.all l.i l.j b.i b.j here
                w.i-is w.j-is w.all-is l.invariant.more w.in_ok-append-2.ensures.more;
            order = merged_second a.first.now a.second.now l.all w.append-else-is_first_next.new.self b.all l.i l.j b.i b.j here w.i-is
                w.j-is w.all-is (c.is_first_next.ensures.after w.if-is_first_next.false) l.invariant.order w.in_ok-append-2.ensures.rising
                w.in_ok-append-2.ensures.up_to;
          }
    ]
