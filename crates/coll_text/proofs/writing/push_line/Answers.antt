use Rattle.std.proofs.Common.{Bor, List, ℕ}
use Rattle.coll_text.proofs.Writes.{line_written}
use Rattle.coll_text.proofs.writing.push_line.Goals as goal

pub returns : goal.returns
returns c =
    let words = c.in-Some.ensures.cases.0 in
    let first = c.in_ok-extend_from_slice.ensures.items in
    let others = c.in_ok-push_spaced.ensures in
    let last = c.in_ok-push-2.ensures.items in
    record {
      added = rw (last, others, first, words) (line_written {W = Bor (List ℕ)} (λ w. w.now) c.args.out.now.items
          c.in-Some.first.now c.in-Some.others.now);
    }
