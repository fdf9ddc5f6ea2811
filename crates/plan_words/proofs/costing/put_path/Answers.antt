use Rattle.std.specs.List.{flat_map}
use Rattle.run_text.proofs.Taking.{Puts-exit, Puts-then}
use Rattle.plan_words.specs.Costs.{begin_line, begin_of, hop_line}
use Rattle.plan_words.proofs.costing.put_path.Goals as goal

pub returns-in_err-put_begin : goal.returns-in_err-put_begin
returns-in_err-put_begin g c =
    let n = c.args.costs.now.numbers.now in
    let p = c.args.costs.now.plan.now in
    let t = c.args.costs.now.times.now in
    let path = c.args.costs.now.path.now in
    Puts-exit _ _ _ _ (begin_line p t (begin_of p path.end path.links)) (flat_map (hop_line n p t) path.links) _
    c.from_residual.ensures.0 (rw c.begin_of.ensures.value at c.in_err-put_begin.ensures)

pub returns : goal.returns
returns g c =
    let n = c.args.costs.now.numbers.now in
    let p = c.args.costs.now.plan.now in
    let t = c.args.costs.now.times.now in
    let path = c.args.costs.now.path.now in
    Puts-then _ _ _ _ _ _ (begin_line p t (begin_of p path.end path.links)) (flat_map (hop_line n p t) path.links) _
    (rw c.begin_of.ensures.value at c.in_ok-put_begin.ensures) (rw c.links.ensures at c.put_listed.ensures)
