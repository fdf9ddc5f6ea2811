use Rattle.std.proofs.Common.{◌≡◌, ℕ, ◌+◌, ◌-◌, ◌≤◌, List, length, Option, Bor, ap, arith, length-append, subst}
use Rattle.log_lines.specs.declared.lines.TheConstants.{LONGEST_LINE}
use Rattle.log_top.proofs.LinesRead.{CutAs, cut_as, front_within, lf_within, looks_line, looks_long, looks_none}
use Rattle.log_top.proofs.reading.look.Goals as goal

-- the line has as many bytes as it may, and one more
pub returns-then-front-room-clause-used : goal.returns-then-front-room-clause-used
returns-then-front-room-clause-used c =
    let within = front_within c.args.held.now _ _ (cut_as c.args.held.now c.cut.result.0.now c.cut.result.1 c.cut.ensures.parts) in
    omega (arith, within)

pub returns-then-front-room-clause-looks : goal.returns-then-front-room-clause-looks
returns-then-front-room-clause-looks c =
    let long = c.args.line.now.ok.0 in
    let full : length c.args.line.now.items + (16777217 - c.len.result) ≡ LONGEST_LINE + 1 = omega (arith, long) in
    looks_long c.args.held.now c.args.line.now.items c.cut.result.0.now c.extend_from_slice.new.self.items c.cut.result.1
    (cut_as c.args.held.now c.cut.result.0.now c.cut.result.1 c.cut.ensures.parts) (16777217 - c.len.result) (omega arith) full
    c.in_ok-extend_from_slice.ensures.items

-- LF ends it
pub returns-in-Some-clause-used : goal.returns-in-Some-clause-used
returns-in-Some-clause-used c =
    let cut = cut_as c.args.held.now c.cut.result.0.now c.cut.result.1 c.cut.ensures.parts in
    let at = subst (λ (o : Option (Bor (List ℕ))). CutAs c.args.held.now c.cut.result.0.now o) c.in-Some.is cut in
    lf_within c.args.held.now c.cut.result.0.now c.in-Some.field-0.now at.0

pub returns-in-Some-clause-looks : goal.returns-in-Some-clause-looks
returns-in-Some-clause-looks c =
    let cut = cut_as c.args.held.now c.cut.result.0.now c.cut.result.1 c.cut.ensures.parts in
    let at = subst (λ (o : Option (Bor (List ℕ))). CutAs c.args.held.now c.cut.result.0.now o) c.in-Some.is cut in
    looks_line c.args.held.now c.args.line.now.items c.cut.result.0.now c.extend_from_slice-2.new.self.items c.in-Some.field-0.now at.0 at.1
    c.in_ok-extend_from_slice-2.ensures.items

-- it may go on
pub returns-in-None-clause-used : goal.returns-in-None-clause-used
returns-in-None-clause-used c =
    front_within c.args.held.now _ _ (cut_as c.args.held.now c.cut.result.0.now c.cut.result.1 c.cut.ensures.parts)

pub returns-in-None-clause-looks : goal.returns-in-None-clause-looks
returns-in-None-clause-looks c =
    let cut = cut_as c.args.held.now c.cut.result.0.now c.cut.result.1 c.cut.ensures.parts in
    let at = subst (λ (o : Option (Bor (List ℕ))). CutAs c.args.held.now c.cut.result.0.now o) c.in-None.is cut in
    let is = c.in_ok-extend_from_slice-2.ensures.items in
    let long = c.args.line.now.ok.0 in
    let all = ap length is in
    let sum = length-append c.args.line.now.items c.cut.result.0.now in
    looks_none c.args.held.now c.args.line.now.items c.cut.result.0.now c.extend_from_slice-2.new.self.items at.0 at.1 is
    (omega (arith, long, all, sum))
