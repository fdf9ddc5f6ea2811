-- Where nothing is done, by `told_same` and `right_same`.
use Rattle.std.specs.Cmp.{booleans_Decides}
use Rattle.std.proofs.Common.{ap, sym, ◌∙◌}
use Rattle.std.proofs.lemmas.Bool.{not-false}
use Rattle.worlds.specs.parts.Marks.{with_marks}
use Rattle.worlds.proofs.parts.Gated.{right_same, told_same}
use Rattle.worlds.proofs.parts.marks.tell.Goals as goal

pub returns-else-has-had-clause-gates : goal.returns-else-has-had-clause-gates
returns-else-has-had-clause-gates c =
    let t = c.args.traffic.now in
    sym (told_same t.lanes t.setting.ranks t.setting.window c.args.s c.args.d c.args.nodes.now c.args.had c.requires.told
    (sym c.has_window-has.ensures ∙ (booleans_Decides c.has_window-has.result c.args.had).0 (not-false _ c.if-has-had.false)))

pub returns-else-has-had-clause-marks : goal.returns-else-has-had-clause-marks
returns-else-has-had-clause-marks c =
    let t = c.args.traffic.now in
    ap (with_marks t t.deliveries) (sym (right_same c.args.nodes.now c.args.s t.firings c.requires.right))
