use Rattle.std.proofs.Common.{◌+◌, ◌-◌, sym, ◌∙◌, arith}
use Rattle.std.proofs.lemmas.List.{get_or_default, get_or-drop}
use Rattle.match_lists.proofs.unexpected.Taken.{mid}
use Rattle.match_lists.proofs.unexpected.take_after.Goals as goal

pub returns-clause-taken : goal.returns-clause-taken
returns-clause-taken c = λ d. get_or_default c.args.unexpected.now (c.args.gone + c.args.at) _ d c.requires
    ∙ sym (get_or-drop c.args.gone c.args.unexpected.now c.args.at d)

pub returns-clause-rest : goal.returns-clause-rest
returns-clause-rest c =
    mid c.args.unexpected.now c.rotate_right.new.self c.args.gone c.args.at (c.args.gone + c.args.at + 1 - c.args.gone) c.requires
    (omega arith) c.rotate_right.ensures.after
