use Rattle.std.proofs.Common.{sym, subst, drop, take}
use Rattle.std.proofs.lemmas.Result.{err_from_is_err_and}
use Rattle.coll_text.specs.Text.{lines}
use Rattle.coll_lang.specs.Language.{read}
use Rattle.coll_lang.specs.Verdicts.{Fails}
use Rattle.order_lines.proofs.Inputs.{fails_at, parted}
use Rattle.order_lines.proofs.checking.parse_check.Goals as goal

pub returns-in_err-description-clause-exact : goal.returns-in_err-description-clause-exact
returns-in_err-description-clause-exact c =
    let bytes = c.args.bytes.now in
    let at = c.first_end-at.result.0 in
    let next = c.first_end-at.result.1 in
    let fault = c.in_err-description.field-0.0 in
    let p = err_from_is_err_and c.from_residual.result c.from_residual.ensures.1 in
    rw (p.1, p.2)
    (subst (Fails fault) (sym (parted bytes at next c.if-bytes-gt-LONGEST_CHECK.false c.first_end-at.ensures.bytes
    c.first_end-at.ensures.line))
    (fails_at fault (read (take at bytes)) next (lines (drop at bytes)) c.in_err-description.ensures.exact))
