use Rattle.std.proofs.Common.{List, drop, ap, ◌∙◌}
use Rattle.std.proofs.lemmas.List.{drop-take}
use Rattle.ni_model.specs.declared.IndexedHeader.{IndexedHeader}
use Rattle.ni_model.specs.Headers.{unexpected_list}
use Rattle.match_lists.proofs.unexpected.Headers.truncate.Goals as goal

pub returns : goal.returns
returns c =
    let s = c.self.inside in
    rw (← c.self.view_is)
    (ap (λ (xs : List IndexedHeader). unexpected_list xs s.limit) (ap (drop s.gone) c.truncate.ensures.items
    ∙ drop-take s.gone c.args.len s.unexpected.items))
