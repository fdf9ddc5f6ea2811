use Rattle.std.proofs.Common.{List, ap}
use Rattle.std.proofs.lemmas.List.{drop-set-add}
use Rattle.ni_model.specs.declared.IndexedHeader.{IndexedHeader}
use Rattle.ni_model.specs.Headers.{unexpected_list}
use Rattle.match_lists.proofs.unexpected.Headers.put_at.Goals as goal

pub returns : goal.returns
returns c =
    let s = c.self.inside in
    rw (← c.self.view_is) (ap (λ (xs : List IndexedHeader). unexpected_list xs s.limit)
    (drop-set-add s.gone s.unexpected.items c.args.position c.args.unexpected))
