use Rattle.std.proofs.Common.{◌≡◌, true, ap, ◌∙◌}
use Rattle.std.specs.Prelude.{is_some}
use Rattle.ni_model.specs.Lists.{index_at}
use Rattle.ni_model.specs.Append.{is_allocated}
use Rattle.target_engine.specs.PortalTable.{seen_in}
use Rattle.target_engine.proofs.Counted.{some-within, waits-at}
use Rattle.target_engine.proofs.target.Target.waits_at.Goals as goal

pub is_used-requires : goal.is_used-requires
is_used-requires c =
    let i = c.self.inside in
    let there : is_some (index_at c.args.pt (seen_in i.indices.items)) ≡ true = ap (is_allocated c.args.pt) c.self.view_is ∙ c.requires in
    record { within = some-within c.args.pt i.indices.items i.records.waiting there c.self.invariant.long }

pub returns : goal.returns
returns c =
    let i = c.self.inside in
    let there : is_some (index_at c.args.pt (seen_in i.indices.items)) ≡ true = ap (is_allocated c.args.pt) c.self.view_is ∙ c.requires in
    let lt = some-within c.args.pt i.indices.items i.records.waiting there c.self.invariant.long in
    rw (← c.self.view_is) (c.is_used.ensures.value ∙ waits-at c.args.pt i.headers.unexpected i.records c.self.invariant.counted lt)
