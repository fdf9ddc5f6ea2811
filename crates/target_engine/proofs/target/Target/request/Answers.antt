use Rattle.std.proofs.Common.{◌≡◌, Some, length, ap, sym, ◌∙◌, arith}
use Rattle.ni_model.specs.Arrive.{chosen}
use Rattle.target_engine.specs.PortalTable.{seen_in}
use Rattle.target_engine.proofs.Within.{chosen-within, chosen-linked}
use Rattle.target_engine.proofs.Choosing.{chosen-named}
use Rattle.target_engine.proofs.target.Target.request.Goals as goal

pub exchange-answer-requires-clause-part : goal.exchange-answer-requires-clause-part
exchange-answer-requires-clause-part c =
    let at : seen_in c.deref.result.now ≡ c.args.self.now.indices = ap seen_in c.deref.ensures.value ∙ ap (λ s. s.indices) c.self.view_is in
    let e : chosen c.header.result.now c.args.self.now.indices ≡ Some c.in-Some.found = rw (← at) (sym c.chosen_in.ensures ∙ c.in-Some.is)
    in
    chosen-within (length c.args.region.now) c.header.result.now c.args.self.now.indices c.in-Some.found c.requires.inside e

pub accept-requires-clause-part : goal.accept-requires-clause-part
accept-requires-clause-part c =
    let at : seen_in c.deref.result.now ≡ c.args.self.now.indices = ap seen_in c.deref.ensures.value ∙ ap (λ s. s.indices) c.self.view_is in
    let e : chosen c.header.result.now c.args.self.now.indices ≡ Some c.in-Some.found = rw (← at) (sym c.chosen_in.ensures ∙ c.in-Some.is)
    in
    let within = chosen-within (length c.args.region.now) c.header.result.now c.args.self.now.indices c.in-Some.found c.requires.inside e in
    omega (arith, within, c.len-size.ensures)

pub accept-requires-clause-there : goal.accept-requires-clause-there
accept-requires-clause-there c =
    let at : seen_in c.deref.result.now ≡ c.args.self.now.indices = ap seen_in c.deref.ensures.value ∙ ap (λ s. s.indices) c.self.view_is in
    let e : chosen c.header.result.now c.args.self.now.indices ≡ Some c.in-Some.found = rw (← at) (sym c.chosen_in.ensures ∙ c.in-Some.is)
    in
    chosen-linked c.header.result.now c.args.self.now.indices c.in-Some.found e

pub accept-requires-clause-entry : goal.accept-requires-clause-entry
accept-requires-clause-entry c =
    let at : seen_in c.deref.result.now ≡ c.args.self.now.indices = ap seen_in c.deref.ensures.value ∙ ap (λ s. s.indices) c.self.view_is in
    let e : chosen c.header.result.now c.args.self.now.indices ≡ Some c.in-Some.found = rw (← at) (sym c.chosen_in.ensures ∙ c.in-Some.is)
    in
    let recorded = rw (ap (λ s. s.indices) c.self.view_is) at c.self.invariant.kept.recorded in
    chosen-named c.header.result.now c.args.self.now.indices c.in-Some.found c.self.inside.headers.unexpected
    c.self.inside.records.by_entry recorded e
