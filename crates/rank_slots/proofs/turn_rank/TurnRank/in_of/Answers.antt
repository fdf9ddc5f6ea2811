use Rattle.std.proofs.Common.{◌≡◌, List, subst}
use Rattle.std.specs.Prelude.{IfSome, IfNone}
use mathlib.Core.Option.{some}
use lib.ListN.{get_elem?}
use Rattle.rank_slots.specs.declared.ports.InPort.{InPort}
use Rattle.rank_slots.specs.Lists.{Each}
use Rattle.rank_slots.proofs.turn_rank.TurnRank.in_of.Goals as goal

pub returns-clause-some : goal.returns-clause-some
returns-clause-some c =
    subst (λ (l : List InPort). IfSome c.find_in.result (λ i. (p : InPort) × (get_elem? l i ≡ some p) × (p.source ≡ c.args.source) ×
    (p.lane ≡ c.args.lane)))
    c.deref.ensures.value c.find_in.ensures.some

pub returns-clause-none : goal.returns-clause-none
returns-clause-none c = subst (λ (l : List InPort). IfNone c.find_in.result
    (Each (λ (p : InPort). p.source ≡ c.args.source → p.lane ≡ c.args.lane → ⊥) l))
    c.deref.ensures.value c.find_in.ensures.none
