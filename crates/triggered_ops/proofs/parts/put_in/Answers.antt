use Rattle.std.proofs.Common.{cond, nat_eq, Some, [], ◌∷◌, ap, ◌∙◌, arith}
use Rattle.std.proofs.lemmas.List.{map-append}
use Rattle.triggered_ops.specs.declared.spots.Spot.{Spot}
use Rattle.triggered_ops.specs.Layout.{Spotted, numbers_of, operations_in, wait_at}
use Rattle.triggered_ops.proofs.Hanging.{hung-same}
use Rattle.triggered_ops.proofs.Places.{wait-past, append-operations, wait-pushed}
use Rattle.triggered_ops.proofs.parts.put_in.Goals as goal

pub hang-requires-clause-empty : goal.hang-requires-clause-empty
hang-requires-clause-empty g c = wait-past c.args.spots.now.spots c.len.result (omega (arith, c.len.ensures.len))

pub hang-requires-clause-within : goal.hang-requires-clause-within
hang-requires-clause-within g c = omega (arith, c.len.ensures.len, c.requires.room, c.requires.within)

pub returns-clause-hung : goal.returns-clause-hung
returns-clause-hung g c =
    hung-same (λ q. cond (nat_eq q c.len.result) (Some c.args.wait) (wait_at c.args.spots.now.spots q)) (wait_at c.push.new.self.spots)
    c.hang.new.threads c.args.stamps.now
    (λ q. ap (λ (s : Spotted _). wait_at s.spots q) c.push.ensures ∙ wait-pushed c.args.spots.now.spots _ c.len.result q
    c.len.ensures.len) c.hang.ensures.hung

pub returns-clause-value : goal.returns-clause-value
returns-clause-value g c = ap (λ (s : Spotted _). operations_in s.spots) c.push.ensures ∙ append-operations c.args.spots.now.spots (_ ∷ [])

pub returns-clause-numbers : goal.returns-clause-numbers
returns-clause-numbers g c = ap (λ (s : Spotted _). numbers_of s.spots) c.push.ensures
    ∙ map-append (λ (s : Spot _). s.number) c.args.spots.now.spots (_ ∷ [])

pub returns-clause-same : goal.returns-clause-same
returns-clause-same g c = ap (λ (s : Spotted _). s.room) c.push.ensures
