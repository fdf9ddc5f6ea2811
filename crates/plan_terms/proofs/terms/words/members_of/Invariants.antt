use Rattle.std.proofs.Common.{◌≡◌, map, take}
use Rattle.plan_terms.specs.declared.terms.term.Member.{Member}
use Rattle.plan_terms.proofs.terms.words.members_of.Given as goal

abbrev pub invariant-loop-place : goal.invariant-loop-place
invariant-loop-place l = map (λ (m : Member). m.word) l.members.items ≡ take l.place-index l.places
