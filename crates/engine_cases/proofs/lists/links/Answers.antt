use Rattle.std.proofs.Common.{refl, arith}
use Rattle.engine_cases.proofs.Few.{few-free, few-linked, limit-linked, slots-linked}
use Rattle.engine_cases.proofs.lists.links.Goals as goal

pub append-requires-clause-free : goal.append-requires-clause-free
append-requires-clause-free g c = few-free _ _ c.requires.few

pub append-requires-clause-room : goal.append-requires-clause-room
append-requires-clause-room g c = omega (arith, c.requires.few.count)

pub append-requires-clause-keys : goal.append-requires-clause-keys
append-requires-clause-keys g c = omega (arith, c.requires.few.appended, c.ranges.slot)

pub returns-clause-few : goal.returns-clause-few
returns-clause-few g c = few-linked _ _ _ _ _ c.append.ensures.lists refl c.requires.few

pub returns-clause-limit : goal.returns-clause-limit
returns-clause-limit g c = limit-linked _ _ _ _ _ c.append.ensures.lists c.requires.few

pub returns-clause-slots : goal.returns-clause-slots
returns-clause-slots g c = slots-linked _ _ _ _ _ c.append.ensures.lists c.requires.few
