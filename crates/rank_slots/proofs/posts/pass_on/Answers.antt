use Rattle.std.proofs.Common.{subst}
use Rattle.std.specs.Prelude.{Option}
use Rattle.ptl_types.specs.Messages.{Sent}
use Rattle.rank_slots.specs.Lists.{Each}
use Rattle.rank_slots.specs.Ports.{MayPost}
use Rattle.rank_slots.proofs.posts.pass_on.Goals as goal

pub post-requires-clause-may : goal.post-requires-clause-may
post-requires-clause-may g c = subst (λ (o : Option Sent). Each (MayPost o) c.args.outs.now.items) c.in-Some.is c.requires.may
