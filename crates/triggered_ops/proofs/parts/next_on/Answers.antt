use Rattle.std.proofs.Common.{sym, ap, ◌∙◌}
use Rattle.chain_list.specs.threads.Threads.{thread}
use Rattle.chain_list.proofs.threads.ThreadLemmas.{on_one}
use Rattle.triggered_ops.specs.Hung.{next_in}
use Rattle.triggered_ops.proofs.parts.next_on.Goals as goal

pub next-requires : goal.next-requires
next-requires c = on_one c.in-Some.place c.args.threads.now.threads c.args.thread (rw c.in-Some.is at c.requires.there)

pub returns-in-Some : goal.returns-in-Some
returns-in-Some c = c.next.ensures c.args.thread (rw c.in-Some.is at c.requires.there)
    ∙ ap (λ o. next_in o (thread c.args.thread c.args.threads.now)) (sym c.in-Some.is)
