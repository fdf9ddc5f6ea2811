-- By `Ticketed`.
use Rattle.std.proofs.Common.{◌+◌, ◌*◌, ◌∙◌, None, Some, ap}
use Rattle.plan_choice.proofs.ranks.Elected.{word_md}
use Rattle.plan_choice.proofs.ranks.Ticketed.{tickets_made}
use Rattle.plan_choice.proofs.ranks.installing.make_tickets.Goals as goal

pub returns : goal.returns
returns c = λ ks e n.
    tickets_made ks c.args.step c.args.counter c.args.nic.now c.make_counter.new.nic c.make_descriptor.new.nic c.make_descriptor-2.new.nic
    c.args.kept.now c.make_counter.new.kept c.make_descriptor.new.kept c.make_descriptor-2.new.kept c.word_at.result c.word_at-result.result
    c.counter.result e n c.requires.all c.in_ok-make_counter.ensures c.in_ok-make_descriptor.ensures c.in_ok-make_descriptor-2.ensures
    (c.word_at.ensures ∙ ap (λ n. word_md (32 * n + 8) None) c.from-start.ensures)
    (c.word_at-result.ensures ∙ ap (λ n. word_md (32 * n + 24) (Some c.counter.result)) c.from-start.ensures)
    c.counter.ensures.value
