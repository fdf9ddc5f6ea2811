use Rattle.std.proofs.Common.{length, ap, sym, ◌∙◌}
use Rattle.portals_ni.proofs.Readies.{due-are}
use Rattle.portals_ni.proofs.nic.Nic.ready_count.Goals as goal

pub returns : goal.returns
returns c =
    let n = c.self.inside in
    let kept = rw c.waiting.ensures.value at c.ready_count.ensures.kept in
    let counted = rw c.waiting.ensures.value at c.ready_count.ensures.value in
    record { value = rw (← c.self.view_is) (counted ∙ sym (ap length (due-are n.cts n.pending kept.rising c.self.invariant.sound.told))) }
