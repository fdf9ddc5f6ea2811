use Rattle.std.proofs.Common.{◌<◌, ℕ, length, nat_lt, sym, ap, ◌∙◌, arith}
use Rattle.initiator_engine.proofs.Naming.{names-ct}
use Rattle.initiator_engine.proofs.initiator.Initiator.names_ct.Goals as goal

pub is_used-requires : goal.is_used-requires
is_used-requires c =
    let within = rw (← c.self.view_is) at c.requires.within in
    omega (arith, within, c.self.invariant.cts_long)

pub returns : goal.returns
returns c =
    let i = c.self.inside in
    let within = rw (← c.self.view_is) at c.requires.within in
    let alone = rw (← c.self.view_is) at c.requires.alone in
    let lt : c.args.ct.slot < length i.cts = omega (arith, within, c.self.invariant.cts_long) in
    record {
      value = rw (← c.self.view_is) (c.is_used.ensures.value
          ∙ ap (λ (n : ℕ). nat_lt 0 n) (c.self.invariant.cts_count c.args.ct.slot lt) ∙ sym (names-ct c.args.ct i.mds.live alone));
    }
