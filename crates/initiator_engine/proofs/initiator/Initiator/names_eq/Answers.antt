use Rattle.std.proofs.Common.{◌<◌, ℕ, length, nat_lt, sym, ap, ◌∙◌, arith}
use Rattle.initiator_engine.proofs.Naming.{names-eq}
use Rattle.initiator_engine.proofs.initiator.Initiator.names_eq.Goals as goal

pub is_used-requires : goal.is_used-requires
is_used-requires c =
    let within = rw (← c.self.view_is) at c.requires.within in
    omega (arith, within, c.self.invariant.eqs_long)

pub returns : goal.returns
returns c =
    let i = c.self.inside in
    let within = rw (← c.self.view_is) at c.requires.within in
    let alone = rw (← c.self.view_is) at c.requires.alone in
    let lt : c.args.eq.slot < length i.eqs = omega (arith, within, c.self.invariant.eqs_long) in
    record {
      value = rw (← c.self.view_is) (c.is_used.ensures.value
          ∙ ap (λ (n : ℕ). nat_lt 0 n) (c.self.invariant.eqs_count c.args.eq.slot lt) ∙ sym (names-eq c.args.eq i.mds.live alone));
    }
