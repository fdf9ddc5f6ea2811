-- A fold of one member, or a term.
use Rattle.std.proofs.Common.{◌≡◌, map, get_or, sym, subst, List}
use Rattle.number_lists.specs.Numbers.{from_to}
use Rattle.ptl_types.specs.Elements.{little_endian}
use Rattle.ptl_types.specs.Operations.{bytes_of}
use Rattle.plan_terms.specs.declared.terms.term.Member.{Member}
use Rattle.plan_terms.specs.terms.Terms.{fold_of, no_member}
use Rattle.plan_terms.proofs.terms.Elements.{one_member, plain_bytes}
use Rattle.plan_terms.proofs.terms.table.Terms.fold_place.Goals as goal

pub returns-in-len1-clause-is : goal.returns-in-len1-clause-is
returns-in-len1-clause-is c = λ inputs V solution.
    let m = get_or c.args.members.now 0 no_member in
    let w = bytes_of c.args.ty in
    subst (λ (ms : List Member). map V (from_to m.word w) ≡ little_endian w (fold_of V c.args.op c.args.ty ms))
    (sym (one_member c.args.members.now c.in-len1.len_at_least c.in-len1.len_below))
    (plain_bytes c.args.self.now c.args.op c.args.ty m (c.is_plain.ensures c.if-is_plain.true) c.if-member-eq1.true inputs V solution)
