use Rattle.std.proofs.Common.{subst, sym, ap, ◌∙◌, length}
use Rattle.std.specs.Prelude.{All}
use Rattle.coll_lang.specs.Held.{IsSmall}
use Rattle.coll_lang.proofs.GeneratedShape.{buffers_small}
use Rattle.coll_lang.proofs.GeneratedText.{generated_is, lists_count}
use Rattle.coll_lang.proofs.generating.generated_reader.Goals as goal

pub invariant_of-result-clause-are_small : goal.invariant_of-result-clause-are_small
invariant_of-result-clause-are_small c = subst (All IsSmall) (sym c.in_ok-buffers.ensures.value) buffers_small

pub returns-clause-value : goal.returns-clause-value
returns-clause-value c =
    generated_is c.args.k _ _ _ _ _ _ _ c.new.ensures.items c.in_ok-buffers.ensures.value c.in_ok-given.ensures c.in_ok-steps.ensures
    c.in_ok-from_slice.ensures.items
    c.new-2.ensures.items c.in_ok-from_slice-2.ensures.items

pub returns-clause-lists : goal.returns-clause-lists
returns-clause-lists c = ap length c.in_ok-given.ensures ∙ lists_count c.args.k
