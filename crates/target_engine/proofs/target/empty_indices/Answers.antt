use Rattle.std.proofs.Common.{◌∷◌, [], arith, sym, subst}
use Rattle.std.specs.Prelude.{All}
use Rattle.std.proofs.lemmas.List.Elements.{All-append, All-cons, All-nil}
use Rattle.target_engine.specs.PortalTable.{IsUnused}
use Rattle.target_engine.proofs.target.empty_indices.Goals as goal

pub loop-i-preserved : goal.loop-i-preserved
loop-i-preserved c =
    let P = IsUnused c.args.limits.now.entries c.args.records in
    let one = All-cons P c.in_ok-new.field-0 [] c.in_ok-new.ensures (All-nil P) in
    record {
      unused = subst (All P) (sym c.push_reserved.ensures.items)
          (All-append P c.loop-i.indices.items (c.in_ok-new.field-0 ∷ []) c.loop-i.invariant.unused one);
      so_many = grind (arith, c.push_reserved.ensures.len, c.loop-i.invariant.so_many);
      room = omega (arith, c.push_reserved.ensures.capacity, c.loop-i.invariant.room);
    }
