use Rattle.std.proofs.Common.{◌++◌, ◌∷◌, sym, ap, ◌∙◌, arith}
use Rattle.std.specs.List.{flat_map}
use Rattle.std.proofs.lemmas.List.{append-nil, take-take}
use Rattle.ptl_types.specs.Operations.{bytes_of}
use Rattle.coll_text.specs.Elements.{value_word}
use Rattle.coll_text.proofs.Writes.{value_step, none_of}
use Rattle.coll_text.proofs.writing.push_spaced_values.Goals as goal

pub returns : goal.returns
returns c =
    sym (append-nil c.loop-rest.out.items)
    ∙ ap (λ xs. c.loop-rest.out.items ++ flat_map (λ x. 32 ∷ value_word c.args.ty x) xs)
    (sym (none_of c.args.ty c.loop-rest.rest.now (omega (arith, c.size-size.ensures))))
    ∙ c.loop-rest.invariant.whole

pub loop-rest-preserved : goal.loop-rest-preserved
loop-rest-preserved c = record {
  whole = rw (
    c.in_ok-push_value_word.ensures,
    c.in_ok-push.ensures.items,
    c.read_pattern.ensures.value,
    c.split_at.ensures.front,
    c.split_at.ensures.back,
    c.size-size.ensures,
    take-take (bytes_of c.args.ty) (bytes_of c.args.ty) c.loop-rest.rest.now (omega arith),
  )
      (value_step c.args.ty c.loop-rest.out.items c.loop-rest.rest.now (omega (arith, c.size-size.ensures)) ∙ c.loop-rest.invariant.whole);
  is_size = c.size-size.ensures;
}
