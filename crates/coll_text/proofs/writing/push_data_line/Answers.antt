use Rattle.std.proofs.Common.{arith}
use Rattle.std.proofs.lemmas.List.{take-take}
use Rattle.ptl_types.specs.Operations.{bytes_of}
use Rattle.coll_text.proofs.Writes.{data_written, no_data}
use Rattle.coll_text.proofs.writing.push_data_line.Goals as goal

pub returns-then-bytes-size : goal.returns-then-bytes-size
returns-then-bytes-size c = record {
  added = rw c.in_ok-push.ensures.items (no_data c.args.ty c.args.out.now.items c.args.bytes.now (omega (arith, c.size-size.ensures)));
}

pub returns : goal.returns
returns c = record {
  added = rw (
    c.in_ok-push-2.ensures.items,
    c.in_ok-push_spaced_values.ensures,
    c.in_ok-push_value_word.ensures,
    c.read_pattern.ensures.value,
    c.split_at.ensures.front,
    c.split_at.ensures.back,
    c.size-size.ensures,
    take-take (bytes_of c.args.ty) (bytes_of c.args.ty) c.args.bytes.now (omega arith),
  )
      (data_written c.args.ty c.args.out.now.items c.args.bytes.now (omega (arith, c.size-size.ensures)));
}
