use Rattle.portals_top.proofs.Summing.{accepted, no-excess}
use Rattle.portals_top.proofs.large.generated_job.Goals as goal

pub unreachable-requires : goal.unreachable-requires
unreachable-requires c =
    let none = accepted _ c.into_parts-shape.result.0 _ c.in_ok-generated.ensures.value c.into_parts-shape.ensures.shape
    c.into_parts-shape.ensures.readable.formed in
    let same = no-excess c.into_parts-shape.result.0 c.compile.result c.in-Err-TooMany.field-0 none c.compile.ensures c.in-Err-TooMany.is in
    absurd (cc)

pub unreachable-requires-in-Err-TooLarge : goal.unreachable-requires-in-Err-TooLarge
unreachable-requires-in-Err-TooLarge c =
    let none = accepted _ c.into_parts-shape.result.0 _ c.in_ok-generated.ensures.value c.into_parts-shape.ensures.shape
    c.into_parts-shape.ensures.readable.formed in
    let same = no-excess c.into_parts-shape.result.0 c.compile.result c.in-Err-TooLarge.field-0 none c.compile.ensures
    c.in-Err-TooLarge.is in
    absurd (cc)
