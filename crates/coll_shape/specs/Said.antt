-- What the parts of a shape say.
use Rattle.coll_shape.specs.Outline.{Outline}
use Rattle.coll_shape.specs.declared.shape.Parts.{Parts}

abbrev pub said : Parts → Outline
said p = record {
  version = p.version;
  ranks = p.ranks;
  remote = p.remote;
  groups = p.groups.items;
  buffers = p.buffers.items;
  inputs = p.inputs;
  steps = p.steps.items;
  on = p.on.items;
  prints = p.prints.items;
}
