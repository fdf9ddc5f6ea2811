use Rattle.portals_top.proofs.parsing.parse_text.Goals as goal

pub returns : goal.returns
returns g c = record {
  read = rw c.as_slice.ensures.value at c.parse_noted.ensures.read;
  told = c.parse_noted.ensures.told;
}
