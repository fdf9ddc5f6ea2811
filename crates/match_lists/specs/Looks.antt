-- What the search for the entry that takes a message reads of each entry.
use Rattle.std.specs.Prelude.{◌≡◌, ◌<◌, List, length, get_or}
use Rattle.ni_model.specs.declared.Linked.{Linked}
use Rattle.chain_list.specs.Chain.{Keyed}
use Rattle.match_lists.specs.declared.look.Look.{Look}

abbrev pub look_of : Linked → Look
look_of x = record {
  match_bits = x.entry.match_bits;
  ignore_bits = x.entry.ignore_bits;
  length = x.entry.length;
  running = x.running;
  match_id = x.entry.match_id;
  manage_local = x.entry.manage_local;
  no_truncate = x.entry.no_truncate;
}

-- at the place of an entry lies its look
abbrev pub IsSeen : List Look → Keyed Linked → Type 0
IsSeen looks x = (x.key.place < length looks) × (get_or looks x.key.place (look_of x.value) ≡ look_of x.value)
