-- What the fields of a call begin with: a field that isn't named is 0, none or empty.
use Rattle.std.specs.Prelude.{None, false}
use Rattle.ptl_types.specs.declared.calls.Limits.{Limits}
use Rattle.ptl_types.specs.declared.headers.AckRequest.TheVariants.{NoAck}
use Rattle.ptl_types.specs.declared.entries.TheConstants.Entry as entries
use Rattle.ptl_types.specs.declared.entries.TheConstants.Descriptor as descriptors
use Rattle.log_words.specs.declared.call_fields.said.Opening.{Opening}
use Rattle.log_words.specs.declared.call_fields.said.EntrySaid.{EntrySaid}
use Rattle.log_words.specs.declared.call_fields.said.MdSaid.{MdSaid}
use Rattle.log_words.specs.declared.call_fields.said.QueueSaid.{QueueSaid}
use Rattle.log_words.specs.declared.call_fields.said.StartName.{StartName}
use Rattle.log_words.specs.declared.call_fields.said.StartSaid.{StartSaid}
use Rattle.log_words.specs.declared.call_fields.said.TheConstants.{NO_HANDLE}

abbrev pub no_limits : Limits
no_limits = record {
  entries = 0;
  unexpected = 0;
  mds = 0;
  cts = 0;
  eqs = 0;
  pts = 0;
  triggered = 0;
  msg = 0;
  atomic = 0;
  fetch_atomic = 0;
}

abbrev pub plain_entry : EntrySaid
plain_entry = record {
  entry = record entries.PLAIN { allow_put = false };
  ct = None;
}

abbrev pub plain_opening : Opening
plain_opening = record { limits = no_limits; region = None }

abbrev pub plain_queue : QueueSaid
plain_queue = record { eq = None }

abbrev pub plain_md : MdSaid
plain_md = record {
  md = descriptors.PLAIN;
  eq = None;
  ct = None;
}

abbrev pub plain_start : StartName → StartSaid
plain_start name = record {
  name = name;
  args = record {
    md = NO_HANDLE;
    local_offset = 0;
    length = 0;
    ack = NoAck;
    target = 0;
    pt = 0;
    match_bits = 0;
    remote_offset = 0;
    hdr_data = 0;
  };
  back = None;
  back_offset = 0;
  back_length = None;
  back_target = None;
  back_pt = None;
  back_bits = None;
  back_at = None;
  operand = 0;
}
