-- Which kinds of message are answers, which have elements, and the lane of each.
use Rattle.std.specs.Prelude.{Bool, true, false, if◌then◌else◌}
use Rattle.ptl_types.specs.declared.headers.MessageKind.{MessageKind}
use Rattle.ptl_types.specs.declared.headers.MessageKind.TheVariants.{Put, Atomic, FetchAtomic, Swap, Ack as AckKind, Reply}
use Rattle.ptl_types.specs.declared.headers.Lane.{Lane}
use Rattle.ptl_types.specs.declared.headers.Lane.TheVariants.{Request, Answer}
use Rattle.ptl_types.specs.declared.headers.AckRequest.{AckRequest}
use Rattle.ptl_types.specs.declared.headers.AckRequest.TheVariants.{NoAck}

-- acknowledgements and replies
abbrev pub is_answer : MessageKind → Bool
is_answer AckKind = true
is_answer Reply = true
is_answer _ = false

abbrev pub lane_of : MessageKind → Lane
lane_of kind = if is_answer kind then Answer else Request

-- the requests that may be taken by an overflow entry, and that may ask for an acknowledgement
abbrev pub is_put_or_atomic : MessageKind → Bool
is_put_or_atomic Put = true
is_put_or_atomic Atomic = true
is_put_or_atomic _ = false

-- the requests whose bytes are elements, which are delivered whole
abbrev pub has_elements : MessageKind → Bool
has_elements Atomic = true
has_elements FetchAtomic = true
has_elements Swap = true
has_elements _ = false

-- the requests that name an atomic operation
abbrev pub has_op : MessageKind → Bool
has_op Atomic = true
has_op FetchAtomic = true
has_op _ = false

abbrev pub is_swap : MessageKind → Bool
is_swap Swap = true
is_swap _ = false

abbrev pub is_no_ack : AckRequest → Bool
is_no_ack NoAck = true
is_no_ack _ = false
