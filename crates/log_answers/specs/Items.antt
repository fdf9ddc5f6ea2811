-- The words and the fields that are owed.
use Rattle.std.specs.Prelude.{ℕ, Bool, List, [], ◌∷◌, Option, Some, None, codes, if◌then◌else◌}
use Rattle.std.specs.Str.{bytes_eq}
use Rattle.ptl_types.specs.declared.handles.Handle.{Handle}
use Rattle.ptl_types.specs.declared.headers.Header.{Header}
use Rattle.ptl_types.specs.declared.entries.UnexpectedHeader.{UnexpectedHeader}
use Rattle.ptl_types.specs.declared.events.Event.{Event as EventTold}
use Rattle.ptl_types.specs.Kinds.{is_answer}
use Rattle.log_answers.specs.Known.{Known}
use Rattle.log_answers.specs.Texts.{ack_word, event_word, kind_word, op_word, outcome_word, swap_word, type_word}
use Rattle.log_answers.specs.declared.owed.Sort.TheVariants.{Entry}
use Rattle.log_answers.specs.declared.owed.Item.{Item}
use Rattle.log_answers.specs.declared.owed.Item.TheVariants as items
use Rattle.log_answers.specs.declared.owed.Owed.{Owed}
use Rattle.log_answers.specs.declared.owed.Owed.TheVariants as owed
use Rattle.log_answers.specs.declared.items.Place.{Place}
use Rattle.log_answers.specs.declared.items.Place.TheVariants.{First, Second, Behind}

-- whether something holds, as a number
abbrev pub flag : Bool → Item
flag b = items.Amount (if b then 1 else 0)

-- the word of a thing
abbrev pub name : Option (List ℕ) → Item
name None = items.Nameless
name (Some word) = items.Exact word

-- ---- words, of which there are two at most

abbrev pub first_word : Known → Owed → Option Item
first_word k (owed.Word word) = Some (items.Exact word)
first_word k (owed.Amount n) = Some (items.Amount n)
first_word k (owed.Counts c) = Some (items.Amount c.success)
first_word k (owed.Part start length) = Some (items.Raw (k.part start length))
first_word k (owed.New sort h) = Some (items.NewThing sort)
first_word k (owed.Linked h) = Some (items.Exact (codes "linked"))
first_word k owed.Message = Some items.NewMessage
first_word k (owed.Delivered outcome is_answered) = Some (items.Exact (outcome_word outcome))
first_word k (owed.Event e) = Some (items.Exact (event_word e.kind))
first_word k (owed.Found u) = Some (items.Exact (codes "found"))
first_word k (owed.Taken u) = Some (items.Exact (codes "taken"))
first_word k (owed.Told h) = None
first_word k owed.Ready = Some items.SomeReady
first_word k (owed.Operation t) = Some (name (k.operation_word t))

abbrev pub second_word : Owed → Option Item
second_word (owed.Counts c) = Some (items.Amount c.failure)
second_word (owed.Linked h) = Some (items.NewThing Entry)
second_word (owed.Delivered outcome is_answered) = if is_answered then Some items.NewMessage else None
second_word _ = None

-- the word at a place
abbrev pub word_owed : Known → Owed → Place → Option Item
word_owed k o First = first_word k o
word_owed k o Second = second_word o
word_owed k o Behind = None

-- ---- fields, each with its key

pub record Field : Type 0 where
  pub key : List ℕ
  pub item : Item

abbrev pub field : List ℕ → Item → Field
field key item = record { key = key; item = item }

abbrev pub event_fields : EventTold → List Field
event_fields e =
    field (codes "source") (items.Amount e.source) ∷ field (codes "pt") (items.Amount e.pt)
    ∷ field (codes "bits") (items.Amount e.match_bits) ∷ field (codes "data") (items.Amount e.hdr_data)
    ∷ field (codes "requested") (items.Amount e.requested)
    ∷ field (codes "delivered") (items.Amount e.delivered) ∷ field (codes "place") (items.Amount e.place) ∷ field (codes "ok") (flag e.ok)
    ∷ []

-- the descriptor that awaits the answer, by the word that it has at its rank; `-` where there is none
abbrev pub home_rank : Header → ℕ
home_rank h = if is_answer h.kind then h.target else h.source

abbrev pub home_item : Known → ℕ → Option Handle → Item
home_item k rank None = items.Exact (codes "-")
home_item k rank (Some md) = name (k.descriptor_word rank md)

-- what is done with the elements, and what is answered
abbrev pub operation_fields : Known → Header → List Field
operation_fields k h =
    field (codes "op") (items.Exact (op_word h.op)) ∷ field (codes "swap") (items.Exact (swap_word h.swap))
    ∷ field (codes "type") (items.Exact (type_word h.ty)) ∷ field (codes "operand") (items.Amount h.operand)
    ∷ field (codes "ack") (items.Exact (ack_word h.ack)) ∷ field (codes "home") (home_item k (home_rank h) h.home)
    ∷ field (codes "home_offset") (items.Amount h.home_offset) ∷ field (codes "ok") (flag h.ok) ∷ []

abbrev pub header_fields : Known → Header → List Field
header_fields k h =
    field (codes "kind") (items.Exact (kind_word h.kind)) ∷ field (codes "source") (items.Amount h.source)
    ∷ field (codes "target") (items.Amount h.target) ∷ field (codes "pt") (items.Amount h.pt)
    ∷ field (codes "bits") (items.Amount h.match_bits)
    ∷ field (codes "offset") (items.Amount h.offset) ∷ field (codes "length") (items.Amount h.length)
    ∷ field (codes "data") (items.Amount h.hdr_data) ∷ operation_fields k h

-- of an unexpected header, beside its own
abbrev pub unexpected_fields : Known → UnexpectedHeader → List Field
unexpected_fields k u =
    field (codes "place") (items.Amount u.place) ∷ field (codes "delivered") (items.Amount u.delivered)
    ∷ field (codes "entry") (name (k.entry_word u.entry)) ∷ header_fields k u.header

-- of a message under way
abbrev pub message_fields : Known → Header → List Field
message_fields k h = field (codes "bytes") (items.Raw k.message) ∷ header_fields k h

abbrev pub fields_owed : Known → Owed → List Field
fields_owed k (owed.Event e) = event_fields e
fields_owed k (owed.Found u) = unexpected_fields k u
fields_owed k (owed.Taken u) = unexpected_fields k u
fields_owed k (owed.Told h) = message_fields k h
fields_owed k _ = []

-- the field of a key
abbrev pub field_in : List ℕ → List Field → Option Item
field_in key [] = None
field_in key (f ∷ fs) = if bytes_eq key f.key then Some f.item else field_in key fs
