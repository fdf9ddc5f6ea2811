-- What stands on standard error beside each status: a line, and nothing beside a rank that ended.
use Rattle.std.specs.Prelude.{ℕ, ◌≡◌, ◌⊎◌, List, [], ◌∷◌, codes}
use Rattle.coll_text.specs.Text.{line}
use Rattle.given_verdicts.specs.Saying.{answer_line}
use Rattle.message_codec.specs.declared.fault.Fault.{Fault}
use Rattle.message_codec.specs.declared.fault.Fault.TheVariants as faults
use Rattle.port_io.specs.Ends.{Outflow}
use Rattle.run_text.specs.Putting.{Ends, FailsWithin}
use Rattle.rank_frames.specs.declared.fault.FrameFault.{FrameFault}
use Rattle.rank_frames.specs.declared.fault.FrameFault.TheVariants.{Mark, Source, TooLong}
use Rattle.rank_frames.specs.declared.fault.FrameFault.TheVariants.{Message, OtherSource, OtherTarget, OtherJob, Lane, NotAwaited, TooMany}
use Rattle.rank_process.specs.declared.status.Status.{Status}
use Rattle.rank_process.specs.declared.status.Status.TheVariants.{Ended, Usage, WrongRank, Answered, ReadFault, WriteFault, NoMemory, Frame}

-- of bytes that are no message
abbrev pub message_note : Fault → List ℕ
message_note faults.Short = line (codes "a frame is refused: bytes are lacking" ∷ [])
message_note faults.Kind = line (codes "a frame is refused: an unknown kind of message" ∷ [])
message_note faults.Delivered = line (codes "a frame is refused: an unknown word on delivery" ∷ [])
message_note faults.Ack = line (codes "a frame is refused: an unknown acknowledgement" ∷ [])
message_note faults.Operation = line (codes "a frame is refused: an unknown operation" ∷ [])
message_note faults.Swap = line (codes "a frame is refused: an unknown swap" ∷ [])
message_note faults.ElementType = line (codes "a frame is refused: an unknown type" ∷ [])
message_note faults.Home = line (codes "a frame is refused: an unknown word on the descriptor" ∷ [])
message_note faults.Reserved = line (codes "a frame is refused: a reserved byte that isn't 0" ∷ [])
message_note faults.StrayHome = line (codes "a frame is refused: a descriptor that awaits nothing" ∷ [])
message_note faults.OperationOfKind = line (codes "a frame is refused: an operation that isn't its kind's" ∷ [])
message_note faults.SwapOfKind = line (codes "a frame is refused: a swap that isn't its kind's" ∷ [])
message_note faults.PartElement = line (codes "a frame is refused: a part of an element" ∷ [])
message_note faults.OneElement = line (codes "a frame is refused: a swap that isn't of one element" ∷ [])
message_note faults.Long = line (codes "a frame is refused: too many bytes" ∷ [])

-- of a frame
abbrev pub frame_note : FrameFault → List ℕ
frame_note Mark = line (codes "a frame is refused: no mark of a first start" ∷ [])
frame_note Source = line (codes "a frame is refused: of no rank" ∷ [])
frame_note TooLong = line (codes "a frame is refused: too long" ∷ [])
frame_note (Message fault) = message_note fault
frame_note OtherSource = line (codes "a frame is refused: a message of another source" ∷ [])
frame_note OtherTarget = line (codes "a frame is refused: a message for another rank" ∷ [])
frame_note OtherJob = line (codes "a frame is refused: a message of another job" ∷ [])
frame_note Lane = line (codes "a frame is refused: a message more than its lane carries" ∷ [])
frame_note NotAwaited = line (codes "a frame is refused: an answer that nothing awaits" ∷ [])
frame_note TooMany = line (codes "a frame is refused: more bytes than come to this rank" ∷ [])

-- standard error took this line, or failed
abbrev pub Says : List ℕ → Outflow → Outflow → Type 0
Says text old new = Ends old new text ⊎ FailsWithin old new text

-- Beside an answer its own line stands, as on standard output, unless there is no memory for it.
abbrev pub SaysBeside : Status → Outflow → Outflow → Type 0
SaysBeside Ended old new = new ≡ old
SaysBeside Usage old new = Says (line (codes "it takes no words: a rank is told by its first frame" ∷ [])) old new
SaysBeside WrongRank old new = Says (line (codes "the description has no such rank" ∷ [])) old new
SaysBeside (Answered answer) old new = Says (answer_line answer) old new ⊎ (new ≡ old)
SaysBeside ReadFault old new = Says (line (codes "standard input failed, or ended before the rank did" ∷ [])) old new
SaysBeside WriteFault old new = Says (line (codes "standard output can't be written" ∷ [])) old new
SaysBeside NoMemory old new = Says (line (codes "there is not enough memory" ∷ [])) old new
SaysBeside (Frame fault) old new = Says (frame_note fault) old new
