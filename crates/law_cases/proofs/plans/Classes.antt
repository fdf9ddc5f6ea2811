-- Classes of messages, what lanes carry, and what a link sends, by worked values.
use Rattle.std.proofs.Common.{true, false, ◌≡◌, Some, None, [], ◌∷◌, refl}
use Rattle.ptl_types.specs.declared.elements.AtomicOp.TheVariants.{Min, Sum, Bxor}
use Rattle.ptl_types.specs.declared.elements.ElemType.TheVariants.{U8, U32, I64}
use Rattle.ptl_types.specs.declared.headers.AckRequest.TheVariants.{CtAck, NoAck}
use Rattle.ptl_types.specs.declared.headers.Lane.TheVariants.{Answer, Request}
use Rattle.ptl_types.specs.declared.steps.PlannedOp.TheVariants.{Send}
use Rattle.plan_core.specs.declared.LinkKind.TheVariants.{Put, Bump}
use Rattle.plan_core.specs.Plan.{Plan}
use Rattle.plan_core.specs.calls.Areas.{links_to}
use Rattle.plan_core.specs.calls.Bits.{class_of, class_op, class_type}
use Rattle.plan_core.specs.calls.Calls.{act_of}
use Rattle.plan_core.specs.calls.Lanes.{lane_bytes, lane_messages}
use Rattle.plan_core.specs.calls.RankOps.RankOp.{ForLink}

puts_are_of_one_class : class_of None I64 ≡ 0
puts_are_of_one_class = refl

no_operation : class_op 0 ≡ None
no_operation = refl

first_operation : class_op 1 ≡ Some Min
first_operation = refl

first_type : class_type 1 ≡ U8
first_type = refl

-- the last type of the first operation
eighth_operation : class_op 8 ≡ Some Min
eighth_operation = refl

eighth_type : class_type 8 ≡ I64
eighth_type = refl

sum_of_words : class_op 21 ≡ Some Sum
sum_of_words = refl

words : class_type 21 ≡ U32
words = refl

last_operation : class_op 80 ≡ Some Bxor
last_operation = refl

last_type : class_type 80 ≡ I64
last_type = refl

-- ---- rank 0 puts two bytes twice into the four bytes of a cell of rank 1, whose last cell waits for that one
abbrev across : Plan
across = record {
  ranks = 2;
  remote = true;
  cells = record { rank = 0; ty = U8; op = None; length = 2; needs = 1 } ∷ record { rank = 1; ty = U8; op = None; length = 4; needs = 2 }
      ∷ record { rank = 1; ty = U8; op = None; length = 0; needs = 1 } ∷ [];
  links = record { source = 0; source_offset = 0; length = 2; target = 1; target_offset = 0; kind = Put }
      ∷ record { source = 0; source_offset = 0; length = 2; target = 1; target_offset = 2; kind = Put }
      ∷ record { source = 1; source_offset = 0; length = 0; target = 2; target_offset = 0; kind = Bump } ∷ [];
}

requests_there : lane_messages across 0 1 Request ≡ 2
requests_there = refl

no_requests_back : lane_messages across 1 0 Request ≡ 0
no_requests_back = refl

answers_back : lane_messages across 1 0 Answer ≡ 2
answers_back = refl

no_answers_there : lane_messages across 0 1 Answer ≡ 0
no_answers_there = refl

no_answers_unasked : lane_messages (record across { remote = false }) 1 0 Answer ≡ 0
no_answers_unasked = refl

bytes_there : lane_bytes across 0 1 ≡ 4
bytes_there = refl

-- the increment within rank 1 is no message
messages_that_come : links_to across 1 ≡ 0 ∷ 1 ∷ []
messages_that_come = refl

second_put : act_of across (ForLink 1) ≡ Send 0 2 1 0x0001000000010000 2 1 None U8 CtAck
second_put = refl

second_put_unasked : act_of (record across { remote = false }) (ForLink 1) ≡ Send 0 2 1 0x0001000000010000 2 1 None U8 NoAck
second_put_unasked = refl
