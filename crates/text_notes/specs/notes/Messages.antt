-- What a note says of its cause.
use Rattle.std.specs.Prelude.{ℕ, List, [], ◌∷◌, map, codes}
use Rattle.ptl_types.specs.declared.elements.ElemType.{ElemType}
use Rattle.ptl_types.specs.declared.steps.Cause.{Cause as Failure}
use Rattle.ptl_types.specs.declared.steps.Cause.TheVariants as failures
use Rattle.coll_shape.specs.declared.limits.TheConstants.{MOST_BUFFERS, MOST_ELEMENTS, MOST_GIVEN, MOST_GROUPS, MOST_PRINTS, MOST_STEPS}
use Rattle.text_notes.specs.declared.notes.detail.Detail.{Detail}
use Rattle.text_notes.specs.declared.notes.detail.Detail.TheVariants.{Nothing, Number, TypeWord, Operations, Types, Steps}
use Rattle.text_notes.specs.declared.notes.message.Message.{Message}
use Rattle.text_notes.specs.declared.notes.cause.Cause.{Cause}
use Rattle.text_notes.specs.declared.notes.cause.Cause.TheVariants as causes
use Rattle.text_notes.specs.declared.notes.cause.LineFlaw.{LineFlaw}
use Rattle.text_notes.specs.declared.notes.cause.LineFlaw.TheVariants as line_flaws
use Rattle.text_notes.specs.declared.notes.cause.NumberFlaw.{NumberFlaw}
use Rattle.text_notes.specs.declared.notes.cause.NumberFlaw.TheVariants as number_flaws
use Rattle.coll_shape.specs.declared.collectives.Need.{Need}
use Rattle.coll_shape.specs.declared.collectives.Need.TheVariants as needs
use Rattle.text_notes.specs.declared.notes.cause.Limit.{Limit}
use Rattle.text_notes.specs.declared.notes.cause.Limit.TheVariants as limits
use Rattle.text_notes.specs.declared.notes.cause.Excess.{Excess}
use Rattle.text_notes.specs.declared.notes.cause.Excess.TheVariants as excesss
use Rattle.text_notes.specs.declared.notes.cause.OrderFlaw.{OrderFlaw}
use Rattle.text_notes.specs.declared.notes.cause.OrderFlaw.TheVariants as order_flaws
use Rattle.text_notes.specs.declared.notes.cause.GroupFlaw.{GroupFlaw}
use Rattle.text_notes.specs.declared.notes.cause.GroupFlaw.TheVariants as group_flaws
use Rattle.text_notes.specs.declared.notes.cause.FormFlaw.{FormFlaw}
use Rattle.text_notes.specs.declared.notes.cause.FormFlaw.TheVariants as form_flaws

-- a text, a detail and a text
pub record Said : Type 0 where
  pub head : List ℕ
  pub detail : Detail
  pub tail : List ℕ

abbrev pub said : Message → Said
said m = record { head = m.head.now; detail = m.detail; tail = m.tail.now }

abbrev pub says : List ℕ → Said
says head = record { head = head; detail = Nothing; tail = [] }

abbrev pub says_with : List ℕ → Detail → List ℕ → Said
says_with head detail tail = record { head = head; detail = detail; tail = tail }

-- what is wrong with the words of a line
abbrev pub line_message : LineFlaw → Said
line_message line_flaws.FirstWord = says (codes "is no first word here: complete, group, input, on, elect, tickets, a step, print or end")
line_message line_flaws.AfterGroups = says (codes "is no first word here: group, input, on, a step, print or end")
line_message line_flaws.AfterInputs = says (codes "is no first word here: input, on, a step, print or end")
line_message line_flaws.AfterSteps = says (codes "is no first word here: on, a step, print or end")
line_message line_flaws.AfterChoices = says (codes "is no first word here: elect, tickets, print or end")
line_message line_flaws.AfterPrints = says (codes "is no first word here: print or end")
line_message line_flaws.OnlyInTwo = says (codes "stands in a text of version 2 alone")
line_message line_flaws.NoName = says (codes "is no name: 1 to 16 of a-z, 0-9 and _, a letter first")
line_message line_flaws.NoType = says_with (codes "is no type:") Types []
line_message line_flaws.NoOperation = says_with (codes "is no operation:") Operations []
line_message line_flaws.NoStep = says_with (codes "is no first word of a step:") Steps []
line_message line_flaws.NoRemote = says (codes "stands where the word remote is due")
line_message line_flaws.NoRoot = says (codes "stands where ROOT is due, the number of a place")
line_message line_flaws.NoCount = says (codes "stands where COUNT is due, a number")
line_message line_flaws.NoMember = says (codes "stands where a member is due, a rank")
line_message line_flaws.ExtraWord = says (codes "is one word too many")
line_message (line_flaws.ValueDue count) = says_with (codes "stands where a value is due: the line has ") (Number count) (codes " of them")
line_message (line_flaws.ExtraValue count) = says_with (codes "is one value too many: the line has ") (Number count) (codes " of them")
line_message line_flaws.OddLine = says (codes "is not what may stand here")

-- what is wrong with a number
abbrev pub number_message : NumberFlaw → Said
number_message number_flaws.NoCount = says_with (codes "is no number from 1 to ") (Number MOST_GIVEN) []
number_message number_flaws.NoNumber = says (codes "is no number: 0, or digits without a leading 0")
number_message (number_flaws.NoValue ty) = says_with (codes "is no value of the type ") (TypeWord ty) []

-- what a step asks of the buffer that it reads
abbrev pub need_message : Need → Said
need_message needs.Root = says (codes "isn't held by the root")
need_message needs.RootInBlocks = says (codes "isn't held by the root, or its length is no multiple of the number of members")
need_message needs.All = says (codes "isn't held by every member")
need_message needs.AllInBlocks = says (codes "isn't held by every member, or its length is no multiple of their number")
need_message needs.Some = says (codes "isn't held by any member")

-- of what there is one too many
abbrev pub limit_message : Limit → Said
limit_message limits.Steps = says_with (codes "is one step too many: the most is ") (Number MOST_STEPS) []
limit_message limits.Buffers = says_with (codes "is one buffer too many: the most is ") (Number MOST_BUFFERS) []
limit_message limits.Prints = says_with (codes "is one print too many: the most is ") (Number MOST_PRINTS) []
limit_message limits.Groups = says_with (codes "is one group too many: the most is ") (Number MOST_GROUPS) []
limit_message (limits.Links most) = says_with (codes "up to and with this step the plan has more than ") (Number most) (codes " links")

-- what is too large
abbrev pub excess_message : Excess → Said
excess_message excesss.Buffer = says_with (codes "would have more elements at a rank than the most, ") (Number MOST_ELEMENTS) []
excess_message excesss.Prints = says_with (codes "with the prints before it has more elements over all ranks than the most, ")
    (Number MOST_ELEMENTS) []
excess_message (excesss.Cells most) = says_with (codes "up to and with this step the plan's cells have more than ") (Number most)
    (codes " bytes")

-- what is wrong with an order line
abbrev pub order_message : OrderFlaw → Said
order_message order_flaws.NoOrder = says (codes "stands where the word order is due")
order_message (order_flaws.NoRank rank) = says_with (codes "stands where this rank is due: ") (Number rank) []
order_message (order_flaws.NoStep ranks) = says_with (codes "is no local step: s, rS, aS or fT, with a number T and a rank S below ")
    (Number ranks) []

-- what is wrong with a group
abbrev pub group_message : GroupFlaw → Said
group_message group_flaws.NoGroup = says (codes "is no group that an earlier line made")
group_message (group_flaws.NoRank ranks) = says_with (codes "is no rank: each is below ") (Number ranks) []
group_message group_flaws.NotRising = says (codes "is not greater than the member before it")

-- what is wrong with the form of a JSON value
abbrev pub form_message : FormFlaw → Said
form_message form_flaws.NoMember = says (codes "no member of this name may stand here")
form_message form_flaws.Missing = says (codes "this member is missing")
form_message form_flaws.NoObject = says (codes "an object is due here")
form_message form_flaws.NoList = says (codes "a list is due here")
form_message form_flaws.NoWhole = says (codes "a whole number is due here")
form_message form_flaws.NoTruth = says (codes "true or false is due here")
form_message form_flaws.NoWord = says (codes "a string of bytes from 0x21 to 0x7e is due here")
form_message form_flaws.NoItem = says (codes "a string of bytes from 0x21 to 0x7e or a whole number is due here")

abbrev pub cause_message : Cause → Said
cause_message (causes.TooLong most) = says_with (codes "the text has more than ") (Number most) (codes " bytes")
cause_message causes.BadByte = says (codes "is no byte of a line: 0x20 to 0x7e are")
cause_message causes.BadHeader = says (codes "is not what line 1 says: coll 1 or coll 2")
cause_message (causes.BadRanks most) = says_with (codes "is not what line 2 says: ranks and a number from 1 to ") (Number most) []
cause_message (causes.BadLine flaw) = line_message flaw
cause_message (causes.BadNumber flaw) = number_message flaw
cause_message causes.NameTaken = says (codes "is the name of a buffer or a group already")
cause_message causes.UnknownBuffer = says (codes "is no buffer that an earlier line made")
cause_message (causes.BadRoot members) = says_with (codes "is no place: each is below the number of members, ") (Number members) []
cause_message (causes.WrongShape flaw) = need_message flaw
cause_message (causes.TooMany flaw) = limit_message flaw
cause_message (causes.TooLarge flaw) = excess_message flaw
cause_message causes.Unended = says (codes "is no line with its LF, and one is due")
cause_message causes.AfterEnd = says (codes "stands after the last line")
cause_message (causes.BadOrder flaw) = order_message flaw
cause_message (causes.BadGroup flaw) = group_message flaw
cause_message causes.BadJson = says (codes "the bytes are no JSON value, or not in UTF-8")
cause_message (causes.BadForm flaw) = form_message flaw
cause_message causes.OneThread = says (codes "a choice text runs under once and sim X alone")

-- what fails of orders
abbrev pub fails_message : Failure → Said
fails_message failures.StartedTwice = says (codes "is a second start of this rank")
fails_message failures.NotSent = says (codes "is not possible here: no such message is there")
fails_message failures.NotReady = says (codes "is not possible here: the operation isn't ready, or doesn't wait")
fails_message failures.NotAtRest = says (codes "stands where a further step is due: the rank isn't at rest")
