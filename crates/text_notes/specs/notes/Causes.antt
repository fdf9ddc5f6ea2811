-- The refusal that a cause belongs to.
use Rattle.coll_lang.specs.declared.fault.Refusal.{Refusal}
use Rattle.coll_lang.specs.declared.fault.Refusal.TheVariants as names
use Rattle.text_notes.specs.declared.notes.cause.Cause.{Cause}
use Rattle.text_notes.specs.declared.notes.cause.Cause.TheVariants.{TooLong, BadByte, BadHeader, BadRanks, BadLine, BadNumber, NameTaken}
use Rattle.text_notes.specs.declared.notes.cause.Cause.TheVariants.{UnknownBuffer, BadRoot}
use Rattle.text_notes.specs.declared.notes.cause.Cause.TheVariants.{WrongShape, TooMany, TooLarge, Unended, AfterEnd, BadOrder, BadGroup}
use Rattle.text_notes.specs.declared.notes.cause.Cause.TheVariants.{BadJson, BadForm, OneThread}

abbrev pub name_of : Cause → Refusal
name_of (TooLong most) = names.TooLong
name_of BadByte = names.BadByte
name_of BadHeader = names.BadHeader
name_of (BadRanks most) = names.BadRanks
name_of (BadLine flaw) = names.BadLine
name_of (BadNumber flaw) = names.BadNumber
name_of NameTaken = names.NameTaken
name_of UnknownBuffer = names.UnknownBuffer
name_of (BadRoot members) = names.BadRoot
name_of (WrongShape flaw) = names.WrongShape
name_of (TooMany flaw) = names.TooMany
name_of (TooLarge flaw) = names.TooLarge
name_of Unended = names.Unended
name_of AfterEnd = names.AfterEnd
name_of (BadOrder flaw) = names.BadOrder
name_of (BadGroup flaw) = names.BadGroup
name_of BadJson = names.BadJson
name_of (BadForm flaw) = names.BadForm
name_of OneThread = names.OneThread
