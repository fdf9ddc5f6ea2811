-- The line of each status.
use Rattle.std.proofs.Common.{subst, sym}
use Rattle.rank_process.specs.Notes.{SaysBeside}
use Rattle.rank_process.proofs.notes.say.Goals as goal

pub returns-in-Usage : goal.returns-in-Usage
returns-in-Usage g c =
    subst (λ s. SaysBeside s (g.N.Sink.outflow c.args.notes.now) (g.N.Sink.outflow c.say_note.new.notes)) (sym c.in-Usage.is)
    c.say_note.ensures

pub returns-in-WrongRank : goal.returns-in-WrongRank
returns-in-WrongRank g c =
    subst (λ s. SaysBeside s (g.N.Sink.outflow c.args.notes.now) (g.N.Sink.outflow c.say_note-in-WrongRank.new.notes))
    (sym c.in-WrongRank.is) c.say_note-in-WrongRank.ensures

pub returns-in-WriteFault : goal.returns-in-WriteFault
returns-in-WriteFault g c =
    subst (λ s. SaysBeside s (g.N.Sink.outflow c.args.notes.now) (g.N.Sink.outflow c.say_note-in-WriteFault.new.notes))
    (sym c.in-WriteFault.is) c.say_note-in-WriteFault.ensures

pub returns-in-NoMemory : goal.returns-in-NoMemory
returns-in-NoMemory g c =
    subst (λ s. SaysBeside s (g.N.Sink.outflow c.args.notes.now) (g.N.Sink.outflow c.say_note-in-NoMemory.new.notes))
    (sym c.in-NoMemory.is) c.say_note-in-NoMemory.ensures
