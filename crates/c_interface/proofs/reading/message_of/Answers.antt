-- By what the header is, and whether the bytes go with it.
use Rattle.std.proofs.Common.{Ok, ap, refl, subst, sym, ◌∙◌}
use Rattle.ptl_types.specs.declared.bytes.Bytes.{Bytes}
use Rattle.ptl_types.specs.Messages.{Sent, message}
use Rattle.c_interface.specs.Messages.{Reads, header_of}
use Rattle.c_interface.specs.Messages.Reads.{Lacking, Malformed, Read, Unknown}
use Rattle.c_interface.proofs.reading.message_of.Goals as goal

pub returns-in_default : goal.returns-in_default
returns-in_default c = Unknown (sym c.header_of.ensures ∙ c.in_default.is)

pub returns-then-not-goes_with : goal.returns-then-not-goes_with
returns-then-not-goes_with c = Malformed c.in-Some.header (sym c.header_of.ensures ∙ c.in-Some.is) (c.if-not-goes_with.ensures.misfits refl)

pub returns-in-Err : goal.returns-in-Err
returns-in-Err c = Lacking c.in-Some.header (sym c.header_of.ensures ∙ c.in-Some.is) (c.if-not-goes_with.ensures.fits refl)

pub returns-in-Ok : goal.returns-in-Ok
returns-in-Ok c =
    subst (λ (m : Sent). Reads (header_of c.args.head.now) c.args.bytes.now (Ok m))
    (sym (c.new.ensures ∙ ap (λ (b : Bytes). message c.in-Some.header b.list) c.fill.ensures))
    (Read c.in-Some.header (sym c.header_of.ensures ∙ c.in-Some.is) (c.if-not-goes_with.ensures.fits refl))
