use Rattle.std.proofs.Common.{◌≡◌, Bool, Option, Some, None, refl, subst}
use Rattle.log_top.specs.Reading.{Looks, More, Reader}
use Rattle.log_top.specs.declared.reading.Read.{Read}
use Rattle.log_top.proofs.LinesRead.{gone_last, gone_none, gone_on, gone_to, longer}
use Rattle.log_top.proofs.reading.LineReader.go_on.Goals as goal

looked_none : (p s : Reader) (o : Option Read) → ((x : Read) → (o ≡ Some x → ⊥)) → Looks p s o → Looks p s None
looked_none p s None none l = l
looked_none p s (Some x) none l = absurd (none x refl)

pub pieces-init : goal.pieces-init
pieces-init g c = gone_none _ _ c.requires.held c.requires.begun c.requires.short

pub returns-in-Some-clause-reads : goal.returns-in-Some-clause-reads
returns-in-Some-clause-reads g c =
    let now = g.S.Source.inflow c.pieces.source in
    let later = g.S.Source.inflow c.more.new.source in
    gone_to _ _ c.pieces.self now c.pieces.invariant c.more.new.self later
    (subst (λ (b : Bool). More c.pieces.self now c.more.new.self later b) c.if-not-some.false c.in_ok-some.ensures.more) c.look.new.self
    c.in-Some.read (subst (λ (o : Option Read). Looks c.more.new.self c.look.new.self o) c.in-Some.is c.in_ok-looked.ensures.looks)

pub pieces-preserved : goal.pieces-preserved
pieces-preserved g c =
    let now = g.S.Source.inflow c.pieces.source in
    let later = g.S.Source.inflow c.more.new.source in
    gone_on _ _ c.pieces.self now c.pieces.invariant c.more.new.self later
    (subst (λ (b : Bool). More c.pieces.self now c.more.new.self later b) c.if-not-some.false c.in_ok-some.ensures.more) c.look.new.self
    (looked_none c.more.new.self c.look.new.self c.in_ok-looked.looked c.in_default.not-Some c.in_ok-looked.ensures.looks)
