use Rattle.std.proofs.Common.{◌≡◌, ◌++◌, ◌∷◌, [], ◌∙◌, true, false, sym, ap, refl, subst}
use Rattle.std.specs.Prelude.{Option, Some, None, IfSome, IfNone}
use Rattle.ptl_types.specs.declared.steps.LocalStep.{LocalStep}
use Rattle.cuts.specs.histories.History.Local.{Start as Started, Fire as Fired}
use Rattle.rank_node.specs.Node.{NodeState}
use Rattle.rank_node.specs.Copies.{has_start}
use Rattle.rank_slots.specs.declared.turn_rank.TurnRank.{TurnRank}
use Rattle.rank_slots.specs.declared.ports.OutPort.{OutPort}
use Rattle.rank_slots.specs.Chronicles.{KeepsHandles}
use Rattle.rank_slots.specs.Lists.{Each}
use Rattle.rank_slots.specs.Names.{IsWired, Mark, Plate, history, mark, plate}
use Rattle.rank_slots.specs.Sound.{IsSound}
use Rattle.rank_slots.specs.Steps.{Made}
use Rattle.rank_slots.specs.Missing.{AreShut, HasFlushed, Idled, MissedAll}
use Rattle.rank_slots.proofs.Chronicles.{handles-flushed}
use Rattle.rank_slots.proofs.turn_rank.TurnRank.step.Goals as goal

-- the same history before
same-history : (x y : TurnRank) → HasFlushed x y → history y ≡ history x
same-history x y f = ap (λ (n : NodeState). n.diary.locals) f.node.same

made-from : (e : Option LocalStep) (a a' b : Mark) → a'.0 ≡ a.0 → IfSome e (λ step. Made step a' b) → IfSome e (λ step. Made step a b)
made-from None a a' b same m = tt
made-from (Some step) a a' b same m = (m.0, m.1, m.2 ∙ ap (λ h. h ++ m.0 ∷ []) same)

idled-from : (e : Option LocalStep) (x z z' y : TurnRank) → z' ≡ z → HasFlushed x z → has_start (history x) ≡ true →
    AreShut z.node.value → IfNone e (MissedAll z' y) → IfNone e (Idled x y)
idled-from (Some step) x z z' y same flushed started shut m = tt
idled-from None x z z' y same flushed started shut m = record {
  started = started;
  between = z;
  flushed = flushed;
  shut = shut;
  missed =
      subst (λ (s : TurnRank). MissedAll s y) same m;
}

pub begin-requires-clause-sound : goal.begin-requires-clause-sound
begin-requires-clause-sound g c = subst IsSound (sym (ap (λ (p : Plate). p.job) c.flush-free.ensures.name)) c.requires.sound

pub begin-requires-clause-first : goal.begin-requires-clause-first
begin-requires-clause-first g c = sym (c.if-not-started.ensures ∙ ap (λ (n : NodeState). has_start n.diary.locals) c.deref.ensures)

pub returns-then-not-started-clause-some : goal.returns-then-not-started-clause-some
returns-then-not-started-clause-some g c = let s = c.args.self.now in let z = c.flush-free.new.self in
    (Started, refl, c.begin.ensures.grew ∙ ap (λ h. h ++ Started ∷ []) (same-history s z c.flush-free.ensures.flushed))

pub fire_any-requires-clause-sound : goal.fire_any-requires-clause-sound
fire_any-requires-clause-sound g c = λ _ _. subst IsSound (sym (ap (λ (p : Plate). p.job) c.flush-free.ensures.name)) c.requires.sound

pub fire_any-requires-clause-wired : goal.fire_any-requires-clause-wired
fire_any-requires-clause-wired g c = λ _ _. subst (IsWired c.args.network.wires.now) (sym c.flush-free.ensures.name) c.requires.wired

pub returns-in-Some-clause-some : goal.returns-in-Some-clause-some
returns-in-Some-clause-some g c = let s = c.args.self.now in let z = c.flush-free.new.self in (
  Fired c.in-Some.number,
  refl,
  (c.in-Some.ensures).some.1
      ∙ ap (λ h. h ++ Fired c.in-Some.number ∷ []) (same-history s z c.flush-free.ensures.flushed),
)

pub receive_any-requires-clause-sound : goal.receive_any-requires-clause-sound
receive_any-requires-clause-sound g c = λ _ _. subst IsSound
    (sym (ap (λ (x : TurnRank). x.job) (c.in_default.ensures).none.0 ∙ ap (λ (p : Plate). p.job) c.flush-free.ensures.name))
    c.requires.sound

pub receive_any-requires-clause-wired : goal.receive_any-requires-clause-wired
receive_any-requires-clause-wired g c = λ _ _. subst (IsWired c.args.network.wires.now)
    (sym (ap plate (c.in_default.ensures).none.0 ∙ c.flush-free.ensures.name)) c.requires.wired

pub receive_any-requires-clause-free : goal.receive_any-requires-clause-free
receive_any-requires-clause-free g c = λ _ _ f. subst (λ (x : TurnRank). Each (λ (p : OutPort). p.end.waits ≡ false) x.outs.items)
    (sym (c.in_default.ensures).none.0) (c.flush-free.ensures.free f)

pub returns-clause-some : goal.returns-clause-some
returns-clause-some g c = let s = c.args.self.now in let z = c.flush-free.new.self in let y = c.fire_any.new.self in
    made-from c.receive_any.result (mark s) (mark y) (mark c.receive_any.new.self) (ap history (c.in_default.ensures).none.0
    ∙ same-history s z c.flush-free.ensures.flushed) c.receive_any.ensures.some

pub returns-clause-none : goal.returns-clause-none
returns-clause-none g c = let s = c.args.self.now in let z = c.flush-free.new.self in
    idled-from c.receive_any.result s z c.fire_any.new.self c.receive_any.new.self (c.in_default.ensures).none.0
    c.flush-free.ensures.flushed (ap has_start (sym (same-history s z c.flush-free.ensures.flushed))
    ∙ sym (c.if-not-started.ensures ∙ ap (λ (n : NodeState). has_start n.diary.locals) c.deref.ensures)) (c.in_default.ensures).none.1
    c.receive_any.ensures.none

pub returns-clause-name : goal.returns-clause-name
returns-clause-name g c = c.receive_any.ensures.name ∙ (ap plate (c.in_default.ensures).none.0 ∙ c.flush-free.ensures.name)

pub returns-then-not-started-clause-handles : goal.returns-then-not-started-clause-handles
returns-then-not-started-clause-handles g c = handles-flushed c.args.self.now c.flush-free.new.self c.begin.new.self
    c.flush-free.ensures.flushed c.begin.ensures.handles

pub returns-in-Some-clause-handles : goal.returns-in-Some-clause-handles
returns-in-Some-clause-handles g c = handles-flushed c.args.self.now c.flush-free.new.self c.fire_any.new.self
    c.flush-free.ensures.flushed c.fire_any.ensures.handles

pub returns-clause-handles : goal.returns-clause-handles
returns-clause-handles g c = let z = c.flush-free.new.self in
    handles-flushed c.args.self.now z c.receive_any.new.self c.flush-free.ensures.flushed
    (subst (λ (s : TurnRank). KeepsHandles s c.receive_any.new.self) (c.in_default.ensures).none.0 c.receive_any.ensures.handles)
