use Rattle.std.proofs.Common.{arith, ap, ◌∙◌, sym, subst, Some, length}
use Rattle.std.proofs.lemmas.List.Elements.{All-pop}
use Rattle.turn_table.specs.States.{HandState}
use Rattle.turn_table.specs.Hands.{IsFree, Gathered}
use Rattle.turn_table.proofs.Keeping.{free_seat}
use Rattle.turn_table.proofs.Gathering.{gathers_first, gathers_more}
use Rattle.turn_table.proofs.table.Turns.join_all.Goals as goal

pub loop-other-init : goal.loop-other-init
loop-other-init g c = let p = All-pop (λ h. IsFree c.args.self.now h) c.args.hands.items c.pop.new.self.items (Some c.in-Some.last)
    c.in-Some.ensures.items c.requires.hands in record {
      seat = free_seat g.T.Past.past _ _ _ _ _ _ _ c.last.invariant c.args.self.now c.in-Some.last _ p.1 c.last.view_is;
      others = p.0;
      all = subst (λ (h : HandState g.row.T.Denot). Gathered g.T.Past.past g.T.Past.name c.args.hands.items h.knows c.pop.new.self.items)
          (sym c.last.view_is)
          (gathers_first g.T.Past.past g.T.Past.name _ _ _ c.in-Some.ensures.items);
    }

pub join_into-requires-clause-other : goal.join_into-requires-clause-other
join_into-requires-clause-other g c = let old = c.loop-other.invariant in let p =
    All-pop (λ h. IsFree c.args.self.now h)
    c.loop-other.hands.items
    c.pop-in-loop-other.new.self.items
    (Some c.in-Some-pop.other) c.in-Some-pop.ensures.items
    old.others in
    p.1

pub loop-other-preserved : goal.loop-other-preserved
loop-other-preserved g c = let old = c.loop-other.invariant in let p = All-pop (λ h. IsFree c.args.self.now h) c.loop-other.hands.items
    c.pop-in-loop-other.new.self.items (Some c.in-Some-pop.other)
    c.in-Some-pop.ensures.items old.others in record {
      seat = c.join_into.ensures.seat;
      others = p.0;
      all = subst (λ v. Gathered g.T.Past.past g.T.Past.name c.args.hands.items v c.pop-in-loop-other.new.self.items)
          (sym c.join_into.ensures.known)
          (gathers_more g.T.Past.past g.T.Past.name _ _ _ _ _ old.all c.in-Some-pop.ensures.items
          (old.seat.slots ∙ sym c.join_into.ensures.sized));
    }

pub returns-clause-room : goal.returns-clause-room
returns-clause-room g c = let k = c.last.invariant in let p = All-pop (λ h. IsFree c.args.self.now h) c.args.hands.items
    c.pop.new.self.items (Some c.in-Some.last) c.in-Some.ensures.items
    c.requires.hands in
    (k.empty, omega (arith, k.roomy, k.start, ap (λ h. length h.knows.start) c.last.view_is, ap (λ l. length l) p.1.0.1))
