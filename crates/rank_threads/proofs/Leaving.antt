-- Wires that go, whose ends leave the slots.
use Rattle.std.proofs.Common.{◌≡◌, ℕ, ◌<◌, List, [], ◌∷◌, ◌++◌, length, refl, ap, map, ◌∙◌, subst, arith, ◌==◌, eq-eqb}
use mathlib.Core.Option.{some}
use lib.ListN.{get_elem?}
use Rattle.pair_wires.specs.declared.bounds.Bounds.{Bounds}
use Rattle.pair_wires.specs.Wires.{WireState, IsOutOf, IsInOf}
use Rattle.rank_slots.specs.declared.turn_rank.TurnRank.{TurnRank}
use Rattle.rank_slots.specs.declared.ports.OutPort.{OutPort}
use Rattle.rank_slots.specs.declared.ports.InPort.{InPort}
use Rattle.rank_slots.specs.Joints.{in_joint, out_joint}
use Rattle.rank_wiring.specs.Wiring.{IsRow, from_rank, to_rank}
use Rattle.rank_wiring.specs.Opening.{AllLaid, IsBetween, TurnRankLaid}
use Rattle.rank_slots.specs.Moves.{GainsIn, GainsOut, SameNode, Slotwise, at_rank}
use Rattle.rank_slots.proofs.Pairs.{exists_at, same_at, within}
use Rattle.rank_slots.proofs.Snocs.{length_map, map_if, map_snoc}
use Rattle.rank_wiring.proofs.Rows.{row_less, row_shrinks, row_some}
use Rattle.rank_slots.proofs.Slotwise.{here_is, same-back}

-- ---- wires go
-- the last end of a rank from which the last wire leads
pub last_out : (wires : List WireState) (w : WireState) (x : TurnRank) → TurnRankLaid (wires ++ w ∷ []) w.bounds.source x →
    0 < length x.outs.items
last_out wires w x l =
    let h = row_some wires w (from_rank w.bounds.source) (map out_joint x.outs.items) l.outs_are
    (eq-eqb w.bounds.source w.bounds.source refl) in
    let m = length_map out_joint x.outs.items in omega (arith, h, m)

pub last_in : (wires : List WireState) (w : WireState) (x : TurnRank) → TurnRankLaid (wires ++ w ∷ []) w.bounds.target x →
    0 < length x.ins.items
last_in wires w x l =
    let h = row_some wires w (to_rank w.bounds.target) (map in_joint x.ins.items) l.ins_are (eq-eqb w.bounds.target w.bounds.target refl) in
    let m = length_map in_joint x.ins.items in omega (arith, h, m)

-- it is the wire's
pub out_ends : (wires : List WireState) (w : WireState) (p : OutPort) (x y : TurnRank) → TurnRankLaid (wires ++ w ∷ []) w.bounds.source x
    → GainsOut w.bounds.source p w.bounds.source y x → IsOutOf w p.end
out_ends wires w p x y l g = let s = w.bounds.source in
    let r = subst (IsRow (wires ++ w ∷ []) (from_rank s)) (ap (map out_joint) (g.outs_are ∙ ap (λ m. y.outs.items ++ m) (here_is s p))
    ∙ map_snoc out_joint y.outs.items p) l.outs_are in
    let e = row_less wires w (from_rank s) (map out_joint y.outs.items) (out_joint p) r (eq-eqb s s refl) in (e.id, e.bounds)

pub in_ends : (wires : List WireState) (w : WireState) (p : InPort) (x y : TurnRank) → TurnRankLaid (wires ++ w ∷ []) w.bounds.target x →
    x.ins.items ≡ y.ins.items ++ at_rank w.bounds.target w.bounds.target p → IsInOf w p.end
in_ends wires w p x y l g = let s = w.bounds.target in
    let r = subst (IsRow (wires ++ w ∷ []) (to_rank s)) (ap (map in_joint) (g ∙ ap (λ m. y.ins.items ++ m) (here_is s p))
    ∙ map_snoc in_joint y.ins.items p) l.ins_are in
    let e = row_less wires w (to_rank s) (map in_joint y.ins.items) (in_joint p) r (eq-eqb s s refl) in (e.id, e.bounds)

pub laid_less : (wires : List WireState) (w : WireState) (out : OutPort) (into : InPort) (old mid new : List TurnRank)
    → Slotwise (λ r y x. GainsOut w.bounds.source out r x y) old mid → Slotwise (λ r y x. GainsIn w.bounds.target into r x y) mid new →
    AllLaid (wires ++ w ∷ []) old → AllLaid wires new
laid_less wires w out into old mid new s t h r x e =
    let y = t r x e in let z = s r y.0 y.1 in let l = h r z.0 z.1 in let b = w.bounds.source == r in let c = w.bounds.target == r in
    record {
      outs_are = row_shrinks wires w (from_rank r) (map out_joint x.outs.items) (out_joint out) b refl
          (subst (IsRow (wires ++ w ∷ []) (from_rank r)) (ap (map out_joint)
          (z.2.outs_are ∙ ap (λ m. m ++ at_rank r w.bounds.source out) y.2.outs_are) ∙ map_if out_joint x.outs.items out b) l.outs_are);
      ins_are = row_shrinks wires w (to_rank r) (map in_joint x.ins.items) (in_joint into) c refl
          (subst (IsRow (wires ++ w ∷ []) (to_rank r)) (ap (map in_joint) (z.2.ins_are ∙ y.2.ins_are)
          ∙ map_if in_joint x.ins.items into c) l.ins_are);
    }

pub less_out : (s : ℕ) (p : OutPort) (old new : List TurnRank) → Slotwise (λ r y x. GainsOut s p r x y) old new → Slotwise SameNode old new
less_out s p old new h r x e = let y = h r x e in (y.0, y.1, same-back r x y.0 y.2.same)

pub less_in : (s : ℕ) (p : InPort) (old new : List TurnRank) → Slotwise (λ r y x. GainsIn s p r x y) old new → Slotwise SameNode old new
less_in s p old new h r x e = let y = h r x e in (y.0, y.1, same-back r x y.0 y.2.same)

pub lost_out : (b c : Bounds) (out : OutPort) (old new : List TurnRank) → b ≡ c → Slotwise (λ r y x. GainsOut b.source out r x y) old new
    → Slotwise (λ r y x. GainsOut c.source out r x y) old new
lost_out b c out old new e h = subst (λ (z : Bounds). Slotwise (λ r y x. GainsOut z.source out r x y) old new) e h

pub lost_in : (b c : Bounds) (into : InPort) (old new : List TurnRank) → b ≡ c → Slotwise (λ r y x. GainsIn b.target into r x y) old new →
    Slotwise (λ r y x. GainsIn c.target into r x y) old new
lost_in b c into old new e h = subst (λ (z : Bounds). Slotwise (λ r y x. GainsIn z.target into r x y) old new) e h

-- both ends that left are the wire's
pub wire_ends : (wires : List WireState) (w : WireState) (out : OutPort) (into : InPort) (old mid new : List TurnRank) →
    AllLaid (wires ++ w ∷ []) old → IsBetween (length old) w → length mid ≡ length old → length new ≡ length mid
    → Slotwise (λ r y x. GainsOut w.bounds.source out r x y) old mid → Slotwise (λ r y x. GainsIn w.bounds.target into r x y) mid new →
    IsOutOf w out.end × IsInOf w into.end
wire_ends wires w out into old mid new h b m n s t =
    let x = exists_at mid w.bounds.source (let k = b.source in omega (arith, k, m)) in let y = s w.bounds.source x.0 x.1 in
    let u = exists_at new w.bounds.target (let k = b.target in omega (arith, k, m, n)) in let v = t w.bounds.target u.0 u.1 in let z =
    s w.bounds.target v.0 v.1 in (
      out_ends wires w out y.0 x.0 (h w.bounds.source y.0 y.1) y.2,
      in_ends wires w into z.0 u.0 (h w.bounds.target z.0 z.1)
          (z.2.ins_are ∙ v.2.ins_are),
    )

-- the node of a slot, before
pub node_before : (a b : List TurnRank) → Slotwise SameNode a b → length b ≡ length a → (r : ℕ) (x : TurnRank) → get_elem? a r ≡ some x →
    (y : TurnRank) × (get_elem? b r ≡ some y) × SameNode r x y
node_before a b s n r x e =
    let h = within a r x e in let y = exists_at b r (omega (arith, h, n)) in let z = s r y.0 y.1 in
    (y.0, y.1, subst (λ (u : TurnRank). SameNode r u y.0) (same_at a r z.0 x z.1 e) z.2)
