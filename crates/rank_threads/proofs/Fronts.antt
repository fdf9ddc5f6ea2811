-- What a hand has seen at a rank where it noted its history, and what its further turns leave of that.
use Rattle.std.proofs.Common.{append-nil, ◌≡◌, ◌≢◌, ◌<◌, ◌+◌, [], ◌∙◌, ⊎_elim, ℕ, List, cond, eqb, eq-eqb, ne_eqb, ap, sym, subst, arith}
use Rattle.std.proofs.lemmas.Bool.{cases_eq}
use mathlib.Core.Option.{some}
use lib.ListN.{get_elem?}
use Rattle.atomic_table.proofs.Lists.{at_map}
use Rattle.turn_table.specs.declared.views.HandView.{HandView}
use Rattle.turn_table.specs.declared.views.SlotView.{SlotView}
use Rattle.turn_table.specs.Views.{without_busy_slot}
use Rattle.turn_table.specs.Hands.{marks}
use Rattle.cuts.specs.histories.History.{Local}
use Rattle.cuts.specs.histories.System.{Histories}
use Rattle.schedule_compiler.specs.Jobs.{JobOf}
use Rattle.rest_probe.specs.declared.notes.RankNote.{RankNote}
use Rattle.rest_probe.specs.declared.notes.ProbeNote.{ProbeNote}
use Rattle.rank_slots.specs.declared.turn_rank.TurnRank.{TurnRank}
use Rattle.rank_slots.specs.Names.{Mark, history, note}
use Rattle.rank_slots.specs.Probes.{HasNote, Says}
use Rattle.rank_threads.specs.Resting.{SaysSeen}
use Rattle.rank_threads.specs.Turns.{Turned}
use Rattle.rank_slots.proofs.Pairs.{at_map_back}

-- the turn in which the note was made
pub seen-here : (job : JobOf) (v w : HandView TurnRank) (r : ℕ) (a : Mark) (n : ProbeNote) → Turned v w r a a →
    Says job r a.0 a.1.kept n → SaysSeen job w r a.0 n
seen-here job v w r a n t says =
    let z = at_map_back (marks history note) t.last.slot.seen 0 (a, a) (ap (λ (l : List (Mark × Mark)). get_elem? l 0) t.last.turn_is) in
    record {
      slot = t.last.slot;
      slot_is = t.last.slot_is;
      at = 0;
      turn = z.0;
      turn_is = z.1;
      begins = ([], append-nil a.0 ∙ sym (ap (λ (m : Mark × Mark). m.1.0) z.2));
      says = subst (λ k. Says job r a.0 k n) (sym (ap (λ (m : Mark × Mark). m.1.1.kept) z.2)) says;
    }

-- a turn at another rank
pub seen-else : (job : JobOf) (v w : HandView TurnRank) (r q : ℕ) (a b : Mark) (front : List Local) (n : ProbeNote) → Turned v w r a b →
    q ≢ r → SaysSeen job v q front n → SaysSeen job w q front n
seen-else job v w r q a b front n t apart h =
    let x = at_map_back without_busy_slot w.slots q (without_busy_slot h.slot)
    (t.others q apart ∙ at_map without_busy_slot v.slots q h.slot h.slot_is) in record {
      slot = x.0;
      slot_is = x.1;
      at = h.at;
      turn = h.turn;
      turn_is = ap (λ (s : SlotView TurnRank). get_elem? s.seen h.at) x.2 ∙ h.turn_is;
      begins = h.begins;
      says = h.says;
    }

-- the notes of the ranks below n say what these fronts say
abbrev pub AreNoted : JobOf → HandView TurnRank → ℕ → List RankNote → Type 0
AreNoted job v n w = (fronts : Histories) × ((r : ℕ) (x : RankNote) → r < n → get_elem? w r ≡ some x → SaysSeen job v r (fronts r) x.note)

pub none-noted : (job : JobOf) (v : HandView TurnRank) (w : List RankNote) → AreNoted job v 0 w
none-noted job v w = ((λ _. []), λ r x low at. absurd (omega (arith, low)))

-- one note more
pub more-noted : (job : JobOf) (v u : HandView TurnRank) (n : ℕ) (a : Mark) (w z : List RankNote) → Turned v u n a a →
    HasNote job n a.0 a.1.kept z
    → ((r : ℕ) → r ≢ n → get_elem? z r ≡ get_elem? w r) → AreNoted job v n w → AreNoted job u (n + 1) z
more-noted job v u n a w z t note others h = (
  (λ r. cond (eqb r n) a.0 (h.0 r)),
  λ r x low at. ⊎_elim
      (λ (is : r ≡ n).
      let says_seen = seen-here job v u n a x.note t (note x (ap (get_elem? z) (sym is) ∙ at)).1 in
      let front : a.0 ≡ cond (eqb r n) a.0 (h.0 r) = ap (λ b. cond b a.0 (h.0 r)) (sym (eq-eqb r n is)) in
      subst (λ (q : ℕ × List Local). SaysSeen job u q.0 q.1 x.note) (λ k. (sym is k, front k)) says_seen)
      (λ (apart : r ≡ n → ⊥).
      let there = seen-else job v u n r a a (h.0 r) x.note t apart (h.1 r x (omega (arith, low, apart)) (sym (others r apart) ∙ at)) in
      let front : h.0 r ≡ cond (eqb r n) a.0 (h.0 r) = ap (λ b. cond b a.0 (h.0 r)) (sym (ne_eqb r n apart)) in
      subst (λ es. SaysSeen job u r es x.note) front there)
      (cases_eq r n),
)
