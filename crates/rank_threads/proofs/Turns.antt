-- What a turn leaves of what a hand knows.
use Rattle.std.proofs.Common.{append-nil, ◌≡◌, ◌≢◌, ◌<◌, ◌-◌, ◌++◌, ◌∷◌, [], ℕ, zero, suc, List, length, map, ap, ◌∙◌, sym, refl, subst}
use Rattle.std.proofs.Common.{arith, ⊎_elim}
use Rattle.std.proofs.lemmas.Bool.{cases_eq}
use Rattle.std.specs.Prelude.{Option, Some, None, IfSome, IfNone}
use mathlib.Core.List.{IsPrefix}
use mathlib.Core.Option.{some, none}
use lib.ListN.{get_elem?}
use Rattle.ptl_types.specs.declared.steps.LocalStep.{LocalStep}
use Rattle.atomic_table.proofs.Lists.{at_map}
use Rattle.turn_table.specs.declared.views.EndedTurn.{EndedTurn}
use Rattle.turn_table.specs.declared.views.HandView.{HandView}
use Rattle.turn_table.specs.declared.views.SlotView.{SlotView}
use Rattle.turn_table.specs.Views.{adjusted, after_busy, after_give, after_turn, busier_slot, numbers_from, places, places_in}
use Rattle.turn_table.specs.Views.{without_busy_slot}
use Rattle.turn_table.specs.Hands.{LastTurn, Took, marks}
use Rattle.turn_table.proofs.Sums.{adjusted_length}
use Rattle.schedule_compiler.specs.Jobs.{JobOf}
use Rattle.cuts.specs.histories.History.{Local}
use Rattle.rank_slots.specs.declared.turn_rank.TurnRank.{TurnRank}
use Rattle.rank_slots.specs.Chronicles.{Entry, KeepsHandles, chronicle}
use Rattle.rank_slots.specs.Names.{Mark, Note, history, mark, note, plate}
use Rattle.rank_slots.specs.Steps.{IsIdle, Made}
use Rattle.rank_node.specs.Node.{NodeState}
use Rattle.rank_slots.specs.Missing.{Idled}
use Rattle.rank_slots.specs.Onward.{Stepped}
use Rattle.rank_threads.specs.Turns.{Followed, FoundIdle, MadeNone, MayEnd, Turned}
use Rattle.rank_slots.proofs.Chronicles.{as-long, bare-history, begins-chronicle, begins-history}
use Rattle.rank_slots.proofs.Pairs.{at_map_back, within}

-- ---- the views without the counts of busy tries
adjusted-else : (l : List (SlotView TurnRank)) (k q : ℕ) (f : SlotView TurnRank → SlotView TurnRank) → q ≢ k →
    get_elem? (map without_busy_slot (adjusted l k f)) q ≡ get_elem? (map without_busy_slot l) q
adjusted-else [] k q f apart = refl
adjusted-else (x ∷ xs) zero zero f apart = absurd (apart refl)
adjusted-else (x ∷ xs) zero (suc q) f apart = refl
adjusted-else (x ∷ xs) (suc k) zero f apart = refl
adjusted-else (x ∷ xs) (suc k) (suc q) f apart = adjusted-else xs k q f (λ e. apart (ap suc e))

places-here : (l : List (SlotView TurnRank)) (k : ℕ) (x y : TurnRank) → k < length l →
    places_in (adjusted l k (after_turn chronicle x y)) k ≡ places_in l k ++ numbers_from (length (history x))
    (length (history y) - length (history x))
places-here [] k x y h = absurd (omega (arith, h))
places-here (s ∷ l) zero x y h = λ k. s.places ++ numbers_from (as-long x k) (as-long y k - as-long x k)
places-here (s ∷ l) (suc k) x y h = places-here l k x y (omega (arith, h))

places-still : (l : List (SlotView TurnRank)) (k : ℕ) → places_in (map without_busy_slot l) k ≡ places_in l k
places-still [] k = refl
places-still (s ∷ l) zero = refl
places-still (s ∷ l) (suc k) = places-still l k

-- ---- the chronicle for the history
abbrev bare-mark : List Entry × Note → Mark
bare-mark m = (map (λ (e : Entry). e.0) m.0, m.1)

abbrev bare-marks : (List Entry × Note) × (List Entry × Note) → Mark × Mark
bare-marks m = (bare-mark m.0, bare-mark m.1)

is-mark : (x : TurnRank) → bare-mark (chronicle x, note x) ≡ mark x
is-mark x = ap (λ (h : List Local). (h, note x)) (bare-history x.node.value.kept (history x))

are-marks : (t : EndedTurn TurnRank) → bare-marks (marks chronicle note t) ≡ marks history note t
are-marks t = λ k. (is-mark t.taken k, is-mark t.given k)

all-marks : (ts : List (EndedTurn TurnRank)) → map bare-marks (map (marks chronicle note) ts) ≡ map (marks history note) ts
all-marks [] = refl
all-marks (t ∷ ts) = λ k. are-marks t k ∷ all-marks ts k

pub last-history : (w : HandView TurnRank) (r : ℕ) (x y : TurnRank) → LastTurn chronicle note w r (chronicle x, note x)
    (chronicle y, note y) → LastTurn history note w r (mark x) (mark y)
last-history w r x y last = record {
  slot = last.slot;
  slot_is = last.slot_is;
  turn_is = sym (all-marks last.slot.seen) ∙ (ap (map bare-marks) last.turn_is ∙ (λ k. (is-mark x k, is-mark y k) ∷ []));
}

-- ---- one turn
pub turned : (v u w : HandView TurnRank) (r : ℕ) (x y : TurnRank) → Took chronicle plate v r x u → w ≡ after_give chronicle u r x y →
    LastTurn chronicle note w r (chronicle x, note x) (chronicle y, note y) → Turned v w r (mark x) (mark y)
turned v u w r x y took given last =
    let alike : map without_busy_slot took.tried.slots ≡ map without_busy_slot v.slots =
    ap (λ (z : HandView TurnRank). z.slots) took.alike in
    let slots : w.slots ≡ adjusted took.tried.slots r (after_turn chronicle x y) = ap (λ (z : HandView TurnRank). z.slots) given
    ∙ ap (λ (z : HandView TurnRank). adjusted z.slots r (after_turn chronicle x y)) took.taken in
    let low : r < length took.tried.slots = (let k = within w.slots r last.slot last.slot_is in let a =
    ap (λ (l : List (SlotView
    TurnRank)). length l) slots in
    let b = adjusted_length
    took.tried.slots r (after_turn
    chronicle x y) in omega
    (arith, k, a, b)) in
    record {
      parts = ap (λ (z : HandView TurnRank). z.parts) given ∙ (ap (λ (z : HandView TurnRank). z.parts) took.taken
          ∙ ap (λ (z : HandView TurnRank). z.parts) took.alike);
      begins = λ s i t a b. (let z = at_map_back without_busy_slot took.tried.slots r (without_busy_slot s)
          (ap (λ (l : List (SlotView TurnRank)). get_elem? l r) alike
          ∙ at_map without_busy_slot v.slots r s a) in
          begins-history t.given x (took.found.follows z.0 i t z.1 (ap (λ (s : SlotView TurnRank). get_elem? s.seen i) z.2 ∙ b)));
      last = last-history w r x y last;
      mine = ap (λ (l : List (SlotView TurnRank)). places_in l r) slots
          ∙ (places-here took.tried.slots r x y low
          ∙ ap (λ ps. ps ++ numbers_from (length (history x)) (length (history y) - length (history x)))
          (sym (places-still took.tried.slots r) ∙ (ap (λ (l : List (SlotView TurnRank)). places_in l r) alike
          ∙ places-still v.slots r)));
      others = λ q apart. ap (λ (l : List (SlotView TurnRank)). get_elem? (map without_busy_slot l) q) slots
          ∙ (adjusted-else took.tried.slots r q (after_turn chronicle x y) apart
          ∙ ap (λ (l : List (SlotView TurnRank)). get_elem? l q) alike);
    }

-- ---- the last turns of a hand
last-same : (v w : HandView TurnRank) (q : ℕ) (a b : Mark) → get_elem? (map without_busy_slot w.slots) q ≡ get_elem?
    (map without_busy_slot v.slots) q → LastTurn history note v q a b → LastTurn history note w q a b
last-same v w q a b e h =
    let x = at_map_back without_busy_slot w.slots q (without_busy_slot h.slot) (e ∙ at_map without_busy_slot v.slots q h.slot h.slot_is) in
    record { slot = x.0; slot_is = x.1; turn_is = ap (λ (s : SlotView TurnRank). map (marks history note) s.seen) x.2 ∙ h.turn_is }

turned-else : (job : JobOf) (v w : HandView TurnRank) (r q : ℕ) (a b : Mark) → Turned v w r a b → q ≢ r → FoundIdle job v q →
    FoundIdle job w q
turned-else job v w r q a b t apart h = (h.0, h.1, last-same v w q h.0 h.1 (t.others q apart) h.2, h.3)

abbrev MadeIt : HandView TurnRank → HandView TurnRank → ℕ → LocalStep → Type 0
MadeIt v w r step = (a : Mark) × (b : Mark) × Turned v w r a b × Made step a b

abbrev FoundIt : JobOf → HandView TurnRank → HandView TurnRank → ℕ → Type 0
FoundIt job v w r = (a : Mark) × (b : Mark) × Turned v w r a b × IsIdle job r a b

-- a step leaves what is known of other ranks
pub made-else : (job : JobOf) (v w : HandView TurnRank) (r q : ℕ) (e : Option LocalStep) → IfSome e (MadeIt v w r) →
    IfNone e (FoundIt job v w r) → q ≢ r → FoundIdle job v q → FoundIdle job w q
made-else job v w r q None made found apart h = turned-else job v w r q found.0 found.1 found.2 apart h
made-else job v w r q (Some step) made found apart h = turned-else job v w r q made.0 made.1 made.2 apart h

-- and the hand's parts
pub same-parts : (job : JobOf) (v w : HandView TurnRank) (r : ℕ) (e : Option LocalStep) → IfSome e (MadeIt v w r) →
    IfNone e (FoundIt job v w r) → w.parts ≡ v.parts
same-parts job v w r None made found = found.2.parts
same-parts job v w r (Some step) made found = made.2.parts

-- and where none was made, the rank was found idle
pub none-idle : (job : JobOf) (v w : HandView TurnRank) (r : ℕ) (e : Option LocalStep) → e ≡ None → IfNone e (FoundIt job v w r) →
    FoundIdle job w r
none-idle job v w r e is found = let f : FoundIt job v w r = subst (λ (o : Option LocalStep). IfNone o (FoundIt job v w r)) is found in
    (f.0, f.1, f.2.last, f.3)

-- ---- a turn in which a step was made, or none
pub longer-step : (x y : TurnRank) (e : Option LocalStep) → IfSome e (λ step. Made step (mark x) (mark y)) → IfNone e (Idled x y) →
    IsPrefix (history x) (history y)
longer-step x y None made idled = (
  [],
  append-nil (history x)
      ∙ sym (ap (λ (m : NodeState). m.diary.locals) idled.missed.node ∙ ap (λ (m : NodeState). m.diary.locals) idled.flushed.node.same),
)
longer-step x y (Some step) made idled = (made.0 ∷ [], sym made.2)

pub may-end : (k r : ℕ) (v w : HandView TurnRank) (x y : TurnRank) → k ≡ r → Took chronicle plate v r x w → plate y ≡ plate x →
    IsPrefix (history x) (history y) → KeepsHandles x y → MayEnd k y w
may-end k r v w x y is took named grows keeps = record {
  before = v;
  taken = x;
  took = subst (λ k. Took chronicle plate v k x w) (sym is) took;
  named = named;
  grows = begins-chronicle x y grows keeps;
}

pub with-some : {P Q : LocalStep → Type 0} (e : Option LocalStep) → ((step : LocalStep) → P step → Q step) → IfSome e P → IfSome e Q
with-some None f h = tt
with-some (Some step) f h = f step h

pub with-none : {P Q : Type 0} (e : Option LocalStep) → (P → Q) → IfNone e P → IfNone e Q
with-none None f h = f h
with-none (Some step) f h = tt

-- ---- a turn that follows hints
places-busier : (l : List (SlotView TurnRank)) (k q : ℕ) → places_in (adjusted l k busier_slot) q ≡ places_in l q
places-busier [] k q = refl
places-busier (s ∷ l) zero zero = refl
places-busier (s ∷ l) zero (suc q) = refl
places-busier (s ∷ l) (suc k) zero = refl
places-busier (s ∷ l) (suc k) (suc q) = places-busier l k q

abbrev places-of : mathlib.Core.Option.Option (SlotView TurnRank) → List ℕ
places-of none = []
places-of (some s) = s.places

places-at : (l : List (SlotView TurnRank)) (q : ℕ) → places-of (get_elem? (map without_busy_slot l) q) ≡ places_in l q
places-at [] q = refl
places-at (s ∷ l) zero = refl
places-at (s ∷ l) (suc q) = places-at l q

no-more : (a b : Mark) → b.0 ≡ a.0 → length b.0 - length a.0 ≡ 0
no-more a b same = omega (arith, ap (λ (l : List Local). length l) same)

-- where the history is as it was, the hand added no place
stood : (v w : HandView TurnRank) (r : ℕ) (a b : Mark) → Turned v w r a b → b.0 ≡ a.0 → MadeNone v w
stood v w r a b t same q = ⊎_elim
    (λ (is : q ≡ r). ap (λ k. places w k) is
    ∙ (t.mine ∙ (ap (λ n. places v r ++ numbers_from (length a.0) n) (no-more a b same)
    ∙ (append-nil (places v r) ∙ ap (λ k. places v k) (sym is)))))
    (λ (apart : q ≢ r). sym (places-at w.slots q) ∙ (ap places-of (t.others q apart) ∙ places-at v.slots q)) (cases_eq q r)

pub followed : (e : Option LocalStep) (v w : HandView TurnRank) (r : ℕ) (x y : TurnRank) → Turned v w r (mark x) (mark y)
    → Stepped e (mark x) (mark y) → Followed e v w r
followed None v w r x y t same = stood v w r (mark x) (mark y) t same
followed (Some step) v w r x y t made = (mark x, mark y, t, made)

-- where the turn was another's
pub followed-busy : (v w : HandView TurnRank) (r : ℕ) → w ≡ after_busy v r → Followed None v w r
followed-busy v w r is = λ q. ap (λ (z : HandView TurnRank). places z q) is ∙ places-busier v.slots r q

-- ---- turns in which none was made
pub none-made : (job : JobOf) (v w : HandView TurnRank) (r : ℕ) (e : Option LocalStep) → e ≡ None → IfNone e (FoundIt job v w r) →
    MadeNone v w
none-made job v w r e is found =
    let f : FoundIt job v w r = subst (λ (o : Option LocalStep). IfNone o (FoundIt job v w r)) is found in stood v w r f.0 f.1 f.2 f.3.same

pub none-after : (u v w : HandView TurnRank) → MadeNone u v → MadeNone v w → MadeNone u w
none-after u v w f g q = g q ∙ f q
