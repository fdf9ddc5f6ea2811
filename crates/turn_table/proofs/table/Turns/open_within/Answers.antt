use Rattle.std.proofs.Common.{◌≡◌, ◌<◌, [], ℕ, List, map, replicate, length, ap, ◌∙◌, sym, subst, Some, arith}
use Rattle.std.proofs.lemmas.List.{length-map}
use Rattle.std.specs.Prelude.{Option}
use lib.ListN.{get_elem?}
use Rattle.atomic_table.specs.Table.{opening}
use Rattle.turn_table.specs.Views.{first_view}
use Rattle.turn_table.specs.Rules.{KeepsTurns}
use Rattle.turn_table.proofs.Whole.{opens, begins_with, all_at}
use Rattle.turn_table.proofs.Keeping.{keeps_new}
use Rattle.turn_table.proofs.table.Turns.open_within.Goals as goal

zeros_of : (l : List ℕ) (m n : ℕ) → l ≡ replicate m 0 → m ≡ n → l ≡ replicate n 0
zeros_of l m n is e = is ∙ ap (λ (k : ℕ). replicate k 0) e

pub new-opened-requires : goal.new-opened-requires
new-opened-requires g c =
    let X : Type 0 = g.row.T.Denot in
    let ks : List X = c.of-key.result.value.items in
    let vs : List X = c.args.values.items in
    let e : ks ≡ vs = ap (λ v. v.items) c.of-key.ensures in
    let some_value : 0 < length ks = omega (arith, ap (λ (l : List X). length l) e, c.requires.values) in
    let d = begins_with ks some_value in
    let slots : c.in_ok-slots.slots.items ≡ map Some ks = c.in_ok-slots.ensures ∙ ap (λ (l : List X). map Some l) (sym e) in
    let count : c.len-count.result ≡ length ks = omega (arith, ap (λ (l : List X). length l) e, c.len-count.ensures) in
    let words : c.as_slice.result.now ≡ replicate (length ks) 0 = c.as_slice.ensures.value
    ∙ (c.in_ok-words.ensures.items_if_clones_equal (λ y q. q) ∙ ap (λ (n : ℕ). replicate n 0) count) in
    subst (λ (y : List ℕ × List (Option X)). KeepsTurns g.T.Past.past g.T.Past.name ks (opening y.0 y.1 (first_view ks)))
    (λ i. (sym words i, sym slots i))
    (opens g.T.Past.past g.T.Past.name ks d.0 d.1 d.2 (λ k x q. all_at (λ (x : X). g.T.Past.past x ≡ []) vs c.requires.empty k x
    (ap (λ (l : List X). get_elem? l k) (sym e) ∙ q)))

pub invariant_of-first : goal.invariant_of-first
invariant_of-first g c =
    let X : Type 0 = g.row.T.Denot in
    let ks : List X = c.of-key.result.value.items in
    let vs : List X = c.args.values.items in
    let same : length ks ≡ length vs = ap (λ v. length v.items) c.of-key.ensures in
    let e = c.in-Ok.ensures.ok in
    let long : length c.in_ok-slots.slots.items ≡ length vs = ap (λ (l : List (Option X)). length l) c.in_ok-slots.ensures
    ∙ simp length-map in
    let slots = ap (λ t. t.slots) e.2 in
    let count : c.len-count.result ≡ c.in-Ok.seat.table_id.slots = omega (arith, c.len-count.ensures, long, e.1, slots) in
    keeps_new g.T.Past.past _ _ ks _ _ _ _ (omega (arith, ap (λ m. m.0.parts) e.4)) (ap (λ m. m.0.turn) e.4) (ap (λ m. m.0.slots) e.4)
    (ap (λ m. m.0.start) e.4) (ap (λ m. m.1) e.4) (omega (arith, same, long, e.1, slots))
    c.in_ok-room.ensures.items (omega (arith, c.in_ok-room.ensures.capacity, count))
    (zeros_of _ _ _ (c.in_ok-from_elem.ensures.items_if_clones_equal (λ y q. q)) count)
    (zeros_of _ _ _ (c.in_ok-from_elem-2.ensures.items_if_clones_equal (λ y q. q)) count)
