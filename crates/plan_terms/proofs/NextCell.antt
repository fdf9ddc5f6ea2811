-- A cell from those before it, and one cell more.
use Rattle.std.proofs.Common.{ℕ, ◌+◌, ◌-◌, ◌*◌, ◌/◌, ◌≡◌, ◌≤◌, ◌<◌, List, [], ◌∷◌, ◌++◌, length, map, take, drop, replicate, Some, None}
use Rattle.std.proofs.Common.{true, false, cond, refl, ap, sym, subst, ◌∙◌, arith, eqb-true}
use Rattle.std.specs.Prelude.{◌==◌, ◌&&◌, nat_le, nat_lt}
use Rattle.std.specs.List.{All}
use Rattle.std.proofs.lemmas.List.{append-nil, drop_all, map-append, take_all}
use Rattle.std.proofs.lemmas.List.Elements.{All-from_get_or}
use Rattle.ptl_types.specs.declared.elements.AtomicOp.{AtomicOp}
use Rattle.ptl_types.specs.Elements.{repeated, starting}
use Rattle.ptl_types.specs.Operations.{bytes_of, start_value}
use Rattle.plan_core.specs.declared.Cell.{Cell}
use Rattle.plan_core.specs.Plan.{Plan, cell, in_links, link}
use Rattle.plan_core.specs.Values.{blank, initial, input_bytes, is_input, land_all, values}
use Rattle.plan_tables.proofs.Indexed.{all-below, all-pass}
use Rattle.plan_judge.proofs.values.Beginning.{is_there, of_blank, of_input}
use Rattle.plan_judge.proofs.values.CellByCell as cells
use Rattle.plan_terms.specs.declared.terms.term.Member.{Member}
use Rattle.plan_terms.specs.terms.Terms.{IsSolution, Keeps, Lists, Table, input_at}
use Rattle.plan_terms.specs.terms.Folds.{folds_bytes}
use Rattle.plan_terms.proofs.terms.Elements.{none_folds}
use Rattle.plan_terms.specs.Cells.{AreCells, AreInitial, AreZeros, ComesTo, IsNext, Suits, carried_from}

-- ---- the links
pub come_to : (p : Plan) (c : ℕ) (links : List ℕ) → links ≡ in_links p c → All (ComesTo p c) links
come_to p c links e =
    All-from_get_or (ComesTo p c) links 0
    (λ i h. record {
      known = all-below (λ l. (link p l).target == c) (length p.links) links e i h;
      target = eqb-true _ _ (all-pass (λ l. (link p l).target == c) (length p.links) links e i h);
    })

-- what suits more terms suits fewer
pub suits_before : (p : Plan) (count : ℕ) (t u : Table) (inputs : Lists) (V : ℕ → ℕ) → Keeps t u → Suits p count u inputs V
    → Suits p count t inputs V
suits_before p count t u inputs V keeps suits = record {
  many = suits.many;
  fits = suits.fits;
  solution = keeps.solution inputs V suits.solution;
}

-- ---- what a cell holds at the beginning
pub input_first : (p : Plan) (count : ℕ) (t : Table) (c ranks : ℕ) (k : Cell) (places : List ℕ) → ranks ≡ p.ranks → t.ranks ≡ p.ranks
    → k ≡ cell p c → (nat_le ranks c && nat_lt c (ranks + count * ranks)) ≡ true
    → ((inputs : Lists) (V : ℕ → ℕ) → IsSolution t inputs V → length (input_at t.ranks inputs (c - ranks)) ≡ k.length
    → map V places ≡ input_at t.ranks inputs (c - ranks))
    → AreInitial p count t c places
input_first p count t c ranks k places er et is test own inputs V suits =
    let there = is_there ranks count c test in
    let below : c - ranks < length inputs * p.ranks =
    subst (λ n. c - ranks < n * p.ranks) (sym suits.many) (subst (λ n. c - ranks < count * n) er (omega (arith, there.0, there.1))) in
    let same : input_at t.ranks inputs (c - ranks) ≡ input_bytes p inputs (c - ranks) = ap (λ n. input_at n inputs (c - ranks)) et in
    let at : p.ranks + (c - ranks) ≡ c =
    ap (λ n. n + (c - ranks)) (sym er) ∙ (let e : ranks + (c - ranks) ≡ c = omega (arith, there.0) in e) in
    let long : length (input_at t.ranks inputs (c - ranks)) ≡ k.length =
    ap length same ∙ suits.fits (c - ranks) below ∙ ap (λ n. (cell p n).length) at ∙ ap (λ (x : Cell). x.length) (sym is) in
    own inputs V suits.solution long ∙ same ∙ sym (of_input p inputs c count ranks er (sym suits.many) test)

pub blank_first : (p : Plan) (count : ℕ) (t : Table) (c ranks : ℕ) (k : Cell) (places : List ℕ) → ranks ≡ p.ranks → k ≡ cell p c
    → k.op ≡ None → (nat_le ranks c && nat_lt c (ranks + count * ranks)) ≡ false → AreZeros t places k.length
    → AreInitial p count t c places
blank_first p count t c ranks k places er is none test zeros inputs V suits =
    let e : blank k ≡ replicate k.length 0 = rw none refl in
    zeros inputs V suits.solution ∙ sym e ∙ sym (of_blank p inputs c count ranks k er (sym suits.many) is test)

pub folds_first : (p : Plan) (inputs : Lists) (V : ℕ → ℕ) (c n : ℕ) (k : Cell) (o : AtomicOp) → k ≡ cell p c → k.op ≡ Some o
    → is_input p inputs c ≡ false → n ≡ k.length / bytes_of k.ty → folds_bytes V o k.ty (replicate n []) ≡ initial p inputs c
folds_first p inputs V c n k o is op other many =
    let e : starting o k.ty k.length ≡ blank k = rw op refl in
    none_folds V o k.ty n
    ∙ ap (λ m. repeated (bytes_of k.ty) m (start_value o k.ty)) many
    ∙ e ∙ ap blank is
    ∙ sym (ap (λ b. cond b (input_bytes p inputs (c - p.ranks)) (blank (cell p c))) other)

-- ---- what it holds in the end
pub next_put : (p : Plan) (count : ℕ) (t : Table) (c : ℕ) (before : List (List ℕ)) (links old new : List ℕ) → links ≡ in_links p c
    → AreInitial p count t c old
    → ((V : ℕ → ℕ) → map V new ≡ land_all p (carried_from p (map (map V) before)) links (map V old))
    → IsNext p count t c before new
next_put p count t c before links old new is first put inputs V suits =
    let f = carried_from p (map (map V) before) in
    put V
    ∙ ap (λ (ls : List ℕ). land_all p f ls (map V old)) is
    ∙ ap (land_all p f (in_links p c)) (first inputs V suits)

pub next_folded : (p : Plan) (count : ℕ) (t u : Table) (c n : ℕ) (k : Cell) (o : AtomicOp) (before : List (List ℕ))
    (links places : List ℕ) (folds : List (List Member)) → links ≡ in_links p c → k ≡ cell p c → k.op ≡ Some o
    → ((inputs : Lists) → length inputs ≡ count → is_input p inputs c ≡ false) → n ≡ k.length / bytes_of k.ty → Keeps t u
    → ((inputs : Lists) (V : ℕ → ℕ) → IsSolution t inputs V → folds_bytes V o (cell p c).ty folds
    ≡ land_all p (carried_from p (map (map V) before)) links (folds_bytes V o (cell p c).ty (replicate n [])))
    → ((inputs : Lists) (V : ℕ → ℕ) → IsSolution u inputs V → map V places ≡ folds_bytes V o k.ty folds)
    → IsNext p count u c before places
next_folded p count t u c n k o before links places folds ls is op other many keeps landed are inputs V suits =
    let f = carried_from p (map (map V) before) in
    are inputs V suits.solution
    ∙ ap (λ (x : Cell). folds_bytes V o x.ty folds) is
    ∙ landed inputs V (keeps.solution inputs V suits.solution)
    ∙ ap (λ (xs : List ℕ). land_all p f xs (folds_bytes V o (cell p c).ty (replicate n []))) ls
    ∙ ap (λ (x : Cell). land_all p f (in_links p c) (folds_bytes V o x.ty (replicate n []))) (sym is)
    ∙ ap (land_all p f (in_links p c)) (folds_first p inputs V c n k o is op (other inputs suits.many) many)

-- what was lent is written back whole
pub whole_again : {X : Type 0} (n : ℕ) (new old : List X) → length new ≡ length old → length old ≤ n
    → take n (new ++ drop (length new) old) ≡ new
whole_again n new old same h =
    ap (λ rest. take n (new ++ rest)) (drop_all (length new) old (omega (arith, same)))
    ∙ ap (take n) (append-nil new)
    ∙ take_all n new (omega (arith, same, h))

-- one cell more
pub one_more : (p : Plan) (count : ℕ) (t u : Table) (c : ℕ) (before : List (List ℕ)) (places : List ℕ) → Keeps t u
    → AreCells p count t c before → IsNext p count u c before places → AreCells p count u (c + 1) (before ++ places ∷ [])
one_more p count t u c before places keeps so_far next inputs V suits =
    let done : map (map V) before ≡ values p inputs c = so_far inputs V (suits_before p count t u inputs V keeps suits) in
    map-append (map V) before (places ∷ [])
    ∙ cells.one_more p inputs c (map (map V) before) (map V places) done (next inputs V suits)

pub none_yet : (p : Plan) (count : ℕ) (t : Table) → AreCells p count t 0 []
none_yet p count t inputs V suits = refl
