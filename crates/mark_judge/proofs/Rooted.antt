-- The roots of cells, and which entries lead to them.
use Rattle.std.proofs.Common.{ℕ, Bool, true, false, ◌||◌, ◌≡◌, ◌+◌, ◌<◌, ◌≤◌, ◌==◌, List, [], ◌∷◌, ◌++◌, refl, ap, ap₂, ◌∙◌, sym}
use Rattle.std.proofs.Common.{subst, length, get_or, set, take, drop, inl, inr, arith, length-drop}
use Rattle.std.specs.List.{All, list_any}
use Rattle.std.proofs.lemmas.Bool.{cases_eq, cases_lt, ne_eqb}
use Rattle.std.proofs.lemmas.List.{get_or-drop, get_or-set_other, get_or-set_same, get_or-take, get_or_append_left, get_or_push}
use Rattle.std.proofs.lemmas.List.{length-take}
use Rattle.std.proofs.lemmas.List.Elements.{All-from_get_or}
use Rattle.mark_judge.specs.declared.entry_bits.Bits.{Bits}
use Rattle.mark_judge.specs.declared.entries.Entry.{Entry}
use Rattle.mark_judge.specs.Leading.{leads}
use Rattle.mark_judge.specs.Tables.{AreBegun, AreEntered, AreKept, AreReached, AreRoots, AreSources, entry_at, has_bit, no_bits, no_entry}
use Rattle.mark_judge.proofs.Chains.{Rising, from_below, leads_step}
use Rattle.mark_judge.proofs.Tests.{In-get_or, any_same, or-false}
use Rattle.plan_core.specs.Members.{In}
use Rattle.plan_core.specs.Plan.{Plan, in_links, link}
use Rattle.plan_core.proofs.Links.{in_links-In}

-- ---- in which cells an entry lies
pub entered_kept : (xs : List Bool) (i c : ℕ) → i < length xs → get_or xs c false ≡ true → get_or (set xs i true) c false ≡ true
entered_kept xs i c h t =
    elim (cases_eq c i) [
      | inl e ↦ ap (λ n. get_or (set xs i true) n false) e ∙ get_or-set_same xs i true false h
      | inr ne ↦ get_or-set_other xs i c true false ne ∙ t
    ]

pub entered_more : (es : List Entry) (cells k : ℕ) (old new : List Bool) → length old ≡ cells → AreEntered es k cells old
    → ((entry_at es k).cell < length old → get_or new (entry_at es k).cell false ≡ true)
    → ((c : ℕ) → get_or old c false ≡ true → get_or new c false ≡ true) → AreEntered es (k + 1) cells new
entered_more es cells k old new many before told kept j h low =
    elim (cases_eq j k) [
      | inl e ↦ ap (λ i. get_or new (entry_at es i).cell false) e
          ∙ told (subst (λ n. (entry_at es k).cell < n) (sym many) (subst (λ i. (entry_at es i).cell < cells) e low))
      | inr ne ↦ kept (entry_at es j).cell (before j (omega (arith, h, ne)) low)
    ]

-- ---- one root more
pub root_more : (p : Plan) (n : ℕ) (roots : List ℕ) (r : ℕ) → length roots ≡ n → AreRoots p n roots → r ≤ n
    → (r < n → get_or roots r 0 ≡ r) → (r < n → (b : ℕ) → (b ≡ n → ⊥) → (b < n → get_or roots b 0 ≡ b) → leads p b n ≡ leads p b r)
    → AreRoots p (n + 1) (roots ++ r ∷ [])
root_more p n roots r many before most own leading = record {
  low = λ c h. elim (cases_eq c n) [
    | inl e ↦ subst (λ v. v ≤ c) (sym (last c e)) (omega (arith, most, e))
    | inr ne ↦ (let less : c < n = omega (arith, h, ne) in subst (λ v. v ≤ c) (sym (other c less)) (before.low c less))
  ];
  own = λ c h. elim (cases_eq c n) [
    | inl e ↦ ap (λ v. get_or all v 0) (last c e) ∙ itself ∙ sym (last c e)
    | inr ne ↦ (let less : c < n = omega (arith, h, ne) in
        let low = before.low c less in
        ap (λ v. get_or all v 0) (other c less) ∙ other (get_or roots c 0) (omega (arith, low, less)) ∙ before.own c less
        ∙ sym (other c less))
  ];
  same = λ b c h k. elim (cases_eq c n) [
    | inl e ↦ ap (leads p b) e ∙ to_last b k ∙ ap (leads p b) (sym (last c e))
    | inr ne ↦ (let less : c < n = omega (arith, h, ne) in
        before.same b c less (λ low. sym (other b low) ∙ k (omega (arith, low))) ∙ ap (leads p b) (sym (other c less)))
  ];
}
  where
    all : List ℕ
    all = roots ++ r ∷ []

    other : (c : ℕ) → c < n → get_or all c 0 ≡ get_or roots c 0
    other c h = get_or_append_left roots (r ∷ []) 0 c (omega (arith, many, h))

    last : (c : ℕ) → c ≡ n → get_or all c 0 ≡ r
    last c e = get_or_push roots r 0 c (many ∙ sym e)

    itself : get_or all r 0 ≡ r
    itself =
        elim (cases_lt r n) [
          | inl h ↦ other r h ∙ own h
          | inr h ↦ last r (omega (arith, h, most))
        ]

    to_last : (b : ℕ) → (b < n + 1 → get_or all b 0 ≡ b) → leads p b n ≡ leads p b r
    to_last b k =
        elim (cases_lt r n) [
          | inl h ↦ leading h b
              (λ e. let s = last b e in let q = k (omega (arith, e)) in absurd (omega (arith, h, e, s, q)))
              (λ low. sym (other b low) ∙ k (omega (arith, low)))
          | inr h ↦ ap (leads p b) (let e : n ≡ r = omega (arith, h, most) in e)
        ]

-- a cell that is its own
pub root_itself : (p : Plan) (n : ℕ) (roots : List ℕ) → length roots ≡ n → AreRoots p n roots → AreRoots p (n + 1) (roots ++ n ∷ [])
root_itself p n roots many before =
    root_more p n roots n many before (omega arith) (λ h. absurd (omega (arith, h))) (λ h. absurd (omega (arith, h)))

-- to which one link comes
pub root_before : (p : Plan) → Rising p → (n : ℕ) (roots links : List ℕ) (s r : ℕ) → length roots ≡ n → AreRoots p n roots
    → links ≡ in_links p n → length links ≡ 1 → s ≡ (link p (get_or links 0 0)).source → r ≡ get_or roots s 0
    → AreRoots p (n + 1) (roots ++ r ∷ [])
root_before p up n roots links s r many before are one from is =
    root_more p n roots r many before (omega (arith, low, below, is))
    (λ h. ap (λ v. get_or roots v 0) is ∙ before.own s below ∙ sym is)
    (λ h b ne k. leads_step p up b n
    ∙ ap₂ (λ x y. x || y) (ne_eqb b n ne)
    (ap (list_any (λ l. leads p b (link p l).source)) (sym are ∙ single links one)
    ∙ or-false (leads p b (link p (get_or links 0 0)).source))
    ∙ ap (leads p b) (sym from)
    ∙ before.same b s below k
    ∙ ap (leads p b) (sym is))
  where
    single : (xs : List ℕ) → length xs ≡ 1 → xs ≡ get_or xs 0 0 ∷ []
    single [] e = absurd (omega (arith, e))
    single (x ∷ []) e = refl
    single (x ∷ y ∷ ys) e = absurd (omega (arith, e))

    below : s < n
    below =
        let first = subst (λ xs. In (get_or links 0 0) xs) are (In-get_or links 0 0 (omega (arith, one))) in
        let u = from_below p up n (get_or links 0 0) first in
        omega (arith, u, from)

    low : get_or roots s 0 ≤ s
    low = before.low s below

-- ---- entries in roots
pub kept_take : (es some : List Entry) (m n : ℕ) (roots : List ℕ) → some ≡ take m es → AreKept es n roots → AreKept some n roots
kept_take es some m n roots is kept k h low =
    let long = length-take m es in
    let some_long = ap length is in
    let q : entry_at some k ≡ entry_at es k =
    ap (λ xs. get_or xs k no_entry) is ∙ get_or-take m es k no_entry (omega (arith, h, long, some_long)) in
    ap (λ (e : Entry). get_or roots e.cell 0) q
    ∙ kept k (omega (arith, h, long, some_long)) (subst (λ (e : Entry). e.cell < n) q low)
    ∙ ap (λ (e : Entry). e.cell) (sym q)

pub kept_drop : (es rest : List Entry) (m n : ℕ) (roots : List ℕ) → rest ≡ drop m es → AreKept es n roots → AreKept rest n roots
kept_drop es rest m n roots is kept k h low =
    let long = length-drop m es in
    let rest_long = ap length is in
    let q : entry_at rest k ≡ entry_at es (m + k) = ap (λ xs. get_or xs k no_entry) is ∙ get_or-drop m es k no_entry in
    ap (λ (e : Entry). get_or roots e.cell 0) q
    ∙ kept (m + k) (omega (arith, h, long, rest_long)) (subst (λ (e : Entry). e.cell < n) q low)
    ∙ ap (λ (e : Entry). e.cell) (sym q)

-- ---- the root of a link's source
pub sources_low : (p : Plan) → Rising p → (roots : List ℕ) → AreRoots p (length p.cells) roots → (sources : List ℕ)
    → AreSources p roots (length p.links) sources → (c : ℕ) → c < length p.cells → (links : List ℕ) → links ≡ in_links p c → (n : ℕ)
    → length p.cells ≡ n → All (λ l. get_or sources l 0 < n) links
sources_low p up roots are sources told c hc links is n many =
    All-from_get_or (λ l. get_or sources l 0 < n) links 0
    (λ i h. let l = get_or links i 0 in
    let at = subst (λ xs. In l xs) is (In-get_or links i 0 h) in
    let below = from_below p up c l at in
    let low = are.low (link p l).source (omega (arith, below, hc)) in
    let e = told l (in_links-In p c l at).0 in
    omega (arith, below, low, e, hc, many))

-- ---- which entries lead to a root
-- the words of the roots below c tell which lead there, those of the others which lie there
abbrev pub AreReachedTo : Plan → List Entry → List ℕ → ℕ → List Bits → Type 0
AreReachedTo p es roots c words =
    ((d k : ℕ) → d < c → get_or roots d 0 ≡ d → k < length es → has_bit (get_or words d no_bits) k ≡ leads p (entry_at es k).cell d)
    × ((d k : ℕ) → c ≤ d → d < length p.cells → k < length es → has_bit (get_or words d no_bits) k ≡ ((entry_at es k).cell == d))

module _ (p : Plan) (up : Rising p) (es : List Entry) (roots : List ℕ) (are : AreRoots p (length p.cells) roots)
    (kept : AreKept es (length p.cells) roots) where
  -- the word of the root of a link's source
  of_source : (sources : List ℕ) → AreSources p roots (length p.links) sources → (c : ℕ) → c < length p.cells → (words : List Bits)
      → AreReachedTo p es roots c words → (k : ℕ) → k < length es → (l : ℕ) → In l (in_links p c)
      → has_bit (get_or words (get_or sources l 0) no_bits) k ≡ leads p (entry_at es k).cell (link p l).source
  of_source sources told c hc words before k low l i =
      let s = (link p l).source in
      let below = from_below p up c l i in
      let inside : s < length p.cells = omega (arith, below, hc) in
      let most = are.low s inside in
      ap (λ n. has_bit (get_or words n no_bits) k) (told l (in_links-In p c l i).0)
      ∙ before.0 (get_or roots s 0) k (omega (arith, most, below)) (are.own s inside) low
      ∙ sym (are.same (entry_at es k).cell s inside (kept k low))

  pub reached_more : (sources : List ℕ) → AreSources p roots (length p.links) sources → (c : ℕ) → c < length p.cells
      → (old new : List Bits) → AreReachedTo p es roots c old
      → ((d : ℕ) → (d ≡ c → ⊥) → get_or new d no_bits ≡ get_or old d no_bits)
      → (get_or roots c 0 ≡ c → (k : ℕ) → has_bit (get_or new c no_bits) k ≡ (has_bit (get_or old c no_bits) k
      || list_any (λ l. has_bit (get_or old (get_or sources l 0) no_bits) k) (in_links p c)))
      → AreReachedTo p es roots (c + 1) new
  reached_more sources told c hc old new before others here = (
    (λ d k h own low. elim (cases_eq d c) [
      | inl e ↦ ap (λ i. has_bit (get_or new i no_bits) k) e
          ∙ here (ap (λ i. get_or roots i 0) (sym e) ∙ own ∙ e) k
          ∙ ap₂ (λ a b. a || b) (before.1 c k (omega arith) hc low)
          (any_same (λ l. has_bit (get_or old (get_or sources l 0) no_bits) k) (λ l. leads p (entry_at es k).cell (link p l).source)
          (in_links p c) (λ l i. of_source sources told c hc old before k low l i))
          ∙ sym (leads_step p up (entry_at es k).cell c)
          ∙ ap (leads p (entry_at es k).cell) (sym e)
      | inr ne ↦ ap (λ (w : Bits). has_bit w k) (others d ne) ∙ before.0 d k (omega (arith, h, ne)) own low
    ]),
    (λ d k le inside low. ap (λ (w : Bits). has_bit w k) (others d (λ e. absurd (omega (arith, le, e))))
        ∙ before.1 d k (omega (arith, le)) inside low),
  )

  pub reached_none : (words : List Bits) → AreBegun es (length p.cells) words → AreReachedTo p es roots 0 words
  reached_none words begun = ((λ d k h own low. absurd (omega (arith, h))), (λ d k le inside low. begun d k inside low))

  pub reached_all : (n : ℕ) (words : List Bits) → length p.cells ≤ n → AreReachedTo p es roots n words → AreReached p es roots words
  reached_all n words all reached c k h low =
      let most = are.low c h in
      reached.0 (get_or roots c 0) k (omega (arith, most, h, all)) (are.own c h) low
      ∙ sym (are.same (entry_at es k).cell c h (kept k low))
