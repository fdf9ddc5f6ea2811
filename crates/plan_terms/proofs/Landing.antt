-- Links one after the other, as far as a loop has come.
use Rattle.std.proofs.Common.{ℕ, suc, ◌+◌, ◌*◌, ◌%◌, ◌≡◌, ◌≤◌, ◌<◌, List, [], ◌∷◌, ◌++◌, length, map, take, drop, get_or}
use Rattle.std.proofs.Common.{Some}
use Rattle.std.proofs.Common.{refl, ap, ap₂, sym, subst, ◌∙◌, arith, set, get_or-set_same, get_or-set_other, inl, inr}
use Rattle.std.specs.List.{flat_map}
use Rattle.std.proofs.lemmas.Bool.{cases_lt}
use Rattle.std.proofs.lemmas.List.{append-nil, length-map, map-append, take_more}
use Rattle.std.proofs.lemmas.List.Concat.{flat_map-append}
use Rattle.std.proofs.Math.Nat.{mul-le-mul_right, mul-mod_left}
use Rattle.number_lists.specs.Numbers.{from_to}
use Rattle.ptl_types.specs.declared.elements.AtomicOp.{AtomicOp}
use Rattle.ptl_types.specs.declared.elements.ElemType.{ElemType}
use Rattle.ptl_types.specs.Elements.{combined, little_endian, part, pattern}
use Rattle.ptl_types.specs.Operations.{bytes_of, op}
use Rattle.plan_core.specs.declared.Cell.{Cell}
use Rattle.plan_core.specs.declared.Link.{Link}
use Rattle.plan_core.specs.declared.LinkKind.TheVariants.{Atomic}
use Rattle.plan_core.specs.Plan.{Plan, cell, link}
use Rattle.plan_core.specs.Values.{joined, land, land_all, land_as}
use Rattle.plan_judge.proofs.values.Landed.{atomic, ends, goes_on}
use Rattle.plan_terms.specs.declared.terms.term.Member.{Member}
use Rattle.plan_terms.specs.terms.Terms.{IsSolution, Keeps, Lists, Table, fold_of, word_at}
use Rattle.plan_terms.specs.terms.Folds.{AreCombined, AreFoldsBytes, IsCombined, IsWordOf, folds_bytes}
use Rattle.plan_terms.specs.Cells.{ComesTo, carried_from}
use Rattle.plan_terms.proofs.terms.Elements.{folded_elements, length_folds}
use Rattle.plan_terms.proofs.terms.Runs.{get-map, map-part}

-- ---- folds, the first i of them
pub record AreFoldedTo (t : Table) (o : AtomicOp) (ty : ElemType) (old new : List (List Member)) (places : List ℕ) (i : ℕ) : Type 0 where
  pub done : (inputs : Lists) (V : ℕ → ℕ) → IsSolution t inputs V → (j : ℕ) → j < i
      → fold_of V o ty (get_or new j [])
      ≡ op o ty (fold_of V o ty (get_or old j [])) (pattern (map V (part (j * bytes_of ty) (bytes_of ty) places)))
  pub left : (j : ℕ) → i ≤ j → get_or new j [] ≡ get_or old j []

pub none_folded : (t : Table) (o : AtomicOp) (ty : ElemType) (old : List (List Member)) (places : List ℕ)
    → AreFoldedTo t o ty old old places 0
none_folded t o ty old places = record {
  done = λ inputs V solution j h. absurd (omega (arith, h));
  left = λ j h. refl;
}

-- one fold more, by the word that was found for its element
pub one_folded : (t u v : Table) (o : AtomicOp) (ty : ElemType) (old now : List (List Member)) (places : List ℕ) (i s : ℕ)
    (fold : List Member) → i < length now → AreFoldedTo t o ty old now places i → Keeps t u → Keeps u v
    → length (part (i * bytes_of ty) (bytes_of ty) places) ≡ bytes_of ty → IsWordOf u s (part (i * bytes_of ty) (bytes_of ty) places)
    → IsCombined v o ty (get_or now i []) fold s → AreFoldedTo v o ty old (set now i fold) places (i + 1)
one_folded t u v o ty old now places i s fold h so_far more last long word combined = record {
  done = λ inputs V solution j l.
      let at_u = last.solution inputs V solution in
      elim (cases_lt j i) [
        | inl k ↦
            let other : j ≡ i → ⊥ = λ e. omega (arith, e, k) in
            ap (fold_of V o ty) (get_or-set_other now i j fold [] other) ∙ so_far.done inputs V (more.solution inputs V at_u) j k
        | inr k ↦
            let e : j ≡ i = omega (arith, k, l) in
            let x : word_at V (bytes_of ty) s ≡ pattern (map V (part (i * bytes_of ty) (bytes_of ty) places)) =
            ap (λ n. word_at V n s) (sym long) ∙ word inputs V at_u in
            subst (λ k. fold_of V o ty (get_or (set now i fold) k []) ≡ op o ty (fold_of V o ty (get_or old k []))
            (pattern (map V (part (k * bytes_of ty) (bytes_of ty) places)))) (sym e)
            (ap (fold_of V o ty) (get_or-set_same now i fold [] h)
            ∙ combined inputs V solution
            ∙ ap₂ (λ (ms : List Member) y. op o ty (fold_of V o ty ms) y) (so_far.left i (omega arith)) x)
      ];
  left = λ j l.
      let other : j ≡ i → ⊥ = λ e. omega (arith, e, l) in
      get_or-set_other now i j fold [] other ∙ so_far.left j (omega (arith, l));
}

-- an element lies within
pub element_within : (i n w all : ℕ) → i < n → all ≡ n * w → i * w + w ≤ all
element_within i n w all h e =
    let m : suc i * w ≤ n * w = mul-le-mul_right w (let z : suc i ≤ n = omega (arith, h) in z) in
    let d : suc i * w ≡ i * w + w = grind arith in
    omega (arith, m, d, e)

pub all_folded : (t : Table) (o : AtomicOp) (ty : ElemType) (old new : List (List Member)) (places : List ℕ) (i : ℕ) → length old ≤ i
    → length new ≡ length old → AreFoldedTo t o ty old new places i → AreCombined t o ty old new places
all_folded t o ty old new places i h many all inputs V solution =
    folded_elements V o ty old new places many (λ j l. all.done inputs V solution j (omega (arith, h, l)))

-- ---- links that are atomics
pub record AreLandedTo (t : Table) (p : Plan) (o : AtomicOp) (c : ℕ) (before : List (List ℕ)) (links rest : List ℕ)
    (old new : List (List Member)) : Type 0 where
  pub same : (inputs : Lists) (V : ℕ → ℕ) → IsSolution t inputs V
      → land_all p (carried_from p (map (map V) before)) links (folds_bytes V o (cell p c).ty old)
      ≡ land_all p (carried_from p (map (map V) before)) rest (folds_bytes V o (cell p c).ty new)

-- ---- links that are puts
pub record ArePutTo (p : Plan) (before : List (List ℕ)) (links rest : List ℕ) (old new : List ℕ) : Type 0 where
  pub same : (V : ℕ → ℕ) → land_all p (carried_from p (map (map V) before)) links (map V old)
      ≡ land_all p (carried_from p (map (map V) before)) rest (map V new)

-- what a link carries, where these places hold it
carried-there : (V : ℕ → ℕ) (p : Plan) (before : List (List ℕ)) (l : ℕ)
    → map V (part (link p l).source_offset (link p l).length (get_or before (link p l).source [])) ≡ carried_from p (map (map V) before) l
carried-there V p before l =
    map-part V (link p l).source_offset (link p l).length (get_or before (link p l).source [])
    ∙ ap (part (link p l).source_offset (link p l).length) (sym (get-map V before (link p l).source))

-- what a link does, by what is said of its kind and its target
pub lands : (V : ℕ → ℕ) (p : Plan) (before : List (List ℕ)) (l c : ℕ) (k : Link) (x : Cell) (old new : List ℕ) → k ≡ link p l
    → x ≡ cell p c → (link p l).target ≡ c
    → new ≡ land_as k.kind x k.target_offset (map V (part k.source_offset k.length (get_or before k.source []))) old
    → new ≡ land p l (carried_from p (map (map V) before) l) old
lands V p before l c k x old new is at target e =
    e
    ∙ ap (λ (j : Link). land_as j.kind x j.target_offset (map V (part j.source_offset j.length (get_or before j.source []))) old) is
    ∙ ap (λ (y : Cell). land_as (link p l).kind y (link p l).target_offset
    (map V (part (link p l).source_offset (link p l).length (get_or before (link p l).source []))) old)
    (at ∙ ap (cell p) (sym target))
    ∙ ap (λ (list : List ℕ). land p l list old) (carried-there V p before l)

pub more_put : (p : Plan) (before : List (List ℕ)) (links old now new : List ℕ) (i c : ℕ) (k : Link) → i < length links
    → ComesTo p c (get_or links i 0) → k ≡ link p (get_or links i 0) → ArePutTo p before links (drop i links) old now
    → ((V : ℕ → ℕ) (x : Cell) → map V new ≡ land_as k.kind x k.target_offset
    (map V (part k.source_offset k.length (get_or before k.source []))) (map V now))
    → ArePutTo p before links (drop (i + 1) links) old new
more_put p before links old now new i c k h comes is so_far e = record {
  same = λ V.
      goes_on p (carried_from p (map (map V) before)) links (map V now) (map V new)
      (land_all p (carried_from p (map (map V) before)) links (map V old)) i h (so_far.same V)
      (lands V p before (get_or links i 0) c k (cell p c) (map V now) (map V new) is refl comes.target (e V (cell p c)));
}

pub all_put : (p : Plan) (before : List (List ℕ)) (links old new : List ℕ) (i : ℕ) → length links ≤ i
    → ArePutTo p before links (drop i links) old new → (V : ℕ → ℕ)
    → map V new ≡ land_all p (carried_from p (map (map V) before)) links (map V old)
all_put p before links old new i h all V =
    ends p (carried_from p (map (map V) before)) links (map V new) (land_all p (carried_from p (map (map V) before)) links (map V old)) i h
    (all.same V)

pub more_landed : (t u : Table) (p : Plan) (o : AtomicOp) (c : ℕ) (before : List (List ℕ)) (links : List ℕ)
    (old now new : List (List Member)) (i : ℕ) (k : Link) (x : Cell) → i < length links → ComesTo p c (get_or links i 0)
    → k ≡ link p (get_or links i 0) → x ≡ cell p c → Keeps t u → AreLandedTo t p o c before links (drop i links) old now
    → ((inputs : Lists) (V : ℕ → ℕ) → IsSolution u inputs V → folds_bytes V o x.ty new ≡ land_as k.kind x k.target_offset
    (map V (part k.source_offset k.length (get_or before k.source []))) (folds_bytes V o x.ty now))
    → AreLandedTo u p o c before links (drop (i + 1) links) old new
more_landed t u p o c before links old now new i k x h comes is at keeps so_far e = record {
  same = λ inputs V solution.
      let type : x.ty ≡ (cell p c).ty = ap (λ (y : Cell). y.ty) at in
      let e' : folds_bytes V o (cell p c).ty new ≡ land_as k.kind x k.target_offset
      (map V (part k.source_offset k.length (get_or before k.source []))) (folds_bytes V o (cell p c).ty now) =
      subst (λ y. folds_bytes V o y new ≡ land_as k.kind x k.target_offset
      (map V (part k.source_offset k.length (get_or before k.source []))) (folds_bytes V o y now)) type (e inputs V solution) in
      goes_on p (carried_from p (map (map V) before)) links (folds_bytes V o (cell p c).ty now) (folds_bytes V o (cell p c).ty new)
      (land_all p (carried_from p (map (map V) before)) links (folds_bytes V o (cell p c).ty old)) i h
      (so_far.same inputs V (keeps.solution inputs V solution))
      (lands V p before (get_or links i 0) c k x (folds_bytes V o (cell p c).ty now) (folds_bytes V o (cell p c).ty new) is at
      comes.target e');
}

pub all_landed : (t : Table) (p : Plan) (o : AtomicOp) (c : ℕ) (before : List (List ℕ)) (links : List ℕ) (old new : List (List Member))
    (i : ℕ) → length links ≤ i → AreLandedTo t p o c before links (drop i links) old new → (inputs : Lists) (V : ℕ → ℕ)
    → IsSolution t inputs V → folds_bytes V o (cell p c).ty new
    ≡ land_all p (carried_from p (map (map V) before)) links (folds_bytes V o (cell p c).ty old)
all_landed t p o c before links old new i h all inputs V solution =
    ends p (carried_from p (map (map V) before)) links (folds_bytes V o (cell p c).ty new)
    (land_all p (carried_from p (map (map V) before)) links (folds_bytes V o (cell p c).ty old)) i h (all.same inputs V solution)

-- an atomic over the whole cell
pub lands_atomic : (t : Table) (o : AtomicOp) (x : Cell) (at : ℕ) (places : List ℕ) (old new : List (List Member)) → x.op ≡ Some o
    → at ≡ 0 → length places ≡ length old * bytes_of x.ty → AreCombined t o x.ty old new places → (inputs : Lists) (V : ℕ → ℕ)
    → IsSolution t inputs V → folds_bytes V o x.ty new ≡ land_as Atomic x at (map V places) (folds_bytes V o x.ty old)
lands_atomic t o x at places old new is begins long done inputs V solution =
    let n : length (folds_bytes V o x.ty old) ≡ length old * bytes_of x.ty = length_folds V o x.ty old in
    let m : length (map V places) ≡ length (folds_bytes V o x.ty old) = length-map places V ∙ long ∙ sym n in
    let whole : length (folds_bytes V o x.ty old) % bytes_of x.ty ≡ 0 =
    ap (λ k. k % bytes_of x.ty) n ∙ mul-mod_left (length old) (bytes_of x.ty) in
    atomic x at (map V places) (folds_bytes V o x.ty old) (folds_bytes V o x.ty new) begins m whole
    (let joins : combined o x.ty (folds_bytes V o x.ty old) (map V places) ≡ joined x (folds_bytes V o x.ty old) (map V places) =
    rw is refl in done inputs V solution ∙ joins)

-- by what is said of the link
pub atomic_landed : (t : Table) (o : AtomicOp) (k : Link) (x : Cell) (list bytes : List ℕ) (n : ℕ) (old new : List (List Member))
    → x.op ≡ Some o → k.kind ≡ Atomic → k.target_offset ≡ 0 → length list ≡ n * bytes_of x.ty → n ≡ length old → list ≡ bytes
    → AreCombined t o x.ty old new list → (inputs : Lists) (V : ℕ → ℕ) → IsSolution t inputs V
    → folds_bytes V o x.ty new ≡ land_as k.kind x k.target_offset (map V bytes) (folds_bytes V o x.ty old)
atomic_landed t o k x list bytes n old new is kind begins long many carries done inputs V solution =
    lands_atomic t o x k.target_offset list old new is begins (long ∙ ap (λ m. m * bytes_of x.ty) many) done inputs V solution
    ∙ ap (λ (bs : List ℕ). land_as Atomic x k.target_offset (map V bs) (folds_bytes V o x.ty old)) carries
    ∙ ap (λ d. land_as d x k.target_offset (map V bytes) (folds_bytes V o x.ty old)) (sym kind)

-- ---- the places of folds
pub record ArePlacesOf (t : Table) (o : AtomicOp) (ty : ElemType) (places : List ℕ) (folds : List (List Member)) : Type 0 where
  pub same : (inputs : Lists) (V : ℕ → ℕ) → IsSolution t inputs V → map V places ≡ folds_bytes V o ty folds

pub more_places : (t u : Table) (o : AtomicOp) (ty : ElemType) (places : List ℕ) (folds : List (List Member)) (i s : ℕ)
    → i < length folds → ArePlacesOf t o ty places (take i folds) → Keeps t u → AreFoldsBytes u o ty s (get_or folds i [])
    → ArePlacesOf u o ty (places ++ from_to s (bytes_of ty)) (take (i + 1) folds)
more_places t u o ty places folds i s h so_far keeps bytes = record {
  same = λ inputs V solution.
      let f : List Member → List ℕ = λ ms. little_endian (bytes_of ty) (fold_of V o ty ms) in
      map-append V places (from_to s (bytes_of ty))
      ∙ ap₂ (λ (a b : List ℕ). a ++ b) (so_far.same inputs V (keeps.solution inputs V solution))
      (bytes inputs V solution ∙ sym (append-nil (f (get_or folds i []))))
      ∙ sym (flat_map-append f (take i folds) (get_or folds i [] ∷ []))
      ∙ ap (flat_map f) (sym (take_more folds i [] h));
}
