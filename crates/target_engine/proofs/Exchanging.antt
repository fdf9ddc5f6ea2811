-- What is delivered lies in the entry's part, and comes in whole elements.
use Rattle.std.proofs.Common.{◌≡◌, ℕ, zero, ◌+◌, ◌-◌, ◌*◌, ◌/◌, ◌%◌, ◌<◌, ◌≤◌, ◌^◌, nat_eq, nat_lt, ◌⊎◌, Bool, true, false, List, length}
use Rattle.std.proofs.Common.{refl, ap, sym, ◌∙◌, arith, inl, inr, if◌then◌else◌, min, subst}
use Rattle.std.proofs.Math.Nat.{div-add-mod', mul-mod_left, mod-eq_of_lt, div_self, zero-div}
use Rattle.std.proofs.Math.Seq.{take-append_seam}
use Rattle.std.proofs.lemmas.List.{append-nil, take_all, length-take}
use Rattle.std.proofs.lemmas.Bool.Decides.{nat_tests}
use Rattle.ptl_types.specs.declared.headers.Header.{Header}
use Rattle.ptl_types.specs.declared.headers.MessageKind.{MessageKind}
use Rattle.ptl_types.specs.declared.elements.ElemType.{ElemType}
use Rattle.ptl_types.specs.declared.elements.AtomicOp.{AtomicOp}
use Rattle.ptl_types.specs.declared.elements.SwapOp.{SwapOp}
use Rattle.ptl_types.specs.declared.headers.MessageKind.TheVariants.{Atomic, FetchAtomic, Swap}
use Rattle.ptl_types.specs.Operations.{bytes_of, op, swapped}
use Rattle.ptl_types.specs.Filled.{Filled}
use Rattle.ptl_types.specs.Messages.{FillsHeader, bytes_due}
use Rattle.ptl_types.specs.Elements.{by_element, combined, pattern, little_endian}
use Rattle.ptl_types.specs.Kinds.{has_elements, has_op, is_swap}
use Rattle.ni_model.specs.declared.Linked.{Linked}
use Rattle.ni_model.specs.Arrive.{whole, delivered, place, new_bytes}
use Rattle.ni_model.specs.Lists.{space_in, offset_in}
use Rattle.ni_model.specs.Conditions.{IsPartIn}
use Rattle.op_laws.proofs.Bytes.{bytes-pos}
use Rattle.op_laws.proofs.OpLaws.{commutes}
use Rattle.op_laws.proofs.Swaps.{pattern-lt, span-is}
use Rattle.std.specs.Prelude.{take, drop, ◌++◌, ◌∷◌, suc, [], Some}

cut-whole : (n w : ℕ) → (n - n % w) % w ≡ 0
cut-whole n w = let e : n - n % w ≡ n / w * w = omega (arith, div-add-mod' n w) in ap (λ k. k % w) e ∙ mul-mod_left (n / w) w

whole-le : (kind : MessageKind) (ty : ElemType) (n : ℕ) → whole kind ty n ≤ n
whole-le kind ty n = elim (has_elements kind) as (λ b. (if b then n - n % bytes_of ty else n) ≤ n)
    [ true ↦ omega arith | false ↦ omega arith ]

pub delivered-le : (x : Linked) (h : Header) → delivered x h ≤ h.length
delivered-le x h = omega (arith, whole-le h.kind h.ty (min h.length (space_in x h)))

delivered-space : (x : Linked) (h : Header) → delivered x h ≤ space_in x h
delivered-space x h = omega (arith, whole-le h.kind h.ty (min h.length (space_in x h)))

place-cases : (d o start len n : ℕ) → d ≤ len - o → start + len ≤ n → (if nat_eq d 0 then 0 else start + o) + d ≤ n
place-cases d o start len n le fit = grind (arith, nat_tests)

pub place-within : (n : ℕ) (x : Linked) (h : Header) → IsPartIn n x → place x h + delivered x h ≤ n
place-within n x h part = place-cases (delivered x h) (offset_in x h) x.entry.start x.entry.length n (delivered-space x h) part

pub delivered-whole : (x : Linked) (h : Header) → has_elements h.kind ≡ true → delivered x h % bytes_of h.ty ≡ 0
delivered-whole x h is =
    let P : Bool → Type 0 = λ b. (if b then min h.length (space_in x h) - min h.length (space_in x h) % bytes_of h.ty else min h.length
    (space_in x h)) % bytes_of h.ty ≡ 0 in
    subst P (sym is) (cut-whole (min h.length (space_in x h)) (bytes_of h.ty))

one-or-none : (d w : ℕ) → d ≤ w → d % w ≡ 0 → (d ≡ 0) ⊎ (d ≡ w)
one-or-none d w le e =
    elim (nat_lt d w) as (λ b. nat_lt d w ≡ b → (d ≡ 0) ⊎ (d ≡ w)) [
      | true ↦ λ t. let lt : d < w = grind (arith, nat_tests) in inl (sym (mod-eq_of_lt lt) ∙ e)
      | false ↦ λ t. let ge : w ≤ d = grind (arith, nat_tests) in inr (omega arith)
    ] refl

pub delivered-one : (x : Linked) (h : Header) → has_elements h.kind ≡ true → h.length ≡ bytes_of h.ty →
    (delivered x h ≡ 0) ⊎ (delivered x h ≡ bytes_of h.ty)
delivered-one x h is e = one-or-none (delivered x h) (bytes_of h.ty) (omega (arith, delivered-le x h)) (delivered-whole x h is)

-- the operands may change places
by_element-comm : (f : ℕ → ℕ → ℕ) (w n : ℕ) (xs ys : List ℕ) → ((x y : ℕ) → x < 256 ^ w → y < 256 ^ w → f x y ≡ f y x) →
    by_element f w n xs ys ≡ by_element f w n ys xs
by_element-comm f w zero xs ys c = refl
by_element-comm f w (suc n) xs ys c =
    rw (
      c (pattern (take w xs)) (pattern (take w ys)) (pattern-lt w xs) (pattern-lt w ys),
      by_element-comm f w n (drop w xs) (drop w ys) c,
    ) refl

pub combined-comm : (o : AtomicOp) (ty : ElemType) (xs ys : List ℕ) → length xs ≡ length ys → combined o ty xs ys ≡ combined o ty ys xs
combined-comm o ty xs ys e =
    rw e
    (by_element-comm (op o ty) (bytes_of ty) (length ys / bytes_of ty) xs ys
    (λ x y lx ly. commutes o ty x y (let P : ℕ → Type 0 = λ n. x < n in subst P (sym (span-is ty)) lx) (let P : ℕ → Type 0 = λ n. y < n in
    subst P (sym (span-is ty)) ly)))

-- one element
pub one-element : (f : ℕ → ℕ → ℕ) (ty : ElemType) (xs ys : List ℕ) → length xs ≡ bytes_of ty → length ys ≡ bytes_of ty →
    by_element f (bytes_of ty) (length xs / bytes_of ty) xs ys ≡ little_endian (bytes_of ty) (f (pattern xs) (pattern ys))
one-element f ty xs ys ex ey =
    let d : length xs / bytes_of ty ≡ 1 = rw ex (div_self (bytes-pos ty)) in
    let tx : take (bytes_of ty) xs ≡ xs = take_all (bytes_of ty) xs (omega arith) in
    let tz : take (bytes_of ty) ys ≡ ys = take_all (bytes_of ty) ys (omega arith) in
    rw (d, tx, tz, append-nil) refl

no-element : (f : ℕ → ℕ → ℕ) (w : ℕ) (xs ys : List ℕ) → 0 < w → length xs ≡ 0 → length ys ≡ 0 → by_element f w (length xs / w) xs ys ≡ ys
no-element f w [] [] l ex ey = rw (zero-div w) refl
no-element f w (x ∷ xs) ys l ex ey = absurd (omega arith)
no-element f w xs (y ∷ ys) l ex ey = absurd (omega arith)

-- the new bytes, by the kind of the operation
pub new-op : (kind : MessageKind) (h : Header) (o : AtomicOp) (old new : List ℕ) → h.op ≡ Some o → has_op kind ≡ true →
    length new ≡ length old → combined o h.ty new old ≡ new_bytes kind h old new
new-op Atomic h o old new e is same = rw e (combined-comm o h.ty new old same)
new-op FetchAtomic h o old new e is same = rw e (combined-comm o h.ty new old same)
new-op _ h o old new e is same = cc

pub new-swap : (kind : MessageKind) (h : Header) (s : SwapOp) (old new : List ℕ) → h.swap ≡ Some s → is_swap kind ≡ true →
    by_element (swapped s h.ty h.operand) (bytes_of h.ty) (length old / bytes_of h.ty) old new ≡ new_bytes kind h old new
new-swap Swap h s old new e is = rw e refl
new-swap _ h s old new e is = cc

pub new-no_element : (kind : MessageKind) (h : Header) (s : SwapOp) (old new : List ℕ) → h.swap ≡ Some s → is_swap kind ≡ true →
    length old ≡ 0 → length new ≡ length old → new ≡ new_bytes kind h old new
new-no_element kind h s old new e is none same =
    sym (no-element (swapped s h.ty h.operand) (bytes_of h.ty) old new (bytes-pos h.ty) none (omega arith)) ∙ new-swap kind h s old new e is

pub new-plain : (kind : MessageKind) (h : Header) (old new : List ℕ) → has_op kind ≡ false → is_swap kind ≡ false →
    new ≡ new_bytes kind h old new
new-plain Atomic h old new a b = cc
new-plain FetchAtomic h old new a b = cc
new-plain Swap h old new a b = cc
new-plain _ h old new a b = refl

-- as many bytes come as the header says
due-elements : (kind : MessageKind) (ok : Bool) (n : ℕ) → has_elements kind ≡ true → bytes_due kind ok n ≡ n
due-elements Atomic ok n is = refl
due-elements FetchAtomic ok n is = refl
due-elements Swap ok n is = refl
due-elements _ ok n is = cc

pub delivered-bytes : (x : Linked) (h : Header) (b : Filled) → has_elements h.kind ≡ true → FillsHeader h b →
    length (take (delivered x h) b.list) ≡ delivered x h
delivered-bytes x h b is fills = let e : length b.list ≡ h.length = fills.bytes ∙ due-elements h.kind h.ok h.length is in
    rw length-take (omega (arith, delivered-le x h))

-- a list written over another of its length
pub over : (n : ℕ) (xs ys : List ℕ) → n ≡ length xs → take n (xs ++ ys) ≡ xs
over n xs ys e = rw e (take-append_seam xs ys)

pub ruleset combining = (new-op, new-swap, new-no_element, new-plain)

pub ruleset exchanging = (delivered-le, place-within, delivered-whole, delivered-one, delivered-bytes)
