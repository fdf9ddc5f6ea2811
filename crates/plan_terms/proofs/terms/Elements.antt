-- Words at places, and lists of folds element by element.
use Rattle.std.proofs.Common.{ℕ, zero, suc, ◌+◌, ◌-◌, ◌*◌, ◌/◌, ◌%◌, ◌^◌, ◌≡◌, ◌≤◌, ◌<◌, List, [], ◌∷◌, ◌++◌, length, map, take, drop}
use Rattle.std.proofs.Common.{get_or, replicate}
use Rattle.std.proofs.Common.{refl, ap, ap₂, sym, subst, ◌∙◌, arith, mod-eq_of_lt, mul-div_cancel}
use Rattle.std.proofs.lemmas.List.{drop-drop, drop-map, drop_at, length-append, take-map, take_at}
use Rattle.std.specs.Int.Bits.{or_zero_l, xor_zero_l}
use Rattle.std.proofs.lemmas.Nat.{and_comm, and_mask}
use Rattle.number_lists.specs.Numbers.{from_to}
use Rattle.ptl_types.specs.declared.elements.AtomicOp.{AtomicOp}
use Rattle.ptl_types.specs.declared.elements.AtomicOp.TheVariants.{Min, Max, Sum, Prod, Bor, Band, Bxor}
use Rattle.ptl_types.specs.declared.elements.ElemType.{ElemType}
use Rattle.ptl_types.specs.declared.elements.ElemType.TheVariants.{U8, I8, U16, I16, U32, I32, U64, I64}
use Rattle.ptl_types.specs.Elements.{by_element, combined, little_endian, part, pattern, repeated}
use Rattle.ptl_types.specs.Operations.{bytes_of, op, span, start_value}
use Rattle.op_laws.proofs.Bytes.{bytes-pos, length-little_endian}
use Rattle.op_laws.proofs.OpLaws.{commutes, max_stays, min_stays, start-lt}
use Rattle.op_laws.proofs.Swaps.{pattern-little, span-is}
use Rattle.plan_terms.specs.declared.terms.term.Member.{Member}
use Rattle.plan_terms.specs.declared.terms.term.Making.TheVariants.{Bytes, Fold}
use Rattle.plan_terms.specs.terms.Terms.{Table, again, bytes_at, fold_of, no_member, word_at}
use Rattle.plan_terms.specs.terms.Folds.{AreFoldsBytes, AreMore, IsFoldAt, IsPlaceOf, IsPlain, IsWordOf, folds_bytes}
use Rattle.plan_terms.proofs.terms.Folds.{fold-below, pattern-below, word-below}

-- ---- the first bytes of a term
take-run : (n m s : ℕ) → n ≤ m → take n (from_to s m) ≡ from_to s n
take-run zero m s h = refl
take-run (suc n) zero s h = absurd (omega arith)
take-run (suc n) (suc m) s h = ap (λ (xs : List ℕ). s ∷ xs) (take-run n m (suc s) (omega (arith, h)))

take-little : (n m v : ℕ) → n ≤ m → take n (little_endian m v) ≡ little_endian n v
take-little zero m v h = refl
take-little (suc n) zero v h = absurd (omega arith)
take-little (suc n) (suc m) v h = ap (λ (xs : List ℕ). v % 256 ∷ xs) (take-little n m (v / 256) (omega (arith, h)))

first-bytes : (V : ℕ → ℕ) (s v n : ℕ) → n ≤ 8 → map V (from_to s 8) ≡ little_endian 8 v → map V (from_to s n) ≡ little_endian n v
first-bytes V s v n h e =
    ap (map V) (sym (take-run n 8 s h)) ∙ sym (take-map V n (from_to s 8)) ∙ ap (take n) e ∙ take-little n 8 v h

first-word : (V : ℕ → ℕ) (s v n : ℕ) → n ≤ 8 → v < 256 ^ n → map V (from_to s 8) ≡ little_endian 8 v → word_at V n s ≡ v
first-word V s v n h l e = ap pattern (first-bytes V s v n h e) ∙ pattern-little n v l

pub few_bytes : (ty : ElemType) → bytes_of ty ≤ 8
few_bytes U8 = omega arith
few_bytes I8 = omega arith
few_bytes U16 = omega arith
few_bytes I16 = omega arith
few_bytes U32 = omega arith
few_bytes I32 = omega arith
few_bytes U64 = omega arith
few_bytes I64 = omega arith

fold-fits : (V : ℕ → ℕ) (o : AtomicOp) (ty : ElemType) (ms : List Member) → fold_of V o ty ms < 256 ^ bytes_of ty
fold-fits V o ty ms = subst (λ n. fold_of V o ty ms < n) (span-is ty) (fold-below V o ty ms (start_value o ty) (start-lt o ty))

-- the word of a fold's term is the fold
pub fold_word : (t : Table) (o : AtomicOp) (ty : ElemType) (s : ℕ) (ms : List Member) → IsPlaceOf t s (Fold o ty) ms → IsFoldAt t o ty s ms
fold_word t o ty s ms is inputs V solution =
    first-word V s (fold_of V o ty ms) (bytes_of ty) (few_bytes ty) (fold-fits V o ty ms) (is inputs V solution)

pub fold_bytes : (t : Table) (o : AtomicOp) (ty : ElemType) (s : ℕ) (ms : List Member) → IsPlaceOf t s (Fold o ty) ms
    → AreFoldsBytes t o ty s ms
fold_bytes t o ty s ms is inputs V solution =
    first-bytes V s (fold_of V o ty ms) (bytes_of ty) (few_bytes ty) (is inputs V solution)

-- the bytes of a fold whose members were put in another order
pub other_order : (t : Table) (o : AtomicOp) (ty : ElemType) (s : ℕ) (ms listed ns : List Member) → listed ≡ ns → AreMore o ty ms ns []
    → AreFoldsBytes t o ty s listed → AreFoldsBytes t o ty s ms
other_order t o ty s ms listed ns e same is inputs V solution =
    is inputs V solution ∙ ap (little_endian (bytes_of ty)) (ap (fold_of V o ty) e ∙ same V)

-- ---- the word of some places
pub run_word : (t : Table) (s : ℕ) (places : List ℕ) → places ≡ from_to s (length places) → IsWordOf t s places
run_word t s places is inputs V solution = ap (λ (xs : List ℕ). pattern (map V xs)) (sym is)

members-bytes : (V : ℕ → ℕ) (ms : List Member) → map (λ (m : Member). V m.word) ms ≡ map V (map (λ (m : Member). m.word) ms)
members-bytes V [] = refl
members-bytes V (m ∷ ms) = ap (λ (xs : List ℕ). V m.word ∷ xs) (members-bytes V ms)

pub bytes_word : (t : Table) (s : ℕ) (places : List ℕ) (ms : List Member) → length places ≤ 8 → map (λ (m : Member). m.word) ms ≡ places
    → IsPlaceOf t s Bytes ms → IsWordOf t s places
bytes_word t s places ms few words is inputs V solution =
    let e : bytes_at V ms ≡ pattern (map V places) = ap pattern (members-bytes V ms ∙ ap (map V) words) in
    let n : length (map V places) ≡ length places = length-of-map V places in
    let l : pattern (map V places) < 256 ^ length places =
    subst (λ k. pattern (map V places) < 256 ^ k) n (pattern-below (map V places)) in
    first-word V s (pattern (map V places)) (length places) few l (is inputs V solution ∙ ap (little_endian 8) e)
  where
    length-of-map : (V : ℕ → ℕ) (xs : List ℕ) → length (map V xs) ≡ length xs
    length-of-map V [] = refl
    length-of-map V (x ∷ xs) = ap suc (length-of-map V xs)

pub word_member : (ms : List Member) (places : List ℕ) (k place : ℕ) (m : Member) → map (λ (m : Member). m.word) ms ≡ places
    → m.word ≡ place → map (λ (m : Member). m.word) (ms ++ m ∷ []) ≡ places ++ place ∷ []
word_member [] places k place m e f = ap₂ (λ (xs : List ℕ) y. xs ++ y ∷ []) e f
word_member (n ∷ ms) places k place m e f =
    ap (λ (xs : List ℕ). n.word ∷ xs) (word_member ms (map (λ (m : Member). m.word) ms) k place m refl f)
    ∙ ap (λ (xs : List ℕ). xs ++ place ∷ []) e

-- ---- a fold of one member
pub one_member : (ms : List Member) → 1 ≤ length ms → length ms < 2 → ms ≡ get_or ms 0 no_member ∷ []
one_member [] h l = absurd (omega (arith, h))
one_member (m ∷ []) h l = refl
one_member (m ∷ n ∷ ms) h l = absurd (omega (arith, l))

pub plain_min : IsPlain Min
plain_min ty x h = commutes Min ty (start_value Min ty) x (start-lt Min ty) h ∙ min_stays ty x h

pub plain_max : IsPlain Max
plain_max ty x h = commutes Max ty (start_value Max ty) x (start-lt Max ty) h ∙ max_stays ty x h

pub plain_sum : IsPlain Sum
plain_sum ty x h = ap (λ v. v % span ty) (let e : 0 + x ≡ x = omega arith in e) ∙ mod-eq_of_lt h

pub plain_prod : IsPlain Prod
plain_prod ty x h = ap (λ v. v % span ty) (let e : 1 * x ≡ x = omega arith in e) ∙ mod-eq_of_lt h

pub plain_bor : IsPlain Bor
plain_bor ty x h = or_zero_l x

pub plain_band : IsPlain Band
plain_band ty x h = and_comm (span ty - 1) x ∙ and_mask x (8 * bytes_of ty) ∙ mod-eq_of_lt h

pub plain_bxor : IsPlain Bxor
plain_bxor ty x h = xor_zero_l x

little-pattern : (V : ℕ → ℕ) (n s : ℕ) → ((k : ℕ) → V k < 256) → little_endian n (pattern (map V (from_to s n))) ≡ map V (from_to s n)
little-pattern V zero s small = refl
little-pattern V (suc n) s small =
    let b = small s in
    let p = pattern (map V (from_to (suc s) n)) in
    let first : (V s % 256 + 256 * p) % 256 ≡ V s = omega (arith, b) in
    let rest : (V s % 256 + 256 * p) / 256 ≡ p = omega (arith, b) in
    ap₂ (λ y (ys : List ℕ). y ∷ ys) first (ap (little_endian n) rest ∙ little-pattern V n (suc s) small)

pub plain_bytes : (t : Table) (o : AtomicOp) (ty : ElemType) (m : Member) → IsPlain o → m.times ≡ 1 → AreFoldsBytes t o ty m.word (m ∷ [])
plain_bytes t o ty m plain one inputs V solution =
    let x = word_at V (bytes_of ty) m.word in
    sym (little-pattern V (bytes_of ty) m.word solution.small)
    ∙ ap (little_endian (bytes_of ty))
    (sym (ap (λ n. again n (λ y. op o ty y x) (start_value o ty)) one ∙ plain ty x (word-below V ty m.word)))

-- ---- element by element
folds-cons : (V : ℕ → ℕ) (o : AtomicOp) (ty : ElemType) (ms : List Member) (mss : List (List Member))
    → folds_bytes V o ty (ms ∷ mss) ≡ little_endian (bytes_of ty) (fold_of V o ty ms) ++ folds_bytes V o ty mss
folds-cons V o ty ms mss = refl

pub length_folds : (V : ℕ → ℕ) (o : AtomicOp) (ty : ElemType) (mss : List (List Member))
    → length (folds_bytes V o ty mss) ≡ length mss * bytes_of ty
length_folds V o ty [] = omega arith
length_folds V o ty (ms ∷ mss) =
    let n = length-append (little_endian (bytes_of ty) (fold_of V o ty ms)) (folds_bytes V o ty mss) in
    let a = length-little_endian (bytes_of ty) (fold_of V o ty ms) in
    let b = length_folds V o ty mss in
    n ∙ ap₂ (λ p q. p + q) a b ∙ (let e : bytes_of ty + length mss * bytes_of ty ≡ suc (length mss) * bytes_of ty = omega arith in e)

pub none_folds : (V : ℕ → ℕ) (o : AtomicOp) (ty : ElemType) (n : ℕ)
    → folds_bytes V o ty (replicate n []) ≡ repeated (bytes_of ty) n (start_value o ty)
none_folds V o ty zero = refl
none_folds V o ty (suc n) = ap (λ (xs : List ℕ). little_endian (bytes_of ty) (start_value o ty) ++ xs) (none_folds V o ty n)

-- what is said of each element of lists of folds
abbrev pub AreFolded : (ℕ → ℕ) → AtomicOp → ElemType → List (List Member) → List (List Member) → List ℕ → Type 0
AreFolded V o ty old new places = (j : ℕ) → j < length old
    → fold_of V o ty (get_or new j [])
    ≡ op o ty (fold_of V o ty (get_or old j [])) (pattern (map V (part (j * bytes_of ty) (bytes_of ty) places)))

elements : (V : ℕ → ℕ) (o : AtomicOp) (ty : ElemType) (old new : List (List Member)) (places : List ℕ) → length new ≡ length old
    → AreFolded V o ty old new places
    → folds_bytes V o ty new ≡ by_element (op o ty) (bytes_of ty) (length old) (folds_bytes V o ty old) (map V places)
elements V o ty [] [] places many each = refl
elements V o ty [] (n ∷ new) places many each = absurd (omega (arith, many))
elements V o ty (m ∷ old) [] places many each = absurd (omega (arith, many))
elements V o ty (m ∷ old) (n ∷ new) places many each =
    let w = bytes_of ty in
    let a = fold_of V o ty m in
    let first = little_endian w a in
    let rest = folds_bytes V o ty old in
    let front : take w (first ++ rest) ≡ first = take_at first rest w (length-little_endian w a) in
    let back : drop w (first ++ rest) ≡ rest = drop_at first rest w (length-little_endian w a) in
    let x : fold_of V o ty n ≡ op o ty a (pattern (map V (part (0 * w) w places))) =
    each 0 (let l : 0 < suc (length old) = omega arith in l) in
    let at_0 : part (0 * w) w places ≡ take w places = ap (λ k. take w (drop k places)) (let e : 0 * w ≡ 0 = omega arith in e) in
    let value : fold_of V o ty n ≡ op o ty (pattern (take w (first ++ rest))) (pattern (take w (map V places))) =
    x ∙ ap₂ (op o ty) (sym (ap pattern front ∙ pattern-little w a (fold-fits V o ty m)))
    (ap pattern (ap (map V) at_0 ∙ sym (take-map V w places))) in
    let later : AreFolded V o ty old new (drop w places) = λ j l.
    each (suc j) (let k : suc j < suc (length old) = omega (arith, l) in k)
    ∙ ap (λ (xs : List ℕ). op o ty (fold_of V o ty (get_or old j [])) (pattern (map V (take w xs))))
    (ap (λ k. drop k places) (let e : suc j * w ≡ w + j * w = omega arith in e) ∙ sym (drop-drop (j * w) w places)) in
    ap₂ (λ v (xs : List ℕ). little_endian w v ++ xs) value
    (elements V o ty old new (drop w places) (omega (arith, many)) later
    ∙ ap₂ (by_element (op o ty) w (length old)) (sym back) (sym (drop-map V w places)))

pub folded_elements : (V : ℕ → ℕ) (o : AtomicOp) (ty : ElemType) (old new : List (List Member)) (places : List ℕ)
    → length new ≡ length old → AreFolded V o ty old new places
    → folds_bytes V o ty new ≡ combined o ty (folds_bytes V o ty old) (map V places)
folded_elements V o ty old new places many each =
    elements V o ty old new places many each
    ∙ ap (λ n. by_element (op o ty) (bytes_of ty) n (folds_bytes V o ty old) (map V places))
    (sym (ap (λ k. k / bytes_of ty) (length_folds V o ty old) ∙ mul-div_cancel (length old) (bytes-pos ty)))
