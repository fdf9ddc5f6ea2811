-- For all inputs of bytes there are bytes at the places.
use Rattle.std.proofs.Common.{ℕ, zero, suc, Bool, true, false, cond, ◌+◌, ◌-◌, ◌*◌, ◌/◌, ◌%◌, ◌≡◌, ◌≤◌, ◌<◌, List, [], ◌∷◌, length, map}
use Rattle.std.proofs.Common.{get_or}
use Rattle.std.proofs.Common.{refl, ap, ap₂, sym, ◌∙◌, subst, arith, lit<, mod-lt, inl, inr}
use Rattle.std.specs.Prelude.{nat_lt}
use Rattle.std.specs.List.{All}
use Rattle.std.proofs.lemmas.Bool.{cases_lt, le-ltb, lt-ltb}
use Rattle.std.proofs.lemmas.List.{get_or_past}
use Rattle.std.proofs.lemmas.Nat.{div-mul-add, mod-mul-add, mul-add-lt}
use Rattle.number_lists.specs.Numbers.{from_to}
use Rattle.ptl_types.specs.declared.elements.AtomicOp.{AtomicOp}
use Rattle.ptl_types.specs.declared.elements.ElemType.{ElemType}
use Rattle.ptl_types.specs.Elements.{little_endian, pattern}
use Rattle.ptl_types.specs.Operations.{bytes_of, op, start_value}
use Rattle.op_laws.proofs.Bytes.{length-little_endian}
use Rattle.plan_core.proofs.Drawing.{row-same}
use Rattle.plan_terms.specs.declared.terms.term.Member.{Member}
use Rattle.plan_terms.specs.declared.terms.term.Making.{Making}
use Rattle.plan_terms.specs.declared.terms.term.Making.TheVariants.{Bytes, Fold}
use Rattle.plan_terms.specs.terms.Terms.{AreBefore, IsTable, Lists, Solved, Table, again, fold_from, input_at, made_value}
use Rattle.plan_terms.specs.terms.Terms.{no_term, place_of_term, term_value, word_at}

-- a run of places, byte by byte
pub run-is : (V : ℕ → ℕ) (a : ℕ) (xs : List ℕ) → ((k : ℕ) → k < length xs → V (a + k) ≡ get_or xs k 0)
    → map V (from_to a (length xs)) ≡ xs
run-is V a [] h = refl
run-is V a (x ∷ xs) h =
    ap₂ (λ y (ys : List ℕ). y ∷ ys)
    (ap V (let e : a ≡ a + 0 = omega arith in e) ∙ h 0 (let l : 0 < suc (length xs) = omega arith in l))
    (run-is V (suc a) xs
    (λ k l. ap V (let e : suc a + k ≡ a + suc k = omega arith in e) ∙ h (suc k) (let m : suc k < suc (length xs) = omega arith in m)))

-- ---- what a term is made of stands before it
bytes-same : (V W : ℕ → ℕ) (limit : ℕ) (ms : List Member) → ((s : ℕ) → s < limit → V s ≡ W s) → AreBefore limit Bytes ms
    → map (λ (m : Member). V m.word) ms ≡ map (λ (m : Member). W m.word) ms
bytes-same V W limit [] same before = refl
bytes-same V W limit (m ∷ ms) same before =
    ap₂ (λ y (ys : List ℕ). y ∷ ys)
    (same m.word
    (let b : m.word + 1 ≤ limit = before 0 (let l : 0 < suc (length ms) = omega arith in l) in let l : m.word < limit = omega arith in l))
    (bytes-same V W limit ms same (λ k l. before (suc k) (let m : suc k < suc (length ms) = omega arith in m)))

fold-same : (V W : ℕ → ℕ) (limit : ℕ) (o : AtomicOp) (ty : ElemType) (ms : List Member) (z : ℕ) → ((s : ℕ) → s < limit → V s ≡ W s)
    → AreBefore limit (Fold o ty) ms → fold_from V o ty ms z ≡ fold_from W o ty ms z
fold-same V W limit o ty [] z same before = refl
fold-same V W limit o ty (m ∷ ms) z same before =
    let b : m.word + bytes_of ty ≤ limit = before 0 (let l : 0 < suc (length ms) = omega arith in l) in
    let e : word_at V (bytes_of ty) m.word ≡ word_at W (bytes_of ty) m.word =
    ap pattern (row-same V W m.word (bytes_of ty) (λ i l. same i (let q : i < limit = omega (arith, b, l) in q))) in
    ap (λ x. fold_from V o ty ms (again m.times (λ y. op o ty y x) z)) e
    ∙ fold-same V W limit o ty ms (again m.times (λ y. op o ty y (word_at W (bytes_of ty) m.word)) z) same
    (λ k l. before (suc k) (let q : suc k < suc (length ms) = omega arith in q))

made-same : (V W : ℕ → ℕ) (limit : ℕ) (making : Making) (ms : List Member) → ((s : ℕ) → s < limit → V s ≡ W s)
    → AreBefore limit making ms → made_value V making ms ≡ made_value W making ms
made-same V W limit Bytes ms same before = ap pattern (bytes-same V W limit ms same before)
made-same V W limit (Fold o ty) ms same before = fold-same V W limit o ty ms (start_value o ty) same before

-- ---- term by term
abbrev value_upto : Table → Lists → ℕ → ℕ → ℕ
value_upto t inputs zero s = get_or (input_at t.ranks inputs (s / t.stride)) (s % t.stride) 0
value_upto t inputs (suc n) s =
    cond (nat_lt s (place_of_term t n)) (value_upto t inputs n s)
    (get_or (little_endian 8 (term_value (value_upto t inputs n) (get_or t.terms n no_term))) (s - place_of_term t n) 0)

little-small : (n x k : ℕ) → get_or (little_endian n x) k 0 < 256
little-small zero x k = lit< tt
little-small (suc n) x zero = mod-lt x (lit< tt)
little-small (suc n) x (suc k) = little-small n (x / 256) k

list-small : (xs : List ℕ) (k : ℕ) → All (λ x. x < 256) xs → get_or xs k 0 < 256
list-small xs k a =
    elim (cases_lt k (length xs)) [ inl h ↦ a k 0 h | inr h ↦ subst (λ v. v < 256) (sym (get_or_past xs k 0 h)) (lit< tt) ]

either-small : (b : Bool) (x y : ℕ) → x < 256 → y < 256 → cond b x y < 256
either-small true x y h k = h
either-small false x y h k = k

all-small : (t : Table) (inputs : Lists) → ((i : ℕ) → All (λ x. x < 256) (input_at t.ranks inputs i)) → (n s : ℕ)
    → value_upto t inputs n s < 256
all-small t inputs bytes zero s = list-small (input_at t.ranks inputs (s / t.stride)) (s % t.stride) (bytes (s / t.stride))
all-small t inputs bytes (suc n) s =
    either-small (nat_lt s (place_of_term t n)) _ _ (all-small t inputs bytes n s)
    (little-small 8 (term_value (value_upto t inputs n) (get_or t.terms n no_term)) (s - place_of_term t n))

-- what stands before a term stays
stays : (t : Table) (inputs : Lists) (n s : ℕ) → s < place_of_term t n → value_upto t inputs (suc n) s ≡ value_upto t inputs n s
stays t inputs n s h =
    ap (λ b. cond b (value_upto t inputs n s)
    (get_or (little_endian 8 (term_value (value_upto t inputs n) (get_or t.terms n no_term))) (s - place_of_term t n) 0)) (lt-ltb _ _ h)

stays-on : (t : Table) (inputs : Lists) (n d s : ℕ) → s < place_of_term t n → value_upto t inputs (d + n) s ≡ value_upto t inputs n s
stays-on t inputs n zero s h = ap (λ k. value_upto t inputs k s) (let e : 0 + n ≡ n = omega arith in e)
stays-on t inputs n (suc d) s h =
    ap (λ k. value_upto t inputs k s) (let e : suc d + n ≡ suc (d + n) = omega arith in e)
    ∙ stays t inputs (d + n) s (let l : s < place_of_term t (d + n) = omega (arith, h) in l)
    ∙ stays-on t inputs n d s h

in-all : (t : Table) (inputs : Lists) (n s : ℕ) → n ≤ length t.terms → s < place_of_term t n
    → value_upto t inputs (length t.terms) s ≡ value_upto t inputs n s
in-all t inputs n s most h =
    ap (λ k. value_upto t inputs k s) (let e : length t.terms ≡ length t.terms - n + n = omega (arith, most) in e)
    ∙ stays-on t inputs n (length t.terms - n) s h

-- ---- all of them
its-input : (t : Table) (inputs : Lists) (i k : ℕ) → i < t.cells → k < t.stride
    → value_upto t inputs (length t.terms) (i * t.stride + k) ≡ get_or (input_at t.ranks inputs i) k 0
its-input t inputs i k h l =
    in-all t inputs 0 (i * t.stride + k) (omega arith)
    (let m = mul-add-lt i t.stride k t.cells h l in let z : i * t.stride + k < place_of_term t 0 = omega (arith, m) in z)
    ∙ ap₂ (λ q r. get_or (input_at t.ranks inputs q) r 0) (div-mul-add i t.stride k l) (mod-mul-add i t.stride k l)

its-term : (t : Table) (inputs : Lists) (r k : ℕ) → IsTable t → r < length t.terms → k < 8
    → value_upto t inputs (length t.terms) (place_of_term t r + k)
    ≡ get_or (little_endian 8 (term_value (value_upto t inputs (length t.terms)) (get_or t.terms r no_term))) k 0
its-term t inputs r k table h l =
    let x = get_or t.terms r no_term in
    let most : suc r ≤ length t.terms = omega (arith, h) in
    let few : r ≤ length t.terms = omega (arith, h) in
    let past : nat_lt (place_of_term t r + k) (place_of_term t r) ≡ false =
    le-ltb (place_of_term t r + k) (place_of_term t r) (omega arith) in
    in-all t inputs (suc r) (place_of_term t r + k) most (let z : place_of_term t r + k < place_of_term t (suc r) = omega (arith, l) in z)
    ∙ ap (λ b. cond b (value_upto t inputs r (place_of_term t r + k))
    (get_or (little_endian 8 (term_value (value_upto t inputs r) x)) (place_of_term t r + k - place_of_term t r) 0)) past
    ∙ ap₂ (λ v j. get_or (little_endian 8 v) j 0)
    (made-same (value_upto t inputs r) (value_upto t inputs (length t.terms)) (place_of_term t r) x.making x.members
    (λ s q. sym (in-all t inputs r s few q)) (table.before r h))
    (let e : place_of_term t r + k - place_of_term t r ≡ k = omega arith in e)

pub solved : (t : Table) (inputs : Lists) → IsTable t → ((i : ℕ) → All (λ x. x < 256) (input_at t.ranks inputs i)) → Solved t inputs
solved t inputs table bytes =
    let V = value_upto t inputs (length t.terms) in
    record {
      at = V;
      is = record {
        small = all-small t inputs bytes (length t.terms);
        given = λ i h fits. run-is V (i * t.stride) (input_at t.ranks inputs i)
            (λ k l. its-input t inputs i k h (let q : k < t.stride = omega (arith, l, fits) in q));
        terms = λ r h.
            let x = little_endian 8 (term_value V (get_or t.terms r no_term)) in
            let n : length x ≡ 8 = length-little_endian 8 (term_value V (get_or t.terms r no_term)) in
            subst (λ m. map V (from_to (place_of_term t r) m) ≡ x) n
            (run-is V (place_of_term t r) x (λ k l. its-term t inputs r k table h (let q : k < 8 = omega (arith, l, n) in q)));
      };
    }
