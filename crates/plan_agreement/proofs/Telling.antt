-- The four bytes of the numbers tell from which byte of the inputs a byte comes.
use Rattle.std.proofs.Common.{ℕ, zero, suc, ◌+◌, ◌*◌, ◌/◌, ◌%◌, ◌≡◌, ◌≤◌, ◌<◌, List, [], ◌∷◌, length, map, get_or, drop, Option, Some}
use Rattle.std.proofs.Common.{None, refl, ap, ap₂, sym, subst, ◌∙◌, arith}
use Rattle.std.specs.Prelude.{All}
use Rattle.std.proofs.lemmas.List.{drop-map, ext_get_or, length-map, take-map}
use Rattle.std.proofs.lemmas.List.Elements.{All-get_or}
use Rattle.std.proofs.lemmas.Nat.{div-mul-add, mod-mul-add, mul-le}
use Rattle.std.proofs.lemmas.Simd.{map-map}
use Rattle.number_lists.specs.Numbers.{from_to}
use Rattle.ptl_types.specs.Operations.{bytes_of}
use Rattle.coll_shape.specs.Folding.{at}
use Rattle.coll_shape.specs.Meaning.{AreInputs, Lists, lists_of, meaning_of}
use Rattle.coll_shape.specs.Outline.{Outline, buffer_at, list_bytes}
use Rattle.coll_shape.specs.Rows.{in_rows}
use Rattle.coll_shape.specs.WellFormed.{IsWellFormed}
use Rattle.coll_shape.proofs.Rows.{before-end, row-at, row-long, rows-many}
use Rattle.given_lines.specs.declared.given.Mark.{Mark}
use Rattle.given_lines.specs.declared.given.Mark.TheVariants.{Result, Enter, Leave}
use Rattle.plan_core.specs.Draw.{held_cell}
use Rattle.plan_core.specs.Plan.{Plan}
use Rattle.plan_core.specs.Values.{value}
use Rattle.plan_core.proofs.Drawing.{length-row, row-same}
use Rattle.plan_tables.proofs.Passes.{get-row}
use Rattle.plan_terms.proofs.terms.Elements.{few_bytes}
use Rattle.schedule_compiler.specs.shapes.Drawing.{drawing_of, plan_of}
use Rattle.schedule_compiler.proofs.shapes.Final.{unheld-empty, value-held}
use Rattle.plan_agreement.specs.Agreement.{IsAlwaysMeant, IsMeantIfThere}
use Rattle.plan_agreement.specs.Bare.{IsBare, IsNamed}
use Rattle.plan_agreement.specs.Witness.{number_units, numbered, numbered_list, numbered_lists}
use Rattle.plan_agreement.proofs.Lists.{few_lists, numbered_taken}
use Rattle.plan_agreement.proofs.Moved.{get-lists, moved, moved_list, moved_value}

-- ---- the numbers themselves
abbrev number : ℕ → ℕ → ℕ
number i k = i * 32768 + k % 32768 + 1

abbrev byte : ℕ → ℕ → ℕ
byte unit n = n / unit % 256

abbrev long_at : Outline → ℕ → ℕ
long_at o i = list_bytes (buffer_at o (i / o.ranks))

abbrev flat : Outline → List (List ℕ)
flat o = map (λ i. map (number i) (from_to 0 (long_at o i))) (from_to 0 (o.inputs * o.ranks))

abbrev numbers : Outline → Lists
numbers o = in_rows o.ranks o.inputs (flat o)

rows-moved : (f : ℕ → ℕ) (n m : ℕ) (xs : List (List ℕ)) → map (map (map f)) (in_rows n m xs) ≡ in_rows n m (map (map f) xs)
rows-moved f n zero xs = refl
rows-moved f n (suc m) xs =
    ap₂ (λ (a : List (List ℕ)) (b : Lists). a ∷ b) (sym (take-map (map f) n xs))
    (rows-moved f n m (drop n xs) ∙ ap (in_rows n m) (sym (drop-map (map f) n xs)))

flat_moved : (o : Outline) (unit : ℕ) → map (map (byte unit)) (flat o) ≡ numbered_lists o unit
flat_moved o unit =
    map-map (map (byte unit)) (λ i. map (number i) (from_to 0 (long_at o i))) (from_to 0 (o.inputs * o.ranks))
    ∙ row-same (λ i. map (byte unit) (map (number i) (from_to 0 (long_at o i)))) (λ i. numbered_list unit i (long_at o i)) 0
    (o.inputs * o.ranks) (λ i h. map-map (byte unit) (number i) (from_to 0 (long_at o i)))

-- the inputs of numbered bytes are these, byte by byte
numbered_moved : (o : Outline) (unit : ℕ) → numbered o unit ≡ moved (byte unit) (numbers o)
numbered_moved o unit =
    ap (in_rows o.ranks o.inputs) (sym (flat_moved o unit)) ∙ sym (rows-moved (byte unit) o.ranks o.inputs (flat o))

-- ---- the byte of a number
abbrev looked : ℕ → Lists → ℕ → ℕ
looked ranks inputs zero = 0
looked ranks inputs (suc m) = get_or (get_or (get_or inputs (m / 32768 / ranks) []) (m / 32768 % ranks) []) (m % 32768) 0

-- by the four bytes of the number
abbrev told : ℕ → Lists → ℕ → ℕ → ℕ → ℕ → ℕ
told ranks inputs a b c d = looked ranks inputs (a + 256 * b + 65536 * c + 16777216 * d)

abbrev by_number : ℕ → Lists → ℕ → ℕ
by_number ranks inputs n = told ranks inputs (byte 1 n) (byte 256 n) (byte 65536 n) (byte 16777216 n)

whole : (n : ℕ) → n < 4294967296 → byte 1 n + 256 * byte 256 n + 65536 * byte 65536 n + 16777216 * byte 16777216 n ≡ n
whole n h =
    let one : n / 1 ≡ n = omega arith in
    let two : n / 65536 ≡ n / 256 / 256 = omega arith in
    let three : n / 16777216 ≡ n / 256 / 256 / 256 = omega arith in
    let top : n / 256 / 256 / 256 < 256 = omega (arith, h) in
    rw (one, two, three) (let e : n % 256 + 256 * (n / 256 % 256) + 65536 * (n / 256 / 256 % 256)
    + 16777216 * (n / 256 / 256 / 256 % 256) ≡ n = omega (arith, top) in e)

few_given : (o : Outline) (b : ℕ) → IsWellFormed o → b < o.inputs → list_bytes (buffer_at o b) ≤ 32768
few_given o b wf h =
    let few : (buffer_at o b).spread.length ≤ 4096 = (let a = wf.short b h in omega (arith, a)) in
    mul-le (buffer_at o b).spread.length (bytes_of (buffer_at o b).ty) 4096 8 few (few_bytes (buffer_at o b).ty)

at_number : (ranks : ℕ) (inputs : Lists) (b r k : ℕ) → r < ranks → k < 32768 → b * ranks + r < 32768
    → by_number ranks inputs (number (b * ranks + r) k) ≡ get_or (get_or (get_or inputs b []) r []) k 0
at_number ranks inputs b r k h l small =
    let i = b * ranks + r in
    let m : k % 32768 ≡ k = omega (arith, l) in
    let next : number i k ≡ suc (i * 32768 + k) = omega (arith, m) in
    let few : number i k < 4294967296 = omega (arith, small, l, m) in
    ap (looked ranks inputs) (whole (number i k) few ∙ next)
    ∙ ap₂ (λ j q. get_or (get_or (get_or inputs (j / ranks) []) (j % ranks) []) q 0) (div-mul-add i 32768 k l) (mod-mul-add i 32768 k l)
    ∙ ap₂ (λ x y. get_or (get_or (get_or inputs x []) y []) k 0) (div-mul-add b ranks r h) (mod-mul-add b ranks r h)

-- ---- any inputs, by the numbers
list_told : (o : Outline) (inputs : Lists) (b r : ℕ) → IsWellFormed o → AreInputs o inputs → b < o.inputs → r < o.ranks
    → map (by_number o.ranks inputs) (map (number (b * o.ranks + r)) (from_to 0 (long_at o (b * o.ranks + r))))
    ≡ get_or (get_or inputs b []) r []
list_told o inputs b r wf ins h l =
    let i = b * o.ranks + r in
    let g : ℕ → ℕ = λ k. by_number o.ranks inputs (number i k) in
    let n : long_at o i ≡ list_bytes (buffer_at o b) = ap (λ j. list_bytes (buffer_at o j)) (div-mul-add b o.ranks r l) in
    let long : length (map g (from_to 0 (long_at o i))) ≡ long_at o i = length-row g 0 (long_at o i) in
    let there = before-end o.ranks o.inputs b r (record { row = h; place = l }) in
    let small : i < 32768 = (let f = few_lists o wf in omega (arith, there, f)) in
    map-map (by_number o.ranks inputs) (number i) (from_to 0 (long_at o i))
    ∙ ext_get_or 0 (map g (from_to 0 (long_at o i))) (get_or (get_or inputs b []) r []) (long ∙ n ∙ sym (ins.long b r h l))
    (λ k q.
    let below : k < long_at o i = subst (λ m. k < m) long q in
    let fits = few_given o b wf h in
    get-row g (long_at o i) k 0 below
    ∙ at_number o.ranks inputs b r k l (omega (arith, below, n, fits)) small)

row_told : (o : Outline) (inputs : Lists) (b : ℕ) → IsWellFormed o → AreInputs o inputs → b < o.inputs
    → get_or (moved (by_number o.ranks inputs) (numbers o)) b [] ≡ get_or inputs b []
row_told o inputs b wf ins h =
    let f = by_number o.ranks inputs in
    let F : ℕ → List ℕ = λ i. map (number i) (from_to 0 (long_at o i)) in
    let many : length (flat o) ≡ o.inputs * o.ranks = length-row F 0 (o.inputs * o.ranks) in
    let long : length (get_or (moved f (numbers o)) b []) ≡ o.ranks =
    ap length (get-lists f (numbers o) b) ∙ length-map (get_or (numbers o) b []) (map f) ∙ row-long o.ranks o.inputs b (flat o) many h in
    ext_get_or [] (get_or (moved f (numbers o)) b []) (get_or inputs b []) (long ∙ sym (ins.ranks b h))
    (λ r q.
    let l : r < o.ranks = subst (λ m. r < m) long q in
    let there = before-end o.ranks o.inputs b r (record { row = h; place = l }) in
    moved_list f (numbers o) b r
    ∙ ap (map f)
    (row-at o.ranks o.inputs b r (flat o) [] h l ∙ get-row F (o.inputs * o.ranks) (b * o.ranks + r) [] there)
    ∙ list_told o inputs b r wf ins h l)

inputs_told : (o : Outline) (inputs : Lists) → IsWellFormed o → AreInputs o inputs
    → inputs ≡ moved (by_number o.ranks inputs) (numbers o)
inputs_told o inputs wf ins =
    let f = by_number o.ranks inputs in
    let long : length (moved f (numbers o)) ≡ o.inputs =
    length-map (numbers o) (map (map f)) ∙ rows-many o.ranks o.inputs (flat o) in
    sym (ext_get_or [] (moved f (numbers o)) inputs (long ∙ sym ins.many)
    (λ b q. row_told o inputs b wf ins (subst (λ m. b < m) long q)))

-- ---- lists whose entries have the same bytes
bytes_tell : (h : ℕ → ℕ → ℕ → ℕ → ℕ) (xs ys : List ℕ) → map (byte 1) xs ≡ map (byte 1) ys → map (byte 256) xs ≡ map (byte 256) ys
    → map (byte 65536) xs ≡ map (byte 65536) ys → map (byte 16777216) xs ≡ map (byte 16777216) ys
    → map (λ n. h (byte 1 n) (byte 256 n) (byte 65536 n) (byte 16777216 n)) xs
    ≡ map (λ n. h (byte 1 n) (byte 256 n) (byte 65536 n) (byte 16777216 n)) ys
bytes_tell h [] [] a b c d = refl
bytes_tell h [] (y ∷ ys) a b c d = absurd (let e = ap length a in omega (arith, e))
bytes_tell h (x ∷ xs) [] a b c d = absurd (let e = ap length a in omega (arith, e))
bytes_tell h (x ∷ xs) (y ∷ ys) a b c d =
    let first : (u : ℕ) → map (byte u) (x ∷ xs) ≡ map (byte u) (y ∷ ys) → byte u x ≡ byte u y = λ u e.
    ap (λ (v : List ℕ). get_or v 0 0) e in
    let rest : (u : ℕ) → map (byte u) (x ∷ xs) ≡ map (byte u) (y ∷ ys) → map (byte u) xs ≡ map (byte u) ys = λ u e.
    ap (λ (v : List ℕ). drop 1 v) e in
    ap₂ (λ v (vs : List ℕ). v ∷ vs)
    (ap₂ (λ p q. h p q (byte 65536 x) (byte 16777216 x)) (first 1 a) (first 256 b)
    ∙ ap₂ (λ p q. h (byte 1 y) (byte 256 y) p q) (first 65536 c) (first 16777216 d))
    (bytes_tell h xs ys (rest 1 a) (rest 256 b) (rest 65536 c) (rest 16777216 d))

-- ---- a result
-- it is what is meant for the inputs of this byte of the numbers
shown : (p : Plan) (o : Outline) (c unit : ℕ) (due : Lists → List ℕ) (ys : List ℕ) → IsBare p → byte unit 0 ≡ 0
    → value p (numbered o unit) c ≡ due (numbered o unit) → due (numbered o unit) ≡ map (byte unit) ys
    → map (byte unit) (value p (numbers o) c) ≡ map (byte unit) ys
shown p o c unit due ys bare still meant is =
    sym (moved_value (byte unit) p (numbers o) c still bare)
    ∙ ap (λ (v : Lists). value p v c) (sym (numbered_moved o unit)) ∙ meant ∙ is

pub record IsTold (p : Plan) (o : Outline) (c : ℕ) (due : Lists → List ℕ) : Type 0 where
  pub one : value p (numbered o 1) c ≡ due (numbered o 1)
  pub two : value p (numbered o 256) c ≡ due (numbered o 256)
  pub three : value p (numbered o 65536) c ≡ due (numbered o 65536)
  pub four : value p (numbered o 16777216) c ≡ due (numbered o 16777216)

-- where what is due is moved as its bytes are, from ys on
told_for : (p : Plan) (o : Outline) (inputs : Lists) (c : ℕ) (due : Lists → List ℕ) (ys : List ℕ) → IsWellFormed o → AreInputs o inputs
    → IsBare p → ((unit : ℕ) → byte unit 0 ≡ 0 → due (numbered o unit) ≡ map (byte unit) ys)
    → due inputs ≡ map (by_number o.ranks inputs) ys → IsTold p o c due → value p inputs c ≡ due inputs
told_for p o inputs c due ys wf ins bare is own t =
    let xs = value p (numbers o) c in
    ap (λ (v : Lists). value p v c) (inputs_told o inputs wf ins)
    ∙ moved_value (by_number o.ranks inputs) p (numbers o) c refl bare
    ∙ bytes_tell (told o.ranks inputs) xs ys (shown p o c 1 due ys bare refl t.one (is 1 refl))
    (shown p o c 256 due ys bare refl t.two (is 256 refl)) (shown p o c 65536 due ys bare refl t.three (is 65536 refl))
    (shown p o c 16777216 due ys bare refl t.four (is 16777216 refl))
    ∙ sym own

at_result : (p : Plan) (o : Outline) (b r c : ℕ) → IsWellFormed o → IsBare p → IsBare (plan_of o) → b < length o.buffers → r < o.ranks
    → (held : Option ℕ) → held_cell (drawing_of o).held b r ≡ held → IsTold p o c (λ v. at (lists_of (meaning_of o v) b) r)
    → (inputs : Lists) → AreInputs o inputs → value p inputs c ≡ at (lists_of (meaning_of o inputs) b) r
at_result p o b r c wf bare own h l None z t inputs ins =
    told_for p o inputs c (λ v. at (lists_of (meaning_of o v) b) r) [] wf ins bare
    (λ unit still. unheld-empty o (numbered o unit) wf (numbered_taken o unit) b r h l z) (unheld-empty o inputs wf ins b r h l z) t
at_result p o b r c wf bare own h l (Some d) z t inputs ins =
    let q = plan_of o in
    told_for p o inputs c (λ v. at (lists_of (meaning_of o v) b) r) (value q (numbers o) d) wf ins bare
    (λ unit still. sym (value-held o (numbered o unit) wf (numbered_taken o unit) b r d h l z)
    ∙ ap (λ (v : Lists). value q v d) (numbered_moved o unit) ∙ moved_value (byte unit) q (numbers o) d still own)
    (sym (value-held o inputs wf ins b r d h l z) ∙ ap (λ (v : Lists). value q v d) (inputs_told o inputs wf ins)
    ∙ moved_value (by_number o.ranks inputs) q (numbers o) d refl own)
    t

pub numbers_tell : (p : Plan) (o : Outline) (m : Mark) → IsWellFormed o → IsBare p → IsBare (plan_of o) → IsNamed p o m
    → All (IsMeantIfThere p o m) number_units → IsAlwaysMeant p o m
numbers_tell p o (Result b r c) wf bare own named all =
    let P : ℕ → Type 0 = IsMeantIfThere p o (Result b r c) in
    at_result p o b r c wf bare own named.0 named.1.0 (held_cell (drawing_of o).held b r) refl
    (record {
      one = All-get_or P number_units 0 0 (let e : 0 < 4 = omega arith in e) all named.1.1;
      two = All-get_or P number_units 1 0 (let e : 1 < 4 = omega arith in e) all named.1.1;
      three = All-get_or P number_units 2 0 (let e : 2 < 4 = omega arith in e) all named.1.1;
      four = All-get_or P number_units 3 0 (let e : 3 < 4 = omega arith in e) all named.1.1;
    })
numbers_tell p o (Enter s r c) wf bare own named all = λ inputs ins. tt
numbers_tell p o (Leave s r c) wf bare own named all = λ inputs ins. tt
