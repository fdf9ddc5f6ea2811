-- The lines, put by put.
use Rattle.std.proofs.Common.{◌≡◌, ℕ, zero, suc, ◌+◌, ◌-◌, ◌*◌, ◌<◌, ◌≤◌, Bool, true, false, cond, List, [], ◌∷◌, ◌++◌, length, get_or}
use Rattle.std.proofs.Common.{take, drop, map, refl, ◌∙◌, ap, sym, append_assoc, append-nil, arith}
use Rattle.std.proofs.lemmas.List.Folds.{flat_map-map}
use Rattle.std.proofs.lemmas.List.{drop-append-le, drop_all, get_or_default, length-append, length-drop, take-append-le, take-take}
use Rattle.std.proofs.lemmas.List.{take_all}
use Rattle.op_laws.proofs.Bytes.{bytes-pos}
use Rattle.std.specs.List.{flat_map}
use Rattle.std.specs.Fmt.{decimal}
use Rattle.ptl_types.specs.declared.elements.ElemType.{ElemType}
use Rattle.ptl_types.specs.Elements.{pattern}
use Rattle.ptl_types.specs.Operations.{bytes_of}
use Rattle.number_lists.specs.Numbers.{from_to}
use Rattle.coll_text.specs.Elements.{elements, value_word}
use Rattle.coll_text.proofs.Writes.{first_of, join_spaced, none_of}
use Rattle.coll_shape.specs.declared.types.Buffer.{Buffer}
use Rattle.coll_shape.specs.Folding.{at}
use Rattle.coll_shape.specs.Outline.{Outline, buffer_at, no_buffer}
use Rattle.coll_shape.specs.Meaning.{Lists, lists_of}
use Rattle.run_text.specs.Lines.{buffer_lines, line_at, rest_line, result_line, text_of}

-- a space and a value for each element
abbrev pub spaced : ElemType → List ℕ → List ℕ
spaced ty bytes = flat_map (λ x. 32 ∷ value_word ty x) (elements ty bytes)

pub result_line-puts : (name : List ℕ) (rank : ℕ) (ty : ElemType) (list : List ℕ) →
    result_line name rank ty list ≡ name ++ ((32 ∷ decimal rank) ++ (spaced ty list ++ (10 ∷ [])))
result_line-puts name rank ty list =
    ap (λ xs. xs ++ 10 ∷ []) (join_spaced name (decimal rank ∷ map (value_word ty) (elements ty list)))
    ∙ (ap (λ xs. (name ++ ((32 ∷ decimal rank) ++ xs)) ++ 10 ∷ []) (flat_map-map (λ w. 32 ∷ w) (value_word ty) (elements ty list))
    ∙ (append_assoc name ((32 ∷ decimal rank) ++ spaced ty list) (10 ∷ [])
    ∙ ap (λ xs. name ++ xs) (append_assoc (32 ∷ decimal rank) (spaced ty list) (10 ∷ []))))

-- the lines of a buffer at n ranks from r on
abbrev pub lines_from : Outline → Lists → ℕ → ℕ → ℕ → List ℕ
lines_from o lists b r n = flat_map (line_at o lists b) (from_to r n)

pub lines_from-next : (o : Outline) (lists : Lists) (b r ranks : ℕ) → r < ranks → lines_from o lists b r (ranks - r) ≡ line_at o lists b r
    ++ lines_from o lists b (r + 1) (ranks - (r + 1))
lines_from-next o lists b r ranks in_range =
    ap (lines_from o lists b r) (let left : ranks - r ≡ suc (ranks - (r + 1)) = omega arith in left)
    ∙ ap (λ v. line_at o lists b r ++ lines_from o lists b v (ranks - (r + 1))) (let next : suc r ≡ r + 1 = omega arith in next)

pub lines_from-none : (o : Outline) (lists : Lists) (b r ranks : ℕ) → ranks ≤ r → lines_from o lists b r (ranks - r) ≡ []
lines_from-none o lists b r ranks past = ap (lines_from o lists b r) (let none : ranks - r ≡ 0 = omega arith in none)

pub spaced-next : (ty : ElemType) (rest element behind : List ℕ) (size n : ℕ) → size ≡ bytes_of ty → size ≤ length rest →
    element ≡ take size rest → behind ≡ drop size rest → n ≡ pattern (take (bytes_of ty) element)
    → spaced ty rest ≡ (32 ∷ value_word ty n) ++ spaced ty behind
spaced-next ty rest element behind size n e le front back is =
    let fits : bytes_of ty ≤ length rest = omega (arith, e, le) in
    let own : n ≡ pattern (take (bytes_of ty) rest) = is ∙ ap (λ v. pattern (take (bytes_of ty) v)) (front ∙ ap (λ v. take v rest) e)
    ∙ ap pattern (take-take (bytes_of ty) (bytes_of ty) rest (omega arith)) in
    ap (flat_map (λ x. 32 ∷ value_word ty x)) (first_of ty rest fits)
    ∙ ap (λ v. (32 ∷ value_word ty v) ++ spaced ty (drop (bytes_of ty) rest)) (sym own)
    ∙ ap (λ v. (32 ∷ value_word ty n) ++ spaced ty v) (sym (back ∙ ap (λ v. drop v rest) e))

pub spaced-none : (ty : ElemType) (rest : List ℕ) → length rest < bytes_of ty → spaced ty rest ≡ []
spaced-none ty rest l = ap (flat_map (λ x. 32 ∷ value_word ty x)) (none_of ty rest l)

-- what two parts hold, of which the first is m elements
pub spaced-append : (ty : ElemType) (m : ℕ) (front back : List ℕ) → length front ≡ m * bytes_of ty
    → spaced ty (front ++ back) ≡ spaced ty front ++ spaced ty back
spaced-append ty zero [] back e = ap (λ v. v ++ spaced ty back) (sym (spaced-none ty [] (bytes-pos ty)))
spaced-append ty zero (x ∷ front) back e = absurd (omega (arith, e))
spaced-append ty (suc m) front back e =
    let w = bytes_of ty in
    let n = pattern (take w front) in
    let le : w ≤ length front = omega (arith, e) in
    let more : w ≤ length (front ++ back) = omega (arith, le, length-append front back) in
    let less : length (drop w front) ≡ m * w = omega (arith, e, length-drop w front) in
    let own : n ≡ pattern (take w (take w front)) = ap pattern (sym (take-take w w front (omega arith))) in
    let both = spaced-next ty (front ++ back) (take w front) (drop w front ++ back) w n refl more
    (sym (take-append-le w front back le)) (sym (drop-append-le w front back le)) own in
    let alone = spaced-next ty front (take w front) (drop w front) w n refl le refl refl own in
    both
    ∙ (ap (λ v. (32 ∷ value_word ty n) ++ v) (spaced-append ty m (drop w front) back less)
    ∙ (sym (append_assoc (32 ∷ value_word ty n) (spaced ty (drop w front)) (spaced ty back)) ∙ ap (λ v. v ++ spaced ty back) (sym alone)))

-- one element
pub spaced-one : (ty : ElemType) (element : List ℕ) (n : ℕ) → length element ≡ bytes_of ty → n ≡ pattern (take (bytes_of ty) element)
    → spaced ty element ≡ 32 ∷ value_word ty n
spaced-one ty element n e is =
    let whole : length element ≤ bytes_of ty = omega (arith, e) in
    spaced-next ty element element [] (bytes_of ty) n refl (omega (arith, e))
    (sym (take_all (bytes_of ty) element whole)) (sym (drop_all (bytes_of ty) element whole)) is
    ∙ (ap (λ v. (32 ∷ value_word ty n) ++ v) (spaced-none ty [] (bytes-pos ty)) ∙ append-nil (32 ∷ value_word ty n))

-- the word of a value that has no minus sign, and of one that has
pub plain-word : (ty : ElemType) (n number : ℕ) (negative : Bool) → negative ≡ false
    → value_word ty n ≡ cond negative (45 ∷ decimal number) (decimal number) → value_word ty n ≡ decimal number
plain-word ty n number false is told = told
plain-word ty n number true is told = absurd (cc)

pub signed-word : (ty : ElemType) (n number : ℕ) (negative : Bool) → negative ≡ true
    → value_word ty n ≡ cond negative (45 ∷ decimal number) (decimal number) → value_word ty n ≡ 45 ∷ decimal number
signed-word ty n number true is told = told
signed-word ty n number false is told = absurd (cc)

-- a number of elements without one
pub one-less : (w m len : ℕ) → len ≡ m * w → w ≤ len → 0 < w → (k : ℕ) × (m ≡ suc k) × (len - w ≡ k * w)
one-less w zero len e le some = absurd (omega (arith, e, le, some))
one-less w (suc k) len e le some = (k, refl, omega (arith, e))

-- the last of some elements comes before what is already written
pub spaced-back : (ty : ElemType) (m n : ℕ) (bytes rest front element old new : List ℕ) → rest ≡ front ++ element
    → length front ≡ m * bytes_of ty → length element ≡ bytes_of ty → n ≡ pattern (take (bytes_of ty) element)
    → new ≡ (32 ∷ value_word ty n) ++ old → spaced ty bytes ≡ spaced ty rest ++ old → spaced ty bytes ≡ spaced ty front ++ new
spaced-back ty m n bytes rest front element old new cut whole one is written before =
    let parted : spaced ty rest ≡ spaced ty front ++ (32 ∷ value_word ty n) =
    ap (spaced ty) cut ∙ (spaced-append ty m front element whole ∙ ap (λ v. spaced ty front ++ v) (spaced-one ty element n one is)) in
    before
    ∙ (ap (λ v. v ++ old) parted
    ∙ (append_assoc (spaced ty front) (32 ∷ value_word ty n) old ∙ ap (λ v. spaced ty front ++ v) (sym written)))

-- the line of a rank, from what its parts tell
pub line-is : (o : Outline) (lists : Lists) (b rank : ℕ) (x : Buffer) (bs : List Buffer) (name list : List ℕ) → b < length o.buffers →
    bs ≡ o.buffers → x ≡ get_or bs b x → name ≡ x.name → list ≡ at (lists_of lists b) rank
    → result_line name rank x.ty list ≡ line_at o lists b rank
line-is o lists b rank x bs name list l told is named listed =
    let about : x ≡ buffer_at o b = is ∙ ap (λ v. get_or v b x) told ∙ get_or_default o.buffers b x no_buffer l in
    ap (λ v. result_line v rank x.ty list) named ∙ ap (λ v. result_line x.name rank x.ty v) listed
    ∙ ap (λ (y : Buffer). result_line y.name rank y.ty (at (lists_of lists b) rank)) about

-- ---- lists that agree where they are printed give one text

buffer-same : (o : Outline) (held lists : Lists) (b k n : ℕ) → ((r : ℕ) → r < k + n → at (lists_of held b) r ≡ at (lists_of lists b) r) →
    flat_map (line_at o held b) (from_to k n) ≡ flat_map (line_at o lists b) (from_to k n)
buffer-same o held lists b k zero h = refl
buffer-same o held lists b k (suc n) h =
    ap (λ v. result_line (buffer_at o b).name k (buffer_at o b).ty v ++ flat_map (line_at o held b) (from_to (suc k) n)) (h k (omega arith))
    ∙ ap (λ v. line_at o lists b k ++ v) (buffer-same o held lists b (suc k) n (λ r l. h r (omega (arith, l))))

prints-same : (o : Outline) (held lists : Lists) (prints : List ℕ) →
    ((i r : ℕ) → i < length prints → r < o.ranks → at (lists_of held (get_or prints i 0)) r ≡ at (lists_of lists (get_or prints i 0)) r)
    → flat_map (buffer_lines o held) prints ≡ flat_map (buffer_lines o lists) prints
prints-same o held lists [] h = refl
prints-same o held lists (b ∷ bs) h =
    ap (λ v. v ++ flat_map (buffer_lines o held) bs) (buffer-same o held lists b 0 o.ranks (λ r l. h 0 r (omega arith) (omega (arith, l))))
    ∙ ap (λ v. buffer_lines o lists b ++ v) (prints-same o held lists bs (λ i r l k. h (suc i) r (omega (arith, l)) k))

pub text-same : (o : Outline) (held lists : Lists) → ((i r : ℕ) → i < length o.prints → r < o.ranks →
    at (lists_of held (get_or o.prints i 0)) r ≡ at (lists_of lists (get_or o.prints i 0)) r)
    → text_of o held ≡ text_of o lists
text-same o held lists h = ap (λ v. v ++ rest_line) (prints-same o held lists o.prints h)
