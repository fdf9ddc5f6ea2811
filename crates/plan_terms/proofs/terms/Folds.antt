-- Folds of members.
use Rattle.std.proofs.Common.{ℕ, suc, ◌+◌, ◌^◌, ◌≡◌, ◌<◌, List, [], ◌∷◌, ◌++◌, length, map, take, drop, set, get_or, refl, ap, ap₂}
use Rattle.std.proofs.Common.{sym}
use Rattle.std.proofs.Common.{◌∙◌, subst, arith, drop-cons}
use Rattle.std.proofs.lemmas.List.{set_split, take-append-drop, take_all, take_more}
use Rattle.number_lists.specs.Numbers.{from_to}
use Rattle.ptl_types.specs.declared.elements.AtomicOp.{AtomicOp}
use Rattle.ptl_types.specs.declared.elements.ElemType.{ElemType}
use Rattle.ptl_types.specs.Elements.{pattern}
use Rattle.ptl_types.specs.Operations.{bytes_of, op, span, start_value}
use Rattle.op_laws.proofs.OpLaws.{start-lt, starts}
use Rattle.op_laws.proofs.Swaps.{pattern-lt, span-is}
use Rattle.plan_core.proofs.Drawing.{length-row}
use Rattle.plan_terms.specs.declared.terms.term.Member.{Member}
use Rattle.plan_terms.specs.terms.Terms.{Table, again, fold_from, fold_of, no_member, word_at}
use Rattle.plan_terms.specs.terms.Folds.{AreMore, AreTimes, IsCombined, IsFoldAt, IsMore, IsSettled}
use Rattle.plan_terms.proofs.terms.Again.{again-add, again-below, again-settled, again-swap, op-again}

pub pattern-below : (xs : List ℕ) → pattern xs < 256 ^ length xs
pattern-below xs = subst (λ (ys : List ℕ). pattern ys < 256 ^ length xs) (take_all (length xs) xs (omega arith)) (pattern-lt (length xs) xs)

pub word-below : (V : ℕ → ℕ) (ty : ElemType) (s : ℕ) → word_at V (bytes_of ty) s < span ty
word-below V ty s =
    let n : length (map V (from_to s (bytes_of ty))) ≡ bytes_of ty = length-row V s (bytes_of ty) in
    let h : word_at V (bytes_of ty) s < 256 ^ bytes_of ty =
    subst (λ k. word_at V (bytes_of ty) s < 256 ^ k) n (pattern-below (map V (from_to s (bytes_of ty)))) in
    subst (λ v. word_at V (bytes_of ty) s < v) (sym (span-is ty)) h

pub fold-below : (V : ℕ → ℕ) (o : AtomicOp) (ty : ElemType) (ms : List Member) (z : ℕ) → z < span ty → fold_from V o ty ms z < span ty
fold-below V o ty [] z l = l
fold-below V o ty (m ∷ ms) z l =
    fold-below V o ty ms (again m.times (λ y. op o ty y (word_at V (bytes_of ty) m.word)) z)
    (again-below o ty (word_at V (bytes_of ty) m.word) m.times z (word-below V ty m.word) l)

pub fold-settled : (V : ℕ → ℕ) (o : AtomicOp) (ty : ElemType) (ms : List Member) (z : ℕ) → z < span ty → IsSettled o ty z
    → IsSettled o ty (fold_from V o ty ms z)
fold-settled V o ty [] z l s = s
fold-settled V o ty (m ∷ ms) z l s =
    let x = word_at V (bytes_of ty) m.word in
    let h = word-below V ty m.word in
    fold-settled V o ty ms (again m.times (λ y. op o ty y x) z) (again-below o ty x m.times z h l) (again-settled o ty x m.times z h l s)

-- what comes may come before or after
pub fold-again : (V : ℕ → ℕ) (o : AtomicOp) (ty : ElemType) (ms : List Member) (x n z : ℕ) → x < span ty → z < span ty
    → fold_from V o ty ms (again n (λ y. op o ty y x) z) ≡ again n (λ y. op o ty y x) (fold_from V o ty ms z)
fold-again V o ty [] x n z h l = refl
fold-again V o ty (m ∷ ms) x n z h l =
    let v = word_at V (bytes_of ty) m.word in
    let i = word-below V ty m.word in
    ap (fold_from V o ty ms) (again-swap o ty v x m.times n z i h l)
    ∙ fold-again V o ty ms x n (again m.times (λ y. op o ty y v) z) h (again-below o ty v m.times z i l)

pub fold-append : (V : ℕ → ℕ) (o : AtomicOp) (ty : ElemType) (ms ns : List Member) (z : ℕ)
    → fold_from V o ty (ms ++ ns) z ≡ fold_from V o ty ns (fold_from V o ty ms z)
fold-append V o ty [] ns z = refl
fold-append V o ty (m ∷ ms) ns z = fold-append V o ty ms ns (again m.times (λ y. op o ty y (word_at V (bytes_of ty) m.word)) z)

-- a member more, wherever it stands
pub fold-between : (V : ℕ → ℕ) (o : AtomicOp) (ty : ElemType) (ms ns : List Member) (m : Member) (z : ℕ) → z < span ty
    → fold_from V o ty (ms ++ m ∷ ns) z ≡ again m.times (λ y. op o ty y (word_at V (bytes_of ty) m.word)) (fold_from V o ty (ms ++ ns) z)
fold-between V o ty ms ns m z l =
    let x = word_at V (bytes_of ty) m.word in
    fold-append V o ty ms (m ∷ ns) z
    ∙ fold-again V o ty ns x m.times (fold_from V o ty ms z) (word-below V ty m.word) (fold-below V o ty ms z l)
    ∙ ap (again m.times (λ y. op o ty y x)) (sym (fold-append V o ty ms ns z))

pub push-more : (o : AtomicOp) (ty : ElemType) (ms : List Member) (m : Member) → IsMore o ty ms (ms ++ m ∷ []) m.word m.times
push-more o ty ms m V = fold-append V o ty ms (m ∷ []) (start_value o ty)

-- the list with the member at a place put in the middle
split : (ms : List Member) (at : ℕ) → at < length ms → ms ≡ take at ms ++ get_or ms at no_member ∷ drop (suc at) ms
split ms at h =
    sym (take-append-drop at ms) ∙ ap (λ (ns : List Member). take at ms ++ ns) (drop-cons ms at no_member h)

-- with the member at a place taken for the rest
counted : (V : ℕ → ℕ) (o : AtomicOp) (ty : ElemType) (ms : List Member) (at times n : ℕ) → at < length ms
    → AreTimes o ((get_or ms at no_member).times + times) n
    → again n (λ y. op o ty y (word_at V (bytes_of ty) (get_or ms at no_member).word)) (fold_of V o ty (take at ms ++ drop (suc at) ms))
    ≡ again times (λ y. op o ty y (word_at V (bytes_of ty) (get_or ms at no_member).word)) (fold_of V o ty ms)
counted V o ty ms at times n h good =
    let m = get_or ms at no_member in
    let x = word_at V (bytes_of ty) m.word in
    let rest = fold_of V o ty (take at ms ++ drop (suc at) ms) in
    let f : ℕ → ℕ = λ y. op o ty y x in
    good ty x rest (word-below V ty m.word) (fold-below V o ty (take at ms ++ drop (suc at) ms) (start_value o ty) (start-lt o ty))
    (fold-settled V o ty (take at ms ++ drop (suc at) ms) (start_value o ty) (start-lt o ty) (starts o ty))
    ∙ again-add f m.times times rest
    ∙ ap (again times f) (sym (fold-between V o ty (take at ms) (drop (suc at) ms) m (start_value o ty) (start-lt o ty)))
    ∙ ap (λ (ns : List Member). again times f (fold_of V o ty ns)) (sym (split ms at h))

pub set-more : (o : AtomicOp) (ty : ElemType) (ms : List Member) (at times n : ℕ) (m : Member) → at < length ms
    → AreTimes o ((get_or ms at no_member).times + times) n → m.word ≡ (get_or ms at no_member).word → m.times ≡ n
    → IsMore o ty ms (set ms at m) (get_or ms at no_member).word times
set-more o ty ms at times n m h good word many V =
    ap (fold_of V o ty) (set_split ms at m h)
    ∙ fold-between V o ty (take at ms) (drop (suc at) ms) m (start_value o ty) (start-lt o ty)
    ∙ ap (λ w. again m.times (λ y. op o ty y (word_at V (bytes_of ty) w)) (fold_of V o ty (take at ms ++ drop (suc at) ms))) word
    ∙ ap (λ k. again k (λ y. op o ty y (word_at V (bytes_of ty) (get_or ms at no_member).word))
    (fold_of V o ty (take at ms ++ drop (suc at) ms))) many
    ∙ counted V o ty ms at times n h good

pub remove-more : (o : AtomicOp) (ty : ElemType) (ms : List Member) (at times n : ℕ) → at < length ms
    → AreTimes o ((get_or ms at no_member).times + times) n → n ≡ 0
    → IsMore o ty ms (take at ms ++ drop (suc at) ms) (get_or ms at no_member).word times
remove-more o ty ms at times n h good none V =
    ap (λ k. again k (λ y. op o ty y (word_at V (bytes_of ty) (get_or ms at no_member).word))
    (fold_of V o ty (take at ms ++ drop (suc at) ms))) (sym none)
    ∙ counted V o ty ms at times n h good

-- partial folds may be combined
pub op-fold : (V : ℕ → ℕ) (o : AtomicOp) (ty : ElemType) (ms : List Member) (a z : ℕ) → a < span ty → z < span ty
    → op o ty a (fold_from V o ty ms z) ≡ fold_from V o ty ms (op o ty a z)
op-fold V o ty [] a z i l = refl
op-fold V o ty (m ∷ ms) a z i l =
    let x = word_at V (bytes_of ty) m.word in
    let h = word-below V ty m.word in
    op-fold V o ty ms a (again m.times (λ y. op o ty y x) z) i (again-below o ty x m.times z h l)
    ∙ ap (fold_from V o ty ms) (op-again o ty x a m.times z h i l)

-- a fold may go on where another ended
pub fold-joined : (V : ℕ → ℕ) (o : AtomicOp) (ty : ElemType) (ms ns : List Member)
    → fold_from V o ty ms (fold_of V o ty ns) ≡ op o ty (fold_of V o ty ns) (fold_of V o ty ms)
fold-joined V o ty ms ns =
    let s = start_value o ty in
    let l = start-lt o ty in
    ap (fold_from V o ty ms) (sym (fold-settled V o ty ns s l (starts o ty)))
    ∙ sym (op-fold V o ty ms (fold_of V o ty ns) s (fold-below V o ty ns s l) l)

-- ---- members one after the other
pub no_more : (o : AtomicOp) (ty : ElemType) (ms : List Member) → AreMore o ty ms ms []
no_more o ty ms V = refl

pub one_more_member : (o : AtomicOp) (ty : ElemType) (old now new ms : List Member) (i : ℕ) → i < length ms
    → AreMore o ty old now (take i ms) → IsMore o ty now new (get_or ms i no_member).word (get_or ms i no_member).times
    → AreMore o ty old new (take (i + 1) ms)
one_more_member o ty old now new ms i h so_far more V =
    let m = get_or ms i no_member in
    let f : ℕ → ℕ = again m.times (λ y. op o ty y (word_at V (bytes_of ty) m.word)) in
    more V
    ∙ ap f (so_far V)
    ∙ sym (fold-append V o ty (take i ms) (m ∷ []) (fold_of V o ty old))
    ∙ ap (λ (ns : List Member). fold_from V o ty ns (fold_of V o ty old)) (sym (take_more ms i no_member h))

-- ---- members in another order
pub more_after : (o : AtomicOp) (ty : ElemType) (old now new : List Member) (word times : ℕ) → AreMore o ty old now []
    → IsMore o ty now new word times → IsMore o ty old new word times
more_after o ty old now new word times same more V = more V ∙ ap (again times (λ y. op o ty y (word_at V (bytes_of ty) word))) (same V)

pub all_after : (o : AtomicOp) (ty : ElemType) (old now new ms : List Member) → AreMore o ty old now [] → AreMore o ty now new ms
    → AreMore o ty old new ms
all_after o ty old now new ms same more V = more V ∙ ap (fold_from V o ty ms) (same V)

-- a list whose halves were put in order, and then together
pub halves_more : (o : AtomicOp) (ty : ElemType) (list first second early late all : List Member) → list ≡ first ++ second
    → AreMore o ty first early [] → AreMore o ty second late [] → AreMore o ty early all late → AreMore o ty list all []
halves_more o ty list first second early late all whole before after more V =
    more V
    ∙ fold-joined V o ty late early
    ∙ ap₂ (op o ty) (before V) (after V)
    ∙ sym (fold-joined V o ty second first)
    ∙ sym (fold-append V o ty first second (start_value o ty))
    ∙ ap (fold_of V o ty) (sym whole)

-- ---- two lists at once
-- the next member of the list that the others go on from
pub one_member_before : (o : AtomicOp) (ty : ElemType) (first now new ms : List Member) (i : ℕ) → i < length first
    → AreMore o ty (take i first) now ms → IsMore o ty now new (get_or first i no_member).word (get_or first i no_member).times
    → AreMore o ty (take (i + 1) first) new ms
one_member_before o ty first now new ms i h so_far more V =
    let m = get_or first i no_member in
    let x = word_at V (bytes_of ty) m.word in
    let f : ℕ → ℕ = again m.times (λ y. op o ty y x) in
    let s = start_value o ty in
    let begun : ℕ = fold_of V o ty (take i first) in
    more V
    ∙ ap f (so_far V)
    ∙ sym (fold-again V o ty ms x m.times begun (word-below V ty m.word) (fold-below V o ty (take i first) s (start-lt o ty)))
    ∙ ap (fold_from V o ty ms) (sym (fold-append V o ty (take i first) (m ∷ []) s))
    ∙ ap (λ (ns : List Member). fold_from V o ty ms (fold_of V o ty ns)) (sym (take_more first i no_member h))

pub first_goes_on : (o : AtomicOp) (ty : ElemType) (first second old new all : List Member) (i j k n : ℕ) → i < length first → k ≡ i + 1
    → n ≡ j → all ≡ new → AreMore o ty (take i first) old (take j second)
    → IsMore o ty old new (get_or first i no_member).word (get_or first i no_member).times → AreMore o ty (take k first) all (take n second)
first_goes_on o ty first second old new all i j k n h ek en e so_far more V =
    ap (fold_of V o ty) e
    ∙ one_member_before o ty first old new (take j second) i h so_far more V
    ∙ ap (λ m. fold_from V o ty (take j second) (fold_of V o ty (take m first))) (sym ek)
    ∙ ap (λ m. fold_from V o ty (take m second) (fold_of V o ty (take k first))) (sym en)

pub second_goes_on : (o : AtomicOp) (ty : ElemType) (first second old new all : List Member) (i j k n : ℕ) → j < length second → k ≡ i
    → n ≡ j + 1 → all ≡ new → AreMore o ty (take i first) old (take j second)
    → IsMore o ty old new (get_or second j no_member).word (get_or second j no_member).times → AreMore o ty (take k first) all (take n
    second)
second_goes_on o ty first second old new all i j k n h ek en e so_far more V =
    ap (fold_of V o ty) e
    ∙ one_more_member o ty (take i first) old new second j h so_far more V
    ∙ ap (λ m. fold_from V o ty (take (j + 1) second) (fold_of V o ty (take m first))) (sym ek)
    ∙ ap (λ m. fold_from V o ty (take m second) (fold_of V o ty (take k first))) (sym en)

-- ---- a word more
pub combined_fold : (t : Table) (o : AtomicOp) (ty : ElemType) (old new ms : List Member) (s : ℕ) → AreMore o ty old new ms
    → IsFoldAt t o ty s ms → IsCombined t o ty old new s
combined_fold t o ty old new ms s more is inputs V solution =
    more V ∙ fold-joined V o ty ms old ∙ ap (op o ty (fold_of V o ty old)) (sym (is inputs V solution))

pub combined_word : (t : Table) (o : AtomicOp) (ty : ElemType) (old new : List Member) (s : ℕ) → IsMore o ty old new s 1
    → IsCombined t o ty old new s
combined_word t o ty old new s more inputs V solution = more V
