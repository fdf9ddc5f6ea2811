-- The areas of an interface before its start: room for every message of its links, and what lies where.
use Rattle.std.proofs.Common.{if◌then◌else◌, ℕ, zero, suc, Bool, true, false, cond, ◌+◌, ◌-◌, ◌*◌, ◌/◌, ◌%◌, ◌≡◌, ◌≤◌, ◌<◌, ◌==◌, List, []}
use Rattle.std.proofs.Common.{◌∷◌, ◌++◌, refl, length, ap, ap₂, ◌∙◌, sym, subst, inl, inr, arith, map, filter, flat_map, Option, Some, None}
use Rattle.std.proofs.Common.{eqb-true, eq-eqb, append-nil, append_assoc, add-zero, zero-add, sum_by, length-append, zero-le}
use Rattle.std.proofs.lemmas.Bool.{ne_eqb, eqb-false, and_from}
use Rattle.std.proofs.lemmas.List.{replicate-append-replicate, length-replicate}
use Rattle.std.proofs.lemmas.List.Elements.{filter-append}
use Rattle.std.proofs.lemmas.List.Sums.{sum_by-cons, sum_by-append}
use Rattle.std.proofs.lemmas.Grind.{flat_map-append}
use Rattle.op_laws.proofs.Bytes.{length-combined, length-repeated, part_all, written_all}
use Rattle.plan_core.proofs.Flat.{part-append_left, part-append_right, written-append_left, written-append_right}
use Rattle.plan_core.proofs.Links.{Distinct-from_to, In-from_to, from_to-In}
use Rattle.plan_core.proofs.Lists.{Distinct-filter, In-append_right, In-filter, In-filter_cases, In-map_cases, left, length-Within}
use Rattle.plan_core.proofs.Lists.{length-map', without}
use Rattle.plan_core.specs.Members.{Distinct, In, Within}
use Rattle.plan_core.specs.Plan.{Plan, all_links, cell, from_to, link}
use Rattle.plan_core.specs.Sound.{SoundPlan}
use Rattle.plan_core.specs.Values.{Inputs}
use Rattle.plan_core.specs.calls.Areas.{area_length, blank_area, blank_as, classes, comes_to, has_class, is_class, link_class, links_to}
use Rattle.plan_core.specs.calls.Bits.{class_op, class_type, op_at, type_at, class_of, op_number, type_number}
use Rattle.cuts.specs.start.Waiting.{area, came_class, filled, of_class, stored, stored_as}
use Rattle.cuts.specs.machine.Machine.{link_of}
use Rattle.cuts.specs.machine.Seen.{Came}
use Rattle.cuts.proofs.view.StepArrive.{atomic-whole, op_number-le, type_number-le}
use Rattle.cuts.specs.view.Steps.{IsLinkHere}
use Rattle.ptl_types.specs.Elements.{little_endian, part, repeated, starting, written}
use Rattle.ptl_types.specs.Operations.{bytes_of, start_value}
use Rattle.ptl_types.specs.declared.elements.AtomicOp.{AtomicOp}
use Rattle.ptl_types.specs.declared.elements.AtomicOp.TheVariants.{Band, Bor, Bxor, Land, Lor, Lxor, Max, Min, Prod, Sum}
use Rattle.ptl_types.specs.declared.elements.ElemType.{ElemType}
use Rattle.ptl_types.specs.declared.elements.ElemType.TheVariants.{I16, I32, I64, I8, U16, U32, U64, U8}

-- ---- a class tells its operation and type
op_at-number : (o : AtomicOp) → op_at (op_number o) ≡ o
op_at-number Min = refl
op_at-number Max = refl
op_at-number Sum = refl
op_at-number Prod = refl
op_at-number Lor = refl
op_at-number Land = refl
op_at-number Bor = refl
op_at-number Band = refl
op_at-number Lxor = refl
op_at-number Bxor = refl

type_at-number : (t : ElemType) → type_at (type_number t) ≡ t
type_at-number U8 = refl
type_at-number I8 = refl
type_at-number U16 = refl
type_at-number I16 = refl
type_at-number U32 = refl
type_at-number I32 = refl
type_at-number U64 = refl
type_at-number I64 = refl

pub class_op-of : (o : Option AtomicOp) (t : ElemType) → class_op (class_of o t) ≡ o
class_op-of None t = refl
class_op-of (Some o) t =
    let a = type_number-le t in
    let n : (1 + 8 * op_number o + type_number t == 0) ≡ false = ne_eqb _ _ (λ e. absurd (omega arith)) in
    let q : (1 + 8 * op_number o + type_number t - 1) / 8 ≡ op_number o = omega arith in
    ap₂ (λ b m. cond b None (Some (op_at m))) n q ∙ ap Some (op_at-number o)

pub class_type-of : (o : AtomicOp) (t : ElemType) → class_type (class_of (Some o) t) ≡ t
class_type-of o t =
    let a = type_number-le t in
    let q : (1 + 8 * op_number o + type_number t - 1) % 8 ≡ type_number t = omega arith in
    ap type_at q ∙ type_at-number t

pub class-small : (o : Option AtomicOp) (t : ElemType) → class_of o t < 81
class-small None t = omega arith
class-small (Some o) t = let a = op_number-le o in let b = type_number-le t in omega arith

-- ---- whole repeated
pub whole-add : (t : ElemType) (a b : ℕ) → a % bytes_of t ≡ 0 → b % bytes_of t ≡ 0 → ((a + b) % bytes_of t ≡ 0) ×
    ((a + b) / bytes_of t ≡ a / bytes_of t + b / bytes_of t)
whole-add U8 a b h k = (omega arith, omega arith)
whole-add I8 a b h k = (omega arith, omega arith)
whole-add U16 a b h k = (omega arith, omega arith)
whole-add I16 a b h k = (omega arith, omega arith)
whole-add U32 a b h k = (omega arith, omega arith)
whole-add I32 a b h k = (omega arith, omega arith)
whole-add U64 a b h k = (omega arith, omega arith)
whole-add I64 a b h k = (omega arith, omega arith)

whole-sub : (t : ElemType) (a b : ℕ) → a % bytes_of t ≡ 0 → b % bytes_of t ≡ 0 → (a - b) % bytes_of t ≡ 0
whole-sub U8 a b h k = omega arith
whole-sub I8 a b h k = omega arith
whole-sub U16 a b h k = omega arith
whole-sub I16 a b h k = omega arith
whole-sub U32 a b h k = omega arith
whole-sub I32 a b h k = omega arith
whole-sub U64 a b h k = omega arith
whole-sub I64 a b h k = omega arith

whole-zero : (t : ElemType) → 0 % bytes_of t ≡ 0
whole-zero U8 = refl
whole-zero I8 = refl
whole-zero U16 = refl
whole-zero I16 = refl
whole-zero U32 = refl
whole-zero I32 = refl
whole-zero U64 = refl
whole-zero I64 = refl

-- n is whole for class k
abbrev pub IsWhole : ℕ → ℕ → Type 0
IsWhole k n = (o : AtomicOp) → class_op k ≡ Some o → n % bytes_of (class_type k) ≡ 0

elements-append : (w a b x : ℕ) → repeated w (a + b) x ≡ repeated w a x ++ repeated w b x
elements-append w zero b x = ap (λ n. repeated w n x) (zero-add b)
elements-append w (suc a) b x =
    let e : suc a + b ≡ suc (a + b) = omega arith in
    rw e (ap (λ v. little_endian w x ++ v) (elements-append w a b x)
    ∙ sym (append_assoc (little_endian w x) (repeated w a x) (repeated w b x)))

blank_as-add : (o : Option AtomicOp) (t : ElemType) (n j : ℕ) →
    ((v : AtomicOp) → o ≡ Some v → (n % bytes_of t ≡ 0) × (j % bytes_of t ≡ 0)) → blank_as o t (n + j) ≡ blank_as o t n ++ blank_as o t j
blank_as-add None t n j w = sym (replicate-append-replicate n j 0)
blank_as-add (Some v) t n j w =
    let q = w v refl in
    ap (λ m. repeated (bytes_of t) m (start_value v t)) (whole-add t n j q.0 q.1).1
    ∙ elements-append (bytes_of t) (n / bytes_of t) (j / bytes_of t) (start_value v t)

length-blank_as : (o : Option AtomicOp) (t : ElemType) (n : ℕ) → ((v : AtomicOp) → o ≡ Some v → n % bytes_of t ≡ 0) →
    length (blank_as o t n) ≡ n
length-blank_as None t n w = length-replicate n 0
length-blank_as (Some v) t n w = length-repeated v t n (w v refl)

pub blank-add : (k n j : ℕ) → IsWhole k n → IsWhole k j → blank_area k (n + j) ≡ blank_area k n ++ blank_area k j
blank-add k n j h i = blank_as-add (class_op k) (class_type k) n j (λ v e. (h v e, i v e))

pub length-blank : (k n : ℕ) → IsWhole k n → length (blank_area k n) ≡ n
length-blank k n h = length-blank_as (class_op k) (class_type k) n h

-- ---- sums
sum-without : {X : Type 0} (f : X → ℕ) (x : X) (ys : List X) (h : In x ys) → sum_by f ys ≡ f x + sum_by f (without x ys h)
sum-without f x [] h = absurd h
sum-without f x (y ∷ ys) (inl e) = sum_by-cons f y ys ∙ ap (λ v. f v + sum_by f ys) e
sum-without f x (y ∷ ys) (inr h) = let i = sum-without f x ys h in let j = sum_by-cons f y ys in let k =
    sum_by-cons f y (without x ys h) in
    omega (arith, i, j, k)

pub sum-Within : {X : Type 0} (f : X → ℕ) (xs ys : List X) → Distinct xs → Within xs ys → sum_by f xs ≤ sum_by f ys
sum-Within f [] ys d w = zero-le
sum-Within f (x ∷ xs) ys d w =
    let h : In x ys = w x (inl refl) in
    let i = sum-Within f xs (without x ys h) d.1 (left x xs ys h d.0 (λ v j. w v (inr j))) in
    let a = sum_by-cons f x xs in
    let b = sum-without f x ys h in
    omega (arith, i, a, b)

sum_by-map' : {X Y : Type 0} (f : Y → ℕ) (g : X → Y) (xs : List X) → sum_by f (map g xs) ≡ sum_by (λ x. f (g x)) xs
sum_by-map' f g [] = refl
sum_by-map' f g (x ∷ xs) = sum_by-cons f (g x) (map g xs) ∙ ap (λ n. f (g x) + n) (sum_by-map' f g xs)
    ∙ sym (sum_by-cons (λ y. f (g y)) x xs)

sum-whole : {X : Type 0} (k : ℕ) (f : X → ℕ) (xs : List X) → ((x : X) → In x xs → IsWhole k (f x)) → IsWhole k (sum_by f xs)
sum-whole k f [] h = λ o e. whole-zero (class_type k)
sum-whole k f (x ∷ xs) h = λ o e. subst (λ n. n % bytes_of (class_type k) ≡ 0) (sym (sum_by-cons f x xs))
    (whole-add (class_type k) (f x) (sum_by f xs) (h x (inl refl) o e) (sum-whole k f xs (λ y i. h y (inr i)) o e)).0

-- ---- messages that may lie in the areas
pub record MayLie (p : Plan) (r : ℕ) (early : List Came) : Type 0 where
  pub here : (a : Came) → In a early → IsLinkHere p r a.link
  pub size : (a : Came) → In a early → length a.bytes ≡ (link p a.link).length
  pub once : Distinct (map link_of early)

module _ (p : Plan) (inputs : Inputs) (sound : SoundPlan p (length inputs)) (r : ℕ) where
  pub link-comes : (l : ℕ) → IsLinkHere p r l → In l (links_to p r)
  link-comes l h = In-filter (comes_to p r) l (all_links p) (In-from_to 0 (length p.links) l zero-le (let k = h.known in omega arith))
      (and_from _ _ (ap Rattle.std.proofs.Common.not h.sends) (eq-eqb _ _ h.here))

  links_to-In : (l : ℕ) → In l (links_to p r) → IsLinkHere p r l
  links_to-In l i =
      let q = In-filter_cases (comes_to p r) l (all_links p) i in
      let a = Rattle.std.proofs.lemmas.Bool.and_parts _ _ q.1 in
      let b = from_to-In 0 (length p.links) l q.0 in
      record { known = omega arith; sends = Rattle.std.proofs.lemmas.Bool.not-true _ a.0; here = eqb-true _ _ a.1 }

  -- the class of a link is one of the rank's
  pub link-class : (l : ℕ) → IsLinkHere p r l → In (link_class p l) (classes p r)
  link-class l h =
      In-filter (λ k. has_class p k (links_to p r)) (link_class p l) (from_to 0 81)
      (In-from_to 0 81 (link_class p l) zero-le (let q = class-small (cell p (link p l).target).op (cell p (link p l).target).ty in
      omega arith))
      (found (links_to p r) (link-comes l h))
    where
      found : (ls : List ℕ) → In l ls → has_class p (link_class p l) ls ≡ true
      found [] i = absurd i
      found (m ∷ ls) i = at (link_class p m == link_class p l) refl i (found ls)
        where
          at : (b : Bool) → (link_class p m == link_class p l) ≡ b → In l (m ∷ ls) → (In l ls → has_class p (link_class p l) ls ≡ true) →
              Rattle.std.proofs.Common.◌||◌ b (has_class p (link_class p l) ls) ≡ true
          at true e i rest = refl
          at false e (inl q) rest = absurd (eqb-false _ _ e (ap (link_class p) q))
          at false e (inr i) rest = rest i

  pub Distinct-classes : Distinct (classes p r)
  Distinct-classes = Distinct-filter (λ k. has_class p k (links_to p r)) (from_to 0 81) (Distinct-from_to 0 81)

  pub classes-small : (k : ℕ) → In k (classes p r) → k < 81
  classes-small k i = let q = In-filter_cases (λ j. has_class p j (links_to p r)) k (from_to 0 81) i in let b = from_to-In 0 81 k q.0 in
      omega arith

  -- a link's length is whole for its class
  pub link-whole : (k l : ℕ) → IsLinkHere p r l → link_class p l ≡ k → IsWhole k (link p l).length
  link-whole k l h e = λ o q. let same : (cell p (link p l).target).op ≡ Some o =
      sym (class_op-of (cell p (link p l).target).op (cell p (link p l).target).ty) ∙ ap class_op e ∙ q in
      let ty : class_type k ≡ (cell p (link p l).target).ty = ap class_type (sym e)
      ∙ ap (λ v. class_type (class_of v (cell p (link p l).target).ty)) same ∙ class_type-of o (cell p (link p l).target).ty in
      subst (λ t. (link p l).length % bytes_of t ≡ 0) (sym ty) (atomic-whole p inputs sound r l h o same)

  -- ---- room
  pub length-links : (k : ℕ) → IsWhole k (area_length p r k)
  length-links k = sum-whole k (λ l. (link p l).length) (filter (is_class p k) (links_to p r))
      (λ l i. let q = In-filter_cases (is_class p k) l (links_to p r) i in link-whole k l (links_to-In l q.0) (eqb-true _ _ q.1))

  of_class-map : (k : ℕ) (cs : List Came) → map link_of (of_class p k cs) ≡ filter (is_class p k) (map link_of cs)
  of_class-map k [] = refl
  of_class-map k (a ∷ cs) = at (came_class p k a) (of_class-map k cs)
    where
      at : (b : Bool) → map link_of (of_class p k cs) ≡ filter (is_class p k) (map link_of cs) →
          map link_of (cond b (a ∷ of_class p k cs) (of_class p k cs)) ≡ cond b (a.link ∷ filter (is_class p k) (map link_of cs))
          (filter (is_class p k) (map link_of cs))
      at true rest = ap (λ v. a.link ∷ v) rest
      at false rest = rest

  filled-is : (k : ℕ) (cs : List Came) → filled p k cs ≡ sum_by (λ l. (link p l).length) (filter (is_class p k) (map link_of cs))
  filled-is k cs = sym (sum_by-map' (λ l. (link p l).length) link_of (of_class p k cs))
      ∙ ap (sum_by (λ l. (link p l).length)) (of_class-map k cs)

  within-links : (cs : List Came) → MayLie p r cs → Within (map link_of cs) (links_to p r)
  within-links cs h l i = let q = In-map_cases link_of l cs i in subst (λ v. In v (links_to p r)) q.2 (link-comes q.0.link (h.here q.0 q.1))

  pub filled-fits : (k : ℕ) (cs : List Came) → MayLie p r cs → filled p k cs ≤ area_length p r k
  filled-fits k cs h =
      subst (λ n. n ≤ area_length p r k) (sym (filled-is k cs))
      (sum-Within (λ l. (link p l).length) (filter (is_class p k) (map link_of cs)) (filter (is_class p k) (links_to p r))
      (Distinct-filter (is_class p k) (map link_of cs) h.once)
      (λ l i. let q = In-filter_cases (is_class p k) l (map link_of cs) i in
      In-filter (is_class p k) l (links_to p r) (within-links cs h l q.0) q.1))

  pub at_most-early : (cs : List Came) → MayLie p r cs → length cs ≤ length (links_to p r)
  at_most-early cs h = subst (λ n. n ≤ length (links_to p r)) (length-map' link_of cs)
      (length-Within (map link_of cs) (links_to p r) h.once (within-links cs h))

  pub filled-whole : (k : ℕ) (cs : List Came) → MayLie p r cs → IsWhole k (filled p k cs)
  filled-whole k cs h = sum-whole k (λ a. (link p a.link).length) (of_class p k cs)
      (λ a i. let q = In-filter_cases (came_class p k) a cs i in link-whole k a.link (h.here a q.0) (eqb-true _ _ q.1))

  left-whole : (k : ℕ) (cs : List Came) → MayLie p r cs → IsWhole k (area_length p r k - filled p k cs)
  left-whole k cs h = λ o e. whole-sub (class_type k) (area_length p r k) (filled p k cs) (length-links k o e) (filled-whole k cs h o e)

  -- ---- lengths
  pub length-stored : (a : Came) → IsLinkHere p r a.link → length a.bytes ≡ (link p a.link).length →
      length (stored p a) ≡ (link p a.link).length
  length-stored a h e = at (cell p (link p a.link).target).op refl
    where
      at : (o : Option AtomicOp) → (cell p (link p a.link).target).op ≡ o →
          length (stored_as o (cell p (link p a.link).target).ty a.bytes) ≡ (link p a.link).length
      at None q = e
      at (Some o) q =
          let w : length a.bytes % bytes_of (cell p (link p a.link).target).ty ≡ 0 = rw e (atomic-whole p inputs sound r a.link h o q) in
          let n = length-repeated o (cell p (link p a.link).target).ty (length a.bytes) w in
          length-combined o (cell p (link p a.link).target).ty (starting o (cell p (link p a.link).target).ty (length a.bytes)) a.bytes
          (rw n w) ∙ n ∙ e

  length-all_stored : (cs : List Came) → ((a : Came) → In a cs → IsLinkHere p r a.link × (length a.bytes ≡ (link p a.link).length)) →
      length (flat_map (stored p) cs) ≡ sum_by (λ a. (link p a.link).length) cs
  length-all_stored [] h = refl
  length-all_stored (a ∷ cs) h =
      let q = h a (inl refl) in
      length-append (stored p a) (flat_map (stored p) cs) ∙ ap₂ (λ x y. x + y) (length-stored a q.0 q.1)
      (length-all_stored cs (λ b i. h b (inr i))) ∙ sym (sum_by-cons (λ b. (link p b.link).length) a cs)

  stored-filled : (k : ℕ) (cs : List Came) → MayLie p r cs → length (flat_map (stored p) (of_class p k cs)) ≡ filled p k cs
  stored-filled k cs h = length-all_stored (of_class p k cs) (λ a i. let q = In-filter_cases (came_class p k) a cs i in
      (h.here a q.0, h.size a q.0))

  pub length-area : (k : ℕ) (cs : List Came) → MayLie p r cs → length (area p r cs k) ≡ area_length p r k
  length-area k cs h =
      let a = length-append (flat_map (stored p) (of_class p k cs)) (blank_area k (area_length p r k - filled p k cs)) in
      let b = stored-filled k cs h in
      let c = length-blank k (area_length p r k - filled p k cs) (left-whole k cs h) in
      let d = filled-fits k cs h in
      omega (arith, a, b, c, d)

  -- ---- a message lands in its area
  pub of_class-push : (k : ℕ) (cs : List Came) (a : Came) → of_class p k (cs ++ a ∷ []) ≡ of_class p k cs ++
      (if came_class p k a then a ∷ [] else [])
  of_class-push k cs a = filter-append (came_class p k) cs (a ∷ [])

  pub filled-push : (k : ℕ) (cs : List Came) (a : Came) → link_class p a.link ≡ k →
      filled p k (cs ++ a ∷ []) ≡ filled p k cs + (link p a.link).length
  filled-push k cs a e =
      ap (sum_by (λ b. (link p b.link).length)) (of_class-push k cs a ∙ ap (λ t. of_class p k cs ++ cond t (a ∷ []) []) (eq-eqb _ _ e))
      ∙ sum_by-append (λ b. (link p b.link).length) (of_class p k cs) (a ∷ [])
      ∙ ap (λ n. filled p k cs + n) (sum_by-cons (λ b. (link p b.link).length) a [] ∙ add-zero (link p a.link).length)

  pub class-kept : (k : ℕ) (cs : List Came) (a : Came) → (link_class p a.link ≡ k → ⊥) → of_class p k (cs ++ a ∷ []) ≡ of_class p k cs
  class-kept k cs a n = of_class-push k cs a ∙ ap (λ t. of_class p k cs ++ cond t (a ∷ []) []) (ne_eqb _ _ n) ∙ append-nil (of_class p k cs)

  -- the blank part of an area: first what a message takes, then the rest
  blank-next : (k : ℕ) (cs : List Came) (a : Came) → MayLie p r (cs ++ a ∷ []) → MayLie p r cs → IsLinkHere p r a.link →
      link_class p a.link ≡ k
      → blank_area k (area_length p r k - filled p k cs) ≡ blank_area k (link p a.link).length ++ blank_area k
      (area_length p r k - filled p k (cs ++ a ∷ []))
  blank-next k cs a more h here e =
      let f = filled-push k cs a e in
      let m = filled-fits k (cs ++ a ∷ []) more in
      let q : area_length p r k - filled p k cs ≡ (link p a.link).length + (area_length p r k - filled p k (cs ++ a ∷ [])) =
      omega (arith, f, m) in
      ap (blank_area k) q ∙ blank-add k (link p a.link).length (area_length p r k - filled p k (cs ++ a ∷ []))
      (link-whole k a.link here e) (left-whole k (cs ++ a ∷ []) more)

  pub area-old : (k : ℕ) (cs : List Came) (a : Came) → MayLie p r (cs ++ a ∷ []) → MayLie p r cs → IsLinkHere p r a.link →
      link_class p a.link ≡ k
      → part (filled p k cs) (link p a.link).length (area p r cs k) ≡ blank_area k (link p a.link).length
  area-old k cs a more h here e =
      let n = length-blank k (link p a.link).length (link-whole k a.link here e) in
      let b = blank_area k (link p a.link).length in
      let rest = blank_area k (area_length p r k - filled p k (cs ++ a ∷ [])) in
      let front = flat_map (stored p) (of_class p k cs) in
      let l = length-append (blank_area k (link p a.link).length) (blank_area k (area_length p r k - filled p k (cs ++ a ∷ []))) in
      ap (λ v. part (filled p k cs) (link p a.link).length (front ++ v)) (blank-next k cs a more h here e)
      ∙ ap (λ m. part m (link p a.link).length (front ++ (b ++ rest))) (sym (add-zero (filled p k cs)))
      ∙ part-append_right 0 (filled p k cs) (link p a.link).length front (b ++ rest) (sym (stored-filled k cs h)) (omega (arith, l, n))
      ∙ part-append_left 0 (link p a.link).length b rest (omega (arith, n))
      ∙ part_all (link p a.link).length b n

  pub area-push : (k : ℕ) (cs : List Came) (a : Came) → MayLie p r (cs ++ a ∷ []) → MayLie p r cs → IsLinkHere p r a.link →
      length a.bytes ≡ (link p a.link).length → link_class p a.link ≡ k
      → area p r (cs ++ a ∷ []) k ≡ written (filled p k cs) (stored p a) (area p r cs k)
  area-push k cs a more h here size e =
      let n = length-blank k (link p a.link).length (link-whole k a.link here e) in
      let m = length-stored a here size in
      let b = blank_area k (link p a.link).length in
      let rest = blank_area k (area_length p r k - filled p k (cs ++ a ∷ [])) in
      let front = flat_map (stored p) (of_class p k cs) in
      let l = length-append (blank_area k (link p a.link).length) (blank_area k (area_length p r k - filled p k (cs ++ a ∷ []))) in
      sym (
      ap (λ v. written (filled p k cs) (stored p a) (front ++ v)) (blank-next k cs a more h here e)
      ∙ ap (λ j. written j (stored p a) (front ++ (b ++ rest))) (sym (add-zero (filled p k cs)))
      ∙ written-append_right 0 (filled p k cs) (stored p a) front (b ++ rest) (sym (stored-filled k cs h)) (omega (arith, l, n, m))
      ∙ ap (λ v. front ++ v) (written-append_left 0 (stored p a) b rest (omega (arith, n, m))
      ∙ ap (λ v. v ++ rest) (written_all (stored p a) b (m ∙ sym n)))
      ∙ sym (append_assoc front (stored p a) rest)
      ∙ ap (λ v. v ++ rest) (ap (λ v. front ++ v) (sym (append-nil (stored p a)))
      ∙ sym (flat_map-append (stored p) (of_class p k cs) (a ∷ []))
      ∙ ap (flat_map (stored p)) (sym (of_class-push k cs a ∙ ap (λ t. of_class p k cs ++ cond t (a ∷ []) []) (eq-eqb _ _ e)))))

  -- ---- what lies at the place of a message, whatever came later
  pub area-part : (k : ℕ) (front : List Came) (a : Came) (later : List Came) → MayLie p r (front ++ a ∷ later) → MayLie p r front →
      link_class p a.link ≡ k
      → part (filled p k front) (link p a.link).length (area p r (front ++ a ∷ later) k) ≡ stored p a
  area-part k front a later h hf e =
      let at_a = In-append_right a front (a ∷ later) (inl refl) in
      let m = length-stored a (h.here a at_a) (h.size a at_a) in
      let f = flat_map (stored p) (of_class p k front) in
      let g = flat_map (stored p) (of_class p k later) in
      let b = blank_area k (area_length p r k - filled p k (front ++ a ∷ later)) in
      let split : flat_map (stored p) (of_class p k (front ++ a ∷ later)) ≡ f ++ (stored p a ++ g) =
      ap (flat_map (stored p)) (filter-append (came_class p k) front (a ∷ later)
      ∙ ap (λ t. of_class p k front ++ cond t (a ∷ of_class p k later) (of_class p k later)) (eq-eqb _ _ e))
      ∙ flat_map-append (stored p) (of_class p k front) (a ∷ of_class p k later) in
      let l = length-append (stored p a) (g ++ b) in
      ap (λ v. part (filled p k front) (link p a.link).length (v ++ b)) split
      ∙ ap (part (filled p k front) (link p a.link).length) (append_assoc f (stored p a ++ g) b
      ∙ ap (λ v. f ++ v) (append_assoc (stored p a) g b))
      ∙ ap (λ j. part j (link p a.link).length (f ++ (stored p a ++ (g ++ b)))) (sym (add-zero (filled p k front)))
      ∙ part-append_right 0 (filled p k front) (link p a.link).length f (stored p a ++ (g ++ b)) (sym (stored-filled k front hf))
      (omega (arith, l, m))
      ∙ part-append_left 0 (link p a.link).length (stored p a) (g ++ b) (omega (arith, m))
      ∙ part_all (link p a.link).length (stored p a) m
