-- One more cell with its links: what was stays, in the plan and in its values.
use Rattle.std.proofs.Common.{ℕ, zero, suc, Bool, true, false, cond, ◌+◌, ◌-◌, ◌==◌, ◌≡◌, ◌≤◌, ◌<◌, List, [], ◌∷◌, ◌++◌, refl, length, map}
use Rattle.std.proofs.Common.{filter, get_or, ap, ap₂, ◌∙◌, sym, subst, inl, inr, arith, eq-eqb, length-append, le_of_suc-le-suc}
use Rattle.std.proofs.lemmas.Bool.{ne_eqb}
use Rattle.std.proofs.lemmas.List.{get_or_append_left, get_or_at, get_or-append-add}
use Rattle.ptl_types.specs.Elements.{part}
use Rattle.plan_core.proofs.Links.{from_to-In, in_links-In}
use Rattle.plan_core.proofs.Lists.{length-map'}
use Rattle.plan_core.proofs.Values.{get_or-values, value-is}
use Rattle.plan_core.proofs.Growth.{filter-same, filter-none, from_to-append}
use Rattle.plan_core.specs.Draw.{NewCell, cell_of, link_to}
use Rattle.plan_core.specs.Members.{In}
use Rattle.plan_core.specs.Plan.{Plan, all_links, cell, from_to, in_links, link, no_cell, no_link}
use Rattle.plan_core.specs.Values.{blank, carried_of, initial, is_input, land, land_all, land_as, next_value, value, values, Inputs}
use Rattle.plan_core.specs.Values.{input_bytes}
use Rattle.plan_core.specs.declared.Cell.{Cell}
use Rattle.plan_core.specs.declared.Incoming.{Incoming}
use Rattle.plan_core.specs.declared.Link.{Link}
use Rattle.plan_core.specs.declared.LinkKind.{LinkKind}
use Rattle.plan_steps.specs.Sounding.{land_each, land_incoming, new_value, with_cell}

-- ---- lists of numbers
pub length-from_to : (k n : ℕ) → length (from_to k n) ≡ n
length-from_to k zero = refl
length-from_to k (suc n) = ap suc (length-from_to (suc k) n)

pub filter-append' : {X : Type 0} (p : X → Bool) (xs ys : List X) → filter p (xs ++ ys) ≡ filter p xs ++ filter p ys
filter-append' p [] ys = refl
filter-append' p (x ∷ xs) ys = at (p x) (filter-append' p xs ys)
  where
    at : (b : Bool) → filter p (xs ++ ys) ≡ filter p xs ++ filter p ys → cond b (x ∷ filter p (xs ++ ys)) (filter p (xs ++ ys)) ≡ cond b
        (x ∷ filter p xs) (filter p xs) ++ filter p ys
    at true e = ap (λ v. x ∷ v) e
    at false e = e

pub filter-all : {X : Type 0} (p : X → Bool) (xs : List X) → ((x : X) → In x xs → p x ≡ true) → filter p xs ≡ xs
filter-all p [] h = refl
filter-all p (x ∷ xs) h = ap (λ b. cond b (x ∷ filter p xs) (filter p xs)) (h x (inl refl))
    ∙ ap (λ v. x ∷ v) (filter-all p xs (λ y i. h y (inr i)))

pub get_or-map : {X Y : Type 0} (f : X → Y) (xs : List X) (i : ℕ) (d : X) (e : Y) → i < length xs →
    get_or (map f xs) i e ≡ f (get_or xs i d)
get_or-map f [] i d e h = absurd (omega arith)
get_or-map f (x ∷ xs) zero d e h = refl
get_or-map f (x ∷ xs) (suc i) d e h = get_or-map f xs i d e (le_of_suc-le-suc h)

-- ---- cells and links of the longer plan
pub cell-old : (p : Plan) (n : NewCell) (c : ℕ) → c < length p.cells → cell (with_cell p n) c ≡ cell p c
cell-old p n c h = get_or_append_left p.cells (cell_of n ∷ []) no_cell c h

pub cell-new : (p : Plan) (n : NewCell) → cell (with_cell p n) (length p.cells) ≡ cell_of n
cell-new p n = get_or_at p.cells (cell_of n) [] no_cell (length p.cells) refl

pub length-cells : (p : Plan) (n : NewCell) → length (with_cell p n).cells ≡ suc (length p.cells)
length-cells p n = length-append p.cells (cell_of n ∷ []) ∙ (let e : length p.cells + 1 ≡ suc (length p.cells) = omega arith in e)

pub link-old : (p : Plan) (n : NewCell) (l : ℕ) → l < length p.links → link (with_cell p n) l ≡ link p l
link-old p n l h = get_or_append_left p.links (map (link_to (length p.cells)) n.into) no_link l h

abbrev pub no_incoming : Incoming
no_incoming = record { source = 0; source_offset = 0; length = 0; target_offset = 0; kind = LinkKind.Bump }

pub link-new : (p : Plan) (n : NewCell) (i : ℕ) → i < length n.into → link (with_cell p n) (length p.links + i) ≡ link_to (length p.cells)
    (get_or n.into i no_incoming)
link-new p n i h = get_or-append-add p.links (map (link_to (length p.cells)) n.into) i no_link
    ∙ get_or-map (link_to (length p.cells)) n.into i no_incoming no_link h

pub length-links : (p : Plan) (n : NewCell) → length (with_cell p n).links ≡ length p.links + length n.into
length-links p n = length-append p.links (map (link_to (length p.cells)) n.into)
    ∙ ap (λ v. length p.links + v) (length-map' (link_to (length p.cells)) n.into)

all_links-add : (p : Plan) (n : NewCell) → all_links (with_cell p n) ≡ all_links p ++ from_to (length p.links) (length n.into)
all_links-add p n = ap (from_to 0) (length-links p n) ∙ from_to-append 0 (length p.links) (length n.into)
    ∙ ap (λ v. all_links p ++ from_to v (length n.into)) (let e : 0 + length p.links ≡ length p.links = omega arith in e)

-- each link goes to a cell of the plan
abbrev pub InPlan : Plan → Type 0
InPlan p = (l : ℕ) → l < length p.links → (link p l).target < length p.cells

in_links-add : (p : Plan) (n : NewCell) (c : ℕ) → in_links (with_cell p n) c ≡ filter (λ l. (link p l).target == c) (all_links p) ++
    filter (λ l. length p.cells == c) (from_to (length p.links) (length n.into))
in_links-add p n c =
    ap (filter (λ l. (link (with_cell p n) l).target == c)) (all_links-add p n)
    ∙ filter-append' (λ l. (link (with_cell p n) l).target == c) (all_links p) (from_to (length p.links) (length n.into))
    ∙ ap₂ (λ x y. x ++ y)
    (filter-same _ _ (all_links p) (λ l i. let r = from_to-In 0 (length p.links) l i in
    ap (λ (k : Link). k.target == c) (link-old p n l (omega arith))))
    (filter-same _ _ (from_to (length p.links) (length n.into)) (λ l i.
    let r = from_to-In (length p.links) (length n.into) l i in
    let e : l ≡ length p.links + (l - length p.links) = omega arith in
    ap (λ v. (link (with_cell p n) v).target == c) e ∙ ap (λ (k : Link). k.target == c) (link-new p n (l - length p.links) (omega arith))))

append-nil' : {X : Type 0} (xs : List X) → xs ++ [] ≡ xs
append-nil' [] = refl
append-nil' (x ∷ xs) = ap (λ v. x ∷ v) (append-nil' xs)

pub in_links-old : (p : Plan) (n : NewCell) (c : ℕ) → c < length p.cells → in_links (with_cell p n) c ≡ in_links p c
in_links-old p n c h =
    in_links-add p n c
    ∙ ap (λ v. in_links p c ++ v) (filter-none _ (from_to (length p.links) (length n.into))
    (λ l i. ne_eqb (length p.cells) c (λ e. absurd (omega arith))))
    ∙ append-nil' (in_links p c)

pub in_links-new : (p : Plan) (n : NewCell) → InPlan p → in_links (with_cell p n) (length p.cells) ≡ from_to (length p.links)
    (length n.into)
in_links-new p n inside =
    in_links-add p n (length p.cells)
    ∙ ap₂ (λ x y. x ++ y)
    (filter-none _ (all_links p) (λ l i. let r = from_to-In 0 (length p.links) l i in let t = inside l (omega arith) in
    ne_eqb _ _ (λ e. absurd (omega arith))))
    (filter-all _ (from_to (length p.links) (length n.into)) (λ l i. eq-eqb _ _ refl))

-- ---- values
initial-old : (p : Plan) (n : NewCell) (inputs : Inputs) (c : ℕ) → c < length p.cells →
    initial (with_cell p n) inputs c ≡ initial p inputs c
initial-old p n inputs c h = ap (λ k. cond (is_input p inputs c) (input_bytes p inputs (c - p.ranks)) (blank k)) (cell-old p n c h)

land_all-old : (p : Plan) (n : NewCell) (before : List (List ℕ)) (c : ℕ) → c < length p.cells → (ls : List ℕ) →
    ((l : ℕ) → In l ls → (l < length p.links) × ((link p l).target ≡ c)) → (z : List ℕ)
    → land_all (with_cell p n) (λ l. carried_of (with_cell p n) (get_or before (link (with_cell p n) l).source []) l) ls z ≡ land_all p
    (λ l. carried_of p (get_or before (link p l).source []) l) ls z
land_all-old p n before c h [] old z = refl
land_all-old p n before c h (l ∷ ls) old z =
    let r = old l (inl refl) in
    let here : land (with_cell p n) l (carried_of (with_cell p n) (get_or before (link (with_cell p n) l).source []) l) z ≡ land p l
    (carried_of p (get_or before (link p l).source []) l) z =
    ap (λ (k : Link). land_as k.kind (cell (with_cell p n) k.target) k.target_offset
    (part k.source_offset k.length (get_or before k.source [])) z) (link-old p n l r.0)
    ∙ ap (λ (k : Cell). land_as (link p l).kind k (link p l).target_offset (carried_of p (get_or before (link p l).source []) l) z)
    (cell-old p n (link p l).target (subst (λ v. v < length p.cells) (sym r.1) h)) in
    ap (land_all (with_cell p n) (λ l. carried_of (with_cell p n) (get_or before (link (with_cell p n) l).source []) l) ls) here
    ∙ land_all-old p n before c h ls (λ m i. old m (inr i)) _

next-old : (p : Plan) (n : NewCell) (inputs : Inputs) (before : List (List ℕ)) (c : ℕ) → c < length p.cells →
    next_value (with_cell p n) inputs before c ≡ next_value p inputs before c
next-old p n inputs before c h =
    ap₂ (land_all (with_cell p n) (λ l. carried_of (with_cell p n) (get_or before (link (with_cell p n) l).source []) l))
    (in_links-old p n c h) (initial-old p n inputs c h)
    ∙ land_all-old p n before c h (in_links p c) (in_links-In p c) (initial p inputs c)

values-old : (p : Plan) (n : NewCell) (inputs : Inputs) (m : ℕ) → m ≤ length p.cells → values (with_cell p n) inputs m ≡ values p inputs m
values-old p n inputs zero h = refl
values-old p n inputs (suc m) h = let e = values-old p n inputs m (omega arith) in
    ap (λ before. before ++ next_value (with_cell p n) inputs before m ∷ []) e
    ∙ ap (λ v. values p inputs m ++ v ∷ []) (next-old p n inputs (values p inputs m) m h)

pub value-old : (p : Plan) (n : NewCell) (inputs : Inputs) (c : ℕ) → c < length p.cells → value (with_cell p n) inputs c ≡ value p inputs c
value-old p n inputs c h =
    value-is (with_cell p n) inputs c
    ∙ ap (λ before. next_value (with_cell p n) inputs before c) (values-old p n inputs c (omega arith))
    ∙ next-old p n inputs (values p inputs c) c h
    ∙ sym (value-is p inputs c)

-- the links of the newest cell, from the one at place j on
land_all-new : (p : Plan) (n : NewCell) (carried : ℕ → List ℕ) (v : ℕ → List ℕ) (is : List Incoming) (a : ℕ) (z : List ℕ)
    → ((j : ℕ) → j < length is → (link (with_cell p n) (a + j) ≡ link_to (length p.cells) (get_or is j no_incoming)) ×
    (carried (a + j) ≡ part (get_or is j no_incoming).source_offset (get_or is j no_incoming).length
    (v (get_or is j no_incoming).source)))
    → land_all (with_cell p n) carried (from_to a (length is)) z ≡ land_each n v is z
land_all-new p n carried v [] a z h = refl
land_all-new p n carried v (i ∷ is) a z h =
    let r = h 0 (omega arith) in
    let here : land (with_cell p n) a (carried a) z ≡ land_incoming n v i z =
    (let e : a + 0 ≡ a = omega arith in
    let q0 : link (with_cell p n) a ≡ link_to (length p.cells) i = subst (λ b. link (with_cell p n) b ≡ link_to (length p.cells) i) e r.0 in
    let q1 : carried a ≡ part i.source_offset i.length (v i.source) = subst (λ b. carried b ≡ part i.source_offset i.length (v i.source))
    e r.1 in
    ap₂ (λ (k : Link) bytes. land_as k.kind (cell (with_cell p n) k.target) k.target_offset bytes z) q0 q1
    ∙ ap (λ (k : Cell). land_as i.kind k i.target_offset (part i.source_offset i.length (v i.source)) z) (cell-new p n)) in
    ap (land_all (with_cell p n) carried (from_to (suc a) (length is))) here
    ∙ land_all-new p n carried v is (suc a) (land_incoming n v i z)
    (λ j l. let q = h (suc j) (omega arith) in
    let e : a + suc j ≡ suc a + j = omega arith in
    subst (λ b. (link (with_cell p n) b ≡ link_to (length p.cells) (get_or is j no_incoming)) ×
    (carried b ≡ part (get_or is j no_incoming).source_offset (get_or is j no_incoming).length (v (get_or is j no_incoming).source)))
    e q)

pub In-get_or : {X : Type 0} (xs : List X) (j : ℕ) (d : X) → j < length xs → In (get_or xs j d) xs
In-get_or [] j d h = absurd (omega arith)
In-get_or (x ∷ xs) zero d h = inl refl
In-get_or (x ∷ xs) (suc j) d h = inr (In-get_or xs j d (le_of_suc-le-suc h))

pub value-new : (p : Plan) (n : NewCell) (inputs : Inputs) → InPlan p → ((i : Incoming) → In i n.into → i.source < length p.cells)
    → is_input p inputs (length p.cells) ≡ false
    → value (with_cell p n) inputs (length p.cells) ≡ new_value n (value (with_cell p n) inputs)
value-new p n inputs inside lower out =
    let c = length p.cells in
    let q = with_cell p n in
    value-is q inputs (length p.cells)
    ∙ ap₂ (land_all q (λ l. carried_of q (get_or (values q inputs c) (link q l).source []) l)) (in_links-new p n inside)
    (ap (λ b. cond b (input_bytes q inputs (length p.cells - p.ranks)) (blank (cell q (length p.cells)))) out ∙ ap blank (cell-new p n))
    ∙ land_all-new p n (λ l. carried_of q (get_or (values q inputs c) (link q l).source []) l) (value q inputs) n.into (length p.links)
    (blank (cell_of n))
    (λ j h. let e = link-new p n j h in (
      e,
      ap (λ (k : Link). part k.source_offset k.length (get_or (values q inputs c) k.source [])) e
          ∙ ap (part (get_or n.into j no_incoming).source_offset (get_or n.into j no_incoming).length)
          (get_or-values q inputs (length p.cells) (get_or n.into j no_incoming).source
          (lower (get_or n.into j no_incoming) (In-get_or n.into j no_incoming h))),
    ))
