-- In a plan without operations what is done to each byte of the inputs is done to each byte of the cells.
use Rattle.std.proofs.Common.{ℕ, zero, suc, Bool, true, false, cond, ◌+◌, ◌-◌, ◌*◌, ◌/◌, ◌%◌, ◌≡◌, List, [], ◌∷◌, ◌++◌, length}
use Rattle.std.proofs.Common.{map, get_or, replicate, None, refl, ap, sym, ◌∙◌, inl, inr}
use Rattle.std.specs.Prelude.{◌&&◌, nat_le, nat_lt}
use Rattle.std.proofs.lemmas.Bool.{cases_lt}
use Rattle.std.proofs.lemmas.List.{get_or_past, length-map, map-append}
use Rattle.ptl_types.specs.Elements.{part, written}
use Rattle.coll_shape.specs.Meaning.{Lists}
use Rattle.plan_core.specs.declared.Cell.{Cell}
use Rattle.plan_core.specs.declared.LinkKind.{LinkKind}
use Rattle.plan_core.specs.declared.LinkKind.TheVariants.{Put, Atomic, Bump}
use Rattle.plan_core.specs.Plan.{Plan, cell, in_links, link, no_cell}
use Rattle.plan_core.specs.Values.{blank, carried_of, initial, input_bytes, is_input, joined, land, land_all, land_as, next_value, value}
use Rattle.plan_core.specs.Values.{values}
use Rattle.plan_core.proofs.Values.{value-is}
use Rattle.plan_terms.proofs.terms.Runs.{get-map, map-part, map-replicate, map-written}
use Rattle.plan_agreement.specs.Bare.{IsBare}

-- the same is done to each byte
abbrev pub moved : (ℕ → ℕ) → Lists → Lists
moved f inputs = map (map (map f)) inputs

pub get-lists : (f : ℕ → ℕ) (inputs : Lists) (i : ℕ) → get_or (moved f inputs) i [] ≡ map (map f) (get_or inputs i [])
get-lists f [] i = refl
get-lists f (x ∷ xs) zero = refl
get-lists f (x ∷ xs) (suc i) = get-lists f xs i

pub moved_list : (f : ℕ → ℕ) (inputs : Lists) (b r : ℕ)
    → get_or (get_or (moved f inputs) b []) r [] ≡ map f (get_or (get_or inputs b []) r [])
moved_list f inputs b r = ap (λ (v : List (List ℕ)). get_or v r []) (get-lists f inputs b) ∙ get-map f (get_or inputs b []) r

-- no cell at all has an operation
all_bare : (p : Plan) → IsBare p → (c : ℕ) → (cell p c).op ≡ None
all_bare p bare c =
    elim (cases_lt c (length p.cells)) [
      | inl h ↦ bare c h
      | inr h ↦ ap (λ (x : Cell). x.op) (get_or_past p.cells c no_cell h)
    ]

-- ---- what a cell holds at the beginning
moved_blank : (f : ℕ → ℕ) (k : Cell) → f 0 ≡ 0 → k.op ≡ None → blank k ≡ map f (blank k)
moved_blank f k still none =
    let e : blank k ≡ replicate k.length 0 = rw none refl in
    e ∙ sym (ap (map f) e ∙ map-replicate f k.length 0 ∙ ap (replicate k.length) still)

either-moved : (f : ℕ → ℕ) (b : Bool) (x y u v : List ℕ) → x ≡ map f u → y ≡ map f v → cond b x y ≡ map f (cond b u v)
either-moved f true x y u v e g = e
either-moved f false x y u v e g = g

moved_initial : (f : ℕ → ℕ) (p : Plan) (inputs : Lists) (c : ℕ) → f 0 ≡ 0 → IsBare p
    → initial p (moved f inputs) c ≡ map f (initial p inputs c)
moved_initial f p inputs c still bare =
    let many : length (moved f inputs) ≡ length inputs = length-map inputs (map (map f)) in
    let same : is_input p (moved f inputs) c ≡ is_input p inputs c =
    ap (λ n. nat_le p.ranks c && nat_lt c (p.ranks + n * p.ranks)) many in
    ap (λ b. cond b (input_bytes p (moved f inputs) (c - p.ranks)) (blank (cell p c))) same
    ∙ either-moved f (is_input p inputs c) (input_bytes p (moved f inputs) (c - p.ranks)) (blank (cell p c))
    (input_bytes p inputs (c - p.ranks)) (blank (cell p c))
    (moved_list f inputs ((c - p.ranks) / p.ranks) ((c - p.ranks) % p.ranks)) (moved_blank f (cell p c) still (all_bare p bare c))

-- ---- what a link does
kept : (k : Cell) (old new : List ℕ) → k.op ≡ None → joined k old new ≡ old
kept k old new none = rw none refl

moved_as : (f : ℕ → ℕ) (d : LinkKind) (k : Cell) (at : ℕ) (bytes x : List ℕ) → k.op ≡ None
    → land_as d k at (map f bytes) (map f x) ≡ map f (land_as d k at bytes x)
moved_as f Put k at bytes x none = sym (map-written f at bytes x)
moved_as f Bump k at bytes x none = refl
moved_as f Atomic k at bytes x none =
    let here : List ℕ = part at (length bytes) x in
    ap (λ (v : List ℕ). written at v (map f x))
    (kept k (part at (length (map f bytes)) (map f x)) (map f bytes) none
    ∙ ap (λ n. part at n (map f x)) (length-map bytes f)
    ∙ sym (map-part f at (length bytes) x))
    ∙ sym (map-written f at here x)
    ∙ ap (λ (v : List ℕ). map f (written at v x)) (sym (kept k here bytes none))

moved_all : (f : ℕ → ℕ) (p : Plan) (g h : ℕ → List ℕ) (ls : List ℕ) (x : List ℕ) → IsBare p → ((l : ℕ) → g l ≡ map f (h l))
    → land_all p g ls (map f x) ≡ map f (land_all p h ls x)
moved_all f p g h [] x bare same = refl
moved_all f p g h (l ∷ ls) x bare same =
    ap (λ (v : List ℕ). land_all p g ls (land p l v (map f x))) (same l)
    ∙ ap (land_all p g ls)
    (moved_as f (link p l).kind (cell p (link p l).target) (link p l).target_offset (h l) x (all_bare p bare (link p l).target))
    ∙ moved_all f p g h ls (land p l (h l) x) bare same

-- ---- cell by cell
moved_next : (f : ℕ → ℕ) (p : Plan) (inputs : Lists) (before : List (List ℕ)) (c : ℕ) → f 0 ≡ 0 → IsBare p
    → next_value p (moved f inputs) (map (map f) before) c ≡ map f (next_value p inputs before c)
moved_next f p inputs before c still bare =
    let g : ℕ → List ℕ = λ l. carried_of p (get_or (map (map f) before) (link p l).source []) l in
    let h : ℕ → List ℕ = λ l. carried_of p (get_or before (link p l).source []) l in
    let same : (l : ℕ) → g l ≡ map f (h l) = λ l.
    ap (part (link p l).source_offset (link p l).length) (get-map f before (link p l).source)
    ∙ sym (map-part f (link p l).source_offset (link p l).length (get_or before (link p l).source [])) in
    ap (land_all p g (in_links p c)) (moved_initial f p inputs c still bare)
    ∙ moved_all f p g h (in_links p c) (initial p inputs c) bare same

moved_values : (f : ℕ → ℕ) (p : Plan) (inputs : Lists) (n : ℕ) → f 0 ≡ 0 → IsBare p
    → values p (moved f inputs) n ≡ map (map f) (values p inputs n)
moved_values f p inputs zero still bare = refl
moved_values f p inputs (suc n) still bare =
    let before = values p inputs n in
    ap (λ (v : List (List ℕ)). v ++ next_value p (moved f inputs) v n ∷ []) (moved_values f p inputs n still bare)
    ∙ ap (λ (x : List ℕ). map (map f) before ++ x ∷ []) (moved_next f p inputs before n still bare)
    ∙ sym (map-append (map f) before (next_value p inputs before n ∷ []))

pub moved_value : (f : ℕ → ℕ) (p : Plan) (inputs : Lists) (c : ℕ) → f 0 ≡ 0 → IsBare p
    → value p (moved f inputs) c ≡ map f (value p inputs c)
moved_value f p inputs c still bare =
    value-is p (moved f inputs) c
    ∙ ap (λ (v : List (List ℕ)). next_value p (moved f inputs) v c) (moved_values f p inputs c still bare)
    ∙ moved_next f p inputs (values p inputs c) c still bare
    ∙ ap (map f) (sym (value-is p inputs c))
