-- What a link does to its target.
use Rattle.std.proofs.Common.{◌≡◌, ℕ, ◌+◌, ◌%◌, ◌≤◌, ◌<◌, List, [], ◌∷◌, length, get_or, drop, Option, Some}
use Rattle.std.proofs.Common.{None, refl, sym, ap, ◌∙◌, arith, add-one, drop-cons}
use Rattle.std.proofs.lemmas.List.{at_drop_all}
use Rattle.ptl_types.specs.declared.elements.AtomicOp.{AtomicOp}
use Rattle.ptl_types.specs.Elements.{part}
use Rattle.ptl_types.specs.Operations.{bytes_of}
use Rattle.op_laws.proofs.Bytes.{length-combined, length-part, part_all, written_all}
use Rattle.plan_core.specs.declared.Cell.{Cell}
use Rattle.plan_core.specs.declared.Link.{Link}
use Rattle.plan_core.specs.declared.LinkKind.TheVariants.{Atomic}
use Rattle.plan_core.specs.Plan.{Plan, cell, link}
use Rattle.plan_core.specs.Values.{carried_of, joined, land, land_all, land_as}
use Rattle.plan_judge.specs.values.Given.{IsReady}

long_joined : (k : Cell) (o : Option AtomicOp) → k.op ≡ o → (z list : List ℕ) → length z % bytes_of k.ty ≡ 0
    → length (joined k z list) ≡ length z
long_joined k None e z list w = rw e refl
long_joined k (Some o) e z list w = rw e (length-combined o k.ty z list w)

-- an atomic over the whole cell
pub atomic : (k : Cell) (at : ℕ) (list z new : List ℕ) → at ≡ 0 → length list ≡ length z → length z % bytes_of k.ty ≡ 0
    → new ≡ joined k z list → new ≡ land_as Atomic k at list z
atomic k at list z new begins same w is =
    let whole : part at (length list) z ≡ z = rw (begins, same) (part_all (length z) z refl) in
    let fits : length (joined k z list) ≡ length z = long_joined k k.op refl z list w in
    rw (whole, begins) (is ∙ sym (written_all (joined k z list) z fits))

-- what a link carries fits its target
pub record Fits (k : Link) (list z : List ℕ) : Type 0 where
  pub within : k.target_offset + length list ≤ length z
  pub begins : k.kind ≡ Atomic → k.target_offset ≡ 0
  pub same : k.kind ≡ Atomic → length list ≡ length z

pub fits : (p : Plan) (before : List (List ℕ)) (c l : ℕ) (list z : List ℕ) → IsReady p before c l
    → list ≡ part (link p l).source_offset (link p l).length (get_or before (link p l).source []) → length z ≡ (cell p c).length
    → Fits (link p l) list z
fits p before c l list z ready is long =
    let k = link p l in
    let from = ready.sound.within_source in
    let into = ready.sound.within_target in
    let carries = ready.carries in
    let at : (cell p k.target).length ≡ (cell p c).length = ap (λ d. (cell p d).length) ready.target in
    let n : length list ≡ k.length =
    ap length is ∙ length-part k.source_offset k.length (get_or before k.source []) (omega (arith, from, carries)) in
    record {
      within = omega (arith, n, at, into, long);
      begins = λ a. (ready.sound.atomic_whole a).0;
      same = λ a. let q = (ready.sound.atomic_whole a).1 in omega (arith, n, q, at, long);
    }

-- what is landed is the link's, from its source's bytes
pub landed : (p : Plan) (before : List (List ℕ)) (c l : ℕ) (k : Link) (t : Cell) (list z new : List ℕ) → IsReady p before c l
    → k ≡ link p l → t ≡ cell p c → list ≡ part k.source_offset k.length (get_or before k.source [])
    → new ≡ land_as k.kind t k.target_offset list z → new ≡ land p l (carried_of p (get_or before (link p l).source []) l) z
landed p before c l k t list z new ready ek et el en =
    let l1 : list ≡ carried_of p (get_or before (link p l).source []) l = rw ek at el in
    let n1 : new ≡ land_as (link p l).kind (cell p c) (link p l).target_offset list z = rw (ek, et) at en in
    rw (ready.target, ← l1) n1

-- ---- one link more

pub begins : (p : Plan) (f : ℕ → List ℕ) (links z : List ℕ) → land_all p f links z ≡ land_all p f (drop 0 links) z
begins p f links z = refl

pub goes_on : (p : Plan) (f : ℕ → List ℕ) (links z new all : List ℕ) (i : ℕ) → i < length links
    → all ≡ land_all p f (drop i links) z → new ≡ land p (get_or links i 0) (f (get_or links i 0)) z
    → all ≡ land_all p f (drop (i + 1) links) new
goes_on p f links z new all i lt so_far is =
    let e : drop i links ≡ get_or links i 0 ∷ drop (i + 1) links = rw add-one (drop-cons links i 0 lt) in
    so_far ∙ ap (λ ls. land_all p f ls z) e ∙ ap (land_all p f (drop (i + 1) links)) (sym is)

pub ends : (p : Plan) (f : ℕ → List ℕ) (links z all : List ℕ) (i : ℕ) → length links ≤ i → all ≡ land_all p f (drop i links) z → z ≡ all
ends p f links z all i le so_far = sym (so_far ∙ at_drop_all (λ ls. land_all p f ls z) links i le)
