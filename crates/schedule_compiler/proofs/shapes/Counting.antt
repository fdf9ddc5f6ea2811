-- The first excess.
use Rattle.std.proofs.Common.{ℕ, suc, cond, ◌+◌, ◌-◌, ◌≡◌, ◌<◌, ◌≤◌, Some, None, ap, ◌∙◌, arith, nat_lt}
use Rattle.std.proofs.lemmas.Bool.{lt-ltb, le-ltb}
use Rattle.coll_shape.specs.Outline.{Outline}
use Rattle.schedule_compiler.specs.declared.shapes.footprints.Size.{Size}
use Rattle.schedule_compiler.specs.shapes.Footprint.{Excess, judged, refused_at}
use Rattle.schedule_compiler.specs.shapes.Footprint.Excess.{Links, Bytes}
use Rattle.schedule_compiler.specs.shapes.Judging.{add_sizes, found_from, size_upto, step_size}
use Rattle.schedule_compiler.specs.declared.shapes.judging.TheConstants.{MOST_LINKS, MOST_BYTES}

-- ---- the first excess
within_limits : (l b : ℕ) → l ≤ MOST_LINKS → b ≤ MOST_BYTES → judged (record { links = l; bytes = b }) ≡ None
within_limits l b h i =
    ap (λ t. cond t (Some Links) (cond (nat_lt MOST_BYTES b) (Some Bytes) None)) (le-ltb _ _ h)
    ∙ ap (λ t. cond t (Some Bytes) None) (le-ltb _ _ i)

pub judged-none : (f : Size) → f.links ≤ MOST_LINKS → f.bytes ≤ MOST_BYTES → judged f ≡ None
judged-none f h i = within_limits f.links f.bytes h i

pub judged-links : (f : Size) → MOST_LINKS < f.links → judged f ≡ Some Links
judged-links f h = ap (λ t. cond t (Some Links) (cond (nat_lt MOST_BYTES f.bytes) (Some Bytes) None)) (lt-ltb _ _ h)

pub judged-bytes : (f : Size) → f.links ≤ MOST_LINKS → MOST_BYTES < f.bytes → judged f ≡ Some Bytes
judged-bytes f h i =
    ap (λ t. cond t (Some Links) (cond (nat_lt MOST_BYTES f.bytes) (Some Bytes) None)) (le-ltb _ _ h)
    ∙ ap (λ t. cond t (Some Bytes) None) (lt-ltb _ _ i)

pub size-more : (o : Outline) (k : ℕ) → size_upto o (k + 1) ≡ add_sizes (size_upto o k) (step_size o k)
size-more o k = ap (size_upto o) (let e : k + 1 ≡ suc k = omega arith in e)

found-step : (o : Outline) (k n : ℕ) → k < n → found_from o k (n - k) ≡ refused_at k (judged (size_upto o (suc k)))
    (found_from o (suc k) (n - suc k))
found-step o k n h = ap (found_from o k) (let e : n - k ≡ suc (n - suc k) = omega arith in e)

pub found-next : (o : Outline) (k n : ℕ) → k < n → judged (size_upto o (k + 1)) ≡ None →
    found_from o k (n - k) ≡ found_from o (k + 1) (n - (k + 1))
found-next o k n h e =
    found-step o k n h
    ∙ ap (λ v. refused_at k v (found_from o (suc k) (n - suc k)))
    (ap (λ v. judged (size_upto o v)) (let z : suc k ≡ k + 1 = omega arith in z) ∙ e)
    ∙ ap (λ v. found_from o v (n - v)) (let z : suc k ≡ k + 1 = omega arith in z)

pub found-here : (o : Outline) (k n : ℕ) (x : Excess) → k < n → judged (size_upto o (k + 1)) ≡ Some x →
    found_from o k (n - k) ≡ Some (record { step = k; name = x })
found-here o k n x h e =
    found-step o k n h
    ∙ ap (λ v. refused_at k v (found_from o (suc k) (n - suc k)))
    (ap (λ v. judged (size_upto o v)) (let z : suc k ≡ k + 1 = omega arith in z) ∙ e)

pub found-end : (o : Outline) (k n : ℕ) → n ≤ k → found_from o k (n - k) ≡ None
found-end o k n h = ap (found_from o k) (let e : n - k ≡ 0 = omega arith in e)
