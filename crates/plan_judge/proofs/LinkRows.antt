-- No row of a link is at fault exactly where the link is sound, and bumps alone come to the cells below `others`.
use Rattle.std.proofs.Common.{ℕ, Bool, true, false, cond, not, ◌&&◌, ◌||◌, ◌≡◌, ◌<◌, ◌==◌, Option, Some, None, refl, length, ap}
use Rattle.std.proofs.Common.{ap₂, ◌∙◌, sym}
use Rattle.std.specs.Option.{is_some}
use Rattle.std.proofs.lemmas.Bool.{and_from, and_parts, eqb-true, eq-eqb, false≢true, lt-ltb, le-ltb, ltb-true, ltb-false, not-false}
use Rattle.std.proofs.lemmas.Bool.{not_from_true}
use Rattle.ptl_types.specs.declared.elements.ElemType.{ElemType}
use Rattle.ptl_types.specs.declared.elements.ElemType.TheVariants.{U8, I8, U16, I16, U32, I32, U64, I64}
use Rattle.ptl_types.specs.Operations.{bytes_of, is_signed}
use Rattle.plan_core.specs.declared.Cell.{Cell}
use Rattle.plan_core.specs.declared.Link.{Link}
use Rattle.plan_core.specs.declared.LinkKind.{LinkKind}
use Rattle.plan_core.specs.declared.LinkKind.TheVariants.{Put, Atomic, Bump}
use Rattle.plan_core.specs.Plan.{Plan, cell, is_atomic, is_bump, link}
use Rattle.plan_core.specs.Sound.{SoundLink}
use Rattle.plan_judge.specs.Causes.{first_cause, is_bare, is_rising, is_whole, link_rows, same_type}
use Rattle.plan_judge.proofs.Rows.{clear_row, from_implied, implied, row_clear}

-- ---- types
abbrev type_of : ℕ → Bool → ElemType
type_of n s = cond (n == 1) (cond s I8 U8) (cond (n == 2) (cond s I16 U16) (cond (n == 4) (cond s I32 U32) (cond s I64 U64)))

told : (a : ElemType) → a ≡ type_of (bytes_of a) (is_signed a)
told U8 = refl
told I8 = refl
told U16 = refl
told I16 = refl
told U32 = refl
told I32 = refl
told U64 = refl
told I64 = refl

both : (x y : Bool) → ((x && y) || not (x || y)) ≡ true → x ≡ y
both true true e = refl
both true false e = absurd (false≢true e)
both false true e = absurd (false≢true e)
both false false e = refl

pub one_type : (a b : ElemType) → same_type a b ≡ true → a ≡ b
one_type a b e =
    let h = and_parts _ _ e in
    told a ∙ ap₂ type_of (eqb-true _ _ h.0) (both (is_signed a) (is_signed b) h.1) ∙ sym (told b)

pub itself : (a : ElemType) → same_type a a ≡ true
itself U8 = refl
itself I8 = refl
itself U16 = refl
itself I16 = refl
itself U32 = refl
itself I32 = refl
itself U64 = refl
itself I64 = refl

-- ---- kinds and operations
pub bump-is : (a : LinkKind) → is_bump a ≡ true → a ≡ Bump
bump-is Put e = absurd (false≢true e)
bump-is Atomic e = absurd (false≢true e)
bump-is Bump e = refl

atomic-is : (a : LinkKind) → is_atomic a ≡ true → a ≡ Atomic
atomic-is Put e = absurd (false≢true e)
atomic-is Atomic e = refl
atomic-is Bump e = absurd (false≢true e)

some-is : {A : Type 0} (o : Option A) → is_some o ≡ true → (x : A) × (o ≡ Some x)
some-is None e = absurd (false≢true e)
some-is (Some x) e = (x, refl)

is-some : {A : Type 0} (o : Option A) → (o ≡ None → ⊥) → is_some o ≡ true
is-some None h = absurd (h refl)
is-some (Some x) h = refl

-- ---- a link in plain variables: from s to t
pub record Whole (k : Link) (s t : Cell) : Type 0 where
  pub combines : is_some t.op ≡ true
  pub start : k.target_offset ≡ 0
  pub all : k.length ≡ t.length
  pub ty : s.ty ≡ t.ty
  pub as_long : s.length ≡ t.length

bare_parts : (k : Link) (s t : Cell) → is_bare k s t ≡ true → (s.rank ≡ t.rank) × (k.length ≡ 0)
bare_parts k s t e = let z = and_parts _ _ e in (eqb-true _ _ z.0, eqb-true _ _ z.1)

whole_parts : (k : Link) (s t : Cell) → is_whole k s t ≡ true → Whole k s t
whole_parts k s t e =
    let a = and_parts _ _ e in
    let b = and_parts _ _ a.0 in
    let c = and_parts _ _ b.0 in
    let d = and_parts _ _ c.0 in
    record { combines = d.0; start = eqb-true _ _ d.1; all = eqb-true _ _ c.1; ty = one_type _ _ b.1; as_long = eqb-true _ _ a.1 }

parts_whole : (k : Link) (s t : Cell) → Whole k s t → is_whole k s t ≡ true
parts_whole k s t w =
    and_from _ _
    (and_from _ _
    (and_from _ _ (and_from _ _ w.combines (eq-eqb _ _ w.start)) (eq-eqb _ _ w.all))
    (ap (same_type s.ty) (sym w.ty) ∙ itself s.ty))
    (eq-eqb _ _ w.as_long)

-- ---- from no fault
pub record LinkOk (p : Plan) (others l : ℕ) : Type 0 where
  pub sound : SoundLink p l
  pub input : (link p l).target < others → (link p l).kind ≡ Bump

pub clear_link : (p : Plan) (others l : ℕ) → first_cause (link_rows p others l) ≡ None → LinkOk p others l
clear_link p others l e =
    let a = row_clear _ _ _ e in
    let b = row_clear _ _ _ a.1 in
    let c = row_clear _ _ _ b.1 in
    let d = row_clear _ _ _ c.1 in
    let f = row_clear _ _ _ d.1 in
    let g = row_clear _ _ _ f.1 in
    let h = row_clear _ _ _ g.1 in
    let k = link p l in
    let s = cell p (link p l).source in
    let t = cell p (link p l).target in
    let up = and_parts _ _ (not-false (is_rising k (length p.cells)) a.0) in
    let whole : k.kind ≡ Atomic → Whole k s t = λ q. whole_parts k s t (implied (is_atomic k.kind) (is_whole k s t) g.0 (ap is_atomic q)) in
    record {
      sound = record {
        rising = ltb-true _ _ up.0;
        cells = ltb-true _ _ up.1;
        within_source = ltb-false _ _ b.0;
        within_target = ltb-false _ _ c.0;
        bump_stays = λ q. (bare_parts k s t (implied (is_bump k.kind) (is_bare k s t) d.0 (ap is_bump q))).0;
        bump_empty = λ q. (bare_parts k s t (implied (is_bump k.kind) (is_bare k s t) d.0 (ap is_bump q))).1;
        atomic_here = λ o q. atomic-is _ (implied (is_some t.op) (is_atomic k.kind) f.0 (ap is_some q));
        atomic_whole = λ q. let w = whole q in (w.start, w.all, w.ty, w.as_long);
        no_atomic = λ n q. false≢true (sym (ap is_some n) ∙ (whole q).combines);
      };
      input = λ q. bump-is _ (implied _ _ h.0 (lt-ltb _ _ q));
    }

-- ---- to no fault
pub link_clear : (p : Plan) (others l : ℕ) → LinkOk p others l → first_cause (link_rows p others l) ≡ None
link_clear p others l o =
    let k = link p l in
    let s = cell p (link p l).source in
    let t = cell p (link p l).target in
    let z = o.sound in
    clear_row _ _ _ (not_from_true _ (and_from _ _ (lt-ltb _ _ z.rising) (lt-ltb _ _ z.cells)))
    (clear_row _ _ _ (le-ltb _ _ z.within_source)
    (clear_row _ _ _ (le-ltb _ _ z.within_target)
    (clear_row _ _ _ (from_implied (is_bump k.kind) (is_bare k s t) (λ q. let b = bump-is k.kind q in
    and_from _ _ (eq-eqb _ _ (z.bump_stays b)) (eq-eqb _ _ (z.bump_empty b))))
    (clear_row _ _ _ (from_implied (is_some t.op) (is_atomic k.kind) (λ q. let x = some-is t.op q in ap is_atomic (z.atomic_here x.0 x.1)))
    (clear_row _ _ _ (from_implied (is_atomic k.kind) (is_whole k s t) (λ q. let b = atomic-is k.kind q in let w = z.atomic_whole b in
    parts_whole k s t (record { combines = is-some t.op (λ n. z.no_atomic n b); start = w.0; all = w.1; ty = w.2; as_long = w.3 })))
    (clear_row _ _ _ (from_implied _ (is_bump k.kind) (λ q. ap is_bump (o.input (ltb-true _ _ q)))) refl))))))
