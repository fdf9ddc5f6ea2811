-- Well formed is a fact that holds in one way, but for who holds what, which a test tells: so what a shape keeps is brought out.
use Rattle.std.proofs.Common.{◌≡◌, ℕ, ◌<◌, List, Option, Some, None, length, get_or, cond, refl, sym, ap, ◌∙◌, subst}
use Rattle.std.proofs.Math.Bridge.{le_prop}
use Rattle.std.proofs.Math.Bool.{Bool-set}
use Rattle.std.proofs.Math.Logic.{∥∥₁_elim, ∥∥₁_map}
use Rattle.std.specs.Prelude.{◌==◌}
use Rattle.std.specs.Coded.{code_by, coded_ℕ, coded_list}
use base.Stored.{Coded-set}
use Rattle.ptl_types.specs.declared.elements.ElemType.{ElemType}
use Rattle.ptl_types.specs.declared.elements.ElemType.TheVariants.{U8, I8, U16, I16, U32, I32, U64, I64}
use Rattle.coll_shape.specs.declared.types.Version.{Version}
use Rattle.coll_shape.specs.declared.types.Version.TheVariants.{One, Two}
use Rattle.coll_shape.specs.declared.types.Buffer.{Buffer}
use Rattle.coll_shape.specs.declared.types.CollStep.{CollStep}
use Rattle.number_lists.specs.Numbers.{from_to}
use Rattle.coll_shape.specs.declared.types.Group.{Group}
use Rattle.coll_shape.specs.declared.shape.Parts.{Parts}
use Rattle.coll_shape.specs.Said.{said}
use Rattle.coll_shape.specs.Outline.{Outline, group_at, members_of, step_at, read_buffer}
use Rattle.coll_shape.specs.Collectives.{IsPlace, root_of, source_of}
use Rattle.coll_shape.specs.WellFormed.{AreMembers, IsNumber, IsGroup, IsShape, StandsIn, StepFits, FitsVersion, IsWellFormed, made_upto}
use Rattle.coll_shape.proofs.Asking.{reads-can, can-reads}

lt_prop : {a b : ℕ} → IsProp (a < b)
lt_prop = le_prop

number_set : IsSet ℕ
number_set = Coded-set coded_ℕ

numbers_set : IsSet (List ℕ)
numbers_set = Coded-set (coded_list coded_ℕ)

type_code : ElemType → ℕ
type_code U8 = 0
type_code I8 = 1
type_code U16 = 2
type_code I16 = 3
type_code U32 = 4
type_code I32 = 5
type_code U64 = 6
type_code I64 = 7

type_from : ℕ → ElemType
type_from n = cond (n == 0) U8 (cond (n == 1) I8 (cond (n == 2) U16
    (cond (n == 3) I16 (cond (n == 4) U32 (cond (n == 5) I32 (cond (n == 6) U64 I64))))))

type_back : (t : ElemType) → type_from (type_code t) ≡ t
unfolding type_code type_from
type_back U8 = refl
type_back I8 = refl
type_back U16 = refl
type_back I16 = refl
type_back U32 = refl
type_back I32 = refl
type_back U64 = refl
type_back I64 = refl

types_set : IsSet ElemType
types_set = Coded-set (code_by ℕ coded_ℕ type_code type_from type_back)

buffer_set : IsSet Buffer
buffer_set = hlevel (types_set, numbers_set, number_set)

place_prop : (n : ℕ) (r : Option ℕ) → IsProp (IsPlace n r)
place_prop n None = hlevel lt_prop
place_prop n (Some r) = lt_prop

number_prop : (o : Outline) (b : Option ℕ) → IsProp (IsNumber o b)
number_prop o None = hlevel lt_prop
number_prop o (Some b) = lt_prop

group_prop : (o : Outline) (b : Option ℕ) → IsProp (IsGroup o b)
group_prop o None = hlevel lt_prop
group_prop o (Some b) = lt_prop

stands_prop : (v w : Version) → IsProp (StandsIn v w)
stands_prop One w = hlevel lt_prop
stands_prop Two One = hlevel lt_prop
stands_prop Two Two = hlevel lt_prop

members_prop : (n : ℕ) (g : List ℕ) → IsProp (AreMembers n g)
members_prop n g = hlevel (le_prop, lt_prop)

shape_prop : (o : Outline) → IsProp (IsShape o)
shape_prop o = hlevel (le_prop, lt_prop, number_set, members_prop, number_prop, group_prop)

version_prop : (o : Outline) → IsProp (FitsVersion o)
version_prop o = hlevel (le_prop, stands_prop)

-- a step that fits, brought out
step_whole : (o : Outline) (m : ℕ) (g : List ℕ) (step : CollStep) → ∥ StepFits o m g step ∥₁ → StepFits o m g step
step_whole o m g step h = record {
  members = ∥∥₁_elim h (members_prop o.ranks g) (λ f. f.members);
  root = ∥∥₁_elim h (place_prop (length g) (root_of step)) (λ f. f.root);
  source = ∥∥₁_elim h (hlevel lt_prop) (λ f. f.source);
  reads = reads-can g step (read_buffer o (source_of step)) (∥∥₁_elim h (Bool-set _ _)
      (λ f. can-reads g step (read_buffer o (source_of step)) f.reads));
  next = ∥∥₁_elim h (hlevel number_set) (λ f. f.next);
  result = ∥∥₁_elim h (hlevel lt_prop) (λ f. f.result);
  makes = ∥∥₁_elim h (hlevel buffer_set) (λ f. f.makes);
}

pub whole : (o : Outline) → ∥ IsWellFormed o ∥₁ → IsWellFormed o
whole o h = record {
  shape = ∥∥₁_elim h (shape_prop o) (λ w. w.shape);
  version = ∥∥₁_elim h (version_prop o) (λ w. w.version);
  held = ∥∥₁_elim h (hlevel numbers_set) (λ w. w.held);
  some = ∥∥₁_elim h (hlevel le_prop) (λ w. w.some);
  short = ∥∥₁_elim h (hlevel le_prop) (λ w. w.short);
  fits = λ k l. step_whole o (made_upto o k) (group_at o k) (step_at o k) (∥∥₁_map h (λ w. w.fits k l));
  all = ∥∥₁_elim h (number_set _ _) (λ w. w.all);
  spelled = ∥∥₁_elim h (hlevel Bool-set) (λ w. w.spelled);
  distinct = ∥∥₁_elim h (hlevel number_set) (λ w. w.distinct);
  few_printed = ∥∥₁_elim h le_prop (λ w. w.few_printed);
}

-- ---- what a shape keeps

pub kept : (p : Parts) (e : List ℕ) → ∥ IsWellFormed (said p) × (e ≡ from_to 0 p.ranks) ∥₁ → IsWellFormed (said p)
kept p e h = whole (said p) (∥∥₁_map h (λ w. w.0))

everyone_is : (p : Parts) (e : List ℕ) → ∥ IsWellFormed (said p) × (e ≡ from_to 0 p.ranks) ∥₁ → e ≡ from_to 0 p.ranks
everyone_is p e h = ∥∥₁_elim h (numbers_set _ _) (λ w. w.1)

pub same_members : (e e' : List ℕ) (gs gs' : List Group) (on on' : Option ℕ) → e ≡ e' → gs ≡ gs' → on ≡ on' →
    members_of e gs on ≡ members_of e' gs' on'
same_members e e' gs gs' on on' p q r = ap (λ v. members_of v gs on) p ∙ (ap (λ v. members_of e' v on) q ∙ ap (λ v. members_of e' gs' v) r)

pub members-told : (p : Parts) (e : List ℕ) (o : Outline) (k : ℕ) → ∥ IsWellFormed (said p) × (e ≡ from_to 0 p.ranks) ∥₁ → said p ≡ o →
    members_of e p.groups.items (get_or p.on.items k None) ≡ group_at o k
members-told p e o k h v = ap (λ w. members_of w p.groups.items (get_or p.on.items k None)) (everyone_is p e h)
    ∙ ap (λ (w : Outline). group_at w k) v

-- copies keep it too
pub copy-keeps : (p q : Parts) (e f : List ℕ) → said q ≡ said p → f ≡ e → ∥ IsWellFormed (said p) × (e ≡ from_to 0 p.ranks) ∥₁ →
    ∥ IsWellFormed (said q) × (f ≡ from_to 0 q.ranks) ∥₁
copy-keeps p q e f s t h = ∥∥₁_map h (λ w. (subst IsWellFormed (sym s) w.0, t ∙ (w.1 ∙ ap (λ (o : Outline). from_to 0 o.ranks) (sym s))))
