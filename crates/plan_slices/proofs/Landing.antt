-- What a link does to a slice of its target.
use Rattle.std.proofs.Common.{ℕ, suc, ◌+◌, ◌-◌, ◌*◌, ◌/◌, ◌%◌, ◌≡◌, ◌≤◌, ◌<◌, List, length, replicate, Option, Some, None}
use Rattle.std.proofs.Common.{refl, ap, ap₂, sym, subst, ◌∙◌, arith, mul-div_cancel, div-add-mod', inl, inr}
use Rattle.std.proofs.lemmas.Bool.{cases_lt}
use Rattle.std.proofs.Math.Nat.{mul-le-mul_right}
use Rattle.ptl_types.specs.declared.elements.AtomicOp.{AtomicOp}
use Rattle.ptl_types.specs.Elements.{part, starting, written}
use Rattle.ptl_types.specs.Operations.{bytes_of}
use Rattle.op_laws.proofs.Bytes.{length-combined, length-part}
use Rattle.plan_core.specs.declared.Cell.{Cell}
use Rattle.plan_core.specs.declared.LinkKind.{LinkKind}
use Rattle.plan_core.specs.declared.LinkKind.TheVariants.{Atomic, Bump, Put}
use Rattle.plan_core.specs.Values.{blank, joined, land_as}
use Rattle.plan_slices.specs.declared.cut.Cut.{Cut}
use Rattle.plan_slices.specs.Slices.{block, slice, slice_of, sliced_cell}
use Rattle.plan_slices.proofs.Slices.{length-slice, slice-part, slice-written}
use Rattle.plan_slices.proofs.Elements.{HasElements, slice-combined, slice-same, slice-starting}

-- ---- whole blocks, and what is left of them
pub block-pos : (k : Cut) → 0 < k.count → 0 < k.width → 0 < block k
block-pos k h g = grind (arith, h, g)

pub blocks : (k : Cut) (x : ℕ) → x % block k ≡ 0 → x ≡ x / block k * block k
blocks k x e = omega (arith, div-add-mod' x (block k), e)

pub count-of : (k : Cut) → 0 < block k → (n : ℕ) → n * block k / block k ≡ n
count-of k l n = mul-div_cancel n l

pub shrunk : (k : Cut) → 0 < k.count → (n : ℕ) → n * block k / k.count ≡ n * k.width
shrunk k l n =
    ap (λ m. m / k.count) (let z : n * (k.count * k.width) ≡ n * k.width * k.count = grind arith in z) ∙ mul-div_cancel (n * k.width) l

pub slice-blocks : (k : Cut) → 0 < block k → (j n : ℕ) (xs : List ℕ) → length xs ≡ n * block k → slice_of k j xs ≡ slice k j n xs
slice-blocks k l j n xs e = ap (λ m. slice k j m xs) (ap (λ m. m / block k) e ∙ count-of k l n)

-- ---- what a cell is combined of
module _ (k : Cut) (j : ℕ) (within : j < k.count) (x : Cell) (elements : (o : AtomicOp) → x.op ≡ Some o → HasElements k x.ty) where
  slice-joined-by : (op : Option AtomicOp) → x.op ≡ op → (n : ℕ) (old new : List ℕ) → length old ≡ n * block k → length new ≡ n * block k
      → n * block k % bytes_of x.ty ≡ 0 → slice k j n (joined x old new) ≡ joined (sliced_cell k x) (slice k j n old) (slice k j n new)
  slice-joined-by None z n old new h g w = rw z refl
  slice-joined-by (Some o) z n old new h g w = rw z (slice-combined k j within o x.ty (elements o z) n old new h g w)

  length-joined : (op : Option AtomicOp) → x.op ≡ op → (n : ℕ) (old new : List ℕ) → length old ≡ n * block k
      → n * block k % bytes_of x.ty ≡ 0 → length (joined x old new) ≡ n * block k
  length-joined None z n old new h w = rw z h
  length-joined (Some o) z n old new h w = rw z (length-combined o x.ty old new (ap (λ m. m % bytes_of x.ty) h ∙ w) ∙ h)

  slice-blank-by : (op : Option AtomicOp) → x.op ≡ op → (n : ℕ) → x.length ≡ n * block k → x.length % bytes_of x.ty ≡ 0
      → blank (sliced_cell k x) ≡ slice k j n (blank x)
  slice-blank-by None z n e w =
      rw z (sym (ap (λ m. slice k j n (replicate m 0)) e ∙ slice-same k j within n (n * block k) 0 (omega arith)
      ∙ ap (λ m. replicate m 0) (sym (ap (λ m. m / k.count) e ∙ shrunk k (omega (arith, within)) n))))
  slice-blank-by (Some o) z n e w =
      rw z (sym (ap (λ m. slice k j n (starting o x.ty m)) e
      ∙ slice-starting k j within o x.ty (elements o z) n (ap (λ m. m % bytes_of x.ty) (sym e) ∙ w)
      ∙ ap (starting o x.ty) (sym (ap (λ m. m / k.count) e ∙ shrunk k (omega (arith, within)) n))))

  pub slice-blank : (n : ℕ) → x.length ≡ n * block k → x.length % bytes_of x.ty ≡ 0 → blank (sliced_cell k x) ≡ slice k j n (blank x)
  slice-blank n e w = slice-blank-by x.op refl n e w

  -- ---- what comes to it: m blocks, from block a on, and r are left
  pub slice-land : (kind : LinkKind) (a m r : ℕ) (bytes xs : List ℕ) → length xs ≡ (a + (m + r)) * block k → length bytes ≡ m * block k
      → (kind ≡ Atomic → m * block k % bytes_of x.ty ≡ 0)
      → slice k j (a + (m + r)) (land_as kind x (a * block k) bytes xs)
      ≡ land_as kind (sliced_cell k x) (a * k.width) (slice k j m bytes) (slice k j (a + (m + r)) xs)
  slice-land Bump a m r bytes xs h g whole = refl
  slice-land Put a m r bytes xs h g whole = slice-written k j within a m r bytes xs h g
  slice-land Atomic a m r bytes xs h g whole =
      let e : (a + (m + r)) * block k ≡ a * block k + (m * block k + r * block k) = grind arith in
      let old = part (a * block k) (length bytes) xs in
      let long : length old ≡ m * block k = length-part (a * block k) (length bytes) xs (omega (arith, h, g, e)) ∙ g in
      let size : length (slice k j m bytes) ≡ m * k.width = length-slice k j within m bytes (omega (arith, g)) in
      let carried : slice k j m old ≡ part (a * k.width) (length (slice k j m bytes)) (slice k j (a + (m + r)) xs) =
      ap (λ n. slice k j m (part (a * block k) n xs)) g
      ∙ slice-part k j within a m r xs (omega (arith, h))
      ∙ ap (λ n. part (a * k.width) n (slice k j (a + (m + r)) xs)) (sym size) in
      slice-written k j within a m r (joined x old bytes) xs h (length-joined x.op refl m old bytes long (whole refl))
      ∙ ap (λ v. written (a * k.width) v (slice k j (a + (m + r)) xs))
      (slice-joined-by x.op refl m old bytes long g (whole refl)
      ∙ ap (λ v. joined (sliced_cell k x) v (slice k j m bytes)) carried)

-- ---- what a link carries, by bytes
pub fewer : (b x y : ℕ) → 0 < b → x * b ≤ y * b → x ≤ y
fewer b x y l h =
    elim (cases_lt y x) [
      | inr e ↦ e
      | inl e ↦
          let m : suc y * b ≤ x * b = mul-le-mul_right b (let z : suc y ≤ x = omega (arith, e) in z) in
          let n : suc y * b ≡ y * b + b = grind arith in
          absurd (omega (arith, h, l, m, n))
    ]

-- so many blocks from a block on lie within so many, and what is left
record Lie (at m all : ℕ) : Type 0 where
  after : ℕ
  is : all ≡ at + (m + after)

lie : (k : Cut) → 0 < block k → (at m all : ℕ) → at * block k + m * block k ≤ all * block k → Lie at m all
lie k l at m all h =
    let z : (at + m) * block k ≡ at * block k + m * block k = grind arith in
    let e = fewer (block k) (at + m) all l (omega (arith, z, h)) in
    record { after = all - (at + m); is = omega (arith, e) }

pub record Carries (k : Cut) (x : Cell) (kind : LinkKind) (from to n own all : ℕ) : Type 0 where
  pub some : 0 < block k
  pub from_whole : from % block k ≡ 0
  pub to_whole : to % block k ≡ 0
  pub whole : n % block k ≡ 0
  pub within_source : from + n ≤ own * block k
  pub within_target : to + n ≤ all * block k
  pub elements : kind ≡ Atomic → n % bytes_of x.ty ≡ 0

module _ (k : Cut) (j : ℕ) (within : j < k.count) (x : Cell) (elements : (o : AtomicOp) → x.op ≡ Some o → HasElements k x.ty) where
  by-blocks : (kind : LinkKind) (b a m own all : ℕ) (v xs : List ℕ) → 0 < block k → b * block k + m * block k ≤ own * block k
      → a * block k + m * block k ≤ all * block k → length v ≡ own * block k → length xs ≡ all * block k
      → (kind ≡ Atomic → m * block k % bytes_of x.ty ≡ 0)
      → land_as kind (sliced_cell k x) (a * k.width) (part (b * k.width) (m * k.width) (slice k j own v)) (slice k j all xs)
      ≡ slice k j all (land_as kind x (a * block k) (part (b * block k) (m * block k) v) xs)
  by-blocks kind b a m own all v xs l inside into h g whole =
      let src = lie k l b m own inside in
      let dst = lie k l a m all into in
      let bytes = part (b * block k) (m * block k) v in
      let carried : slice k j m bytes ≡ part (b * k.width) (m * k.width) (slice k j own v) =
      slice-part k j within b m src.after v (subst (λ n. n * block k ≤ length v) src.is (omega (arith, h)))
      ∙ ap (λ n. part (b * k.width) (m * k.width) (slice k j n v)) (sym src.is) in
      let long : length bytes ≡ m * block k = length-part (b * block k) (m * block k) v (omega (arith, h, inside)) in
      ap₂ (λ n u. land_as kind (sliced_cell k x) (a * k.width) u (slice k j n xs)) dst.is (sym carried)
      ∙ sym (slice-land k j within x elements kind a m dst.after bytes xs (g ∙ ap (λ n. n * block k) dst.is) long whole)
      ∙ ap (λ n. slice k j n (land_as kind x (a * block k) bytes xs)) (sym dst.is)

  pub slice-carried : (kind : LinkKind) (from to n own all : ℕ) (v xs : List ℕ) → Carries k x kind from to n own all
      → length v ≡ own * block k → length xs ≡ all * block k
      → land_as kind (sliced_cell k x) (to / k.count) (part (from / k.count) (n / k.count) (slice k j own v)) (slice k j all xs)
      ≡ slice k j all (land_as kind x to (part from n v) xs)
  slice-carried kind from to n own all v xs is h g =
      let b = from / block k in
      let a = to / block k in
      let m = n / block k in
      let some : 0 < k.count = omega (arith, within) in
      let eb : from ≡ b * block k = blocks k from is.from_whole in
      let ea : to ≡ a * block k = blocks k to is.to_whole in
      let em : n ≡ m * block k = blocks k n is.whole in
      let sb : from / k.count ≡ b * k.width = ap (λ n. n / k.count) eb ∙ shrunk k some b in
      let sa : to / k.count ≡ a * k.width = ap (λ n. n / k.count) ea ∙ shrunk k some a in
      let sm : n / k.count ≡ m * k.width = ap (λ n. n / k.count) em ∙ shrunk k some m in
      let inside = is.within_source in
      let into = is.within_target in
      ap₂ (λ at u. land_as kind (sliced_cell k x) at u (slice k j all xs)) sa (ap₂ (λ at n. part at n (slice k j own v)) sb sm)
      ∙ by-blocks kind b a m own all v xs is.some (omega (arith, eb, em, inside)) (omega (arith, ea, em, into)) h g
      (λ e. ap (λ n. n % bytes_of x.ty) (sym em) ∙ is.elements e)
      ∙ sym (ap₂ (λ at u. slice k j all (land_as kind x at u xs)) ea (ap₂ (λ at n. part at n v) eb em))
