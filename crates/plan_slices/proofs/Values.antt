-- What the cells of a slice's plan hold: the slice of what the cells of the plan hold.
use Rattle.std.proofs.Common.{ℕ, zero, suc, Bool, true, false, cond, ◌+◌, ◌-◌, ◌*◌, ◌/◌, ◌%◌, ◌≡◌, ◌≤◌, ◌<◌, ◌==◌, List, [], ◌∷◌, length}
use Rattle.std.proofs.Common.{get_or}
use Rattle.std.specs.Prelude.{◌&&◌, nat_le, nat_lt}
use Rattle.std.proofs.Common.{filter, refl, ap, ap₂, sym, subst, ◌∙◌, arith, mod-lt, inl, inr}
use Rattle.std.proofs.lemmas.Bool.{and_parts, cases_lt, leb-true, ltb-true}
use Rattle.std.proofs.lemmas.List.{get_or_past}
use Rattle.std.proofs.lemmas.List.Elements.{filter_agree}
use Rattle.number_lists.specs.Numbers.{from_to}
use Rattle.ptl_types.specs.Elements.{part}
use Rattle.ptl_types.specs.Operations.{bytes_of}
use Rattle.op_laws.proofs.Bytes.{length-part}
use Rattle.plan_core.specs.Members.{In}
use Rattle.plan_core.specs.declared.Cell.{Cell}
use Rattle.plan_core.specs.declared.Link.{Link}
use Rattle.plan_core.specs.declared.LinkKind.{LinkKind}
use Rattle.plan_core.specs.declared.LinkKind.TheVariants.{Atomic, Bump, Put}
use Rattle.plan_core.specs.Plan.{Plan, all_links, cell, in_links, link, no_cell, no_link}
use Rattle.plan_core.specs.Sound.{AreInputsOf, SoundPlan}
use Rattle.plan_core.specs.Values.{Inputs, blank, carried_of, initial, input_bytes, is_input, land, land_all, land_as, value}
use Rattle.plan_core.specs.Values.{values}
use Rattle.plan_core.proofs.Drawing.{length-row}
use Rattle.plan_core.proofs.Links.{in_links-In, length-land}
use Rattle.plan_core.proofs.Values.{Lands-of, get_or-values, length-initial, length-value, value-is}
use Rattle.plan_tables.proofs.Passes.{get-row}
use Rattle.plan_slices.specs.declared.cut.Cut.{Cut}
use Rattle.plan_slices.specs.Slices.{AreCuts, AreSlices, block, cut_at, slice, slice_at, slice_of, sliced}
use Rattle.plan_slices.specs.Slices.{sliced_cell, sliced_link}
use Rattle.plan_slices.proofs.Slices.{length-slice}
use Rattle.plan_slices.proofs.Landing.{Carries, block-pos, blocks, shrunk, slice-blank, slice-blocks, slice-carried}

-- ---- cells and links of a slice's plan
module _ (p : Plan) (cuts : List Cut) where
  pub sliced-cells : length (sliced p cuts).cells ≡ length p.cells
  sliced-cells = length-row (λ c. sliced_cell (cut_at cuts c) (cell p c)) 0 (length p.cells)

  pub sliced-links : length (sliced p cuts).links ≡ length p.links
  sliced-links = length-row (λ l. sliced_link (cut_at cuts (link p l).target) (link p l)) 0 (length p.links)

  pub cell-sliced : (c : ℕ) → c < length p.cells → cell (sliced p cuts) c ≡ sliced_cell (cut_at cuts c) (cell p c)
  cell-sliced c h = get-row (λ c. sliced_cell (cut_at cuts c) (cell p c)) (length p.cells) c no_cell h

  pub link-sliced : (l : ℕ) → l < length p.links → link (sliced p cuts) l ≡ sliced_link (cut_at cuts (link p l).target) (link p l)
  link-sliced l h = get-row (λ l. sliced_link (cut_at cuts (link p l).target) (link p l)) (length p.links) l no_link h

  target-sliced : (l : ℕ) → (link (sliced p cuts) l).target ≡ (link p l).target
  target-sliced l = elim (cases_lt l (length p.links)) [
    | inl h ↦ ap (λ (x : Link). x.target) (link-sliced l h)
    | inr h ↦
        ap (λ (x : Link). x.target)
        (get_or_past (sliced p cuts).links l no_link (let e = sliced-links in omega (arith, h, e))
        ∙ sym (get_or_past p.links l no_link (omega (arith, h))))
  ]

  pub in_links-sliced : (c : ℕ) → in_links (sliced p cuts) c ≡ in_links p c
  in_links-sliced c =
      ap (λ n. filter (λ l. (link (sliced p cuts) l).target == c) (from_to 0 n)) sliced-links
      ∙ filter_agree (λ l. (link (sliced p cuts) l).target == c) (λ l. (link p l).target == c) (λ l. ap (λ n. n == c) (target-sliced l))
      (all_links p)

-- ---- what is given
pub record Given (p : Plan) (ks : List Cut) (j : ℕ) (inputs inner : Inputs) : Type 0 where
  pub sound : SoundPlan p (length inputs)
  pub fit : AreInputsOf p inputs
  pub cuts : AreCuts p ks
  pub slices : AreSlices p ks j inputs inner

module _ (p : Plan) (cuts : List Cut) (j : ℕ) (inputs inner : Inputs) (given : Given p cuts j inputs inner) where
  -- how cell c is cut, which slice stands for slice j, and of how many blocks
  abbrev its_cut : ℕ → Cut
  its_cut c = cut_at cuts c

  abbrev its_slice : ℕ → ℕ
  its_slice c = j % (its_cut c).count

  abbrev its_blocks : ℕ → ℕ
  its_blocks c = (cell p c).length / block (its_cut c)

  abbrev its : ℕ → List ℕ → List ℕ
  its c xs = slice (its_cut c) (its_slice c) (its_blocks c) xs

  positive : (c : ℕ) → c < length p.cells → 0 < block (its_cut c)
  positive c h = let a = given.cuts.cells c h in block-pos (its_cut c) a.count a.width

  within : (c : ℕ) → c < length p.cells → its_slice c < (its_cut c).count
  within c h = mod-lt j (given.cuts.cells c h).count

  long : (c : ℕ) → c < length p.cells → (cell p c).length ≡ its_blocks c * block (its_cut c)
  long c h = blocks (its_cut c) (cell p c).length (given.cuts.cells c h).long

  its-slice : (c : ℕ) → c < length p.cells → (xs : List ℕ) → length xs ≡ (cell p c).length → slice_at cuts j c xs ≡ its c xs
  its-slice c h xs e = slice-blocks (its_cut c) (positive c h) (its_slice c) (its_blocks c) xs (e ∙ long c h)

  -- ---- at the beginning
  at-first : (c : ℕ) → c < length p.cells → (b : Bool) → is_input p inputs c ≡ b
      → cond b (input_bytes p inner (c - p.ranks)) (blank (cell (sliced p cuts) c))
      ≡ its c (cond b (input_bytes p inputs (c - p.ranks)) (blank (cell p c)))
  at-first c h false e =
      ap blank (cell-sliced p cuts c h)
      ∙ slice-blank (its_cut c) (its_slice c) (within c h) (cell p c) (given.cuts.cells c h).elements (its_blocks c) (long c h)
      (given.sound.whole c h)
  at-first c h true e =
      let q = and_parts _ _ e in
      let a : p.ranks ≤ c = leb-true _ _ q.0 in
      let b : c < p.ranks + length inputs * p.ranks = ltb-true _ _ q.1 in
      let i : p.ranks + (c - p.ranks) ≡ c = omega (arith, a) in
      let below : c - p.ranks < length inputs * p.ranks = omega (arith, a, b) in
      given.slices.each (c - p.ranks) below
      ∙ ap (λ n. slice_at cuts j n (input_bytes p inputs (c - p.ranks))) i
      ∙ its-slice c h (input_bytes p inputs (c - p.ranks)) (given.fit (c - p.ranks) below ∙ ap (λ n. (cell p n).length) i)

  initial-sliced : (c : ℕ) → c < length p.cells → initial (sliced p cuts) inner c ≡ its c (initial p inputs c)
  initial-sliced c h =
      ap (λ n. cond (nat_le p.ranks c && nat_lt c (p.ranks + n * p.ranks)) (input_bytes p inner (c - p.ranks))
      (blank (cell (sliced p cuts) c))) given.slices.many
      ∙ at-first c h (is_input p inputs c) refl

  -- ---- one link
  -- its source holds the slice of what it holds
  abbrev IsSliced : ℕ → Type 0
  IsSliced c = value (sliced p cuts) inner c ≡ slice_at cuts j c (value p inputs c)

  source-below : (l : ℕ) → l < length p.links → (link p l).source < length p.cells
  source-below l h = let s = given.sound.links_sound l h in let a = s.rising in let b = s.cells in omega (arith, a, b)

  moved : (l : ℕ) → l < length p.links → (kind : LinkKind) → (link p l).kind ≡ kind → ((link p l).kind ≡ Bump → ⊥) → (xs : List ℕ)
      → length xs ≡ (cell p (link p l).target).length → IsSliced (link p l).source
      → land_as kind (cell (sliced p cuts) (link p l).target) ((link p l).target_offset / (its_cut (link p l).target).count)
      (part ((link p l).source_offset / (its_cut (link p l).target).count) ((link p l).length / (its_cut (link p l).target).count)
      (value (sliced p cuts) inner (link p l).source)) (its (link p l).target xs)
      ≡ its (link p l).target (land_as kind (cell p (link p l).target) (link p l).target_offset
      (part (link p l).source_offset (link p l).length (value p inputs (link p l).source)) xs)
  moved l h kind z other xs e src =
      let sound = given.sound.links_sound l h in
      let link-cut = given.cuts.links l h other in
      let t = (link p l).target in
      let s = (link p l).source in
      let k = its_cut t in
      let own = (cell p s).length / block k in
      let v = value p inputs s in
      let size : (cell p s).length ≡ own * block k =
      subst (λ (k : Cut). (cell p s).length ≡ (cell p s).length / block k * block k) link-cut.alike (long s (source-below l h)) in
      let full : length v ≡ own * block k = length-value p inputs given.sound given.fit s (source-below l h) ∙ size in
      let held : value (sliced p cuts) inner s ≡ slice k (its_slice t) own v =
      src ∙ ap (λ (k : Cut). slice_of k (j % k.count) v) link-cut.alike
      ∙ slice-blocks k (positive t sound.cells) (its_slice t) own v full in
      let carries : Carries k (cell p t) kind (link p l).source_offset (link p l).target_offset (link p l).length own (its_blocks t) =
      record {
        some = positive t sound.cells;
        from_whole = link-cut.source_offset;
        to_whole = link-cut.target_offset;
        whole = link-cut.long;
        within_source = (let w = sound.within_source in omega (arith, w, size));
        within_target = (let w = sound.within_target in let m = long t sound.cells in omega (arith, w, m));
        elements = λ a. ap (λ n. n % bytes_of (cell p t).ty) (sound.atomic_whole (z ∙ a)).1 ∙ given.sound.whole t sound.cells;
      } in
      ap₂ (λ (x : Cell) (u : List ℕ). land_as kind x ((link p l).target_offset / k.count)
      (part ((link p l).source_offset / k.count) ((link p l).length / k.count) u) (its t xs)) (cell-sliced p cuts t sound.cells) held
      ∙ slice-carried k (its_slice t) (within t sound.cells) (cell p t) (given.cuts.cells t sound.cells).elements kind
      (link p l).source_offset (link p l).target_offset (link p l).length own (its_blocks t) v xs carries full (e ∙ long t sound.cells)

  carried-by : (l : ℕ) → l < length p.links → (kind : LinkKind) → (link p l).kind ≡ kind → (xs : List ℕ)
      → length xs ≡ (cell p (link p l).target).length → IsSliced (link p l).source
      → land_as kind (cell (sliced p cuts) (link p l).target) ((link p l).target_offset / (its_cut (link p l).target).count)
      (part ((link p l).source_offset / (its_cut (link p l).target).count) ((link p l).length / (its_cut (link p l).target).count)
      (value (sliced p cuts) inner (link p l).source)) (its (link p l).target xs)
      ≡ its (link p l).target (land_as kind (cell p (link p l).target) (link p l).target_offset
      (part (link p l).source_offset (link p l).length (value p inputs (link p l).source)) xs)
  carried-by l h Bump z xs e src = refl
  carried-by l h Put z xs e src = moved l h Put z (λ b. let other = sym z ∙ b in cc) xs e src
  carried-by l h Atomic z xs e src = moved l h Atomic z (λ b. let other = sym z ∙ b in cc) xs e src

  -- ---- the links that come to a cell, where the cells before it are sliced
  -- what link l brings to cell c
  abbrev brought : Plan → Inputs → ℕ → ℕ → List ℕ
  brought r lists c l = carried_of r (get_or (values r lists c) (link r l).source []) l

  module _ (c : ℕ) (below : (d : ℕ) → d < c → d < length p.cells → IsSliced d) where
    before : (l : ℕ) → l < length p.links → (link p l).target ≡ c → (link p l).source < c
    before l h t = let a = (given.sound.links_sound l h).rising in omega (arith, a, t)

    step : (l : ℕ) → l < length p.links → (link p l).target ≡ c → (xs : List ℕ) → length xs ≡ (cell p c).length
        → land (sliced p cuts) l (brought (sliced p cuts) inner c l) (its c xs) ≡ its c (land p l (brought p inputs c l) xs)
    step l h t xs e =
        let x = link p l in
        let f = (its_cut x.target).count in
        ap (λ (y : Link). land_as y.kind (cell (sliced p cuts) y.target) y.target_offset
        (part y.source_offset y.length (get_or (values (sliced p cuts) inner c) y.source [])) (its c xs)) (link-sliced p cuts l h)
        ∙ ap (λ u. land_as x.kind (cell (sliced p cuts) x.target) (x.target_offset / f) (part (x.source_offset / f) (x.length / f) u)
        (its c xs)) (get_or-values (sliced p cuts) inner c x.source (before l h t))
        ∙ subst (λ d. length xs ≡ (cell p d).length
        → land_as x.kind (cell (sliced p cuts) x.target) (x.target_offset / f)
        (part (x.source_offset / f) (x.length / f) (value (sliced p cuts) inner x.source)) (its d xs)
        ≡ its d (land_as x.kind (cell p x.target) x.target_offset (part x.source_offset x.length (value p inputs x.source)) xs)) t
        (λ e'. carried-by l h x.kind refl xs e' (below x.source (before l h t) (source-below l h))) e
        ∙ ap (λ u. its c (land_as x.kind (cell p x.target) x.target_offset (part x.source_offset x.length u) xs))
        (sym (get_or-values p inputs c x.source (before l h t)))

    step-keeps : (l : ℕ) → l < length p.links → (link p l).target ≡ c → (xs : List ℕ) → length xs ≡ (cell p c).length
        → length (land p l (brought p inputs c l) xs) ≡ (cell p c).length
    step-keeps l h t xs e =
        let sound = given.sound.links_sound l h in
        let x = link p l in
        let held = get_or-values p inputs c x.source (before l h t) in
        let size = ap length held ∙ length-value p inputs given.sound given.fit x.source (source-below l h) in
        let full : length (brought p inputs c l) ≡ x.length =
        length-part x.source_offset x.length (get_or (values p inputs c) x.source [])
        (let w = sound.within_source in omega (arith, w, size)) in
        length-land (cell p x.target) x.kind x.target_offset (brought p inputs c l) xs (given.sound.whole x.target sound.cells)
        (Lands-of p l sound (brought p inputs c l) full) (e ∙ ap (λ d. (cell p d).length) (sym t))
        ∙ ap (λ d. (cell p d).length) t

    lands : (ls : List ℕ) → ((l : ℕ) → In l ls → (l < length p.links) × ((link p l).target ≡ c)) → (xs : List ℕ)
        → length xs ≡ (cell p c).length
        → land_all (sliced p cuts) (brought (sliced p cuts) inner c) ls (its c xs) ≡ its c (land_all p (brought p inputs c) ls xs)
    lands [] all xs e = refl
    lands (l ∷ ls) all xs e =
        let r = all l (inl refl) in
        ap (land_all (sliced p cuts) (brought (sliced p cuts) inner c) ls) (step l r.0 r.1 xs e)
        ∙ lands ls (λ m i. all m (inr i)) (land p l (brought p inputs c l) xs) (step-keeps l r.0 r.1 xs e)

    next-sliced : c < length p.cells → IsSliced c
    next-sliced h =
        value-is (sliced p cuts) inner c
        ∙ ap₂ (λ ls x. land_all (sliced p cuts) (brought (sliced p cuts) inner c) ls x) (in_links-sliced p cuts c) (initial-sliced c h)
        ∙ lands (in_links p c) (in_links-In p c) (initial p inputs c) (length-initial p inputs given.sound given.fit c h)
        ∙ ap (its c) (sym (value-is p inputs c))
        ∙ sym (its-slice c h (value p inputs c) (length-value p inputs given.sound given.fit c h))

  sliced-below : (n c : ℕ) → c < n → c < length p.cells → IsSliced c
  sliced-below zero c l h = absurd (omega (arith, l))
  sliced-below (suc n) c l h = next-sliced c (λ d m i. sliced-below n d (omega (arith, l, m)) i) h

  pub value-sliced : (c : ℕ) → c < length p.cells → value (sliced p cuts) inner c ≡ slice_at cuts j c (value p inputs c)
  value-sliced c h = sliced-below (suc c) c (omega arith) h

  -- ---- the inputs of a slice's plan
  length-its : (c : ℕ) → c < length p.cells → (xs : List ℕ) → length xs ≡ (cell p c).length
      → length (slice_at cuts j c xs) ≡ (cell p c).length / (its_cut c).count
  length-its c h xs e =
      let k = its_cut c in
      let some = (given.cuts.cells c h).count in
      ap length (its-slice c h xs e)
      ∙ length-slice k (its_slice c) (within c h) (its_blocks c) xs (let l = long c h in omega (arith, e, l))
      ∙ sym (ap (λ n. n / k.count) (long c h) ∙ shrunk k some (its_blocks c))

  pub inputs-sliced : AreInputsOf (sliced p cuts) inner
  inputs-sliced i h =
      let below : i < length inputs * p.ranks = subst (λ n. i < n * p.ranks) given.slices.many h in
      let there = (given.sound.input_cells i below).0 in
      ap length (given.slices.each i below)
      ∙ length-its (p.ranks + i) there (input_bytes p inputs i) (given.fit i below)
      ∙ sym (ap (λ (x : Cell). x.length) (cell-sliced p cuts (p.ranks + i) there))
