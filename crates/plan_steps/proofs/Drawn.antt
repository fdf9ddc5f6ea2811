-- Many cells in a row: the plan stays well built, what was stays, and each new cell is as its node says.
use Rattle.std.proofs.Common.{ℕ, zero, suc, Bool, true, false, ◌&&◌, ◌+◌, ◌*◌, ◌≡◌, ◌≤◌, ◌<◌, List, [], ◌∷◌, ◌++◌, refl, length, map}
use Rattle.std.proofs.Common.{flat_map, get_or, ap, ap₂, ◌∙◌, sym, subst, inl, inr, arith, nat_lt, nat_le, le_refl, length-append}
use Rattle.std.proofs.lemmas.Bool.{ltb-true}
use Rattle.plan_core.proofs.Links.{In-from_to, in_links-In}
use Rattle.plan_core.specs.Draw.{NewCell, cell_of, link_to}
use Rattle.plan_core.specs.Members.{In}
use Rattle.plan_core.specs.Rounds.{Comes}
use Rattle.plan_core.specs.Plan.{Plan, cell, from_to, in_links, link}
use Rattle.plan_core.specs.Values.{blank, is_input, land_as, value, Inputs}
use Rattle.plan_core.specs.declared.Cell.{Cell}
use Rattle.plan_core.specs.declared.Incoming.{Incoming}
use Rattle.plan_core.specs.declared.Link.{Link}
use Rattle.plan_core.specs.declared.LinkKind.TheVariants.{Atomic, Bump}
use Rattle.plan_steps.proofs.Grow.{cell-new, cell-old, in_links-new, in_links-old, length-cells, length-links, link-new, link-old}
use Rattle.plan_steps.proofs.Grow.{no_incoming, value-new, value-old}
use Rattle.plan_steps.proofs.Sound.{grows, node_fits}
use Rattle.plan_steps.specs.Sounding.{EachAt, SoundNewCell, WellBuilt, land_each, land_incoming, new_value, with_cell, with_cells}
use Rattle.ptl_types.specs.Elements.{part}

-- ---- q has p's cells in front, with their links and values
pub record Extends (p q : Plan) (inputs : Inputs) : Type 0 where
  pub ranks : q.ranks ≡ p.ranks
  pub longer : length p.cells ≤ length q.cells
  pub more_links : length p.links ≤ length q.links
  pub same_cell : (c : ℕ) → c < length p.cells → cell q c ≡ cell p c
  pub same_link : (l : ℕ) → l < length p.links → link q l ≡ link p l
  pub same_in : (c : ℕ) → c < length p.cells → in_links q c ≡ in_links p c
  pub same_value : (c : ℕ) → c < length p.cells → value q inputs c ≡ value p inputs c

pub extends-refl : (p : Plan) (inputs : Inputs) → Extends p p inputs
extends-refl p inputs = record {
  ranks = refl;
  longer = le_refl _;
  more_links = le_refl _;
  same_cell = λ c h. refl;
  same_link =
      λ l h. refl;
  same_in = λ c h. refl;
  same_value = λ c h. refl;
}

pub extends-trans : (p q r : Plan) (inputs : Inputs) → Extends p q inputs → Extends q r inputs → Extends p r inputs
extends-trans p q r inputs a b = let la = a.longer in let lb = b.longer in let ma = a.more_links in let mb = b.more_links in record {
  ranks = b.ranks ∙ a.ranks;
  longer = omega arith;
  more_links = omega arith;
  same_cell = λ c h. b.same_cell c (omega arith) ∙ a.same_cell c h;
  same_link = λ l h. b.same_link l (omega arith) ∙ a.same_link l h;
  same_in = λ c h. b.same_in c (omega arith) ∙ a.same_in c h;
  same_value = λ c h. b.same_value c (omega arith) ∙ a.same_value c h;
}

pub extends-add : (p : Plan) (n : NewCell) (inputs : Inputs) → Extends p (with_cell p n) inputs
extends-add p n inputs = record {
  ranks = refl;
  longer = (let e = length-cells p n in omega arith);
  more_links = (let e = length-links p n in omega arith);
  same_cell = λ c h. cell-old p n c h;
  same_link = λ l h. link-old p n l h;
  same_in = λ c h. in_links-old p n c h;
  same_value = λ c h. value-old p n inputs c h;
}

pub extends-all : (p : Plan) (ns : List NewCell) (inputs : Inputs) → Extends p (with_cells p ns) inputs
extends-all p [] inputs = extends-refl p inputs
extends-all p (n ∷ ns) inputs = extends-trans p (with_cell p n) (with_cells (with_cell p n) ns) inputs (extends-add p n inputs)
    (extends-all (with_cell p n) ns inputs)

pub length-add_all : (p : Plan) (ns : List NewCell) → length (with_cells p ns).cells ≡ length p.cells + length ns
length-add_all p [] = omega arith
length-add_all p (n ∷ ns) = length-add_all (with_cell p n) ns ∙ (let e = length-cells p n in omega arith)

pub add_all-append : (p : Plan) (xs ys : List NewCell) → with_cells p (xs ++ ys) ≡ with_cells (with_cells p xs) ys
add_all-append p [] ys = refl
add_all-append p (x ∷ xs) ys = add_all-append (with_cell p x) xs ys

-- ---- what holds of each node
pub each-same : (P Q : ℕ → NewCell → Type 0) (c : ℕ) (ns : List NewCell) → ((d : ℕ) (n : NewCell) → c ≤ d → P d n → Q d n) →
    EachAt P c ns → EachAt Q c ns
each-same P Q c [] f h = tt
each-same P Q c (n ∷ ns) f h = (f c n (le_refl c) h.0, each-same P Q (suc c) ns (λ d m l p. f d m (omega arith) p) h.1)

pub each_append : (P : ℕ → NewCell → Type 0) (c : ℕ) (xs ys : List NewCell) → EachAt P c xs → EachAt P (c + length xs) ys →
    EachAt P c (xs ++ ys)
each_append P c [] ys h k = subst (λ v. EachAt P v ys) (let e : c + 0 ≡ c = omega arith in e) k
each_append P c (x ∷ xs) ys h k = (
  h.0,
  each_append P (suc c) xs ys h.1
      (subst (λ v. EachAt P v ys) (let e : c + suc (length xs) ≡ suc c + length xs = omega arith in e) k),
)

pub each_front : (P : ℕ → NewCell → Type 0) (c : ℕ) (xs ys : List NewCell) → EachAt P c (xs ++ ys) → EachAt P c xs
each_front P c [] ys h = tt
each_front P c (x ∷ xs) ys h = (h.0, each_front P (suc c) xs ys h.1)

pub each_back : (P : ℕ → NewCell → Type 0) (c : ℕ) (xs ys : List NewCell) → EachAt P c (xs ++ ys) → EachAt P (c + length xs) ys
each_back P c [] ys h = subst (λ v. EachAt P v ys) (let e : c ≡ c + 0 = omega arith in e) h
each_back P c (x ∷ xs) ys h = subst (λ v. EachAt P v ys) (let e : suc c + length xs ≡ c + suc (length xs) = omega arith in e)
    (each_back P (suc c) xs ys h.1)

pub each_map : (P : ℕ → NewCell → Type 0) (c : ℕ) (f : ℕ → NewCell) (a n : ℕ) → ((i : ℕ) → i < n → P (c + i) (f (a + i))) →
    EachAt P c (map f (from_to a n))
each_map P c f a zero h = tt
each_map P c f a (suc n) h = (
  (let e : c + 0 ≡ c = omega arith in let k : a + 0 ≡ a = omega arith in
      subst (λ v. P v (f a)) e (subst (λ v. P (c + 0) (f v)) k (h 0 (omega arith)))),
  each_map P (suc c) f (suc a) n (λ i l. let e : c + suc i ≡ suc c + i = omega arith in let k : a + suc i ≡ suc a + i = omega arith in
      subst (λ v. P v (f (suc a + i))) e (subst (λ v. P (c + suc i) (f v)) k (h (suc i) (omega arith)))),
)

pub each_of_map : (P : ℕ → NewCell → Type 0) (c : ℕ) (f : ℕ → NewCell) (a n : ℕ) → EachAt P c (map f (from_to a n)) → (i : ℕ) → i < n →
    P (c + i) (f (a + i))
each_of_map P c f a zero h i l = absurd (omega arith)
each_of_map P c f a (suc n) h zero l = let e : c ≡ c + 0 = omega arith in let k : a ≡ a + 0 = omega arith in
    subst (λ v. P v (f (a + 0))) e (subst (λ v. P c (f v)) k h.0)
each_of_map P c f a (suc n) h (suc i) l =
    let e : suc c + i ≡ c + suc i = omega arith in let k : suc a + i ≡ a + suc i = omega arith in
    subst (λ v. P v (f (a + suc i))) e (subst (λ v. P (suc c + i) (f v)) k (each_of_map P (suc c) f (suc a) n h.1 i (omega arith)))

pub length-rows : (f : ℕ → ℕ → NewCell) (m a n : ℕ) → length (flat_map (λ k. map (f k) (from_to 0 m)) (from_to a n)) ≡ n * m
length-rows f m a zero = omega arith
length-rows f m a (suc n) =
    length-append (map (f a) (from_to 0 m)) (flat_map (λ k. map (f k) (from_to 0 m)) (from_to (suc a) n))
    ∙ ap₂ (λ x y. x + y) (length-map-from (f a) 0 m) (length-rows f m (suc a) n) ∙ (let e : m + n * m ≡ suc n * m = omega arith in e)
  where
    length-map-from : (f : ℕ → NewCell) (a n : ℕ) → length (map f (from_to a n)) ≡ n
    length-map-from f a zero = refl
    length-map-from f a (suc n) = ap suc (length-map-from f (suc a) n)

pub length-map-from : (f : ℕ → NewCell) (a n : ℕ) → length (map f (from_to a n)) ≡ n
length-map-from f a zero = refl
length-map-from f a (suc n) = ap suc (length-map-from f (suc a) n)

-- rows of m cells each
pub each_rows : (P : ℕ → NewCell → Type 0) (c : ℕ) (f : ℕ → ℕ → NewCell) (m a n : ℕ) →
    ((k i : ℕ) → k < n → i < m → P (c + (k * m + i)) (f (a + k) i)) → EachAt P c (flat_map (λ k. map (f k) (from_to 0 m)) (from_to a n))
each_rows P c f m a zero h = tt
each_rows P c f m a (suc n) h =
    each_append P c (map (f a) (from_to 0 m)) (flat_map (λ k. map (f k) (from_to 0 m)) (from_to (suc a) n))
    (each_map P c (f a) 0 m (λ i l. let e : c + (0 * m + i) ≡ c + i = omega arith in let k : a + 0 ≡ a = omega arith in
    let z : i ≡ 0 + i = omega arith in
    subst (λ v. P v (f a (0 + i))) e (subst (λ v. P (c + (0 * m + i)) (f a v)) z
    (subst (λ v. P (c + (0 * m + i)) (f v i)) k (h 0 i (omega arith) l)))))
    (subst (λ v. EachAt P (c + v) (flat_map (λ k. map (f k) (from_to 0 m)) (from_to (suc a) n))) (sym (length-map-from (f a) 0 m))
    (each_rows P (c + m) f m (suc a) n (λ k i l j. let e : c + (suc k * m + i) ≡ c + m + (k * m + i) = omega arith in
    let z : a + suc k ≡ suc a + k = omega arith in
    subst (λ v. P v (f (suc a + k) i)) e (subst (λ v. P (c + (suc k * m + i)) (f v i)) z (h (suc k) i (omega arith) j)))))

pub each_of_rows : (P : ℕ → NewCell → Type 0) (c : ℕ) (f : ℕ → ℕ → NewCell) (m a n : ℕ) →
    EachAt P c (flat_map (λ k. map (f k) (from_to 0 m)) (from_to a n)) → (k i : ℕ) → k < n → i < m → P (c + (k * m + i)) (f (a + k) i)
each_of_rows P c f m a zero h k i l j = absurd (omega arith)
each_of_rows P c f m a (suc n) h zero i l j =
    let r = each_of_map P c (f a) 0 m (each_front P c (map (f a) (from_to 0 m))
    (flat_map (λ k. map (f k) (from_to 0 m)) (from_to (suc a) n)) h) i j in
    let e : c + i ≡ c + (0 * m + i) = omega arith in let k : a ≡ a + 0 = omega arith in let z : 0 + i ≡ i = omega arith in
    subst (λ v. P v (f (a + 0) i)) e (subst (λ v. P (c + i) (f v i)) k (subst (λ v. P (c + i) (f a v)) z r))
each_of_rows P c f m a (suc n) h (suc k) i l j =
    let b = each_back P c (map (f a) (from_to 0 m)) (flat_map (λ k. map (f k) (from_to 0 m)) (from_to (suc a) n)) h in
    let b' : EachAt P (c + m) (flat_map (λ k. map (f k) (from_to 0 m)) (from_to (suc a) n)) =
    subst (λ v. EachAt P (c + v) (flat_map (λ k. map (f k) (from_to 0 m)) (from_to (suc a) n))) (length-map-from (f a) 0 m) b in
    let r = each_of_rows P (c + m) f m (suc a) n b' k i (omega arith) j in
    let e : c + m + (k * m + i) ≡ c + (suc k * m + i) = omega arith in let z : suc a + k ≡ a + suc k = omega arith in
    subst (λ v. P v (f (a + suc k) i)) e (subst (λ v. P (c + m + (k * m + i)) (f v i)) z r)

-- ---- sound nodes keep the plan well built
other_cells : (ranks : ℕ) (k k' : ℕ → Cell) (c : ℕ) (n : NewCell) → ((d : ℕ) → d < c → k d ≡ k' d) → SoundNewCell ranks k c n →
    SoundNewCell ranks k' c n
other_cells ranks k k' c n same h = record {
  rank_known = h.rank_known;
  whole = h.whole;
  some_link = h.some_link;
  each_into = λ i j. let o = h.each_into i j in let e = same i.source o.rising in record {
    rising = o.rising;
    within_source = subst (λ (v : Cell). i.source_offset + i.length ≤ v.length) e o.within_source;
    within_target = o.within_target;
    bump_stays = subst (λ (v : Cell). i.kind ≡ Bump → v.rank ≡ n.rank) e o.bump_stays;
    bump_empty = o.bump_empty;
    atomic_here = o.atomic_here;
    atomic_whole = subst (λ (v : Cell). i.kind ≡ Atomic → (i.target_offset ≡ 0) × (i.length ≡ n.length) × (v.ty ≡ n.ty) ×
        (v.length ≡ n.length)) e o.atomic_whole;
    no_atomic = o.no_atomic;
  };
  apart = h.apart;
  covered = h.covered;
}

pub grows_all : (p : Plan) (ns : List NewCell) (inputs : ℕ) → WellBuilt p inputs → p.ranks + inputs ≤ length p.cells →
    EachAt (SoundNewCell p.ranks (cell (with_cells p ns))) (length p.cells) ns → WellBuilt (with_cells p ns) inputs
grows_all p [] inputs built behind h = built
grows_all p (n ∷ ns) inputs built behind h =
    let x = extends-all (with_cell p n) ns [] in
    let e = length-cells p n in
    grows_all (with_cell p n) ns inputs
    (let first : SoundNewCell p.ranks (cell (with_cell p n)) (length p.cells) n =
    other_cells p.ranks (cell (with_cells (with_cell p n) ns)) (cell (with_cell p n)) (length p.cells) n
    (λ d l. x.same_cell d (omega arith)) h.0 in
    grows p n inputs inputs built (node_fits p.ranks (cell (with_cell p n)) (length p.cells) n first) (λ l. first.covered)
    (le_refl inputs) (omega arith) (λ i l m. absurd (omega arith)) (λ l. absurd (omega arith)))
    (omega arith)
    (subst (λ v. EachAt (SoundNewCell p.ranks (cell (with_cells (with_cell p n) ns))) v ns) (sym e) h.1)

-- ---- what is known of a cell that was drawn
pub record Drawn (q : Plan) (inputs : Inputs) (c : ℕ) (n : NewCell) : Type 0 where
  pub in_plan : c < length q.cells
  pub is_cell : cell q c ≡ cell_of n
  pub sources : (i : Incoming) → In i n.into → i.source < c
  pub is_value : value q inputs c ≡ new_value n (value q inputs)
  pub comes : (i : Incoming) → In i n.into → Comes q i.source c

pub comes-extends : (p q : Plan) (inputs : Inputs) → Extends p q inputs → (b c : ℕ) → c < length p.cells → Comes p b c → Comes q b c
comes-extends p q inputs x b c h w = record {
  l = w.l;
  into = subst (λ ls. In w.l ls) (sym (x.same_in c h)) w.into;
  from = ap (λ (k : Link). k.source) (x.same_link w.l (in_links-In p c w.l w.into).0) ∙ w.from;
}

land_same : (n : NewCell) (v w : ℕ → List ℕ) (is : List Incoming) → ((i : Incoming) → In i is → v i.source ≡ w i.source) → (z : List ℕ) →
    land_each n v is z ≡ land_each n w is z
land_same n v w [] same z = refl
land_same n v w (i ∷ is) same z =
    ap (λ x. land_each n v is (land_as i.kind (cell_of n) i.target_offset (part i.source_offset i.length x) z)) (same i (inl refl))
    ∙ land_same n v w is (λ j k. same j (inr k)) (land_incoming n w i z)

pub drawn-extends : (p q : Plan) (inputs : Inputs) (m : ℕ) → WellBuilt p m → Extends p q inputs → (c : ℕ) (n : NewCell) →
    Drawn p inputs c n → Drawn q inputs c n
drawn-extends p q inputs m built x c n h =
    let k = h.in_plan in
    let g = x.longer in record {
      in_plan = omega arith;
      is_cell = x.same_cell c k ∙ h.is_cell;
      sources = h.sources;
      is_value = x.same_value c k ∙ h.is_value ∙ land_same n (value p inputs) (value q inputs) n.into
          (λ i j. sym (x.same_value i.source (let s = h.sources i j in omega arith))) (blank (cell_of n));
      comes = λ i j. comes-extends p q inputs x i.source c k (h.comes i j);
    }

record IsAt (i : Incoming) (is : List Incoming) : Type 0 where
  place : ℕ
  below : place < length is
  there : get_or is place no_incoming ≡ i

at_place : (i : Incoming) (is : List Incoming) → In i is → IsAt i is
at_place i [] h = absurd h
at_place i (j ∷ js) (inl e) = record { place = 0; below = omega arith; there = e }
at_place i (j ∷ js) (inr h) = let r = at_place i js h in record {
  place = suc r.place;
  below = (let b = r.below in omega arith);
  there =
      r.there;
}

drawn-one : (p : Plan) (n : NewCell) (inputs : Inputs) → WellBuilt p (length inputs * p.ranks) →
    p.ranks + length inputs * p.ranks ≤ length p.cells → ((i : Incoming) → In i n.into → i.source < length p.cells) →
    Drawn (with_cell p n) inputs (length p.cells) n
drawn-one p n inputs built behind lower = record {
  in_plan = (let e = length-cells p n in omega arith);
  is_cell = cell-new p n;
  sources = lower;
  is_value = value-new p n inputs (λ l h. (built.links_sound l h).cells) lower
      (out (nat_lt (length p.cells) (p.ranks + length inputs * p.ranks)) refl);
  comes = λ i j. let r = at_place i n.into j in
      let e : link (with_cell p n) (length p.links + r.place) ≡ link_to (length p.cells) i = link-new p n r.place r.below
      ∙ ap (link_to (length p.cells)) r.there in record {
        l = length p.links + r.place;
        into = subst (λ ls. In (length p.links + r.place) ls) (sym (in_links-new p n (λ l h. (built.links_sound l h).cells)))
            (In-from_to (length p.links) (length n.into) (length p.links + r.place) (omega arith) (let w = r.below in omega arith));
        from = ap (λ (k : Link). k.source) e;
      };
}
  where
    out : (b : Bool) → nat_lt (length p.cells) (p.ranks + length inputs * p.ranks) ≡ b → is_input p inputs (length p.cells) ≡ false
    out true e = absurd (let h = ltb-true _ _ e in omega arith)
    out false e = ap (λ b. nat_le p.ranks (length p.cells) && b) e ∙ last (nat_le p.ranks (length p.cells))
      where
        last : (b : Bool) → (b && false) ≡ false
        last true = refl
        last false = refl

pub drawn_all : (p : Plan) (ns : List NewCell) (inputs : Inputs) → WellBuilt p (length inputs * p.ranks) →
    p.ranks + length inputs * p.ranks ≤ length p.cells → EachAt (SoundNewCell p.ranks (cell (with_cells p ns))) (length p.cells) ns →
    EachAt (Drawn (with_cells p ns) inputs) (length p.cells) ns
drawn_all p [] inputs built behind h = tt
drawn_all p (n ∷ ns) inputs built behind h =
    let x = extends-all (with_cell p n) ns inputs in
    let e = length-cells p n in
    let first : SoundNewCell p.ranks (cell (with_cell p n)) (length p.cells) n =
    other_cells p.ranks (cell (with_cells (with_cell p n) ns)) (cell (with_cell p n)) (length p.cells) n
    (λ d l. x.same_cell d (omega arith)) h.0 in
    let next : WellBuilt (with_cell p n) (length inputs * p.ranks) = grows p n (length inputs * p.ranks) (length inputs * p.ranks) built
    (node_fits p.ranks (cell (with_cell p n)) (length p.cells) n first) (λ l. first.covered) (le_refl (length inputs * p.ranks))
    (omega arith) (λ i l m. absurd (omega arith)) (λ l. absurd (omega arith)) in (
      drawn-extends (with_cell p n) (with_cells (with_cell p n) ns) inputs (length inputs * p.ranks) next x (length p.cells) n
          (drawn-one p n inputs built behind (λ i j. (first.each_into i j).rising)),
      subst (λ v. EachAt (Drawn (with_cells (with_cell p n) ns) inputs) v ns) e
          (drawn_all (with_cell p n) ns inputs next (omega arith)
          (subst (λ v. EachAt (SoundNewCell p.ranks (cell (with_cells (with_cell p n) ns))) v ns) (sym e) h.1)),
    )
