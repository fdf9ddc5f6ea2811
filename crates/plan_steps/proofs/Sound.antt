-- One more cell with its links keeps a plan sound.
use Rattle.std.proofs.Common.{ℕ, zero, suc, Bool, true, false, cond, ◌+◌, ◌-◌, ◌%◌, ◌≡◌, ◌≤◌, ◌<◌, ◌⊎◌, List, [], ◌∷◌, refl, length, get_or}
use Rattle.std.proofs.Common.{ap, ap₂, ◌∙◌, sym, subst, inl, inr, arith, Some, None, sum_by, nat_lt, eq-or-lt_of_le, le_of_suc-le-suc}
use Rattle.std.proofs.Common.{le_refl}
use Rattle.std.proofs.lemmas.Bool.{ltb-true, ltb-false}
use Rattle.std.proofs.lemmas.List.Sums.{sum_by-cons}
use Rattle.plan_core.proofs.Links.{in_links-In}
use Rattle.plan_core.specs.Draw.{NewCell, cell_of, link_to}
use Rattle.plan_core.specs.Members.{In}
use Rattle.plan_core.specs.Plan.{Plan, cell, from_to, in_links, is_bump, link}
use Rattle.plan_core.specs.Sound.{SoundLink, put_bytes}
use Rattle.plan_core.specs.declared.Cell.{Cell}
use Rattle.plan_core.specs.declared.Incoming.{Incoming}
use Rattle.plan_core.specs.declared.Link.{Link}
use Rattle.plan_core.specs.declared.LinkKind.TheVariants.{Atomic, Bump, Put}
use Rattle.plan_steps.proofs.Grow.{In-get_or, InPlan, cell-new, cell-old, in_links-new, in_links-old, length-cells, length-from_to}
use Rattle.plan_steps.proofs.Grow.{length-links, link-new, link-old, no_incoming}
use Rattle.plan_steps.specs.Sounding.{AllApart, ArePartsApart, FromAll, NodeFits, SoundIncoming, SoundNewCell, WellBuilt, put_length}
use Rattle.plan_steps.specs.Sounding.{with_cell}
use Rattle.ptl_types.specs.Operations.{bytes_of}
use Rattle.ptl_types.specs.declared.elements.AtomicOp.{AtomicOp}

sum_by-same : {X : Type 0} (f g : X → ℕ) (xs : List X) → ((x : X) → In x xs → f x ≡ g x) → sum_by f xs ≡ sum_by g xs
sum_by-same f g [] h = refl
sum_by-same f g (x ∷ xs) h = sum_by-cons f x xs ∙ ap₂ (λ a b. a + b) (h x (inl refl)) (sum_by-same f g xs (λ y i. h y (inr i)))
    ∙ sym (sum_by-cons g x xs)

-- the sum over the numbers from a on, where each stands for a member of a list
sum_by-from : {X : Type 0} (f : ℕ → ℕ) (g : X → ℕ) (d : X) (xs : List X) (a : ℕ) →
    ((j : ℕ) → j < length xs → f (a + j) ≡ g (get_or xs j d)) → sum_by f (from_to a (length xs)) ≡ sum_by g xs
sum_by-from f g d [] a h = refl
sum_by-from f g d (x ∷ xs) a h =
    sum_by-cons f a (from_to (suc a) (length xs))
    ∙ ap₂ (λ u v. u + v) (ap f (let e : a ≡ a + 0 = omega arith in e) ∙ h 0 (omega arith))
    (sum_by-from f g d xs (suc a) (λ j l. ap f (let e : suc a + j ≡ a + suc j = omega arith in e) ∙ h (suc j) (omega arith)))
    ∙ sym (sum_by-cons g x xs)

from_all : (i : Incoming) (js : List Incoming) → FromAll i js → (k : ℕ) → k < length js → ArePartsApart i (get_or js k no_incoming)
from_all i [] h k l = absurd (omega arith)
from_all i (j ∷ js) h zero l = h.0
from_all i (j ∷ js) h (suc k) l = from_all i js h.1 k (le_of_suc-le-suc l)

flip : (i j : Incoming) → ArePartsApart i j → ArePartsApart j i
flip i j h a b = elim (h b a) [ inl l ↦ inr l | inr l ↦ inl l ]

all_apart : (is : List Incoming) → AllApart is → (j k : ℕ) → j < length is → k < length is → (j ≡ k → ⊥) →
    ArePartsApart (get_or is j no_incoming) (get_or is k no_incoming)
all_apart [] h j k l m ne = absurd (omega arith)
all_apart (i ∷ is) h zero zero l m ne = absurd (ne refl)
all_apart (i ∷ is) h zero (suc k) l m ne = from_all i is h.0 k (le_of_suc-le-suc m)
all_apart (i ∷ is) h (suc j) zero l m ne = flip i (get_or is j no_incoming) (from_all i is h.0 j (le_of_suc-le-suc l))
all_apart (i ∷ is) h (suc j) (suc k) l m ne = all_apart is h.1 j k (le_of_suc-le-suc l) (le_of_suc-le-suc m) (λ e. ne (ap suc e))

-- what is asked of a link, in plain variables: its source's and its target's cell, and how many cells there are
record Judged (k : Link) (s t : Cell) (cells : ℕ) : Type 0 where
  rising : k.source < k.target
  inside : k.target < cells
  within_source : k.source_offset + k.length ≤ s.length
  within_target : k.target_offset + k.length ≤ t.length
  bump_stays : k.kind ≡ Bump → s.rank ≡ t.rank
  bump_empty : k.kind ≡ Bump → k.length ≡ 0
  atomic_here : (o : AtomicOp) → t.op ≡ Some o → k.kind ≡ Atomic
  atomic_whole : k.kind ≡ Atomic → (k.target_offset ≡ 0) × (k.length ≡ t.length) × (s.ty ≡ t.ty) × (s.length ≡ t.length)
  no_atomic : t.op ≡ None → k.kind ≡ Atomic → ⊥

judged : (p : Plan) (l : ℕ) → SoundLink p l → Judged (link p l) (cell p (link p l).source) (cell p (link p l).target) (length p.cells)
judged p l h = record {
  rising = h.rising;
  inside = h.cells;
  within_source = h.within_source;
  within_target =
      h.within_target;
  bump_stays = h.bump_stays;
  bump_empty = h.bump_empty;
  atomic_here = h.atomic_here;
  atomic_whole =
      h.atomic_whole;
  no_atomic = h.no_atomic;
}

from_judged : (p : Plan) (l : ℕ) → Judged (link p l) (cell p (link p l).source) (cell p (link p l).target) (length p.cells) → SoundLink p l
from_judged p l h = record {
  rising = h.rising;
  cells = h.inside;
  within_source = h.within_source;
  within_target =
      h.within_target;
  bump_stays = h.bump_stays;
  bump_empty = h.bump_empty;
  atomic_here = h.atomic_here;
  atomic_whole =
      h.atomic_whole;
  no_atomic = h.no_atomic;
}

more_cells : (k : Link) (s t : Cell) (a b : ℕ) → a ≤ b → Judged k s t a → Judged k s t b
more_cells k s t a b le h = record {
  rising = h.rising;
  inside = (let i = h.inside in omega arith);
  within_source =
      h.within_source;
  within_target = h.within_target;
  bump_stays = h.bump_stays;
  bump_empty = h.bump_empty;
  atomic_here =
      h.atomic_here;
  atomic_whole = h.atomic_whole;
  no_atomic = h.no_atomic;
}

judged_new : (k : ℕ → Cell) (c m : ℕ) (n : NewCell) (i : Incoming) → c < m → SoundIncoming k c n i →
    Judged (link_to c i) (k i.source) (cell_of n) m
judged_new k c m n i lt h = record {
  rising = h.rising;
  inside = lt;
  within_source = h.within_source;
  within_target =
      h.within_target;
  bump_stays = h.bump_stays;
  bump_empty = h.bump_empty;
  atomic_here = h.atomic_here;
  atomic_whole =
      h.atomic_whole;
  no_atomic = h.no_atomic;
}

abbrev LinksApart : Link → Link → Type 0
LinksApart j k = (j.target ≡ k.target) → j.kind ≡ Put → k.kind ≡ Put → (j.target_offset + j.length ≤ k.target_offset) ⊎
    (k.target_offset + k.length ≤ j.target_offset)

pub node_fits : (ranks : ℕ) (k : ℕ → Cell) (c : ℕ) (n : NewCell) → SoundNewCell ranks k c n → NodeFits ranks k c n
node_fits ranks k c n h = record {
  rank_known = h.rank_known;
  whole = h.whole;
  some_link = h.some_link;
  each_into = h.each_into;
  apart =
      h.apart;
}

module _ (p : Plan) (n : NewCell) (inputs more : ℕ) (built : WellBuilt p inputs)
    (sound : NodeFits p.ranks (cell (with_cell p n)) (length p.cells) n)
    (covers : p.ranks + more ≤ length p.cells → n.op ≡ None → sum_by put_length n.into ≡ n.length)
    (at_least : inputs ≤ more) (at_most : p.ranks + more ≤ suc (length p.cells))
    (as_input : (i : ℕ) → inputs ≤ i → i < more → (p.ranks + i ≡ length p.cells) × (n.op ≡ None) × (n.rank ≡ i % p.ranks))
    (bumps_alone : length p.cells < p.ranks + more → (i : Incoming) → In i n.into → i.kind ≡ Bump) where
  q : Plan
  q = with_cell p n

  inside : InPlan p
  inside l h = (built.links_sound l h).cells

  -- a link is an old one or one of the new cell's
  data Which (l : ℕ) : Type 0 where
    Old : l < length p.links → link (with_cell p n) l ≡ link p l → Which l
    New : (j : ℕ) → j < length n.into → l ≡ length p.links + j → link (with_cell p n) l ≡ link_to (length p.cells)
        (get_or n.into j no_incoming) → Which l

  which : (l : ℕ) → l < length (with_cell p n).links → Which l
  which l h = at (nat_lt l (length p.links)) refl
    where
      at : (b : Bool) → nat_lt l (length p.links) ≡ b → Which l
      at true e = let i : l < length p.links = ltb-true _ _ e in Old i (link-old p n l i)
      at false e =
          let i : length p.links ≤ l = ltb-false _ _ e in
          let len = length-links p n in
          let j : l - length p.links < length n.into = omega arith in
          let k : l ≡ length p.links + (l - length p.links) = omega arith in
          New (l - length p.links) j k (ap (link (with_cell p n)) k ∙ link-new p n (l - length p.links) j)

  grown : length (with_cell p n).cells ≡ suc (length p.cells)
  grown = length-cells p n

  cell_case : (c : ℕ) → c < length (with_cell p n).cells → (c ≡ length p.cells) ⊎ (c < length p.cells)
  cell_case c h = eq-or-lt_of_le (let g = grown in omega arith)

  into_sound : (j : ℕ) → j < length n.into → SoundIncoming (cell (with_cell p n)) (length p.cells) n (get_or n.into j no_incoming)
  into_sound j h = sound.each_into (get_or n.into j no_incoming) (In-get_or n.into j no_incoming h)

  links_grow : (l : ℕ) → l < length (with_cell p n).links → SoundLink (with_cell p n) l
  links_grow l h = at (which l h)
    where
      at : Which l → SoundLink (with_cell p n) l
      at (Old i e) =
          let o = judged p l (built.links_sound l i) in
          let up = o.rising in
          let top = o.inside in
          from_judged (with_cell p n) l
          (subst (λ k. Judged k (cell (with_cell p n) k.source) (cell (with_cell p n) k.target) (length (with_cell p n).cells)) (sym e)
          (subst (λ s. Judged (link p l) s (cell (with_cell p n) (link p l).target) (length (with_cell p n).cells))
          (sym (cell-old p n (link p l).source (omega arith)))
          (subst (λ t. Judged (link p l) (cell p (link p l).source) t (length (with_cell p n).cells))
          (sym (cell-old p n (link p l).target top))
          (more_cells (link p l) (cell p (link p l).source) (cell p (link p l).target) (length p.cells) (length (with_cell p n).cells)
          (let g = grown in omega arith) o))))
      at (New j i k e) =
          from_judged (with_cell p n) l
          (subst (λ v. Judged v (cell (with_cell p n) v.source) (cell (with_cell p n) v.target) (length (with_cell p n).cells)) (sym e)
          (subst (λ t. Judged (link_to (length p.cells) (get_or n.into j no_incoming))
          (cell (with_cell p n) (get_or n.into j no_incoming).source) t (length (with_cell p n).cells)) (sym (cell-new p n))
          (judged_new (cell (with_cell p n)) (length p.cells) (length (with_cell p n).cells) n (get_or n.into j no_incoming)
          (let g = grown in omega arith) (into_sound j i))))

  needs_grow : (c : ℕ) → c < length (with_cell p n).cells → p.ranks ≤ c →
      (cell (with_cell p n) c).needs ≡ length (in_links (with_cell p n) c)
  needs_grow c h r = at (cell_case c h)
    where
      at : (c ≡ length p.cells) ⊎ (c < length p.cells) → (cell (with_cell p n) c).needs ≡ length (in_links (with_cell p n) c)
      at (inl e) = subst (λ v. (cell (with_cell p n) v).needs ≡ length (in_links (with_cell p n) v)) (sym e)
          (ap (λ (k : Cell). k.needs) (cell-new p n) ∙ sym (ap length (in_links-new p n inside)
          ∙ length-from_to (length p.links) (length n.into)))
      at (inr l) = ap (λ (k : Cell). k.needs) (cell-old p n c l) ∙ built.needs c l r ∙ ap length (sym (in_links-old p n c l))

  go_grow : (r : ℕ) → r < p.ranks → ((cell (with_cell p n) r).needs ≡ 1) × (in_links (with_cell p n) r ≡ []) ×
      ((cell (with_cell p n) r).rank ≡ r) × ((cell (with_cell p n) r).length ≡ 0)
  go_grow r h =
      let l : r < length p.cells = (let a = built.all_go in omega arith) in
      let o = built.go_needs r h in (
        ap (λ (k : Cell). k.needs) (cell-old p n r l) ∙ o.0,
        in_links-old p n r l ∙ o.1,
        ap (λ (k : Cell). k.rank) (cell-old p n r l)
            ∙ o.2,
        ap (λ (k : Cell). k.length) (cell-old p n r l) ∙ o.3,
      )

  apart_links : (l m : ℕ) → l < length (with_cell p n).links → m < length (with_cell p n).links → (l ≡ m → ⊥) →
      LinksApart (link (with_cell p n) l) (link (with_cell p n) m)
  apart_links l m h i ne = at (which l h) (which m i)
    where
      at : Which l → Which m → LinksApart (link (with_cell p n) l) (link (with_cell p n) m)
      at (Old a e) (Old b f) = subst (λ j. LinksApart j (link (with_cell p n) m)) (sym e)
          (subst (λ k. LinksApart (link p l) k) (sym f) (built.apart l m a b ne))
      at (Old a e) (New k b x f) = subst (λ j. LinksApart j (link (with_cell p n) m)) (sym e)
          (subst (λ k. LinksApart (link p l) k) (sym f) (λ same. absurd (let t = inside l a in omega arith)))
      at (New j a x e) (Old b f) = subst (λ j. LinksApart j (link (with_cell p n) m)) (sym e)
          (subst (λ k. LinksApart (link_to (length p.cells) (get_or n.into j no_incoming)) k) (sym f)
          (λ same. absurd (let t = inside m b in omega arith)))
      at (New j a x e) (New k b y f) = subst (λ v. LinksApart v (link (with_cell p n) m)) (sym e)
          (subst (λ v. LinksApart (link_to (length p.cells) (get_or n.into j no_incoming)) v) (sym f)
          (λ same. all_apart n.into sound.apart j k a b (λ d. ne (x ∙ ap (λ v. length p.links + v) d ∙ sym y))))

  abbrev bytes_in : Link → ℕ
  bytes_in k = cond (is_bump k.kind) 0 k.length

  covered_grow : (c : ℕ) → c < length (with_cell p n).cells → p.ranks + more ≤ c → (cell (with_cell p n) c).op ≡ None →
      put_bytes (with_cell p n) c ≡ (cell (with_cell p n) c).length
  covered_grow c h r none = at (cell_case c h)
    where
      at : (c ≡ length p.cells) ⊎ (c < length p.cells) → put_bytes (with_cell p n) c ≡ (cell (with_cell p n) c).length
      at (inl e) = subst (λ v. put_bytes (with_cell p n) v ≡ (cell (with_cell p n) v).length) (sym e)
          (ap (sum_by (λ l. bytes_in (link (with_cell p n) l))) (in_links-new p n inside)
          ∙ sum_by-from (λ l. bytes_in (link (with_cell p n) l)) put_length no_incoming n.into (length p.links)
          (λ j l. ap bytes_in (link-new p n j l))
          ∙ covers (let z = r in omega arith) (subst (λ (k : Cell). k.op ≡ None) (cell-new p n)
          (subst (λ v. (cell (with_cell p n) v).op ≡ None) e none))
          ∙ sym (ap (λ (k : Cell). k.length) (cell-new p n)))
      at (inr l) =
          ap (sum_by (λ l. bytes_in (link (with_cell p n) l))) (in_links-old p n c l)
          ∙ sum_by-same (λ l. bytes_in (link (with_cell p n) l)) (λ l. bytes_in (link p l)) (in_links p c)
          (λ m i. ap bytes_in (link-old p n m (in_links-In p c m i).0))
          ∙ built.covered c l (omega arith) (subst (λ (k : Cell). k.op ≡ None) (cell-old p n c l) none)
          ∙ sym (ap (λ (k : Cell). k.length) (cell-old p n c l))

  inputs_grow : (i : ℕ) → i < more → (p.ranks + i < length (with_cell p n).cells) × ((cell (with_cell p n) (p.ranks + i)).op ≡ None) ×
      ((cell (with_cell p n) (p.ranks + i)).rank ≡ i % p.ranks)
  inputs_grow i h = at (nat_lt i inputs) refl
    where
      at : (b : Bool) → nat_lt i inputs ≡ b → (p.ranks + i < length (with_cell p n).cells) ×
          ((cell (with_cell p n) (p.ranks + i)).op ≡ None) × ((cell (with_cell p n) (p.ranks + i)).rank ≡ i % p.ranks)
      at true e =
          let o = built.input_cells i (ltb-true _ _ e) in
          let g = grown in
          let k = cell-old p n (p.ranks + i) o.0 in
          (omega arith, ap (λ (v : Cell). v.op) k ∙ o.1, ap (λ (v : Cell). v.rank) k ∙ o.2)
      at false e =
          let o = as_input i (ltb-false _ _ e) h in
          let g = grown in
          let k : cell (with_cell p n) (p.ranks + i) ≡ cell_of n = ap (cell (with_cell p n)) o.0 ∙ cell-new p n in
          (omega arith, ap (λ (v : Cell). v.op) k ∙ o.1, ap (λ (v : Cell). v.rank) k ∙ o.2)

  lower : (l : ℕ) → l < length p.links → (link p l).target < p.ranks + more → (link p l).target < p.ranks + inputs
  lower l a t = at (nat_lt inputs more) refl
    where
      at : (b : Bool) → nat_lt inputs more ≡ b → (link p l).target < p.ranks + inputs
      at true e = let o = as_input inputs (le_refl inputs) (ltb-true _ _ e) in let i = inside l a in let first = o.0 in omega arith
      at false e = let i = ltb-false _ _ e in omega arith

  input_links_grow : (l : ℕ) → l < length (with_cell p n).links → (link (with_cell p n) l).target < p.ranks + more →
      (link (with_cell p n) l).kind ≡ Bump
  input_links_grow l h = at (which l h)
    where
      at : Which l → (link (with_cell p n) l).target < p.ranks + more → (link (with_cell p n) l).kind ≡ Bump
      at (Old a e) t = ap (λ (k : Link). k.kind) e ∙ built.input_links l a (lower l a (subst (λ (k : Link). k.target < p.ranks + more) e t))
      at (New j a x e) t = ap (λ (k : Link). k.kind) e ∙ bumps_alone (subst (λ (k : Link). k.target < p.ranks + more) e t)
          (get_or n.into j no_incoming) (In-get_or n.into j no_incoming a)

  ranks_grow : (c : ℕ) → c < length (with_cell p n).cells → (cell (with_cell p n) c).rank < p.ranks
  ranks_grow c h = at (cell_case c h)
    where
      at : (c ≡ length p.cells) ⊎ (c < length p.cells) → (cell (with_cell p n) c).rank < p.ranks
      at (inl e) = subst (λ v. (cell (with_cell p n) v).rank < p.ranks) (sym e)
          (subst (λ (k : Cell). k.rank < p.ranks) (sym (cell-new p n)) sound.rank_known)
      at (inr l) = subst (λ (k : Cell). k.rank < p.ranks) (sym (cell-old p n c l)) (built.ranks_known c l)

  whole_grow : (c : ℕ) → c < length (with_cell p n).cells → (cell (with_cell p n) c).length % bytes_of (cell (with_cell p n) c).ty ≡ 0
  whole_grow c h = at (cell_case c h)
    where
      at : (c ≡ length p.cells) ⊎ (c < length p.cells) → (cell (with_cell p n) c).length % bytes_of (cell (with_cell p n) c).ty ≡ 0
      at (inl e) = subst (λ v. (cell (with_cell p n) v).length % bytes_of (cell (with_cell p n) v).ty ≡ 0) (sym e)
          (subst (λ (k : Cell). k.length % bytes_of k.ty ≡ 0) (sym (cell-new p n)) sound.whole)
      at (inr l) = subst (λ (k : Cell). k.length % bytes_of k.ty ≡ 0) (sym (cell-old p n c l)) (built.whole c l)

  pub grows : WellBuilt (with_cell p n) more
  grows = record {
    some_rank = built.some_rank;
    few_ranks = built.few_ranks;
    links_sound = links_grow;
    needs = needs_grow;
    go_needs = go_grow;
    apart = λ l m h i ne t. apart_links l m h i ne t;
    covered = covered_grow;
    input_cells = inputs_grow;
    input_links = input_links_grow;
    ranks_known = ranks_grow;
    whole = whole_grow;
    all_go = (let g = grown in let a = built.all_go in omega arith);
    many_links = (let g = grown in let a = built.many_links in let l = length-links p n in let m = sound.some_link in omega arith);
  }
