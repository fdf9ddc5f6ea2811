-- A plan has no flaw exactly where it is sound, takes the inputs, and guards them.
use Rattle.std.proofs.Common.{ℕ, true, false, ◌≡◌, ◌+◌, ◌-◌, ◌*◌, ◌<◌, ◌≤◌, List, Option, Some, None, refl, length, filter, ap, ◌∙◌}
use Rattle.std.proofs.Common.{sym, subst, inl, inr, arith}
use Rattle.std.specs.Option.{option_or}
use Rattle.std.proofs.lemmas.Bool.{cases_eq, cases_lt, false≢true, leb-true, le-leb, or_cases, or_left, or_right}
use Rattle.ptl_types.specs.declared.elements.AtomicOp.{AtomicOp}
use Rattle.plan_core.specs.declared.LinkKind.{LinkKind}
use Rattle.plan_core.specs.declared.LinkKind.TheVariants.{Put, Atomic, Bump}
use Rattle.plan_core.specs.Members.{In}
use Rattle.plan_core.specs.Plan.{Plan, all_cells, all_links, cell, in_links, link}
use Rattle.plan_core.specs.Sound.{AreApart, SoundPlan}
use Rattle.plan_core.proofs.Links.{Distinct-in_links, In-in_links, in_links-In}
use Rattle.plan_core.proofs.Lists.{Distinct-filter, In-filter, In-filter_cases}
use Rattle.plan_judge.specs.Causes.{cell_flaw, cell_rows, first_cause, first_found, first_other, is_input_cell, is_put, judged, link_flaw}
use Rattle.plan_judge.specs.Causes.{link_rows, part_of, plan_flaw, plan_rows, are_apart}
use Rattle.plan_judge.specs.Fit.{AreFit}
use Rattle.plan_judge.specs.Guards.{AreGuarded, is_guarded}
use Rattle.plan_judge.specs.Sizes.{IsSized}
use Rattle.plan_judge.specs.declared.flaw.Flaw.{Flaw}
use Rattle.plan_judge.specs.declared.flaw.Flaw.TheVariants as flaws
use Rattle.plan_judge.proofs.CellRows.{AsInput, AsOther, IsInputCell, cell_clear, clear_go, clear_input, clear_other}
use Rattle.plan_judge.proofs.CellRows.{clear_rank, go_parts, input_parts, parts_go, parts_input}
use Rattle.plan_judge.proofs.LinkRows.{LinkOk, clear_link, link_clear}
use Rattle.plan_judge.proofs.Overlaps.{clear_members, members_clear}
use Rattle.plan_judge.proofs.Rows.{clear_map, clear_or, found_none, map_clear, none_found, or_clear}
use Rattle.plan_judge.proofs.Sizes.{clear_sized, sized_clear}

-- no row is at fault
record Clear (p : Plan) (lengths : List ℕ) : Type 0 where
  sized : IsSized p lengths
  cells : (c : ℕ) → c < length p.cells → first_cause (cell_rows p lengths c) ≡ None
  links : (l : ℕ) → l < length p.links → LinkOk p (first_other p lengths) l

-- what is found of the cells, then of the links
abbrev found_in : Plan → List ℕ → Option Flaw
found_in p lengths = option_or (first_found (cell_flaw p lengths) (all_cells p)) (first_found (link_flaw p lengths) (all_links p))

-- at one of them
none_at_cell : (p : Plan) (lengths : List ℕ) (c : ℕ) → cell_flaw p lengths c ≡ None → first_cause (cell_rows p lengths c) ≡ None
none_at_cell p lengths c e = map_clear (λ cause. flaws.Cell c cause) (first_cause (cell_rows p lengths c)) e

cell_none : (p : Plan) (lengths : List ℕ) (c : ℕ) → first_cause (cell_rows p lengths c) ≡ None → cell_flaw p lengths c ≡ None
cell_none p lengths c e = clear_map (λ cause. flaws.Cell c cause) (first_cause (cell_rows p lengths c)) e

none_at_link : (p : Plan) (lengths : List ℕ) (l : ℕ) → link_flaw p lengths l ≡ None → LinkOk p (first_other p lengths) l
none_at_link p lengths l e =
    let others = first_other p lengths in
    clear_link p others l (map_clear (λ cause. flaws.Link l cause) (first_cause (link_rows p others l)) e)

link_none : (p : Plan) (lengths : List ℕ) (l : ℕ) → LinkOk p (first_other p lengths) l → link_flaw p lengths l ≡ None
link_none p lengths l o =
    let others = first_other p lengths in
    clear_map (λ cause. flaws.Link l cause) (first_cause (link_rows p others l)) (link_clear p others l o)

from_judged : (p : Plan) (lengths : List ℕ) → judged p lengths ≡ None → Clear p lengths
from_judged p lengths e =
    let a = or_clear (plan_flaw p lengths) (found_in p lengths) e in
    let b = or_clear (first_found (cell_flaw p lengths) (all_cells p)) (first_found (link_flaw p lengths) (all_links p)) a.1 in
    record {
      sized = clear_sized p lengths (map_clear (λ cause. flaws.Plan cause) (first_cause (plan_rows p lengths)) a.0);
      cells = λ c h. none_at_cell p lengths c (none_found (cell_flaw p lengths) 0 (length p.cells) b.0 c (omega arith) (omega arith));
      links = λ l h. none_at_link p lengths l (none_found (link_flaw p lengths) 0 (length p.links) b.1 l (omega arith) (omega arith));
    }

to_judged : (p : Plan) (lengths : List ℕ) → Clear p lengths → judged p lengths ≡ None
to_judged p lengths k =
    clear_or (plan_flaw p lengths) (found_in p lengths)
    (clear_map (λ cause. flaws.Plan cause) (first_cause (plan_rows p lengths)) (sized_clear p lengths k.sized))
    ∙ clear_or (first_found (cell_flaw p lengths) (all_cells p)) (first_found (link_flaw p lengths) (all_links p))
    (found_none (cell_flaw p lengths) 0 (length p.cells) (λ c a h. cell_none p lengths c (k.cells c (omega arith))))
    ∙ found_none (link_flaw p lengths) 0 (length p.links) (λ l a h. link_none p lengths l (k.links l (omega arith)))

-- ---- the puts to a cell
abbrev puts_in : Plan → ℕ → List ℕ
puts_in p c = filter (λ l. is_put (link p l).kind) (in_links p c)

put-is : (a : LinkKind) → is_put a ≡ true → a ≡ Put
put-is Put e = refl
put-is Atomic e = absurd (false≢true e)
put-is Bump e = absurd (false≢true e)

In-puts : (p : Plan) (c l : ℕ) → l < length p.links → (link p l).target ≡ c → (link p l).kind ≡ Put → In l (puts_in p c)
In-puts p c l h e k = In-filter (λ m. is_put (link p m).kind) l (in_links p c) (In-in_links p c l h e) (ap is_put k)

puts-In : (p : Plan) (c l : ℕ) → In l (puts_in p c) → (l < length p.links) × ((link p l).target ≡ c) × ((link p l).kind ≡ Put)
puts-In p c l h =
    let a = In-filter_cases (λ m. is_put (link p m).kind) l (in_links p c) h in
    let b = in_links-In p c l a.0 in
    (b.0, b.1, put-is _ a.1)

-- in numbers
to_apart : (p : Plan) (l m : ℕ) → are_apart (part_of (link p l)) (part_of (link p m)) ≡ true → AreApart p l m
to_apart p l m e = elim (or_cases _ _ e) [ inl q ↦ inl (leb-true _ _ q) | inr q ↦ inr (leb-true _ _ q) ]

from_apart : (p : Plan) (l m : ℕ) → AreApart p l m → are_apart (part_of (link p l)) (part_of (link p m)) ≡ true
from_apart p l m (inl q) = or_left _ _ (le-leb _ _ q)
from_apart p l m (inr q) = or_right _ _ (le-leb _ _ q)

-- a put comes only to a cell after those of the inputs, which combines nothing
put_target : (p : Plan) (others l : ℕ) → LinkOk p others l → (link p l).kind ≡ Put
    → (others ≤ (link p l).target) × ((cell p (link p l).target).op ≡ None)
put_target p others l o k = (
  elim (cases_lt (link p l).target others) [ inl h ↦ absurd (put≢bump (sym k ∙ o.input h)) | inr h ↦ h ],
  no_op (cell p (link p l).target).op refl,
)
  where
    put≢bump : Put ≡ Bump → ⊥
    put≢bump e = cc

    put≢atomic : Put ≡ Atomic → ⊥
    put≢atomic e = cc

    no_op : (x : Option AtomicOp) → (cell p (link p l).target).op ≡ x → (cell p (link p l).target).op ≡ None
    no_op None e = e
    no_op (Some x) e = absurd (put≢atomic (sym k ∙ o.sound.atomic_here x e))

-- ---- from no fault
apart_in : (p : Plan) (lengths : List ℕ) → Clear p lengths → (l m : ℕ) → l < length p.links → m < length p.links → (l ≡ m → ⊥)
    → (link p l).target ≡ (link p m).target
    → (link p l).kind ≡ Put → (link p m).kind ≡ Put → AreApart p l m
apart_in p lengths k l m a b ne same x y =
    let o = k.links l a in
    let t = put_target p (first_other p lengths) l o x in
    let w = clear_other p lengths (link p l).target (k.cells (link p l).target o.sound.cells) t.0 in
    to_apart p l m
    (clear_members (λ v. part_of (link p v)) (puts_in p (link p l).target) (w.apart t.1) l m (In-puts p (link p l).target l a refl x)
    (In-puts p (link p l).target m b (sym same) y) ne)

input_at : (p : Plan) (lengths : List ℕ) → Clear p lengths → (i : ℕ) → i < length lengths * p.ranks
    → (p.ranks + i < length p.cells) × AsInput p lengths (p.ranks + i) × IsInputCell p lengths i
input_at p lengths k i h =
    let s = k.sized.all_there in
    let w : p.ranks + i < length p.cells = omega (arith, s, h) in
    let z = clear_input p lengths (p.ranks + i) (k.cells (p.ranks + i) w) (omega arith) (omega (arith, h)) in
    let e : p.ranks + i - p.ranks ≡ i = omega arith in
    (w, z, input_parts p lengths i (subst (λ v. is_input_cell p lengths v ≡ true) e z.input))

needs_at : (p : Plan) (lengths : List ℕ) → Clear p lengths → (c : ℕ) → c < length p.cells → p.ranks ≤ c
    → (cell p c).needs ≡ length (in_links p c)
needs_at p lengths k c h g =
    elim (cases_lt c (first_other p lengths)) [
      | inl a ↦ (clear_input p lengths c (k.cells c h) g a).needs
      | inr a ↦ (clear_other p lengths c (k.cells c h) a).needs
    ]

clear_sound : (p : Plan) (lengths : List ℕ) → Clear p lengths → SoundPlan p (length lengths)
clear_sound p lengths k =
    let s = k.sized in
    record {
      some_rank = let a = s.some_rank in omega (arith, a);
      few_ranks = s.few_ranks;
      links_sound = λ l h. (k.links l h).sound;
      needs = λ c h g. needs_at p lengths k c h g;
      go_needs = λ r h. let a = s.all_there in go_parts p r (clear_go p lengths r (k.cells r (omega (arith, a, h))) h);
      apart = λ l m a b ne same x y. apart_in p lengths k l m a b ne same x y;
      covered = λ c h g n. (clear_other p lengths c (k.cells c h) g).covered n;
      input_cells = λ i h. let z = input_at p lengths k i h in (z.0, z.2.bare, z.2.rank);
      input_links = λ l h t. (k.links l h).input t;
      ranks_known = λ c h. (clear_rank p lengths c (k.cells c h)).rank;
      whole = λ c h. (clear_rank p lengths c (k.cells c h)).whole;
      all_go = let a = s.all_there in omega (arith, a);
      few_cells = s.few_cells;
      few_together = s.few_together;
      few_bytes = s.few_bytes;
    }

pub none_sound : (p : Plan) (lengths : List ℕ) → judged p lengths ≡ None
    → SoundPlan p (length lengths) × AreFit p lengths × AreGuarded p (length lengths)
none_sound p lengths e =
    let k = from_judged p lengths e in
    (clear_sound p lengths k, λ i h. (input_at p lengths k i h).2.fits, λ i h. (input_at p lengths k i h).1.guarded)

-- ---- to no fault
all_there : (p : Plan) (n : ℕ) → SoundPlan p n → p.ranks + n * p.ranks ≤ length p.cells
all_there p n s =
    elim (cases_eq (n * p.ranks) 0) [
      | inl e ↦ let g = s.all_go in omega (arith, e, g)
      | inr ne ↦ let g = (s.input_cells (n * p.ranks - 1) (omega arith)).0 in omega (arith, ne, g)
    ]

sound_sized : (p : Plan) (lengths : List ℕ) → SoundPlan p (length lengths) → IsSized p lengths
sound_sized p lengths s = record {
  some_rank = let a = s.some_rank in omega (arith, a);
  few_ranks = s.few_ranks;
  all_there = all_there p (length lengths) s;
  few_cells = s.few_cells;
  few_together = s.few_together;
  few_bytes = s.few_bytes;
}

sound_input : (p : Plan) (lengths : List ℕ) → SoundPlan p (length lengths) → AreFit p lengths → AreGuarded p (length lengths) → (c : ℕ)
    → c < length p.cells → p.ranks ≤ c → c < first_other p lengths → AsInput p lengths c
sound_input p lengths s fit guarded c h g l =
    let e : p.ranks + (c - p.ranks) ≡ c = omega arith in
    let w : c - p.ranks < length lengths * p.ranks = omega arith in
    let z = s.input_cells (c - p.ranks) w in
    record {
      needs = s.needs c h g;
      input = parts_input p lengths (c - p.ranks) (record { bare = z.1; rank = z.2; fits = fit (c - p.ranks) w });
      guarded = subst (λ v. is_guarded p v ≡ true) e (guarded (c - p.ranks) w);
    }

sound_other : (p : Plan) (lengths : List ℕ) → SoundPlan p (length lengths) → (c : ℕ) → c < length p.cells → first_other p lengths ≤ c
    → AsOther p c
sound_other p lengths s c h g = record {
  needs = s.needs c h (omega arith);
  covered = λ n. s.covered c h g n;
  apart = λ n.
      members_clear (λ v. part_of (link p v)) (puts_in p c)
      (Distinct-filter (λ m. is_put (link p m).kind) (in_links p c) (Distinct-in_links p c))
      (λ l m a b ne. let x = puts-In p c l a in let y = puts-In p c m b in
      from_apart p l m (s.apart l m x.0 y.0 ne (x.1 ∙ sym y.1) x.2 y.2));
}

pub sound_none : (p : Plan) (lengths : List ℕ) → SoundPlan p (length lengths) × AreFit p lengths × AreGuarded p (length lengths)
    → judged p lengths ≡ None
sound_none p lengths h =
    let s = h.0 in
    to_judged p lengths (record {
      sized = sound_sized p lengths s;
      cells = λ c k. cell_clear p lengths c (record { rank = s.ranks_known c k; whole = s.whole c k })
          (λ g. parts_go p c (s.go_needs c g))
          (λ g l. sound_input p lengths s h.1 h.2 c k g l)
          (λ l. sound_other p lengths s c k l);
      links = λ l k. record { sound = s.links_sound l k; input = λ t. s.input_links l k t };
    })
