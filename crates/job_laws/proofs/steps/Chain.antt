-- From step to step: the exits of the ranks, as the steps are drawn.
use Rattle.std.proofs.Common.{ℕ, zero, suc, ◌+◌, ◌-◌, ◌*◌, ◌≡◌, ◌≤◌, ◌<◌, List, [], ◌∷◌, refl, length, get_or, map, replicate, ap, ap₂}
use Rattle.std.proofs.Common.{◌∙◌, sym, subst, arith, Option, Some, None}
use Rattle.std.proofs.lemmas.List.{length-replicate}
use Rattle.coll_shape.specs.Meaning.{at_place, place_from}
use Rattle.coll_shape.specs.Outline.{Outline, group_at, step_at}
use Rattle.coll_shape.specs.WellFormed.{IsWellFormed, made_upto}
use Rattle.plan_core.proofs.Links.{in_links-In}
use Rattle.plan_core.specs.Members.{In}
use Rattle.plan_core.specs.Plan.{Plan, from_to, link}
use Rattle.plan_core.specs.Rounds.{Comes}
use Rattle.plan_core.specs.Sound.{SoundLink}
use Rattle.plan_core.specs.Values.{Inputs}
use Rattle.plan_core.specs.declared.Link.{Link}
use Rattle.plan_steps.proofs.Bridge.{add_all-with}
use Rattle.plan_steps.proofs.Drawn.{Drawn, Extends, comes-extends, drawn_all, each-same, extends-all, extends-refl, extends-trans}
use Rattle.plan_steps.proofs.Entries.{get_or-each}
use Rattle.plan_steps.proofs.Grow.{get_or-map}
use Rattle.plan_steps.specs.Sounding.{EachAt, WellBuilt, with_cells}
use Rattle.cuts.specs.machine.Machine.{Leads}
use Rattle.cuts.specs.machine.Machine.Leads.{along, here}
use Rattle.plan_steps.specs.StepContext.{exit_at}
use Rattle.schedule_compiler.proofs.shapes.Begin.{begun, fine-begun}
use Rattle.schedule_compiler.proofs.shapes.Kept.{exit_now, fine_after}
use Rattle.schedule_compiler.proofs.shapes.Places.{place-is, place-of}
use Rattle.schedule_compiler.proofs.shapes.Whole.{Fine, sound_cells}
use Rattle.schedule_compiler.specs.shapes.Drawing.{drawing_of, drawn_inputs, drawn_upto, plan_of}
use Rattle.plan_steps.specs.Drawing.{drawn_step, site}
use Rattle.plan_steps.specs.Collectives.{cells_of}
use Rattle.schedule_compiler.proofs.shapes.EveryStep.{Linked, waits}
use Rattle.job_laws.proofs.steps.Through.{onward, through}
use Rattle.job_laws.specs.steps.Order.{IsAt, entry_cell, exit_cell, site_at}

-- ---- chains of links
leads-trans : (p : Plan) (a b c : ℕ) → Leads p a b → Leads p b c → Leads p a c
leads-trans p a b c f here = f
leads-trans p a b c f (along d l i path) = along d l i (leads-trans p a b (link p l).source f path)

leads-extends : (p q : Plan) (inputs : Inputs) → ((l : ℕ) → l < length p.links → SoundLink p l) → Extends p q inputs → (b c : ℕ)
    → c < length p.cells → Leads p b c → Leads q b c
leads-extends p q inputs sound x b c h here = here
leads-extends p q inputs sound x b c h (along d l i path) =
    let k = in_links-In p d l i in
    let up = (sound l k.0).rising in
    let t = k.1 in
    along d l (subst (λ ls. In l ls) (sym (x.same_in d h)) i)
    (subst (λ v. Leads q b v) (sym (ap (λ (y : Link). y.source) (x.same_link l k.0)))
    (leads-extends p q inputs sound x b (link p l).source (omega (arith, up, t, h)) path))

-- ---- what is drawn
fine_upto : (o : Outline) → IsWellFormed o → (k : ℕ) → k ≤ length o.steps
    → Fine o (made_upto o k) (drawn_upto o k).plan (drawn_upto o k).held (drawn_upto o k).exits
unfolding drawn_upto
fine_upto o a zero h =
    fine-begun o (drawn_inputs o o.inputs).plan (drawn_inputs o o.inputs).held (drawn_inputs o o.inputs).exits a.held
    (begun o a.shape.some_rank a.shape.few_ranks o.inputs a.shape.few_inputs)
fine_upto o a (suc k) h =
    let d = drawn_upto o k in
    let g = group_at o k in
    let t = step_at o k in
    let e = drawn_step o d t g in
    subst (λ v. Fine o (made_upto o (suc k)) v e.held e.exits) (sym (add_all-with d.plan (cells_of (site o d t g) t)))
    (fine_after o (made_upto o k) d.plan d.held d.exits g t (fine_upto o a k (omega arith)) (a.fits k (omega arith)))

drawn_next : (o : Outline) (k : ℕ) → (drawn_upto o (suc k)).plan ≡ with_cells (drawn_upto o k).plan (cells_of (site_at o k) (step_at o k))
unfolding drawn_upto
drawn_next o k = add_all-with (drawn_upto o k).plan (cells_of (site_at o k) (step_at o k))

extends_on : (o : Outline) (n k : ℕ) → Extends (drawn_upto o k).plan (drawn_upto o (k + n)).plan []
extends_on o zero k =
    subst (λ v. Extends (drawn_upto o k).plan (drawn_upto o v).plan []) (let z : k ≡ k + 0 = omega arith in z)
    (extends-refl (drawn_upto o k).plan [])
extends_on o (suc n) k =
    subst (λ v. Extends (drawn_upto o k).plan (drawn_upto o v).plan []) (let z : suc k + n ≡ k + suc n = omega arith in z)
    (extends-trans (drawn_upto o k).plan (drawn_upto o (suc k)).plan (drawn_upto o (suc k + n)).plan []
    (subst (λ v. Extends (drawn_upto o k).plan v []) (sym (drawn_next o k))
    (extends-all (drawn_upto o k).plan (cells_of (site_at o k) (step_at o k)) []))
    (extends_on o n (suc k)))

module _ (o : Outline) (a : IsWellFormed o) where
  fine : (k : ℕ) → k ≤ length o.steps → Fine o (made_upto o k) (drawn_upto o k).plan (drawn_upto o k).held (drawn_upto o k).exits
  fine k h = fine_upto o a k h

  -- the plan after step k grows to the whole plan
  grows : (k : ℕ) → k < length o.steps → Extends (drawn_upto o (suc k)).plan (plan_of o) []
  unfolding drawing_of
  grows k h =
      subst (λ v. Extends (drawn_upto o (suc k)).plan (drawn_upto o v).plan [])
      (let z : suc k + (length o.steps - suc k) ≡ length o.steps = omega (arith, h) in z) (extends_on o (length o.steps - suc k) (suc k))

  linked : (k : ℕ) → k < length o.steps
      → EachAt (Linked (with_cells (drawn_upto o k).plan (cells_of (site_at o k) (step_at o k)))) (site_at o k).first
      (cells_of (site_at o k) (step_at o k))
  linked k h =
      let d = drawn_upto o k in
      let f = fine k (omega (arith, h)) in
      let ins : Inputs = replicate o.inputs [] in
      let c : length (replicate {A = List (List ℕ)} o.inputs []) * d.plan.ranks ≡ o.inputs * o.ranks = ap₂ (λ u v. u * v)
      (length-replicate o.inputs []) f.ranks in
      each-same (Drawn (with_cells d.plan (cells_of (site_at o k) (step_at o k))) (replicate o.inputs []))
      (Linked (with_cells d.plan (cells_of (site_at o k) (step_at o k)))) (site_at o k).first (cells_of (site_at o k) (step_at o k))
      (λ e n l w. w.comes)
      (drawn_all d.plan (cells_of (site_at o k) (step_at o k)) (replicate o.inputs []) (subst (WellBuilt d.plan) (sym c) f.built)
      (let b = f.behind in let r = f.ranks in omega (arith, b, r, c))
      (sound_cells o (made_upto o k) d.plan d.held d.exits (group_at o k) f (step_at o k) (a.fits k h)))

  -- ---- one step, in the plan after it
  waits_now : (k i : ℕ) → k < length o.steps → i < length (group_at o k)
      → Comes (drawn_upto o (suc k)).plan (exit_at (site_at o k) i) (entry_cell o k i)
  waits_now k i h l = subst (λ v. Comes v (exit_at (site_at o k) i) (entry_cell o k i)) (sym (drawn_next o k))
      (waits (with_cells (drawn_upto o k).plan (cells_of (site_at o k) (step_at o k))) (site_at o k) (a.fits k h).members.some
      (step_at o k) (linked k h) i l)

  through_now : (k i : ℕ) → k < length o.steps → i < length (group_at o k)
      → Leads (drawn_upto o (suc k)).plan (entry_cell o k i) (exit_cell o k i)
  through_now k i h l = subst (λ v. Leads v (entry_cell o k i) (exit_cell o k i)) (sym (drawn_next o k))
      (through (with_cells (drawn_upto o k).plan (cells_of (site_at o k) (step_at o k))) (site_at o k) (a.fits k h).members.some
      (step_at o k) (a.fits k h).root (linked k h) i l)

  -- where the ranks are after it
  exits_after : (k r : ℕ) → k < length o.steps → r < o.ranks
      → get_or (drawn_upto o (suc k)).exits r 0 ≡ at_place (exit_cell o k) (get_or (drawn_upto o k).exits r 0)
      (place_from 0 (group_at o k) r)
  unfolding drawn_upto
  exits_after k r h l =
      let d = drawn_upto o k in
      exit_now o (made_upto o k) d.plan d.held d.exits (group_at o k) (step_at o k) (fine k (omega (arith, h))) (a.fits k h) r l

  exit_before : (k i : ℕ) → i < length (group_at o k)
      → exit_at (site_at o k) i ≡ get_or (drawn_upto o k).exits (get_or (group_at o k) i 0) 0
  exit_before k i l = get_or-map (λ r. get_or (drawn_upto o k).exits r 0) (group_at o k) i 0 0 l

  -- its entries and exits are cells
  entry_there : (k i : ℕ) → k < length o.steps → i < length (group_at o k) → entry_cell o k i < length (drawn_upto o (suc k)).plan.cells
  entry_there k i h l =
      let w = waits_now k i h l in
      let m = in_links-In (drawn_upto o (suc k)).plan (entry_cell o k i) w.l w.into in
      subst (λ c. c < length (drawn_upto o (suc k)).plan.cells) m.1 ((fine (suc k) h).built.links_sound w.l m.0).cells

  rank_in : (k i r : ℕ) → IsAt o k i r → r < o.ranks
  rank_in k i r at = subst (λ v. v < o.ranks) at.member ((a.fits k at.step).members.ranks i at.place)

  place_at : (k i r : ℕ) → IsAt o k i r → place_from 0 (group_at o k) r ≡ Some i
  place_at k i r at =
      subst (λ v. place_from 0 (group_at o k) v ≡ Some i) at.member
      (place-is o.ranks (group_at o k) i (a.fits k at.step).members at.place)

  exit_of : (k i r : ℕ) → IsAt o k i r → get_or (drawn_upto o (suc k)).exits r 0 ≡ exit_cell o k i
  exit_of k i r at =
      exits_after k r at.step (rank_in k i r at) ∙ ap (at_place (exit_cell o k) (get_or (drawn_upto o k).exits r 0)) (place_at k i r at)

  exit_there : (k i r : ℕ) → IsAt o k i r → exit_cell o k i < length (drawn_upto o (suc k)).plan.cells
  exit_there k i r at =
      subst (λ c. c < length (drawn_upto o (suc k)).plan.cells) (exit_of k i r at) ((fine (suc k) at.step).exit_in r (rank_in k i r at))

  -- ---- in the whole plan
  pub entry_in : (k i r : ℕ) → IsAt o k i r → entry_cell o k i < length (plan_of o).cells
  entry_in k i r at = let x = (grows k at.step).longer in let y = entry_there k i at.step at.place in omega (arith, x, y)

  pub exit_in : (k i r : ℕ) → IsAt o k i r → exit_cell o k i < length (plan_of o).cells
  exit_in k i r at = let x = (grows k at.step).longer in let y = exit_there k i r at in omega (arith, x, y)

  pub leads_through : (k i r : ℕ) → IsAt o k i r → Leads (plan_of o) (entry_cell o k i) (exit_cell o k i)
  leads_through k i r at =
      leads-extends (drawn_upto o (suc k)).plan (plan_of o) [] (λ l h. (fine (suc k) at.step).built.links_sound l h) (grows k at.step)
      (entry_cell o k i) (exit_cell o k i)
      (exit_there k i r at) (through_now k i at.step at.place)

  -- from the rank's exit so far to its entry
  enters : (x k i r : ℕ) → IsAt o k i r → Leads (plan_of o) x (get_or (drawn_upto o k).exits r 0) → Leads (plan_of o) x (entry_cell o k i)
  enters x k i r at path =
      onward (plan_of o) x (exit_at (site_at o k) i) (entry_cell o k i)
      (comes-extends (drawn_upto o (suc k)).plan (plan_of o) [] (grows k at.step) (exit_at (site_at o k) i) (entry_cell o k i)
      (entry_there k i at.step at.place) (waits_now k i at.step at.place))
      (subst (Leads (plan_of o) x) (sym (exit_before k i at.place ∙ ap (λ v. get_or (drawn_upto o k).exits v 0) at.member)) path)

  -- and past it
  passes : (x k r : ℕ) → k < length o.steps → r < o.ranks → Leads (plan_of o) x (get_or (drawn_upto o k).exits r 0)
      → Leads (plan_of o) x (get_or (drawn_upto o (suc k)).exits r 0)
  passes x k r h l path = subst (Leads (plan_of o) x) (sym (exits_after k r h l)) (by (place_from 0 (group_at o k) r) refl)
    where
      by : (v : Option ℕ) → place_from 0 (group_at o k) r ≡ v
          → Leads (plan_of o) x (at_place (exit_cell o k) (get_or (drawn_upto o k).exits r 0) v)
      by None e = path
      by (Some i) e =
          let p = place-of (group_at o k) r i e in
          let at : IsAt o k i r = record { step = h; place = p.below; member = p.there } in
          leads-trans (plan_of o) x (entry_cell o k i) (exit_cell o k i) (enters x k i r at path) (leads_through k i r at)

  on_from : (x r k n : ℕ) → r < o.ranks → k + n ≤ length o.steps → Leads (plan_of o) x (get_or (drawn_upto o k).exits r 0)
      → Leads (plan_of o) x (get_or (drawn_upto o (k + n)).exits r 0)
  on_from x r k zero l h path =
      subst (λ v. Leads (plan_of o) x (get_or (drawn_upto o v).exits r 0)) (let z : k ≡ k + 0 = omega arith in z) path
  on_from x r k (suc n) l h path =
      subst (λ v. Leads (plan_of o) x (get_or (drawn_upto o v).exits r 0)) (let z : suc (k + n) ≡ k + suc n = omega arith in z)
      (passes x (k + n) r (omega (arith, h)) l (on_from x r k n l (omega (arith, h)) path))

  -- ---- a rank begins behind its go cell, and each step behind those before it
  first_exits : (r : ℕ) → r < o.ranks → get_or (drawn_upto o 0).exits r 0 ≡ r
  unfolding drawn_upto
  first_exits r l =
      ap (λ es. get_or es r 0) (begun o a.shape.some_rank a.shape.few_ranks o.inputs a.shape.few_inputs).exits
      ∙ ap (λ es. get_or es r 0) (sym (as_map 0 o.ranks)) ∙ get_or-each (λ i. i) 0 0 o.ranks r l ∙ (let z : 0 + r ≡ r = omega arith in z)
    where
      as_map : (k n : ℕ) → map (λ i. i) (from_to k n) ≡ from_to k n
      as_map k zero = refl
      as_map k (suc n) = ap (λ xs. k ∷ xs) (as_map (suc k) n)

  pub leads_first : (k i r : ℕ) → IsAt o k i r → Leads (plan_of o) r (entry_cell o k i)
  leads_first k i r at =
      let h = at.step in
      enters r k i r at
      (subst (λ v. Leads (plan_of o) r (get_or (drawn_upto o v).exits r 0)) (let z : 0 + k ≡ k = omega arith in z)
      (on_from r r 0 k (rank_in k i r at) (omega (arith, h)) (subst (Leads (plan_of o) r) (sym (first_exits r (rank_in k i r at))) here)))

  pub leads_next : (j k i m r : ℕ) → j < k → IsAt o j i r → IsAt o k m r → Leads (plan_of o) (exit_cell o j i) (entry_cell o k m)
  leads_next j k i m r before from to =
      let h = to.step in
      enters (exit_cell o j i) k m r to
      (subst (λ v. Leads (plan_of o) (exit_cell o j i) (get_or (drawn_upto o v).exits r 0))
      (let z : suc j + (k - suc j) ≡ k = omega (arith, before) in z)
      (on_from (exit_cell o j i) r (suc j) (k - suc j) (rank_in j i r from) (omega (arith, before, h))
      (subst (Leads (plan_of o) (exit_cell o j i)) (sym (exit_of j i r from)) here)))
