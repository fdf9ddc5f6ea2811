-- The value of a cell has the cell's length.
use Rattle.std.proofs.Common.{ℕ, zero, suc, Bool, true, false, cond, ◌+◌, ◌-◌, ◌*◌, ◌≡◌, ◌≤◌, ◌<◌, refl, length, ap, ◌∙◌, subst, arith}
use Rattle.std.proofs.lemmas.Bool.{leb-true, ltb-true, and_parts}
use Rattle.plan_core.specs.Plan.{Plan, cell, link, in_links}
use Rattle.plan_core.specs.Values.{Inputs, blank, initial, input_bytes, is_input, value, due}
use Rattle.plan_core.specs.Sound.{AreInputsOf}
use Rattle.plan_core.proofs.Links.{in_links-In, length-land}
use Rattle.plan_core.proofs.Values.{Lands-of, length-due, step, value-eq, each-keeps, length-blank}
use Rattle.plan_steps.specs.Sounding.{WellBuilt}

module _ (p : Plan) (inputs : Inputs) (m : ℕ) (built : WellBuilt p m) (fit : AreInputsOf p inputs) where
  length-first : (c : ℕ) → c < length p.cells → length (initial p inputs c) ≡ (cell p c).length
  length-first c h = at (is_input p inputs c) refl
    where
      at : (b : Bool) → is_input p inputs c ≡ b → length (cond b (input_bytes p inputs (c - p.ranks)) (blank (cell p c)))
          ≡ (cell p c).length
      at false e = length-blank (cell p c) (built.whole c h)
      at true e =
          let q = and_parts _ _ e in
          let a : p.ranks ≤ c = leb-true _ _ q.0 in
          let b : c < p.ranks + length inputs * p.ranks = ltb-true _ _ q.1 in
          let i : p.ranks + (c - p.ranks) ≡ c = omega arith in
          fit (c - p.ranks) (omega arith) ∙ ap (λ n. (cell p n).length) i

  length-below : (n c : ℕ) → c < n → c < length p.cells → length (value p inputs c) ≡ (cell p c).length
  length-below zero c h k = absurd (omega arith)
  length-below (suc n) c h k =
      ap length (value-eq p inputs built.links_sound c)
      ∙ each-keeps (step p inputs) (λ z. length z ≡ (cell p c).length) (in_links p c)
      (λ l z i e.
      let r = in_links-In p c l i in
      let s = built.links_sound l r.0 in
      let up = s.rising in
      let below = length-below n (link p l).source (let t : (link p l).target ≡ c = r.1 in omega arith) (let t = s.cells in omega arith) in
      subst (λ d. length z ≡ (cell p d).length → length (step p inputs l z) ≡ (cell p d).length) r.1
      (λ q. length-land (cell p (link p l).target) (link p l).kind (link p l).target_offset (due p inputs l) z
      (built.whole (link p l).target s.cells) (Lands-of p l s (due p inputs l) (length-due p inputs l s below)) q) e)
      (initial p inputs c) (length-first c k)

  pub length-value : (c : ℕ) → c < length p.cells → length (value p inputs c) ≡ (cell p c).length
  length-value c h = length-below (suc c) c (omega arith) h
