-- The region of a rank depends on that rank's inputs alone.
use Rattle.std.proofs.Common.{ℕ, Bool, true, false, cond, ◌≡◌, ◌+◌, ◌-◌, ◌*◌, ◌/◌, ◌%◌, ◌&&◌, nat_le, nat_lt, List, [], ◌∷◌, ◌++◌, length}
use Rattle.std.proofs.Common.{get_or, ap, ap₂, ◌∙◌, sym, inl, inr, arith, flat_map, refl}
use Rattle.std.proofs.lemmas.Bool.{and_parts, leb-true, ltb-true}
use Rattle.plan_core.specs.Members.{In}
use Rattle.plan_core.specs.Plan.{Plan, cell, own}
use Rattle.plan_core.specs.Sound.{SoundPlan}
use Rattle.plan_core.specs.Values.{Inputs, blank, initial, input_bytes, is_input}
use Rattle.plan_core.proofs.Links.{own-In}
use Rattle.plan_core.specs.calls.Areas.{blank_areas, initial_region}

module _ (p : Plan) (inputs others : Inputs) (r : ℕ) (sound : SoundPlan p (length inputs)) (size : length others ≡ length inputs)
    (same : (b : ℕ) → get_or (get_or others b []) r [] ≡ get_or (get_or inputs b []) r []) where
  at_input : (i : ℕ) → i % p.ranks ≡ r → input_bytes p others i ≡ input_bytes p inputs i
  at_input i e =
      ap (λ q. get_or (get_or others (i / p.ranks) []) q []) e ∙ same (i / p.ranks)
      ∙ ap (λ q. get_or (get_or inputs (i / p.ranks) []) q []) (sym e)

  initial-same : (c : ℕ) → In c (own p r) → initial p others c ≡ initial p inputs c
  initial-same c i =
      ap (λ n. cond (nat_le p.ranks c && nat_lt c (p.ranks + n * p.ranks)) (input_bytes p others (c - p.ranks)) (blank (cell p c))) size
      ∙ at (is_input p inputs c) refl
    where
      at : (b : Bool) → is_input p inputs c ≡ b → cond (is_input p inputs c) (input_bytes p others (c - p.ranks)) (blank (cell p c))
          ≡ cond (is_input p inputs c) (input_bytes p inputs (c - p.ranks)) (blank (cell p c))
      at false e = ap (λ b. cond b (input_bytes p others (c - p.ranks)) (blank (cell p c))) e
          ∙ sym (ap (λ b. cond b (input_bytes p inputs (c - p.ranks)) (blank (cell p c))) e)
      at true e =
          let q = and_parts (nat_le p.ranks c) (nat_lt c (p.ranks + length inputs * p.ranks)) e in
          let low = leb-true p.ranks c q.0 in
          let high = ltb-true c (p.ranks + length inputs * p.ranks) q.1 in
          let n : p.ranks + (c - p.ranks) ≡ c = omega (arith, low) in
          let k = sound.input_cells (c - p.ranks) (omega (arith, low, high)) in
          let t : (c - p.ranks) % p.ranks ≡ r = sym k.2 ∙ ap (λ d. (cell p d).rank) n ∙ (own-In p r c i).1 in
          ap (λ v. cond (is_input p inputs c) v (blank (cell p c))) (at_input (c - p.ranks) t)

  flat : (cs : List ℕ) → ((c : ℕ) → In c cs → In c (own p r)) → flat_map (initial p others) cs ≡ flat_map (initial p inputs) cs
  flat [] sub = refl
  flat (c ∷ cs) sub = ap₂ (λ a b. a ++ b) (initial-same c (sub c (inl refl))) (flat cs (λ d i. sub d (inr i)))

  pub region-same : initial_region p others r ≡ initial_region p inputs r
  region-same = ap (λ v. v ++ blank_areas p r) (flat (own p r) (λ c i. i))
