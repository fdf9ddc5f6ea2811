-- The region of a choice text: four words for each step.
use Rattle.std.proofs.Common.{ℕ, zero, suc, Bool, true, false, cond, ◌+◌, ◌*◌, ◌==◌, ◌≡◌, ◌≤◌, ◌<◌, List, refl, length, flat_map, ap, ◌∙◌}
use Rattle.std.proofs.Common.{sym, arith, eqb-true}
use Rattle.std.proofs.lemmas.Bool.{eqb-false}
use Rattle.ptl_types.specs.Elements.{part, written}
use Rattle.plan_core.specs.Members.{In}
use Rattle.plan_core.specs.Plan.{from_to}
use Rattle.plan_core.specs.Places.{start_by}
use Rattle.plan_core.proofs.Links.{Distinct-from_to}
use Rattle.plan_core.proofs.Flat.{part_parts, within_flat, write_parts}
use Rattle.coll_lang.specs.declared.choices.ChoiceKind.{ChoiceKind}
use Rattle.plan_choice.specs.texts.view.Install.{four_words, steps, word}
use Rattle.plan_choice.proofs.texts.view.Stamps.{In-steps}

-- each part has 32 bytes
abbrev pub each_32 : ℕ → ℕ
each_32 s = 32

start_from : (k n s : ℕ) → k ≤ s → s < k + n → 32 * k + start_by each_32 (from_to k n) s ≡ 32 * s
start_from k zero s h i = absurd (omega arith)
start_from k (suc n) s h i = at (k == s) refl (start_from (suc k) n s)
  where
    at : (b : Bool) → (k == s) ≡ b → (suc k ≤ s → s < suc k + n → 32 * suc k + start_by each_32 (from_to (suc k) n) s ≡ 32 * s)
        → 32 * k + cond b 0 (32 + start_by each_32 (from_to (suc k) n) s) ≡ 32 * s
    at true e rest = let q = eqb-true k s e in omega (arith, q)
    at false e rest = let ne = eqb-false k s e in let lt : suc k ≤ s = omega arith in let q = rest lt (omega arith) in omega (arith, q)

step_start : (ks : List ChoiceKind) (s : ℕ) → s < length ks → start_by each_32 (steps ks) s ≡ 32 * s
step_start ks s h = let q = start_from 0 (length ks) s (omega arith) (omega arith) in omega (arith, q)

module _ (ks : List ChoiceKind) (s : ℕ) (h : s < length ks) where
  pub read_part : (f : ℕ → List ℕ) (off n : ℕ) → ((d : ℕ) → In d (steps ks) → length (f d) ≡ 32) → off + n ≤ 32
      → part (32 * s + off) n (flat_map f (steps ks)) ≡ part off n (f s)
  read_part f off n lengths fit = ap (λ v. part (v + off) n (flat_map f (steps ks))) (sym (step_start ks s h))
      ∙ part_parts each_32 f (steps ks) lengths s off n (In-steps ks s h) fit

  pub write_part : (f g : ℕ → List ℕ) (off : ℕ) (bs : List ℕ) → ((d : ℕ) → In d (steps ks) → length (f d) ≡ 32) → off + length bs ≤ 32
      → g s ≡ written off bs (f s) → ((d : ℕ) → In d (steps ks) → (d ≡ s → ⊥) → g d ≡ f d)
      → written (32 * s + off) bs (flat_map f (steps ks)) ≡ flat_map g (steps ks)
  write_part f g off bs lengths fit here there =
      ap (λ v. written (v + off) bs (flat_map f (steps ks))) (sym (step_start ks s h))
      ∙ write_parts each_32 f g (steps ks) (Distinct-from_to 0 (length ks)) lengths s off bs (In-steps ks s h) fit here there

-- the step's part lies in the region
pub inside_step : (ks : List ChoiceKind) (s : ℕ) → s < length ks → (f : ℕ → List ℕ) → ((d : ℕ) → In d (steps ks) → length (f d) ≡ 32)
    → 32 * s + 32 ≤ length (flat_map f (steps ks))
inside_step ks s h f lengths = let a = within_flat each_32 f (steps ks) lengths s (In-steps ks s h) in let b = step_start ks s h in
    omega (arith, a, b)

-- ---- the four words
pub length-four : (h v o b : ℕ) → length (four_words h v o b) ≡ 32
length-four h v o b = refl

pub read_first : (h v o b : ℕ) → part 0 8 (four_words h v o b) ≡ word h
read_first h v o b = refl

pub read_given : (h v o b : ℕ) → part 8 8 (four_words h v o b) ≡ word v
read_given h v o b = refl

pub write_first : (h v o b x : ℕ) → written 0 (word x) (four_words h v o b) ≡ four_words x v o b
write_first h v o b x = refl

pub write_old : (h v o b x : ℕ) → written 16 (word x) (four_words h v o b) ≡ four_words h v x b
write_old h v o b x = refl

pub write_result : (h v o b x : ℕ) → written 24 (word x) (four_words h v o b) ≡ four_words h v o x
write_result h v o b x = refl
