-- A descriptor awaits at least what was sent and isn't answered.
use Rattle.std.proofs.Common.{ℕ, suc, Bool, true, false, cond, not, ◌+◌, ◌≡◌, ◌≤◌, List, [], ◌∷◌, refl, ap, arith, count_by, min}
use Rattle.plan_core.specs.Plan.{Plan, is_bump, link}
use Rattle.cuts.specs.machine.Seen.{Seen, sends}
use Rattle.plan_core.specs.calls.RankOps.RankOp.{ForLink, ForDone}
use Rattle.cuts.specs.machine.Machine.{Move, note, seen}
use Rattle.cuts.specs.machine.Machine.Move.{Began, Did, Heard, Strayed, Took}
use Rattle.plan_core.proofs.Lists.{count-cons}
use Rattle.ptl_types.specs.Handles.{top, one_more}
use Rattle.cuts.proofs.histories.Told.{heard}

-- the descriptor awaits at least what was sent and isn't answered
pub awaits_seen : (p : Plan) → p.remote ≡ true → (ms : List Move) (g : Seen) (n : ℕ) → min (count_by (sends p) g.fired) top ≤ g.awaits + n
    → min (count_by (sends p) (seen p g ms).fired) top ≤ (seen p g ms).awaits + (n + heard p ms)
awaits_seen p rem [] g n h = omega arith
awaits_seen p rem (Began ∷ ms) g n h = awaits_seen p rem ms (note p g Began) n h
awaits_seen p rem (Took l bs ∷ ms) g n h = awaits_seen p rem ms (note p g (Took l bs)) n h
awaits_seen p rem (Strayed ∷ ms) g n h = awaits_seen p rem ms (note p g Strayed) n h
awaits_seen p rem (Did (ForDone c) ∷ ms) g n h = awaits_seen p rem ms (note p g (Did (ForDone c))) n
    (let e = count-cons (sends p) (ForDone c) g.fired in omega (arith, e))
awaits_seen p rem (Did (ForLink l) ∷ ms) g n h = awaits_seen p rem ms (note p g (Did (ForLink l))) n
    (at (is_bump (link p l).kind) p.remote rem refl)
  where
    at : (b c : Bool) → c ≡ true → is_bump (link p l).kind ≡ b → min (count_by (sends p) (ForLink l ∷ g.fired)) top ≤ cond b g.awaits
        (cond c (one_more g.awaits) g.awaits) + n
    at true c q e = let k = count-cons (sends p) (ForLink l) g.fired in let z = none_if (not (is_bump (link p l).kind)) (ap not e) in
        omega (arith, k, z)
      where
        none_if : (b : Bool) → b ≡ false → cond {A = ℕ} b 1 0 ≡ 0
        none_if false e = refl
        none_if true e = cc
    at false true q e = let k = count-cons (sends p) (ForLink l) g.fired in let z = most_one (not (is_bump (link p l).kind)) in
        omega (arith, k, z)
      where
        most_one : (b : Bool) → cond {A = ℕ} b 1 0 ≤ 1
        most_one true = omega arith
        most_one false = omega arith
    at false false q e = cc
awaits_seen p rem (Heard ok ∷ ms) g n h =
    let q = awaits_seen p rem ms (note p g (Heard ok)) (suc n) (omega arith) in
    let z = one_if p.remote rem in
    omega (arith, q, z)
  where
    one_if : (b : Bool) → b ≡ true → cond {A = ℕ} b 1 0 ≡ 1
    one_if true e = refl
    one_if false e = cc
