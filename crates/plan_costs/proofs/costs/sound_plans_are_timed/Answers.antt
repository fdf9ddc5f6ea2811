-- What a sound plan keeps.
use Rattle.std.proofs.Common.{ℕ, Bool, true, false, nat_lt, ◌≡◌, ◌<◌, ◌≤◌, List, length, refl, subst}
use Rattle.std.proofs.lemmas.Bool.{ltb-false, ltb-true}
use Rattle.plan_core.specs.Members.{In}
use Rattle.plan_core.specs.Plan.{Plan, link}
use Rattle.plan_core.specs.Sound.{SoundPlan}
use Rattle.plan_core.proofs.Links.{In-in_links}
use Rattle.plan_tables.proofs.Room.{sound-tabled}
use Rattle.plan_costs.proofs.costs.sound_plans_are_timed.Goals as goal

-- no link comes to a go cell
beyond_go : (p : Plan) (inputs : ℕ) → SoundPlan p inputs → (l : ℕ) → l < length p.links → p.ranks ≤ (link p l).target
beyond_go p inputs s l h = at (nat_lt (link p l).target p.ranks) refl
  where
    at : (b : Bool) → nat_lt (link p l).target p.ranks ≡ b → p.ranks ≤ (link p l).target
    at false e = ltb-false (link p l).target p.ranks e
    at true e =
        let P : List ℕ → Type 0 = λ v. In l v in
        absurd (subst P (s.go_needs (link p l).target (ltb-true (link p l).target p.ranks e)).1 (In-in_links p (link p l).target l h refl))

pub returns : goal.returns
returns c = λ p inputs s. record {
  tabled = sound-tabled p inputs s;
  rising = λ l h. (s.links_sound l h).rising;
  needs = s.needs;
  go = beyond_go p inputs s;
}
