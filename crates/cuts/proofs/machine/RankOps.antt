-- The operations of a rank as lists.
use Rattle.std.proofs.Common.{ℕ, ◌≡◌, ◌∙◌, sym, subst, inl, inr, map}
use Rattle.plan_core.specs.Members.{In, Distinct}
use Rattle.plan_core.specs.Plan.{Plan, own, out_links}
use Rattle.plan_core.proofs.Lists.{Distinct-append, Distinct-map, In-append_left, In-append_right, In-append_cases, In-map, In-map_cases}
use Rattle.plan_core.proofs.Links.{Distinct-own, Distinct-out_links}
use Rattle.plan_core.specs.calls.RankOps.{rank_ops}
use Rattle.plan_core.specs.calls.RankOps.RankOp.{ForLink, ForDone}

-- ---- rank_ops
pub In-works_along : (p : Plan) (r l : ℕ) → In l (out_links p r) → In (ForLink l) (rank_ops p r)
In-works_along p r l h = In-append_left (ForLink l) (map ForLink (out_links p r)) (map ForDone (own p r))
    (In-map ForLink l (out_links p r) h)

pub In-works_tell : (p : Plan) (r c : ℕ) → In c (own p r) → In (ForDone c) (rank_ops p r)
In-works_tell p r c h = In-append_right (ForDone c) (map ForLink (out_links p r)) (map ForDone (own p r)) (In-map ForDone c (own p r) h)

pub rank_ops-along : (p : Plan) (r l : ℕ) → In (ForLink l) (rank_ops p r) → In l (out_links p r)
rank_ops-along p r l h = elim (In-append_cases (ForLink l) (map ForLink (out_links p r)) (map ForDone (own p r)) h) [
  | inl i ↦ (let k = In-map_cases ForLink (ForLink l) (out_links p r) i in subst (λ m. In m (out_links p r)) (along_one k.2) k.1)
  | inr i ↦ (let k = In-map_cases ForDone (ForLink l) (own p r) i in absurd (not_both k.2))
]
  where
    along_one : {a b : ℕ} → ForLink a ≡ ForLink b → a ≡ b
    along_one e = cc

    not_both : {a b : ℕ} → ForDone a ≡ ForLink b → ⊥
    not_both e = cc

pub rank_ops-tell : (p : Plan) (r c : ℕ) → In (ForDone c) (rank_ops p r) → In c (own p r)
rank_ops-tell p r c h = elim (In-append_cases (ForDone c) (map ForLink (out_links p r)) (map ForDone (own p r)) h) [
  | inl i ↦ (let k = In-map_cases ForLink (ForDone c) (out_links p r) i in absurd (not_both k.2))
  | inr i ↦ (let k = In-map_cases ForDone (ForDone c) (own p r) i in subst (λ m. In m (own p r)) (tell_one k.2) k.1)
]
  where
    tell_one : {a b : ℕ} → ForDone a ≡ ForDone b → a ≡ b
    tell_one e = cc

    not_both : {a b : ℕ} → ForLink a ≡ ForDone b → ⊥
    not_both e = cc

pub Distinct-rank_ops : (p : Plan) (r : ℕ) → Distinct (rank_ops p r)
Distinct-rank_ops p r =
    Distinct-append (map ForLink (out_links p r)) (map ForDone (own p r))
    (Distinct-map ForLink (out_links p r) (Distinct-out_links p r) (λ a b i j e. along_one e))
    (Distinct-map ForDone (own p r) (Distinct-own p r) (λ a b i j e. tell_one e))
    (λ w i j. let k = In-map_cases ForLink w (out_links p r) i in let m = In-map_cases ForDone w (own p r) j in not_both (k.2 ∙ sym m.2))
  where
    along_one : {a b : ℕ} → ForLink a ≡ ForLink b → a ≡ b
    along_one e = cc

    tell_one : {a b : ℕ} → ForDone a ≡ ForDone b → a ≡ b
    tell_one e = cc

    not_both : {a b : ℕ} → ForLink a ≡ ForDone b → ⊥
    not_both e = cc
