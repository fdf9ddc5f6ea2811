-- The rounds of a dissemination barrier.
use Rattle.std.specs.Prelude.{ℕ, suc, ◌+◌, ◌%◌, ◌^◌, ◌≡◌, ◌<◌, ◌≤◌}
use Rattle.plan_core.specs.Members.{In}
use Rattle.plan_core.specs.Plan.{Plan, in_links, link}

-- a link to cell c whose source is b
pub record Comes (p : Plan) (b c : ℕ) : Type 0 where
  pub l : ℕ
  pub into : In l (in_links p c)
  pub from : (link p l).source ≡ b

-- T k r is the cell of rank r in round k; T 0 r is the entry
pub record IsRounds (p : Plan) (n rounds : ℕ) (T : ℕ → ℕ → ℕ) : Type 0 where
  pub stays : (k r : ℕ) → k < rounds → r < n → Comes p (T k r) (T (suc k) r)
  pub comes : (k m r : ℕ) → k < rounds → m < n → r < n → (m + 2 ^ k) % n ≡ r → Comes p (T k m) (T (suc k) r)
  pub enough : n ≤ 2 ^ rounds
