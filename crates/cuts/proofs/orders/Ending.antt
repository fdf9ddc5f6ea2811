-- Taking ends: each step that is taken leaves one less.
use Rattle.std.proofs.Common.{zero, suc, ℕ, cond, ◌+◌, ◌-◌, ◌≡◌, ◌<◌, ◌≤◌, ◌⊎◌, List, [], ◌∷◌, ◌++◌, Option, Some, None, refl, length, map}
use Rattle.std.proofs.Common.{ap, ap₂, sym, subst, inl, inr, arith, length-append, eq-eqb}
use Rattle.std.proofs.lemmas.Bool.{cases_eq, ne_eqb}
use Rattle.std.proofs.lemmas.List.{length-map}
use Rattle.cuts.specs.histories.History.{Local}
use Rattle.cuts.specs.orders.Ending.{untaken}
use Rattle.cuts.specs.histories.System.{Histories, System}
use Rattle.cuts.specs.orders.Taking.{IsNext, IsTaken, Lists, Move, histories, listed, with_step}
use Rattle.ptl_types.specs.declared.steps.LocalStep.{LocalStep}
use Rattle.cuts.proofs.orders.Taken.{fair}
use Rattle.cuts.proofs.orders.Trying.{IsUnderWay, next_by, next_step, none_stuck}

pub longer_list : (lists : Lists) (w : Histories) (r : ℕ) (e : LocalStep) → IsNext lists w r e → length (w r) < length (lists r)
longer_list lists w r e h =
    let a = ap length h.1 in
    let b = length-append (map listed (w r)) (e ∷ h.0) in
    let c = length-map (w r) listed in
    omega arith

pub here : (r : ℕ) (x : Local) (w : Histories) → with_step r x w r ≡ w r ++ x ∷ []
here r x w = ap (λ b. cond b (w r ++ x ∷ []) (w r)) (eq-eqb r r refl)

pub elsewhere : (r : ℕ) (x : Local) (w : Histories) (q : ℕ) → (r ≡ q → ⊥) → with_step r x w q ≡ w q
elsewhere r x w q n = ap (λ b. cond b (w q ++ x ∷ []) (w q)) (ne_eqb r q n)

pub untaken-above : (lists : Lists) (w : Histories) (r : ℕ) (x : Local) (n : ℕ) → n ≤ r →
    untaken lists (with_step r x w) n ≡ untaken lists w n
untaken-above lists w r x zero h = refl
untaken-above lists w r x (suc n) h =
    ap₂ (λ a b. a + (length (lists n) - length b)) (untaken-above lists w r x n (omega arith))
    (elsewhere r x w n (λ e. absurd (omega arith)))

pub untaken-less : (lists : Lists) (w : Histories) (r : ℕ) (x : Local) (n : ℕ) → r < n → length (w r) < length (lists r) →
    untaken lists (with_step r x w) n + 1 ≡ untaken lists w n
untaken-less lists w r x zero h l = absurd (omega arith)
untaken-less lists w r x (suc n) h l = elim (cases_eq r n) [
  | inr e ↦ (let a = untaken-less lists w r x n (omega arith) l in let b = ap length (elsewhere r x w n e) in omega arith)
  | inl e ↦ subst (λ z. untaken lists (with_step r x w) (suc z) + 1 ≡ untaken lists w (suc z)) e
      (let a = untaken-above lists w r x r (omega arith) in let b = ap length (here r x w) in let c = length-append (w r) (x ∷ []) in
      omega arith)
]

-- ---- some rank has an enabled step, or none has
pub record Moves (k : System) (lists : Lists) (w : Histories) : Type 0 where
  pub rank : ℕ
  pub step : Local
  pub known : rank < k.count
  pub next : next_step k lists w rank ≡ Some step

search_rank : (k : System) (lists : Lists) (w : Histories) (n : ℕ) → n ≤ k.count →
    Moves k lists w ⊎ ((r : ℕ) → r < n → next_step k lists w r ≡ None)
search_rank k lists w zero h = inr (λ r l. absurd (omega arith))
search_rank k lists w (suc n) h = at (next_step k lists w n) refl (search_rank k lists w n (omega arith))
  where
    at : (o : Option Local) → next_step k lists w n ≡ o → Moves k lists w ⊎ ((r : ℕ) → r < n → next_step k lists w r ≡ None) →
        Moves k lists w ⊎ ((r : ℕ) → r < suc n → next_step k lists w r ≡ None)
    at o e (inl m) = inl m
    at (Some x) e (inr none) = inl (record { rank = n; step = x; known = omega arith; next = e })
    at None e (inr none) = inr (λ r l. elim (cases_eq r n) [
      | inl q ↦ subst (λ z. next_step k lists w z ≡ None) (sym q) e
      | inr q ↦ none r
          (omega arith)
    ])

pub record Taking (k : System) (lists : Lists) : Type 0 where
  pub moves : List Move
  pub taken : IsTaken k lists moves

goes_on : (k : System) (lists : Lists) (fuel : ℕ) (es : List Move) → IsUnderWay k lists es → untaken lists (histories es) k.count ≤ fuel →
    Moves k lists (histories es) ⊎ ((r : ℕ) → r < k.count → next_step k lists (histories es) r ≡ None) → Taking k lists
goes_on k lists fuel es so h (inr none) = record {
  moves = es;
  taken =
      record { made = so.made; listed = so.listed; stuck = λ r l. none_stuck k lists (histories es) r (none r l) };
}
goes_on k lists zero es so h (inl m) =
    let b = next_by k lists (histories es) m.rank m.step (fair k lists es so.made so.listed) m.next in
    let z = untaken-less lists (histories es) m.rank m.step k.count m.known (longer_list lists (histories es) m.rank (listed m.step) b.0) in
    absurd (omega arith)
goes_on k lists (suc fuel) es so h (inl m) =
    let b = next_by k lists (histories es) m.rank m.step (fair k lists es so.made so.listed) m.next in
    let z = untaken-less lists (histories es) m.rank m.step k.count m.known (longer_list lists (histories es) m.rank (listed m.step) b.0) in
    let fs : List Move = record { rank = m.rank; step = m.step } ∷ es in
    goes_on k lists fuel fs (record { made = (so.made, m.known, b.1); listed = (so.listed, b.0) }) (omega arith)
    (search_rank k lists (histories fs) k.count (omega arith))

-- lists can be taken as far as it goes
pub taking_ends : (k : System) (lists : Lists) → Taking k lists
taking_ends k lists = goes_on k lists (untaken lists (histories []) k.count) [] (record { made = tt; listed = tt }) (omega arith)
    (search_rank k lists (histories []) k.count (omega arith))
