-- Which operations are ready, and which of them find their lane open.
use Rattle.std.proofs.Common.{◌≡◌, ℕ, Bool, true, false, List, [], ◌∷◌, length, map, refl, subst, arith, inl, eqb-true}
use Rattle.std.specs.Prelude.{Option, Some, None, slice_get}
use Rattle.ni_model.specs.Ready.{is_number, is_ready, is_ready_op, posted_at, ready_numbers, target_at}
use Rattle.ni_model.specs.State.{Posted, State}
use Rattle.plan_core.specs.Members.{In}
use Rattle.plan_core.proofs.Lists.{In-filter, In-filter_cases, In-map}
use Rattle.cuts.proofs.view.Tables.{find-In}
use Rattle.rank_node.specs.Gates.{goes_out, open_numbers}

-- an operation that is ready stands among those
ready-in : (s : State) (t : ℕ) → is_ready s t ≡ true → In t (ready_numbers s)
ready-in s t ready = In-filter (is_ready s) t (map (λ (p : Posted). p.number) s.pending.waiting) (at (posted_at t s.pending) refl ready)
    ready
  where
    at : (o : Option Posted) → posted_at t s.pending ≡ o → is_ready_op s.cts o ≡ true →
        In t (map (λ (p : Posted). p.number) s.pending.waiting)
    at None e r = cc
    at (Some x) e r = let i = find-In (is_number t) s.pending.waiting x e in
        subst (λ n. In n (map (λ (p : Posted). p.number) s.pending.waiting)) (eqb-true _ _ i.1)
        (In-map (λ (p : Posted). p.number) x s.pending.waiting i.0)

none-in : (xs : List ℕ) (t : ℕ) → length xs ≡ 0 → In t xs → ⊥
none-in [] t e i = i
none-in (x ∷ xs) t e i = omega (arith, e)

-- where none finds its lane open, each finds it closed
pub none-open : (closed : List Bool) (s : State) → length (open_numbers closed s) ≡ 0 → (t : ℕ) → is_ready s t ≡ true →
    goes_out closed (target_at s t) ≡ false
none-open closed s none t ready = at (goes_out closed (target_at s t)) refl
  where
    at : (b : Bool) → goes_out closed (target_at s t) ≡ b → b ≡ false
    at true e = absurd (none-in (open_numbers closed s) t none
        (In-filter (λ u. goes_out closed (target_at s u)) t (ready_numbers s) (ready-in s t ready) e))
    at false e = refl

first-in : (xs : List ℕ) (t : ℕ) → slice_get xs 0 ≡ Some t → In t xs
first-in [] t e = cc
first-in (x ∷ xs) t e = inl (at e)
  where
    at : Some x ≡ Some t → x ≡ t
    at e = cc

-- the first of those whose lane is open
pub record IsOpenReady (closed : List Bool) (s : State) (t : ℕ) : Type 0 where
  pub ready : is_ready s t ≡ true
  pub goes : goes_out closed (target_at s t) ≡ true

pub first-open : (closed : List Bool) (s : State) (t : ℕ) → slice_get (open_numbers closed s) 0 ≡ Some t → IsOpenReady closed s t
first-open closed s t e =
    let a = In-filter_cases (λ u. goes_out closed (target_at s u)) t (ready_numbers s) (first-in (open_numbers closed s) t e) in
    let b = In-filter_cases (is_ready s) t (map (λ (p : Posted). p.number) s.pending.waiting) a.0 in
    record { ready = b.1; goes = a.1 }
