-- What a cell holds at the beginning.
use Rattle.std.proofs.Common.{◌≡◌, ℕ, ◌+◌, ◌-◌, ◌*◌, ◌≤◌, ◌<◌, true, false, cond, length, sym, ap, ◌∙◌}
use Rattle.std.specs.Prelude.{◌&&◌, nat_le, nat_lt}
use Rattle.std.proofs.lemmas.Bool.{and_parts, leb-true, ltb-true}
use Rattle.plan_core.specs.declared.Cell.{Cell}
use Rattle.plan_core.specs.Plan.{Plan, cell}
use Rattle.plan_core.specs.Values.{Inputs, blank, initial, input_bytes, is_input}

pub is_there : (r n c : ℕ) → (nat_le r c && nat_lt c (r + n * r)) ≡ true → (r ≤ c) × (c < r + n * r)
is_there r n c t = let q = and_parts _ _ t in (leb-true _ _ q.0, ltb-true _ _ q.1)

pub of_input : (p : Plan) (inputs : Inputs) (c count ranks : ℕ) → ranks ≡ p.ranks → count ≡ length inputs
    → (nat_le ranks c && nat_lt c (ranks + count * ranks)) ≡ true → initial p inputs c ≡ input_bytes p inputs (c - ranks)
of_input p inputs c count ranks r n t =
    let there : is_input p inputs c ≡ true = rw (r, n) at t in
    rw r (ap (λ b. cond b (input_bytes p inputs (c - p.ranks)) (blank (cell p c))) there)

pub of_blank : (p : Plan) (inputs : Inputs) (c count ranks : ℕ) (k : Cell) → ranks ≡ p.ranks → count ≡ length inputs → k ≡ cell p c
    → (nat_le ranks c && nat_lt c (ranks + count * ranks)) ≡ false → initial p inputs c ≡ blank k
of_blank p inputs c count ranks k r n e t =
    let elsewhere : is_input p inputs c ≡ false = rw (r, n) at t in
    ap (λ b. cond b (input_bytes p inputs (c - p.ranks)) (blank (cell p c))) elsewhere ∙ ap blank (sym e)
