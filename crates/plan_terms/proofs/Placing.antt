-- What a put does to the places of its target, and the places of zeros and of inputs.
use Rattle.std.proofs.Common.{ℕ, ◌*◌, ◌≡◌, ◌≤◌, ◌<◌, List, [], length, map, get_or, replicate, ap, ap₂, sym, ◌∙◌, arith}
use Rattle.number_lists.specs.Numbers.{from_to}
use Rattle.ptl_types.specs.declared.elements.AtomicOp.TheVariants.{Sum}
use Rattle.ptl_types.specs.declared.elements.ElemType.TheVariants.{U8}
use Rattle.ptl_types.specs.Elements.{written}
use Rattle.plan_core.specs.declared.Cell.{Cell}
use Rattle.plan_core.specs.declared.Link.{Link}
use Rattle.plan_core.specs.declared.LinkKind.TheVariants.{Put}
use Rattle.plan_core.specs.Values.{land_as}
use Rattle.plan_terms.specs.declared.terms.term.Making.TheVariants.{Fold}
use Rattle.plan_terms.specs.terms.Terms.{IsSolution, Lists, Table, input_at}
use Rattle.plan_terms.specs.terms.Folds.{IsPlaceOf}
use Rattle.plan_terms.proofs.terms.Runs.{map-replicate, map-written}
use Rattle.plan_terms.specs.Cells.{AreZeros}

-- a put writes what it carries
pub put_landed : (V : ℕ → ℕ) (k : Link) (x : Cell) (list bytes old new : List ℕ) → k.kind ≡ Put → list ≡ bytes
    → new ≡ written k.target_offset list old → map V new ≡ land_as k.kind x k.target_offset (map V bytes) (map V old)
put_landed V k x list bytes old new kind carries is =
    ap (map V) is
    ∙ map-written V k.target_offset list old
    ∙ ap (λ (bs : List ℕ). written k.target_offset (map V bs) (map V old)) carries
    ∙ ap (λ d. land_as d x k.target_offset (map V bytes) (map V old)) (sym kind)

-- the sum of nothing
pub zero_place : (t : Table) (s : ℕ) → IsPlaceOf t s (Fold Sum U8) [] → (inputs : Lists) (V : ℕ → ℕ) → IsSolution t inputs V → V s ≡ 0
zero_place t s is inputs V solution = ap (λ (xs : List ℕ). get_or xs 0 0) (is inputs V solution)

pub zero_places : (t : Table) (n s : ℕ) → ((inputs : Lists) (V : ℕ → ℕ) → IsSolution t inputs V → V s ≡ 0) → AreZeros t (replicate n s) n
zero_places t n s is inputs V solution = map-replicate V n s ∙ ap (replicate n) (is inputs V solution)

-- an input cell's places
pub given_places : (t : Table) (cell first bytes : ℕ) (places : List ℕ) → cell < t.cells → bytes ≤ t.stride → first ≡ cell * t.stride
    → places ≡ from_to first bytes → (inputs : Lists) (V : ℕ → ℕ) → IsSolution t inputs V
    → length (input_at t.ranks inputs cell) ≡ bytes → map V places ≡ input_at t.ranks inputs cell
given_places t cell first bytes places known fits at is inputs V solution long =
    ap (map V) (is ∙ ap₂ from_to at (sym long)) ∙ solution.given cell known (omega (arith, long, fits))
