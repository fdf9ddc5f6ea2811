-- Cell by cell.
use Rattle.std.proofs.Common.{◌≡◌, ℕ, zero, suc, ◌+◌, ◌<◌, List, [], ◌∷◌, ◌++◌, length, get_or, map}
use Rattle.std.proofs.Common.{refl, sym, ap, ◌∙◌, arith, eqb-true}
use Rattle.std.specs.Prelude.{◌==◌}
use Rattle.std.specs.List.{All}
use Rattle.std.proofs.lemmas.List.{map-append}
use Rattle.std.proofs.lemmas.List.Elements.{All-from_get_or}
use Rattle.plan_core.specs.Plan.{Plan, from_to, in_links, link}
use Rattle.plan_core.specs.Values.{Inputs, next_value, value, values}
use Rattle.plan_core.proofs.Drawing.{from_to-more}
use Rattle.plan_core.proofs.Values.{get_or-values, length-value, value-is}
use Rattle.plan_tables.proofs.Indexed.{all-below, all-pass}
use Rattle.plan_judge.specs.values.Given.{IsGiven, IsReady}

-- each link that comes to a cell finds the bytes of its source
ready : (p : Plan) (inputs : Inputs) (c l : ℕ) (before : List (List ℕ)) → IsGiven p inputs → before ≡ values p inputs c
    → length before ≡ c → l < length p.links → (link p l).target ≡ c → IsReady p before c l
ready p inputs c l before given is many known target =
    let s = given.sound.links_sound l known in
    let up = s.rising in
    let within = s.cells in
    let below : (link p l).source < c = omega (arith, up, target) in
    let there : (link p l).source < length p.cells = omega (arith, up, within) in
    record {
      known = known;
      sound = s;
      target = target;
      source = omega (arith, below, many);
      carries = ap (λ (v : List (List ℕ)). length (get_or v (link p l).source [])) is
          ∙ ap length (get_or-values p inputs c (link p l).source below)
          ∙ length-value p inputs given.sound given.fits (link p l).source there;
    }

pub all_ready : (p : Plan) (inputs : Inputs) (c : ℕ) (before : List (List ℕ)) (links : List ℕ) → IsGiven p inputs
    → before ≡ values p inputs c → length before ≡ c → links ≡ in_links p c → All (IsReady p before c) links
all_ready p inputs c before links given is many e =
    All-from_get_or (IsReady p before c) links 0
    (λ i h. ready p inputs c (get_or links i 0) before given is many
    (all-below (λ l. (link p l).target == c) (length p.links) links e i h)
    (eqb-true _ _ (all-pass (λ l. (link p l).target == c) (length p.links) links e i h)))

-- all values, one after the other
pub all_values : (p : Plan) (inputs : Inputs) (n : ℕ) → values p inputs n ≡ map (value p inputs) (from_to 0 n)
all_values p inputs zero = refl
all_values p inputs (suc n) =
    let last : 0 + n ≡ n = omega arith in
    ap (λ (l : List (List ℕ)). l ++ next_value p inputs (values p inputs n) n ∷ []) (all_values p inputs n)
    ∙ ap (λ (x : List ℕ). map (value p inputs) (from_to 0 n) ++ x ∷ []) (sym (value-is p inputs n) ∙ ap (value p inputs) (sym last))
    ∙ sym (map-append (value p inputs) (from_to 0 n) ((0 + n) ∷ []))
    ∙ ap (map (value p inputs)) (sym (from_to-more 0 n))

-- one cell more
pub one_more : (p : Plan) (inputs : Inputs) (c : ℕ) (before : List (List ℕ)) (bytes : List ℕ) → before ≡ values p inputs c
    → bytes ≡ next_value p inputs before c → before ++ bytes ∷ [] ≡ values p inputs (c + 1)
one_more p inputs c before bytes e f =
    ap (λ v. before ++ v ∷ []) f
    ∙ ap (λ v. v ++ next_value p inputs v c ∷ []) e
    ∙ ap (values p inputs) (let z : suc c ≡ c + 1 = omega arith in z)
