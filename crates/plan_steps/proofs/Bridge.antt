-- Drawing cell by cell and link by link gives the plan with the cells and their links appended.
use Rattle.std.proofs.Common.{ℕ, ◌≡◌, List, [], ◌∷◌, ◌++◌, refl, length, map, ap, ◌∙◌, sym, append_assoc, append-nil}
use Rattle.plan_core.specs.declared.Incoming.{Incoming}
use Rattle.plan_core.specs.Plan.{Plan}
use Rattle.plan_core.specs.Draw.{NewCell, add, add_all, add_cell, add_link, add_links, cell_of, link_to}
use Rattle.plan_steps.specs.Sounding.{with_cell, with_cells}

with-links : (p : Plan) (c : ℕ) (is : List Incoming) → add_links p c is ≡ record p { links = p.links ++ map (link_to c) is }
unfolding add_links add_link
with-links p c [] = ap (λ ls. record p { links = ls }) (sym (append-nil p.links))
with-links p c (i ∷ is) = with-links (add_link p (link_to c i)) c is
    ∙ ap (λ ls. record p { links = ls }) (append_assoc p.links (link_to c i ∷ []) (map (link_to c) is))

pub add-with : (p : Plan) (n : NewCell) → add p n ≡ with_cell p n
unfolding add add_cell
add-with p n = with-links (add_cell p (cell_of n)) (length p.cells) n.into

pub add_all-with : (p : Plan) (ns : List NewCell) → add_all p ns ≡ with_cells p ns
unfolding add_all
add_all-with p [] = refl
add_all-with p (n ∷ ns) = ap (λ q. add_all q ns) (add-with p n) ∙ add_all-with (with_cell p n) ns
