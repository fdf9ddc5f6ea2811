-- An accepted text with orders of its ranks after it.
use Rattle.std.proofs.Common.{ℕ, ◌<◌, ◌≤◌, ◌≡◌, ◌++◌, List, length, map, Option, None, Ok, refl, sym, ap, ap₂, ◌∙◌, arith}
use Rattle.std.proofs.Math.Seq.{drop-append_seam, take-append_seam}
use Rattle.number_lists.specs.Numbers.{from_to}
use Rattle.ptl_types.specs.declared.steps.LocalStep.{LocalStep}
use Rattle.coll_text.specs.Text.{lines}
use Rattle.coll_lang.specs.Language.{read}
use Rattle.coll_lang.specs.Program.{Chosen, Program}
use Rattle.coll_lang.proofs.Coming.{comes}
use Rattle.run_text.specs.Orders.{order_text}
use Rattle.order_lines.specs.Check.{line_after, orders_after, read_check, with_lists, with_orders}
use Rattle.order_lines.specs.Orders.{read_orders}
use Rattle.order_lines.specs.declared.checking.TheConstants.{LONGEST_CHECK}
use Rattle.order_lines.proofs.Inputs.{parted}
use Rattle.run_text.specs.read_orders.Named.{AreNamed}
use Rattle.run_text.proofs.read_orders.Back.{orders_back}
use Rattle.run_text.proofs.read_orders.Ending.{whole_front}

-- with orders alone, where nothing is chosen
behind : (d : Program) (k : ℕ) (pieces : List (List ℕ)) (lists : List (List LocalStep)) (choices : Option Chosen) → choices ≡ None
    → read_orders d.shape.ranks d.shape.ranks 0 k pieces ≡ Ok lists → orders_after d choices k pieces ≡ Ok (d, lists)
behind d k pieces lists choices none h = ap (λ c. orders_after d c k pieces) none ∙ ap (with_lists d) h

pub whole_back : (bytes : List ℕ) (d : Program) (steps : ℕ → List LocalStep) → read bytes ≡ Ok d → d.choices ≡ None
    → length (bytes ++ order_text d.shape.ranks steps) ≤ LONGEST_CHECK → ((r : ℕ) → r < d.shape.ranks → AreNamed d.shape.ranks (steps r))
    → read_check (bytes ++ order_text d.shape.ranks steps) ≡ Ok (d, map steps (from_to 0 d.shape.ranks))
whole_back bytes d steps is none short named =
    let ranks = d.shape.ranks in
    let orders = order_text ranks steps in
    let all = bytes ++ orders in
    let next = line_after 1 (lines all) in
    let at_most = (comes bytes d is).readable.formed.shape.few_ranks in
    parted all (length bytes) next short (sym (whole_front bytes orders d is)) refl
    ∙ ap₂ (λ x y. with_orders (read x) next (lines y)) (take-append_seam bytes orders) (drop-append_seam bytes orders)
    ∙ ap (λ r. with_orders r next (lines orders)) is
    ∙ behind d next (lines orders) (map steps (from_to 0 ranks)) d.choices none
    (orders_back ranks ranks 0 next steps (omega (arith, at_most)) (omega arith) named)
