-- The text of a plan.
use Rattle.std.specs.Prelude.{ℕ, Bool, List, Option, Some, None, [], ◌∷◌, ◌++◌, length, codes, if◌then◌else◌}
use Rattle.std.specs.List.{flat_map}
use Rattle.std.specs.Fmt.{decimal}
use Rattle.ptl_types.specs.declared.elements.AtomicOp.{AtomicOp}
use Rattle.number_lists.specs.Numbers.{from_to}
use Rattle.coll_text.specs.Text.{line}
use Rattle.coll_lang.specs.Words.{op_word, type_word}
use Rattle.plan_core.specs.declared.LinkKind.{LinkKind}
use Rattle.plan_core.specs.declared.LinkKind.TheVariants.{Put, Atomic, Bump}
use Rattle.plan_core.specs.Plan.{Plan, cell, link}
use Rattle.plan_core.specs.calls.RankOps.{done_threshold}
use Rattle.run_text.specs.declared.plans.PlanLine.{PlanLine}
use Rattle.run_text.specs.declared.plans.PlanLine.TheVariants.{Head, CellLine, LinkLine, DoneLine, EndLine}

-- a cell's operation, or `-`
abbrev pub op_or_none : Option AtomicOp → List ℕ
op_or_none None = codes "-"
op_or_none (Some o) = op_word o

abbrev pub kind_word : LinkKind → List ℕ
kind_word Put = codes "put"
kind_word Atomic = codes "atomic"
kind_word Bump = codes "bump"

abbrev pub completion_word : Bool → List ℕ
completion_word remote = if remote then codes "remote" else codes "local"

abbrev pub plan_line : PlanLine → List ℕ
plan_line (Head ranks cells links remote) =
    line (codes "plan" ∷ decimal ranks ∷ decimal cells ∷ decimal links ∷ completion_word remote ∷ [])
plan_line (CellLine n c) =
    line (codes "cell" ∷ decimal n ∷ decimal c.rank ∷ type_word c.ty ∷ op_or_none c.op ∷ decimal c.length ∷ decimal c.needs ∷ [])
plan_line (LinkLine n l) =
    line (codes "link" ∷ decimal n ∷ decimal l.source ∷ decimal l.source_offset ∷ decimal l.length
    ∷ decimal l.target ∷ decimal l.target_offset ∷ kind_word l.kind ∷ [])
plan_line (DoneLine r threshold) = line (codes "done" ∷ decimal r ∷ decimal threshold ∷ [])
plan_line EndLine = line (codes "end" ∷ [])

abbrev pub cell_line_of : Plan → ℕ → List ℕ
cell_line_of p n = plan_line (CellLine n (cell p n))

abbrev pub link_line_of : Plan → ℕ → List ℕ
link_line_of p n = plan_line (LinkLine n (link p n))

abbrev pub done_line_of : Plan → ℕ → List ℕ
done_line_of p r = plan_line (DoneLine r (done_threshold p r))

-- the size of a plan, its cells and its links
abbrev pub drawn_text : Plan → List ℕ
drawn_text p =
    plan_line (Head p.ranks (length p.cells) (length p.links) p.remote)
    ++ (flat_map (cell_line_of p) (from_to 0 (length p.cells)) ++ flat_map (link_line_of p) (from_to 0 (length p.links)))

-- and then where each rank's counter of what is done stands when all is done, and the end
abbrev pub plan_text : Plan → List ℕ
plan_text p = drawn_text p ++ (flat_map (done_line_of p) (from_to 0 p.ranks) ++ plan_line EndLine)
