-- What each triggered operation of a plan is, in words.
use Rattle.std.specs.Prelude.{ℕ, Bool, ◌+◌, ◌≡◌, List, Option, Some, None, [], ◌∷◌, ◌++◌, codes, get_or, if◌then◌else◌, length, map}
use Rattle.std.specs.List.{flat_map}
use Rattle.std.specs.Fmt.{decimal}
use Rattle.ptl_types.specs.declared.elements.AtomicOp.{AtomicOp}
use Rattle.ptl_types.specs.declared.elements.ElemType.{ElemType}
use Rattle.ptl_types.specs.declared.steps.LocalStep.TheVariants.{Fire}
use Rattle.number_lists.specs.Numbers.{from_to}
use Rattle.coll_text.specs.Text.{line}
use Rattle.coll_lang.specs.Words.{op_word, type_word}
use Rattle.plan_core.specs.Plan.{Plan, cell, link, is_bump, own, out_links}
use Rattle.plan_core.specs.calls.RankOps.{RankOp, cell_of, rank_ops}
use Rattle.plan_core.specs.calls.RankOps.RankOp.{ForLink, ForDone}
use Rattle.plan_tables.specs.Tables.{all_ranks}
use Rattle.run_text.specs.Orders.{step_word}
use Rattle.plan_words.specs.declared.ops.OpTables.{OpTables}

-- ---- lines of a plan's text whose head is line k

abbrev pub cell_line : ℕ → ℕ → ℕ
cell_line k c = k + 1 + c

abbrev pub link_line : ℕ → Plan → ℕ → ℕ
link_line k p l = k + 1 + length p.cells + l

-- ---- what an operation does, and which link or cell it is

-- the link, and its line
abbrev pub link_words : ℕ → Plan → ℕ → List (List ℕ)
link_words k p l = decimal l ∷ codes "in line" ∷ decimal (link_line k p l) ∷ []

-- where an acknowledgement is asked for, it is counted in done
abbrev pub for_link : Bool → List ℕ
for_link remote = if remote then codes "with acknowledgement for link" else codes "for link"

abbrev pub put_words : ℕ → Plan → ℕ → List (List ℕ)
put_words k p l =
    codes "then puts" ∷ decimal (link p l).length ∷ codes "bytes from" ∷ decimal (link p l).source_offset
    ∷ codes "to cell" ∷ decimal (link p l).target ∷ codes "of rank" ∷ decimal (cell p (link p l).target).rank
    ∷ codes "at" ∷ decimal (link p l).target_offset ∷ for_link p.remote ∷ link_words k p l

abbrev pub atomic_words : ℕ → Plan → ℕ → AtomicOp → ElemType → List (List ℕ)
atomic_words k p l op ty =
    codes "then combines" ∷ decimal (link p l).length ∷ codes "bytes from" ∷ decimal (link p l).source_offset
    ∷ codes "by" ∷ op_word op ∷ type_word ty
    ∷ codes "with cell" ∷ decimal (link p l).target ∷ codes "of rank" ∷ decimal (cell p (link p l).target).rank
    ∷ codes "at" ∷ decimal (link p l).target_offset ∷ for_link p.remote ∷ link_words k p l

-- a put where the target combines by nothing, else an atomic
abbrev pub send_words : ℕ → Plan → ℕ → Option AtomicOp → List (List ℕ)
send_words k p l None = put_words k p l
send_words k p l (Some op) = atomic_words k p l op (cell p (link p l).target).ty

abbrev pub bump_words : ℕ → Plan → ℕ → List (List ℕ)
bump_words k p l = codes "then counts in cell" ∷ decimal (link p l).target ∷ codes "for link" ∷ link_words k p l

abbrev pub done_words : ℕ → ℕ → List (List ℕ)
done_words k c = codes "then counts in done for cell" ∷ decimal c ∷ codes "in line" ∷ decimal (cell_line k c) ∷ []

-- as it is installed (`act_of`): along a link a count or a message, or the telling of a cell
abbrev pub act_words : ℕ → Plan → RankOp → List (List ℕ)
act_words k p (ForLink l) =
    if is_bump (link p l).kind then bump_words k p l else send_words k p l (cell p (link p l).target).op
act_words k p (ForDone c) = done_words k c

-- ---- an operation: its number as orders name it, the counting event and the threshold that it waits for, and what it does then

abbrev pub waiting_line : Plan → ℕ → ℕ → List (List ℕ) → List ℕ
waiting_line p n c words =
    line (step_word (Fire n) ∷ codes "waits for cell" ∷ decimal c ∷ codes "at" ∷ decimal (cell p c).needs ∷ words)

abbrev pub op_line : ℕ → Plan → ℕ → RankOp → List ℕ
op_line k p n w = waiting_line p n (cell_of p w) (act_words k p w)

-- that of a count along a link
abbrev pub counted_line : ℕ → Plan → ℕ → ℕ → List ℕ
counted_line k p n l = waiting_line p n (link p l).source (bump_words k p l)

-- that of a message along a link, to a cell that combines by this operation, if any
abbrev pub sent_line : ℕ → Plan → ℕ → ℕ → Option AtomicOp → List ℕ
sent_line k p n l op = waiting_line p n (link p l).source (send_words k p l op)

-- those of a rank that fires these links and has these cells
abbrev pub ops_of : List ℕ → List ℕ → List RankOp
ops_of links cells = map ForLink links ++ map ForDone cells

-- past the last
abbrev pub no_op : RankOp
no_op = ForDone 0

abbrev pub ops_lines : ℕ → Plan → List RankOp → List ℕ
ops_lines k p ws = flat_map (λ n. op_line k p n (get_or ws n no_op)) (from_to 0 (length ws))

-- `rank R`, and then all that the rank installs, in order
abbrev pub rank_text : ℕ → Plan → ℕ → List ℕ
rank_text k p r = line (codes "rank" ∷ decimal r ∷ []) ++ ops_lines k p (rank_ops p r)

-- all ranks
abbrev pub explained : ℕ → Plan → List ℕ
explained k p = flat_map (rank_text k p) (from_to 0 p.ranks)

-- ---- the tables that it is written from: the links that each rank fires, and its cells
pub record IsOps (p : Plan) (t : OpTables) : Type 0 where
  pub out : t.out ≡ map (out_links p) (all_ranks p)
  pub own : t.own ≡ map (own p) (all_ranks p)
