-- The lines of what a plan takes in time, in picoseconds.
use Rattle.std.specs.Prelude.{ℕ, List, [], ◌∷◌, ◌++◌, codes, get_or, length}
use Rattle.std.specs.List.{flat_map}
use Rattle.std.specs.Fmt.{decimal}
use Rattle.number_lists.specs.Numbers.{from_to}
use Rattle.coll_text.specs.Text.{line}
use Rattle.plan_core.specs.Plan.{Plan, link}
use Rattle.plan_tables.specs.Tables.{rank_of}
use Rattle.plan_costs.specs.declared.numbers.LogGp.{LogGp}
use Rattle.plan_costs.specs.declared.spent.Spent.{Spent}
use Rattle.plan_costs.specs.declared.traffic.Traffic.{Traffic}
use Rattle.plan_costs.specs.Path.{IsCosted, IsCritical, PathOf, spent_by, traffic}
use Rattle.plan_costs.specs.Ranks.{AreRankTimes}
use Rattle.plan_costs.specs.Times.{TimesOf}

-- ---- what a plan takes by these numbers

-- when each cell and link comes about, when each rank is done, and the critical path
pub record CostOf : Type 0 where
  pub times : TimesOf
  pub ranks : List ℕ
  pub path : PathOf

abbrev pub costs_of : TimesOf → List ℕ → PathOf → CostOf
costs_of t ranks path = record { times = t; ranks = ranks; path = path }

pub record IsCostOf (n : LogGp) (p : Plan) (c : CostOf) : Type 0 where
  pub costed : IsCosted n p c.times
  pub ranks : AreRankTimes p c.times (length p.cells) c.ranks
  pub path : IsCritical n p c.times c.path

-- ---- lines

abbrev pub time_of : TimesOf → ℕ → ℕ
time_of t c = get_or t.cells c 0

-- `cell C TIME`
abbrev pub cell_time_line : TimesOf → ℕ → List ℕ
cell_time_line t c = line (codes "cell" ∷ decimal c ∷ decimal (time_of t c) ∷ [])

-- `rank R TIME`
abbrev pub rank_time_line : List ℕ → ℕ → List ℕ
rank_time_line ranks r = line (codes "rank" ∷ decimal r ∷ decimal (get_or ranks r 0) ∷ [])

-- a cell of the path
abbrev pub step_words : Plan → TimesOf → ℕ → List (List ℕ) → List (List ℕ)
step_words p t c words =
    codes "path" ∷ decimal c ∷ codes "rank" ∷ decimal (rank_of p c) ∷ codes "time" ∷ decimal (time_of t c) ∷ words

-- what the time was spent on
abbrev pub spent_words : Spent → List (List ℕ)
spent_words s =
    codes "queued" ∷ decimal s.queued ∷ codes "overhead" ∷ decimal s.overhead ∷ codes "wire" ∷ decimal s.wire
    ∷ codes "latency" ∷ decimal s.latency ∷ codes "held" ∷ decimal s.held ∷ codes "work" ∷ decimal s.work ∷ []

-- `path C rank R time TIME`, the cell at which the path begins
abbrev pub begin_line : Plan → TimesOf → ℕ → List ℕ
begin_line p t c = line (step_words p t c [])

-- `path C rank R time TIME link L bytes B ..`, the cell to which link L leads
abbrev pub hop_line : LogGp → Plan → TimesOf → ℕ → List ℕ
hop_line n p t l =
    line (step_words p t (link p l).target
    (codes "link" ∷ decimal l ∷ codes "bytes" ∷ decimal (link p l).length ∷ spent_words (spent_by n p t l)))

-- where links that lead to cell c begin
abbrev pub begin_of : Plan → ℕ → List ℕ → ℕ
begin_of p c [] = c
begin_of p c (l ∷ ls) = (link p l).source

-- `total TIME messages M bytes B ..`
abbrev pub total_line : ℕ → Traffic → Spent → List ℕ
total_line time sent spent =
    line (codes "total" ∷ decimal time ∷ codes "messages" ∷ decimal sent.messages ∷ codes "bytes" ∷ decimal sent.bytes
    ∷ spent_words spent)

-- ---- all of them

abbrev pub cell_time_lines : Plan → TimesOf → List ℕ
cell_time_lines p t = flat_map (cell_time_line t) (from_to 0 (length p.cells))

abbrev pub rank_time_lines : List ℕ → List ℕ
rank_time_lines ranks = flat_map (rank_time_line ranks) (from_to 0 (length ranks))

abbrev pub path_lines : LogGp → Plan → TimesOf → PathOf → List ℕ
path_lines n p t path = begin_line p t (begin_of p path.end path.links) ++ flat_map (hop_line n p t) path.links

abbrev pub sum_line : Plan → CostOf → List ℕ
sum_line p c = total_line (time_of c.times c.path.end) (traffic p) c.path.spent

abbrev pub cost_text : LogGp → Plan → CostOf → List ℕ
cost_text n p c =
    cell_time_lines p c.times ++ (rank_time_lines c.ranks ++ (path_lines n p c.times c.path ++ sum_line p c))
