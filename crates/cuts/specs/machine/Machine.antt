-- The machine of a plan: the same steps without messages, handles or match bits.
use Rattle.std.specs.Prelude.{ℕ, suc, Bool, true, false, ◌≡◌, ◌<◌, ◌≤◌, ◌-◌, List, [], ◌∷◌, ◌++◌, if◌then◌else◌, length, map}
use Rattle.ni_model.specs.Counts.{bump, failures, successes}
use Rattle.ptl_types.specs.Handles.{one_more}
use Rattle.plan_core.specs.Members.{Distinct, In}
use Rattle.plan_core.specs.Plan.{in_links, Plan, cell, is_bump, link}
use Rattle.plan_core.specs.Values.{Inputs, carried_of, initial}
use Rattle.cuts.specs.machine.Seen.{Came, Seen, content, nothing_seen, reached_count, was_fired}
use Rattle.plan_core.specs.calls.RankOps.{RankOp, cell_of, rank_ops}
use Rattle.plan_core.specs.calls.RankOps.RankOp.{ForLink, ForDone}

-- a start, the arrival of what a link carries, a firing, an acknowledgement, a message of another job
pub data Move : Type 0 where
  Began : Move
  Took : (l : ℕ) (bytes : List ℕ) → Move
  Did : (w : RankOp) → Move
  Heard : (ok : Bool) → Move
  Strayed : Move

-- what link l brought
abbrev pub came : ℕ → List ℕ → Came
came l bytes = record { link = l; bytes = bytes }

-- an operation that was fired raises the done counter where it tells, and awaits an answer where it sends and the plan is remote
abbrev pub note_work : Plan → Seen → RankOp → Seen
note_work p g (ForLink l) = record g {
  fired = ForLink l ∷ g.fired;
  awaits = if is_bump (link p l).kind then g.awaits else (if p.remote then one_more g.awaits else g.awaits);
}
note_work p g (ForDone c) = record g { fired = ForDone c ∷ g.fired; done = bump (successes 1) g.done }

-- what was seen after a move
abbrev pub note : Plan → Seen → Move → Seen
note p g Began = record g { started = true }
note p g (Took l bytes) = record g { came = g.came ++ came l bytes ∷ [] }
note p g (Did w) = note_work p g w
note p g (Heard ok) = record g {
  done = if p.remote then bump (if ok then successes 1 else failures 1) g.done else g.done;
  awaits = g.awaits - 1;
}
note p g Strayed = record g { strays = suc g.strays }

-- and after a list of moves
abbrev pub seen : Plan → Seen → List Move → Seen
seen p g [] = g
seen p g (e ∷ es) = seen p (note p g e) es

-- what is sent along l when it is fired
abbrev pub sending : Plan → Inputs → Seen → ℕ → Came
sending p inputs g l = came l (carried_of p (content p g.came (link p l).source (initial p inputs (link p l).source)) l)

-- what a move sends
abbrev pub out_of : Plan → Inputs → Seen → Move → List Came
out_of p inputs g (Did (ForLink l)) = if is_bump (link p l).kind then [] else sending p inputs g l ∷ []
out_of p inputs g _ = []

-- and a list of moves
abbrev pub outs : Plan → Inputs → Seen → List Move → List Came
outs p inputs g [] = []
outs p inputs g (e ∷ es) = out_of p inputs g e ++ outs p inputs (note p g e) es

-- the move may be made
abbrev pub MayMove : Plan → ℕ → Seen → Move → Type 0
MayMove p r g (Did w) =
    In w (rank_ops p r) × (was_fired g.fired w ≡ false) × ((cell p (cell_of p w)).needs ≤ reached_count p g r (cell_of p w))
MayMove p r g Began = g.started ≡ false
MayMove p r g _ = Unit {0}

-- each move may be made where it stands
abbrev pub Moves : Plan → ℕ → Seen → List Move → Type 0
Moves p r g [] = Unit {0}
Moves p r g (e ∷ es) = MayMove p r g e × Moves p r (note p g e) es

-- the number of the link
abbrev pub link_of : Came → ℕ
link_of a = a.link

-- what came to rank r is of links that come from elsewhere in the plan, each at most once
pub record Proper (p : Plan) (r : ℕ) (g : Seen) : Type 0 where
  pub links : (a : Came) → In a g.came →
      (a.link < length p.links) × ((is_bump (link p a.link).kind) ≡ false) × ((cell p (link p a.link).target).rank ≡ r)
  pub once : Distinct (map link_of g.came)

-- what rank r has seen at the end of its moves
abbrev pub all_seen : Plan → (ℕ → List Move) → ℕ → Seen
all_seen p ms r = seen p nothing_seen (ms r)

-- the rank that fires link l
abbrev pub source_rank : Plan → ℕ → ℕ
source_rank p l = (cell p (link p l).source).rank

-- a consistent cut: each rank makes moves that it may make, and what came was sent
pub record IsMachineCut (p : Plan) (inputs : Inputs) (ms : ℕ → List Move) : Type 0 where
  pub moves : (r : ℕ) → r < p.ranks → Moves p r nothing_seen (ms r)
  pub proper : (r : ℕ) → r < p.ranks → Proper p r (all_seen p ms r)
  pub made : (r : ℕ) (a : Came) → r < p.ranks → In a (all_seen p ms r).came → In a (outs p inputs nothing_seen (ms (source_rank p a.link)))

-- each rank has started, what was sent came, and what has reached its needs was fired
pub record IsMachineRest (p : Plan) (inputs : Inputs) (ms : ℕ → List Move) : Type 0 where
  pub started : (r : ℕ) → r < p.ranks → (all_seen p ms r).started ≡ true
  pub taken : (r : ℕ) (a : Came) → r < p.ranks → In a (outs p inputs nothing_seen (ms r)) →
      In a (all_seen p ms (cell p (link p a.link).target).rank).came
  pub idle : (r : ℕ) (w : RankOp) → r < p.ranks → In w (rank_ops p r) →
      (cell p (cell_of p w)).needs ≤ reached_count p (all_seen p ms r) r (cell_of p w) → was_fired (all_seen p ms r).fired w ≡ true

-- a chain of links leads from cell b to cell c
pub data Leads (p : Plan) (b : ℕ) : ℕ → Type 0 where
  here : Leads p b b
  along : (c l : ℕ) → In l (in_links p c) → Leads p b (link p l).source → Leads p b c

-- the counter of cell c has reached its needs
abbrev pub HasReached : Plan → (ℕ → List Move) → ℕ → Type 0
HasReached p ms c = (cell p c).needs ≤ reached_count p (all_seen p ms (cell p c).rank) (cell p c).rank c
