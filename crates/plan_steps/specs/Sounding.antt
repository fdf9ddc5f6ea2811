-- What a drawn cell must be, and what it holds.
use Rattle.std.specs.Prelude.{ℕ, suc, ◌+◌, ◌%◌, ◌<◌, ◌≤◌, ◌≡◌, ◌⊎◌, List, Some, None, [], ◌∷◌, ◌++◌, if◌then◌else◌, length, map}
use Rattle.std.specs.Prelude.{sum_by}
use Rattle.ptl_types.specs.declared.elements.AtomicOp.{AtomicOp}
use Rattle.ptl_types.specs.Operations.{bytes_of}
use Rattle.ptl_types.specs.Elements.{part}
use Rattle.plan_core.specs.declared.Cell.{Cell}
use Rattle.plan_core.specs.declared.Incoming.{Incoming}
use Rattle.plan_core.specs.declared.LinkKind.TheVariants.{Put, Atomic, Bump}
use Rattle.plan_core.specs.Members.{In}
use Rattle.plan_core.specs.Plan.{Plan, cell, link, is_bump, in_links}
use Rattle.plan_core.specs.Values.{land_as, blank}
use Rattle.plan_core.specs.Sound.{SoundLink, AreApart, put_bytes}
use Rattle.plan_core.specs.Draw.{NewCell, cell_of, link_to}
use Rattle.plan_steps.specs.StepContext.{StepContext, count, rank_at, exit_at, source_at}

-- one more cell with its links; more of them
abbrev pub with_cell : Plan → NewCell → Plan
with_cell p n = record p { cells = p.cells ++ cell_of n ∷ []; links = p.links ++ map (link_to (length p.cells)) n.into }

abbrev pub with_cells : Plan → List NewCell → Plan
with_cells p [] = p
with_cells p (n ∷ ns) = with_cells (with_cell p n) ns

-- what the cell holds when all its links have landed, v being the values of the earlier cells
abbrev pub land_incoming : NewCell → (ℕ → List ℕ) → Incoming → List ℕ → List ℕ
land_incoming n v i z = land_as i.kind (cell_of n) i.target_offset (part i.source_offset i.length (v i.source)) z

abbrev pub land_each : NewCell → (ℕ → List ℕ) → List Incoming → List ℕ → List ℕ
land_each n v [] z = z
land_each n v (i ∷ is) z = land_each n v is (land_incoming n v i z)

abbrev pub new_value : NewCell → (ℕ → List ℕ) → List ℕ
new_value n v = land_each n v n.into (blank (cell_of n))

-- P holds of the nodes of the list, the first of which has the pattern c
abbrev pub EachAt : (ℕ → NewCell → Type 0) → ℕ → List NewCell → Type 0
EachAt P c [] = Unit {0}
EachAt P c (n ∷ ns) = P c n × EachAt P (suc c) ns

-- ---- what a node must be where it is drawn as cell c, k being the cells of the plan
pub record SoundIncoming (k : ℕ → Cell) (c : ℕ) (n : NewCell) (i : Incoming) : Type 0 where
  pub rising : i.source < c
  pub within_source : i.source_offset + i.length ≤ (k i.source).length
  pub within_target : i.target_offset + i.length ≤ n.length
  pub bump_stays : i.kind ≡ Bump → (k i.source).rank ≡ n.rank
  pub bump_empty : i.kind ≡ Bump → i.length ≡ 0
  pub atomic_here : (o : AtomicOp) → n.op ≡ Some o → i.kind ≡ Atomic
  pub atomic_whole : i.kind ≡ Atomic
      → (i.target_offset ≡ 0) × (i.length ≡ n.length) × ((k i.source).ty ≡ n.ty) × ((k i.source).length ≡ n.length)
  pub no_atomic : n.op ≡ None → i.kind ≡ Atomic → ⊥

-- two Puts written disjoint parts
abbrev pub ArePartsApart : Incoming → Incoming → Type 0
ArePartsApart i j =
    i.kind ≡ Put → j.kind ≡ Put → (i.target_offset + i.length ≤ j.target_offset) ⊎ (j.target_offset + j.length ≤ i.target_offset)

abbrev pub FromAll : Incoming → List Incoming → Type 0
FromAll i [] = Unit {0}
FromAll i (j ∷ js) = ArePartsApart i j × FromAll i js

abbrev pub AllApart : List Incoming → Type 0
AllApart [] = Unit {0}
AllApart (i ∷ is) = FromAll i is × AllApart is

abbrev pub put_length : Incoming → ℕ
put_length i = if is_bump i.kind then 0 else i.length

-- all but that its Puts cover it, which is not asked of an input cell
pub record NodeFits (ranks : ℕ) (k : ℕ → Cell) (c : ℕ) (n : NewCell) : Type 0 where
  pub rank_known : n.rank < ranks
  pub whole : n.length % bytes_of n.ty ≡ 0
  pub some_link : 1 ≤ length n.into
  pub each_into : (i : Incoming) → In i n.into → SoundIncoming k c n i
  pub apart : AllApart n.into

pub record SoundNewCell (ranks : ℕ) (k : ℕ → Cell) (c : ℕ) (n : NewCell) : Type 0 where
  pub rank_known : n.rank < ranks
  pub whole : n.length % bytes_of n.ty ≡ 0
  pub some_link : 1 ≤ length n.into
  pub each_into : (i : Incoming) → In i n.into → SoundIncoming k c n i
  pub apart : AllApart n.into
  pub covered : n.op ≡ None → sum_by put_length n.into ≡ n.length

-- a sound plan but for its size; `inputs` is the number of input cells; each cell after the go cells has a link
pub record WellBuilt (p : Plan) (inputs : ℕ) : Type 0 where
  pub some_rank : 1 ≤ p.ranks
  pub few_ranks : p.ranks ≤ 256
  pub links_sound : (l : ℕ) → l < length p.links → SoundLink p l
  pub needs : (c : ℕ) → c < length p.cells → p.ranks ≤ c → (cell p c).needs ≡ length (in_links p c)
  pub go_needs : (r : ℕ) → r < p.ranks → ((cell p r).needs ≡ 1) × (in_links p r ≡ []) × ((cell p r).rank ≡ r) × ((cell p r).length ≡ 0)
  pub apart : (l m : ℕ) → l < length p.links → m < length p.links → (l ≡ m → ⊥) → (link p l).target ≡ (link p m).target
      → (link p l).kind ≡ Put → (link p m).kind ≡ Put → AreApart p l m
  pub covered : (c : ℕ) → c < length p.cells → p.ranks + inputs ≤ c → (cell p c).op ≡ None → put_bytes p c ≡ (cell p c).length
  pub input_cells : (i : ℕ) → i < inputs
      → (p.ranks + i < length p.cells) × ((cell p (p.ranks + i)).op ≡ None) × ((cell p (p.ranks + i)).rank ≡ i % p.ranks)
  pub input_links : (l : ℕ) → l < length p.links → (link p l).target < p.ranks + inputs → (link p l).kind ≡ Bump
  pub ranks_known : (c : ℕ) → c < length p.cells → (cell p c).rank < p.ranks
  pub whole : (c : ℕ) → c < length p.cells → (cell p c).length % bytes_of (cell p c).ty ≡ 0
  pub all_go : p.ranks ≤ length p.cells
  pub many_links : length p.cells ≤ p.ranks + length p.links

-- the members and exits that a step begins with
pub record Ground (ranks : ℕ) (k : ℕ → Cell) (s : StepContext) : Type 0 where
  pub some : 0 < count s
  pub at_most : count s ≤ 256
  pub members : (i : ℕ) → i < count s → rank_at s i < ranks
  pub exit_low : (i : ℕ) → i < count s → exit_at s i < s.first
  pub exit_rank : (i : ℕ) → i < count s → (k (exit_at s i)).rank ≡ rank_at s i

-- the cell that holds A at place i
pub record HasA (k : ℕ → Cell) (s : StepContext) (i : ℕ) : Type 0 where
  pub low : source_at s i < s.first
  pub long : (k (source_at s i)).length ≡ s.length

-- what is known of a cell that was drawn
pub record IsCell (k : ℕ → Cell) (c : ℕ) (n : NewCell) : Type 0 where
  pub is_cell : k c ≡ cell_of n

pub record Known (k : ℕ → Cell) (v : ℕ → List ℕ) (c : ℕ) (n : NewCell) : Type 0 where
  pub is_cell : k c ≡ cell_of n
  pub is_value : v c ≡ new_value n v
  pub is_long : length (v c) ≡ n.length
