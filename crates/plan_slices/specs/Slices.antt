-- Plans whose bytes are treated alike block by block. A cell's bytes stand in blocks of one length, and a block in pieces of one length.
-- Where all that a plan carries goes by whole blocks, the pieces of one number in all blocks of all cells are changed by themselves, as a
-- plan of shorter cells changes its bytes: a slice.
use Rattle.std.specs.Prelude.{ℕ, zero, suc, ◌+◌, ◌*◌, ◌/◌, ◌%◌, ◌<◌, ◌≡◌, ◌⊎◌, List, Some, [], ◌++◌, length, map, get_or, drop}
use Rattle.ptl_types.specs.declared.elements.AtomicOp.{AtomicOp}
use Rattle.ptl_types.specs.Elements.{part}
use Rattle.ptl_types.specs.Operations.{bytes_of}
use Rattle.plan_core.specs.declared.Cell.{Cell}
use Rattle.plan_core.specs.declared.Link.{Link}
use Rattle.plan_core.specs.declared.LinkKind.TheVariants.{Bump}
use Rattle.plan_core.specs.Plan.{Plan, all_cells, all_links, cell, link}
use Rattle.plan_core.specs.Values.{Inputs, input_bytes}
use Rattle.plan_slices.specs.declared.cut.Cut.{Cut}

-- the bytes of a block
abbrev pub block : Cut → ℕ
block k = k.count * k.width

-- piece j of each of the first n blocks
abbrev pub slice : Cut → ℕ → ℕ → List ℕ → List ℕ
slice k j zero xs = []
slice k j (suc n) xs = part (j * k.width) k.width xs ++ slice k j n (drop (block k) xs)

-- of all of them
abbrev pub slice_of : Cut → ℕ → List ℕ → List ℕ
slice_of k j xs = slice k j (length xs / block k) xs

-- past the last
abbrev pub no_cut : Cut
no_cut = record { width = 1; count = 1 }

-- how the bytes of cell c are cut
abbrev pub cut_at : List Cut → ℕ → Cut
cut_at cuts c = get_or cuts c no_cut

-- ---- the plan of a slice
abbrev pub sliced_cell : Cut → Cell → Cell
sliced_cell k x = record { rank = x.rank; ty = x.ty; op = x.op; length = x.length / k.count; needs = x.needs }

abbrev pub sliced_link : Cut → Link → Link
sliced_link k x = record {
  source = x.source;
  source_offset = x.source_offset / k.count;
  length = x.length / k.count;
  target = x.target;
  target_offset = x.target_offset / k.count;
  kind = x.kind;
}

abbrev pub sliced : Plan → List Cut → Plan
sliced p cuts = record {
  ranks = p.ranks;
  remote = p.remote;
  cells = map (λ c. sliced_cell (cut_at cuts c) (cell p c)) (all_cells p);
  links = map (λ l. sliced_link (cut_at cuts (link p l).target) (link p l)) (all_links p);
}

-- ---- where the slices are changed by themselves

-- a cell has whole blocks, and where its bytes are combined its pieces are whole elements, or its blocks have one piece
pub record IsCutCell (k : Cut) (x : Cell) : Type 0 where
  pub width : 0 < k.width
  pub count : 0 < k.count
  pub long : x.length % block k ≡ 0
  pub elements : (o : AtomicOp) → x.op ≡ Some o → (k.count ≡ 1) ⊎ (k.width % bytes_of x.ty ≡ 0)

-- both ends of a link that carries bytes are cut alike, and it carries whole blocks to whole blocks
pub record IsCutLink (s t : Cut) (x : Link) : Type 0 where
  pub alike : s ≡ t
  pub source_offset : x.source_offset % block t ≡ 0
  pub target_offset : x.target_offset % block t ≡ 0
  pub long : x.length % block t ≡ 0

pub record AreCuts (p : Plan) (cuts : List Cut) : Type 0 where
  pub cells : (c : ℕ) → c < length p.cells → IsCutCell (cut_at cuts c) (cell p c)
  pub links : (l : ℕ) → l < length p.links → ((link p l).kind ≡ Bump → ⊥)
      → IsCutLink (cut_at cuts (link p l).source) (cut_at cuts (link p l).target) (link p l)

-- ---- what a slice holds

-- the slice that stands for slice j where a cell has fewer
abbrev pub slice_at : List Cut → ℕ → ℕ → List ℕ → List ℕ
slice_at cuts j c xs = slice_of (cut_at cuts c) (j % (cut_at cuts c).count) xs

-- the lists of `inner` are slice j of those of `inputs`
pub record AreSlices (p : Plan) (cuts : List Cut) (j : ℕ) (inputs inner : Inputs) : Type 0 where
  pub many : length inner ≡ length inputs
  pub each : (i : ℕ) → i < length inputs * p.ranks → input_bytes p inner i ≡ slice_at cuts j (p.ranks + i) (input_bytes p inputs i)
