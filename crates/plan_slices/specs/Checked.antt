-- Cells and links up to a number that can be cut.
use Rattle.std.specs.Prelude.{ℕ, ◌<◌, ◌%◌, ◌≡◌, ◌⊎◌, List, Some}
use Rattle.ptl_types.specs.declared.elements.AtomicOp.{AtomicOp}
use Rattle.ptl_types.specs.Operations.{bytes_of}
use Rattle.plan_core.specs.declared.Cell.{Cell}
use Rattle.plan_core.specs.declared.Link.{Link}
use Rattle.plan_core.specs.declared.LinkKind.TheVariants.{Bump}
use Rattle.plan_core.specs.Plan.{Plan, cell, link}
use Rattle.plan_slices.specs.declared.cut.Cut.{Cut}
use Rattle.plan_slices.specs.Slices.{IsCutCell, IsCutLink, cut_at}

-- where bytes are combined a piece has whole elements, or is all of its block
abbrev pub HasPieces : Cut → Cell → Type 0
HasPieces k x = (o : AtomicOp) → x.op ≡ Some o → (k.count ≡ 1) ⊎ (k.width % bytes_of x.ty ≡ 0)

-- a link goes from blocks to blocks, if it isn't a count alone
abbrev pub IsCutIfMoved : Cut → Cut → Link → Type 0
IsCutIfMoved s t x = (x.kind ≡ Bump → ⊥) → IsCutLink s t x

-- the first n cells
abbrev pub AreCutCells : Plan → List Cut → ℕ → Type 0
AreCutCells p cuts n = (c : ℕ) → c < n → IsCutCell (cut_at cuts c) (cell p c)

-- the first n links
abbrev pub AreCutLinks : Plan → List Cut → ℕ → Type 0
AreCutLinks p cuts n = (l : ℕ) → l < n → IsCutIfMoved (cut_at cuts (link p l).source) (cut_at cuts (link p l).target) (link p l)
