-- Plans whose text can be read.
use Rattle.std.specs.Prelude.{ℕ, ◌<◌, ◌≤◌, ◌^◌, length}
use Rattle.plan_core.specs.declared.Cell.{Cell}
use Rattle.plan_core.specs.declared.Link.{Link}
use Rattle.plan_core.specs.Plan.{Plan, cell, link}

-- the numbers of a cell have as many bits as its fields
pub record IsCellOfWords (c : Cell) : Type 0 where
  pub rank : c.rank < 2 ^ 32
  pub bytes : c.length < 2 ^ 64
  pub needs : c.needs < 2 ^ 64

-- those of a link
pub record IsLinkOfWords (l : Link) : Type 0 where
  pub source : l.source < 2 ^ 32
  pub source_offset : l.source_offset < 2 ^ 64
  pub bytes : l.length < 2 ^ 64
  pub target : l.target < 2 ^ 32
  pub target_offset : l.target_offset < 2 ^ 64

-- and there are as many cells and links as are read, so many cells at least
pub record CanBeWritten (least : ℕ) (p : Plan) : Type 0 where
  pub ranks : p.ranks < 2 ^ 32
  pub enough : least ≤ length p.cells
  pub cells : length p.cells < 2 ^ 24
  pub links : length p.links ≤ 500000
  pub each_cell : (c : ℕ) → c < length p.cells → IsCellOfWords (cell p c)
  pub each_link : (l : ℕ) → l < length p.links → IsLinkOfWords (link p l)
