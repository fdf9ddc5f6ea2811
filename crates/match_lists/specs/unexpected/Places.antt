-- A header by its number within its portal table index.
use Rattle.std.specs.Prelude.{ℕ, List, Option, option_map, slice_get}
use Rattle.ptl_types.specs.declared.entries.UnexpectedHeader.{UnexpectedHeader}
use Rattle.ni_model.specs.declared.IndexedHeader.{IndexedHeader}
use Rattle.ni_model.specs.Headers.{headers_of}

-- number i of the index, counted from the oldest
abbrev pub header_at : ℕ → ℕ → List IndexedHeader → Option UnexpectedHeader
header_at pt i hs = option_map (λ (a : IndexedHeader). a.header) (slice_get (headers_of pt hs) i)
