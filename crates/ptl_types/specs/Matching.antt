-- When an entry matches a message (Portals 4.3, matching).
use Rattle.std.specs.Prelude.{ℕ, Bool, true, ◌==◌, ◌&&◌, ◌-◌, ◌^◌, bit_and, bit_xor, Option, Some, None}
use Rattle.ptl_types.specs.declared.entries.Entry.{Entry}
use Rattle.ptl_types.specs.declared.headers.Header.{Header}

-- equal but for the ignored bits
abbrev pub bits_match : ℕ → ℕ → ℕ → Bool
bits_match ignore a b = bit_and (bit_xor a b) (2 ^ 64 - 1 - ignore) == 0

-- the one source named, or any
abbrev pub takes_source : Option ℕ → ℕ → Bool
takes_source None source = true
takes_source (Some rank) source = rank == source

abbrev pub is_match : Entry → Header → Bool
is_match entry header = bits_match entry.ignore_bits header.match_bits entry.match_bits && takes_source entry.match_id header.source
