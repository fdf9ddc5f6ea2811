-- Which linked entries may take a message, as far as their match bits tell.
use Rattle.std.specs.Prelude.{ℕ, ◌+◌, ◌-◌, ◌*◌, ◌/◌, ◌%◌, ◌^◌, bit_and, Bool, ◌||◌, nat_eq, nat_lt, List, filter, count_by, if◌then◌else◌}
use Rattle.ni_model.specs.declared.Linked.{Linked}
use Rattle.chain_list.specs.Chain.{Keyed}

-- how many buckets there are for entries whose ignored bits lie alike, in a list with room for so many entries
abbrev pub buckets_of : ℕ → ℕ
buckets_of limit = limit / 4 + 1

-- the bucket of bits: 32 bits of their product with an odd number, spread over so many buckets
unfoldable pub bucket_of : ℕ → ℕ → ℕ
bucket_of buckets bits = (bits * 0x9E3779B97F4A7C15) % 2 ^ 64 / 2 ^ 32 * buckets / 2 ^ 32

-- the bits above the lowest 16, and above the lowest 40
abbrev pub upper_48 : ℕ
upper_48 = 2 ^ 64 - 2 ^ 16

abbrev pub upper_24 : ℕ
upper_24 = 2 ^ 64 - 2 ^ 40

-- the threads of match bits: by all bits, by those above the lowest 16, by those above the lowest 40; and one for all others
abbrev pub whole_thread : ℕ → ℕ → ℕ
whole_thread limit bits = bucket_of (buckets_of limit) bits

abbrev pub upper_48_thread : ℕ → ℕ → ℕ
upper_48_thread limit bits = buckets_of limit + bucket_of (buckets_of limit) (bit_and bits upper_48)

abbrev pub upper_24_thread : ℕ → ℕ → ℕ
upper_24_thread limit bits = 2 * buckets_of limit + bucket_of (buckets_of limit) (bit_and bits upper_24)

abbrev pub last_thread : ℕ → ℕ
last_thread limit = 3 * buckets_of limit

-- the thread of an entry, by how low the bits lie that it ignores
abbrev pub thread_of : ℕ → Linked → ℕ
thread_of limit x =
    if nat_eq x.entry.ignore_bits 0 then whole_thread limit x.entry.match_bits
    else (if nat_lt x.entry.ignore_bits (2 ^ 16) then upper_48_thread limit x.entry.match_bits
    else (if nat_lt x.entry.ignore_bits (2 ^ 40) then upper_24_thread limit x.entry.match_bits else last_thread limit))

-- it is one of four
abbrev pub is_one : ℕ → ℕ → ℕ → ℕ → ℕ → Bool
is_one t a b c d = (nat_eq t a || nat_eq t b) || (nat_eq t c || nat_eq t d)

-- an entry is on one of the threads of these match bits
abbrev pub may_take : ℕ → ℕ → Linked → Bool
may_take limit bits x =
    is_one (thread_of limit x) (whole_thread limit bits) (upper_48_thread limit bits) (upper_24_thread limit bits) (last_thread limit)

-- how many of the entries may take a message of these match bits
abbrev pub candidates_in : ℕ → ℕ → List Linked → ℕ
candidates_in limit bits xs = count_by (may_take limit bits) xs

-- the entries of a thread
abbrev pub on_thread : ℕ → ℕ → List (Keyed Linked) → List (Keyed Linked)
on_thread limit k xs = filter (λ x. nat_eq (thread_of limit x.value) k) xs
