-- What holds of a match list and the threads by which a message finds its entries.
use Rattle.std.specs.Prelude.{◌≡◌, ℕ, ◌+◌, ◌<◌, Bool, nat_lt, List, [], ◌∷◌, map, find, length, All, Option, Some, None, if◌then◌else◌}
use Rattle.ptl_types.specs.declared.headers.Header.{Header}
use Rattle.chain_list.specs.declared.chain.ChainKey.{ChainKey}
use Rattle.chain_list.specs.Chain.{Keyed, ChainList}
use Rattle.chain_list.specs.threads.Threads.{Woven, thread}
use Rattle.ni_model.specs.declared.Linked.{Linked}
use Rattle.ni_model.specs.Lists.{fits}
use Rattle.match_lists.specs.declared.look.Look.{Look}
use Rattle.match_lists.specs.Looks.{IsSeen}
use Rattle.match_lists.specs.Buckets.{on_thread, whole_thread, upper_48_thread, upper_24_thread, last_thread}

-- where the entries lie
abbrev pub places_of : List (Keyed Linked) → List ℕ
places_of xs = map (λ x. x.key.place) xs

-- the entry takes the message
abbrev pub takes : Header → Keyed Linked → Bool
takes h x = fits h x.value

-- all stamps are above
abbrev pub Later : ℕ → List (Keyed Linked) → Type 0
Later stamp [] = Unit {0}
Later stamp (x ∷ xs) = (stamp < x.key.stamp) × Later stamp xs

-- the stamps rise, and lie below a number
abbrev pub Rising : List (Keyed Linked) → ℕ → Type 0
Rising [] given = Unit {0}
Rising (x ∷ xs) given = (x.key.stamp < given) × Later x.key.stamp xs × Rising xs given

-- how many entries there is room for
abbrev pub room : ChainList Linked → ℕ
room c = c.spare + length c.entries

-- each thread lists where its entries lie
pub record IsIndexed (chain : ChainList Linked) (threads : Woven) (limit : ℕ) : Type 0 where
  pub full : room chain ≡ limit
  pub long : length threads.threads ≡ last_thread limit + 1
  pub places : threads.places ≡ limit
  pub threaded : (k : ℕ) → k < last_thread limit + 1 → thread k threads ≡ places_of (on_thread limit k chain.entries)
  pub rising : Rising chain.entries chain.given

-- and there is a look for each place, by which an entry is seen without the rest of its node
pub record IsMatchList (chain : ChainList Linked) (threads : Woven) (looks : List Look) (limit : ℕ) : Type 0 where
  pub indexed : IsIndexed chain threads limit
  pub room_of_looks : length looks ≡ limit
  pub seen : All (IsSeen looks) chain.entries

-- the key of an entry
abbrev pub key_of : Option (Keyed Linked) → Option ChainKey
key_of None = None
key_of (Some x) = Some x.key

-- the key that was given first
abbrev pub earlier_of : Option ChainKey → Option ChainKey → Option ChainKey
earlier_of None b = b
earlier_of (Some a) None = Some a
earlier_of (Some a) (Some b) = if nat_lt a.stamp b.stamp then Some a else Some b

-- the key of the first entry of a thread that takes the message
abbrev pub first_on : Header → ℕ → List (Keyed Linked) → ℕ → Option ChainKey
first_on h limit xs k = key_of (find (takes h) (on_thread limit k xs))

-- of the firsts of a message's threads, the key that was given first
abbrev pub first_of_threads : Header → ℕ → List (Keyed Linked) → Option ChainKey
first_of_threads h limit xs =
    earlier_of
    (earlier_of (first_on h limit xs (whole_thread limit h.match_bits)) (first_on h limit xs (upper_48_thread limit h.match_bits)))
    (earlier_of (first_on h limit xs (upper_24_thread limit h.match_bits)) (first_on h limit xs (last_thread limit)))

-- how many entries stand on the threads of match bits
abbrev pub on_threads : ℕ → ℕ → List (Keyed Linked) → ℕ
on_threads limit bits xs =
    length (on_thread limit (whole_thread limit bits) xs) + length (on_thread limit (upper_48_thread limit bits) xs)
    + (length (on_thread limit (upper_24_thread limit bits) xs) + length (on_thread limit (last_thread limit) xs))
