-- The lines of what a plan takes of its ranks' interfaces.
use Rattle.std.specs.Prelude.{ℕ, List, [], ◌∷◌, ◌++◌, codes, get_or, length, max}
use Rattle.std.specs.List.{flat_map}
use Rattle.std.specs.Fmt.{decimal}
use Rattle.number_lists.specs.Numbers.{from_to}
use Rattle.coll_text.specs.Text.{line}
use Rattle.plan_words.specs.declared.takes.Takes.{Takes}

abbrev pub nothing : Takes
nothing = record {
  triggered = 0;
  counting = 0;
  entries = 0;
  headers = 0;
  early = 0;
  descriptors = 0;
  region = 0;
  longest = 0;
  sent = 0;
  received = 0;
  own = 0;
}

-- of each thing the greater number
abbrev pub larger : Takes → Takes → Takes
larger a b = record {
  triggered = max a.triggered b.triggered;
  counting = max a.counting b.counting;
  entries = max a.entries b.entries;
  headers = max a.headers b.headers;
  early = max a.early b.early;
  descriptors = max a.descriptors b.descriptors;
  region = max a.region b.region;
  longest = max a.longest b.longest;
  sent = max a.sent b.sent;
  received = max a.received b.received;
  own = max a.own b.own;
}

-- of each thing the greatest number of these and of what they are compared with
unfoldable pub most_of : Takes → List Takes → Takes
most_of most [] = most
most_of most (t ∷ ts) = most_of (larger most t) ts

-- a word and its number, and then each thing with its number
abbrev pub takes_line : List ℕ → ℕ → Takes → List ℕ
takes_line key n t =
    line (key ∷ decimal n ∷ codes "triggered" ∷ decimal t.triggered ∷ codes "counting" ∷ decimal t.counting
    ∷ codes "entries" ∷ decimal t.entries ∷ codes "headers" ∷ decimal t.headers ∷ codes "early" ∷ decimal t.early
    ∷ codes "descriptors" ∷ decimal t.descriptors ∷ codes "region" ∷ decimal t.region ∷ codes "longest" ∷ decimal t.longest
    ∷ codes "sent" ∷ decimal t.sent ∷ codes "received" ∷ decimal t.received ∷ codes "own" ∷ decimal t.own ∷ [])

-- `rank R ..` of each rank
abbrev pub ranks_lines : List Takes → List ℕ
ranks_lines ts = flat_map (λ r. takes_line (codes "rank") r (get_or ts r nothing)) (from_to 0 (length ts))

-- `most N ..` over N ranks
abbrev pub most_line : List Takes → List ℕ
most_line ts = takes_line (codes "most") (length ts) (most_of nothing ts)

abbrev pub limits_text : List Takes → List ℕ
limits_text ts = ranks_lines ts ++ most_line ts
