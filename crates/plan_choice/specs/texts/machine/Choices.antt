-- The steps of a choice text, whose results depend on the order of arrival, and what is right of their results in every order.
use Rattle.std.specs.Prelude.{ℕ, ◌≡◌, ◌<◌, List, get_or}
use Rattle.coll_lang.specs.declared.choices.ChoiceKind.{ChoiceKind}
use Rattle.coll_lang.specs.declared.choices.ChoiceKind.TheVariants.{Elect, Tickets}

-- the step of this number
abbrev pub choice_at : List ChoiceKind → ℕ → ChoiceKind
choice_at ks s = get_or ks s Elect

-- one rank is named at every rank
pub record IsElected (ranks : ℕ) (value : ℕ → ℕ) : Type 0 where
  pub winner : ℕ
  pub is_rank : winner < ranks
  pub agreed : (r : ℕ) → r < ranks → value r ≡ winner

-- a rank that has this value
pub record HasValue (ranks : ℕ) (value : ℕ → ℕ) (v : ℕ) : Type 0 where
  pub rank : ℕ
  pub in_range : rank < ranks
  pub has : value rank ≡ v

-- the values are the numbers below that of the ranks, each once
pub record AreTickets (ranks : ℕ) (value : ℕ → ℕ) : Type 0 where
  pub below : (r : ℕ) → r < ranks → value r < ranks
  pub apart : (q r : ℕ) → q < ranks → r < ranks → value q ≡ value r → q ≡ r
  pub each : (v : ℕ) → v < ranks → HasValue ranks value v

-- by the step
abbrev pub IsRight : ChoiceKind → ℕ → (ℕ → ℕ) → Type 0
IsRight Elect ranks value = IsElected ranks value
IsRight Tickets ranks value = AreTickets ranks value
