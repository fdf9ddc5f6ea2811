-- What definitions see of a step that may be taken.
use Rattle.std.specs.Prelude.{ℕ, ◌≡◌, ◌≤◌, List, [], ◌∷◌, ◌++◌, Option, Some, None, Result, option_map, if◌then◌else◌, ◌&&◌, nat_le, nat_lt}
use Rattle.coll_shape.specs.declared.types.Buffer.{Buffer}
use Rattle.coll_shape.specs.declared.limits.TheConstants.{MOST_RANKS}
use Rattle.coll_lang.specs.Held.{IsSmall}
use Rattle.coll_lang.specs.declared.stage.Stage.TheVariants.{Steps}
use Rattle.coll_lang.specs.declared.stepping.Source.{Source}
use Rattle.coll_lang.specs.declared.stepping.Made.{Made}
use Rattle.coll_text.specs.Text.{number_of}
use Rattle.coll_lang.specs.declared.fault.Refusal.{Refusal}
use Rattle.coll_lang.specs.declared.fault.Refusal.TheVariants.{BadNumber}
use Rattle.coll_lang.specs.Language.{Past, or_refuse, all_numbers, are_members}

-- the buffer that is read, with its number
abbrev pub source_seen : Source → ℕ × Buffer
source_seen s = (s.number, record { name = s.name.now; ty = s.ty; spread = record { length = s.len; holders = s.holders.now } })

abbrev pub with_buffer : List Buffer → Option Buffer → List Buffer
with_buffer bs None = bs
with_buffer bs (Some b) = bs ++ b ∷ []

abbrev pub made_count : Option Buffer → ℕ
made_count None = 0
made_count (Some b) = 1

abbrev pub IfMade : Option Buffer → Type 0
IfMade None = Unit {0}
IfMade (Some b) = IsSmall b

-- what the lines say with it
abbrev pub put : Past → Made → Past
put past m = record past {
  stage = Steps;
  buffers = with_buffer past.buffers m.buffer;
  steps = past.steps ++ m.step ∷ [];
  on = past.on ++ m.on ∷ [];
}

-- the place that a root is, as it is held; none of any group from MOST_RANKS on
abbrev pub Places : Option ℕ → ℕ → Type 0
Places None root = MOST_RANKS ≤ root
Places (Some place) root = root ≡ place

-- the members that the words are: BadNumber where one isn't a number, and none where they aren't rising ranks
unfoldable pub members_said : ℕ → List (List ℕ) → Result (Option (List ℕ)) Refusal
members_said ranks ws = or_refuse BadNumber (option_map (λ ms. if are_members ranks ms then Some ms else None) (all_numbers ws))

-- a member's number: none where it is no rank from `least` on
unfoldable pub rank_read : ℕ → ℕ → List ℕ → Result (Option ℕ) Refusal
rank_read ranks least word =
    or_refuse BadNumber (option_map (λ n. if nat_le least n && nat_lt n ranks then Some n else None) (number_of word))
