-- What words name, for things of one sort at one rank.
use Rattle.std.specs.Prelude.{ℕ, Bool, false, ◌==◌, List, [], Option, Some, None, if◌then◌else◌}
use Rattle.ptl_types.specs.declared.handles.Handle.{Handle}
use Rattle.ptl_types.specs.Handles.{same_handle}
use Rattle.log_answers.specs.names.Keys.{Words, word_lookup, with_word, without_word, number_lookup, with_number, without_number}
use Rattle.log_answers.specs.declared.names.names.Named.{Named}
use Rattle.log_answers.specs.declared.names.names.Names.{Names}

abbrev pub no_names : Names
no_names = record { things = []; words = [] }

-- the thing that a word names
abbrev pub thing_of : List ℕ → Names → Option Handle
thing_of word n = word_lookup word n.things

abbrev pub word_if : ℕ → Option Named → Option (List ℕ)
word_if stamp None = None
word_if stamp (Some x) = if x.stamp == stamp then Some x.word else None

-- the word of a thing
abbrev pub word_of : Handle → Names → Option (List ℕ)
word_of h n = word_if h.stamp (number_lookup h.slot n.words)

-- ---- the thing of a slot is gone, or another takes its slot: where its word still names it, that names nothing then

abbrev pub names_it : Handle → Option Handle → Bool
names_it h None = false
names_it h (Some x) = same_handle x h

abbrev pub things_without : ℕ → Option Named → Words Handle → Words Handle
things_without slot None things = things
things_without slot (Some x) things =
    if names_it (record { slot = slot; stamp = x.stamp }) (word_lookup x.word things) then without_word x.word things else things

unfoldable pub cleared : ℕ → Names → Names
cleared slot n = record { things = things_without slot (number_lookup slot n.words) n.things; words = without_number slot n.words }

-- ---- a new thing, with the word that was given for it

abbrev pub named : Handle → List ℕ → Names → Names
named h word n = record {
  things = with_word word h n.things;
  words = with_number h.slot (record { stamp = h.stamp; word = word }) n.words;
}

abbrev pub named_if : Handle → Option (List ℕ) → Names → Names
named_if h None n = n
named_if h (Some word) n = named h word n

unfoldable pub bound : Handle → Option (List ℕ) → Names → Names
bound h word n = named_if h word (cleared h.slot n)
