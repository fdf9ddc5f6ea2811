-- What is owed as an answer, and what words name, with each handle renamed.
use Rattle.std.specs.Prelude.{ℕ, ◌≡◌, List}
use Rattle.ptl_types.specs.declared.handles.Handle.{Handle}
use Rattle.log_answers.specs.Known.{Known}
use Rattle.log_answers.specs.declared.owed.Owed.{Owed}
use Rattle.log_answers.specs.declared.owed.Owed.TheVariants as owed
use Rattle.log_answers.specs.declared.owed.Sort.{Sort}
use Rattle.log_answers.specs.declared.owed.Sort.TheVariants.{Counter, Queue, Descriptor, Entry}
use Rattle.slot_laws.specs.Renaming.{Renaming}
use Rattle.slot_laws.specs.Renamed.{renamed_header, renamed_unexpected}

-- of a sort, at the interface of a rank
abbrev pub renaming_of : Renaming → ℕ → Sort → Handle → Handle
renaming_of r rank Counter = r.ct
renaming_of r rank Queue = r.eq
renaming_of r rank Descriptor = r.md rank
renaming_of r rank Entry = r.me

-- an answer, at the interface of a rank
abbrev pub renamed_owed : Renaming → ℕ → Owed → Owed
renamed_owed r rank (owed.New sort h) = owed.New sort (renaming_of r rank sort h)
renamed_owed r rank (owed.Linked h) = owed.Linked (r.me h)
renamed_owed r rank (owed.Found u) = owed.Found (renamed_unexpected r u)
renamed_owed r rank (owed.Taken u) = owed.Taken (renamed_unexpected r u)
renamed_owed r rank (owed.Told h) = owed.Told (renamed_header r h)
renamed_owed r rank o = o

-- this holds of the entry that an answer names, if it names one
abbrev pub HoldsOfNamed : (Handle → Type 0) → Owed → Type 0
HoldsOfNamed Entries (owed.Found u) = Entries u.entry
HoldsOfNamed Entries (owed.Taken u) = Entries u.entry
HoldsOfNamed Entries _ = Unit {0}

-- words name the same things, under their new handles; of match entries those that are known
pub record KnowsAlike (r : Renaming) (Entries : Handle → Type 0) (k k' : Known) : Type 0 where
  pub free : (sort : Sort) (word : List ℕ) → k'.free sort word ≡ k.free sort word
  pub ready : (word : List ℕ) → k'.ready word ≡ k.ready word
  pub descriptors : (rank : ℕ) (md : Handle) → k'.descriptor_word rank (r.md rank md) ≡ k.descriptor_word rank md
  pub entries : (entry : Handle) → Entries entry → k'.entry_word (r.me entry) ≡ k.entry_word entry
  pub operations : (number : ℕ) → k'.operation_word number ≡ k.operation_word number
  pub part : (start length : ℕ) → k'.part start length ≡ k.part start length
  pub message : k'.message ≡ k.message
