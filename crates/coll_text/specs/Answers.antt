-- What the reader of a data line answers.
use Rattle.std.specs.Prelude.{◌≡◌, ℕ, List, Result, Err}
use Rattle.coll_text.specs.declared.values.Flaw.{Flaw}
use Rattle.coll_text.specs.declared.values.ValuesFault.{ValuesFault}
use Rattle.coll_text.specs.declared.values.ValuesFault.TheVariants.{Flawed, NoMemory}

-- it fails as reading does, or there was no memory
abbrev pub Fails : ValuesFault → Result (List ℕ) Flaw → Type 0
Fails NoMemory read = Unit {0}
Fails (Flawed flaw) read = read ≡ Err flaw
