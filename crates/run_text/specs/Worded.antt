-- The bytes of a word of a line.
use Rattle.std.specs.Prelude.{ℕ, List}
use Rattle.std.specs.Fmt.{decimal}
use Rattle.run_text.specs.declared.words.Word.{Word}
use Rattle.run_text.specs.declared.words.Word.TheVariants.{Text, Number}

abbrev pub word_bytes : Word → List ℕ
word_bytes (Text text) = text.now
word_bytes (Number number) = decimal number
