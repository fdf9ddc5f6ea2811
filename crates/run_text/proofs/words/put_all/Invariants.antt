use Rattle.std.proofs.Common.{◌∷◌, ◌++◌, drop}
use Rattle.std.specs.List.{flat_map}
use Rattle.run_text.specs.Putting.{Takes}
use Rattle.run_text.specs.Worded.{word_bytes}
use Rattle.run_text.proofs.words.put_all.Given as goal

abbrev pub invariant-loop-word : goal.invariant-loop-word
invariant-loop-word g l =
    let bytes = flat_map (λ w. 32 ∷ word_bytes w) in
    Takes (g.K.Sink.outflow l.fn.sink) (g.K.Sink.outflow l.sink) (l.fn.out ++ bytes l.words) (l.out ++ bytes (drop l.word-index l.words))
