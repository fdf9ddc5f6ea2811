use Rattle.std.proofs.Common.{◌≡◌, ◌+◌, ◌-◌, ◌<◌, ◌++◌, ℕ, List, drop, length, map}
use denote.Ref.{Bor}
use Rattle.coll_text.specs.Text.{lines}
use Rattle.coll_lang.specs.declared.stage.Stage.TheVariants.{Data}
use Rattle.coll_lang.specs.Blocks.{AreSaid}
use Rattle.coll_lang.specs.Language.{read_from}
use Rattle.coll_lang.specs.States.{past}
use Rattle.coll_lang.proofs.block.take_block.Given as goal

abbrev pub invariant-loop-i : goal.invariant-loop-i
invariant-loop-i l = record {
  stage : l.i < length l.lines → l.reader.stage ≡ Data (l.run.left - l.i) l.run.ty l.run.count;
  read : (bytes : List ℕ) → read_from (past l.fn.reader) l.number (map (λ (x : Bor (List ℕ)). x.now) l.lines ++ lines bytes)
      ≡ read_from (past l.reader) (l.number + l.i) (map (λ (x : Bor (List ℕ)). x.now) (drop l.i l.lines) ++ lines bytes);
  said : AreSaid l.run.ty l.run.count l.lines l.places;
  count : length l.places ≡ length l.lines;
}
