use Rattle.std.proofs.Common.{◌≡◌, ◌++◌, drop}
use Rattle.coll_lang.specs.Spelling.{inputs_text}
use Rattle.coll_lang.proofs.printing.print_inputs.Given as goal

-- what stands there with what is left is the whole
abbrev pub invariant-loop-buffer : goal.invariant-loop-buffer
invariant-loop-buffer l =
    l.out.items ++ inputs_text l.ranks (drop l.buffer-index l.buffers) l.rest ≡ l.fn.out.items ++ inputs_text l.ranks l.buffers l.lists
