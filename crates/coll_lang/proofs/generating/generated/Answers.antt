use Rattle.std.proofs.Common.{◌≡◌, Ok, subst, sym, ◌∙◌}
use Rattle.coll_lang.specs.Program.{Program}
use Rattle.coll_lang.specs.Language.{read}
use Rattle.coll_lang.specs.Spelling.{text}
use Rattle.coll_lang.specs.Readable.{IsReadable}
use Rattle.coll_lang.proofs.GeneratedText.{generated_readable}
use Rattle.coll_lang.proofs.ReadsBack.{reads_back}
use Rattle.coll_lang.specs.Generated.{generated}
use Rattle.coll_lang.proofs.generating.generated.Goals as goal

pub of-requires : goal.of-requires
of-requires c = record {
  readable = subst IsReadable (sym c.in-Ok.ensures.value) (generated_readable c.args.k);
  lists = λ e. c.in-Ok.ensures.lists;
}

pub returns-in-Ok-clause-accepted : goal.returns-in-Ok-clause-accepted
returns-in-Ok-clause-accepted c =
    subst (λ (d : Program). read (text d) ≡ Ok d) (sym (c.of.ensures ∙ c.in-Ok.ensures.value))
    (reads_back (generated c.args.k) (generated_readable c.args.k))
