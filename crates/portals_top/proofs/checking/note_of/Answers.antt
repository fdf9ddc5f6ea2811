use Rattle.portals_top.proofs.checking.note_of.Goals as goal

pub returns-in-Fails : goal.returns-in-Fails
returns-in-Fails c =
    rw c.in-Fails.is (
      c.explain_fails.ensures.about,
      (c.explain_fails.ensures.line c.requires, c.explain_fails.ensures.path, c.explain_fails.ensures.stands),
    )
