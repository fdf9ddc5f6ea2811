use Rattle.given_top.proofs.checking.verdict_note.Goals as goal

pub returns-in-Fails : goal.returns-in-Fails
returns-in-Fails c =
    rw c.in-Fails.is
    (record {
      note = c.explain_fails.result;
      line = c.explain_fails.ensures.line c.requires;
      about = c.explain_fails.ensures.about;
      path = c.explain_fails.ensures.path;
      found = c.explain_fails.ensures.stands;
      shown = c.moved.ensures;
    })
