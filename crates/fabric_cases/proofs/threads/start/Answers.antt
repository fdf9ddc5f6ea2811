use Rattle.fabric_cases.proofs.threads.start.Goals as goal

pub returns-clause-parts : goal.returns-clause-parts
returns-clause-parts g c = c.start.ensures.begun.2.parts
