use Rattle.rank_frames.proofs.going.send_any.Goals as goal

pub returns-in-Some : goal.returns-in-Some
returns-in-Some g c = rw c.in-Some.is c.send.ensures
