use Rattle.log_answers.proofs.names.Entries.{word_put}
use Rattle.log_answers.proofs.names.keys.ByWord.put.Goals as goal

pub returns : goal.returns
returns g c =
    word_put c.args.word.now c.self.inside.entries c.insert.new.self c.in_ok-key.key c.args.thing c.args.self.now c.self.view_is
    (c.in_ok-key.ensures.items_if_clones_equal (λ x y e. e)) c.in_ok-insert.ensures.entries
