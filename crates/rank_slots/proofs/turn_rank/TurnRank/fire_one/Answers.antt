use Rattle.std.proofs.Common.{◌∙◌, ap, sym, subst}
use Rattle.rank_slots.specs.Names.{IsWired, Plate}
use Rattle.rank_slots.specs.Sound.{IsSound}
use Rattle.rank_slots.proofs.Singles.{fired-from, shut-from}
use Rattle.rank_slots.proofs.Chronicles.{handles-flushed}
use Rattle.rank_slots.proofs.turn_rank.TurnRank.fire_one.Goals as goal

pub fire_any-requires-clause-sound : goal.fire_any-requires-clause-sound
fire_any-requires-clause-sound g c = λ _ _. subst IsSound (sym (ap (λ (p : Plate). p.job) c.flush.ensures.name)) c.requires.sound

pub fire_any-requires-clause-wired : goal.fire_any-requires-clause-wired
fire_any-requires-clause-wired g c = λ _ _. subst (IsWired c.args.network.wires.now) (sym c.flush.ensures.name) c.requires.wired

pub returns-clause-some : goal.returns-clause-some
returns-clause-some g c = fired-from c.fire_any.result c.args.self.now c.flush.new.self c.fire_any.new.self c.flush.ensures.flushed
    c.fire_any.ensures.some

pub returns-clause-none : goal.returns-clause-none
returns-clause-none g c = shut-from c.fire_any.result c.args.self.now c.flush.new.self c.fire_any.new.self c.flush.ensures.flushed
    c.fire_any.ensures.none

pub returns-clause-name : goal.returns-clause-name
returns-clause-name g c = c.fire_any.ensures.name ∙ c.flush.ensures.name

pub returns-clause-handles : goal.returns-clause-handles
returns-clause-handles g c = handles-flushed c.args.self.now c.flush.new.self c.fire_any.new.self c.flush.ensures.flushed
    c.fire_any.ensures.handles
