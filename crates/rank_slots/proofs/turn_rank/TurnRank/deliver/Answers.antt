use Rattle.std.proofs.Common.{◌∙◌, List, ap, sym, subst}
use lib.ListN.{get_elem?}
use Rattle.rank_slots.specs.declared.ports.InPort.{InPort}
use Rattle.rank_slots.specs.Names.{IsWired, Plate}
use Rattle.rank_slots.specs.Sound.{IsSound}
use Rattle.rank_slots.proofs.Pairs.{within}
use Rattle.rank_slots.proofs.Singles.{came-from, passed-from}
use Rattle.rank_slots.proofs.Chronicles.{handles-flushed}
use Rattle.rank_slots.proofs.turn_rank.TurnRank.deliver.Goals as goal

pub unreachable-requires : goal.unreachable-requires
unreachable-requires g c = let e = c.requires.end in
    (c.in_default.ensures).none e.0 e.1
    (ap (λ (l : List InPort). get_elem? l e.0) c.flush-free.ensures.flushed.ins ∙ e.2) e.3 e.4

pub pull-requires-clause-sound : goal.pull-requires-clause-sound
pull-requires-clause-sound g c = λ _ _. subst IsSound (sym (ap (λ (p : Plate). p.job) c.flush-free.ensures.name)) c.requires.sound

pub pull-requires-clause-wired : goal.pull-requires-clause-wired
pull-requires-clause-wired g c = λ _ _. subst (IsWired c.args.network.wires.now) (sym c.flush-free.ensures.name) c.requires.wired

pub pull-requires-clause-at : goal.pull-requires-clause-at
pull-requires-clause-at g c = λ _ _. let f = (c.in-Some.ensures).some in let z = c.flush-free.new.self in
    within z.ins.items c.in-Some.at f.0 f.1

pub returns-clause-some : goal.returns-clause-some
returns-clause-some g c = λ t. let f = (c.in-Some.ensures).some in let z = c.flush-free.new.self in
    came-from c.args.self.now z c.pull.new.self c.in-Some.at c.args.source c.args.lane f.0 c.flush-free.ensures.flushed
    f.1 f.2 f.3 (c.pull.ensures.some t)

pub returns-clause-none : goal.returns-clause-none
returns-clause-none g c = λ t. let f = (c.in-Some.ensures).some in let z = c.flush-free.new.self in
    passed-from c.args.self.now z c.pull.new.self c.in-Some.at c.args.source c.args.lane f.0 c.flush-free.ensures.flushed
    f.1 f.2 f.3 (c.pull.ensures.none t)

pub returns-clause-name : goal.returns-clause-name
returns-clause-name g c = c.pull.ensures.name ∙ c.flush-free.ensures.name

pub returns-clause-handles : goal.returns-clause-handles
returns-clause-handles g c = handles-flushed c.args.self.now c.flush-free.new.self c.pull.new.self c.flush-free.ensures.flushed
    c.pull.ensures.handles
