-- One link more in each turn.
use Rattle.std.proofs.Common.{refl}
use Rattle.std.proofs.lemmas.List.Elements.{All-get_or}
use Rattle.plan_terms.proofs.terms.Tables.{kept_on, same_table}
use Rattle.plan_terms.specs.Cells.{ComesTo}
use Rattle.plan_terms.proofs.Landing.{all_landed, more_landed}
use Rattle.plan_terms.proofs.folding.land_atomics.Goals as goal

pub link_at-link-requires : goal.link_at-link-requires
link_at-link-requires c =
    (All-get_or (ComesTo c.args.next.plan.now c.args.next.number) c.args.links.now c.loop-l.l-index 0 c.loop-l-test.true
    c.requires.links).known

pub loop-l-init : goal.loop-l-init
loop-l-init c = record { keeps = same_table c.args.terms.now; landed = record { same = λ inputs V solution. refl } }

pub loop-l-preserved : goal.loop-l-preserved
loop-l-preserved c = record {
  keeps = kept_on c.args.terms.now c.loop-l.terms c.land_atomic.new.terms c.loop-l.invariant.keeps c.land_atomic.ensures.keeps;
  landed = more_landed c.loop-l.terms c.land_atomic.new.terms c.args.next.plan.now c.args.op c.args.next.number
      c.args.next.before.now c.args.links.now c.args.folds.now c.loop-l.folds c.land_atomic.new.folds c.loop-l.l-index
      c.link_at-link.result c.cell_at-cell.result c.loop-l-test.true
      (All-get_or (ComesTo c.args.next.plan.now c.args.next.number) c.args.links.now c.loop-l.l-index 0 c.loop-l-test.true
      c.requires.links)
      c.link_at-link.ensures c.cell_at-cell.ensures c.land_atomic.ensures.keeps c.loop-l.invariant.landed
      c.in_ok-land_atomic.ensures.landed;
}

pub returns-clause-landed : goal.returns-clause-landed
returns-clause-landed c =
    all_landed c.loop-l.terms c.args.next.plan.now c.args.op c.args.next.number c.args.next.before.now c.args.links.now
    c.args.folds.now c.loop-l.folds c.loop-l.l-index c.loop-l-test.false c.loop-l.invariant.landed
