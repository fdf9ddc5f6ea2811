-- By the rank.
use Rattle.std.proofs.Common.{[], eq-eqb, if◌then◌else◌, map, subst, sym}
use Rattle.std.proofs.lemmas.Bool.{ne_eqb}
use Rattle.plan_choice.specs.texts.view.Calls.Call.{MeAppend}
use Rattle.plan_choice.specs.texts.view.Install.{steps}
use Rattle.plan_choice.specs.ranks.Given.{AreMade}
use Rattle.plan_choice.proofs.ranks.Made.{made-none}
use Rattle.plan_choice.proofs.ranks.installing.make_own_words.Goals as goal

pub returns-in_ok-make_words : goal.returns-in_ok-make_words
returns-in_ok-make_words c =
    subst (λ b. AreMade c.args.kinds.now (if b then map MeAppend (steps c.args.kinds.now) else []) c.args.nic.now c.make_words.new.nic
    c.args.kept.now c.make_words.new.kept) (sym (eq-eqb c.args.rank 0 c.if-rank-eq0.true)) (c.in_ok-make_words.ensures c.args.kinds.now)

pub returns-else-rank-eq0 : goal.returns-else-rank-eq0
returns-else-rank-eq0 c =
    subst (λ b. AreMade c.args.kinds.now (if b then map MeAppend (steps c.args.kinds.now) else []) c.args.nic.now c.args.nic.now
    c.args.kept.now c.args.kept.now) (sym (ne_eqb c.args.rank 0 c.if-rank-eq0.false))
    (made-none c.args.kinds.now c.args.nic.now c.args.kept.now c.requires.all)
