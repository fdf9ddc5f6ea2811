use Rattle.std.proofs.Common.{◌≡◌, ◌-◌, ◌^◌, ℕ, List, [], ◌∷◌, true, codes, refl, sym, ◌∙◌}
use Rattle.std.specs.Str.{bytes_eq}
use Rattle.coll_text.specs.Text.{number_between}
use Rattle.log_verdict.specs.Judging.{ranks_of}
use Rattle.log_verdict.proofs.judge.ranks_if.Goals as goal

lone : (key n : List ℕ) → bytes_eq key (codes "ranks") ≡ true → number_between 1 (2 ^ 32 - 1) n ≡ ranks_of (key ∷ n ∷ [])
lone key n is = rw is refl

pub returns-then-said : goal.returns-then-said
returns-then-said c = c.number_between.ensures.value ∙ lone c.args.key.now c.args.number.now (sym c.is-said.ensures.value ∙ c.if-said.true)
