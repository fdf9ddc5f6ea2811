-- Operation by operation.
use Rattle.std.proofs.Common.{◌+◌, ap, ◌∙◌}
use Rattle.ptl_types.specs.declared.elements.AtomicOp.TheVariants.{Min, Max, Lor, Land, Bor, Band, Lxor, Bxor}
use Rattle.ptl_types.specs.Operations.{op}
use Rattle.plan_terms.specs.terms.Terms.{again}
use Rattle.plan_terms.proofs.terms.Repeated.{band_times, bor_times, bxor_times, halved, land_times, lor_times, lxor_times, max_times}
use Rattle.plan_terms.proofs.terms.Repeated.{min_times}
use Rattle.plan_terms.proofs.terms.Repeated.{one_time, sum_times}
use Rattle.plan_terms.proofs.terms.times.times_of.Goals as goal

pub returns-in-Min : goal.returns-in-Min
returns-in-Min c =
    rw c.in-Min.is
    (λ ty x z h l s. one_time (λ y. op Min ty y x) (c.args.a + c.args.b) _ z (min_times ty x z) c.at_most_one.ensures.none
    c.at_most_one.ensures.some)

pub returns-in-Max : goal.returns-in-Max
returns-in-Max c =
    rw c.in-Max.is
    (λ ty x z h l s. one_time (λ y. op Max ty y x) (c.args.a + c.args.b) _ z (max_times ty x z) c.at_most_one-in-Max.ensures.none
    c.at_most_one-in-Max.ensures.some)

pub returns-in-Lor : goal.returns-in-Lor
returns-in-Lor c =
    rw c.in-Lor.is
    (λ ty x z h l s. one_time (λ y. op Lor ty y x) (c.args.a + c.args.b) _ z (lor_times ty x z) c.at_most_one-in-Lor.ensures.none
    c.at_most_one-in-Lor.ensures.some)

pub returns-in-Land : goal.returns-in-Land
returns-in-Land c =
    rw c.in-Land.is
    (λ ty x z h l s. one_time (λ y. op Land ty y x) (c.args.a + c.args.b) _ z (land_times ty x z) c.at_most_one-in-Land.ensures.none
    c.at_most_one-in-Land.ensures.some)

pub returns-in-Bor : goal.returns-in-Bor
returns-in-Bor c =
    rw c.in-Bor.is
    (λ ty x z h l s. one_time (λ y. op Bor ty y x) (c.args.a + c.args.b) _ z (bor_times ty x z) c.at_most_one-in-Bor.ensures.none
    c.at_most_one-in-Bor.ensures.some)

pub returns-in-Band : goal.returns-in-Band
returns-in-Band c =
    rw c.in-Band.is
    (λ ty x z h l s. one_time (λ y. op Band ty y x) (c.args.a + c.args.b) _ z (band_times ty x z) c.at_most_one-in-Band.ensures.none
    c.at_most_one-in-Band.ensures.some)

pub returns-in-Lxor : goal.returns-in-Lxor
returns-in-Lxor c =
    rw c.in-Lxor.is
    (λ ty x z h l s.
    ap (λ k. again k (λ y. op Lxor ty y x) z) c.odd_one.ensures
    ∙ halved (λ y. op Lxor ty y x) z (lxor_times ty x z s) (c.args.a + c.args.b))

pub returns-in-Bxor : goal.returns-in-Bxor
returns-in-Bxor c =
    rw c.in-Bxor.is
    (λ ty x z h l s.
    ap (λ k. again k (λ y. op Bxor ty y x) z) c.odd_one-in-Bxor.ensures
    ∙ halved (λ y. op Bxor ty y x) z (bxor_times ty x z) (c.args.a + c.args.b))

pub returns-in-Sum : goal.returns-in-Sum
returns-in-Sum c = rw c.in-Sum.is (λ ty x z h l s. sum_times ty x (c.args.a + c.args.b) z l)
