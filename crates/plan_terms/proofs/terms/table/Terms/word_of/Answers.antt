-- A run of places, or a term of them.
use Rattle.std.proofs.Common.{ap, ◌∙◌, map}
use Rattle.std.proofs.lemmas.Result.{IfOk-weaker}
use Rattle.plan_terms.specs.declared.terms.term.Member.{Member}
use Rattle.plan_terms.proofs.terms.Elements.{bytes_word}
use Rattle.plan_terms.proofs.terms.table.Terms.word_of.Goals as goal

pub returns-clause-is : goal.returns-clause-is
returns-clause-is c =
    let words = ap (map (λ (m : Member). m.word)) c.as_slice.ensures.value ∙ c.in_ok-members.ensures in
    IfOk-weaker c.place_of.result _ _
    (λ s is. bytes_word c.place_of.new.self s c.args.places.now c.as_slice.result.now c.requires.few words is)
    c.place_of.ensures.is
