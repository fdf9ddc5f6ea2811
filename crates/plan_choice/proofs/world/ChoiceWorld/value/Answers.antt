-- The words of a step lie in the memory.
use Rattle.std.proofs.Common.{ℕ, List, ◌+◌, ◌*◌, ◌<◌, ◌∙◌, ap, arith, length, subst, sym}
use Rattle.std.proofs.lemmas.List.{get_or_read}
use Rattle.ptl_types.specs.Elements.{part, pattern}
use Rattle.ni_model.specs.State.{State}
use Rattle.plan_choice.proofs.texts.laws.Traffic.{words_within}
use Rattle.plan_choice.specs.texts.laws.Decided.{result_of}
use Rattle.plan_choice.specs.ranks.Seats.{ChoiceRankState}
use Rattle.plan_choice.specs.Acts.{no_seated}
use Rattle.plan_choice.specs.World.{ChoiceState, histories_in, nic_in, scene_in, state_of}
use Rattle.plan_choice.proofs.Moving.{moment_in, slots_at}
use Rattle.plan_choice.proofs.world.ChoiceWorld.value.Goals as goal

pub word_at-requires : goal.word_at-requires
word_at-requires c =
    let s = c.self.inside in
    let is = c.self.invariant.standing in
    let h = subst (λ (w : ChoiceState). c.args.r < w.ranks) (sym c.self.view_is) c.requires.rank in
    let i = subst (λ (w : ChoiceState). c.args.step < length w.kinds) (sym c.self.view_is) c.requires.step in
    let size = is.size in
    let inside : c.args.r < length s.seats.items = omega (arith, h, size) in
    let w : ChoiceState = state_of s.kinds.items s.seats.items s.traffic in
    let within = words_within w.ranks w.kinds (slots_at w) is.in_range (histories_in w) (scene_in w).held (moment_in w is) c.args.r
    c.args.step i in
    let same = ap length (c.memory-memory.ensures.value ∙ ap (λ (v : State). v.memory) (c.nic.ensures
    ∙ ap (λ (x : ChoiceRankState). x.nic) (get_or_read s.seats.items c.args.r c.index.result.now inside c.index.ensures no_seated)
    ∙ is.nic c.args.r h)) in
    omega (arith, within, same)

pub returns : goal.returns
returns c =
    let s = c.self.inside in
    let is = c.self.invariant.standing in
    let h = subst (λ (w : ChoiceState). c.args.r < w.ranks) (sym c.self.view_is) c.requires.rank in
    let size = is.size in
    let inside : c.args.r < length s.seats.items = omega (arith, h, size) in
    c.word_at.ensures
    ∙ ap (λ (m : List ℕ). pattern (part (32 * c.args.step + 24) 8 m)) c.memory-memory.ensures.value
    ∙ ap (result_of c.args.step) (c.nic.ensures
    ∙ ap (λ (x : ChoiceRankState). x.nic) (get_or_read s.seats.items c.args.r c.index.result.now inside c.index.ensures no_seated))
    ∙ ap (λ (w : ChoiceState). result_of c.args.step (nic_in w c.args.r)) c.self.view_is
