-- One entry more in each turn.
use Rattle.std.proofs.Common.{ℕ, ◌+◌, ◌≡◌, ◌∙◌, List, [], ◌∷◌, ap, arith, length, map, refl, subst, sym}
use Rattle.std.specs.Prelude.{sum_by}
use Rattle.std.proofs.lemmas.List.Sums.{sum_by-cons}
use Rattle.ptl_types.specs.declared.entries.Entry.{Entry}
use Rattle.ptl_types.specs.declared.entries.List.TheVariants.{Priority}
use Rattle.plan_core.specs.Plan.{from_to}
use Rattle.plan_core.proofs.Drawing.{row-more}
use Rattle.rank_node.specs.Calls.{NewEntry}
use Rattle.rank_node.specs.Handles.{Counted}
use Rattle.plan_choice.proofs.texts.machine.Words.{length-from_to}
use Rattle.plan_choice.specs.texts.view.Calls.Call.{MeAppend}
use Rattle.plan_choice.specs.texts.view.Install.{word_entry}
use Rattle.plan_choice.specs.ranks.Given.{AreMade, entries_by}
use Rattle.plan_choice.proofs.ranks.Made.{made-both, made-word}
use Rattle.plan_choice.proofs.ranks.installing.make_words.Goals as goal

words_count : (ts : List ℕ) → sum_by entries_by (map MeAppend ts) ≡ length ts
words_count [] = refl
words_count (t ∷ ts) =
    let e : sum_by entries_by (map MeAppend (t ∷ ts)) ≡ 1 + sum_by entries_by (map MeAppend ts) =
    sum_by-cons entries_by (MeAppend t) (map MeAppend ts) in
    let w = words_count ts in
    omega (arith, e, w)

pub make_entry-requires-clause-all : goal.make_entry-requires-clause-all
make_entry-requires-clause-all c = (c.loop-step.invariant []).all

pub make_entry-requires-clause-room : goal.make_entry-requires-clause-room
make_entry-requires-clause-room c =
    let m = c.loop-step.invariant [] in
    let a = m.entries in
    let b = words_count (from_to 0 c.loop-step.step) in
    let d = length-from_to 0 c.loop-step.step in
    let e = ap (λ (v : Counted). v.entries) m.room in
    let r = c.requires.room in
    let t = c.loop-step-test.true in
    omega (arith, a, b, d, e, r, t)

pub loop-step-preserved : goal.loop-step-preserved
loop-step-preserved c = λ ks.
    subst (λ calls. AreMade ks calls c.args.nic.now c.make_entry.new.nic c.args.kept.now c.make_entry.new.kept)
    (sym (row-more MeAppend c.loop-step.step))
    (made-both ks (map MeAppend (from_to 0 c.loop-step.step)) (MeAppend c.loop-step.step ∷ []) c.args.nic.now c.loop-step.nic
    c.make_entry.new.nic c.args.kept.now c.loop-step.kept c.make_entry.new.kept (c.loop-step.invariant ks)
    (made-word ks c.loop-step.step c.loop-step.nic c.make_entry.new.nic c.loop-step.kept c.make_entry.new.kept
    (subst (λ (e : Entry). NewEntry Priority e c.loop-step.nic c.make_entry.new.nic c.loop-step.kept c.make_entry.new.kept)
    (c.entry_of.ensures ∙ ap word_entry c.from.ensures) c.in_ok-make_entry.ensures) (c.loop-step.invariant []).all))

pub returns : goal.returns
returns c = λ ks.
    let t = c.loop-step-test.false in
    let e = c.loop-step.auto.step-end in
    subst (λ n. AreMade ks (map MeAppend (from_to 0 n)) c.args.nic.now c.loop-step.nic c.args.kept.now c.loop-step.kept)
    (let q : c.loop-step.step ≡ c.args.count = omega (arith, e, t) in q) (c.loop-step.invariant ks)
