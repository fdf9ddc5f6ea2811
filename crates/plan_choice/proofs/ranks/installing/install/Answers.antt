-- By `Installed`.
use Rattle.std.proofs.Common.{◌≡◌, ◌∙◌, ap, arith, refl, subst, sym}
use Rattle.ptl_types.specs.declared.calls.Limits.{Limits}
use Rattle.ni_model.specs.State.{State, opened}
use Rattle.portals_ni.specs.Fit.{FitLimits}
use Rattle.rank_node.specs.Handles.{no_handles, room_under}
use Rattle.plan_choice.specs.texts.view.Calls.{blank, install_calls}
use Rattle.plan_choice.specs.texts.view.Install.{limits_of}
use Rattle.plan_choice.specs.ranks.Given.{AreMade}
use Rattle.plan_choice.specs.ranks.Seats.{IsInstalled, empty_diary}
use Rattle.plan_choice.proofs.ranks.Installed.{go_first, nic_installed, opened_all, opened_wide, some_counter}
use Rattle.plan_choice.proofs.ranks.installing.install.Goals as goal

pub open-requires-clause-fit : goal.open-requires-clause-fit
open-requires-clause-fit c =
    let at_most = c.requires.at_most in
    subst FitLimits (sym (c.limits_for-limits.ensures c.args.kinds.now refl)) (
      omega (arith, at_most),
      omega (arith, at_most),
      omega (arith, at_most),
    )

pub make_all-requires-clause-wide : goal.make_all-requires-clause-wide
make_all-requires-clause-wide c =
    let ks = c.args.kinds.now in
    let limits = c.limits_for-limits.ensures ks refl in
    let blank_is : c.in_ok-nic.nic ≡ blank c.args.ranks ks c.args.rank = c.in_ok-nic.ensures.makes
    ∙ ap (λ (l : Limits). opened c.args.rank c.args.ranks l c.in_ok-bytes.bytes.list) limits
    ∙ ap (opened c.args.rank c.args.ranks (limits_of ks)) c.in_ok-bytes.ensures in
    let rank = c.requires.rank in
    opened_wide c.args.ranks ks c.args.rank c.in_ok-nic.nic (omega (arith, rank)) blank_is

pub make_all-requires-clause-none : goal.make_all-requires-clause-none
make_all-requires-clause-none c =
    c.in_ok-kept.ensures ∙ ap (λ (l : Limits). no_handles (room_under l)) (c.limits_for-limits.ensures c.args.kinds.now refl)

pub make_all-requires-clause-all : goal.make_all-requires-clause-all
make_all-requires-clause-all c =
    let ks = c.args.kinds.now in
    let limits = c.limits_for-limits.ensures ks refl in
    let blank_is : c.in_ok-nic.nic ≡ blank c.args.ranks ks c.args.rank = c.in_ok-nic.ensures.makes
    ∙ ap (λ (l : Limits). opened c.args.rank c.args.ranks l c.in_ok-bytes.bytes.list) limits
    ∙ ap (opened c.args.rank c.args.ranks (limits_of ks)) c.in_ok-bytes.ensures in
    opened_all c.args.ranks ks c.args.rank c.in_ok-nic.nic c.in_ok-kept.kept blank_is
    (c.in_ok-kept.ensures ∙ ap (λ (l : Limits). no_handles (room_under l)) limits)

pub returns : goal.returns
returns c =
    let ks = c.args.kinds.now in
    let n = c.args.ranks in
    let r = c.args.rank in
    let limits = c.limits_for-limits.ensures ks refl in
    let blank_is : c.in_ok-nic.nic ≡ blank c.args.ranks ks c.args.rank = c.in_ok-nic.ensures.makes
    ∙ ap (λ (l : Limits). opened c.args.rank c.args.ranks l c.in_ok-bytes.bytes.list) limits
    ∙ ap (opened c.args.rank c.args.ranks (limits_of ks)) c.in_ok-bytes.ensures in
    let made = subst (λ (s : State). AreMade ks (install_calls ks r) s c.make_all.new.nic c.in_ok-kept.kept c.make_all.new.kept) blank_is
    c.in_ok-make_all.ensures in
    subst (IsInstalled n ks r) (sym c.of.ensures) (record {
      nic = nic_installed n ks r c.make_all.new.nic c.in_ok-kept.kept c.make_all.new.kept made;
      some = some_counter n ks r c.make_all.new.nic c.in_ok-kept.kept c.make_all.new.kept made;
      go = go_first n ks r c.make_all.new.nic c.in_ok-kept.kept c.make_all.new.kept made;
      diary = c.in_ok-history.ensures ∙ ap empty_diary c.steps_of-due.ensures.due;
    })
