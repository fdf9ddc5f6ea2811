-- On lanes that no message may go on a wave of probes need not look.
use Rattle.std.proofs.Common.{ℕ, false, ◌≡◌, ◌<◌, List, length, ap, ◌∙◌, sym, inl, inr, arith}
use Rattle.std.proofs.lemmas.Bool.{cases_Bool}
use Rattle.std.proofs.lemmas.List.{length-append}
use Rattle.ptl_types.specs.Messages.{Sent}
use Rattle.ptl_types.specs.declared.headers.Lane.{Lane}
use Rattle.op_laws.specs.Combining.{CombineStarts}
use Rattle.plan_core.specs.Plan.{Plan}
use Rattle.plan_core.specs.Sound.{AreInputsOf, SoundPlan}
use Rattle.plan_core.specs.Values.{Inputs}
use Rattle.plan_core.specs.calls.Lanes.{is_used_lane}
use Rattle.cuts.specs.view.Slots.{Slots}
use Rattle.cuts.specs.histories.Cut.{IsCut}
use Rattle.cuts.specs.histories.History.{got, sent}
use Rattle.cuts.specs.histories.Plans.{start_of, system_of}
use Rattle.cuts.specs.histories.System.{Histories, sent_by, state_at}
use Rattle.cuts.specs.histories.Wave.{HasNoStray, IsWave}
use Rattle.cuts.proofs.histories.Fronts.{owned-all}
use Rattle.cuts.proofs.rest.LaneCuts.{unused_got, unused_sent}
use Rattle.cuts.proofs.rest.Waves.{IsWholeWave, behind, got_split, sent_split}

module _ (starts : CombineStarts) (p : Plan) (inputs : Inputs) (sound : SoundPlan p (length inputs)) (fit : AreInputsOf p inputs)
    (slots : ℕ → Slots) (v w : Histories)
    (cut : IsCut (system_of p inputs slots) w) (clean : HasNoStray (system_of p inputs slots) w)
    (wave : IsWave (system_of p inputs slots) v w) where
  balanced : (s d : ℕ) (lane : Lane) → s < p.ranks → d < p.ranks →
      length (got (v d) s lane) ≡ length (sent_by (system_of p inputs slots) v s d lane)
  balanced s d lane hs hd = elim (cases_Bool (is_used_lane p s d lane)) [
    | inl e ↦ wave.balanced s d lane hs hd e
    | inr e ↦ none e
  ]
    where
      none : is_used_lane p s d lane ≡ false → length (got (v d) s lane) ≡ length (sent_by (system_of p inputs slots) v s d lane)
      none e =
          let z = ap (λ (ms : List Sent). length ms) (unused_sent starts p inputs sound fit slots w cut s d lane hs hd e) in
          let y = ap (λ (ms : List Sent). length ms) (sym (owned-all (got (w d) s lane) (λ m i. clean d s lane m hd hs i))
          ∙ unused_got starts p inputs sound fit slots w cut s d lane hs hd e) in
          let a = ap (λ (ms : List Sent). length ms) (sent_split (system_of p inputs slots) v w wave.front s d lane hs) in
          let b = length-append (sent_by (system_of p inputs slots) v s d lane)
          (sent (start_of p (slots s) s) (state_at (system_of p inputs slots) v s)
          (behind (system_of p inputs slots) v w wave.front s) d lane) in
          let c = ap (λ (ms : List Sent). length ms) (got_split (system_of p inputs slots) v w wave.front s d lane hd) in
          let f = length-append (got (v d) s lane) (got (behind (system_of p inputs slots) v w wave.front d) s lane) in
          omega (arith, z, y, a, b, c, f)

  pub whole_wave : IsWholeWave (system_of p inputs slots) v w
  whole_wave = record { front = wave.front; started = wave.started; idle = wave.idle; balanced = balanced }
