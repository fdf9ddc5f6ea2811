-- By the laws of plans, whose conditions it meets.
use Rattle.std.proofs.Common.{◌∙◌, ap, sym, Some}
use Rattle.ni_model.specs.Counts.{successes}
use Rattle.verdict_laws.proofs.Conditions.{barriers_kept, entries_begun, fit, marked, results_in, sound_for}
use Rattle.verdict_laws.proofs.flawless_plans_end.Goals as goal

pub returns : goal.returns
returns c = record {
  barriers = λ p o said marks inputs slots world h given cut.
      barriers_kept p o said marks h inputs slots world
      (c.cells_in_order.ensures.order p inputs slots world (sound_for p o said marks h inputs given)
      (fit p o said marks h inputs given) cut);
  entries = λ p o said marks inputs slots world h given cut.
      entries_begun p o said marks h inputs given slots world cut
      (c.cells_in_order.ensures.order p inputs slots world (sound_for p o said marks h inputs given)
      (fit p o said marks h inputs given) cut);
  complete = λ p o said marks inputs slots steps strays world held h given reached still r in_range.
      c.strays_change_no_end.ensures.complete p inputs slots steps strays world held (sound_for p o said marks h inputs given)
      (fit p o said marks h inputs given) reached still r in_range;
  done = λ p o said marks inputs slots steps strays world held h given reached still r in_range.
      (c.strays_change_no_end.ensures.complete p inputs slots steps strays world held (sound_for p o said marks h inputs given)
      (fit p o said marks h inputs given) reached still r in_range).done
      ∙ ap (λ n. Some (successes n)) (sym ((marked p o said marks h).done r in_range));
  results = λ p o said marks inputs slots steps strays world held h given reached still.
      results_in p o said marks h inputs _
      (λ r in_range. c.cells_hold_values.ensures.complete p inputs slots world r
      (c.strays_change_no_end.ensures.complete p inputs slots steps strays world held (sound_for p o said marks h inputs given)
      (fit p o said marks h inputs given) reached still r in_range));
}
