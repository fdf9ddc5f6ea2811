-- What notes show stands where they say.
use Rattle.std.proofs.Common.{◌≡◌, ℕ, ◌+◌, ◌-◌, ◌≤◌, List, [], length, refl, ap, ◌∙◌, arith}
use Rattle.std.specs.List.{slice_range}
use Rattle.text_notes.specs.declared.notes.note.About.{About}
use Rattle.text_notes.specs.notes.Notes.{cut_word}
use Rattle.text_notes.specs.notes.Shown.{then_shown}
use Rattle.text_notes.specs.Places.{Stands}

-- without a column nothing is shown
pub bare_stands : (text path found : List ℕ) (line : ℕ) (about : About) → found ≡ []
    → Stands text (record { line = line; column = 0; path = path; about = about; found = found })
unfolding then_shown
bare_stands text path found line about none = record { end = 0; within = omega arith; column = omega arith; found = none }

-- from its column on
pub placed_stands : (text path found : List ℕ) (line start end : ℕ) (about : About) → start ≤ end → end ≤ length text
    → found ≡ cut_word (slice_range text start end)
    → Stands text (record { line = line; column = start + 1; path = path; about = about; found = found })
placed_stands text path found line start end about order within is = record {
  end = end;
  within = within;
  column = omega (arith, order, within);
  found = is ∙ ap (λ k. cut_word (slice_range text k end)) (let e : start ≡ start + 1 - 1 = omega arith in e);
}
