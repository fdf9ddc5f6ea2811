-- One word of an answer more.
use Rattle.std.proofs.Common.{◌≡◌, ℕ, List, ◌∷◌, Option, false, refl, sym, ap, subst, ◌∙◌}
use Rattle.log_words.specs.Words.{Word, Rest, rest}
use Rattle.log_answers.specs.Known.{Known}
use Rattle.log_answers.specs.Agreement.{compared, given, is_wrong, judged, place_after}
use Rattle.log_answers.specs.declared.owed.Owed.{Owed}
use Rattle.log_answers.specs.declared.items.Place.{Place}
use Rattle.log_answers.specs.declared.agreement.Judgement.{Judgement}
use Rattle.log_answers.specs.declared.agreement.Found.{Found}

module _ (k : Known) (o : Owed) where
  past_one : (place : Place) (new : Option Word) (w : Word) (ws : List Word) (past : ℕ) → is_wrong (judged k o place w) ≡ false
      → compared k o place new (w ∷ ws) past
      ≡ compared k o (place_after (judged k o place w) place) (given (judged k o place w) w new) ws past
  past_one place new w ws past h = rw h refl

  -- the words behind one that isn't wrong are compared as all are
  pub one_more : (whole : Found) (place : Place) (new : Option Word) (r later : Rest) (w : Word) (j : Judgement)
      → compared k o place new r.words r.past ≡ whole → r ≡ rest (w ∷ later.words) later.past → j ≡ judged k o place w
      → is_wrong j ≡ false → compared k o (place_after j place) (given j w new) later.words later.past ≡ whole
  one_more whole place new r later w j reads e f h =
      let all : compared k o place new (w ∷ later.words) later.past ≡ whole =
      subst (λ (q : Rest). compared k o place new q.words q.past ≡ whole) e reads in
      rw f (sym (past_one place new w later.words later.past (ap is_wrong (sym f) ∙ h)) ∙ all)
