-- What is owed, as it is written.
use Rattle.std.proofs.Common.{◌≡◌, Bor, ℕ, List, ◌++◌, map, sym, ap, ◌∙◌}
use Rattle.std.specs.List.{flat_map}
use Rattle.std.proofs.lemmas.List.{append_assoc}
use Rattle.std.proofs.lemmas.List.Folds.{flat_map-map}
use Rattle.log_answers.specs.Known.{Known}
use Rattle.log_answers.specs.Items.{field_in, fields_owed, word_owed}
use Rattle.log_answers.specs.Printing.{field_text, keys_owed, owed_text, word_text}
use Rattle.log_answers.specs.declared.owed.Owed.{Owed}
use Rattle.log_answers.specs.declared.items.Place.TheVariants.{First, Second}

module _ (k : Known) (o : Owed) where
  -- the field of a key
  of_key : List ℕ → List ℕ
  of_key key = field_text key (field_in key (fields_owed k o))

  pub owed_written : (out : List ℕ) (keys : List (Bor (List ℕ))) → map (λ (key : Bor (List ℕ)). key.now) keys ≡ keys_owed o
      → out ++ word_text (word_owed k o First) ++ word_text (word_owed k o Second)
      ++ flat_map (λ (key : Bor (List ℕ)). field_text key.now (field_in key.now (fields_owed k o))) keys
      ≡ out ++ owed_text k o
  unfolding of_key
  owed_written out keys e =
      let first = word_text (word_owed k o First) in
      let second = word_text (word_owed k o Second) in
      let fields : flat_map (λ (key : Bor (List ℕ)). of_key key.now) keys ≡ flat_map of_key (keys_owed o) =
      sym (flat_map-map of_key (λ (key : Bor (List ℕ)). key.now) keys) ∙ ap (flat_map of_key) e in
      ap (λ l. out ++ first ++ second ++ l) fields
      ∙ ap (λ l. l ++ flat_map of_key (keys_owed o)) (append_assoc out first second)
      ∙ append_assoc out (first ++ second) (flat_map of_key (keys_owed o))
