-- An answer agrees with what is owed whatever slots there are.
use Rattle.std.proofs.Common.{◌≡◌, ℕ, ◌&&◌, ◌||◌, List, [], ◌∷◌, Option, Some, None, refl, ap, cond}
use Rattle.std.proofs.Common.{option_map}
use Rattle.ptl_types.specs.declared.handles.Handle.{Handle}
use Rattle.ptl_types.specs.declared.headers.Header.{Header}
use Rattle.ptl_types.specs.declared.entries.UnexpectedHeader.{UnexpectedHeader}
use Rattle.log_words.specs.Words.{Rest, Word, is_name_word, key_of, value_of}
use Rattle.log_answers.specs.Known.{Known}
use Rattle.log_answers.specs.Items.{field_in, fields_owed, first_word, header_fields, home_item, home_rank, name, second_word}
use Rattle.log_answers.specs.Items.{unexpected_fields, word_owed}
use Rattle.log_answers.specs.Agreement.{agrees, compared, found, given, is_said, is_silent, is_unknown, judged, judged_by, place_after}
use Rattle.log_answers.specs.Printing.{keys_owed, owed_text}
use Rattle.log_answers.specs.declared.owed.Item.{Item}
use Rattle.log_answers.specs.declared.owed.Item.TheVariants as items
use Rattle.log_answers.specs.declared.owed.Owed.{Owed}
use Rattle.log_answers.specs.declared.owed.Owed.TheVariants as owed
use Rattle.log_answers.specs.declared.items.Place.{Place}
use Rattle.log_answers.specs.declared.items.Place.TheVariants.{First, Second, Behind}
use Rattle.log_answers.specs.declared.agreement.Found.TheVariants.{Agrees}
use Rattle.slot_laws.specs.Renaming.{Renaming}
use Rattle.slot_laws.specs.Renamed.{renamed_header, renamed_unexpected}
use Rattle.slot_laws.specs.Told.{KnowsAlike, HoldsOfNamed, renamed_owed}

module _ {r : Renaming} {E : Handle → Type 0} {k k' : Known} (alike : KnowsAlike r E k k') where
  -- ---- words

  first_word_alike : (rank : ℕ) (o : Owed) → first_word k' (renamed_owed r rank o) ≡ first_word k o
  first_word_alike rank (owed.Word word) = refl
  first_word_alike rank (owed.Amount n) = refl
  first_word_alike rank (owed.Counts c) = refl
  first_word_alike rank (owed.Part start length) = ap (λ bytes. Some (items.Raw bytes)) (alike.part start length)
  first_word_alike rank (owed.New sort h) = refl
  first_word_alike rank (owed.Linked h) = refl
  first_word_alike rank owed.Message = refl
  first_word_alike rank (owed.Delivered outcome answered) = refl
  first_word_alike rank (owed.Event e) = refl
  first_word_alike rank (owed.Found u) = refl
  first_word_alike rank (owed.Taken u) = refl
  first_word_alike rank (owed.Told h) = refl
  first_word_alike rank owed.Ready = refl
  first_word_alike rank (owed.Operation t) = ap (λ word. Some (name word)) (alike.operations t)

  second_word_alike : (rank : ℕ) (o : Owed) → second_word (renamed_owed r rank o) ≡ second_word o
  second_word_alike rank (owed.Word word) = refl
  second_word_alike rank (owed.Amount n) = refl
  second_word_alike rank (owed.Counts c) = refl
  second_word_alike rank (owed.Part start length) = refl
  second_word_alike rank (owed.New sort h) = refl
  second_word_alike rank (owed.Linked h) = refl
  second_word_alike rank owed.Message = refl
  second_word_alike rank (owed.Delivered outcome answered) = refl
  second_word_alike rank (owed.Event e) = refl
  second_word_alike rank (owed.Found u) = refl
  second_word_alike rank (owed.Taken u) = refl
  second_word_alike rank (owed.Told h) = refl
  second_word_alike rank owed.Ready = refl
  second_word_alike rank (owed.Operation t) = refl

  word_owed_alike : (rank : ℕ) (o : Owed) (place : Place) → word_owed k' (renamed_owed r rank o) place ≡ word_owed k o place
  word_owed_alike rank o First = first_word_alike rank o
  word_owed_alike rank o Second = second_word_alike rank o
  word_owed_alike rank o Behind = refl

  -- ---- fields

  home_item_alike : (rank : ℕ) (home : Option Handle) → home_item k' rank (option_map (r.md rank) home) ≡ home_item k rank home
  home_item_alike rank None = refl
  home_item_alike rank (Some md) = ap name (alike.descriptors rank md)

  header_fields_alike : (h : Header) → header_fields k' (renamed_header r h) ≡ header_fields k h
  header_fields_alike h = rw (home_item_alike (home_rank h) h.home) refl

  unexpected_fields_alike : (u : UnexpectedHeader) → E u.entry → unexpected_fields k' (renamed_unexpected r u) ≡ unexpected_fields k u
  unexpected_fields_alike u there = rw (alike.entries u.entry there, header_fields_alike u.header) refl

  fields_owed_alike : (rank : ℕ) (o : Owed) → HoldsOfNamed E o → fields_owed k' (renamed_owed r rank o) ≡ fields_owed k o
  fields_owed_alike rank (owed.Word word) there = refl
  fields_owed_alike rank (owed.Amount n) there = refl
  fields_owed_alike rank (owed.Counts c) there = refl
  fields_owed_alike rank (owed.Part start length) there = refl
  fields_owed_alike rank (owed.New sort h) there = refl
  fields_owed_alike rank (owed.Linked h) there = refl
  fields_owed_alike rank owed.Message there = refl
  fields_owed_alike rank (owed.Delivered outcome answered) there = refl
  fields_owed_alike rank (owed.Event e) there = refl
  fields_owed_alike rank (owed.Found u) there = unexpected_fields_alike u there
  fields_owed_alike rank (owed.Taken u) there = unexpected_fields_alike u there
  fields_owed_alike rank (owed.Told h) there = rw (alike.message, header_fields_alike h) refl
  fields_owed_alike rank owed.Ready there = refl
  fields_owed_alike rank (owed.Operation t) there = refl

  keys_owed_alike : (rank : ℕ) (o : Owed) → keys_owed (renamed_owed r rank o) ≡ keys_owed o
  keys_owed_alike rank (owed.Word word) = refl
  keys_owed_alike rank (owed.Amount n) = refl
  keys_owed_alike rank (owed.Counts c) = refl
  keys_owed_alike rank (owed.Part start length) = refl
  keys_owed_alike rank (owed.New sort h) = refl
  keys_owed_alike rank (owed.Linked h) = refl
  keys_owed_alike rank owed.Message = refl
  keys_owed_alike rank (owed.Delivered outcome answered) = refl
  keys_owed_alike rank (owed.Event e) = refl
  keys_owed_alike rank (owed.Found u) = refl
  keys_owed_alike rank (owed.Taken u) = refl
  keys_owed_alike rank (owed.Told h) = refl
  keys_owed_alike rank owed.Ready = refl
  keys_owed_alike rank (owed.Operation t) = refl

  -- ---- what is owed, as it is written

  pub owed_text_alike : (rank : ℕ) (o : Owed) → HoldsOfNamed E o → owed_text k' (renamed_owed r rank o) ≡ owed_text k o
  owed_text_alike rank o there =
      rw (word_owed_alike rank o First, word_owed_alike rank o Second, fields_owed_alike rank o there, keys_owed_alike rank o) refl

  -- ---- what was said, against it

  is_said_alike : (w : List ℕ) (item : Item) → is_said k' w item ≡ is_said k w item
  is_said_alike w (items.Exact word) = refl
  is_said_alike w (items.Amount n) = refl
  is_said_alike w (items.Raw bytes) = refl
  is_said_alike w items.SomeReady = alike.ready w
  is_said_alike w (items.NewThing sort) = ap (λ b. is_name_word w && b) (alike.free sort w)
  is_said_alike w items.NewMessage = refl
  is_said_alike w items.Nameless = refl

  agrees_alike : (w : List ℕ) (item : Option Item) → agrees k' w item ≡ agrees k w item
  agrees_alike w None = refl
  agrees_alike w (Some item) = ap (λ b. is_unknown w || b) (is_said_alike w item)

  judged_by_alike : (rank : ℕ) (o : Owed) → HoldsOfNamed E o → (place : Place) (w : Word) (v : Option Word) →
      judged_by k' (renamed_owed r rank o) place w v ≡ judged_by k o place w v
  judged_by_alike rank o there place w None =
      rw (word_owed_alike rank o place, agrees_alike w.text (word_owed k o place)) refl
  judged_by_alike rank o there place w (Some v) =
      rw (fields_owed_alike rank o there, agrees_alike v.text (field_in (key_of w) (fields_owed k o))) refl

  judged_alike : (rank : ℕ) (o : Owed) → HoldsOfNamed E o → (place : Place) (w : Word) →
      judged k' (renamed_owed r rank o) place w ≡ judged k o place w
  unfolding judged
  judged_alike rank o there place w = judged_by_alike rank o there place w (value_of w)

  compared_alike : (rank : ℕ) (o : Owed) → HoldsOfNamed E o → (place : Place) (new : Option Word) (ws : List Word) (past : ℕ) →
      compared k' (renamed_owed r rank o) place new ws past ≡ compared k o place new ws past
  compared_alike rank o there place new [] past = rw (word_owed_alike rank o place) refl
  compared_alike rank o there place new (w ∷ ws) past =
      rw (
        judged_alike rank o there place w,
        compared_alike rank o there (place_after (judged k o place w) place) (given (judged k o place w) w new) ws past,
      ) refl

  pub found_alike : (rank : ℕ) (o : Owed) → HoldsOfNamed E o → (said : Rest) → found k' (renamed_owed r rank o) said ≡ found k o said
  unfolding found
  found_alike rank o there said =
      ap (λ x. cond (is_silent said.words) (Agrees None) x) (compared_alike rank o there First None said.words said.past)
