-- A request at rank 0: it finds the word of its step, and is answered with what stood there.
use Rattle.std.proofs.Common.{ℕ, Bool, true, false, ◌&&◌, ◌==◌, ◌+◌, ◌*◌, ◌%◌, ◌^◌, ◌≡◌, ◌≤◌, ◌<◌, List, [], ◌∷◌, refl, length, map, find}
use Rattle.std.proofs.Common.{ap, ap₂, ◌∙◌, sym, arith, Option, Some, None, if◌then◌else◌}
use Rattle.std.proofs.lemmas.Bool.{and_parts}
use Rattle.ptl_types.specs.declared.headers.Header.{Header}
use Rattle.ptl_types.specs.declared.calls.Outcome.TheVariants.{Matched}
use Rattle.ptl_types.specs.declared.entries.List.TheVariants.{Priority, Overflow as InOverflow}
use Rattle.ptl_types.specs.declared.elements.ElemType.TheVariants.{U64}
use Rattle.ptl_types.specs.declared.elements.SwapOp.TheVariants.{Cswap}
use Rattle.ptl_types.specs.declared.elements.AtomicOp.TheVariants.{Sum}
use Rattle.ptl_types.specs.Handles.{top}
use Rattle.ptl_types.specs.Matching.{bits_match}
use Rattle.ptl_types.specs.Kinds.{is_put_or_atomic}
use Rattle.ptl_types.specs.Elements.{combined, part, pattern, written}
use Rattle.ptl_types.specs.Messages.{message}
use Rattle.op_laws.proofs.Swaps.{pattern-little}
use Rattle.ni_model.specs.declared.Found.{Found}
use Rattle.ni_model.specs.declared.Linked.{Linked}
use Rattle.ni_model.specs.Lists.{Index, fits, index_at}
use Rattle.ni_model.specs.Arrive.{as_found, chosen, chosen_at, judged, or_else, request, swapped_by, reply_header}
use Rattle.ni_model.specs.State.{Delivers, State, after_request, delivers, parts_of as target_parts, target}
use Rattle.cuts.proofs.view.Tables.{find-one}
use Rattle.coll_lang.specs.declared.choices.ChoiceKind.{ChoiceKind}
use Rattle.plan_choice.specs.texts.machine.Choices.{choice_at}
use Rattle.coll_lang.specs.declared.choices.ChoiceKind.TheVariants.{Elect, Tickets}
use Rattle.plan_choice.specs.texts.machine.Machine.{answer, ask, value_of, word_after}
use Rattle.plan_choice.proofs.texts.machine.Places.{put-other, put-same}
use Rattle.plan_choice.proofs.texts.machine.Moments.{put-again}
use Rattle.plan_choice.specs.texts.view.Install.{ChoiceRank, Slots, answer_message, ask_header, ask_message, entry_of, first_header}
use Rattle.plan_choice.specs.texts.view.Install.{four_words}
use Rattle.plan_choice.specs.texts.view.Install.{given_word, old_of, step_bytes, steps, view, word}
use Rattle.plan_choice.specs.texts.view.Steps.{with_word}
use Rattle.plan_choice.proofs.texts.view.MatchBits.{match_only, match_own}
use Rattle.plan_choice.proofs.texts.view.Memory.{read_first, read_part, write_first, write_part}
use Rattle.plan_choice.proofs.texts.view.Stamps.{In-steps, steps-In}
use Rattle.plan_choice.proofs.texts.view.StepStart.{length-step}

-- the words after an operation
pattern_word : (x : ℕ) → x < 2 ^ 64 → pattern (word x) ≡ x
pattern_word x h = pattern-little 8 x h

swap_word : (w v : ℕ) (h : Header) → w < 2 ^ 64 → v < 2 ^ 64 → h.ty ≡ U64 → h.operand ≡ top
    → swapped_by (Some Cswap) h (word w) (word v) ≡ word (if w == top then v else w)
swap_word w v h i j e f =
    ap₂ (λ ty operand. swapped_by (Some Cswap) (record h { ty = ty; operand = operand }) (word w) (word v)) e f
    ∙ ap₂ (λ x y. word (if x == top then y else x)) (pattern_word w i) (pattern_word v j)

sum_word : (w v : ℕ) → w < 2 ^ 64 → v < 2 ^ 64 → combined Sum U64 (word w) (word v) ≡ word ((w + v) % 2 ^ 64)
sum_word w v i j = ap₂ (λ x y. word ((x + y) % 2 ^ 64)) (pattern_word w i) (pattern_word v j)

module _ (k : Slots) (ranks : ℕ) (ks : List ChoiceKind) (seat : ChoiceRank) (s : ℕ) (h : s < length ks) (at_most : length ks ≤ 2 ^ 64) where
  -- the index of rank 0
  abbrev pub index_here : Index
  index_here = record { eq = None; priority = map (entry_of k) (steps ks); overflow = [] }

  abbrev pub found_here : Found
  found_here = record { list = Priority; linked = entry_of k s }

  fits_only : (m : Header) → m.match_bits ≡ s → (t : ℕ) → t < length ks → fits m (entry_of k t) ≡ true → t ≡ s
  fits_only m e t i f =
      let a : bits_match 0 m.match_bits t ≡ true =
      (and_parts (bits_match 0 m.match_bits t) true (and_parts (bits_match 0 m.match_bits t && true) true f).0).0 in
      let b : m.match_bits < 2 ^ 64 = omega (arith, e) in
      sym (match_only m.match_bits t b (omega arith) a) ∙ e

  found_entry : (m : Header) → m.match_bits ≡ s → find (fits m) (map (entry_of k) (steps ks)) ≡ Some (entry_of k s)
  found_entry m e =
      find-one (fits m) (entry_of k) (steps ks) s (In-steps ks s h)
      (ap (λ b. (b && true) && true) (ap (λ n. bits_match 0 n s) e ∙ match_own s))
      (λ t i f. fits_only m e t (steps-In ks t i) f)

  -- a request of this step is judged there
  pub chosen_here : (m : Header) → m.match_bits ≡ s → m.pt ≡ 0 → chosen m (Some index_here ∷ []) ≡ Some found_here
  chosen_here m e f =
      ap (λ n. chosen_at m (index_at n (Some index_here ∷ []))) f
      ∙ ap (λ (o : Option Linked). or_else (as_found Priority o) (if is_put_or_atomic m.kind then as_found InOverflow None else None))
      (found_entry m e)

  -- the words in the region
  word_read : part (32 * s + 0) 8 (view k ranks ks 0 seat).memory ≡ word (seat.word s)
  word_read = read_part ks s h (step_bytes ks 0 seat) 0 8 (λ t i. length-step ks 0 seat t) (omega arith)
      ∙ read_first (seat.word s) (given_word (choice_at ks s) 0) (old_of (seat.phase s)) (value_of (seat.phase s))

  word_written : (w : ℕ) → written (32 * s + 0) (word w) (view k ranks ks 0 seat).memory ≡ (view k ranks ks 0 (with_word s w seat)).memory
  word_written w =
      write_part ks s h (step_bytes ks 0 seat) (step_bytes ks 0 (with_word s w seat)) 0 (word w) (λ t i. length-step ks 0 seat t)
      (omega arith)
      (ap (λ x. four_words x (given_word (choice_at ks s) 0) (old_of (seat.phase s)) (value_of (seat.phase s))) (put-same s w seat.word)
      ∙ sym (write_first (seat.word s) (given_word (choice_at ks s) 0) (old_of (seat.phase s)) (value_of (seat.phase s)) w))
      (λ t i n. ap (λ x. four_words x (given_word (choice_at ks t) 0) (old_of (seat.phase t)) (value_of (seat.phase t)))
      (put-other s w seat.word t n))

  -- the interface with this region
  abbrev pub with_memory : List ℕ → State
  with_memory bytes = record (view k ranks ks 0 seat) { memory = bytes }

  -- what comes of it
  abbrev pub serves : ℕ → Header → List ℕ → Delivers
  serves w m bytes = delivers (view k ranks ks 0 (with_word s w seat)) Matched (Some (message (reply_header true 8 m) bytes))

  serve_elect : (k' : Slots) (r : ℕ) → seat.word s < 2 ^ 64 → r < 2 ^ 64
      → target (view k ranks ks 0 seat) (message (first_header k' ks Elect r s) (word r))
      ≡ serves (word_after Elect false r (seat.word s)) (first_header k' ks Elect r s) (word (seat.word s))
  unfolding target request
  serve_elect k' r i j =
      ap (λ f. after_request (view k ranks ks 0 seat)
      (judged (target_parts (view k ranks ks 0 seat)) (message (first_header k' ks Elect r s) (word r)) f))
      (chosen_here (first_header k' ks Elect r s) refl refl)
      ∙ ap (λ old. delivers (with_memory (written (32 * s + 0) (swapped_by (Some Cswap) (first_header k' ks Elect r s) old (word r))
      (view k ranks ks 0 seat).memory)) Matched (Some (message (reply_header true 8 (first_header k' ks Elect r s)) old))) word_read
      ∙ ap (λ bytes. delivers (with_memory (written (32 * s + 0) bytes (view k ranks ks 0 seat).memory)) Matched
      (Some (message (reply_header true 8 (first_header k' ks Elect r s)) (word (seat.word s)))))
      (swap_word (seat.word s) r (first_header k' ks Elect r s) i j refl refl)
      ∙ ap (λ memory. delivers (with_memory memory) Matched
      (Some (message (reply_header true 8 (first_header k' ks Elect r s)) (word (seat.word s)))))
      (word_written (word_after Elect false r (seat.word s)))

  serve_tickets : (k' : Slots) (r : ℕ) → seat.word s < 2 ^ 64
      → target (view k ranks ks 0 seat) (message (first_header k' ks Tickets r s) (word 1))
      ≡ serves (word_after Tickets false r (seat.word s)) (first_header k' ks Tickets r s) (word (seat.word s))
  unfolding target request
  serve_tickets k' r i =
      ap (λ f. after_request (view k ranks ks 0 seat)
      (judged (target_parts (view k ranks ks 0 seat)) (message (first_header k' ks Tickets r s) (word 1)) f))
      (chosen_here (first_header k' ks Tickets r s) refl refl)
      ∙ ap (λ old. delivers (with_memory (written (32 * s + 0) (combined Sum U64 old (word 1)) (view k ranks ks 0 seat).memory)) Matched
      (Some (message (reply_header true 8 (first_header k' ks Tickets r s)) old))) word_read
      ∙ ap (λ bytes. delivers (with_memory (written (32 * s + 0) bytes (view k ranks ks 0 seat).memory)) Matched
      (Some (message (reply_header true 8 (first_header k' ks Tickets r s)) (word (seat.word s)))))
      (sum_word (seat.word s) 1 i (omega arith))
      ∙ ap (λ memory. delivers (with_memory memory) Matched
      (Some (message (reply_header true 8 (first_header k' ks Tickets r s)) (word (seat.word s)))))
      (word_written (word_after Tickets false r (seat.word s)))

  serve_get : (k' : Slots) (c : ChoiceKind) (r : ℕ)
      → target (view k ranks ks 0 seat) (message (ask_header k' ks r s true) [])
      ≡ serves (word_after c true r (seat.word s)) (ask_header k' ks r s true) (word (seat.word s))
  unfolding target request
  serve_get k' c r =
      ap (λ f. after_request (view k ranks ks 0 seat)
      (judged (target_parts (view k ranks ks 0 seat)) (message (ask_header k' ks r s true) []) f))
      (chosen_here (ask_header k' ks r s true) refl refl)
      ∙ ap (λ old. delivers (view k ranks ks 0 seat) Matched (Some (message (reply_header true 8 (ask_header k' ks r s true)) old)))
      word_read
      ∙ ap (λ (word_of : ℕ → ℕ). delivers (view k ranks ks 0 (record seat { word = word_of })) Matched
      (Some (message (reply_header true 8 (ask_header k' ks r s true)) (word (seat.word s))))) (sym (put-again s seat.word))

  pub step_serve : (k' : Slots) (r : ℕ) (reads : Bool) → seat.word s < 2 ^ 64 → r < 2 ^ 64
      → target (view k ranks ks 0 seat) (ask_message k' ks r (ask s reads))
      ≡ delivers (view k ranks ks 0 (with_word s (word_after (choice_at ks s) reads r (seat.word s)) seat)) Matched
      (Some (answer_message k' ks r (answer s reads (seat.word s))))
  step_serve k' r true i j = serve_get k' (choice_at ks s) r
  step_serve k' r false i j = by_choice (choice_at ks s)
    where
      by_choice : (c : ChoiceKind) → target (view k ranks ks 0 seat) (message (first_header k' ks c r s) (word (given_word c r)))
          ≡ serves (word_after c false r (seat.word s)) (first_header k' ks c r s) (word (seat.word s))
      by_choice Elect = serve_elect k' r i j
      by_choice Tickets = serve_tickets k' r i
