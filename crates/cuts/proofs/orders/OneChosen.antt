-- Whatever slots the tables gave out, the same words choose the same steps.
use Rattle.std.proofs.Common.{ℕ, zero, suc, cond, ◌%◌, ◌+◌, ◌≡◌, ◌<◌, ◌≤◌, List, [], ◌∷◌, ◌++◌, refl, length, map, flat_map, get_or}
use Rattle.std.proofs.Common.{count_by, ap, ap₂, ◌∙◌, sym, inl, inr, arith, append-nil, length-append, nat_lt, eq-eqb}
use Rattle.std.proofs.lemmas.Bool.{cases_eq, cases_lt, ne_eqb}
use Rattle.std.proofs.lemmas.List.{map-append}
use Rattle.ptl_types.specs.Messages.{Sent}
use Rattle.ptl_types.specs.declared.headers.Lane.{Lane}
use Rattle.ptl_types.specs.declared.headers.Lane.TheVariants.{Answer, Request}
use Rattle.ptl_types.specs.declared.steps.LocalStep.{LocalStep}
use Rattle.ni_model.specs.Ready.{is_ready, ready_numbers}
use Rattle.ni_model.specs.State.{Posted}
use Rattle.op_laws.specs.Combining.{CombineStarts, CombineSwaps}
use Rattle.plan_core.specs.Members.{In}
use Rattle.plan_core.specs.Plan.{Plan, from_to}
use Rattle.plan_core.specs.Sound.{AreInputsOf, SoundPlan}
use Rattle.plan_core.specs.Values.{Inputs}
use Rattle.plan_core.proofs.Lists.{In-filter_cases, length-map'}
use Rattle.cuts.specs.view.Slots.{Slots}
use Rattle.cuts.specs.histories.History.{Local, got, sent}
use Rattle.cuts.specs.histories.History.Local.{Start as Started, Receive as Received, Fire as Fired}
use Rattle.cuts.specs.histories.Moment.{Lanes}
use Rattle.cuts.specs.histories.Plans.{system_of}
use Rattle.cuts.specs.histories.System.{Histories, System, sent_by, state_at}
use Rattle.cuts.proofs.histories.Traffic.{to_came}
use Rattle.cuts.specs.orders.Chosen.{IsChosen, Scene, choose, chosen, deliveries_between, delivered, enabled_steps, firings_at, first_of}
use Rattle.cuts.specs.orders.Chosen.{start_at, step_made}
use Rattle.cuts.specs.orders.Rising.{Rises}
use Rattle.cuts.specs.orders.Taking.{IsInterleaving, IsTaken, Lists, Move, histories, listed, with_step}
use Rattle.cuts.specs.declared.orders.Step.{Step}
use Rattle.cuts.specs.declared.orders.Step.TheVariants.{Start, Deliver, Fire}
use Rattle.cuts.proofs.orders.Choosing.{below, chosen_reached, ready_listed}
use Rattle.cuts.proofs.orders.Holding.{are_listed}
use Rattle.cuts.proofs.orders.Rising.{ready_rise}
use Rattle.cuts.proofs.orders.Slotless.{Alike, Made, bares, cut_of, is_begin, same_answers, same_asks, same_listed, same_ready}
use Rattle.cuts.proofs.orders.Slotless.{same_requests, same_told, starts-bare, Translated, translated}
use Rattle.cuts.proofs.orders.Steps.{AreMoves, IsBalanced, beyond, reached_moves}
use Rattle.cuts.proofs.orders.Taken.{same_taken}
use Rattle.cuts.proofs.orders.Verdicts.{not_whole}

-- ---- lists
flat-same : {X Y : Type 0} (f g : X → List Y) (xs : List X) → ((x : X) → In x xs → f x ≡ g x) → flat_map f xs ≡ flat_map g xs
flat-same f g [] h = refl
flat-same f g (x ∷ xs) h = ap₂ (λ u v. u ++ v) (h x (inl refl)) (flat-same f g xs (λ y i. h y (inr i)))

-- rising numbers are told by their members
rising-same : (xs ys : List ℕ) → Rises xs → Rises ys → ((t : ℕ) → In t xs → In t ys) → ((t : ℕ) → In t ys → In t xs) → xs ≡ ys
rising-same [] [] a b to back = refl
rising-same [] (y ∷ ys) a b to back = absurd (back y (inl refl))
rising-same (x ∷ xs) [] a b to back = absurd (to x (inl refl))
rising-same (x ∷ xs) (y ∷ ys) a b to back = ap₂ (λ v vs. v ∷ vs) first (rising-same xs ys a.1 b.1 forth again)
  where
    first : x ≡ y
    first = elim (to x (inl refl)) [
      | inl e ↦ sym e
      | inr i ↦ elim (back y (inl refl)) [
        | inl e ↦ e
        | inr j ↦ absurd (let m = b.0 x i in let n = a.0 y j in omega (arith, m, n))
      ]
    ]

    forth : (t : ℕ) → In t xs → In t ys
    forth t i = elim (to t (inr i)) [
      | inr j ↦ j
      | inl e ↦ absurd (let m = a.0 t i in let n = first in omega (arith, e, m, n))
    ]

    again : (t : ℕ) → In t ys → In t xs
    again t i = elim (back t (inr i)) [
      | inr j ↦ j
      | inl e ↦ absurd (let m = b.0 t i in let n = first in omega (arith, e, m, n))
    ]

-- whether there is a first message is told by how many there are
first-same : (s d : ℕ) (lane : Lane) (ms ns : List Sent) → length ms ≡ length ns → first_of s d lane ms ≡ first_of s d lane ns
first-same s d lane [] [] e = refl
first-same s d lane (m ∷ ms) (n ∷ ns) e = refl
first-same s d lane [] (n ∷ ns) e = absurd (omega (arith, e))
first-same s d lane (m ∷ ms) [] e = absurd (omega (arith, e))

-- ---- an interleaving is told by its lists
taken_whole : (k : System) (lists : Lists) (es : List Move) → IsInterleaving k es → ((r : ℕ) → map listed (histories es r) ≡ lists r) →
    IsTaken k lists es
taken_whole k lists es made whole = record {
  made = made;
  listed = are_listed k lists es made (λ r h. ([], append-nil (map listed (histories es r)) ∙ whole r));
  stuck = λ r h e next enabled. not_whole (map listed (histories es r)) (lists r) next.0 (listed e) (whole r) next.1;
}

told_by_lists : (k : System) (es fs : List Move) → IsInterleaving k es → IsInterleaving k fs
    → ((r : ℕ) → map listed (histories es r) ≡ map listed (histories fs r)) → (r : ℕ) → histories es r ≡ histories fs r
told_by_lists k es fs made other same r =
    same_taken k (λ q. map listed (histories fs q)) es fs
    (taken_whole k (λ q. map listed (histories fs q)) es made same)
    (taken_whole k (λ q. map listed (histories fs q)) fs other (λ q. refl)) r

-- ---- where no step is left the run stands still
still : (k : System) (words : ℕ → ℕ) (m : ℕ) → enabled_steps k (chosen k words m) ≡ [] → (n : ℕ) → m ≤ n →
    chosen k words n ≡ chosen k words m
still k words m e zero h = let q : zero ≡ m = omega (arith, h) in ap (chosen k words) q
still k words m e (suc n) h = elim (cases_lt n m) [
  | inl l ↦ (let q : suc n ≡ m = omega (arith, h, l) in ap (chosen k words) q)
  | inr l ↦ (ap (λ z. choose k (enabled_steps k z) (words n) z) (still k words m e n l)
      ∙ ap (λ xs. choose k xs (words n) (chosen k words m)) e)
]

-- ---- two moments whose steps are alike
module _ (starts : CombineStarts) (p : Plan) (inputs : Inputs) (sound : SoundPlan p (length inputs)) (fit : AreInputsOf p inputs)
    (swaps : CombineSwaps) where
  abbrev scene_of : List Move → Lanes → Scene
  scene_of es held = record { world = histories es; held = held }

  module _ (k l : ℕ → Slots) (es fs : List Move) (made : Made starts p inputs sound fit swaps k es)
      (other : Made starts p inputs sound fit swaps l fs)
      (same : Alike starts p inputs sound fit swaps es fs) (held left : Lanes)
      (here : IsBalanced (system_of p inputs k) es held) (there : IsBalanced (system_of p inputs l) fs left) where
    back : Alike starts p inputs sound fit swaps fs es
    back r = sym (same r)

    as_many_got : (s d : ℕ) (lane : Lane) → length (got (histories es d) s lane) ≡ length (got (histories fs d) s lane)
    as_many_got s d Request =
        sym (length-map' to_came (got (histories es d) s Request))
        ∙ ap length (same_asks starts p inputs sound fit swaps k l es fs made other same s d)
        ∙ length-map' to_came (got (histories fs d) s Request)
    as_many_got s d Answer = same_told starts p inputs sound fit swaps k l es fs made other same s d

    as_many_sent : (s d : ℕ) (lane : Lane) → s < p.ranks
        → length (sent_by (system_of p inputs k) (histories es) s d lane) ≡ length (sent_by (system_of p inputs l) (histories fs) s d lane)
    as_many_sent s d Request h =
        sym (length-map' to_came (sent_by (system_of p inputs k) (histories es) s d Request))
        ∙ ap length (same_requests starts p inputs sound fit swaps k l es fs made other same s d h)
        ∙ length-map' to_came (sent_by (system_of p inputs l) (histories fs) s d Request)
    as_many_sent s d Answer h = same_answers starts p inputs sound fit swaps k l es fs made other same s d h

    -- a rank that isn't one sends nothing
    none_sent : (q : ℕ → Slots) (gs : List Move) → Made starts p inputs sound fit swaps q gs → (s d : ℕ) (lane : Lane) → p.ranks ≤ s
        → length (sent_by (system_of p inputs q) (histories gs) s d lane) ≡ 0
    none_sent q gs g s d lane h =
        ap (λ es. length (sent ((system_of p inputs q).go s) ((system_of p inputs q).first s) es d lane))
        (beyond (system_of p inputs q) gs g s h)

    as_many_held : (s d : ℕ) (lane : Lane) → length (held s d lane) ≡ length (left s d lane)
    as_many_held s d lane = elim (cases_lt s p.ranks) [
      | inl h ↦ (let e = as_many_sent s d lane h in omega (arith, a, b, c, m, n, e))
      | inr h ↦ (let e = none_sent k es made s d lane h in let f = none_sent l fs other s d lane h in omega (arith, a, b, m, n, e, f))
    ]
      where
        a : length (got (histories es d) s lane ++ held s d lane) ≡ length (sent_by (system_of p inputs k) (histories es) s d lane)
        a = ap length (here s d lane)

        b : length (got (histories fs d) s lane ++ left s d lane) ≡ length (sent_by (system_of p inputs l) (histories fs) s d lane)
        b = ap length (there s d lane)

        c : length (got (histories es d) s lane) ≡ length (got (histories fs d) s lane)
        c = as_many_got s d lane

        m : length (got (histories es d) s lane ++ held s d lane) ≡ length (got (histories es d) s lane) + length (held s d lane)
        m = length-append (got (histories es d) s lane) (held s d lane)

        n : length (got (histories fs d) s lane ++ left s d lane) ≡ length (got (histories fs d) s lane) + length (left s d lane)
        n = length-append (got (histories fs d) s lane) (left s d lane)

    same_starts : (r : ℕ) → start_at (scene_of es held) r ≡ start_at (scene_of fs left) r
    same_starts r =
        ap (λ n. cond (nat_lt 0 n) [] (Start r ∷ []))
        (starts-bare (histories es r) ∙ ap (count_by is_begin) (same r) ∙ sym (starts-bare (histories fs r)))

    same_deliveries : (s d : ℕ) → deliveries_between (scene_of es held) s d ≡ deliveries_between (scene_of fs left) s d
    same_deliveries s d =
        ap₂ (λ u v. u ++ v)
        (first-same s d Request (held s d Request) (left s d Request) (as_many_held s d Request))
        (first-same s d Answer (held s d Answer) (left s d Answer) (as_many_held s d Answer))

    same_numbers : (r : ℕ) → r < p.ranks
        → ready_numbers (state_at (system_of p inputs k) (histories es) r) ≡ ready_numbers
        (state_at (system_of p inputs l) (histories fs) r)
    same_numbers r h =
        rising-same _ _
        (ready_rise starts p inputs sound fit k (histories es) (cut_of starts p inputs sound fit swaps k es made) r h)
        (ready_rise starts p inputs sound fit l (histories fs) (cut_of starts p inputs sound fit swaps l fs other) r h)
        (λ t i. ready_listed (system_of p inputs l) (scene_of fs left) (state_at (system_of p inputs l) (histories fs) r) t
        (same_ready starts p inputs sound fit swaps k l es fs made other same r t h
        (In-filter_cases (is_ready (state_at (system_of p inputs k) (histories es) r)) t
        (map (λ (x : Posted). x.number) (state_at (system_of p inputs k) (histories es) r).pending.waiting) i).1))
        (λ t i. ready_listed (system_of p inputs k) (scene_of es held) (state_at (system_of p inputs k) (histories es) r) t
        (same_ready starts p inputs sound fit swaps l k fs es other made back r t h
        (In-filter_cases (is_ready (state_at (system_of p inputs l) (histories fs) r)) t
        (map (λ (x : Posted). x.number) (state_at (system_of p inputs l) (histories fs) r).pending.waiting) i).1))

    pub same_enabled : enabled_steps (system_of p inputs k) (scene_of es held) ≡ enabled_steps (system_of p inputs l) (scene_of fs left)
    same_enabled =
        ap₂ (λ u v. u ++ v)
        (flat-same (start_at (scene_of es held)) (start_at (scene_of fs left)) (from_to 0 p.ranks) (λ r i. same_starts r))
        (ap₂ (λ u v. u ++ v)
        (flat-same (λ s. flat_map (deliveries_between (scene_of es held) s) (from_to 0 p.ranks))
        (λ s. flat_map (deliveries_between (scene_of fs left) s) (from_to 0 p.ranks)) (from_to 0 p.ranks)
        (λ s i. flat-same (deliveries_between (scene_of es held) s) (deliveries_between (scene_of fs left) s) (from_to 0 p.ranks)
        (λ d j. same_deliveries s d)))
        (flat-same (firings_at (system_of p inputs k) (scene_of es held)) (firings_at (system_of p inputs l) (scene_of fs left))
        (from_to 0 p.ranks)
        (λ r i. ap (map (Fire r)) (same_numbers r (below p.ranks r i)))))

    abbrev words_of : Histories → ℕ → List LocalStep
    words_of w r = map listed (w r)

    longer : (q : ℕ) (e f : Local) → listed e ≡ listed f → ((r : ℕ) → words_of (histories es) r ≡ words_of (histories fs) r)
        → (r : ℕ) → words_of (with_step q e (histories es)) r ≡ words_of (with_step q f (histories fs)) r
    longer q e f g before r = elim (cases_eq q r) [
      | inl h ↦ (ap (λ b. map listed (cond b (histories es r ++ e ∷ []) (histories es r))) (eq-eqb q r h)
          ∙ map-append listed (histories es r) (e ∷ [])
          ∙ ap₂ (λ v x. v ++ x ∷ []) (before r) g
          ∙ sym (map-append listed (histories fs r) (f ∷ []))
          ∙ sym (ap (λ b. map listed (cond b (histories fs r ++ f ∷ []) (histories fs r))) (eq-eqb q r h)))
      | inr h ↦ (ap (λ b. map listed (cond b (histories es r ++ e ∷ []) (histories es r))) (ne_eqb q r h)
          ∙ before r
          ∙ sym (ap (λ b. map listed (cond b (histories fs r ++ f ∷ []) (histories fs r))) (ne_eqb q r h)))
    ]

    before : (r : ℕ) → words_of (histories es) r ≡ words_of (histories fs) r
    before r = same_listed starts p inputs sound fit swaps k l es fs made other same r

    same_growth : (x : Step) (r : ℕ) → words_of (step_made (system_of p inputs k) x (scene_of es held)).world r ≡ words_of
        (step_made (system_of p inputs l) x (scene_of fs left)).world r
    same_growth (Start q) r = longer q Started Started refl before r
    same_growth (Fire q t) r = longer q (Fired t) (Fired t) refl before r
    same_growth (Deliver s d lane) r = at (held s d lane) (left s d lane) (as_many_held s d lane)
      where
        at : (ms ns : List Sent) → length ms ≡ length ns
            → words_of (delivered (system_of p inputs k) s d lane ms (scene_of es held)).world r ≡ words_of
            (delivered (system_of p inputs l) s d lane ns (scene_of fs left)).world r
        at [] [] e = before r
        at (m ∷ ms) (n ∷ ns) e = longer d (Received s lane m) (Received s lane n) refl before r
        at [] (n ∷ ns) e = absurd (omega (arith, e))
        at (m ∷ ms) [] e = absurd (omega (arith, e))

    pub same_choice : (word r : ℕ)
        → words_of (choose (system_of p inputs k) (enabled_steps (system_of p inputs k) (scene_of es held)) word (scene_of es held)).world r
        ≡ words_of (choose (system_of p inputs l) (enabled_steps (system_of p inputs l) (scene_of fs left)) word (scene_of fs left)).world r
    same_choice word r =
        at (enabled_steps (system_of p inputs k) (scene_of es held))
        ∙ ap (λ xs. words_of (choose (system_of p inputs l) xs word (scene_of fs left)).world r) same_enabled
      where
        at : (xs : List Step) → words_of (choose (system_of p inputs k) xs word (scene_of es held)).world r ≡ words_of
            (choose (system_of p inputs l) xs word (scene_of fs left)).world r
        at [] = before r
        at (x ∷ xs) = same_growth (get_or (x ∷ xs) (word % length (x ∷ xs)) x) r

  -- ---- after so many words
  module _ (k l : ℕ → Slots) (words : ℕ → ℕ) where
    abbrev run_of : (ℕ → Slots) → ℕ → Scene
    run_of q n = chosen (system_of p inputs q) words n

    abbrev Same : ℕ → Type 0
    Same n = (r : ℕ) → map listed ((run_of k n).world r) ≡ map listed ((run_of l n).world r)

    next_chosen : (n : ℕ) → Same n → Same (suc n)
    next_chosen n before r =
        ap (λ (w : Histories). map listed ((choose (system_of p inputs k)
        (enabled_steps (system_of p inputs k) (record { world = w; held = (run_of k n).held })) (words n)
        (record { world = w; held = (run_of k n).held })).world r)) one.same
        ∙ same_choice k l one.moves two.moves one.made two.made alike (run_of k n).held (run_of l n).held one.balanced two.balanced
        (words n) r
        ∙ sym (ap (λ (w : Histories). map listed ((choose (system_of p inputs l)
        (enabled_steps (system_of p inputs l) (record { world = w; held = (run_of l n).held })) (words n)
        (record { world = w; held = (run_of l n).held })).world r)) two.same)
      where
        one : AreMoves (system_of p inputs k) (run_of k n).world (run_of k n).held
        one = reached_moves (system_of p inputs k) (run_of k n).world (run_of k n).held (chosen_reached (system_of p inputs k) words n)

        two : AreMoves (system_of p inputs l) (run_of l n).world (run_of l n).held
        two = reached_moves (system_of p inputs l) (run_of l n).world (run_of l n).held (chosen_reached (system_of p inputs l) words n)

        alike : Alike starts p inputs sound fit swaps one.moves two.moves
        alike q = at (translated starts p inputs sound fit swaps k l (λ s. map listed (histories one.moves s)) one.moves one.made
            (are_listed (system_of p inputs k) (λ s. map listed (histories one.moves s)) one.moves one.made
            (λ s h. ([], append-nil (map listed (histories one.moves s))))))
          where
            at : Translated starts p inputs sound fit swaps k l (λ s. map listed (histories one.moves s)) one.moves →
                bares (histories one.moves q) ≡ bares (histories two.moves q)
            at t =
                t.alike q
                ∙ ap bares (told_by_lists (system_of p inputs l) t.moves two.moves t.made two.made
                (λ s. sym (same_listed starts p inputs sound fit swaps k l one.moves t.moves one.made t.made t.alike s)
                ∙ ap (λ (w : Histories). map listed (w s)) (sym one.same)
                ∙ before s
                ∙ ap (λ (w : Histories). map listed (w s)) two.same) q)

    same_chosen : (n : ℕ) → Same n
    same_chosen zero r = refl
    same_chosen (suc n) r = next_chosen n (same_chosen n) r

    pub one_chosen : (one other : Histories) → IsChosen (system_of p inputs k) words one → IsChosen (system_of p inputs l) words other
        → (r : ℕ) → r < p.ranks → map listed (one r) ≡ map listed (other r)
    one_chosen one other a b r h = elim (cases_lt a.steps b.steps) [
      | inl e ↦ (ap (map listed) (a.world r h)
          ∙ sym (ap (λ (z : Scene). map listed (z.world r)) (still (system_of p inputs k) words a.steps a.ended b.steps (omega (arith, e))))
          ∙ same_chosen b.steps r
          ∙ sym (ap (map listed) (b.world r h)))
      | inr e ↦ (ap (map listed) (a.world r h)
          ∙ same_chosen a.steps r
          ∙ ap (λ (z : Scene). map listed (z.world r)) (still (system_of p inputs l) words b.steps b.ended a.steps e)
          ∙ sym (ap (map listed) (b.world r h)))
    ]
