-- Taking, computed: a rank is tried, and takes its next listed step where it is enabled.
use Rattle.std.proofs.Common.{ℕ, Bool, true, false, cond, ◌≡◌, ◌<◌, ◌==◌, List, [], ◌∷◌, ◌++◌, Option, Some, None, refl, length, drop, ap}
use Rattle.std.proofs.Common.{◌∙◌, sym, subst, map, count_by, if◌then◌else◌, eqb-true, eq-eqb}
use Rattle.std.proofs.lemmas.List.{length-map}
use Rattle.std.proofs.Math.Seq.{drop-append_seam}
use Rattle.ptl_types.specs.Messages.{Sent}
use Rattle.ptl_types.specs.declared.headers.Lane.{Lane}
use Rattle.ni_model.specs.Ready.{is_ready}
use Rattle.cuts.specs.histories.Cut.{IsPrefixOf}
use Rattle.cuts.specs.histories.History.{Local, got, is_start}
use Rattle.cuts.specs.histories.History.Local.{Start, Receive, Fire}
use Rattle.cuts.specs.histories.System.{Histories, System, sent_by, state_at}
use Rattle.cuts.specs.orders.Taking.{AreListed, MayTake, IsInterleaving, IsNext, IsStuckAt, IsTaken, Lists, Move, histories, listed}
use Rattle.ptl_types.specs.declared.steps.LocalStep.{LocalStep}
use Rattle.ptl_types.specs.declared.steps.LocalStep.TheVariants.{Start as Starts, Receive as Receives, Fire as Fires}
use Rattle.cuts.proofs.orders.Taken.{fair, IsFair}

-- the receipt of the first of the messages that are left
abbrev pub first_receipt : ℕ → Lane → List Sent → Option Local
first_receipt s lane [] = None
first_receipt s lane (m ∷ later) = Some (Receive s lane m)

-- the local step that is named so, where it is enabled
abbrev pub enabled_step : System → Histories → ℕ → LocalStep → Option Local
enabled_step k w r Starts = if count_by is_start (w r) == 0 then Some Start else None
enabled_step k w r (Receives s lane) = first_receipt s lane (drop (length (got (w r) s lane)) (sent_by k w s r lane))
enabled_step k w r (Fires t) = if is_ready (state_at k w r) t then Some (Fire t) else None

abbrev pub first_enabled : System → Histories → ℕ → List LocalStep → Option Local
first_enabled k w r [] = None
first_enabled k w r (e ∷ later) = enabled_step k w r e

-- rank r's next listed step, where it is enabled
abbrev pub next_step : System → Lists → Histories → ℕ → Option Local
next_step k lists w r = first_enabled k w r (drop (length (w r)) (lists r))

abbrev pub and_move : ℕ → Option Local → List Move → List Move
and_move r None es = es
and_move r (Some e) es = record { rank = r; step = e } ∷ es

-- rank r is tried
abbrev pub tried : System → Lists → ℕ → List Move → List Move
tried k lists r es = and_move r (next_step k lists (histories es) r) es

-- ranks are tried, one after the other
abbrev pub tried_all : System → Lists → List ℕ → List Move → List Move
tried_all k lists [] es = es
tried_all k lists (r ∷ rs) es = tried_all k lists rs (tried k lists r es)

-- ---- what is tried is taken
pub rest-behind : {A : Type 0} (xs rest ys : List A) → xs ++ rest ≡ ys → drop (length xs) ys ≡ rest
rest-behind xs rest ys e = ap (drop (length xs)) (sym e) ∙ drop-append_seam xs rest

-- an enabled step is the one that is named, and is enabled
enabled_by : (k : System) (w : Histories) (r : ℕ) (e : LocalStep) (x : Local) →
    ((s : ℕ) (lane : Lane) → IsPrefixOf (got (w r) s lane) (sent_by k w s r lane))
    → enabled_step k w r e ≡ Some x → (listed x ≡ e) × MayTake k w r x
enabled_by k w r Starts x fair h = at (count_by is_start (w r) == 0) refl h
  where
    at : (b : Bool) → (count_by is_start (w r) == 0) ≡ b → cond b (Some Start) None ≡ Some x → (listed x ≡ Starts) × MayTake k w r x
    at true q h = let e : Start ≡ x = cc in subst (λ y. (listed y ≡ Starts) × MayTake k w r y) e (refl, eqb-true _ _ q)
    at false q h = cc
enabled_by k w r (Fires t) x fair h = at (is_ready (state_at k w r) t) refl h
  where
    at : (b : Bool) → is_ready (state_at k w r) t ≡ b → cond b (Some (Fire t)) None ≡ Some x → (listed x ≡ Fires t) × MayTake k w r x
    at true q h = let e : Fire t ≡ x = cc in subst (λ y. (listed y ≡ Fires t) × MayTake k w r y) e (refl, q)
    at false q h = cc
enabled_by k w r (Receives s lane) x fair h = at (fair s lane).0 (fair s lane).1
    (ap (first_receipt s lane) (sym (rest-behind (got (w r) s lane) (fair s lane).0 (sent_by k w s r lane) (fair s lane).1)) ∙ h)
  where
    at : (rest : List Sent) → got (w r) s lane ++ rest ≡ sent_by k w s r lane → first_receipt s lane rest ≡ Some x →
        (listed x ≡ Receives s lane) × MayTake k w r x
    at [] q h = cc
    at (m ∷ later) q h = let e : Receive s lane m ≡ x = cc in subst (λ y. (listed y ≡ Receives s lane) × MayTake k w r y) e
        (refl, (later, q))

-- where none is enabled, the rank is stuck
none_enabled : (k : System) (w : Histories) (r : ℕ) (e : LocalStep) (x : Local) → enabled_step k w r e ≡ None → listed x ≡ e →
    MayTake k w r x → ⊥
none_enabled k w r e Start none named h =
    let z : Starts ≡ e = named in
    let q = ap (enabled_step k w r) z ∙ none in
    let b = ap (λ v. if v then Some Start else None) (eq-eqb (count_by is_start (w r)) 0 h) in
    cc
none_enabled k w r e (Fire t) none named h =
    let q = ap (enabled_step k w r) named ∙ none in
    let b = ap (λ v. if v then Some (Fire t) else None) h in
    cc
none_enabled k w r e (Receive s lane m) none named h =
    let q = ap (enabled_step k w r) named ∙ none in
    let b = ap (first_receipt s lane) (rest-behind (got (w r) s lane) (m ∷ h.0) (sent_by k w s r lane) h.1) in
    cc

module _ (k : System) (lists : Lists) where
  -- listed steps, taken as far as they are
  pub record IsUnderWay (es : List Move) : Type 0 where
    pub made : IsInterleaving k es
    pub listed : AreListed lists es

  next_listed : (w : Histories) (r : ℕ) → IsFair k lists w → (e : LocalStep) (later : List LocalStep) →
      drop (length (w r)) (lists r) ≡ e ∷ later → IsNext lists w r e
  next_listed w r fair e later h =
      let p = fair.spelled r in
      let q = rest-behind (map listed (w r)) p.0 (lists r) p.1 in
      let n : drop (length (map listed (w r))) (lists r) ≡ e ∷ later = ap (λ n. drop n (lists r)) (length-map (w r) listed) ∙ h in
      (later, ap (λ v. map listed (w r) ++ v) (sym n ∙ q) ∙ p.1)

  pub next_by : (w : Histories) (r : ℕ) (x : Local) → IsFair k lists w → next_step k lists w r ≡ Some x → IsNext lists w r (listed x) ×
      MayTake k w r x
  next_by w r x fair h = at (drop (length (w r)) (lists r)) refl h
    where
      at : (rest : List LocalStep) → drop (length (w r)) (lists r) ≡ rest → first_enabled k w r rest ≡ Some x →
          IsNext lists w r (listed x) × MayTake k w r x
      at [] q h = cc
      at (e ∷ later) q h =
          let b = enabled_by k w r e x (λ s lane. fair.lanes s r lane) h in
          (subst (λ f. IsNext lists w r f) (sym b.0) (next_listed w r fair e later q), b.1)

  pub none_stuck : (w : Histories) (r : ℕ) → next_step k lists w r ≡ None → IsStuckAt k lists w r
  none_stuck w r h x next enabled =
      let q = rest-behind (map listed (w r)) (listed x ∷ next.0) (lists r) next.1 in
      let n : drop (length (w r)) (lists r) ≡ listed x ∷ next.0 = ap (λ n. drop n (lists r)) (sym (length-map (w r) listed)) ∙ q in
      none_enabled k w r (listed x) x (ap (first_enabled k w r) (sym n) ∙ h) refl enabled

  pub tried-under_way : (r : ℕ) (es : List Move) → r < k.count → IsUnderWay es → IsUnderWay (tried k lists r es)
  tried-under_way r es h so = at (next_step k lists (histories es) r) refl
    where
      at : (o : Option Local) → next_step k lists (histories es) r ≡ o → IsUnderWay (and_move r o es)
      at None q = so
      at (Some x) q =
          let b = next_by (histories es) r x (fair k lists es so.made so.listed) q in
          record { made = (so.made, h, b.1); listed = (so.listed, b.0) }

  abbrev pub AllBelow : List ℕ → Type 0
  AllBelow [] = Unit {0}
  AllBelow (r ∷ rs) = (r < k.count) × AllBelow rs

  pub tried_all-under_way : (rs : List ℕ) (es : List Move) → AllBelow rs → IsUnderWay es → IsUnderWay (tried_all k lists rs es)
  tried_all-under_way [] es h so = so
  tried_all-under_way (r ∷ rs) es h so = tried_all-under_way rs (tried k lists r es) h.1 (tried-under_way r es h.0 so)

  -- what is tried until no rank has a step is what is taken
  pub taken_by : (rs : List ℕ) → AllBelow rs → ((r : ℕ) → r < k.count → next_step k lists (histories (tried_all k lists rs [])) r ≡ None)
      → IsTaken k lists (tried_all k lists rs [])
  taken_by rs h none =
      let so = tried_all-under_way rs [] h (record { made = tt; listed = tt }) in
      record { made = so.made; listed = so.listed; stuck = λ r l. none_stuck (histories (tried_all k lists rs [])) r (none r l) }
