-- Moves of an interleaving are steps from moment to moment, and the other way round.
use Rattle.std.proofs.Common.{ℕ, cond, ◌≡◌, ◌<◌, ◌≤◌, ◌==◌, List, [], ◌∷◌, ◌++◌, refl, length, ap, ap₂, ◌∙◌, sym, subst, inl, inr, filter}
use Rattle.std.proofs.Common.{map, arith, if◌then◌else◌, append-nil, append_assoc, length-append, eq-eqb}
use Rattle.std.proofs.lemmas.Bool.{cases_eq, cases_lt, ne_eqb}
use Rattle.std.proofs.lemmas.List.Elements.{filter-append}
use Rattle.ptl_types.specs.Messages.{Sent}
use Rattle.ptl_types.specs.declared.headers.Lane.{Lane}
use Rattle.plan_core.specs.Plan.{Plan}
use Rattle.plan_core.specs.Sound.{AreInputsOf, SoundPlan}
use Rattle.plan_core.specs.Values.{Inputs}
use Rattle.op_laws.specs.Combining.{CombineSwaps}
use Rattle.cuts.specs.histories.History.Local.{Start, Receive, Fire}
use Rattle.cuts.proofs.histories.Fronts.{got-append, made-append}
use Rattle.cuts.specs.histories.System.{sent_by, state_at}
use Rattle.cuts.specs.orders.Taking.{MayTake, IsInterleaving, Lists, Move, histories, listed, with_step}
use Rattle.cuts.specs.orders.Reached.IsReached.{Begun, Stepped}
use Rattle.cuts.specs.orders.Verdict.{IsVerdict, Rests}
use Rattle.cuts.specs.declared.orders.Verdict.TheVariants.{Holds}
use Rattle.cuts.proofs.orders.Parts.{got_only, same-front}
use Rattle.cuts.proofs.orders.Holding.{holds_from}
use Rattle.cuts.specs.view.Slots.{Slots}
use Rattle.cuts.specs.histories.Cut.{IsAtRest, IsCut, IsPrefixOf}
use Rattle.cuts.specs.histories.History.{Local, and_then, got, is_for, made_by, sent}
use Rattle.cuts.specs.histories.Moment.{IsLocalStep, IsMoment, IsStill, Lanes, IsEnabled as MayStep}
use Rattle.cuts.specs.histories.Plans.{system_of}
use Rattle.cuts.proofs.rest.Moments.{first_moment, next_local, still_rest}
use Rattle.op_laws.specs.Combining.{CombineStarts}
use Rattle.cuts.specs.orders.Reached.{EndsSo, IsReached}
use Rattle.cuts.specs.histories.System.{Histories, System}

module _ (k : System) where
  -- on each lane, what was received and then what is held is what was sent
  abbrev pub IsBalanced : List Move → Lanes → Type 0
  IsBalanced es held = (s d : ℕ) (lane : Lane) → got (histories es d) s lane ++ held s d lane ≡ sent_by k (histories es) s d lane

  -- what a step takes from a lane, and what it puts there
  abbrev takes : ℕ → Local → Lanes
  takes r e s d lane = if d == r then got (e ∷ []) s lane else []

  abbrev puts : List Move → ℕ → Local → Lanes
  puts es r e s d lane = if s == r then filter (is_for d lane) (and_then (made_by (state_at k (histories es) r) e) []) else []

  got-step : (es : List Move) (r : ℕ) (e : Local) (s d : ℕ) (lane : Lane) → got (with_step r e (histories es) d) s lane ≡ got
      (histories es d) s lane ++ takes r e s d lane
  got-step es r e s d lane = elim (cases_eq r d) [
    | inl h ↦ (ap (λ b. got (cond b (histories es d ++ e ∷ []) (histories es d)) s lane) (eq-eqb r d h)
        ∙ got-append (histories es d) (e ∷ []) s lane
        ∙ ap (λ b. got (histories es d) s lane ++ cond b (got (e ∷ []) s lane) []) (sym (eq-eqb d r (sym h))))
    | inr n ↦ (ap (λ b. got (cond b (histories es d ++ e ∷ []) (histories es d)) s lane) (ne_eqb r d n)
        ∙ sym (append-nil (got (histories es d) s lane))
        ∙ ap (λ b. got (histories es d) s lane ++ cond b (got (e ∷ []) s lane) []) (sym (ne_eqb d r (λ h. n (sym h)))))
  ]

  sent-step : (es : List Move) (r : ℕ) (e : Local) (s d : ℕ) (lane : Lane) → sent_by k (with_step r e (histories es)) s d lane ≡ sent_by k
      (histories es) s d lane ++ puts es r e s d lane
  sent-step es r e s d lane =
      let before = sent_by k (histories es) s d lane in
      let new = λ (q : ℕ). filter (is_for d lane) (and_then (made_by (state_at k (histories es) q) e) []) in
      elim (cases_eq r s) [
        | inl h ↦ (ap (λ b. sent (k.go s) (k.first s) (cond b (histories es s ++ e ∷ []) (histories es s)) d lane) (eq-eqb r s h)
            ∙ ap (filter (is_for d lane)) (made-append (k.go s) (k.first s) (histories es s) (e ∷ []))
            ∙ filter-append (is_for d lane) _ _
            ∙ ap (λ q. before ++ new q) (sym h)
            ∙ ap (λ b. before ++ cond b (new r) []) (sym (eq-eqb s r (sym h))))
        | inr n ↦ (ap (λ b. sent (k.go s) (k.first s) (cond b (histories es s ++ e ∷ []) (histories es s)) d lane) (ne_eqb r s n)
            ∙ sym (append-nil before)
            ∙ ap (λ b. before ++ cond b (new r) []) (sym (ne_eqb s r (λ h. n (sym h)))))
      ]

  balanced-step : (es : List Move) (r : ℕ) (e : Local) (held rest later : Lanes) → IsBalanced es held
      → ((s d : ℕ) (lane : Lane) → held s d lane ≡ takes r e s d lane ++ rest s d lane)
      → ((s d : ℕ) (lane : Lane) → later s d lane ≡ rest s d lane ++ puts es r e s d lane)
      → IsBalanced (record { rank = r; step = e } ∷ es) later
  balanced-step es r e held rest later balanced taken left s d lane =
      let g = got (histories es d) s lane in
      let t = takes r e s d lane in
      let n = puts es r e s d lane in
      ap₂ (λ a b. a ++ b) (got-step es r e s d lane) (left s d lane)
      ∙ regroup g t (rest s d lane) n
      ∙ ap (λ v. (g ++ v) ++ n) (sym (taken s d lane))
      ∙ ap (λ v. v ++ n) (balanced s d lane)
      ∙ sym (sent-step es r e s d lane)
    where
      regroup : (a b c d : List Sent) → (a ++ b) ++ (c ++ d) ≡ (a ++ (b ++ c)) ++ d
      regroup a b c d = sym (append_assoc (a ++ b) c d) ∙ ap (λ v. v ++ d) (append_assoc a b c)

  -- ---- a move is a step
  taken-front : (es : List Move) (r : ℕ) (e : Local) (held : Lanes) → IsBalanced es held → MayTake k (histories es) r e →
      (s d : ℕ) (lane : Lane) → IsPrefixOf (takes r e s d lane) (held s d lane)
  taken-front es r e held balanced enabled s d lane = elim (cases_eq d r) [
    | inr n ↦ subst (λ b. IsPrefixOf (cond b (got (e ∷ []) s lane) []) (held s d lane)) (sym (ne_eqb d r n)) (held s d lane, refl)
    | inl h ↦ subst (λ b. IsPrefixOf (cond b (got (e ∷ []) s lane) []) (held s d lane)) (sym (eq-eqb d r h))
        (subst (λ q. IsPrefixOf (got (e ∷ []) s lane) (held s q lane)) (sym h)
        (got_only e s lane (λ v. IsPrefixOf v (held s r lane)) (held s r lane, refl)
        (λ m q. let x = subst (MayTake k (histories es) r) q enabled in
        (x.0, same-front (got (histories es r) s lane) (m ∷ x.0) (held s r lane) (x.1 ∙ sym (balanced s r lane))))))
  ]

  pub may : (es : List Move) (r : ℕ) (e : Local) (held : Lanes) → IsBalanced es held → MayTake k (histories es) r e →
      ((s : ℕ) → k.count ≤ s → histories es s ≡ []) → MayStep k (histories es) held r e
  may es r Start held balanced h beyond = h
  may es r (Fire t) held balanced h beyond = h
  may es r (Receive s lane m) held balanced h beyond = elim (cases_lt s k.count) [
    | inl l ↦ (l, (h.0, sym (same-front (got (histories es r) s lane) (m ∷ h.0) (held s r lane) (h.1 ∙ sym (balanced s r lane)))))
    | inr l ↦ absurd (nothing (beyond s l))
  ]
    where
      nothing : histories es s ≡ [] → ⊥
      nothing e =
          let q : got (histories es r) s lane ++ m ∷ h.0 ≡ [] = h.1 ∙ ap (λ v. sent (k.go s) (k.first s) v r lane) e in
          let a = ap length q in
          let b = length-append (got (histories es r) s lane) (m ∷ h.0) in
          omega arith

  -- a rank that isn't one makes no move
  pub beyond : (es : List Move) → IsInterleaving k es → (s : ℕ) → k.count ≤ s → histories es s ≡ []
  beyond [] made s l = refl
  beyond (e ∷ es) made s l =
      let h = made.1 in
      ap (λ b. cond b (histories es s ++ e.step ∷ []) (histories es s)) (ne_eqb e.rank s (λ q. absurd (omega arith))) ∙ beyond es made.0 s l

  pub moves_reach : (es : List Move) → IsInterleaving k es → (held : Lanes) × IsReached k (histories es) held × IsBalanced es held
  moves_reach [] made = ((λ s d lane. []), Begun, (λ s d lane. refl))
  moves_reach (e ∷ es) made = more (moves_reach es made.0)
    where
      more : (held : Lanes) × IsReached k (histories es) held × IsBalanced es held → (held : Lanes) ×
          IsReached k (histories (e ∷ es)) held × IsBalanced (e ∷ es) held
      more x =
          let front = taken-front es e.rank e.step x.0 x.2 made.2 in
          let rest : Lanes = λ s d lane. (front s d lane).0 in
          let later : Lanes = λ s d lane. rest s d lane ++ puts es e.rank e.step s d lane in
          let taken : (s d : ℕ) (lane : Lane) → x.0 s d lane ≡ takes e.rank e.step s d lane ++ rest s d lane =
          λ s d lane. sym (front s d lane).1 in (
            later,
            Stepped x.1 (record {
              r = e.rank;
              e = e.step;
              in_range = made.1;
              enabled = may es e.rank e.step x.0 x.2 made.2 (beyond es made.0);
              rank = ap (λ b. cond b (histories es e.rank ++ e.step ∷ []) (histories es e.rank)) (eq-eqb e.rank e.rank refl);
              others = λ q n. ap (λ b. cond b (histories es q ++ e.step ∷ []) (histories es q)) (ne_eqb e.rank q (λ h. n (sym h)));
              rest = rest;
              taken = taken;
              left = λ s d lane. refl;
            }),
            balanced-step es e.rank e.step x.0 rest later x.2 taken (λ s d lane. refl),
          )

  -- ---- a step is a move
  step-enabled : (es : List Move) (r : ℕ) (e : Local) (held : Lanes) → IsBalanced es held → MayStep k (histories es) held r e →
      MayTake k (histories es) r e
  step-enabled es r Start held balanced h = h
  step-enabled es r (Fire t) held balanced h = h
  step-enabled es r (Receive s lane m) held balanced h = (h.1.0, ap (λ v. got (histories es r) s lane ++ v) (sym h.1.1) ∙ balanced s r lane)

  -- what moves stand after runs and lanes
  pub record AreMoves (w : Histories) (held : Lanes) : Type 0 where
    pub moves : List Move
    pub made : IsInterleaving k moves
    pub same : w ≡ (histories moves)
    pub balanced : IsBalanced moves held

  step-move : (w next : Histories) (held later : Lanes) → AreMoves w held → IsLocalStep k w held next later → AreMoves next later
  step-move w next held later so given = at (subst (λ v. IsLocalStep k v held next later) so.same given)
    where
      at : IsLocalStep k (histories so.moves) held next later → AreMoves next later
      at step = record {
        moves = record { rank = step.r; step = step.e } ∷ so.moves;
        made = (so.made, step.in_range, step-enabled so.moves step.r step.e held so.balanced step.enabled);
        same = λ i q. grown q i;
        balanced = balanced-step so.moves step.r step.e held step.rest later so.balanced step.taken step.left;
      }
        where
          grown : (q : ℕ) → next q ≡ (with_step step.r step.e (histories so.moves)) q
          grown q = elim (cases_eq q step.r) [
            | inl h ↦ (ap next h ∙ step.rank
                ∙ ap (λ b. cond b (histories so.moves step.r ++ step.e ∷ []) (histories so.moves step.r)) (sym (eq-eqb step.r step.r refl))
                ∙ ap (with_step step.r step.e (histories so.moves)) (sym h))
            | inr n ↦ (step.others q n
                ∙ ap (λ b. cond b (histories so.moves q ++ step.e ∷ []) (histories so.moves q)) (sym (ne_eqb step.r q (λ h. n (sym h)))))
          ]

  pub reached_moves : (w : Histories) (held : Lanes) → IsReached k w held → AreMoves w held
  reached_moves w held Begun = record { moves = []; made = tt; same = refl; balanced = λ s d lane. refl }
  reached_moves next later (Stepped {w = w} {held = held} x step) = step-move w next held later (reached_moves w held x) step

  -- ---- rest
  still-rests : (es : List Move) (held : Lanes) → IsBalanced es held → IsStill k (histories es) held → (r : ℕ) → r < k.count →
      Rests k (histories es) r
  still-rests es held balanced still r h = record {
    started = still.started r h;
    idle = λ t. still.idle r t h;
    empty = λ s lane l. sym (append-nil (got (histories es r) s lane))
        ∙ ap (λ v. got (histories es r) s lane ++ v) (sym (still.empty s r lane l h)) ∙ balanced s r lane;
  }

  rests-still : (es : List Move) (held : Lanes) → IsBalanced es held → ((r : ℕ) → r < k.count → Rests k (histories es) r) →
      IsStill k (histories es) held
  rests-still es held balanced rests = record {
    started = λ r h. (rests r h).started;
    empty = λ s d lane l h. same-front (got (histories es d) s lane) (held s d lane) []
        (balanced s d lane ∙ sym ((rests d h).empty s lane l) ∙ sym (append-nil (got (histories es d) s lane)));
    idle = λ r t h. (rests r h).idle t;
  }

  pub holds_ends : (lists : Lists) → IsVerdict k lists Holds → EndsSo k lists
  holds_ends lists v =
      let x = moves_reach v.moves v.taken.made in
      record {
        world = (histories v.moves);
        held = x.0;
        reached = x.1;
        still = rests-still v.moves x.0 x.2 (λ r h. (v.says r h).1);
        spelled = λ r h. (v.says r h).0;
      }

  pub ends_hold : (lists : Lists) → EndsSo k lists → IsVerdict k lists Holds
  ends_hold lists x =
      let y = reached_moves x.world x.held x.reached in
      holds_from k lists y.moves y.made
      (λ r h. (
        ap (λ (v : Histories). map listed (v r)) (sym y.same) ∙ x.spelled r h,
        still-rests y.moves x.held y.balanced (subst (λ v. IsStill k v x.held) y.same x.still) r h,
      ))

-- what steps reach is a moment
pub reached_moment : CombineStarts → (p : Plan) (inputs : Inputs) (slots : ℕ → Slots) → SoundPlan p (length inputs) →
    AreInputsOf p inputs → CombineSwaps → (w : Histories) (held : Lanes) → IsReached (system_of p inputs slots) w held →
    IsMoment (system_of p inputs slots) w held
reached_moment starts p inputs slots sound fit swaps w held Begun = first_moment p inputs slots
reached_moment starts p inputs slots sound fit swaps next later (Stepped {w = w} {held = held} x step) =
    next_local starts p inputs sound fit swaps slots w held (reached_moment starts p inputs slots sound fit swaps w held x) next later step

-- so orders that hold are those of a cut at rest
pub holds_complete : CombineStarts → (p : Plan) (inputs : Inputs) (slots : ℕ → Slots) (lists : Lists) → SoundPlan p (length inputs) →
    AreInputsOf p inputs → CombineSwaps → IsVerdict (system_of p inputs slots) lists Holds
    → (w : Histories) × IsCut (system_of p inputs slots) w × IsAtRest (system_of p inputs slots) w ×
    ((r : ℕ) → r < p.ranks → map listed (w r) ≡ lists r)
holds_complete starts p inputs slots lists sound fit swaps v =
    let x = holds_ends (system_of p inputs slots) lists v in
    let m = reached_moment starts p inputs slots sound fit swaps x.world x.held x.reached in
    (x.world, m.cut, still_rest p inputs slots x.world x.held m x.still, x.spelled)
