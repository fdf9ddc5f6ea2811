-- A step that is named alike leads two scenes of one moment to two scenes of one moment.
use Rattle.std.proofs.Common.{ℕ, Bool, true, false, cond, ◌==◌, ◌≡◌, ◌⊎◌, List, [], ◌∷◌, ◌++◌, refl, length, map, ap, ap₂, ◌∙◌, sym, subst}
use Rattle.std.proofs.Common.{inl, inr, arith, length-append}
use Rattle.std.proofs.lemmas.Bool.{cases_eq}
use Rattle.std.proofs.lemmas.List.{map-append}
use Rattle.ptl_types.specs.declared.headers.Lane.{Lane}
use Rattle.ptl_types.specs.declared.headers.Lane.TheVariants.{Request, Answer as AnswerLane}
use Rattle.ptl_types.specs.Messages.{Sent}
use Rattle.ni_model.specs.Ready.{is_ready}
use Rattle.plan_core.specs.Members.{In}
use Rattle.cuts.specs.histories.History.{Local}
use Rattle.cuts.specs.histories.History.Local.{Start as Started, Receive as Received, Fire as Fired}
use Rattle.cuts.specs.histories.Moment.{IsLocalStep, Lanes}
use Rattle.cuts.specs.histories.System.{Histories, System}
use Rattle.cuts.specs.orders.Chosen.{Scene, delivered, enabled_steps, step_made}
use Rattle.cuts.specs.orders.Taking.{listed, with_step}
use Rattle.cuts.specs.declared.orders.Step.{Step}
use Rattle.cuts.specs.declared.orders.Step.TheVariants.{Start, Deliver, Fire}
use Rattle.cuts.proofs.orders.Choosing.{listed_made}
use Rattle.cuts.proofs.orders.Ending.{elsewhere, here}
use Rattle.cuts.proofs.orders.Parts.{same-front}
use Rattle.coll_lang.specs.declared.choices.ChoiceKind.{ChoiceKind}
use Rattle.plan_choice.specs.texts.machine.Machine.{Moment, begun, fired, returned, taken}
use Rattle.plan_choice.specs.texts.view.Install.{Slots, seat_of, view}
use Rattle.plan_choice.proofs.texts.view.Firings.{IsFiring}
use Rattle.plan_choice.specs.texts.laws.Decided.{IsInRange, choice_system}
use Rattle.plan_choice.proofs.texts.laws.Agreement.{Agrees, Follows}
use Rattle.plan_choice.proofs.texts.laws.Resting.{agrees_step}
use Rattle.plan_choice.proofs.texts.orders.Firings.{same_step}

-- ---- a step is told by the histories that it leaves
longer : (w : Histories) (r : ℕ) (e : Local) (es : List Local) → w r ≡ es ++ e ∷ [] → es ≡ w r → ⊥
longer w r e es a b = let c = ap length (b ∙ a) in let d = length-append es (e ∷ []) in omega (arith, c, d)

-- one that leaves them as they were isn't any
no_step : (k : System) (z : Scene) → IsLocalStep k z.world z.held z.world z.held → ⊥
no_step k z step = longer z.world step.r step.e (z.world step.r) step.rank refl

pub record IsTold {k : System} {w : Histories} {held : Lanes} {next : Histories} {later : Lanes} (step : IsLocalStep k w held next later)
    (r : ℕ) (e : Local) : Type 0 where
  pub rank : step.r ≡ r
  pub is : step.e ≡ e

told : (k : System) (w : Histories) (held : Lanes) (r : ℕ) (e : Local) (later : Lanes) (step : IsLocalStep k w held (with_step r e w) later)
    → IsTold step r e
told k w held r e later step = at (cases_eq step.r r)
  where
    last : (x y : Local) → x ∷ [] ≡ y ∷ [] → x ≡ y
    last x y q = cc

    at : ((step.r ≡ r) ⊎ (step.r ≡ r → ⊥)) → IsTold step r e
    at (inl i) = record {
      rank = i;
      is = last step.e e (same-front (w step.r) (step.e ∷ []) (e ∷ [])
          (sym step.rank ∙ subst (λ v. with_step r e w v ≡ w v ++ e ∷ []) (sym i) (here r e w)));
    }
    at (inr n) = absurd (longer (with_step r e w) step.r step.e (w step.r) step.rank (sym (elsewhere r e w step.r (λ i. n (sym i)))))

-- ---- local steps grow alike
listed_alike : (w v : Histories) (r : ℕ) (e f : Local) → listed e ≡ listed f → ((q : ℕ) → map listed (w q) ≡ map listed (v q))
    → (q : ℕ) → map listed (with_step r e w q) ≡ map listed (with_step r f v q)
listed_alike w v r e f same before q = at (r == q)
  where
    at : (b : Bool) → map listed (cond b (w q ++ e ∷ []) (w q)) ≡ map listed (cond b (v q ++ f ∷ []) (v q))
    at false = before q
    at true = map-append listed (w q) (e ∷ []) ∙ ap₂ (λ xs x. xs ++ x ∷ []) (before q) same ∙ sym (map-append listed (v q) (f ∷ []))

module _ (ranks : ℕ) (ks : List ChoiceKind) (slots others : ℕ → Slots) where
  -- two scenes of one moment, whose local steps are named alike
  pub record AreTogether (z y : Scene) : Type 0 where
    pub one : Agrees ranks ks slots z.world z.held
    pub two : Agrees ranks ks others y.world y.held
    pub same : one.m ≡ two.m
    pub named : (r : ℕ) → map listed (z.world r) ≡ map listed (y.world r)

  -- ---- two moves of the machine that follow steps that are named alike
  module _ (m n : Moment) (same : m ≡ n) (p q : Moment) (r : ℕ) where
    start_alike : Follows ranks ks slots m r Started p → Follows ranks ks others n r Started q → p ≡ q
    start_alike a b = a ∙ ap (begun r) same ∙ sym b

    fire_alike : (t : ℕ) → Follows ranks ks slots m r (Fired t) p → Follows ranks ks others n r (Fired t) q → p ≡ q
    fire_alike t a b =
        let e = same_step ranks ks r (seat_of ks m r) (slots r) (others r) t a.0 b.0 a.1
        (subst (λ v. is_ready (view (others r) ranks ks r (seat_of ks v r)) t ≡ true) (sym same) b.1) a.2
        (subst (λ v. IsFiring (others r) ranks ks r (seat_of ks v r) t b.0) (sym same) b.2) in
        a.3 ∙ ap₂ (λ s v. fired r s v) e same ∙ sym b.3

    request_alike : (s : ℕ) (x y : Sent) → Follows ranks ks slots m r (Received s Request x) p
        → Follows ranks ks others n r (Received s Request y) q → p ≡ q
    request_alike s x y a b =
        let e : a.0 ∷ a.1 ≡ b.0 ∷ b.1 = sym a.2 ∙ ap (λ (v : Moment). v.asks s) same ∙ b.2 in
        let first : a.0 ≡ b.0 = cc in
        let rest : a.1 ≡ b.1 = cc in
        a.3 ∙ (λ i. taken ks s (first i) (rest i) (same i)) ∙ sym b.3

    answer_alike : (s : ℕ) (x y : Sent) → Follows ranks ks slots m r (Received s AnswerLane x) p
        → Follows ranks ks others n r (Received s AnswerLane y) q → p ≡ q
    answer_alike s x y a b =
        let e : a.0 ∷ a.1 ≡ b.0 ∷ b.1 = sym a.2 ∙ ap (λ (v : Moment). v.answers r) same ∙ b.2 in
        let first : a.0 ≡ b.0 = cc in
        let rest : a.1 ≡ b.1 = cc in
        a.3 ∙ (λ i. returned ks r (first i) (rest i) (same i)) ∙ sym b.3

  module _ (in_range : IsInRange ranks ks) (z y : Scene) (now : AreTogether z y) where
    -- the two systems
    abbrev pub ours : System
    ours = choice_system ranks ks slots

    abbrev pub theirs : System
    theirs = choice_system ranks ks others

    -- rank r makes a local step that is named alike
    alike : (r : ℕ) (e f : Local) (later left : Lanes) → listed e ≡ listed f
        → ((p q : Moment) → Follows ranks ks slots now.one.m r e p → Follows ranks ks others now.two.m r f q → p ≡ q)
        → IsLocalStep ours z.world z.held (with_step r e z.world) later → IsLocalStep theirs y.world y.held (with_step r f y.world) left
        → AreTogether (record { world = with_step r e z.world; held = later }) (record { world = with_step r f y.world; held = left })
    alike r e f later left same link a b =
        let p = agrees_step ranks ks slots in_range z.world z.held (with_step r e z.world) later now.one a in
        let q = agrees_step ranks ks others in_range y.world y.held (with_step r f y.world) left now.two b in
        let i = told ours z.world z.held r e later a in
        let j = told theirs y.world y.held r f left b in
        record {
          one = p.agrees;
          two = q.agrees;
          same = link p.agrees.m q.agrees.m
              (subst (λ v. Follows ranks ks slots now.one.m r v p.agrees.m) i.is
              (subst (λ v. Follows ranks ks slots now.one.m v a.e p.agrees.m) i.rank p.follows))
              (subst (λ v. Follows ranks ks others now.two.m r v q.agrees.m) j.is
              (subst (λ v. Follows ranks ks others now.two.m v b.e q.agrees.m) j.rank q.follows));
          named = listed_alike z.world y.world r e f same now.named;
        }

    -- what may be received is the first of a lane, which holds one
    deliver : (s d : ℕ) (lane : Lane)
        → ((m n : Sent) (p q : Moment) → Follows ranks ks slots now.one.m d (Received s lane m) p
        → Follows ranks ks others now.two.m d (Received s lane n) q → p ≡ q)
        → (ms ns : List Sent)
        → IsLocalStep ours z.world z.held (delivered ours s d lane ms z).world (delivered ours s d lane ms z).held
        → IsLocalStep theirs y.world y.held (delivered theirs s d lane ns y).world (delivered theirs s d lane ns y).held
        → AreTogether (delivered ours s d lane ms z) (delivered theirs s d lane ns y)
    deliver s d lane link [] ns a b = absurd (no_step ours z a)
    deliver s d lane link (m ∷ ms) [] a b = absurd (no_step theirs y b)
    deliver s d lane link (m ∷ ms) (n ∷ ns) a b =
        alike d (Received s lane m) (Received s lane n) (delivered ours s d lane (m ∷ ms) z).held
        (delivered theirs s d lane (n ∷ ns) y).held refl (link m n) a b

    pub together_made : (x : Step) → In x (enabled_steps ours z) → In x (enabled_steps theirs y)
        → AreTogether (step_made ours x z) (step_made theirs x y)
    together_made x i j = at x (listed_made ours z x i) (listed_made theirs y x j)
      where
        at : (x : Step) → IsLocalStep ours z.world z.held (step_made ours x z).world (step_made ours x z).held
            → IsLocalStep theirs y.world y.held (step_made theirs x y).world (step_made theirs x y).held
            → AreTogether (step_made ours x z) (step_made theirs x y)
        at (Start r) a b = alike r Started Started (step_made ours (Start r) z).held (step_made theirs (Start r) y).held refl
            (λ p q. start_alike now.one.m now.two.m now.same p q r) a b
        at (Fire r t) a b = alike r (Fired t) (Fired t) (step_made ours (Fire r t) z).held (step_made theirs (Fire r t) y).held refl
            (λ p q. fire_alike now.one.m now.two.m now.same p q r t) a b
        at (Deliver s d Request) a b = deliver s d Request (λ m n p q. request_alike now.one.m now.two.m now.same p q d s m n)
            (z.held s d Request) (y.held s d Request) a b
        at (Deliver s d AnswerLane) a b = deliver s d AnswerLane (λ m n p q. answer_alike now.one.m now.two.m now.same p q d s m n)
            (z.held s d AnswerLane) (y.held s d AnswerLane) a b
