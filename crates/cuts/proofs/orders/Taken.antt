-- What is taken of given lists doesn't depend on the order of taking.
use Rattle.std.proofs.Common.{ℕ, ◌≡◌, ◌<◌, List, [], ◌∷◌, ◌++◌, refl, ap, ◌∙◌, sym, subst, inl, inr, map, count_by, append-nil}
use Rattle.std.proofs.Common.{append_assoc, IsTrue}
use Rattle.std.proofs.lemmas.Bool.{cases_eq}
use Rattle.std.proofs.lemmas.List.{map-append}
use Rattle.ptl_types.specs.Messages.{Sent}
use Rattle.ptl_types.specs.declared.headers.Lane.{Lane}
use Rattle.ni_model.specs.Ready.{is_ready}
use Rattle.cuts.specs.histories.Cut.{IsPrefixOf}
use Rattle.cuts.specs.histories.History.{Local, got, is_start, state}
use Rattle.cuts.specs.histories.History.Local.{Start, Receive, Fire}
use Rattle.cuts.proofs.histories.Fronts.{got-append}
use Rattle.cuts.proofs.rest.Longer.{got_one}
use Rattle.cuts.specs.histories.System.{Histories, System, sent_by}
use Rattle.cuts.specs.orders.Taking.{AreListed, MayTake, IsInterleaving, IsNext, IsStuckAt, IsTaken, Lists, Move, histories, listed}
use Rattle.ptl_types.specs.declared.steps.LocalStep.TheVariants.{Fire as Fires}
use Rattle.cuts.proofs.orders.Parts.{got_only, longer, longer-else, longer-here, prefix-both, prefix-trans, same-front, sent-grows}

-- histories whose receipts are what was sent: on each lane what was received begins what was sent
pub record IsFair (k : System) (lists : Lists) (v : Histories) : Type 0 where
  pub spelled : (r : ℕ) → IsPrefixOf (map listed (v r)) (lists r)
  pub lanes : (s d : ℕ) (lane : Lane) → IsPrefixOf (got (v d) s lane) (sent_by k v s d lane)

-- ---- a step that is enabled stays enabled while other ranks go on
pub enabled-later : (k : System) (w v : Histories) (r : ℕ) (e : Local) → ((s : ℕ) → IsPrefixOf (w s) (v s)) → w r ≡ v r →
    MayTake k w r e → MayTake k v r e
enabled-later k w v r Start more same h = subst (λ x. count_by is_start x ≡ 0) same h
enabled-later k w v r (Fire t) more same h = subst (λ x. IsTrue (is_ready (state (k.go r) (k.first r) x) t)) same h
enabled-later k w v r (Receive s lane m) more same h =
    let g = sent-grows k w v s r lane (more s) in (
      h.0 ++ g.0,
      ap (λ x. got x s lane ++ m ∷ (h.0 ++ g.0)) (sym same) ∙ sym (append_assoc (got (w r) s lane) (m ∷ h.0) g.0) ∙ ap (λ x. x ++ g.0) h.1
          ∙ g.1,
    )

-- the next step of one list is one step: the message too is given by what was sent
pub same_step : (k : System) (w v : Histories) (r : ℕ) (x y : Local) (rest : List Local) → ((s : ℕ) → IsPrefixOf (w s) (v s))
    → ((s : ℕ) (lane : Lane) → IsPrefixOf (got (v r) s lane) (sent_by k v s r lane))
    → w r ++ y ∷ rest ≡ v r → listed x ≡ listed y → MayTake k w r x → x ≡ y
same_step k w v r Start Start rest more fair e l h = refl
same_step k w v r (Fire t) (Fire u) rest more fair e l h = ap Fire (let i : Fires t ≡ Fires u = l in cc)
same_step k w v r (Receive s lane m) (Receive t other n) rest more fair e l h =
    let i : s ≡ t = cc in
    let j : lane ≡ other = cc in
    let g = sent-grows k w v s r lane (more s) in
    let f = fair s lane in
    let one : got (Receive t other n ∷ []) s lane ≡ n ∷ [] = subst (λ q. got (Receive q other n ∷ []) s lane ≡ n ∷ []) i
    (subst (λ q. got (Receive s q n ∷ []) s lane ≡ n ∷ []) j (got_one s lane n)) in
    let split : got (w r) s lane ++ ((n ∷ []) ++ (got rest s lane ++ f.0)) ≡ sent_by k v s r lane =
    ap (λ q. got (w r) s lane ++ q) (sym (append_assoc (n ∷ []) (got rest s lane) f.0) ∙ ap (λ q. (q ++ got rest s lane) ++ f.0) (sym one)
    ∙ ap (λ q. q ++ f.0) (sym (got-append (Receive t other n ∷ []) rest s lane)))
    ∙ sym (append_assoc (got (w r) s lane) (got (Receive t other n ∷ rest) s lane) f.0)
    ∙ ap (λ q. q ++ f.0) (sym (got-append (w r) (Receive t other n ∷ rest) s lane) ∙ ap (λ q. got q s lane) e)
    ∙ f.1 in
    let front : got (w r) s lane ++ m ∷ (h.0 ++ g.0) ≡ sent_by k v s r lane =
    sym (append_assoc (got (w r) s lane) (m ∷ h.0) g.0) ∙ ap (λ x. x ++ g.0) h.1 ∙ g.1 in
    let q = same-front (got (w r) s lane) (m ∷ (h.0 ++ g.0)) (n ∷ (got rest s lane ++ f.0)) (front ∙ sym split) in
    let z : m ≡ n = cc in
    cc
same_step k w v r Start (Fire u) rest more fair e l h = cc
same_step k w v r Start (Receive t other n) rest more fair e l h = cc
same_step k w v r (Fire t) Start rest more fair e l h = cc
same_step k w v r (Fire t) (Receive s other n) rest more fair e l h = cc
same_step k w v r (Receive s lane m) Start rest more fair e l h = cc
same_step k w v r (Receive s lane m) (Fire t) rest more fair e l h = cc

-- ---- moves of an interleaving are fair
got-longer : (h : List Local) (x : Local) (s : ℕ) (lane : Lane) (sent : List Sent) → IsPrefixOf (got h s lane) sent
    → ((m : Sent) → x ≡ Receive s lane m → IsPrefixOf (got h s lane ++ m ∷ []) sent) → IsPrefixOf (got (h ++ x ∷ []) s lane) sent
got-longer h x s lane sent p now = subst (λ v. IsPrefixOf v sent) (sym (got-append h (x ∷ []) s lane))
    (got_only x s lane (λ v. IsPrefixOf (got h s lane ++ v) sent) (subst (λ v. IsPrefixOf v sent) (sym (append-nil (got h s lane))) p) now)

enabled-message : (k : System) (w : Histories) (r s : ℕ) (lane : Lane) (m : Sent) (x : Local) → MayTake k w r x → x ≡ Receive s lane m →
    IsPrefixOf (got (w r) s lane ++ m ∷ []) (sent_by k w s r lane)
enabled-message k w r s lane m x h e =
    let q = subst (MayTake k w r) e h in
    (q.0, append_assoc (got (w r) s lane) (m ∷ []) q.0 ∙ q.1)

fair-longer : (k : System) (lists : Lists) (e : Move) (es : List Move) → IsFair k lists (histories es) →
    IsNext lists (histories es) e.rank (listed e.step) → MayTake k (histories es) e.rank e.step → IsFair k lists (histories (e ∷ es))
fair-longer k lists e es before next enabled = record { spelled = spelled; lanes = lanes }
  where
    spelled : (r : ℕ) → IsPrefixOf (map listed (histories (e ∷ es) r)) (lists r)
    spelled r = elim (cases_eq e.rank r) [
      | inr n ↦ subst (λ h. IsPrefixOf (map listed h) (lists r)) (sym (longer-else e es r n)) (before.spelled r)
      | inl h ↦ subst (λ h. IsPrefixOf (map listed h) (lists r)) (sym (longer-here e es r h))
          (let n = subst (λ q. IsNext lists (histories es) q (listed e.step)) h next in (
            n.0,
            ap (λ v. v ++ n.0) (map-append listed (histories es r) (e.step ∷ []))
                ∙ append_assoc (map listed (histories es r)) (listed e.step ∷ []) n.0 ∙ n.1,
          ))
    ]

    lanes : (s d : ℕ) (lane : Lane) → IsPrefixOf (got (histories (e ∷ es) d) s lane) (sent_by k (histories (e ∷ es)) s d lane)
    lanes s d lane = prefix-trans (got (histories (e ∷ es) d) s lane) (sent_by k (histories es) s d lane)
        (sent_by k (histories (e ∷ es)) s d lane)
        (elim (cases_eq e.rank d) [
          | inr n ↦ subst (λ h. IsPrefixOf (got h s lane) (sent_by k (histories es) s d lane)) (sym (longer-else e es d n))
              (before.lanes s d lane)
          | inl h ↦ subst (λ h. IsPrefixOf (got h s lane) (sent_by k (histories es) s d lane)) (sym (longer-here e es d h))
              (got-longer (histories es d) e.step s lane (sent_by k (histories es) s d lane) (before.lanes s d lane)
              (λ m q. enabled-message k (histories es) d s lane m e.step (subst (λ r. MayTake k (histories es) r e.step) h enabled) q))
        ])
        (sent-grows k (histories es) (histories (e ∷ es)) s d lane (longer e es s))

pub fair : (k : System) (lists : Lists) (es : List Move) → IsInterleaving k es → AreListed lists es → IsFair k lists (histories es)
fair k lists [] made told = record { spelled = λ r. (lists r, refl); lanes = λ s d lane. ([], refl) }
fair k lists (e ∷ es) made told = fair-longer k lists e es (fair k lists es made.0 told.0) told.1 made.2

-- ---- what is taken in any order is a part of what is taken in any other order that goes as far as it can
module _ (k : System) (lists : Lists) (v : Histories) (fair : IsFair k lists v) (stuck : (r : ℕ) → r < k.count → IsStuckAt k lists v r)
  where
    one_more : (r : ℕ) (x : Local) (w : Histories) → ((s : ℕ) → IsPrefixOf (w s) (v s)) → r < k.count → IsNext lists w r (listed x) →
        MayTake k w r x → IsPrefixOf (w r ++ x ∷ []) (v r)
    one_more r x w below h next enabled = at (below r).0 (below r).1
      where
        at : (rest : List Local) → w r ++ rest ≡ v r → IsPrefixOf (w r ++ x ∷ []) (v r)
        at [] e =
            let same : w r ≡ v r = sym (append-nil (w r)) ∙ e in
            absurd (stuck r h x (next.0, ap (λ q. map listed q ++ listed x ∷ next.0) (sym same) ∙ next.1)
            (enabled-later k w v r x below same enabled))
        at (y ∷ rest) e =
            let f = fair.spelled r in
            let spelled : map listed (w r) ++ (listed y ∷ (map listed rest ++ f.0)) ≡ lists r =
            sym (append_assoc (map listed (w r)) (map listed (y ∷ rest)) f.0)
            ∙ ap (λ q. q ++ f.0) (sym (map-append listed (w r) (y ∷ rest)) ∙ ap (map listed) e)
            ∙ f.1 in
            let q = same-front (map listed (w r)) (listed x ∷ next.0) (listed y ∷ (map listed rest ++ f.0)) (next.1 ∙ sym spelled) in
            let l : listed x ≡ listed y = cc in
            let z = same_step k w v r x y rest below (λ s lane. fair.lanes s r lane) e l enabled in
            (rest, append_assoc (w r) (x ∷ []) rest ∙ ap (λ q. w r ++ q ∷ rest) z ∙ e)

    pub part : (es : List Move) → IsInterleaving k es → AreListed lists es → (r : ℕ) → IsPrefixOf (histories es r) (v r)
    part [] made told r = (v r, refl)
    part (e ∷ es) made told r = elim (cases_eq e.rank r) [
      | inr n ↦ subst (λ h. IsPrefixOf h (v r)) (sym (longer-else e es r n)) (part es made.0 told.0 r)
      | inl h ↦ subst (λ q. IsPrefixOf q (v r)) (sym (longer-here e es r h))
          (subst (λ q. IsPrefixOf (histories es q ++ e.step ∷ []) (v q)) h
          (one_more e.rank e.step (histories es) (λ s. part es made.0 told.0 s) made.1 told.1 made.2))
    ]

-- two takings that go as far as they can take the same, messages and all
pub same_taken : (k : System) (lists : Lists) (es fs : List Move) → IsTaken k lists es → IsTaken k lists fs → (r : ℕ) →
    histories es r ≡ histories fs r
same_taken k lists es fs a b r = prefix-both (histories es r) (histories fs r)
    (part k lists (histories fs) (fair k lists fs b.made b.listed) b.stuck es a.made a.listed r)
    (part k lists (histories es) (fair k lists es a.made a.listed) a.stuck fs b.made b.listed r)
