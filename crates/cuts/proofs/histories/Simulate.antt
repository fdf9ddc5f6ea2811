-- The history of an installed interface is the history of its plan's machine, whatever its slots and the order of its steps.
use Rattle.std.proofs.Common.{ℕ, Bool, true, false, cond, not, ◌||◌, ◌/◌, ◌^◌, ◌%◌, ◌≡◌, ◌<◌, ◌⊎◌, ◌==◌, List, [], ◌∷◌, refl, length, ap}
use Rattle.std.proofs.Common.{ap₂, ◌∙◌, sym, subst, inl, inr, map, find, Option, Some, None, eqb-true, eq-eqb, if◌then◌else◌}
use Rattle.std.proofs.lemmas.Bool.{and_right, and_parts, not-true}
use Rattle.ptl_types.specs.declared.headers.Header.{Header}
use Rattle.ptl_types.specs.Messages.{Sent}
use Rattle.ptl_types.specs.declared.headers.AckRequest.TheVariants.{CtAck}
use Rattle.ptl_types.specs.declared.headers.Lane.TheVariants.{Answer, Request}
use Rattle.plan_core.specs.Members.{In}
use Rattle.ptl_types.specs.Kinds.{is_no_ack, is_put_or_atomic}
use Rattle.ni_model.specs.State.{Delivers, target}
use Rattle.ni_model.specs.Ready.{Fires}
use Rattle.cuts.proofs.histories.Origin.{ack_with}
use Rattle.plan_core.specs.Plan.{Plan, link}
use Rattle.plan_core.specs.Sound.{SoundPlan}
use Rattle.plan_core.specs.Values.{Inputs}
use Rattle.cuts.specs.view.View.{Annex, view, raise_go}
use Rattle.cuts.specs.view.Slots.{Slots, cell_ct}
use Rattle.cuts.specs.view.TriggeredOps.{link_header, link_message}
use Rattle.plan_core.specs.calls.RankOps.{number_of, RankOp, rank_ops}
use Rattle.cuts.specs.machine.Seen.{Seen}
use Rattle.plan_core.specs.calls.RankOps.RankOp.{ForLink, ForDone}
use Rattle.cuts.specs.machine.Machine.{MayMove, Move, Moves, note, note_work, seen, source_rank}
use Rattle.cuts.specs.machine.Machine.Move.{Began, Did, Heard, Strayed, Took}
use Rattle.cuts.specs.histories.History.{Legal, Local, May, after, and_then, Beginning, is_start, made, made_by, state}
use Rattle.cuts.specs.histories.History.Local.{Fire, Receive, Start}
use Rattle.cuts.specs.histories.Cut.{is_stray}
use Rattle.cuts.proofs.view.Tables.{number_of-one}
use Rattle.cuts.specs.view.Steps.{IsAckHere, IsLinkHere, IsQuiet, Sized, sent_message}
use Rattle.cuts.proofs.view.StepFire.{ready_work, step_fire, step_start}
use Rattle.cuts.proofs.view.StepArrive.{bits-job, due-here, step_ack, step_link, step_stray}
use Rattle.cuts.proofs.start.Sized.{sized_took}
use Rattle.ptl_types.specs.declared.handles.Handle.{Handle}

-- a start that raises the go counter alone: after a rank's start it is of no matter what a start does
abbrev pub go_up : Handle → Beginning
go_up go = record { by = raise_go go; rank = λ s. refl; pending = λ s. refl }

-- ---- what a rank receives in a cut
pub record IsLink (p : Plan) (k : ℕ → Slots) (r : ℕ) (m : Sent) : Type 0 where
  pub l : ℕ
  pub here : IsLinkHere p r l
  pub header : m.header ≡ link_header p (k (source_rank p l)) l
  pub size : length m.bytes ≡ (link p l).length

abbrev pub Conforms : Plan → (ℕ → Slots) → ℕ → Local → Type 0
Conforms p k r Start = Unit {0}
Conforms p k r (Receive source Request m) = (is_stray m ≡ true) ⊎ IsLink p k r m
Conforms p k r (Receive source Answer m) = IsAckHere (k r) m
Conforms p k r (Fire t) = Unit {0}

abbrev pub AllConform : Plan → (ℕ → Slots) → ℕ → List Local → Type 0
AllConform p k r [] = Unit {0}
AllConform p k r (e ∷ es) = Conforms p k r e × AllConform p k r es

-- ---- its moves
abbrev pub work_numbered : Plan → ℕ → ℕ → Option RankOp
work_numbered p r t = find (λ w. number_of p r w == t) (rank_ops p r)

abbrev pub did : Option RankOp → Move
did None = Began
did (Some w) = Did w

abbrev pub move_of : Plan → ℕ → Local → Move
move_of p r Start = Began
move_of p r (Receive source Request m) = if is_stray m then Strayed else Took m.header.hdr_data m.bytes
move_of p r (Receive source Answer m) = Heard m.header.ok
move_of p r (Fire t) = did (work_numbered p r t)

abbrev pub moves_of : Plan → ℕ → List Local → List Move
moves_of p r es = map (move_of p r) es

-- ---- the messages that it makes
abbrev pub ack_to : Plan → Sent → Option Sent
ack_to p m = if p.remote then Some (record { header = ack_with CtAck true m.header.length m.header; bytes = [] }) else None

abbrev pub sent_by_work : Plan → Inputs → Slots → Seen → Option RankOp → Option Sent
sent_by_work p inputs s g None = None
sent_by_work p inputs s g (Some w) = sent_message p inputs s g w

abbrev pub makes : Plan → Inputs → Slots → ℕ → Seen → Local → Option Sent
makes p inputs s r g Start = None
makes p inputs s r g (Receive source Request m) = if is_stray m then None else ack_to p m
makes p inputs s r g (Receive source Answer m) = None
makes p inputs s r g (Fire t) = sent_by_work p inputs s g (work_numbered p r t)

abbrev pub all_made : Plan → Inputs → Slots → ℕ → Seen → List Local → List Sent
all_made p inputs s r g [] = []
all_made p inputs s r g (e ∷ es) = and_then (makes p inputs s r g e) (all_made p inputs s r (note p g (move_of p r e)) es)

-- ---- small facts
pub stray-parts : (m : Sent) → is_stray m ≡ true → (is_put_or_atomic m.header.kind ≡ true) × (is_no_ack m.header.ack ≡ true) ×
    ((m.header.match_bits / 2 ^ 48 % 2 ^ 16 == 1) ≡ false)
stray-parts m e = let a = and_parts _ _ e in let b = and_parts _ _ a.1 in (a.0, b.0, not-true _ b.1)

pub find-only : {X : Type 0} (t : X → Bool) (xs : List X) (x : X) → In x xs → t x ≡ true → ((y : X) → In y xs → t y ≡ true → y ≡ x) →
    find t xs ≡ Some x
find-only t [] x h e only = absurd h
find-only t (y ∷ ys) x h e only = at (t y) refl h (λ i. find-only t ys x i e (λ z j. only z (inr j)))
  where
    at : (b : Bool) → t y ≡ b → In x (y ∷ ys) → (In x ys → find t ys ≡ Some x) → cond b (Some y) (find t ys) ≡ Some x
    at true q h rest = ap Some (only y (inl refl) q)
    at false q (inl i) rest = cc (ap t i)
    at false q (inr i) rest = rest i

pub numbered : (p : Plan) (r t : ℕ) (w : RankOp) → In w (rank_ops p r) → number_of p r w ≡ t → work_numbered p r t ≡ Some w
numbered p r t w h e = find-only (λ v. number_of p r v == t) (rank_ops p r) w h (eq-eqb _ _ e)
    (λ v i q. number_of-one p r v w i h (eqb-true _ _ q ∙ sym e))

pub link-no_stray : (p : Plan) (inputs : Inputs) → SoundPlan p (length inputs) → (k : Slots) (r l : ℕ) → IsLinkHere p r l → (m : Sent) →
    m.header ≡ link_header p k l → is_stray m ≡ false
link-no_stray p inputs sound k r l h m e =
    and_right _ _ (and_right _ _ (ap (λ b. not b) (eq-eqb _ _ (ap (λ (x : Header). x.match_bits / 2 ^ 48 % 2 ^ 16) e
    ∙ bits-job p inputs sound r l h))))

pub or_false : (b : Bool) → (b || false) ≡ b
or_false true = refl
or_false false = refl

pub or_true : (b : Bool) → (b || true) ≡ true
or_true true = refl
or_true false = refl

pub started_work : (p : Plan) (g : Seen) (w : RankOp) → (note_work p g w).started ≡ g.started
started_work p g (ForLink l) = refl
started_work p g (ForDone c) = refl

pub sized_work : (p : Plan) (inputs : Inputs) (g : Seen) (w : RankOp) → Sized p inputs g → Sized p inputs (note_work p g w)
sized_work p inputs g (ForLink l) h = h
sized_work p inputs g (ForDone c) h = h

module _ (annex : Annex) (quiet : IsQuiet annex) where
  -- ---- one step
  pub record Simulates (p : Plan) (inputs : Inputs) (s : Slots) (r : ℕ) (g : Seen) (e : Local) : Type 0 where
    pub next : after (go_up (cell_ct p s r)) (view annex p inputs s r g) e ≡ view annex p inputs s r (note p g (move_of p r e))
    pub may : MayMove p r g (move_of p r e)
    pub sized : Sized p inputs (note p g (move_of p r e))
    pub makes_it : made_by (view annex p inputs s r g) e ≡ makes p inputs s r g e
    pub flag : (g.started || is_start e) ≡ (note p g (move_of p r e)).started

  simulates : (p : Plan) (inputs : Inputs) → SoundPlan p (length inputs) → (k : ℕ → Slots) (r : ℕ) → r < p.ranks → (g : Seen) →
      Sized p inputs g → (e : Local)
      → May g.started (view annex p inputs (k r) r g) e → Conforms p k r e → Simulates p inputs (k r) r g e
  simulates p inputs sound k r in_range g sized Start may fine = record {
    next = step_start annex p inputs sound (k r) r in_range g may;
    may = may;
    sized = sized;
    makes_it = refl;
    flag = or_true g.started;
  }
  simulates p inputs sound k r in_range g sized (Fire t) may fine =
      let q = ready_work annex p inputs sound (k r) r g t may in
      let w = q.0 in
      let h = q.1 in
      let n : work_numbered p r t ≡ Some q.0 = numbered p r t q.0 q.1.ours q.1.number in
      let f = step_fire annex p inputs sound (k r) r g t q.0 sized q.1 in
      record {
        next = ap (λ (x : Fires). x.state) f ∙ ap (λ (o : Option RankOp). view annex p inputs (k r) r (note p g (did o))) (sym n);
        may = subst (λ (o : Option RankOp). MayMove p r g (did o)) (sym n) (q.1.ours, q.1.pending, q.1.reached);
        sized = subst (λ (o : Option RankOp). Sized p inputs (note p g (did o))) (sym n) (sized_work p inputs g q.0 sized);
        makes_it = ap (λ (x : Fires). x.message) f ∙ ap (λ (o : Option RankOp). sent_by_work p inputs (k r) g o) (sym n);
        flag = or_false g.started ∙ sym (started_work p g q.0) ∙ ap (λ (o : Option RankOp). (note p g (did o)).started) (sym n);
      }
  simulates p inputs sound k r in_range g sized (Receive source Request m) may (inl stray) =
      let q = stray-parts m stray in
      let f = step_stray annex quiet p inputs sound (k r) r g m q.0 q.1 q.2 in
      record {
        next = ap (λ (x : Delivers). x.state) f ∙ ap (λ b. view annex p inputs (k r) r
            (note p g (cond b Strayed (Took m.header.hdr_data m.bytes)))) (sym stray);
        may = subst (λ b. MayMove p r g (cond b Strayed (Took m.header.hdr_data m.bytes))) (sym stray) tt;
        sized = subst (λ b. Sized p inputs (note p g (cond b Strayed (Took m.header.hdr_data m.bytes)))) (sym stray) sized;
        makes_it = ap (λ (x : Delivers). x.delivered.answer) f ∙ ap (λ b. cond b None (ack_to p m)) (sym stray);
        flag = or_false g.started ∙ ap (λ b. (note p g (cond b Strayed (Took m.header.hdr_data m.bytes))).started) (sym stray);
      }
  simulates p inputs sound k r in_range g sized (Receive source Request m) may (inr link_m) =
      let s = k (source_rank p link_m.l) in
      let whole : m ≡ link_message p (k (source_rank p link_m.l)) link_m.l m.bytes =
      ap (λ (h : Header). record { header = h; bytes = m.bytes }) link_m.header in
      let f = ap (target (view annex p inputs (k r) r g)) whole ∙ step_link annex quiet p inputs sound (k r) (k (source_rank p link_m.l))
      r link_m.l g link_m.here sized m.bytes link_m.size in
      let clean = link-no_stray p inputs sound (k (source_rank p link_m.l)) r link_m.l link_m.here m link_m.header in
      let number : link_m.l ≡ m.header.hdr_data = sym (ap (λ (h : Header). h.hdr_data) link_m.header) in
      record {
        next = ap (λ (x : Delivers). x.state) f ∙ ap₂ (λ b n. view annex p inputs (k r) r (note p g (cond b Strayed (Took n m.bytes))))
            (sym clean) number;
        may = subst (λ b. MayMove p r g (cond b Strayed (Took m.header.hdr_data m.bytes))) (sym clean) tt;
        sized = subst (λ b. Sized p inputs (note p g (cond b Strayed (Took m.header.hdr_data m.bytes)))) (sym clean)
            (subst (λ n. Sized p inputs (note p g (Took n m.bytes))) number
            (sized_took p inputs sound r link_m.l g link_m.here sized m.bytes link_m.size));
        makes_it = ap (λ (x : Delivers). x.delivered.answer) f
            ∙ ap (λ (h : Header). if p.remote then Some (record { header = ack_with CtAck true h.length h; bytes = [] }) else None)
            (sym link_m.header)
            ∙ ap (λ b. cond b None (ack_to p m)) (sym clean);
        flag = or_false g.started ∙ ap (λ b. (note p g (cond b Strayed (Took m.header.hdr_data m.bytes))).started) (sym clean);
      }
  simulates p inputs sound k r in_range g sized (Receive source Answer m) may fine =
      let f = step_ack annex p inputs (k r) r g m fine (due-here annex p inputs (k r) r g m fine may.4) in
      record {
        next = ap (λ (x : Delivers). x.state) f;
        may = tt;
        sized = sized;
        makes_it = ap (λ (x : Delivers). x.delivered.answer) f;
        flag = or_false g.started;
      }

  -- ---- a whole history
  pub record SimulatesAll (p : Plan) (inputs : Inputs) (s : Slots) (r : ℕ) (g : Seen) (es : List Local) : Type 0 where
    pub ends : state (go_up (cell_ct p s r)) (view annex p inputs s r g) es ≡ view annex p inputs s r (seen p g (moves_of p r es))
    pub moves : Moves p r g (moves_of p r es)
    pub sized : Sized p inputs (seen p g (moves_of p r es))
    pub makes_them : made (go_up (cell_ct p s r)) (view annex p inputs s r g) es ≡ all_made p inputs s r g es

  pub simulates_all : (p : Plan) (inputs : Inputs) → SoundPlan p (length inputs) → (k : ℕ → Slots) (r : ℕ) → r < p.ranks →
      (es : List Local) (g : Seen) → Sized p inputs g
      → Legal (go_up (cell_ct p (k r) r)) g.started (view annex p inputs (k r) r g) es → AllConform p k r es →
      SimulatesAll p inputs (k r) r g es
  simulates_all p inputs sound k r in_range [] g sized legal fine = record { ends = refl; moves = tt; sized = sized; makes_them = refl }
  simulates_all p inputs sound k r in_range (e ∷ es) g sized legal fine =
      let one = simulates p inputs sound k r in_range g sized e legal.0 fine.0 in
      let go = cell_ct p (k r) r in
      let g' = note p g (move_of p r e) in
      let rest = simulates_all p inputs sound k r in_range es (note p g (move_of p r e)) one.sized
      (subst (λ b. Legal (go_up (cell_ct p (k r) r)) b (view annex p inputs (k r) r (note p g (move_of p r e))) es) one.flag
      (subst (λ v. Legal (go_up (cell_ct p (k r) r)) (g.started || is_start e) v es) one.next legal.1)) fine.1 in
      record {
        ends = ap (λ v. state (go_up (cell_ct p (k r) r)) v es) one.next ∙ rest.ends;
        moves = (one.may, rest.moves);
        sized = rest.sized;
        makes_them = ap₂ (λ o v. and_then o (made (go_up (cell_ct p (k r) r)) v es)) one.makes_it one.next
            ∙ ap (and_then (makes p inputs (k r) r g e)) rest.makes_them;
      }
