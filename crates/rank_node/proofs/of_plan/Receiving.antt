-- The first message of a lane finds room at its target's node.
use Rattle.std.proofs.Common.{ℕ, Bool, true, false, cond, ◌≡◌, ◌<◌, ◌≤◌, ◌+◌, ◌*◌, ◌∙◌, List, [], ◌∷◌, ◌++◌, refl, ap, sym, subst, arith}
use Rattle.std.proofs.Common.{count_by, length, sum_by, eq-eqb, if◌then◌else◌}
use Rattle.op_laws.proofs.OpLaws.{op_laws}
use Rattle.op_laws.proofs.Starts.{combined-starts}
use Rattle.op_laws.proofs.Swaps.{combined-swaps}
use Rattle.ptl_types.specs.Messages.{Sent}
use Rattle.ptl_types.specs.declared.headers.Lane.{Lane}
use Rattle.plan_core.proofs.Lists.{count-cons}
use Rattle.plan_core.specs.Plan.{Plan, link}
use Rattle.plan_core.specs.Sound.{SoundPlan, AreInputsOf}
use Rattle.plan_core.specs.Values.{Inputs}
use Rattle.plan_core.specs.calls.Areas.{links_to}
use Rattle.plan_core.specs.calls.RankOps.{sends_of}
use Rattle.cuts.specs.view.Slots.{Slots}
use Rattle.cuts.specs.histories.Cut.{is_received_stray, is_stray}
use Rattle.cuts.specs.histories.History.{Local, May}
use Rattle.cuts.specs.histories.History.Local.{Start, Receive, Fire}
use Rattle.cuts.specs.histories.Lanes.{is_receipt, received_bytes}
use Rattle.cuts.specs.histories.Moment.{IsMoment}
use Rattle.cuts.specs.histories.Plans.{system_of}
use Rattle.cuts.specs.histories.System.{state_at}
use Rattle.cuts.proofs.orders.Choosing.{listed_made}
use Rattle.cuts.specs.orders.Chosen.{Scene, delivered}
use Rattle.cuts.specs.declared.orders.Step.TheVariants.{Deliver}
use Rattle.cuts.proofs.windows.Falling.{few_receipts, few_received_bytes, next_held, next_local}
use Rattle.cuts.proofs.windows.Listed.{enabled_listed}
use Rattle.rank_node.specs.of_plan.Ranks.{AreShort, HasStrayRoom, IsRank, MayReceive}
use Rattle.rank_node.proofs.Copies.{bytes-push, receipts-push}
use Rattle.rank_node.proofs.Plans.{run-state}
use Rattle.rank_node.specs.Copies.{bytes_received}
use Rattle.rank_node.specs.Node.{NodeState, stray_bytes}

-- all bytes that were received: those of the job, and a stray's bytes for each stray
pub all_bytes : (es : List Local) → AreShort es → bytes_received es ≤ received_bytes es + stray_bytes * count_by is_received_stray es
all_bytes [] short = omega arith
all_bytes (Start ∷ es) short = let k = all_bytes es short in let c = count-cons is_received_stray Start es in omega arith
all_bytes (Fire t ∷ es) short = let k = all_bytes es short in let c = count-cons is_received_stray (Fire t) es in omega arith
all_bytes (Receive s l m ∷ es) short =
    let k = all_bytes es short.1 in
    let c = count-cons is_received_stray (Receive s l m) es in
    at (is_stray m) refl k c
  where
    at : (b : Bool) → is_stray m ≡ b → bytes_received es ≤ received_bytes es + stray_bytes * count_by is_received_stray es →
        count_by is_received_stray (Receive s l m ∷ es) ≡ cond (is_stray m) 1 0 + count_by is_received_stray es
        → bytes_received (Receive s l m ∷ es) ≤ received_bytes (Receive s l m ∷ es) + stray_bytes * count_by is_received_stray
        (Receive s l m ∷ es)
    at true e k c =
        let n = short.0 e in
        let d : count_by is_received_stray (Receive s l m ∷ es) ≡ 1 + count_by is_received_stray es = c
        ∙ ap (λ b. cond b 1 0 + count_by is_received_stray es) e in
        let r : received_bytes (Receive s l m ∷ es) ≡ 0 + received_bytes es =
        ap (λ b. (if b then 0 else length m.bytes) + received_bytes es) e in
        omega arith
    at false e k c =
        let d : count_by is_received_stray (Receive s l m ∷ es) ≡ 0 + count_by is_received_stray es = c
        ∙ ap (λ b. cond b 1 0 + count_by is_received_stray es) e in
        let r : received_bytes (Receive s l m ∷ es) ≡ length m.bytes + received_bytes es =
        ap (λ b. (if b then 0 else length m.bytes) + received_bytes es) e in
        omega arith

-- the interface of a node is its rank's
pub rank-state : (p : Plan) (inputs : Inputs) (slots : ℕ → Slots) (z : Scene) (r : ℕ) (n : NodeState) → IsRank p inputs slots z r n →
    n.nic ≡ state_at (system_of p inputs slots) z.world r
rank-state p inputs slots z r n is = run-state p inputs slots z.world r n is.compiled is.node is.agrees is.history

module _ (p : Plan) (inputs : Inputs) (sound : SoundPlan p (length inputs)) (fit : AreInputsOf p inputs) (slots : ℕ → Slots) (z : Scene)
    (moment : IsMoment (system_of p inputs slots) z.world z.held)
    (r s : ℕ) (lane : Lane) (m : Sent) (later : List Sent) (hr : r < p.ranks) (hs : s < p.ranks) (front : z.held s r lane ≡ m ∷ later)
    (n : NodeState) (is : IsRank p inputs slots z r n) (room : HasStrayRoom n (Receive s lane m)) where
  abbrev received : Local
  received = Receive s lane m

  abbrev behind : List Sent → Scene
  behind ms = delivered (system_of p inputs slots) s r lane ms z

  -- the moment after the receipt
  moment_behind : IsMoment (system_of p inputs slots) (behind (m ∷ later)).world (behind (m ∷ later)).held
  moment_behind =
      let k = system_of p inputs slots in
      let step = listed_made k z (Deliver s r lane) (enabled_listed k z r received hr (hs, (later, front))) in
      let next : IsMoment k (behind (z.held s r lane)).world (behind (z.held s r lane)).held =
      next_local combined-starts p inputs sound fit (combined-swaps op_laws) slots z.world z.held moment (behind (z.held s r lane)).world
      (behind (z.held s r lane)).held step in
      subst (λ ms. IsMoment k (behind ms).world (behind ms).held) front next

  history : (behind (m ∷ later)).world r ≡ n.diary.locals ++ received ∷ []
  history = ap (λ b. cond b (z.world r ++ received ∷ []) (z.world r)) (eq-eqb r r refl) ∙ ap (λ h. h ++ received ∷ []) is.history

  number : count_by is_receipt (n.diary.locals ++ received ∷ []) ≤ count_by is_received_stray (n.diary.locals ++ received ∷ [])
      + (length (links_to p r) + (if p.remote then sends_of p r else 0))
  number = subst (λ h. count_by is_receipt h ≤ count_by is_received_stray h
      + (length (links_to p r) + (if p.remote then sends_of p r else 0))) history
      (few_receipts combined-starts p inputs sound fit slots (behind (m ∷ later)).world moment_behind.cut r hr)

  own_bytes : received_bytes (n.diary.locals ++ received ∷ []) ≤ sum_by (λ l. (link p l).length) (links_to p r)
  own_bytes = subst (λ h. received_bytes h ≤ sum_by (λ l. (link p l).length) (links_to p r)) history
      (few_received_bytes combined-starts p inputs sound fit slots (behind (m ∷ later)).world moment_behind.cut r hr)

  pub finds_room : MayReceive n s lane m
  finds_room =
      let may : May false n.nic received = subst (λ v. May false v received) (sym (rank-state p inputs slots z r n is))
      (next_held combined-starts p inputs sound fit (combined-swaps op_laws) slots z.world z.held moment false r s lane m later hr hs
      front) in
      let told = is.compiled.receipts in
      let told_bytes = is.compiled.bytes in
      let had = is.node.receipts in
      let held_bytes = is.node.bytes in
      let more : count_by is_receipt (n.diary.locals ++ received ∷ []) ≡ count_by is_receipt n.diary.locals + 1 =
      receipts-push n.diary.locals received in
      let longer : bytes_received (n.diary.locals ++ received ∷ []) ≡ bytes_received n.diary.locals + (length m.bytes + 0) =
      bytes-push n.diary.locals received in
      let at_most = room.at_most in
      let a = number in
      let b = own_bytes in
      let c = all_bytes (n.diary.locals ++ received ∷ []) room.short in
      let scaled : stray_bytes * count_by is_received_stray (n.diary.locals ++ received ∷ []) ≤ stray_bytes * n.strays = omega arith in
      record {
        source_is = may.0;
        target = may.1;
        kind = may.2;
        due = may.4;
        receipts = omega arith;
        bytes = omega arith;
      }
