-- How much a rank receives in a cut.
use Rattle.cuts.specs.histories.System.{Histories}
use Rattle.cuts.specs.histories.Plans.{system_of}
use Rattle.cuts.specs.histories.Cut.{IsCut, is_received_stray, is_stray}
use Rattle.cuts.specs.view.Slots.{Slots}
use Rattle.std.proofs.Common.{sym, ℕ, Bool, true, false, cond, not, ◌&&◌, ◌+◌, ◌≡◌, ◌≤◌, ◌<◌, List, [], ◌∷◌, refl, length, ap, ◌∙◌, subst}
use Rattle.std.proofs.Common.{inl, inr, arith, map, filter, count_by, sum_by}
use Rattle.std.proofs.lemmas.List.Sums.{length-filter, sum_by-cons}
use Rattle.ptl_types.specs.Messages.{Sent}
use Rattle.ptl_types.specs.declared.headers.Lane.{Lane}
use Rattle.ptl_types.specs.declared.headers.Lane.TheVariants.{Answer, Request}
use Rattle.op_laws.specs.Combining.{CombineStarts}
use Rattle.plan_core.proofs.Lists.{In-map, In-filter, In-map_cases, count-cons, length-Within, length-map'}
use Rattle.cuts.specs.machine.Machine.{link_of}
use Rattle.cuts.specs.histories.Lanes.{bytes_in, received_bytes, is_receipt}
use Rattle.cuts.proofs.start.Areas.{link-comes, sum-Within, at_most-early}
use Rattle.plan_core.specs.Members.{In}
use Rattle.plan_core.specs.Plan.{Plan, is_bump, link, out_links}
use Rattle.plan_core.specs.Sound.{AreInputsOf, SoundPlan}
use Rattle.plan_core.specs.Values.{Inputs}
use Rattle.plan_core.proofs.Links.{In-out_links}
use Rattle.cuts.specs.histories.History.{Local, same_lane}
use Rattle.cuts.specs.histories.History.Local.{Fire, Receive, Start}
use Rattle.cuts.proofs.histories.Traffic.{number_in, own_received, own_received-got, to_came}
use Rattle.plan_core.specs.calls.RankOps.{sends_of}
use Rattle.plan_core.specs.calls.Areas.{links_to}
use Rattle.cuts.proofs.rest.Due.{answers_once, got_ack, link_to}
use Rattle.cuts.proofs.histories.FromCut.{all_once, received_link, sender}

-- a receipt is a stray's, a request's or an answer's
receipts-are : (es : List Local) → count_by is_receipt es ≡ count_by is_received_stray es
    + (length (own_received Request es) + length (own_received Answer es))
receipts-are [] = refl
receipts-are (Start ∷ es) = let k = receipts-are es in let a = count-cons is_receipt Start es in let b =
    count-cons is_received_stray Start
    es in omega (arith, k, a, b)
receipts-are (Fire t ∷ es) = let k = receipts-are es in let a = count-cons is_receipt (Fire t) es in let b =
    count-cons is_received_stray
    (Fire t) es in omega
    (arith, k, a, b)
receipts-are (Receive s l m ∷ es) =
    let k = receipts-are es in
    let a = count-cons is_receipt (Receive s l m) es in
    let b = count-cons is_received_stray (Receive s l m) es in
    at l (is_stray m) k a b
  where
    at : (l : Lane) (t : Bool) → count_by is_receipt es ≡ count_by is_received_stray es
        + (length (own_received Request es) + length (own_received Answer es))
        → count_by is_receipt (Receive s l m ∷ es) ≡ 1 + count_by is_receipt es → count_by is_received_stray (Receive s l m ∷ es) ≡ cond t
        1 0 + count_by is_received_stray es
        → count_by is_receipt (Receive s l m ∷ es) ≡ count_by is_received_stray (Receive s l m ∷ es)
        + (length (cond (same_lane l Request && not t) (m ∷ own_received Request es) (own_received Request es))
        + length (cond (same_lane l Answer && not t) (m ∷ own_received Answer es) (own_received Answer es)))
    at Request true k a b = omega (arith, k, a, b)
    at Request false k a b = omega (arith, k, a, b)
    at Answer true k a b = omega (arith, k, a, b)
    at Answer false k a b = omega (arith, k, a, b)

module _ (starts : CombineStarts) (p : Plan) (inputs : Inputs) (sound : SoundPlan p (length inputs)) (fit : AreInputsOf p inputs)
    (slots : ℕ → Slots) (w : Histories) (cut : IsCut (system_of p inputs slots) w) (r : ℕ) (h : r < p.ranks) where
  few_requests : length (own_received Request (w r)) ≤ length (links_to p r)
  few_requests =
      let size = length-map' to_came (own_received Request (w r)) in
      let at_most = at_most-early p inputs sound r (map to_came (own_received Request (w r))) (record {
        here = λ a i. (received_link starts p inputs sound fit slots w cut r h a i).0;
        size = λ a i. (received_link starts p inputs sound fit slots w cut r h a i).1;
        once = all_once starts p inputs sound fit slots w cut r h;
      }) in
      omega (arith, size, at_most)

  -- an answer is to a message of this rank
  answered_here : (m : Sent) → In m (own_received Answer (w r)) → (p.remote ≡ true) ×
      In (number_in m) (filter (λ l. not (is_bump (link p l).kind)) (out_links p r))
  answered_here m i =
      let g = own_received-got Answer (w r) m i in
      let a = got_ack starts p inputs sound fit slots w cut r g.from m h g.got_it in
      let s = sender starts p inputs sound fit slots w cut r g.from Answer m h g.got_it in
      let k = link_to starts p inputs sound fit slots w cut g.from a.of s a.came in (
        a.remote,
        subst (λ x. In (number_in x) (filter (λ l. not (is_bump (link p l).kind)) (out_links p r))) a.is
            (In-filter (λ l. not (is_bump (link p l).kind)) (number_in a.of) (out_links p r)
            (In-out_links p r (number_in a.of) k.known (k.source ∙ a.from)) (ap not k.kind)),
      )

  few_answers : length (own_received Answer (w r)) ≤ cond p.remote (sends_of p r) 0
  few_answers = at p.remote refl
    where
      at : (b : Bool) → p.remote ≡ b → length (own_received Answer (w r)) ≤ cond b (sends_of p r) 0
      at true e =
          let q = length-Within (map number_in (own_received Answer (w r))) (filter (λ l. not (is_bump (link p l).kind)) (out_links p r))
          (answers_once starts p inputs sound fit slots w cut r h e)
          (λ n i. let k = In-map_cases number_in n (own_received Answer (w r)) i in
          subst (λ x. In x (filter (λ l. not (is_bump (link p l).kind)) (out_links p r))) k.2 (answered_here k.0 k.1).1) in
          let a = length-map' number_in (own_received Answer (w r)) in
          let b = length-filter (λ l. not (is_bump (link p l).kind)) (out_links p r) in
          omega (arith, q, a, b)
      at false e = none e (own_received Answer (w r)) (λ m i. (answered_here m i).0)
        where
          both : {b : Bool} → b ≡ true → b ≡ false → ⊥
          both e i = cc

          none : p.remote ≡ false → (ms : List Sent) → ((m : Sent) → In m ms → p.remote ≡ true) → length ms ≤ 0
          none e [] k = omega arith
          none e (m ∷ ms) k = absurd (both (k m (inl refl)) e)

  pub few_receipts : count_by is_receipt (w r) ≤ count_by is_received_stray (w r) + (length (links_to p r) + cond p.remote (sends_of p r) 0)
  few_receipts =
      let a = receipts-are (w r) in
      let b = few_requests in
      let c = few_answers in
      omega (arith, a, b, c)

  -- ---- bytes
  own_bytes : (es : List Local) → received_bytes es ≡ bytes_in (own_received Request es) + bytes_in (own_received Answer es)
  own_bytes [] = refl
  own_bytes (Start ∷ es) = own_bytes es
  own_bytes (Fire t ∷ es) = own_bytes es
  own_bytes (Receive s l m ∷ es) =
      let k = own_bytes es in
      let a = sum_by-cons (λ (x : Sent). length x.bytes) m (own_received Request es) in
      let b = sum_by-cons (λ (x : Sent). length x.bytes) m (own_received Answer es) in
      at l (is_stray m) k a b
    where
      at : (l : Lane) (t : Bool) → received_bytes es ≡ bytes_in (own_received Request es) + bytes_in (own_received Answer es)
          → bytes_in (m ∷ own_received Request es) ≡ length m.bytes + bytes_in (own_received Request es) →
          bytes_in (m ∷ own_received Answer es) ≡ length m.bytes + bytes_in (own_received Answer es)
          → cond t 0 (length m.bytes) + received_bytes es
          ≡ bytes_in (cond (same_lane l Request && not t) (m ∷ own_received Request es) (own_received Request es)) + bytes_in
          (cond (same_lane l Answer && not t) (m ∷ own_received Answer es) (own_received Answer es))
      at Request true k a b = omega (arith, k)
      at Request false k a b = omega (arith, k, a)
      at Answer true k a b = omega (arith, k)
      at Answer false k a b = omega (arith, k, b)

  request_bytes : bytes_in (own_received Request (w r)) ≤ sum_by (λ l. (link p l).length) (links_to p r)
  request_bytes =
      let a = each (own_received Request (w r)) (λ m i. i) in
      let b = sum-Within (λ l. (link p l).length) (map link_of (map to_came (own_received Request (w r)))) (links_to p r)
      (all_once starts p inputs sound fit slots w cut r h) within in
      omega (arith, a, b)
    where
      within : (l : ℕ) → In l (map link_of (map to_came (own_received Request (w r)))) → In l (links_to p r)
      within l i =
          let q = In-map_cases link_of l (map to_came (own_received Request (w r))) i in
          subst (λ n. In n (links_to p r)) q.2 (link-comes p inputs sound r q.0.link
          (received_link starts p inputs sound fit slots w cut r h q.0 q.1).0)

      each : (ms : List Sent) → ((m : Sent) → In m ms → In m (own_received Request (w r))) →
          bytes_in ms ≡ sum_by (λ l. (link p l).length) (map link_of (map to_came ms))
      each [] sub = refl
      each (m ∷ ms) sub =
          let one = (received_link starts p inputs sound fit slots w cut r h (to_came m)
          (In-map to_came m (own_received Request (w r)) (sub m (inl refl)))).1 in
          let rest = each ms (λ x i. sub x (inr i)) in
          let x = sum_by-cons (λ (m : Sent). length m.bytes) m ms in
          let y = sum_by-cons (λ l. (link p l).length) m.header.hdr_data (map link_of (map to_came ms)) in
          omega (arith, one, rest, x, y)

  answer_bytes : bytes_in (own_received Answer (w r)) ≡ 0
  answer_bytes = each (own_received Answer (w r)) (λ m i. i)
    where
      empty : (m : Sent) → In m (own_received Answer (w r)) → length m.bytes ≡ 0
      empty m i =
          let g = own_received-got Answer (w r) m i in
          let a = got_ack starts p inputs sound fit slots w cut r g.from m h g.got_it in
          sym (ap (λ (x : Sent). length x.bytes) a.is)

      each : (ms : List Sent) → ((m : Sent) → In m ms → In m (own_received Answer (w r))) → bytes_in ms ≡ 0
      each [] sub = refl
      each (m ∷ ms) sub =
          let one = empty m (sub m (inl refl)) in
          let rest = each ms (λ x i. sub x (inr i)) in
          let x = sum_by-cons (λ (m : Sent). length m.bytes) m ms in
          omega (arith, one, rest, x)

  pub few_received_bytes : received_bytes (w r) ≤ sum_by (λ l. (link p l).length) (links_to p r)
  few_received_bytes = let a = own_bytes (w r) in let b = request_bytes in let c = answer_bytes in omega (arith, a, b, c)
