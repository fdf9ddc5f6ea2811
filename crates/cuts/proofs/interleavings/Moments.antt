-- Two moments to which steps lead, of any ranks, are one where their listed histories agree.
use Rattle.std.proofs.Common.{ℕ, ◌≡◌, ◌<◌, ◌++◌, List, [], map, ap, ◌∙◌, sym, append-nil}
use Rattle.ptl_types.specs.declared.headers.Lane.{Lane}
use Rattle.cuts.specs.histories.History.{got}
use Rattle.cuts.specs.histories.Moment.{Lanes}
use Rattle.cuts.specs.histories.System.{Histories, System, sent_by}
use Rattle.cuts.specs.orders.Reached.{IsReached}
use Rattle.cuts.specs.orders.Taking.{IsInterleaving, IsTaken, Lists, Move, histories, listed}
use Rattle.cuts.proofs.orders.Holding.{are_listed}
use Rattle.cuts.proofs.orders.Parts.{same-front}
use Rattle.cuts.proofs.orders.Steps.{reached_moves}
use Rattle.cuts.proofs.orders.Taken.{same_taken}
use Rattle.cuts.proofs.orders.Verdicts.{not_whole}

-- moves that spell lists are what is taken of them
whole_taken : (k : System) (lists : Lists) (es : List Move) → IsInterleaving k es
    → ((r : ℕ) → r < k.count → map listed (histories es r) ≡ lists r) → IsTaken k lists es
whole_taken k lists es made whole = record {
  made = made;
  listed = are_listed k lists es made (λ r h. ([], append-nil (map listed (histories es r)) ∙ whole r h));
  stuck = λ r h e next enabled. not_whole (map listed (histories es r)) (lists r) next.0 (listed e) (whole r h) next.1;
}

module _ (k : System) (w v : Histories) (held later : Lanes) (a : IsReached k w held) (b : IsReached k v later)
    (same : (r : ℕ) → r < k.count → map listed (w r) ≡ map listed (v r)) where
  -- the histories of both are those of moves, and of the same ones
  pub same_histories : (r : ℕ) → w r ≡ v r
  same_histories r =
      let x = reached_moves k w held a in
      let y = reached_moves k v later b in
      ap (λ (h : Histories). h r) x.same
      ∙ same_taken k (λ q. map listed (v q)) x.moves y.moves
      (whole_taken k (λ q. map listed (v q)) x.moves x.made (λ q h. ap (λ (u : Histories). map listed (u q)) (sym x.same) ∙ same q h))
      (whole_taken k (λ q. map listed (v q)) y.moves y.made (λ q h. ap (λ (u : Histories). map listed (u q)) (sym y.same))) r
      ∙ sym (ap (λ (h : Histories). h r) y.same)

  pub same_held : (s d : ℕ) (lane : Lane) → held s d lane ≡ later s d lane
  same_held s d lane =
      let x = reached_moves k w held a in
      let y = reached_moves k v later b in
      let e : histories x.moves ≡ histories y.moves = sym x.same ∙ (λ i r. same_histories r i) ∙ y.same in
      same-front (got (histories x.moves d) s lane) (held s d lane) (later s d lane)
      (x.balanced s d lane ∙ ap (λ (h : Histories). sent_by k h s d lane) e ∙ sym (y.balanced s d lane)
      ∙ ap (λ (h : Histories). got (h d) s lane ++ later s d lane) (sym e))
