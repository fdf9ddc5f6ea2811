-- The place of a rank in which nothing was done.
use Rattle.std.proofs.Common.{ℕ, ◌≡◌, ◌≤◌, List, [], refl, ap, ◌∙◌, sym, arith, length, count_by}
use Rattle.ptl_types.specs.declared.headers.Lane.TheVariants.{Request, Answer}
use Rattle.ni_model.specs.State.{State}
use Rattle.plan_core.specs.Plan.{Plan}
use Rattle.plan_core.specs.Sound.{SoundPlan}
use Rattle.plan_core.specs.Values.{Inputs}
use Rattle.plan_core.proofs.Drawing.{length-row}
use Rattle.plan_core.specs.calls.Lanes.{lane_messages}
use Rattle.cuts.specs.histories.History.{Local}
use Rattle.cuts.specs.histories.Lanes.{is_receipt}
use Rattle.cuts.specs.histories.Plans.{system_of}
use Rattle.cuts.specs.view.Slots.{Slots}
use Rattle.cuts.proofs.histories.FromCut.{prepared_of}
use Rattle.rank_node.specs.Copies.{bytes_received}
use Rattle.rank_node.specs.Handles.{Agrees, slots_of}
use Rattle.rank_node.specs.Node.{IsNode, NodeState}
use Rattle.rank_node.specs.Plans.{IsCompiledFor}
use Rattle.rank_node.proofs.Nodes.{agrees}
use Rattle.rank_frames.specs.Due.{Dues}
use Rattle.rank_frames.specs.Place.{IsPlace, PlaceState}
use Rattle.rank_process.specs.Opening.{IsDueTo, IsPlaceOf}
use Rattle.rank_process.proofs.Sums.{few-due}

module _ (p : Plan) (inputs : Inputs) (r : ℕ) (node : NodeState) (due : Dues) (sound : SoundPlan p (length inputs)) (few : p.ranks ≤ 256)
    (compiled : IsCompiledFor p inputs r node.task) (is : IsNode node) (nothing : node.diary.locals ≡ []) (own : node.strays ≡ 0)
    (first : (slots : ℕ → Slots) → Agrees (slots r) node.kept → node.nic ≡ (system_of p inputs slots).first r)
    (owed : IsDueTo p r due) where
  abbrev place : PlaceState
  place = record { me = r; node = node; due = due }

  requests-are : length due.requests ≡ p.ranks
  requests-are = ap (λ (l : List ℕ). length l) owed.requests ∙ length-row (λ s. lane_messages p s r Request) 0 p.ranks

  answers-are : length due.answers ≡ p.ranks
  answers-are = ap (λ (l : List ℕ). length l) owed.answers ∙ length-row (λ s. lane_messages p s r Answer) 0 p.ranks

  pub placed : IsPlace place
  placed = record {
    node = is;
    rank = ap (λ (s : State). s.rank) (first (λ q. slots_of node.kept) (agrees node.kept is.descriptors))
        ∙ (prepared_of p inputs sound (slots_of node.kept) r).rank;
    lanes = answers-are ∙ sym requests-are;
    at_most = let e = requests-are in omega (arith, e, few);
    receipts =
        let most = few-due p r due owed in
        let room = is.receipts in
        let task = compiled.receipts in
        let none = ap (λ (l : List Local). count_by is_receipt l) nothing in
        omega (arith, most, room, task, none, own);
    bytes =
        let most = owed.bytes in
        let room = is.bytes in
        let task = compiled.bytes in
        let none = ap (λ (l : List Local). bytes_received l) nothing in
        omega (arith, most, room, task, none, own);
  }

  pub place-of : IsPlaceOf p inputs r place
  place-of = record { me = refl; compiled = compiled; nothing = nothing; first = λ k a. first (λ q. k) a; due = owed }
