-- One seat more in each turn.
use Rattle.std.proofs.Common.{ℕ, ◌+◌, ◌<◌, ◌≡◌, ◌∙◌, List, ap, length, subst, sym, arith}
use Rattle.std.proofs.lemmas.List.{length_push}
use Rattle.worlds.proofs.Opened.{pushed}
use Rattle.plan_choice.specs.ranks.Seats.{IsInstalled, ChoiceRankState}
use Rattle.plan_choice.specs.Acts.{no_seated, seat_at}
use Rattle.plan_choice.proofs.laying.seat_all.Goals as goal

pub loop-r-preserved : goal.loop-r-preserved
loop-r-preserved c =
    let n = c.args.ranks in
    let ks = c.args.kinds.now in
    let r = c.loop-r.r in
    let xs = c.loop-r.seats.items in
    let y = c.in_ok-seat.seat in
    record {
      size = ap length c.in_ok-push.ensures.items ∙ length_push xs y ∙ ap (λ m. m + 1) c.loop-r.invariant.size;
      seats = subst (λ (v : List ChoiceRankState). (k : ℕ) → k < r + 1 → IsInstalled n ks k (seat_at v k)) (sym c.in_ok-push.ensures.items)
          (pushed (IsInstalled n ks) xs y no_seated r c.loop-r.invariant.size c.loop-r.invariant.seats c.in_ok-seat.ensures);
    }

pub returns : goal.returns
returns c =
    let t = c.loop-r-test.false in
    let e = c.loop-r.auto.r-end in
    let all : c.loop-r.r ≡ c.args.ranks = omega (arith, t, e) in
    record {
      size = c.loop-r.invariant.size ∙ all;
      seats = λ r h. c.loop-r.invariant.seats r (subst (λ m. r < m) (sym all) h);
    }
