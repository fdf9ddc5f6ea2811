-- By the laws of plans, and by what the lines name.
use Rattle.std.proofs.Common.{◌<◌, ◌+◌, ◌*◌, subst, sym}
use Rattle.plan_judge.specs.Guards.{AreGuarded}
use Rattle.cuts.specs.histories.Plans.{CounterReached}
use Rattle.verdict_laws.proofs.Conditions.{fit, guarded, marked, sound, sound_for}
use Rattle.verdict_laws.proofs.Naming.{entered, holder_known, is_done, result_held}
use Rattle.verdict_laws.proofs.Starting.{input_begun}
use Rattle.verdict_laws.proofs.flawless_plans_are_right.Goals as goal

pub returns : goal.returns
returns c = λ o g inputs flawless given meant.
    let p = g.plan in
    let same = flawless.ranks in
    let sound_at = sound_for p o g.done g.marks flawless inputs given in
    let fits = fit p o g.done g.marks flawless inputs given in
    record {
      ranks = same;
      sound = sound p o g.done g.marks flawless;
      takes = fits;
      lines = marked p o g.done g.marks flawless;
      cuts = λ slots w cut. record {
        barriers = λ s q r left member.
            entered o g flawless inputs slots w (c.cells_in_order.ensures.order p inputs slots w sound_at fits cut) s q r left member;
        entries = λ s r entered.
            c.flawless_plans_end.ensures.entries p o g.done g.marks inputs slots w flawless given cut s r entered.0 entered.1 entered.2;
        reads = λ b r hb hr reached.
            input_begun p inputs sound_at fits slots w cut (c.cells_in_order.ensures.order p inputs slots w sound_at fits cut)
            (subst (λ n. AreGuarded p n) (sym given.many) (guarded p o g.done g.marks flawless)) b r
            (subst (λ n. b < n) (sym given.many) hb) (subst (λ n. r < n) (sym same) hr)
            (subst (λ n. CounterReached p inputs slots w (n + (b * n + r))) (sym same) reached);
        done = λ r hr said.
            let h : r < p.ranks = subst (λ n. r < n) (sym same) hr in
            let is = is_done o g flawless inputs slots w r h said in
            let values = c.cells_hold_values.ensures.done p inputs slots w sound_at fits cut r h is in
            record {
              cells = values;
              results = λ b i j. result_held o g flawless inputs meant b r _ values i j;
              quiet = c.done_ranks.ensures.nothing_comes p inputs slots w sound_at fits cut r h is;
              released = λ remote. c.released_ranks.ensures.none_pending p inputs slots w sound_at fits cut r h remote is;
            };
      };
      moments = λ slots steps strays w held reached.
          (c.interleavings_end.ensures.moment p inputs slots steps strays w held sound_at fits reached).cut;
      bounded = λ slots steps strays w held reached.
          c.interleavings_end.ensures.bounded p inputs slots steps strays w held sound_at fits reached;
      some = λ slots. c.interleavings_end.ensures.some p inputs slots sound_at fits;
      ends = λ slots steps strays w held reached still. record {
        complete = λ r hr. c.flawless_plans_end.ensures.complete p o g.done g.marks inputs slots steps strays w held flawless given reached
            still r (subst (λ n. r < n) (sym same) hr);
        done = λ r hr. c.flawless_plans_end.ensures.done p o g.done g.marks inputs slots steps strays w held flawless given reached
            still r (subst (λ n. r < n) (sym same) hr);
        results = λ b r i j.
            result_held o g flawless inputs meant b r _
            (c.cells_hold_values.ensures.complete p inputs slots w r
            (c.flawless_plans_end.ensures.complete p o g.done g.marks inputs slots steps strays w held flawless given reached still r
            (holder_known o g flawless b r i j))) i j;
      };
    }
