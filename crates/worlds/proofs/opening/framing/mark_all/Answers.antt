-- The counts and the gates, one after the other.
use Rattle.std.proofs.Common.{◌<◌, ◌∙◌, ap, arith, length, refl, subst, sym}
use Rattle.std.proofs.lemmas.List.{length-map}
use Rattle.worlds.specs.parts.Marks.{firing_count, start_count}
use Rattle.worlds.proofs.opening.Begun.{counted_at}
use Rattle.worlds.proofs.opening.framing.mark_all.Goals as goal

pub gate_all-requires : goal.gate_all-requires
gate_all-requires c = record {
  nonempty = c.requires.sized.some;
  at_most = c.requires.sized.at_most;
  nodes = c.requires.nodes;
  lanes = c.requires.sized.wide_lanes;
  wide = λ r h. (c.recall_nodes.ensures r (subst (λ n. r < n) (sym c.requires.nodes) h)).gates ∙ c.requires.tasks r h;
}

pub count_all-requires : goal.count_all-requires
count_all-requires c = c.requires.sized.wide_starts ∙ sym c.gate_all.ensures.size

pub count_all-requires-2 : goal.count_all-requires-2
count_all-requires-2 c = c.requires.sized.wide_firings ∙ sym c.gate_all.ensures.size

pub returns : goal.returns
returns c =
    let size = c.gate_all.ensures.size in
    let nodes = c.gate_all.new.nodes in
    record {
      setting = refl;
      lanes = refl;
      size = size;
      kept = λ r h. c.recall_nodes.ensures r (subst (λ n. r < n) (sym c.requires.nodes) h);
      same = c.gate_all.ensures.same;
      counted = record {
        wide_starts = ap length c.count_all.ensures ∙ length-map nodes start_count ∙ size;
        wide_deliveries = c.fill_deliveries.ensures.size;
        wide_firings = ap length c.count_all-2.ensures ∙ length-map nodes firing_count ∙ size;
        of_starts = λ r h. counted_at start_count nodes c.count_all.new.self c.count_all.ensures r (omega (arith, h, size));
        of_firings = λ r h. counted_at firing_count nodes c.count_all-2.new.self c.count_all-2.ensures r (omega (arith, h, size));
        of_deliveries = c.fill_deliveries.ensures.counts;
        gates = c.gate_all.ensures.gates;
      };
    }
