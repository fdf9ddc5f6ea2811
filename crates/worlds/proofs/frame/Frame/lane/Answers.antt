-- Another lane at its place leaves as many.
use Rattle.std.proofs.Common.{◌∙◌}
use Rattle.std.proofs.Math.ListN.{length-set}
use Rattle.worlds.proofs.frame.Frame.lane.Goals as goal

pub invariant_of-self-lent : goal.invariant_of-self-lent
invariant_of-self-lent c w =
    let s = c.self.inside in
    let k = c.self.invariant in
    record {
      setting = k.setting;
      bare = record {
        count = k.bare.count;
        sound = k.bare.sound;
        fit = k.bare.fit;
        sized = record {
          some = k.bare.sized.some;
          at_most = k.bare.sized.at_most;
          wide_lanes = length-set s.traffic.lanes c.lane_index-index.result w ∙ k.bare.sized.wide_lanes;
          wide_starts = k.bare.sized.wide_starts;
          wide_deliveries = k.bare.sized.wide_deliveries;
          wide_firings = k.bare.sized.wide_firings;
        };
      };
    }
