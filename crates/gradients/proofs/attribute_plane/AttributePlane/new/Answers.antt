use Rattle.gradients.proofs.attribute_plane.AttributePlane.new.Goals as goal

pub returns : goal.returns
returns c a b c' values area narrow slope =
    record {
      slope = c.args.slope.now;
      narrow = narrow;
      is_slope = slope;
      is_plane = rw area at c.of_candidates-plane.ensures;
      are_lanes = record { long = c.lanes.ensures.length; each = c.lanes.ensures.each };
    }
