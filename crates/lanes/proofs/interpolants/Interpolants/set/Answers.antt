use Rattle.lanes.proofs.interpolants.Interpolants.set.Goals as goal

pub invariant_of-self-2 : goal.invariant_of-self-2
invariant_of-self-2 c = (
  c.of-2.ensures,
  record {
    is_mode = c.of-depth.ensures;
    is_plane = λ by. c.of_used.ensures c.args.placed.now (c.is_by_plane-by_plane.ensures by) c.reciprocal-reciprocal.ensures (c.of_used-depth_slope.ensures.slope (c.is_by_plane-by_plane.ensures by)) c.of_used-depth_slope.ensures.small;
  },
  record {
    is_mode = c.of-colour.ensures;
    are_planes = λ by. c.of_used-2.ensures c.args.placed.now (c.is_by_planes-by_planes.ensures by) c.reciprocal-reciprocal.ensures (c.of_used-slopes.ensures.slopes (c.is_by_planes-by_planes.ensures by));
  },
)
