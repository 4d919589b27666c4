use Rattle.std.proofs.Common.{rules}
use Rattle.polygons.proofs.Cancel.{shared_edges_cancel}
use Rattle.polygons.proofs.Cuts.{inside_alike, winding-same}
use Rattle.polygons.proofs.Quads.{moves_along}
use Rattle.polygons.proofs.laws.edges_cover.Goals as goal
use Rattle.polygons.proofs.Outline.{truth_of}

pub returns-clause-shared : goal.returns-clause-shared
returns-clause-shared c first shared second = shared_edges_cancel c.args.rule first shared second c.args.p

pub returns-clause-moved : goal.returns-clause-moved
returns-clause-moved c by = moves_along c.args.rule by c.args.edges.now c.args.p

pub returns-clause-truth : goal.returns-clause-truth
returns-clause-truth c = truth_of c.args.rule c.args.edges.now c.args.p c.is_inside.result (search rules)

pub returns-clause-parts : goal.returns-clause-parts
returns-clause-parts c others same = inside_alike c.args.rule c.args.edges.now others c.args.p (winding-same c.args.edges.now others c.args.p same)
