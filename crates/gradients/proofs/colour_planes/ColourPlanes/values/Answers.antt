use Rattle.std.proofs.Common.{◌∙◌, ap, sym, subst, false, slice_index_or, w32}
use Rattle.std.proofs.lemmas.Int.{to_z-of_z}
use Rattle.grid.specs.Position.{Position}
use Rattle.shade.specs.Merging.{ReadsAlpha}
use Rattle.shade.specs.Placed.{channel}
use Rattle.shade.specs.declared.sample.Merge.{Merge}
use Rattle.gradients.proofs.AttributePlanes.{wholes_sure}
use Rattle.gradients.proofs.colour_planes.ColourPlanes.values.Goals as goal

pub returns-then-not-are_all_sure-clause-red : goal.returns-then-not-are_all_sure-clause-red
returns-then-not-are_all_sure-clause-red c i same read = (rw (to_z-of_z w32 c.args.x c.ranges.x, to_z-of_z w32 c.args.y c.ranges.y) at c.channels.ensures.red) i (ap (λ (m : Merge). slice_index_or m.write 0 false) same ∙ read)

pub returns-clause-red : goal.returns-clause-red
returns-clause-red c i same read planes less covered =
    let t = c.args.placed.now in
    let p : Position = record { x = c.args.x; y = c.args.y } in
    let plane = planes.of_red (ap (λ (m : Merge). slice_index_or m.write 0 false) same ∙ read) in
    let are = (rw (to_z-of_z w32 c.args.x c.ranges.x, to_z-of_z w32 c.args.y c.ranges.y) at c.candidates_if-red.ensures.each) 24 t.tri.a t.tri.b t.tri.c (channel t 0) read plane in
    wholes_sure 24 t.tri.a t.tri.b t.tri.c p (channel t 0) c.candidates_if-red.result c.wholes.result plane.narrow are c.wholes.ensures.each (c.are_all_sure.ensures.red c.if-not-are_all_sure.false) i less covered

pub returns-then-not-are_all_sure-clause-green : goal.returns-then-not-are_all_sure-clause-green
returns-then-not-are_all_sure-clause-green c i same read = (rw (to_z-of_z w32 c.args.x c.ranges.x, to_z-of_z w32 c.args.y c.ranges.y) at c.channels.ensures.green) i (ap (λ (m : Merge). slice_index_or m.write 1 false) same ∙ read)

pub returns-clause-green : goal.returns-clause-green
returns-clause-green c i same read planes less covered =
    let t = c.args.placed.now in
    let p : Position = record { x = c.args.x; y = c.args.y } in
    let plane = planes.of_green (ap (λ (m : Merge). slice_index_or m.write 1 false) same ∙ read) in
    let are = (rw (to_z-of_z w32 c.args.x c.ranges.x, to_z-of_z w32 c.args.y c.ranges.y) at c.candidates_if-green.ensures.each) 24 t.tri.a t.tri.b t.tri.c (channel t 1) read plane in
    wholes_sure 24 t.tri.a t.tri.b t.tri.c p (channel t 1) c.candidates_if-green.result c.wholes-2.result plane.narrow are c.wholes-2.ensures.each (c.are_all_sure.ensures.green c.if-not-are_all_sure.false) i less covered

pub returns-then-not-are_all_sure-clause-blue : goal.returns-then-not-are_all_sure-clause-blue
returns-then-not-are_all_sure-clause-blue c i same read = (rw (to_z-of_z w32 c.args.x c.ranges.x, to_z-of_z w32 c.args.y c.ranges.y) at c.channels.ensures.blue) i (ap (λ (m : Merge). slice_index_or m.write 2 false) same ∙ read)

pub returns-clause-blue : goal.returns-clause-blue
returns-clause-blue c i same read planes less covered =
    let t = c.args.placed.now in
    let p : Position = record { x = c.args.x; y = c.args.y } in
    let plane = planes.of_blue (ap (λ (m : Merge). slice_index_or m.write 2 false) same ∙ read) in
    let are = (rw (to_z-of_z w32 c.args.x c.ranges.x, to_z-of_z w32 c.args.y c.ranges.y) at c.candidates_if-blue.ensures.each) 24 t.tri.a t.tri.b t.tri.c (channel t 2) read plane in
    wholes_sure 24 t.tri.a t.tri.b t.tri.c p (channel t 2) c.candidates_if-blue.result c.wholes-3.result plane.narrow are c.wholes-3.ensures.each (c.are_all_sure.ensures.blue c.if-not-are_all_sure.false) i less covered

pub returns-then-not-are_all_sure-clause-alpha : goal.returns-then-not-are_all_sure-clause-alpha
returns-then-not-are_all_sure-clause-alpha c i same read = (rw (to_z-of_z w32 c.args.x c.ranges.x, to_z-of_z w32 c.args.y c.ranges.y) at c.channels.ensures.alpha) i (subst ReadsAlpha (sym same) read)

pub returns-clause-alpha : goal.returns-clause-alpha
returns-clause-alpha c i same read planes less covered =
    let t = c.args.placed.now in
    let p : Position = record { x = c.args.x; y = c.args.y } in
    let plane = planes.of_alpha (subst ReadsAlpha (sym same) read) in
    let are = (rw (to_z-of_z w32 c.args.x c.ranges.x, to_z-of_z w32 c.args.y c.ranges.y) at c.candidates_if-alpha.ensures.each) 24 t.tri.a t.tri.b t.tri.c (channel t 3) (c.reads_alpha.ensures.1 read) plane in
    wholes_sure 24 t.tri.a t.tri.b t.tri.c p (channel t 3) c.candidates_if-alpha.result c.wholes-4.result plane.narrow are c.wholes-4.ensures.each (c.are_all_sure.ensures.alpha c.if-not-are_all_sure.false) i less covered
