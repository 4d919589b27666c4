use Rattle.std.proofs.Common.{rules, ◌≡◌, ◌∙◌, ap, ◌+◌, ◌-◌, ◌*◌, ◌/◌, length, inl, inr, refl}
use Rattle.grid.specs.Samples.{count_of, pattern_of}
use Rattle.c_abi.specs.Sizes.{IsOwnSize}
use Rattle.canvas_c.specs.Pieces.{IsCanvas, HasRows, planes_listed, AreRowsOf}
use Rattle.canvas_c.proofs.Ended.{count_is}
use Rattle.canvas_c.proofs.piece.rows_of.Goals as goal

pub returns-in_default-rows-clause-judged : goal.returns-in_default-rows-clause-judged
returns-in_default-rows-clause-judged c =
    let head = c.args.head.now in
    let size : IsOwnSize head.struct_size 56 = search rules in
    let canvas : IsCanvas head = search rules in
    let lacks : ¬ HasRows head.height head.first head.end = search rules in
    inr (size, inr (canvas, inl (lacks, refl)))

pub returns-then-head-ne1-clause-judged : goal.returns-then-head-ne1-clause-judged
returns-then-head-ne1-clause-judged c =
    let head = c.args.head.now in
    let size : IsOwnSize head.struct_size 56 = search rules in
    let canvas : IsCanvas head = search rules in
    let rows : HasRows head.height head.first head.end = search rules in
    let lacks : ¬ (head.initialized ≡ 1) = search rules in
    inr (size, inr (canvas, inr (rows, inl ((λ memory. lacks memory.initialized), refl))))

pub returns-then-not-fits-clause-judged : goal.returns-then-not-fits-clause-judged
returns-then-not-fits-clause-judged c =
    let head = c.args.head.now in
    let size : IsOwnSize head.struct_size 56 = search rules in
    let canvas : IsCanvas head = search rules in
    let rows : HasRows head.height head.first head.end = search rules in
    let misfit : ¬ ((length c.args.planes.now) ≡ planes_listed head.width head.samples head.first head.end) = search rules in
    inr (size, inr (canvas, inr (rows, inl ((λ memory. misfit memory.fits), refl))))

pub returns-clause-judged : goal.returns-clause-judged
returns-clause-judged c =
    let head = c.args.head.now in
    let size : IsOwnSize head.struct_size 56 = search rules in
    let canvas : IsCanvas head = search rules in
    let rows : HasRows head.height head.first head.end = search rules in
    let are : AreRowsOf head c.in-Some-rows.rows = search rules in
    let planes : length c.args.planes.now ≡ (head.end - head.first) * ((head.width + 63) / 64 * (1 + 65 * count_of (pattern_of head.samples))) = search rules in
    let fits : length c.args.planes.now ≡ planes_listed head.width head.samples head.first head.end =
    planes ∙ ap (λ count. (head.end - head.first) * ((head.width + 63) / 64 * (1 + 65 * count))) (count_is head.samples canvas.pattern) in
    ((size, (canvas, (rows, (record { initialized = search rules; fits = fits }, record {})))), are)
