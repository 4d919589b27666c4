use Rattle.std.proofs.Common.{◌≡◌, ◌≤◌, ◌+◌, ◌-◌, ◌/◌, ◌∙◌, sym, subst, inl, inr, refl, length, rules, arith}
use Rattle.grid.specs.Pixels.{side_of}
use Rattle.grid.specs.declared.pixels.TileSide.{TileSide}
use Rattle.list_json.specs.Denotes.{Denotes}
use Rattle.draw_list.specs.Scene.{Scene}
use Rattle.engine.specs.Picture.{rows_length}
use Rattle.trirast_c.specs.Library.{HasTileRows}
use Rattle.trirast_c.proofs.picture_rows.draw_rows_into.Goals as goal
use Rattle.trirast_c.proofs.picture_rows.draw_rows_into.Goals.{then-first-end-via-then-first-end, then-first-end-via-else-first-end+then-end-rows}

pub returns-then-first-end-clause-judged : goal.returns-then-first-end-clause-judged
returns-then-first-end-clause-judged c =
    let side = c.in_ok-side.ensures in
    let read = c.in_ok-list.ensures in
    let lacks : ¬ HasTileRows c.in_ok-list.list c.in_ok-side.side c.args.rows.start c.args.rows.end = elim c.then-first-end.branch [
      | then-first-end-via-then-first-end w ↦ λ has. omega (arith, has.0, w.if-first-end.true)
      | then-first-end-via-else-first-end+then-end-rows w ↦ λ has. omega (arith, has.1, w.if-end-rows.true, rw (w.new.ensures, w.height.ensures.value) at w.rows.ensures.value)
    ] in
    rw c.from.ensures (record {
      first = inr (side.0.0, inr (read.judged.0.0, inr (inr (read.judged.0.1.0, inl ((λ all. lacks (all c.in_ok-list.list c.in_ok-side.side read.judged.1 side.1)), refl)))));
      fault = (λ h. cc, λ h. cc);
    })

pub returns-then-bytes_of_rows-buffer-clause-judged : goal.returns-then-bytes_of_rows-buffer-clause-judged
returns-then-bytes_of_rows-buffer-clause-judged c =
    let side = c.in_ok-side.ensures in
    let read = c.in_ok-list.ensures in
    let list = c.in_ok-list.list in
    let has : HasTileRows list c.in_ok-side.side c.args.rows.start c.args.rows.end = search rules in
    let each : (l : Scene) (s : TileSide) → Denotes c.args.json.now l → side_of s ≡ c.args.tile_size → HasTileRows l s c.args.rows.start c.args.rows.end =
    λ l s means is. (has.0, subst (λ n. c.args.rows.end ≤ (l.height + n - 1) / n) (side.1 ∙ sym is) (subst (λ (m : Scene). c.args.rows.end ≤ (m.height + side_of c.in_ok-side.side - 1) / side_of c.in_ok-side.side) (read.only l means) has.1)) in
    let longer : ¬ (rows_length list c.in_ok-side.side c.args.rows.start c.args.rows.end ≤ length c.args.buffer.now) = λ fits.
    let small : c.bytes_of_rows.result ≤ length c.args.buffer.now = rw c.bytes_of_rows.ensures.length fits in
    omega (arith, small, c.if-bytes_of_rows-buffer.true) in
    rw c.from-then-bytes_of_rows-buffer.ensures (record {
      first = inr (side.0.0, inr (read.judged.0.0, inr (inr (read.judged.0.1.0, inr (each, inl ((λ all. longer (all list c.in_ok-side.side read.judged.1 side.1)), refl))))));
      fault = (λ h. cc, λ h. cc);
    })
