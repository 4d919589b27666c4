use Rattle.std.proofs.Common.{◌≡◌, ◌∙◌, ap, sym, map, get_or}
use Rattle.std.proofs.lemmas.List.{length-map, get_or-map}
use Rattle.draw_list.specs.Listing.{draw_listing}
use Rattle.draw_list.proofs.Numbering.{draw_within}
use Rattle.draw_list.proofs.Spans.{placed_more}
use Rattle.draw_list.proofs.rows.rows_of.Goals as goal

pub push_rows-requires : goal.push_rows-requires
push_rows-requires c = draw_within c.args.draws.now _ _ c.loop-draw-test.true c.draw-item.is c.requires

pub loop-draw-preserved : goal.loop-draw-preserved
loop-draw-preserved c =
    let draws = c.args.draws.now in
    let number = c.loop-draw.draw-index in
    let d = c.draw-item.result in
    let there = c.loop-draw-test.true in
    let is : get_or (map draw_listing draws) number (draw_listing d) ≡ draw_listing d = get_or-map draw_listing draws number d (draw_listing d) there ∙ ap draw_listing (sym c.draw-item.is) in
    rw (← placed_more (map draw_listing draws) number (draw_listing d) (rw length-map there) is) (c.in_ok-push_rows.ensures _ c.loop-draw.invariant)
