use Rattle.std.proofs.Common.{rules, ◌≡◌, ◌∙◌, ◌-◌, ◌<◌, ◌≤◌, ℕ, ap, refl, arith}
use Rattle.std.proofs.lemmas.Result.{err_from_is_err_and}
use Rattle.tiling.specs.Grid.{TileGrid, rows_of, tiles_over}
use Rattle.engine.specs.Picture.{EndsRows}
use Rattle.engine.proofs.Written.{header_cut, header_written}
use Rattle.engine.proofs.Writing.{by_names, file_ended}
use Rattle.engine.proofs.picture.write_rows.Goals as goal

pub returns-in_err-header-clause-fault : goal.returns-in_err-header-clause-fault
returns-in_err-header-clause-fault g c =
    let p = err_from_is_err_and c.from_residual.result c.from_residual.ensures.1 in
    let count : ℕ = c.in_err-header.field-0.0.written in
    let cut = c.in_err-header.ensures.bytes in
    let all : count - 0 ≡ count = omega arith in
    rw (p.1, p.2)
    (header_cut c.args.list.now c.output.result c.width-2.result c.height-2.result count _ _ c.output.ensures c.width-2.ensures.value c.height-2.ensures.value (rw (← c.width.ensures.value) c.width.ensures.least) (omega (arith, cut.written.1)) (rw all at cut.beginning))

pub returns-then-columns-together-eq1 : goal.returns-then-columns-together-eq1
returns-then-columns-together-eq1 g c =
    let list = c.args.list.now in
    let tile = c.args.options.tile in
    let rows = c.new-rows.result in
    let side = ap (λ (grid : TileGrid). grid.side) c.new-tiling.ensures in
    let tall : rows_of c.new-tiling.result ≡ tiles_over list.height tile = rw c.new-tiling.ensures (rw c.height.ensures.value refl) in
    let all : c.rows-2.result ≡ tiles_over list.height tile = c.rows-2.ensures.value ∙ tall in
    let some : 0 < tiles_over list.height tile = omega (arith, all, c.rows-2.ensures.least) in
    let wide : 1 ≤ list.width = rw (← c.width.ensures.value) c.width.ensures.least in
    let head = header_written list tile 0 c.output.result c.width-2.result c.height-2.result c.in_ok-header.header (g.W.Write.contents c.args.output.now.inner) (g.W.Write.contents c.write_header.new.out.inner) refl c.output.ensures c.width-2.ensures.value c.height-2.ensures.value c.in_ok-header.ensures.count c.in_ok-header.ensures.bytes.all in
    let ends = by_names list rows.list.now c.new-tiling.result rows.tiling.now tile 0 rows.first c.rows-2.result rows.end c.new-rows.ensures.0 c.new-rows.ensures.1 side c.new-rows.ensures.2 c.new-rows.ensures.3
    (λ l side first end. EndsRows l side first end c.in_ok-header.header c.write_alone.result (g.W.Write.contents c.write_header.new.out.inner) (g.W.Write.contents c.write_alone.new.output.inner) c.write_header.new.out.failures c.write_alone.new.output.failures) c.write_alone.ensures in
    let file = file_ended list tile c.rows-2.result c.in_ok-header.header wide some all (g.W.Write.contents c.args.output.now.inner) (g.W.Write.contents c.write_header.new.out.inner) head c.write_alone.result (g.W.Write.contents c.write_alone.new.output.inner) _ _ ends in
    record { file = file.0; fault = file.1; write_failed = search rules; same_failures = search rules }

pub returns-else-columns-together-eq1 : goal.returns-else-columns-together-eq1
returns-else-columns-together-eq1 g c =
    let list = c.args.list.now in
    let tile = c.args.options.tile in
    let rows = c.new-rows.result in
    let side = ap (λ (grid : TileGrid). grid.side) c.new-tiling.ensures in
    let tall : rows_of c.new-tiling.result ≡ tiles_over list.height tile = rw c.new-tiling.ensures (rw c.height.ensures.value refl) in
    let all : c.rows-2.result ≡ tiles_over list.height tile = c.rows-2.ensures.value ∙ tall in
    let some : 0 < tiles_over list.height tile = omega (arith, all, c.rows-2.ensures.least) in
    let wide : 1 ≤ list.width = rw (← c.width.ensures.value) c.width.ensures.least in
    let head = header_written list tile 0 c.output.result c.width-2.result c.height-2.result c.in_ok-header.header (g.W.Write.contents c.args.output.now.inner) (g.W.Write.contents c.write_header.new.out.inner) refl c.output.ensures c.width-2.ensures.value c.height-2.ensures.value c.in_ok-header.ensures.count c.in_ok-header.ensures.bytes.all in
    let ends = by_names list rows.list.now c.new-tiling.result rows.tiling.now tile 0 rows.first c.rows-2.result rows.end c.new-rows.ensures.0 c.new-rows.ensures.1 side c.new-rows.ensures.2 c.new-rows.ensures.3
    (λ l side first end. EndsRows l side first end c.in_ok-header.header c.write_together.result (g.W.Write.contents c.write_header.new.out.inner) (g.W.Write.contents c.write_together.new.output.inner) c.write_header.new.out.failures c.write_together.new.output.failures) c.write_together.ensures in
    let file = file_ended list tile c.rows-2.result c.in_ok-header.header wide some all (g.W.Write.contents c.args.output.now.inner) (g.W.Write.contents c.write_header.new.out.inner) head c.write_together.result (g.W.Write.contents c.write_together.new.output.inner) _ _ ends in
    record { file = file.0; fault = file.1; write_failed = search rules; same_failures = search rules }
