use Rattle.std.proofs.Common.{rules, true, ◌≡◌, ◌≢◌, ap, sym, subst, ℕ, ◌<◌, arith}
use Rattle.grid.specs.Samples.{count_of}
use Rattle.grid.specs.declared.sample_count.SampleCount.TheVariants.{One}
use Rattle.blocks.specs.declared.way.Way.TheVariants.{Own}
use Rattle.blocks.specs.Layout.{is_plain, place_by, in_list}
use Rattle.blocks.specs.Means.{HasMeansOf}
use Rattle.blocks.proofs.TilePlanes.{one_place}
use Rattle.blocks.proofs.BlockMeans.{means_of_one}
use Rattle.readout.proofs.Written.{by_means}
use Rattle.readout.proofs.colours.resolve_block.Goals as goal
use Rattle.readout.proofs.colours.resolve_block.Goals.{then-ne, else-ne}

pub returns-then-eq : goal.returns-then-eq
returns-then-eq c =
    let count = c.args.rows.now.tile_rows.canvas.count in
    let xs = c.args.planes.now in
    let k : ℕ = c.block_in_tile-k.result in
    let way = c.way_of-way.result in
    let plain : is_plain way ≡ true = search rules in
    let alike : (s : ℕ) → s < count_of count → place_by count way k s ≡ place_by count way k 0 =
    elim c.if-ne.branch [
      | then-ne w ↦
          let other : way ≢ Own = search rules in
          λ s l. one_place count way k s plain other
      | else-ne w ↦
          let one : count ≡ One = search rules in
          λ s l. ap (λ n. place_by count way k n) (omega (arith, l, ap count_of one))
    ] in
    by_means c.args.rows.now count xs (in_list xs c.place_by.result) c.args.across c.args.down k c.args.format c.args.bytes.now _ c.block_in_tile-k.ensures.value
    (subst (λ p. HasMeansOf count xs k (in_list xs p)) (sym c.place_by.ensures.value) (means_of_one count xs way k (sym c.way_of-way.ensures) plain alike)) c.resolve_block_by.ensures

pub returns-then-eq-2 : goal.returns-then-eq-2
returns-then-eq-2 c =
    let count = c.args.rows.now.tile_rows.canvas.count in
    by_means c.args.rows.now count c.args.planes.now c.means_of_one-means.result c.args.across c.args.down c.block_in_tile-k.result c.args.format c.args.bytes.now _ c.block_in_tile-k.ensures.value c.means_of_one-means.ensures
    c.resolve_block_by-then-eq-2.ensures
