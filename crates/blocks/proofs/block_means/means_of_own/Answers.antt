use Rattle.std.proofs.Common.{refl}
use Rattle.grid.specs.declared.sample_count.SampleCount.TheVariants.{One, Two, Four, Eight, Sixteen}
use Rattle.blocks.proofs.BlockMeans.{means_of_planes}
use Rattle.blocks.proofs.block_means.means_of_own.Goals as goal

pub returns-in-One : goal.returns-in-One
returns-in-One c = means_of_planes c.args.count One c.args.planes.now c.args.k c.place_by.result 1 _ c.in-One.is refl c.requires.block c.requires.planes c.place_by.ensures.value c.requires.way c.means.ensures

pub returns-in-Two : goal.returns-in-Two
returns-in-Two c = means_of_planes c.args.count Two c.args.planes.now c.args.k c.place_by.result 2 _ c.in-Two.is refl c.requires.block c.requires.planes c.place_by.ensures.value c.requires.way c.means-in-Two.ensures

pub returns-in-Four : goal.returns-in-Four
returns-in-Four c = means_of_planes c.args.count Four c.args.planes.now c.args.k c.place_by.result 4 _ c.in-Four.is refl c.requires.block c.requires.planes c.place_by.ensures.value c.requires.way c.means-in-Four.ensures

pub returns-in-Eight : goal.returns-in-Eight
returns-in-Eight c = means_of_planes c.args.count Eight c.args.planes.now c.args.k c.place_by.result 8 _ c.in-Eight.is refl c.requires.block c.requires.planes c.place_by.ensures.value c.requires.way c.means-in-Eight.ensures

pub returns-in-Sixteen : goal.returns-in-Sixteen
returns-in-Sixteen c = means_of_planes c.args.count Sixteen c.args.planes.now c.args.k c.place_by.result 16 _ c.in-Sixteen.is refl c.requires.block c.requires.planes c.place_by.ensures.value c.requires.way c.means-in-Sixteen.ensures
