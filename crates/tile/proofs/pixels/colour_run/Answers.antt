use Rattle.std.proofs.Common.{replicate, sym}
use Rattle.std.proofs.lemmas.Simd.{put_chunk_whole}
use Rattle.tile.proofs.pixels.colour_run.Goals as goal

pub returns : goal.returns
returns c = rw (put_chunk_whole (replicate 32 0) c.colours.result (sym c.colours.ensures.whole)) c.colours.ensures.colours
