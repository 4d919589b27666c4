use Rattle.std.proofs.Common.{slice_index}
use Rattle.readout.specs.Loaded.{coloured}
use Rattle.readout.proofs.Changes.{IsPixelChanged}
use Rattle.readout.proofs.loaded.store_samples.Given as goal

abbrev pub invariant-loop-s : goal.invariant-loop-s
invariant-loop-s l = IsPixelChanged l.fn.count l.i l.j l.fn.indices.first l.s (λ sample. coloured l.fn.format l.fn.indices.alpha (λ k. slice_index l.pixel k) sample) l.fn.samples l.samples
