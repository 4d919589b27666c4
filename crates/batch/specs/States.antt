-- The checks of a draw's state.
use Rattle.std.specs.Prelude.{◌≤◌}
use Rattle.checks.specs.Checking.{Checks, done, check}
use Rattle.batch.specs.Equations.{HasKnownFactors, HasKnownOperations}
use Rattle.batch.specs.declared.draw.BatchDraw.{BatchDraw}
use Rattle.batch.specs.declared.fault.BatchCause.{BatchCause}
use Rattle.batch.specs.declared.fault.BatchCause.TheVariants.{BadTopology, BadCull, BadDepthTest, BadDepthWrite, BadKeep, BadScissorEnable, BadFactor, BadOperation}

-- The numbers are in range that say what primitives a draw has, and its state.
abbrev pub state_checks : BatchDraw → Checks BatchCause
state_checks d =
    check (d.topology ≤ 2) BadTopology (
    check (d.cull ≤ 2) BadCull (
    check (d.depth_test ≤ 7) BadDepthTest (
    check (d.depth_write ≤ 1) BadDepthWrite (
    check (d.keep ≤ 15) BadKeep (
    check (d.scissor_enable ≤ 1) BadScissorEnable (
    check (HasKnownFactors d.blend) BadFactor (
    check (HasKnownOperations d.blend) BadOperation
    done)))))))
