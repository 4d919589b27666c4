-- The errors of a run by those of its list and of its workers.
use Rattle.std.specs.Prelude.{◌≡◌, ◌≢◌, ◌⊎◌}
use Rattle.draw_list.specs.declared.fault.ReadFault.{ReadFault}
use Rattle.draw_list.specs.declared.fault.ReadKind.TheVariants as kind
use Rattle.pool.specs.declared.fault.PoolFault.{PoolFault}
use Rattle.pool.specs.declared.fault.PoolFault.TheVariants as pool
use Rattle.engine.specs.declared.fault.Fault.{Fault}
use Rattle.engine.specs.declared.fault.Fault.TheVariants.{List, Pool, OutOfMemory}

-- The error of a run for an error of its list. Out of memory is one error, wherever it comes from.
abbrev pub IsOfList : ReadFault → Fault → Type 0
IsOfList fault whole = ((fault.kind ≡ kind.OutOfMemory) × (whole ≡ OutOfMemory)) ⊎ ((fault.kind ≢ kind.OutOfMemory) × (whole ≡ List fault))

-- The error of a run for an error of its workers.
abbrev pub of_pool : PoolFault → Fault
of_pool pool.OutOfMemory = OutOfMemory
of_pool pool.NoWorker = Pool pool.NoWorker
