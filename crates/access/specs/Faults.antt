-- Faults of an access, with the access that met them, and their numbers.
-- Assumes nothing.
use Rattle.std.specs.Prelude.{ℕ, Ok, Err, Result}
use Rattle.arith.specs.declared.width.Width.{Width}
use Rattle.memory.specs.declared.cells.CellFault.{CellFault}
use Rattle.access.specs.declared.fault.Access.{Access}
use Rattle.access.specs.declared.fault.AccessFault.{AccessFault}
use Rattle.access.specs.declared.fault.Cause.{Cause}

-- a cause, with the access that met it
abbrev pub fault_of : Access → ℕ → Width → Cause → AccessFault
fault_of access at width why = record { access = access; address = at; width = width; cause = why }

-- what became of an access, with the access named where it failed
abbrev pub told : {X : Type 0} → Access → ℕ → Width → Result X Cause → Result X AccessFault
told access at width (Ok value) = Ok value
told access at width (Err why) = Err (fault_of access at width why)

-- the numbers of what is wrong with a fetch, which meets no shut cell, and with a load or a store
abbrev pub fetch_number : Cause → ℕ
fetch_number Cause.Misaligned = 101
fetch_number (Cause.Cell cell) = 102

abbrev pub data_number : Cause → ℕ
data_number Cause.Misaligned = 104
data_number (Cause.Cell CellFault.Outside) = 105
data_number (Cause.Cell CellFault.Shut) = 106

abbrev pub numbered : Access → Cause → ℕ
numbered Access.Fetch why = fetch_number why
numbered Access.Load why = data_number why
numbered Access.Store why = data_number why

abbrev pub number : AccessFault → ℕ
number fault = numbered fault.access fault.cause
