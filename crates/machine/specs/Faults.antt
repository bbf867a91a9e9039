-- The numbers that faults are told by.
-- Assumes nothing.
use Rattle.std.specs.Prelude.{ℕ}
use Rattle.access.specs.Faults.{number as access-number}
use Rattle.machine.specs.declared.fault.Cause.{Cause}
use Rattle.machine.specs.declared.fault.Fault.{Fault}

-- 101 and 102 of a fetch, 104 to 106 of a load or a store
abbrev pub cause_number : Cause → ℕ
cause_number (Cause.Access fault) = access-number fault
cause_number Cause.Illegal = 103
cause_number Cause.DivisorZero = 107
cause_number Cause.HighNotZero = 108

abbrev pub number : Fault → ℕ
number fault = cause_number fault.cause

-- a cause with the place and the word of its instruction
abbrev pub fault_at : Cause → ℕ → ℕ → Fault
fault_at cause place word = record { cause = cause; place = place; word = word }
