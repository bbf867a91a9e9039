-- The machine's own state, and what one try of an instruction asks for.
-- An instruction does not see the console: where it reads, it says how it goes on with what is heard.
-- Assumes nothing.
use Rattle.std.specs.Prelude.{ℕ, List}
use Rattle.arith.specs.declared.flags.Flags.{Flags}
use Rattle.machine.specs.declared.fault.Fault.{Fault}

-- the registers, the flags, the address of the next instruction, and the memory's cells
pub record Core : Type 0 where
  pub regs : List ℕ
  pub flags : Flags
  pub place : ℕ
  pub cells : List ℕ

abbrev pub core_of : List ℕ → Flags → ℕ → List ℕ → Core
core_of regs flags place cells = record { regs = regs; flags = flags; place = place; cells = cells }

-- what a getc hears once there is something to hear: a byte, or the end of the input
pub data Heard : Type 0 where
  found : ℕ → Heard
  no_more : Heard

-- what an instruction asks for: a new core, a byte to go on with, a byte to be put before it goes on, or an ending
pub data Act : Type 0 where
  moves : Core → Act
  gets : (Heard → Core) → Act
  puts : ℕ → Core → Act
  halts : ℕ → Act
  traps : ℕ → ℕ → ℕ → Act
  faults : Fault → Act
