-- A machine by its parts, and what no call on it changes.
-- Assumes nothing.
use Rattle.std.specs.Prelude.{◌≡◌, ℕ, Bool, List}
use Rattle.arith.specs.declared.flags.Flags.{Flags}
use Rattle.memory.specs.Slices.{Loans, Kept}
use Rattle.console.specs.Streams.{Con}
use Rattle.machine.specs.Cores.{Core, core_of}
use Rattle.machine.specs.Steps.{State, living}
use Rattle.machine.specs.declared.parts.Machine.{Machine}

-- what a machine's parts mean: its memory's marks and loans, its registers, its memory's cells, its console
pub record Parts : Type 0 where
  pub marks : List Bool
  pub loans : Loans
  pub regs : List ℕ
  pub cells : List ℕ
  pub con : Con

-- those parts as one value
abbrev pub parts_of : List Bool → Loans → List ℕ → List ℕ → Con → Parts
parts_of marks loans regs cells con = record { marks = marks; loans = loans; regs = regs; cells = cells; con = con }

-- the parts of a machine
abbrev pub parts : {M C : Type 0} → (M → List Bool) → (M → Loans) → (M → List ℕ) → (C → Con) → Machine M C → Parts
parts marks loans cells view m = parts_of (marks m.memory.now) (loans m.memory.now) m.bank.now.regs (cells m.memory.now) (view m.console.now)

-- the machine has the parts that it had, and the marks and the loans of its memory are as they were
pub record KeepsParts {M C : Type 0} (marks : M → List Bool) (loans : M → Loans) (old new : Machine M C) : Type 0 where
  pub same_bank : new.bank.ghost_name ≡ old.bank.ghost_name
  pub same_memory : new.memory.ghost_name ≡ old.memory.ghost_name
  pub same_console : new.console.ghost_name ≡ old.console.ghost_name
  pub kept : Kept marks loans old.memory.now new.memory.now

-- the core and the state of such a machine at a place, with flags
abbrev pub core_at : Parts → ℕ → Flags → Core
core_at p place flags = core_of p.regs flags place p.cells

abbrev pub state_at : Parts → ℕ → Flags → State
state_at p place flags = living (core_at p place flags) p.con
