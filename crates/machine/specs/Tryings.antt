-- What one try promises.
-- Assumes nothing.
use Rattle.std.specs.Prelude.{◌≡◌, ℕ, List, Ok, Err, Result}
use Rattle.arith.specs.declared.flags.Flags.{Flags}
use Rattle.console.specs.Streams.{Con}
use Rattle.machine.specs.declared.attempt.Tried.{Tried}
use Rattle.machine.specs.declared.ending.Ending.{Ending}
use Rattle.machine.specs.declared.fault.Fault.{Fault}
use Rattle.machine.specs.Cores.{core_of}
use Rattle.machine.specs.Parts.{Parts, state_at}
use Rattle.machine.specs.Steps.{State, Next, goes, waits, full, fails, living, stopped_with, next}

-- nothing has changed
abbrev pub Kept : State → List ℕ → List ℕ → Con → Type 0
Kept s regs cells k = living (core_of regs s.core.flags s.core.place cells) k ≡ s

-- an answer tells what the try came to: regs, cells and k are what it leaves
abbrev pub Tells : Next → State → List ℕ → List ℕ → Con → Result Tried Fault → Type 0
Tells n s regs cells k (Ok (Tried.Went place flags)) = n ≡ goes (living (core_of regs flags place cells) k)
Tells n s regs cells k (Ok (Tried.Halts code)) = (n ≡ goes (stopped_with s.core s.con (Ending.Halt code))) × Kept s regs cells k
Tells n s regs cells k (Ok (Tried.Traps x y z)) = (n ≡ goes (stopped_with s.core s.con (Ending.Trap x y z))) × Kept s regs cells k
Tells n s regs cells k (Ok Tried.Waits) = (n ≡ waits) × Kept s regs cells k
Tells n s regs cells k (Ok Tried.Full) = (n ≡ full) × Kept s regs cells k
Tells n s regs cells k (Err fault) = (n ≡ fails fault) × Kept s regs cells k

-- what a try with these parts, at a place and with flags, promises: t and tried are the parts that it leaves and its answer
abbrev pub Attempted : Parts → ℕ → Flags → Parts → Result Tried Fault → Type 0
Attempted s place flags t tried = Tells (next s.marks (state_at s place flags)) (state_at s place flags) t.regs t.cells t.con tried
