-- What an act leaves at a console, in the parts that a try hands back.
-- Assumes nothing.
use Rattle.std.specs.Prelude.{◌≡◌, ℕ, List, Ok, Err, Result}
use Rattle.arith.specs.declared.flags.Flags.{Flags}
use Rattle.arith.specs.Whole.{sum}
use Rattle.access.specs.declared.fault.AccessFault.{AccessFault}
use Rattle.console.specs.declared.Full.{Full}
use Rattle.console.specs.declared.ReadAnswer.{ReadAnswer}
use Rattle.console.specs.Streams.{Con, read_says, after_read, put_says, after_put}
use Rattle.machine.specs.declared.attempt.Tried.{Tried}
use Rattle.isa.specs.declared.instruction.Instruction.{Instruction}
use Rattle.machine.specs.declared.fault.Cause.{Cause}
use Rattle.machine.specs.declared.fault.Fault.{Fault}
use Rattle.machine.specs.Cores.{Core, Heard, found, no_more, Act, moves, gets, puts, halts, traps, faults}
use Rattle.machine.specs.Effects.{Computed, effect}
use Rattle.machine.specs.Faults.{fault_at}
use Rattle.machine.specs.Parts.{Parts, core_at}
use Rattle.machine.specs.Registers.{with_reg}

-- the registers after arithmetic, which stay at a fault, and its answer
abbrev pub split : List ℕ → Computed → List ℕ × Result Flags Cause
split regs (Ok after) = (after.0, Ok after.1)
split regs (Err cause) = (regs, Err cause)

-- the answer of a store, as arithmetic that keeps the flags
abbrev pub lifted : Flags → Result Unit AccessFault → Result Flags Cause
lifted flags (Ok _) = Ok flags
lifted flags (Err fault) = Err (Cause.Access fault)

-- such an answer for an instruction at a place
abbrev pub settled : ℕ → ℕ → Result Flags Cause → Result Tried Fault
settled place word (Ok flags) = Ok (Tried.Went (sum place 4) flags)
settled place word (Err cause) = Err (fault_at cause place word)

-- the registers after a getc into a register, and its answer
abbrev pub heard : List ℕ → ℕ → Flags → ℕ → ReadAnswer → List ℕ × Tried
heard regs place flags to (ReadAnswer.Byte b) = (with_reg regs to b, Tried.Went (sum place 4) flags)
heard regs place flags to ReadAnswer.End = (with_reg regs to 255, Tried.Went (sum place 4) flags)
heard regs place flags to ReadAnswer.NotYet = (regs, Tried.Waits)

-- the answer of a putc
abbrev pub put_tried : ℕ → Flags → Result Unit Full → Tried
put_tried place flags (Ok _) = Tried.Went (sum place 4) flags
put_tried place flags (Err _) = Tried.Full

-- the registers, the cells and the console that a try leaves, and its answer
pub record Left : Type 0 where
  pub regs : List ℕ
  pub cells : List ℕ
  pub con : Con
  pub tried : Result Tried Fault

abbrev pub left_at : Core → Con → Left
left_at d k = record { regs = d.regs; cells = d.cells; con = k; tried = Ok (Tried.Went d.place d.flags) }

abbrev pub kept_at : Core → Con → Result Tried Fault → Left
kept_at c k tried = record { regs = c.regs; cells = c.cells; con = k; tried = tried }

abbrev pub leaves_get : (Heard → Core) → Core → Con → ReadAnswer → Left
leaves_get f c k (ReadAnswer.Byte b) = left_at (f (found b)) (after_read k)
leaves_get f c k ReadAnswer.End = left_at (f no_more) (after_read k)
leaves_get f c k ReadAnswer.NotYet = kept_at c (after_read k) (Ok Tried.Waits)

abbrev pub leaves_put : ℕ → Core → Core → Con → Result Unit Full → Left
leaves_put b d c k (Ok _) = left_at d (after_put k b)
leaves_put b d c k (Err _) = kept_at c (after_put k b) (Ok Tried.Full)

abbrev pub leaves : Act → Core → Con → Left
leaves (moves d) c k = left_at d k
leaves (gets f) c k = leaves_get f c k (read_says k)
leaves (puts b d) c k = leaves_put b d c k (put_says k)
leaves (halts code) c k = kept_at c k (Ok (Tried.Halts code))
leaves (traps x y z) c k = kept_at c k (Ok (Tried.Traps x y z))
leaves (faults fault) c k = kept_at c k (Err fault)

-- what the parts and the answer after an instruction with the word w are
abbrev pub Executed : Parts → ℕ → Flags → ℕ → Instruction → Parts → Result Tried Fault → Type 0
Executed s place flags w i t tried =
    ◌≡◌ {A = Left}
    (record { regs = t.regs; cells = t.cells; con = t.con; tried = tried })
    (leaves (effect s.marks (core_at s place flags) w i) (core_at s place flags) s.con)
