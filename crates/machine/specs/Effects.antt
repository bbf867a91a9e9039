-- What an instruction does. All operands come from the core before the instruction.
-- Assumes nothing.
use Rattle.std.specs.Prelude.{ℕ, ◌+◌, ◌*◌, ◌%◌, ◌^◌, Bool, true, false, cond, not, ◌&&◌, ◌||◌, List, pos, ◌+ℤ◌, ◌*ℤ◌, Some, None, Ok, Err, Option, Result, ◌==◌, bit_and, bit_or}
use Rattle.arith.specs.declared.flags.Flags.{Flags}
use Rattle.arith.specs.Flags.{sum_flags, difference_flags, sum_with_flags}
use Rattle.arith.specs.Whole.{u, signed, word, sum, sum_with, difference, product, divided, divided_signed, shifted_left, shifted_right, shifted_right_signed, complemented, shifted_in}
use Rattle.arith.specs.Widths.{bytes_of}
use Rattle.isa.specs.declared.instruction.Address.{Address}
use Rattle.isa.specs.declared.instruction.Instruction.{Instruction}
use Rattle.isa.specs.declared.instruction.Operand.{Operand}
use Rattle.isa.specs.declared.opcode.Condition.{Condition}
use Rattle.isa.specs.declared.opcode.Operation.{Operation}
use Rattle.isa.specs.Distances.{words_of}
use Rattle.isa.specs.Kinds.{width_of, extension_of}
use Rattle.isa.specs.Scales.{factor}
use Rattle.access.specs.declared.fault.AccessFault.{AccessFault}
use Rattle.access.specs.Transfers.{loaded, store_says, after_store}
use Rattle.machine.specs.declared.fault.Cause.{Cause}
use Rattle.machine.specs.Cores.{Core, Heard, found, no_more, Act, moves, gets, puts, halts, traps, faults}
use Rattle.machine.specs.Faults.{fault_at}
use Rattle.machine.specs.Registers.{reg, with_reg, following}

-- on to the next word
abbrev pub onward : Core → List ℕ → Flags → List ℕ → Core
onward c regs flags cells = record { regs = regs; flags = flags; place = sum c.place 4; cells = cells }

-- on to another place
abbrev pub jumps : Core → List ℕ → ℕ → Act
jumps c regs place = moves (record { regs = regs; flags = c.flags; place = place; cells = c.cells })

-- a register is set
abbrev pub sets : Core → ℕ → ℕ → Act
sets c to value = moves (onward c (with_reg c.regs to value) c.flags c.cells)

-- a register and the flags are set
abbrev pub sets_both : Core → ℕ → ℕ → Flags → Act
sets_both c to value flags = moves (onward c (with_reg c.regs to value) flags c.cells)

-- A: a register, or the field without a sign
abbrev pub operand : List ℕ → Operand → ℕ
operand regs (Operand.Register n) = reg regs n
operand regs (Operand.Immediate x) = x

-- A of a product: the field is widened by its sign
abbrev pub signed_operand : List ℕ → Operand → ℕ
signed_operand regs (Operand.Register n) = reg regs n
signed_operand regs (Operand.Immediate x) = word (signed 8 x)

-- What arithmetic gives: the registers and the flags after it, or why it is a fault.
abbrev pub Computed : Type 0
Computed = Result (List ℕ × Flags) Cause

abbrev pub gives : List ℕ → ℕ → ℕ → Flags → Computed
gives regs to value flags = Ok (with_reg regs to value, flags)

-- divq, from the quotient and the remainder: no divisor is 107, then a register after the dividend that is not 0 is 108
abbrev pub divides : List ℕ → Flags → ℕ → ℕ → Option (ℕ × ℕ) → Computed
divides regs flags b to None = Err Cause.DivisorZero
divides regs flags b to (Some both) =
    cond (reg regs (following b 1) == 0)
    (Ok (with_reg (with_reg (with_reg regs to both.0) (following to 1) 0) (following to 2) both.1, flags))
    (Err Cause.HighNotZero)

-- idivq
abbrev pub divides_signed : List ℕ → Flags → ℕ → Option (ℕ × ℕ) → Computed
divides_signed regs flags to None = Err Cause.DivisorZero
divides_signed regs flags to (Some both) = Ok (with_reg (with_reg regs to both.0) (following to 1) both.1, flags)

-- B is the register b, and the result goes to the register to
abbrev pub binary : Operation → List ℕ → Flags → Operand → ℕ → ℕ → Computed
binary Operation.Add regs flags a b to = gives regs to (sum (reg regs b) (operand regs a)) (sum_flags (reg regs b) (operand regs a))
binary Operation.Subtract regs flags a b to = gives regs to (difference (reg regs b) (operand regs a)) (difference_flags (reg regs b) (operand regs a))
binary Operation.Multiply regs flags a b to = gives regs to (product (reg regs b) (signed_operand regs a)) flags
binary Operation.Divide regs flags a b to = divides regs flags b to (divided (reg regs b) (operand regs a))
binary Operation.DivideSigned regs flags a b to = divides_signed regs flags to (divided_signed (reg regs b) (operand regs a))
binary Operation.ShiftLeft regs flags a b to = gives regs to (shifted_left (reg regs b) (operand regs a)) flags
binary Operation.ShiftRight regs flags a b to = gives regs to (shifted_right (reg regs b) (operand regs a)) flags
binary Operation.ShiftRightSigned regs flags a b to = gives regs to (shifted_right_signed (reg regs b) (operand regs a)) flags

-- on to the next word, or a fault at the word of the instruction
abbrev pub computes : Core → ℕ → Computed → Act
computes c w (Ok after) = moves (onward c after.0 after.1 c.cells)
computes c w (Err cause) = faults (fault_at cause c.place w)

-- when a jump is taken
abbrev pub same : Bool → Bool → Bool
same true b = b
same false b = not b

abbrev pub taken : Condition → Flags → Bool
taken Condition.Always f = true
taken Condition.Zero f = f.zero
taken Condition.NotZero f = not f.zero
taken Condition.Less f = not (same f.sign f.overflow)
taken Condition.NotLess f = same f.sign f.overflow
taken Condition.NotGreater f = f.zero || not (same f.sign f.overflow)
taken Condition.Greater f = not f.zero && same f.sign f.overflow
taken Condition.Carry f = f.carry
taken Condition.NoCarry f = not f.carry
taken Condition.NotAbove f = f.carry || f.zero
taken Condition.Above f = not f.carry && not f.zero

-- the address of a load or a store
abbrev pub address_in : List ℕ → Address → ℕ
address_in regs (Address.Scaled base index scale) = (reg regs base + reg regs index * factor scale) % 2 ^ 64
address_in regs (Address.Displaced d base) = word (d +ℤ u (reg regs base))

abbrev pub loads : List ℕ → Flags → ℕ → Result ℕ AccessFault → Computed
loads regs flags to (Ok value) = gives regs to value flags
loads regs flags to (Err fault) = Err (Cause.Access fault)

abbrev pub stores : Core → ℕ → List ℕ → Result Unit AccessFault → Act
stores c w cells (Ok _) = moves (onward c c.regs c.flags cells)
stores c w cells (Err fault) = faults (fault_at (Cause.Access fault) c.place w)

-- getc: the byte that is heard, or 255 at the end, goes to a register
abbrev pub heard_value : Heard → ℕ
heard_value (found b) = b
heard_value no_more = 255

abbrev pub hears : Core → ℕ → Heard → Core
hears c to h = onward c (with_reg c.regs to (heard_value h)) c.flags c.cells

-- what an instruction with the word w does
abbrev pub effect : List Bool → Core → ℕ → Instruction → Act
effect marks c w (Instruction.Load kind a to) =
    computes c w (loads c.regs c.flags to (loaded c.cells (address_in c.regs a) (width_of kind) (extension_of kind)))
effect marks c w (Instruction.Store width from a) =
    stores c w
    (after_store marks c.cells (address_in c.regs a) (bytes_of width) (reg c.regs from))
    (store_says marks (address_in c.regs a) width)
effect marks c w (Instruction.Binary o a b to) = computes c w (binary o c.regs c.flags a b to)
effect marks c w (Instruction.AddWithZero a b to) =
    sets_both c to
    (sum_with (reg c.regs b) (reg c.regs a) c.flags.zero)
    (sum_with_flags (reg c.regs b) (reg c.regs a) c.flags.zero)
effect marks c w (Instruction.AddTriple x b to) = sets_both c to (sum (reg c.regs b) (3 * x)) (sum_flags (reg c.regs b) (3 * x))
effect marks c w (Instruction.Or a b to) = sets c to (bit_or (reg c.regs b) (reg c.regs a))
effect marks c w (Instruction.And a b to) = sets c to (bit_and (reg c.regs b) (reg c.regs a))
effect marks c w (Instruction.Not from to) = sets c to (complemented (reg c.regs from))
effect marks c w (Instruction.LoadUnsigned value to) = sets c to value
effect marks c w (Instruction.LoadSigned value to) = sets c to (word value)
effect marks c w (Instruction.ShiftIn value to) = sets c to (shifted_in (reg c.regs to) value)
effect marks c w (Instruction.Jump when d) =
    jumps c c.regs (cond (taken when c.flags) (word (u c.place +ℤ words_of d *ℤ pos 4)) (sum c.place 4))
effect marks c w (Instruction.JumpRegister target link) = jumps c (with_reg c.regs link (sum c.place 4)) (reg c.regs target)
effect marks c w (Instruction.Halt code) = halts (operand c.regs code % 256)
effect marks c w (Instruction.Trap x y z) = traps x y z
effect marks c w (Instruction.Get to) = gets (hears c to)
effect marks c w (Instruction.Put from) = puts (operand c.regs from % 256) (onward c c.regs c.flags c.cells)
effect marks c w Instruction.Nothing = moves (onward c c.regs c.flags c.cells)
