-- Words of four bytes, highest first, and the instructions that they stand for.
use Rattle.std.specs.Prelude.{◌≡◌, ℕ, ◌+◌, ◌*◌, cond, List, Some, None, Option, MatchOption, ◌==◌, ◌≢◌, slice_index}
use Rattle.std.specs.Int.{w8, w16}
use Rattle.std.proofs.Common.{to_z}
use Rattle.isa.specs.declared.opcode.Opcode.{Opcode}
use Rattle.isa.specs.declared.opcode.Reach.{Reach}
use Rattle.isa.specs.declared.opcode.Source.{Source}
use Rattle.isa.specs.declared.distance.Distance.{Distance}
use Rattle.isa.specs.declared.instruction.Address.{Address}
use Rattle.isa.specs.declared.instruction.Operand.{Operand}
use Rattle.isa.specs.declared.instruction.Instruction.{Instruction}
use Rattle.isa.specs.Opcodes.{opcode_of}
use Rattle.isa.specs.Instructions.{encoded, Formed}

-- an address from its two fields; a displacement is read with its sign
abbrev pub address_of : Reach → ℕ → ℕ → Address
address_of (Reach.Scaled s) first second = Address.Scaled first second s
address_of Reach.Displaced first second = Address.Displaced (to_z w8 first) second

abbrev pub operand_of : Source → ℕ → Operand
operand_of Source.Register x = Operand.Register x
operand_of Source.Immediate x = Operand.Immediate x

-- the 24 bits of X, Y and Z read with their sign
abbrev pub distance_of : ℕ → ℕ → ℕ → Distance
distance_of x y z = record { high = to_z w8 x; low = y * 256 + z }

-- an instruction, if the fields without a meaning are 0
abbrev pub if_zero : ℕ → Instruction → Option Instruction
if_zero n i = cond (n == 0) (Some i) None

-- the instruction of an opcode and the fields X, Y and Z
abbrev pub with_fields : Opcode → ℕ → ℕ → ℕ → Option Instruction
with_fields (Opcode.Load k r) x y z = Some (Instruction.Load k (address_of r x y) z)
with_fields (Opcode.Store w r) x y z = Some (Instruction.Store w x (address_of r y z))
with_fields (Opcode.Binary o s) x y z = Some (Instruction.Binary o (operand_of s x) y z)
with_fields Opcode.AddWithZero x y z = Some (Instruction.AddWithZero x y z)
with_fields Opcode.AddTriple x y z = Some (Instruction.AddTriple x y z)
with_fields Opcode.Or x y z = Some (Instruction.Or x y z)
with_fields Opcode.And x y z = Some (Instruction.And x y z)
with_fields Opcode.Not x y z = if_zero z (Instruction.Not x y)
with_fields Opcode.LoadUnsigned x y z = Some (Instruction.LoadUnsigned (x * 256 + y) z)
with_fields Opcode.LoadSigned x y z = Some (Instruction.LoadSigned (to_z w16 (x * 256 + y)) z)
with_fields Opcode.ShiftIn x y z = Some (Instruction.ShiftIn (x * 256 + y) z)
with_fields (Opcode.Jump c) x y z = Some (Instruction.Jump c (distance_of x y z))
with_fields Opcode.JumpRegister x y z = if_zero z (Instruction.JumpRegister x y)
with_fields (Opcode.Halt s) x y z = if_zero (y + z) (Instruction.Halt (operand_of s x))
with_fields Opcode.Trap x y z = Some (Instruction.Trap x y z)
with_fields Opcode.Get x y z = if_zero (y + z) (Instruction.Get x)
with_fields (Opcode.Put s) x y z = if_zero (y + z) (Instruction.Put (operand_of s x))
with_fields Opcode.Nothing x y z = if_zero (x + y + z) Instruction.Nothing

abbrev pub with_opcode : Option Opcode → ℕ → ℕ → ℕ → Option Instruction
with_opcode None x y z = None
with_opcode (Some o) x y z = with_fields o x y z

-- the instruction that a word stands for, if it is legal
abbrev pub decoded : List ℕ → Option Instruction
decoded w = with_opcode (opcode_of (slice_index w 0)) (slice_index w 1) (slice_index w 2) (slice_index w 3)

-- a word of four bytes stands for an instruction exactly if that instruction has the word
abbrev pub Decodes : List ℕ → Option Instruction → Type 0
Decodes w r = MatchOption r ((i : Instruction) → Formed i → encoded i ≢ w) (λ i. Formed i × (encoded i ≡ w))
