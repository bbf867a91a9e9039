-- The opcode and the fields X, Y and Z of each instruction.
use Rattle.std.specs.Prelude.{ℕ, ◌/◌, ◌%◌, ◌^◌, ◌<◌, List, [], ◌∷◌}
use Rattle.std.specs.Int.Signed.{mag}
use Rattle.std.specs.Int.{w8, w16}
use Rattle.std.proofs.Common.{of_z}
use Rattle.isa.specs.declared.opcode.Opcode.{Opcode}
use Rattle.isa.specs.declared.opcode.Reach.{Reach}
use Rattle.isa.specs.declared.opcode.Source.{Source}
use Rattle.isa.specs.declared.instruction.Address.{Address}
use Rattle.isa.specs.declared.instruction.Operand.{Operand}
use Rattle.isa.specs.declared.instruction.Instruction.{Instruction}
use Rattle.isa.specs.Opcodes.{code_of}
use Rattle.isa.specs.Distances.{IsDistance}

abbrev pub reach_of : Address → Reach
reach_of (Address.Scaled base index s) = Reach.Scaled s
reach_of (Address.Displaced d base) = Reach.Displaced

-- the two fields of an address; a displacement is the bits of its two's complement
abbrev pub pair_of : Address → ℕ × ℕ
pair_of (Address.Scaled base index s) = (base, index)
pair_of (Address.Displaced d base) = (of_z w8 d, base)

abbrev pub source_of : Operand → Source
source_of (Operand.Register x) = Source.Register
source_of (Operand.Immediate x) = Source.Immediate

abbrev pub field_of : Operand → ℕ
field_of (Operand.Register x) = x
field_of (Operand.Immediate x) = x

abbrev pub opcode : Instruction → Opcode
opcode (Instruction.Load k a to) = Opcode.Load k (reach_of a)
opcode (Instruction.Store w from a) = Opcode.Store w (reach_of a)
opcode (Instruction.Binary o a b to) = Opcode.Binary o (source_of a)
opcode (Instruction.AddWithZero a b to) = Opcode.AddWithZero
opcode (Instruction.AddTriple x b to) = Opcode.AddTriple
opcode (Instruction.Or a b to) = Opcode.Or
opcode (Instruction.And a b to) = Opcode.And
opcode (Instruction.Not from to) = Opcode.Not
opcode (Instruction.LoadUnsigned v to) = Opcode.LoadUnsigned
opcode (Instruction.LoadSigned v to) = Opcode.LoadSigned
opcode (Instruction.ShiftIn v to) = Opcode.ShiftIn
opcode (Instruction.Jump c d) = Opcode.Jump c
opcode (Instruction.JumpRegister target link) = Opcode.JumpRegister
opcode (Instruction.Halt a) = Opcode.Halt (source_of a)
opcode (Instruction.Trap x y z) = Opcode.Trap
opcode (Instruction.Get to) = Opcode.Get
opcode (Instruction.Put a) = Opcode.Put (source_of a)
opcode Instruction.Nothing = Opcode.Nothing

-- 16 bits as two fields, the high byte first
abbrev pub split : ℕ → ℕ → ℕ × ℕ × ℕ
split v z = (v / 256, v % 256, z)

-- X, Y and Z; a field without a meaning is 0
abbrev pub fields : Instruction → ℕ × ℕ × ℕ
fields (Instruction.Load k a to) = ((pair_of a).0, (pair_of a).1, to)
fields (Instruction.Store w from a) = (from, (pair_of a).0, (pair_of a).1)
fields (Instruction.Binary o a b to) = (field_of a, b, to)
fields (Instruction.AddWithZero a b to) = (a, b, to)
fields (Instruction.AddTriple x b to) = (x, b, to)
fields (Instruction.Or a b to) = (a, b, to)
fields (Instruction.And a b to) = (a, b, to)
fields (Instruction.Not from to) = (from, to, 0)
fields (Instruction.LoadUnsigned v to) = split v to
fields (Instruction.LoadSigned v to) = split (of_z w16 v) to
fields (Instruction.ShiftIn v to) = split v to
fields (Instruction.Jump c d) = (of_z w8 d.high, d.low / 256, d.low % 256)
fields (Instruction.JumpRegister target link) = (target, link, 0)
fields (Instruction.Halt a) = (field_of a, 0, 0)
fields (Instruction.Trap x y z) = (x, y, z)
fields (Instruction.Get to) = (to, 0, 0)
fields (Instruction.Put a) = (field_of a, 0, 0)
fields Instruction.Nothing = (0, 0, 0)

-- the word that stands for an instruction, highest byte first
abbrev pub encoded : Instruction → List ℕ
encoded i = code_of (opcode i) ∷ (fields i).0 ∷ (fields i).1 ∷ (fields i).2 ∷ []

-- the numbers of an instruction fit their types: registers and immediates 8 bits, a displacement 8 with sign, and so on
abbrev pub FitsAddress : Address → Type 0
FitsAddress (Address.Scaled base index s) = (base < 2 ^ 8) × (index < 2 ^ 8)
FitsAddress (Address.Displaced d base) = (mag d < 2 ^ 7) × (base < 2 ^ 8)

abbrev pub Formed : Instruction → Type 0
Formed (Instruction.Load k a to) = FitsAddress a × (to < 2 ^ 8)
Formed (Instruction.Store w from a) = FitsAddress a × (from < 2 ^ 8)
Formed (Instruction.Binary o a b to) = (field_of a < 2 ^ 8) × (b < 2 ^ 8) × (to < 2 ^ 8)
Formed (Instruction.AddWithZero a b to) = (a < 2 ^ 8) × (b < 2 ^ 8) × (to < 2 ^ 8)
Formed (Instruction.AddTriple x b to) = (x < 2 ^ 8) × (b < 2 ^ 8) × (to < 2 ^ 8)
Formed (Instruction.Or a b to) = (a < 2 ^ 8) × (b < 2 ^ 8) × (to < 2 ^ 8)
Formed (Instruction.And a b to) = (a < 2 ^ 8) × (b < 2 ^ 8) × (to < 2 ^ 8)
Formed (Instruction.Not from to) = (from < 2 ^ 8) × (to < 2 ^ 8)
Formed (Instruction.LoadUnsigned v to) = (v < 2 ^ 16) × (to < 2 ^ 8)
Formed (Instruction.LoadSigned v to) = (mag v < 2 ^ 15) × (to < 2 ^ 8)
Formed (Instruction.ShiftIn v to) = (v < 2 ^ 16) × (to < 2 ^ 8)
Formed (Instruction.Jump c d) = IsDistance d
Formed (Instruction.JumpRegister target link) = (target < 2 ^ 8) × (link < 2 ^ 8)
Formed (Instruction.Halt a) = field_of a < 2 ^ 8
Formed (Instruction.Trap x y z) = (x < 2 ^ 8) × (y < 2 ^ 8) × (z < 2 ^ 8)
Formed (Instruction.Get to) = to < 2 ^ 8
Formed (Instruction.Put a) = field_of a < 2 ^ 8
Formed Instruction.Nothing = Unit {0}
