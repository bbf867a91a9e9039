-- The byte of each opcode, and the opcode of each byte.
use Rattle.std.specs.Prelude.{ℕ, ◌+◌, cond, List, [], ◌∷◌, ◌++◌, map, Some, None, Option, Result, ◌==◌}
use Rattle.std.specs.Option.{ok_or}
use Rattle.arith.specs.declared.width.Width.{Width}
use Rattle.isa.specs.declared.opcode.Opcode.{Opcode}
use Rattle.isa.specs.declared.opcode.NoOpcode.{NoOpcode}
use Rattle.isa.specs.declared.opcode.Kind.{Kind}
use Rattle.isa.specs.declared.opcode.Scale.{Scale}
use Rattle.isa.specs.declared.opcode.Reach.{Reach}
use Rattle.isa.specs.declared.opcode.Source.{Source}
use Rattle.isa.specs.declared.opcode.Operation.{Operation}
use Rattle.isa.specs.declared.opcode.Condition.{Condition}

-- loads: a base for how the address is made, plus the kind
abbrev pub kind_code : Kind → ℕ
kind_code Kind.Quad = 0
kind_code Kind.ZeroLong = 1
kind_code Kind.ZeroWord = 2
kind_code Kind.ZeroByte = 3
kind_code Kind.SignLong = 5
kind_code Kind.SignWord = 6
kind_code Kind.SignByte = 7

abbrev pub load_base : Reach → ℕ
load_base (Reach.Scaled Scale.One) = 0x10
load_base (Reach.Scaled Scale.Two) = 0x80
load_base (Reach.Scaled Scale.Four) = 0xA0
load_base (Reach.Scaled Scale.Eight) = 0xC0
load_base Reach.Displaced = 0x18

-- stores: likewise, with the width
abbrev pub width_code : Width → ℕ
width_code Width.Quad = 0
width_code Width.Long = 1
width_code Width.Word = 2
width_code Width.Byte = 3

-- a store's base is 16 above the load's
abbrev pub store_base : Reach → ℕ
store_base r = load_base r + 0x10

-- an immediate opcode is 8 above the one that takes a register
abbrev pub source_code : Source → ℕ
source_code Source.Register = 0
source_code Source.Immediate = 8

abbrev pub binary_code : Operation → ℕ
binary_code Operation.Add = 0x30
binary_code Operation.Subtract = 0x31
binary_code Operation.Divide = 0x33
binary_code Operation.Multiply = 0x34
binary_code Operation.DivideSigned = 0x35
binary_code Operation.ShiftLeft = 0x52
binary_code Operation.ShiftRight = 0x53
binary_code Operation.ShiftRightSigned = 0x54

abbrev pub condition_code : Condition → ℕ
condition_code Condition.Always = 0x41
condition_code Condition.Zero = 0x42
condition_code Condition.NotZero = 0x43
condition_code Condition.Less = 0x44
condition_code Condition.NotLess = 0x45
condition_code Condition.NotGreater = 0x46
condition_code Condition.Greater = 0x47
condition_code Condition.Carry = 0x48
condition_code Condition.NoCarry = 0x49
condition_code Condition.NotAbove = 0x4A
condition_code Condition.Above = 0x4B

-- the byte of an opcode
abbrev pub code_of : Opcode → ℕ
code_of (Opcode.Load k r) = load_base r + kind_code k
code_of (Opcode.Store w r) = store_base r + width_code w
code_of (Opcode.Binary o s) = binary_code o + source_code s
code_of Opcode.AddWithZero = 0x37
code_of Opcode.AddTriple = 0x06
code_of Opcode.Or = 0x50
code_of Opcode.And = 0x51
code_of Opcode.Not = 0x5E
code_of Opcode.LoadUnsigned = 0x56
code_of Opcode.LoadSigned = 0x57
code_of Opcode.ShiftIn = 0x5D
code_of (Opcode.Jump c) = condition_code c
code_of Opcode.JumpRegister = 0x40
code_of (Opcode.Halt s) = 0x01 + source_code s
code_of Opcode.Trap = 0x02
code_of Opcode.Get = 0x60
code_of (Opcode.Put s) = 0x61 + source_code s
code_of Opcode.Nothing = 0xFF

-- the cases of the parts
abbrev pub kinds : List Kind
kinds = Kind.Quad ∷ Kind.ZeroLong ∷ Kind.ZeroWord ∷ Kind.ZeroByte ∷ Kind.SignLong ∷ Kind.SignWord ∷ Kind.SignByte ∷ []

abbrev pub widths : List Width
widths = Width.Quad ∷ Width.Long ∷ Width.Word ∷ Width.Byte ∷ []

abbrev pub reaches : List Reach
reaches = Reach.Scaled Scale.One ∷ Reach.Scaled Scale.Two ∷ Reach.Scaled Scale.Four ∷ Reach.Scaled Scale.Eight ∷ Reach.Displaced ∷ []

abbrev pub sources : List Source
sources = Source.Register ∷ Source.Immediate ∷ []

abbrev pub operations : List Operation
operations = Operation.Add ∷ Operation.Subtract ∷ Operation.Multiply ∷ Operation.Divide ∷ Operation.DivideSigned ∷ Operation.ShiftLeft ∷ Operation.ShiftRight ∷ Operation.ShiftRightSigned ∷ []

abbrev pub conditions : List Condition
conditions = Condition.Always ∷ Condition.Zero ∷ Condition.NotZero ∷ Condition.Less ∷ Condition.NotLess ∷ Condition.NotGreater ∷ Condition.Greater ∷ Condition.Carry ∷ Condition.NoCarry ∷ Condition.NotAbove ∷ Condition.Above ∷ []

-- f of each x with each y
abbrev pub crossed : {X Y Z : Type 0} → (X → Y → Z) → List X → List Y → List Z
crossed f [] ys = []
crossed f (x ∷ xs) ys = map (f x) ys ++ crossed f xs ys

abbrev pub others : List Opcode
others =
    Opcode.AddWithZero ∷ Opcode.AddTriple ∷ Opcode.Or ∷ Opcode.And ∷ Opcode.Not ∷
    Opcode.LoadUnsigned ∷ Opcode.LoadSigned ∷ Opcode.ShiftIn ∷
    Opcode.JumpRegister ∷ Opcode.Trap ∷ Opcode.Get ∷ Opcode.Nothing ∷ []

abbrev pub controls : List Opcode
controls = map Opcode.Jump conditions ++ map Opcode.Halt sources ++ map Opcode.Put sources

-- every opcode: 98 of them
unfoldable pub opcodes : List Opcode
opcodes = crossed Opcode.Load kinds reaches ++ crossed Opcode.Store widths reaches ++ crossed Opcode.Binary operations sources ++ controls ++ others

abbrev pub first_with : ℕ → List Opcode → Option Opcode
first_with byte [] = None
first_with byte (o ∷ os) = cond (code_of o == byte) (Some o) (first_with byte os)

-- the opcode that a byte stands for, if any
unfoldable pub opcode_of : ℕ → Option Opcode
unfolding opcodes
opcode_of byte = first_with byte opcodes

-- the same, with the byte itself where it stands for none
abbrev pub opcode_or_error : ℕ → Result Opcode NoOpcode
opcode_or_error byte = ok_or (opcode_of byte) (record { 0 = byte })
