-- The name of each opcode.
use Rattle.std.specs.Prelude.{◌≡◌, ℕ, List, codes}
use Rattle.arith.specs.declared.width.Width.{Width}
use Rattle.isa.specs.declared.opcode.Opcode.{Opcode}
use Rattle.isa.specs.declared.opcode.Kind.{Kind}
use Rattle.isa.specs.declared.opcode.Operation.{Operation}
use Rattle.isa.specs.declared.opcode.Condition.{Condition}

abbrev pub kind_name : Kind → List ℕ
kind_name Kind.Quad = codes "movq"
kind_name Kind.ZeroLong = codes "movzlq"
kind_name Kind.ZeroWord = codes "movzwq"
kind_name Kind.ZeroByte = codes "movzbq"
kind_name Kind.SignLong = codes "movslq"
kind_name Kind.SignWord = codes "movswq"
kind_name Kind.SignByte = codes "movsbq"

abbrev pub width_name : Width → List ℕ
width_name Width.Quad = codes "movq"
width_name Width.Long = codes "movl"
width_name Width.Word = codes "movw"
width_name Width.Byte = codes "movb"

abbrev pub operation_name : Operation → List ℕ
operation_name Operation.Add = codes "addq"
operation_name Operation.Subtract = codes "subq"
operation_name Operation.Multiply = codes "imulq"
operation_name Operation.Divide = codes "divq"
operation_name Operation.DivideSigned = codes "idivq"
operation_name Operation.ShiftLeft = codes "salq"
operation_name Operation.ShiftRight = codes "shrq"
operation_name Operation.ShiftRightSigned = codes "sarq"

abbrev pub condition_name : Condition → List ℕ
condition_name Condition.Always = codes "jmp"
condition_name Condition.Zero = codes "jz"
condition_name Condition.NotZero = codes "jne"
condition_name Condition.Less = codes "jnge"
condition_name Condition.NotLess = codes "jge"
condition_name Condition.NotGreater = codes "jng"
condition_name Condition.Greater = codes "jg"
condition_name Condition.Carry = codes "jb"
condition_name Condition.NoCarry = codes "jae"
condition_name Condition.NotAbove = codes "jna"
condition_name Condition.Above = codes "ja"

abbrev pub name_of : Opcode → List ℕ
name_of (Opcode.Load k r) = kind_name k
name_of (Opcode.Store w r) = width_name w
name_of (Opcode.Binary o s) = operation_name o
name_of Opcode.AddWithZero = codes "adcq"
name_of Opcode.AddTriple = codes "hm3Add"
name_of Opcode.Or = codes "orq"
name_of Opcode.And = codes "andq"
name_of Opcode.Not = codes "notq"
name_of Opcode.LoadUnsigned = codes "ldzwq"
name_of Opcode.LoadSigned = codes "ldswq"
name_of Opcode.ShiftIn = codes "shldwq"
name_of (Opcode.Jump c) = condition_name c
name_of Opcode.JumpRegister = codes "jmp"
name_of (Opcode.Halt s) = codes "halt"
name_of Opcode.Trap = codes "trap"
name_of Opcode.Get = codes "getc"
name_of (Opcode.Put s) = codes "putc"
name_of Opcode.Nothing = codes "nop"

-- the name of an instruction
abbrev pub IsName : List ℕ → Type 0
IsName text = (o : Opcode) × (name_of o ≡ text)
