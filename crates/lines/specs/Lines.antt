-- The one line of each instruction.
use Rattle.std.specs.Prelude.{◌≡◌, ℕ, ◌+◌, ◌*◌, ◌<◌, List, [], ◌++◌, length, drop, ℤ, pos, ◌*ℤ◌, Some, None, codes, decimal, Option, Result, MatchOption, MatchResult, ◌≢◌, slice_index}
use Rattle.std.specs.Int.{w8, w16}
use Rattle.std.proofs.Common.{to_z}
use Rattle.std.specs.Fmt.{signed_decimal}
use Rattle.isa.specs.declared.opcode.Opcode.{Opcode}
use Rattle.isa.specs.declared.opcode.Reach.{Reach}
use Rattle.isa.specs.declared.opcode.Source.{Source}
use Rattle.isa.specs.declared.opcode.Operation.{Operation}
use Rattle.isa.specs.declared.instruction.Instruction.{Instruction}
use Rattle.isa.specs.Distances.{words_of}
use Rattle.isa.specs.Instructions.{opcode, fields, Formed}
use Rattle.isa.specs.Scales.{factor}
use Rattle.isa.specs.Words.{distance_of, decoded}
use Rattle.lines.specs.declared.argument.Argument.{Argument}
use Rattle.lines.specs.declared.argument.Argument.TheVariants.{Register, Number, Scaled, Displaced}
use Rattle.lines.specs.declared.argument.Arguments.{Arguments}
use Rattle.lines.specs.declared.argument.Arguments.TheVariants.{Zero, One, Two, Three}
use Rattle.lines.specs.declared.writing.LineRefusal.{LineRefusal}
use Rattle.lines.specs.Names.{name_of}

-- an immediate field as a number: with its sign for imulq, else without
abbrev pub immediate : Operation → ℕ → ℤ
immediate Operation.Add x = pos x
immediate Operation.Subtract x = pos x
immediate Operation.Multiply x = to_z w8 x
immediate Operation.Divide x = pos x
immediate Operation.DivideSigned x = pos x
immediate Operation.ShiftLeft x = pos x
immediate Operation.ShiftRight x = pos x
immediate Operation.ShiftRightSigned x = pos x

-- a register or the field without a sign
abbrev pub plain : Source → ℕ → Argument
plain Source.Register x = Register x
plain Source.Immediate x = Number (pos x)

-- an address: a register plus a scaled one, or a displacement with its sign plus a register
abbrev pub address : Reach → ℕ → ℕ → Argument
address (Reach.Scaled s) first second = Scaled first second s
address Reach.Displaced first second = Displaced (to_z w8 first) second

-- the operands of an opcode in their order, from the fields X, Y and Z; a jump's is its distance in bytes
abbrev pub arguments : Opcode → ℕ → ℕ → ℕ → Arguments
arguments (Opcode.Load k r) x y z = Two (address r x y) (Register z)
arguments (Opcode.Store w r) x y z = Two (Register x) (address r y z)
arguments (Opcode.Binary o Source.Register) x y z = Three (Register x) (Register y) (Register z)
arguments (Opcode.Binary o Source.Immediate) x y z = Three (Number (immediate o x)) (Register y) (Register z)
arguments Opcode.AddWithZero x y z = Three (Register x) (Register y) (Register z)
arguments Opcode.AddTriple x y z = Three (Number (pos x)) (Register y) (Register z)
arguments Opcode.Or x y z = Three (Register x) (Register y) (Register z)
arguments Opcode.And x y z = Three (Register x) (Register y) (Register z)
arguments Opcode.Not x y z = Two (Register x) (Register y)
arguments Opcode.LoadUnsigned x y z = Two (Number (pos (x * 256 + y))) (Register z)
arguments Opcode.LoadSigned x y z = Two (Number (to_z w16 (x * 256 + y))) (Register z)
arguments Opcode.ShiftIn x y z = Two (Number (pos (x * 256 + y))) (Register z)
arguments (Opcode.Jump c) x y z = One (Number (words_of (distance_of x y z) *ℤ pos 4))
arguments Opcode.JumpRegister x y z = Two (Register x) (Register y)
arguments (Opcode.Halt s) x y z = One (plain s x)
arguments Opcode.Trap x y z = Three (Register x) (Register y) (Register z)
arguments Opcode.Get x y z = One (Register x)
arguments (Opcode.Put s) x y z = One (plain s x)
arguments Opcode.Nothing x y z = Zero

-- how an operand is written
abbrev pub register : ℕ → List ℕ
register n = codes "%" ++ decimal n

abbrev pub written : Argument → List ℕ
written (Register n) = register n
written (Number z) = signed_decimal z
written (Scaled base index s) = codes "(" ++ register base ++ codes " " ++ register index ++ codes " " ++ decimal (factor s) ++ codes ")"
written (Displaced d base) = codes "(" ++ signed_decimal d ++ codes " " ++ register base ++ codes ")"

-- the operands, each after a space
abbrev pub spaced : Argument → List ℕ
spaced a = codes " " ++ written a

abbrev pub trailing : Arguments → List ℕ
trailing Zero = []
trailing (One a) = spaced a
trailing (Two a b) = spaced a ++ spaced b
trailing (Three a b c) = spaced a ++ spaced b ++ spaced c

-- the line of an opcode with the fields X, Y and Z
abbrev pub line_with : Opcode → ℕ → ℕ → ℕ → List ℕ
line_with o x y z = codes "(" ++ name_of o ++ trailing (arguments o x y z) ++ codes ")"

-- the line of an instruction
unfoldable pub line_of : Instruction → List ℕ
line_of i = line_with (opcode i) (fields i).0 (fields i).1 (fields i).2

-- the number of each refusal
abbrev pub number : LineRefusal → ℕ
number LineRefusal.NotLegal = 12
number LineRefusal.TooShort = 11

-- what writing a line into a buffer answers, and what the buffer then holds: its rest is left
abbrev pub Writes : Instruction → List ℕ → Result ℕ LineRefusal → List ℕ → Type 0
Writes i before r after =
    MatchResult r
    (λ n. (n ≡ length (line_of i)) × (after ≡ line_of i ++ drop n before))
    (λ e. (number e ≡ 11) × (length before < length (line_of i)) × (after ≡ before))

-- a text is read as the one instruction that has it as its line; no other has, and where none is read, none has
abbrev pub Reads : List ℕ → Option Instruction → Type 0
Reads text r =
    MatchOption r
    ((i : Instruction) → Formed i → line_of i ≢ text)
    (λ i. Formed i × (line_of i ≡ text) × ((j : Instruction) → Formed j → line_of j ≡ text → j ≡ i))

-- the same for the instruction of a word: there is none where the word is not legal
abbrev pub WritesWord : Option Instruction → List ℕ → Result ℕ LineRefusal → List ℕ → Type 0
WritesWord None before r after = MatchResult r (λ n. ⊥) (λ e. (number e ≡ 12) × (after ≡ before))
WritesWord (Some i) before r after = Writes i before r after

-- a legal word and its line
abbrev pub HasLine : List ℕ → List ℕ → Type 0
HasLine w text = (i : Instruction) × (decoded w ≡ Some i) × (line_of i ≡ text)

-- four bytes
abbrev pub IsWord : List ℕ → Type 0
IsWord w = (length w ≡ 4) × (slice_index w 0 < 256) × (slice_index w 1 < 256) × (slice_index w 2 < 256) × (slice_index w 3 < 256)

-- a text is read as the one legal word that has it as its line; where none is read, none has, and no two share a line
abbrev pub ReadsWord : List ℕ → Option (List ℕ) → Type 0
ReadsWord text r =
    MatchOption r
    ((v : List ℕ) → IsWord v → HasLine v text → ⊥)
    (λ w. HasLine w text × ((v : List ℕ) → IsWord v → HasLine v text → v ≡ w))

abbrev pub LinesDiffer : Type 0
LinesDiffer = (v w text : List ℕ) → IsWord v → IsWord w → HasLine v text → HasLine w text → v ≡ w
