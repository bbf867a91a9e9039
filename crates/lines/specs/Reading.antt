-- How the code reads a line, from its pieces. No public promise rests on it.
use Rattle.std.specs.Prelude.{ℕ, ◌+◌, ◌/◌, ◌%◌, Bool, true, false, cond, List, [], ◌∷◌, ◌++◌, map, Some, None, Option}
use Rattle.std.specs.List.{find}
use Rattle.std.specs.Str.{bytes_eq}
use Rattle.arith.specs.declared.width.Width.{Width}
use Rattle.isa.specs.declared.opcode.Opcode.{Opcode}
use Rattle.isa.specs.declared.opcode.Reach.{Reach}
use Rattle.isa.specs.declared.opcode.Scale.{Scale}
use Rattle.isa.specs.declared.opcode.Source.{Source}
use Rattle.isa.specs.Opcodes.{code_of, kinds, operations, conditions}
use Rattle.lines.specs.Names.{name_of}
use Rattle.lines.specs.Pieces.{pieces, piece, starts, register_value, number_value}

-- one opcode for each name
unfoldable pub bases : List Opcode
bases =
    map (λ k. Opcode.Load k Reach.Displaced) kinds ++
    map (λ w. Opcode.Store w Reach.Displaced) (Width.Long ∷ Width.Word ∷ Width.Byte ∷ []) ++
    map (λ o. Opcode.Binary o Source.Register) operations ++
    map Opcode.Jump conditions ++
    (Opcode.AddWithZero ∷ Opcode.AddTriple ∷ Opcode.Or ∷ Opcode.And ∷ Opcode.Not ∷ Opcode.LoadUnsigned ∷ Opcode.LoadSigned ∷ Opcode.ShiftIn ∷
    Opcode.Halt Source.Register ∷ Opcode.Trap ∷ Opcode.Get ∷ Opcode.Put Source.Register ∷ Opcode.Nothing ∷ [])

-- the opcode of a list that has a name
abbrev pub named_in : List ℕ → List Opcode → Option Opcode
named_in name = find (λ o. bytes_eq (name_of o) name)

-- how an address is reached, from the piece that begins it and the second after that
abbrev pub scale_read : List ℕ → Scale
scale_read s = cond (starts s 49) Scale.One (cond (starts s 50) Scale.Two (cond (starts s 52) Scale.Four Scale.Eight))

abbrev pub reach_read : List (List ℕ) → ℕ → Reach
reach_read ps k = cond (starts (piece ps k) 37) (Reach.Scaled (scale_read (piece ps (k + 2)))) Reach.Displaced

abbrev pub source_read : List (List ℕ) → Source
source_read ps = cond (starts (piece ps 2) 37) Source.Register Source.Immediate

abbrev pub blank : List ℕ → Bool
blank [] = true
blank (c ∷ cs) = false

-- the opcode of a line, from the one that stands for its name: a load and a store of a quad share a name, and so do a
-- jump by a distance and one to a register
abbrev pub chosen : Opcode → List (List ℕ) → Opcode
chosen (Opcode.Load k r) ps = cond (blank (piece ps 2)) (Opcode.Load k (reach_read ps 3)) (Opcode.Store Width.Quad (reach_read ps 4))
chosen (Opcode.Store w r) ps = Opcode.Store w (reach_read ps 4)
chosen (Opcode.Binary o s) ps = Opcode.Binary o (source_read ps)
chosen (Opcode.Jump c) ps = cond (starts (piece ps 2) 37) Opcode.JumpRegister (Opcode.Jump c)
chosen (Opcode.Halt s) ps = Opcode.Halt (source_read ps)
chosen (Opcode.Put s) ps = Opcode.Put (source_read ps)
chosen o ps = o

-- the fields X, Y and Z of a line with an opcode
abbrev pub reg : List (List ℕ) → ℕ → ℕ
reg ps k = register_value (piece ps k)

abbrev pub num : List (List ℕ) → ℕ → ℕ
num ps k = number_value (piece ps k)

abbrev pub three_registers : List (List ℕ) → ℕ × ℕ × ℕ
three_registers ps = (reg ps 2, reg ps 3, reg ps 4)

abbrev pub immediate_fields : List (List ℕ) → ℕ × ℕ × ℕ
immediate_fields ps = (num ps 2 % 256, reg ps 3, reg ps 4)

abbrev pub wide_fields : List (List ℕ) → ℕ × ℕ × ℕ
wide_fields ps = (num ps 2 / 256 % 256, num ps 2 % 256, reg ps 3)

abbrev pub one_field : Source → List (List ℕ) → ℕ × ℕ × ℕ
one_field Source.Register ps = (reg ps 2, 0, 0)
one_field Source.Immediate ps = (num ps 2 % 256, 0, 0)

abbrev pub load_fields : Reach → List (List ℕ) → ℕ × ℕ × ℕ
load_fields (Reach.Scaled s) ps = (reg ps 3, reg ps 4, reg ps 7)
load_fields Reach.Displaced ps = (num ps 3 % 256, reg ps 4, reg ps 6)

abbrev pub store_fields : Reach → List (List ℕ) → ℕ × ℕ × ℕ
store_fields (Reach.Scaled s) ps = (reg ps 2, reg ps 4, reg ps 5)
store_fields Reach.Displaced ps = (reg ps 2, num ps 4 % 256, reg ps 5)

abbrev pub jump_fields : List (List ℕ) → ℕ × ℕ × ℕ
jump_fields ps = (num ps 2 / 4 / 65536 % 256, num ps 2 / 4 / 256 % 256, num ps 2 / 4 % 256)

abbrev pub fields_read : Opcode → List (List ℕ) → ℕ × ℕ × ℕ
fields_read (Opcode.Load k r) ps = load_fields r ps
fields_read (Opcode.Store w r) ps = store_fields r ps
fields_read (Opcode.Binary o Source.Register) ps = three_registers ps
fields_read (Opcode.Binary o Source.Immediate) ps = immediate_fields ps
fields_read Opcode.AddWithZero ps = three_registers ps
fields_read Opcode.AddTriple ps = immediate_fields ps
fields_read Opcode.Or ps = three_registers ps
fields_read Opcode.And ps = three_registers ps
fields_read Opcode.Not ps = (reg ps 2, reg ps 3, 0)
fields_read Opcode.LoadUnsigned ps = wide_fields ps
fields_read Opcode.LoadSigned ps = wide_fields ps
fields_read Opcode.ShiftIn ps = wide_fields ps
fields_read (Opcode.Jump c) ps = jump_fields ps
fields_read Opcode.JumpRegister ps = (reg ps 2, reg ps 3, 0)
fields_read (Opcode.Halt s) ps = one_field s ps
fields_read Opcode.Trap ps = three_registers ps
fields_read Opcode.Get ps = one_field Source.Register ps
fields_read (Opcode.Put s) ps = one_field s ps
fields_read Opcode.Nothing ps = (0, 0, 0)

-- the word that a line is taken for
abbrev pub word_read : Option Opcode → List (List ℕ) → Option (List ℕ)
word_read None ps = None
word_read (Some b) ps =
    Some (code_of (chosen b ps) ∷ (fields_read (chosen b ps) ps).0 ∷ (fields_read (chosen b ps) ps).1 ∷ (fields_read (chosen b ps) ps).2 ∷ [])

abbrev pub taken_for : List ℕ → Option (List ℕ)
taken_for text = word_read (named_in (piece (pieces text) 1) bases) (pieces text)
