-- The byte of an opcode stands for that opcode: each opcode is the first of the list that has its byte.
use Rattle.std.proofs.Common.{◌≡◌, Bool, true, List, [], ◌∷◌, Some, rules}
use Rattle.std.specs.List.{AllByRecursion as All, list_all}
use Rattle.std.proofs.lemmas.Bool.{and_parts}
use Rattle.isa.specs.declared.opcode.Opcode.{Opcode}
use Rattle.isa.specs.Opcodes.{code_of, opcodes, first_with, opcode_of}

-- what holds of every opcode of the list holds of every opcode
pub every_opcode : (P : Opcode → Type 0) → All P opcodes → (o : Opcode) → P o
unfolding opcodes
every_opcode P a o = search rules

all_pass : (f : Opcode → Bool) (os : List Opcode) → list_all f os ≡ true → All (λ o. f o ≡ true) os
all_pass f [] e = tt
all_pass f (o ∷ os) e = let b = and_parts (f o) (list_all f os) e in (b.0, all_pass f os b.1)

-- a test that every opcode of the list passes, every opcode passes
pub tested : (f : Opcode → Bool) → list_all f opcodes ≡ true → (o : Opcode) → f o ≡ true
tested f e = every_opcode (λ o. f o ≡ true) (all_pass f opcodes e)

found : All (λ p. first_with (code_of p) opcodes ≡ Some p) opcodes
unfolding opcodes
found = search rules

pub opcode_of_code : (o : Opcode) → opcode_of (code_of o) ≡ Some o
unfolding opcode_of
opcode_of_code o = every_opcode (λ p. first_with (code_of p) opcodes ≡ Some p) found o
