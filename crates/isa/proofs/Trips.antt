-- A word that is decoded is encoded back, and the other way round.
use Rattle.std.proofs.Common.{◌≡◌, ℕ, ◌^◌, ◌<◌, Bool, true, eqb, List, [], ◌∷◌, length, get_or, IfSome, Some, None, Option, sym, refl, ap, ◌∙◌, subst, arith, rules}
use Rattle.std.specs.List.{range_with_len}
use Rattle.std.proofs.Math.Nat.{zero-add}
use Rattle.std.proofs.lemmas.List.FromFn.{get_or-range_with_len}
use Rattle.std.proofs.lemmas.List.Sums.{AllPass-from_list_all}
use Rattle.isa.specs.declared.opcode.Opcode.{Opcode}
use Rattle.isa.specs.declared.instruction.Instruction.{Instruction}
use Rattle.isa.specs.Opcodes.{opcode_of, code_of}
use Rattle.isa.specs.Instructions.{opcode, fields, encoded, Formed}
use Rattle.isa.specs.Words.{with_fields, with_opcode, decoded, Decodes}
use Rattle.isa.proofs.Codes.{opcode_of_code}

-- the fields of an instruction, under its opcode, give it back
pub from_fields : (i : Instruction) → Formed i → with_fields (opcode i) (fields i).0 (fields i).1 (fields i).2 ≡ Some i
from_fields i h = search rules

-- the fields are bytes
pub fields_fit : (i : Instruction) → Formed i → ((fields i).0 < 2 ^ 8) × ((fields i).1 < 2 ^ 8) × ((fields i).2 < 2 ^ 8)
fields_fit i h = search rules

pub decoded_encoded : (i : Instruction) → Formed i → decoded (encoded i) ≡ Some i
decoded_encoded i h =
    ap (λ (o : Option Opcode). with_opcode o (fields i).0 (fields i).1 (fields i).2) (opcode_of_code (opcode i)) ∙ from_fields i h

-- an opcode that a byte stands for has that byte: a test at each of the 256
abbrev right : Option Opcode → ℕ → Bool
right None byte = true
right (Some o) byte = eqb (code_of o) byte

code_of_opcode : (byte : ℕ) → byte < 256 → right (opcode_of byte) byte ≡ true
unfolding opcode_of
code_of_opcode byte h =
    subst (λ n. right (opcode_of n) n ≡ true) (get_or-range_with_len 0 256 byte 0 h ∙ zero-add byte)
    (AllPass-from_list_all (λ n. right (opcode_of n) n) (range_with_len 0 256) refl byte 0 h)

-- the word is the instruction's
abbrev HasWord : ℕ → ℕ → ℕ → ℕ → Instruction → Type 0
HasWord op x y z i = Formed i × (encoded i ≡ op ∷ x ∷ y ∷ z ∷ [])

has_word : (o : Option Opcode) (op x y z : ℕ) → right o op ≡ true → x < 256 → y < 256 → z < 256 → IfSome (with_opcode o x y z) (HasWord op x y z)
has_word o op x y z e hx hy hz = search rules

-- decoding as the inverse of encoding
inverse : (w : List ℕ) (o : Option Instruction) → decoded w ≡ o → IfSome o (λ i. Formed i × (encoded i ≡ w)) → Decodes w o
inverse w None e k = λ i h g. let z : ◌≡◌ {A = Option Instruction} None (Some i) = sym e ∙ ap decoded (sym g) ∙ decoded_encoded i h in search rules
inverse w (Some i) e k = k

decodes_bytes : (op x y z : ℕ) → op < 256 → x < 256 → y < 256 → z < 256 → Decodes (op ∷ x ∷ y ∷ z ∷ []) (decoded (op ∷ x ∷ y ∷ z ∷ []))
decodes_bytes op x y z ho hx hy hz =
    inverse (op ∷ x ∷ y ∷ z ∷ []) (decoded (op ∷ x ∷ y ∷ z ∷ [])) refl (has_word (opcode_of op) op x y z (code_of_opcode op ho) hx hy hz)

-- a list of four, by its elements
four : (w : List ℕ) → length w ≡ 4 → get_or w 0 0 ∷ get_or w 1 0 ∷ get_or w 2 0 ∷ get_or w 3 0 ∷ [] ≡ w
four [] e = absurd (let z : ⊥ = omega arith in z)
four (a ∷ []) e = absurd (let z : ⊥ = omega arith in z)
four (a ∷ b ∷ []) e = absurd (let z : ⊥ = omega arith in z)
four (a ∷ b ∷ c ∷ []) e = absurd (let z : ⊥ = omega arith in z)
four (a ∷ b ∷ c ∷ d ∷ []) e = refl
four (a ∷ b ∷ c ∷ d ∷ f ∷ r) e = absurd (let z : ⊥ = omega arith in z)

pub decodes : (w : List ℕ) → length w ≡ 4 → get_or w 0 0 < 256 → get_or w 1 0 < 256 → get_or w 2 0 < 256 → get_or w 3 0 < 256 → Decodes w (decoded w)
decodes w n ho hx hy hz =
    subst (λ (v : List ℕ). Decodes v (decoded v)) (four w n) (decodes_bytes (get_or w 0 0) (get_or w 1 0) (get_or w 2 0) (get_or w 3 0) ho hx hy hz)

-- the same of an answer that is known to be right
pub decodes_as : (w : List ℕ) (o : Option Instruction) → length w ≡ 4 → get_or w 0 0 < 256 → get_or w 1 0 < 256 → get_or w 2 0 < 256 → get_or w 3 0 < 256 → o ≡ decoded w → Decodes w o
decodes_as w o n ho hx hy hz e = rw e (decodes w n ho hx hy hz)
