-- The line of an instruction is taken for its word.
use Rattle.std.proofs.Common.{◌≡◌, ℕ, ◌+◌, ◌*◌, ◌/◌, ◌%◌, ◌^◌, ◌<◌, false, cond, eqb, List, [], ◌∷◌, get_or, ℤ, pos, negsuc, ◌*ℤ◌, Some, None, Bool, true, Decides, decimal, Option, sym, refl, ap, ◌∙◌, subst, ⊎_elim, arith, w8, w16, w32, to_z, of_z}
use Rattle.std.specs.Bool.{then_some}
use Rattle.std.specs.Int.Signed.{mag}
use Rattle.std.specs.Fmt.{signed_decimal}
use Rattle.std.proofs.lemmas.Fmt.{decimal_digit}
use Rattle.std.proofs.lemmas.Option.{none-some, cond_some}
use Rattle.std.proofs.lemmas.Bool.{both_ways, cases_lt, eqb-true}
use Rattle.std.proofs.lemmas.Bool.Decides.{nat_tests}
use Rattle.arith.specs.declared.width.Width.{Width}
use Rattle.isa.specs.declared.opcode.Opcode.{Opcode}
use Rattle.isa.specs.declared.opcode.Kind.{Kind}
use Rattle.isa.specs.declared.opcode.Reach.{Reach}
use Rattle.isa.specs.declared.opcode.Scale.{Scale}
use Rattle.isa.specs.declared.opcode.Source.{Source}
use Rattle.isa.specs.declared.opcode.Operation.{Operation}
use Rattle.isa.specs.declared.instruction.Instruction.{Instruction}
use Rattle.isa.specs.Distances.{words_of}
use Rattle.isa.specs.Opcodes.{code_of}
use Rattle.isa.specs.Instructions.{opcode, fields, encoded, Formed}
use Rattle.isa.specs.Words.{distance_of, if_zero, with_fields, decoded, Decodes}
use Rattle.isa.proofs.Trips.{from_fields, fields_fit, decoded_encoded, decodes}
use Rattle.lines.specs.declared.argument.Arguments.TheVariants.{One}
use Rattle.isa.specs.Scales.{factor}
use Rattle.lines.specs.Names.{name_of}
use Rattle.lines.specs.Lines.{immediate, plain, arguments, register, line_with, line_of, Reads, IsWord, HasLine, LinesDiffer}
use Rattle.lines.specs.Pieces.{starts, register_value, number_value}
use Rattle.lines.specs.Reading.{bases, named_in, scale_read, reach_read, chosen, load_fields, store_fields, one_field, fields_read, word_read, taken_for}
use Rattle.lines.proofs.Lengths.{jump_ahead, jump_back, small}
use Rattle.lines.proofs.Numbers.{no_sign, read_register, read_number}
use Rattle.lines.proofs.Parts.{all_parts, pieces_of_line}
use Rattle.lines.proofs.Searches.{base_of, finds}

-- all the pieces of a line
abbrev line_pieces : Opcode → ℕ → ℕ → ℕ → List (List ℕ)
line_pieces o x y z = [] ∷ name_of o ∷ all_parts (arguments o x y z)

-- the scale, the reach and the source are told from the pieces
scale_same : (s : Scale) → scale_read (decimal (factor s)) ≡ s
scale_same Scale.One = ap scale_read (decimal_digit 1 (omega arith))
scale_same s = ap scale_read (decimal_digit (factor s) (omega arith))

no_register : (z : ℤ) → mag z < 2 ^ 31 → starts (signed_decimal z) 37 ≡ false
no_register (pos n) h = no_sign n 37 (omega arith) (omega arith)
no_register (negsuc n) h = refl

small_byte : (x : ℕ) → x < 2 ^ 8 → mag (to_z w8 x) < 2 ^ 31
small_byte x h = grind (arith, nat_tests)

load_reach : (k : Kind) (r : Reach) (x y z : ℕ) → x < 2 ^ 8 → reach_read (line_pieces (Opcode.Load k r) x y z) 3 ≡ r
load_reach k (Reach.Scaled s) x y z h = ap Reach.Scaled (scale_same s)
load_reach k Reach.Displaced x y z h = ap (λ b. cond b (Reach.Scaled (scale_read [])) Reach.Displaced) (no_register (to_z w8 x) (small_byte x h))

store_reach : (w : Width) (r : Reach) (x y z : ℕ) → y < 2 ^ 8 → reach_read (line_pieces (Opcode.Store w r) x y z) 4 ≡ r
store_reach w (Reach.Scaled s) x y z h = ap Reach.Scaled (scale_same s)
store_reach w Reach.Displaced x y z h = ap (λ b. cond b (Reach.Scaled (scale_read [])) Reach.Displaced) (no_register (to_z w8 y) (small_byte y h))

-- the opcode of a line
right_opcode : (o : Opcode) (x y z : ℕ) → x < 2 ^ 8 → y < 2 ^ 8 → z < 2 ^ 8 → chosen (base_of o) (line_pieces o x y z) ≡ o
right_opcode (Opcode.Load k (Reach.Scaled s)) x y z hx hy hz = ap (Opcode.Load k) (load_reach k (Reach.Scaled s) x y z hx)
right_opcode (Opcode.Load k Reach.Displaced) x y z hx hy hz = ap (Opcode.Load k) (load_reach k Reach.Displaced x y z hx)
right_opcode (Opcode.Store Width.Quad r) x y z hx hy hz = ap (Opcode.Store Width.Quad) (store_reach Width.Quad r x y z hy)
right_opcode (Opcode.Store w r) x y z hx hy hz = ap (Opcode.Store w) (store_reach w r x y z hy)
right_opcode (Opcode.Binary o Source.Immediate) x y z hx hy hz = ap (λ b. Opcode.Binary o (cond b Source.Register Source.Immediate)) (no_register (immediate o x) (omega (arith, (small (Opcode.Binary o Source.Immediate) x y z hx hy hz).0)))
right_opcode (Opcode.Jump c) x y z hx hy hz = ap (λ b. cond b Opcode.JumpRegister (Opcode.Jump c)) (no_register (words_of (distance_of x y z) *ℤ pos 4) (omega (arith, small (Opcode.Jump c) x y z hx hy hz)))
right_opcode (Opcode.Halt Source.Immediate) x y z hx hy hz = ap (λ b. Opcode.Halt (cond b Source.Register Source.Immediate)) (no_register (pos x) (omega arith))
right_opcode (Opcode.Put Source.Immediate) x y z hx hy hz = ap (λ b. Opcode.Put (cond b Source.Register Source.Immediate)) (no_register (pos x) (omega arith))
right_opcode o x y z hx hy hz = refl

-- a field from the number that it was written as
low_byte : (x : ℕ) → x < 2 ^ 8 → number_value (signed_decimal (to_z w8 x)) % 256 ≡ x
low_byte x h = ap (λ n. n % 256) (read_number (to_z w8 x) (small_byte x h)) ∙ grind (arith, nat_tests)

low_positive : (x : ℕ) → x < 2 ^ 8 → number_value (decimal x) % 256 ≡ x
low_positive x h = ap (λ n. n % 256) (read_number (pos x) (omega arith)) ∙ omega arith

low_immediate : (o : Operation) (x : ℕ) → x < 2 ^ 8 → number_value (signed_decimal (immediate o x)) % 256 ≡ x
low_immediate Operation.Multiply x h = low_byte x h
low_immediate o x h = low_positive x h

-- the bits of a wide number, and of four times a distance
wide_bits : (x y : ℕ) → x < 2 ^ 8 → y < 2 ^ 8 → of_z w32 (to_z w16 (x * 256 + y)) % 2 ^ 16 ≡ x * 256 + y
wide_bits x y hx hy = grind (arith, nat_tests)

two_bytes : (n x y : ℕ) → x < 2 ^ 8 → y < 2 ^ 8 → n % 2 ^ 16 ≡ x * 256 + y → (n / 256 % 256 ≡ x) × (n % 256 ≡ y)
two_bytes n x y hx hy e = (omega arith, omega arith)

jump_bits : (x y z : ℕ) → x < 2 ^ 8 → y < 2 ^ 8 → z < 2 ^ 8 → of_z w32 (words_of (distance_of x y z) *ℤ pos 4) / 4 % 2 ^ 24 ≡ x * 65536 + y * 256 + z
jump_bits x y z hx hy hz =
    ⊎_elim (λ h. ap (λ n. of_z w32 n / 4 % 2 ^ 24) (jump_ahead x (y * 256 + z) h) ∙ omega arith)
    (λ h. ap (λ n. of_z w32 n / 4 % 2 ^ 24) (jump_back x (y * 256 + z) h hx (omega arith)) ∙ omega arith) (cases_lt x 128)

three_bytes : (n x y z : ℕ) → x < 2 ^ 8 → y < 2 ^ 8 → z < 2 ^ 8 → n % 2 ^ 24 ≡ x * 65536 + y * 256 + z → (n / 65536 % 256 ≡ x) × (n / 256 % 256 ≡ y) × (n % 256 ≡ z)
three_bytes n x y z hx hy hz e = (omega arith, omega arith, omega arith)

triple : {a b c x y z : ℕ} → a ≡ x → b ≡ y → c ≡ z → ◌≡◌ {A = ℕ × ℕ × ℕ} (a, b, c) (x, y, z)
triple p q r = cc

load_right : (k : Kind) (r : Reach) (x y z : ℕ) → x < 2 ^ 8 → y < 2 ^ 8 → z < 2 ^ 8 → load_fields r (line_pieces (Opcode.Load k r) x y z) ≡ (x, y, z)
load_right k (Reach.Scaled s) x y z hx hy hz = triple (read_register x hx) (read_register y hy) (read_register z hz)
load_right k Reach.Displaced x y z hx hy hz = triple (low_byte x hx) (read_register y hy) (read_register z hz)

store_right : (w : Width) (r : Reach) (x y z : ℕ) → x < 2 ^ 8 → y < 2 ^ 8 → z < 2 ^ 8 → store_fields r (line_pieces (Opcode.Store w r) x y z) ≡ (x, y, z)
store_right w (Reach.Scaled s) x y z hx hy hz = triple (read_register x hx) (read_register y hy) (read_register z hz)
store_right w Reach.Displaced x y z hx hy hz = triple (read_register x hx) (low_byte y hy) (read_register z hz)

wide_right : (v : ℤ) (x y z : ℕ) → x < 2 ^ 8 → y < 2 ^ 8 → z < 2 ^ 8 → mag v < 2 ^ 25 → of_z w32 v % 2 ^ 16 ≡ x * 256 + y → ◌≡◌ {A = ℕ × ℕ × ℕ} (number_value (signed_decimal v) / 256 % 256, number_value (signed_decimal v) % 256, register_value (register z)) (x, y, z)
wide_right v x y z hx hy hz h e =
    let n = read_number v (omega arith) in
    let b = two_bytes (of_z w32 v) x y hx hy e in
    triple (ap (λ k. k / 256 % 256) n ∙ b.0) (ap (λ k. k % 256) n ∙ b.1) (read_register z hz)

-- a field without a meaning is 0 where an instruction is made
zero_from : (n : ℕ) (i j : Instruction) → if_zero n i ≡ Some j → n ≡ 0
zero_from n i j e = eqb-true n 0 (cond_some (eqb n 0) i j e).0

three_right : (x y z : ℕ) → x < 2 ^ 8 → y < 2 ^ 8 → z < 2 ^ 8 → ◌≡◌ {A = ℕ × ℕ × ℕ} (register_value (register x), register_value (register y), register_value (register z)) (x, y, z)
three_right x y z hx hy hz = triple (read_register x hx) (read_register y hy) (read_register z hz)

two_right : (x y z : ℕ) → x < 2 ^ 8 → y < 2 ^ 8 → z ≡ 0 → ◌≡◌ {A = ℕ × ℕ × ℕ} (register_value (register x), register_value (register y), 0) (x, y, z)
two_right x y z hx hy e = triple (read_register x hx) (read_register y hy) (sym e)

one_right : (o : Opcode) (s : Source) (x y z : ℕ) → x < 2 ^ 8 → y + z ≡ 0 → one_field s ([] ∷ name_of o ∷ all_parts (One (plain s x))) ≡ (x, y, z)
one_right o Source.Register x y z hx e = triple (read_register x hx) (omega arith) (omega arith)
one_right o Source.Immediate x y z hx e = triple (low_positive x hx) (omega arith) (omega arith)

-- the fields of a line
right_fields : (o : Opcode) (x y z : ℕ) (i : Instruction) → x < 2 ^ 8 → y < 2 ^ 8 → z < 2 ^ 8 → with_fields o x y z ≡ Some i → fields_read o (line_pieces o x y z) ≡ (x, y, z)
right_fields (Opcode.Load k r) x y z i hx hy hz e = load_right k r x y z hx hy hz
right_fields (Opcode.Store w r) x y z i hx hy hz e = store_right w r x y z hx hy hz
right_fields (Opcode.Binary o Source.Immediate) x y z i hx hy hz e = triple (low_immediate o x hx) (read_register y hy) (read_register z hz)
right_fields Opcode.AddTriple x y z i hx hy hz e = triple (low_positive x hx) (read_register y hy) (read_register z hz)
right_fields Opcode.Not x y z i hx hy hz e = two_right x y z hx hy (zero_from z _ i e)
right_fields Opcode.LoadUnsigned x y z i hx hy hz e = wide_right (pos (x * 256 + y)) x y z hx hy hz (omega arith) (omega arith)
right_fields Opcode.LoadSigned x y z i hx hy hz e = wide_right (to_z w16 (x * 256 + y)) x y z hx hy hz (small Opcode.LoadSigned x y z hx hy hz).0 (wide_bits x y hx hy)
right_fields Opcode.ShiftIn x y z i hx hy hz e = wide_right (pos (x * 256 + y)) x y z hx hy hz (omega arith) (omega arith)
right_fields (Opcode.Jump c) x y z i hx hy hz e =
    let d = words_of (distance_of x y z) *ℤ pos 4 in
    let n = read_number d (omega (arith, small (Opcode.Jump c) x y z hx hy hz)) in
    let b = three_bytes (of_z w32 d / 4) x y z hx hy hz (jump_bits x y z hx hy hz) in
    triple (ap (λ k. k / 4 / 65536 % 256) n ∙ b.0) (ap (λ k. k / 4 / 256 % 256) n ∙ b.1) (ap (λ k. k / 4 % 256) n ∙ b.2)
right_fields Opcode.JumpRegister x y z i hx hy hz e = two_right x y z hx hy (zero_from z _ i e)
right_fields (Opcode.Halt s) x y z i hx hy hz e = one_right (Opcode.Halt s) s x y z hx (zero_from (y + z) _ i e)
right_fields Opcode.Get x y z i hx hy hz e = one_right Opcode.Get Source.Register x y z hx (zero_from (y + z) _ i e)
right_fields (Opcode.Put s) x y z i hx hy hz e = one_right (Opcode.Put s) s x y z hx (zero_from (y + z) _ i e)
right_fields Opcode.Nothing x y z i hx hy hz e = let f = zero_from (x + y + z) _ i e in triple (omega arith) (omega arith) (omega arith)
right_fields o x y z i hx hy hz e = three_right x y z hx hy hz

-- the word of a line
right_word : (o : Opcode) (x y z : ℕ) (i : Instruction) → x < 2 ^ 8 → y < 2 ^ 8 → z < 2 ^ 8 → with_fields o x y z ≡ Some i → taken_for (line_with o x y z) ≡ Some (code_of o ∷ x ∷ y ∷ z ∷ [])
right_word o x y z i hx hy hz e =
    let ps = line_pieces o x y z in
    ap (λ l. word_read (named_in (get_or l 1 []) bases) l) (pieces_of_line o x y z hx hy hz)
    ∙ ap (λ b. word_read b ps) (finds o)
    ∙ ap (λ p. Some (code_of p ∷ (fields_read p ps).0 ∷ (fields_read p ps).1 ∷ (fields_read p ps).2 ∷ [])) (right_opcode o x y z hx hy hz)
    ∙ ap (λ (t : ℕ × ℕ × ℕ). Some (code_of o ∷ t.0 ∷ t.1 ∷ t.2 ∷ [])) (right_fields o x y z i hx hy hz e)

-- the line of an instruction is taken for its word
pub taken : (i : Instruction) → Formed i → taken_for (line_of i) ≡ Some (encoded i)
unfolding line_of
taken i h =
    let b = fields_fit i h in
    right_word (opcode i) (fields i).0 (fields i).1 (fields i).2 i b.0 b.1 b.2 (from_fields i h)

-- what a text is read as, once its word is decoded and the line compared
same_some : {X : Type 0} {x y : X} → Some x ≡ Some y → x ≡ y
same_some e = cc

pub none_guessed : (text : List ℕ) → taken_for text ≡ None → (i : Instruction) → Formed i → line_of i ≡ text → ⊥
none_guessed text e i h l = none-some _ (sym e ∙ ap taken_for (sym l) ∙ taken i h)

-- the instruction whose word was taken is the only one
pub only : (text w : List ℕ) (r : Option Instruction) → taken_for text ≡ Some w → decoded w ≡ r → (j : Instruction) → Formed j → line_of j ≡ text → r ≡ Some j
only text w r e d j h l =
    let v : w ≡ encoded j = same_some (sym e ∙ ap taken_for (sym l) ∙ taken j h) in
    sym d ∙ ap decoded v ∙ decoded_encoded j h

pub none_decoded : (text w : List ℕ) → taken_for text ≡ Some w → decoded w ≡ None → (j : Instruction) → Formed j → line_of j ≡ text → ⊥
none_decoded text w e d j h l = none-some _ (only text w None e d j h l)

pub one_decoded : (text w : List ℕ) (i : Instruction) → taken_for text ≡ Some w → decoded w ≡ Some i → (j : Instruction) → Formed j → line_of j ≡ text → j ≡ i
one_decoded text w i e d j h l = sym (same_some (only text w (Some i) e d j h l))

-- a text read by a test of the instruction that is guessed
pub read_by : (text : List ℕ) (i : Instruction) (b : Bool) → Decides b (line_of i ≡ text) → Formed i
    → ((j : Instruction) → Formed j → line_of j ≡ text → j ≡ i) → Reads text (then_some b i)
read_by text i true d f only = (f, d.0 refl, only)
read_by text i false d f only = λ j h e. both_ways _ refl (d.1 (ap line_of (sym (only j h e)) ∙ e))

-- a legal word that has a line, by its instruction
of_word : (v text : List ℕ) → IsWord v → HasLine v text → (j : Instruction) × Formed j × (encoded j ≡ v) × (line_of j ≡ text)
of_word v text w h =
    let d : Formed h.0 × (encoded h.0 ≡ v) = subst (Decodes v) h.1 (decodes v w.0 w.1 w.2 w.3 w.4) in
    (h.0, d.0, d.1, h.2)

pub lines_differ : LinesDiffer
lines_differ v w text wv ww hv hw =
    let j = of_word v text wv hv in
    let k = of_word w text ww hw in
    let e = same_some (sym (taken j.0 j.1) ∙ ap taken_for (j.3 ∙ sym k.3) ∙ taken k.0 k.1) in
    sym j.2 ∙ e ∙ k.2

pub no_word : (text : List ℕ) → Reads text None → (v : List ℕ) → IsWord v → HasLine v text → ⊥
no_word text r v w h = let j = of_word v text w h in r j.0 j.1 j.3

pub one_word : (text : List ℕ) (i : Instruction) → Reads text (Some i) → (v : List ℕ) → IsWord v → HasLine v text → v ≡ encoded i
one_word text i r v w h = let j = of_word v text w h in sym j.2 ∙ ap encoded (r.2 j.0 j.1 j.3)
