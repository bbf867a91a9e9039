-- A line has at most 64 bytes.
use Rattle.std.proofs.Common.{◌≡◌, ℕ, ◌+◌, ◌-◌, ◌*◌, ◌^◌, ◌<◌, ◌≤◌, true, leb, length, ℤ, pos, negsuc, ◌+ℤ◌, ◌*ℤ◌, decimal, sym, refl, ap, ◌∙◌, subst, ⊎_elim, arith, length-append, w8, w16, to_z}
use Rattle.std.specs.Int.Signed.{mag}
use Rattle.std.proofs.lemmas.Fmt.{length-decimal-le, length_signed_le}
use Rattle.std.proofs.lemmas.Int.{ints}
use Rattle.std.proofs.lemmas.Bool.{leb-true, cases_lt}
use Rattle.std.proofs.lemmas.Bool.Decides.{nat_tests}
use Rattle.isa.specs.declared.opcode.Opcode.{Opcode}
use Rattle.isa.specs.declared.opcode.Reach.{Reach}
use Rattle.isa.specs.declared.opcode.Scale.{Scale}
use Rattle.isa.specs.declared.opcode.Source.{Source}
use Rattle.isa.specs.declared.opcode.Operation.{Operation}
use Rattle.isa.specs.Distances.{words_of}
use Rattle.isa.specs.Opcodes.{opcodes}
use Rattle.isa.specs.Words.{distance_of}
use Rattle.isa.proofs.Codes.{tested}
use Rattle.lines.specs.declared.argument.Argument.{Argument}
use Rattle.lines.specs.declared.argument.Argument.TheVariants.{Register, Number, Scaled, Displaced}
use Rattle.lines.specs.declared.argument.Arguments.{Arguments}
use Rattle.lines.specs.declared.argument.Arguments.TheVariants.{Zero, One, Two, Three}
use Rattle.isa.specs.Scales.{factor}
use Rattle.lines.specs.Names.{name_of}
use Rattle.lines.specs.Lines.{immediate, plain, address, arguments, register, written, trailing, line_with}

-- the names have at most 6 bytes: a test at each opcode
short_name : (o : Opcode) → leb (length (name_of o)) 6 ≡ true
unfolding opcodes
short_name o = tested (λ p. leb (length (name_of p)) 6) refl o

-- the numbers of an operand are small
abbrev pub Small : Argument → Type 0
Small (Register n) = n < 2 ^ 8
Small (Number z) = mag z < 2 ^ 25
Small (Scaled base index s) = (base < 2 ^ 8) × (index < 2 ^ 8)
Small (Displaced d base) = (mag d < 2 ^ 7) × (base < 2 ^ 8)

abbrev pub AllSmall : Arguments → Type 0
AllSmall Zero = Unit {0}
AllSmall (One a) = Small a
AllSmall (Two a b) = Small a × Small b
AllSmall (Three a b c) = Small a × Small b × Small c

small_immediate : (o : Operation) (x : ℕ) → x < 2 ^ 8 → mag (immediate o x) < 2 ^ 25
small_immediate Operation.Multiply x h = grind (arith, nat_tests)
small_immediate o x h = omega arith

small_plain : (s : Source) (x : ℕ) → x < 2 ^ 8 → Small (plain s x)
small_plain Source.Register x h = h
small_plain Source.Immediate x h = omega arith

small_address : (r : Reach) (x y : ℕ) → x < 2 ^ 8 → y < 2 ^ 8 → Small (address r x y)
small_address (Reach.Scaled s) x y hx hy = (hx, hy)
small_address Reach.Displaced x y hx hy = (grind (arith, nat_tests), hy)

small_wide : (x y : ℕ) → x < 2 ^ 8 → y < 2 ^ 8 → mag (to_z w16 (x * 256 + y)) < 2 ^ 25
small_wide x y hx hy = grind (arith, nat_tests)

-- a jump's distance in bytes: four times the 24 bits, read with their sign
pub jump_ahead : (x l : ℕ) → x < 128 → (to_z w8 x *ℤ pos 65536 +ℤ pos l) *ℤ pos 4 ≡ pos (4 * (x * 65536 + l))
jump_ahead x l h = omega (arith, ints)

jump_below : (n l : ℕ) → n < 128 → l < 65536 → (negsuc n *ℤ pos 65536 +ℤ pos l) *ℤ pos 4 ≡ negsuc (4 * (n * 65536 + 65536 - l) - 1)
jump_below n l h k = omega (arith, ints)

pub jump_back : (x l : ℕ) → 128 ≤ x → x < 256 → l < 65536 → (to_z w8 x *ℤ pos 65536 +ℤ pos l) *ℤ pos 4 ≡ negsuc (4 * (16777216 - (x * 65536 + l)) - 1)
jump_back x l h k m =
    let n : to_z w8 x ≡ negsuc (255 - x) = grind (arith, nat_tests) in
    ap (λ (z : ℤ). (z *ℤ pos 65536 +ℤ pos l) *ℤ pos 4) n ∙ jump_below (255 - x) l (omega arith) m ∙ ap negsuc (omega arith)

small_jump : (x y z : ℕ) → x < 2 ^ 8 → y < 2 ^ 8 → z < 2 ^ 8 → mag (words_of (distance_of x y z) *ℤ pos 4) < 2 ^ 25
small_jump x y z hx hy hz =
    let P : ℤ → Type 0 = λ n. mag n < 2 ^ 25 in
    ⊎_elim (λ h. subst P (sym (jump_ahead x (y * 256 + z) h)) (omega arith))
    (λ h. subst P (sym (jump_back x (y * 256 + z) h hx (omega arith))) (omega arith)) (cases_lt x 128)

pub small : (o : Opcode) (x y z : ℕ) → x < 2 ^ 8 → y < 2 ^ 8 → z < 2 ^ 8 → AllSmall (arguments o x y z)
small (Opcode.Load k r) x y z hx hy hz = (small_address r x y hx hy, hz)
small (Opcode.Store w r) x y z hx hy hz = (hx, small_address r y z hy hz)
small (Opcode.Binary o Source.Immediate) x y z hx hy hz = (small_immediate o x hx, hy, hz)
small Opcode.AddTriple x y z hx hy hz = (omega arith, hy, hz)
small Opcode.Not x y z hx hy hz = (hx, hy)
small Opcode.LoadUnsigned x y z hx hy hz = (omega arith, hz)
small Opcode.LoadSigned x y z hx hy hz = (small_wide x y hx hy, hz)
small Opcode.ShiftIn x y z hx hy hz = (omega arith, hz)
small (Opcode.Jump c) x y z hx hy hz = small_jump x y z hx hy hz
small Opcode.JumpRegister x y z hx hy hz = (hx, hy)
small (Opcode.Halt s) x y z hx hy hz = small_plain s x hx
small Opcode.Get x y z hx hy hz = hx
small (Opcode.Put s) x y z hx hy hz = small_plain s x hx
small Opcode.Nothing x y z hx hy hz = tt
small o x y z hx hy hz = (hx, hy, hz)

-- an operand has at most 13 bytes
short_factor : (s : Scale) → length (decimal (factor s)) ≤ 1
short_factor Scale.One = length-decimal-le 1 1 (omega arith) (omega arith) (omega arith)
short_factor s = length-decimal-le 1 (factor s) (omega arith) (omega arith) (omega arith)

short_register : (n : ℕ) → n < 2 ^ 8 → length (register n) ≤ 4
short_register n h = omega (arith, length-decimal-le 3 n (omega arith) (omega arith) (omega arith))

short : (a : Argument) → Small a → length (written a) ≤ 13
short (Register n) h = omega (arith, short_register n h)
short (Number z) h = omega (arith, length_signed_le 8 z (omega arith) (omega arith))
short (Scaled base index s) h =
    simp length-append (omega (arith, short_register base h.0, short_register index h.1, short_factor s))
short (Displaced d base) h =
    simp length-append (omega (arith, short_register base h.1, length_signed_le 3 d (omega arith) (omega arith)))

short_all : (a : Arguments) → AllSmall a → length (trailing a) ≤ 42
short_all Zero h = omega arith
short_all (One a) h = omega (arith, short a h)
short_all (Two a b) h = simp length-append (omega (arith, short a h.0, short b h.1))
short_all (Three a b c) h = simp length-append (omega (arith, short a h.0, short b h.1, short c h.2))

pub short_line : (o : Opcode) (x y z : ℕ) → x < 2 ^ 8 → y < 2 ^ 8 → z < 2 ^ 8 → length (line_with o x y z) ≤ 64
short_line o x y z hx hy hz =
    simp length-append (omega (arith, leb-true _ _ (short_name o), short_all (arguments o x y z) (small o x y z hx hy hz)))
