-- Bits as whole numbers, whole numbers as words of 64 bits, and what arithmetic on words gives.
-- Assumes nothing.
use Rattle.std.specs.Prelude.{ℕ, ◌+◌, ◌-◌, ◌*◌, ◌/◌, ◌%◌, ◌^◌, Bool, true, false, cond, ℤ, pos, ◌-ℤ◌, Some, None, Option, ◌==◌, int_div, int_rem, nat_lt, unsigned_abs}
use Rattle.std.specs.Int.Signed.{shr_z}
use Rattle.std.specs.Int.{int_rem_euclid}
use Rattle.arith.specs.declared.width.Width.{Width}
use Rattle.arith.specs.declared.width.Extension.{Extension}
use Rattle.arith.specs.declared.width.Extension.TheVariants.{Zero, Sign}
use Rattle.arith.specs.Widths.{bytes_of}

-- the number that k bits stand for in two's complement: from 2 ^ (k - 1) on, 2 ^ k less than without a sign
abbrev pub signed : ℕ → ℕ → ℤ
signed k n = cond (nat_lt n (2 ^ (k - 1))) (pos n) (pos n -ℤ pos (2 ^ k))

-- a word read without a sign, and read with one
abbrev pub u : ℕ → ℤ
u n = pos n

abbrev pub s : ℕ → ℤ
s n = signed 64 n

-- the word that holds a whole number: the number modulo 2 ^ 64
abbrev pub word : ℤ → ℕ
word z = unsigned_abs (int_rem_euclid z (pos (2 ^ 64)))

-- the bits n of a width, widened to 64 bits by zeros or by their sign
abbrev pub widened : Extension → Width → ℕ → ℕ
widened Zero w n = n
widened Sign w n = word (signed (8 * bytes_of w) n)

-- addition, subtraction, multiplication: the numbers without a sign, modulo 2 ^ 64
abbrev pub sum : ℕ → ℕ → ℕ
sum b a = (b + a) % 2 ^ 64

-- a flag as a number
abbrev pub one_if : Bool → ℕ
one_if true = 1
one_if false = 0

-- addition of the old zero flag too
abbrev pub sum_with : ℕ → ℕ → Bool → ℕ
sum_with b a old = (b + a + one_if old) % 2 ^ 64

abbrev pub difference : ℕ → ℕ → ℕ
difference b a = word (u b -ℤ u a)

abbrev pub product : ℕ → ℕ → ℕ
product b a = (b * a) % 2 ^ 64

-- quotient and remainder without a sign, rounded down; nothing where the divisor is 0
abbrev pub divided : ℕ → ℕ → Option (ℕ × ℕ)
divided b a = cond (a == 0) None (Some (b / a, b % a))

-- the same with a sign: the quotient rounded toward 0, the remainder with the sign of b
abbrev pub divided_signed : ℕ → ℕ → Option (ℕ × ℕ)
divided_signed b a = cond (a == 0) None (Some (word (int_div (s b) (s a)), word (int_rem (s b) (s a))))

-- b shifted by a places: to the left, to the right, and to the right with copies of its sign, that is, rounded down
abbrev pub shifted_left : ℕ → ℕ → ℕ
shifted_left b a = (b * 2 ^ a) % 2 ^ 64

abbrev pub shifted_right : ℕ → ℕ → ℕ
shifted_right b a = b / 2 ^ a

abbrev pub shifted_right_signed : ℕ → ℕ → ℕ
shifted_right_signed b a = word (shr_z (s b) (2 ^ a))

-- all bits turned over
abbrev pub complemented : ℕ → ℕ
complemented a = 2 ^ 64 - 1 - a

-- the bits of z moved up by 16, and 16 bits put below them
abbrev pub shifted_in : ℕ → ℕ → ℕ
shifted_in z low = (z * 2 ^ 16 + low) % 2 ^ 64
