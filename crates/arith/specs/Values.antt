-- Worked values, at the ends of the range and with negative numbers.
-- Assumes nothing.
use Rattle.std.specs.Prelude.{◌≡◌, ℕ, ◌-◌, ◌*◌, ◌^◌, Bool, true, false, pos, neg_ℤ, Some}
use Rattle.arith.specs.declared.flags.Flags.{Flags}
use Rattle.arith.specs.Flags.{sum_flags, difference_flags}
use Rattle.arith.specs.Whole.{word, sum, difference, divided_signed}

-- the word that holds -n
abbrev pub minus : ℕ → ℕ
minus n = word (neg_ℤ (pos n))

abbrev pub flags : Bool → Bool → Bool → Bool → Flags
flags z c o s = record { zero = z; carry = c; overflow = o; sign = s }

-- 2 ^ 63 + 2 ^ 63; -2 ^ 63 - 1; -7 by 2; -2 ^ 63 by -1; three times 255 added to 1
abbrev pub ArithmeticValues : Type 0
ArithmeticValues =
    (sum (2 ^ 63) (2 ^ 63) ≡ 0)
    × (sum_flags (2 ^ 63) (2 ^ 63) ≡ flags false true true true)
    × (difference (minus (2 ^ 63)) 1 ≡ 2 ^ 63 - 1)
    × (difference_flags (minus (2 ^ 63)) 1 ≡ flags false false true true)
    × (divided_signed (minus 7) 2 ≡ Some (minus 3, minus 1))
    × (divided_signed (minus (2 ^ 63)) (minus 1) ≡ Some (minus (2 ^ 63), 0))
    × (sum 1 (3 * 255) ≡ 766)
