-- The flags that additions and subtractions set. They are told by whole numbers, not by the word that is stored.
-- Assumes nothing.
use Rattle.std.specs.Prelude.{ℕ, ◌+◌, ◌%◌, ◌^◌, Bool, false, ◌||◌, ℤ, pos, negsuc, ◌+ℤ◌, ◌-ℤ◌, neg_ℤ, ◌==◌, int_le, int_lt}
use Rattle.arith.specs.declared.flags.Flags.{Flags}
use Rattle.arith.specs.Whole.{u, s, one_if}

abbrev pub is_zero : ℤ → Bool
is_zero (pos n) = n == 0
is_zero (negsuc n) = false

abbrev pub negative : ℤ → Bool
negative z = int_lt z (pos 0)

-- too large for a word without a sign: at least 2 ^ 64
abbrev pub carries : ℤ → Bool
carries z = int_le (pos (2 ^ 64)) z

-- no number of 64 bits with a sign: below -2 ^ 63, or at least 2 ^ 63
abbrev pub outside : ℤ → Bool
outside z = int_lt z (neg_ℤ (pos (2 ^ 63))) || int_le (pos (2 ^ 63)) z

-- after an operation with the result n on words without a sign and z on words with one; c says whether n is no word
abbrev pub flags_of : ℤ → Bool → ℤ → Flags
flags_of n c z = record { zero = is_zero n; carry = c; overflow = outside z; sign = negative z }

-- after b + a
unfoldable pub sum_flags : ℕ → ℕ → Flags
sum_flags b a = flags_of (u b +ℤ u a) (carries (u b +ℤ u a)) (s b +ℤ s a)

-- after b - a
unfoldable pub difference_flags : ℕ → ℕ → Flags
difference_flags b a = flags_of (u b -ℤ u a) (negative (u b -ℤ u a)) (s b -ℤ s a)

-- after b + a and the old zero flag as a number; with a sign, b is added to the word that a and the flag give
unfoldable pub sum_with_flags : ℕ → ℕ → Bool → Flags
sum_with_flags b a old =
    flags_of
    (u b +ℤ u a +ℤ u (one_if old))
    (carries (u b +ℤ u a +ℤ u (one_if old)))
    (s b +ℤ s ((a + one_if old) % 2 ^ 64))
