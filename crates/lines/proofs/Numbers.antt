-- Reading numbers.
use Rattle.std.proofs.Common.{◌≡◌, ℕ, suc, ◌+◌, ◌-◌, ◌%◌, ◌^◌, ◌<◌, false, cond, List, [], ◌∷◌, drop, ℤ, pos, negsuc, decimal, refl, ap, ◌∙◌, arith, w32, of_z}
use Rattle.std.specs.Int.Signed.{mag}
use Rattle.std.specs.Str.Parse.{AllDigits}
use Rattle.std.specs.Fmt.{signed_decimal}
use Rattle.std.proofs.lemmas.Str.Parse.{digit_from_value}
use Rattle.std.proofs.lemmas.Fmt.{decimal_is_IsNumeral, decimal_by_steps}
use Rattle.std.proofs.lemmas.List.Sums.{fold_push}
use Rattle.std.proofs.lemmas.Bool.{ne_eqb}
use Rattle.lines.specs.Lines.{register}
use Rattle.lines.specs.Pieces.{starts, with_digit, digits_after, register_value, number_value}

-- digits read one after another give the number that they write
pub digits_decimal : (n : ℕ) → n < 2 ^ 32 → digits_after 0 (decimal n) ≡ n
digits_decimal n h =
    decimal_by_steps (λ m ds. m < 2 ^ 32 → digits_after 0 ds ≡ m) (λ m l k. omega arith)
    (λ m ds l e k. fold_push with_digit 0 ds (48 + m % 10) ∙ ap (λ v. with_digit v (48 + m % 10)) (e (omega arith)) ∙ omega arith) n (omega arith) h

-- a number in decimal begins with a digit
starts_digit : (s : List ℕ) (b : ℕ) → AllDigits 10 s → b < 48 → starts s b ≡ false
starts_digit [] b d h = refl
starts_digit (c ∷ s) b d h = ne_eqb c b (λ e. omega (arith, digit_from_value c d.0))

pub no_sign : (n b : ℕ) → n < 2 ^ 64 → b < 48 → starts (decimal n) b ≡ false
no_sign n b h k = starts_digit (decimal n) b (decimal_is_IsNumeral n h).0.1 k

-- a register and a number with a sign are read as what they are
pub read_register : (n : ℕ) → n < 2 ^ 8 → register_value (register n) ≡ n
read_register n h = ap (λ k. k % 2 ^ 8) (digits_decimal n (omega arith)) ∙ omega arith

pub read_number : (z : ℤ) → mag z < 2 ^ 31 → number_value (signed_decimal z) ≡ of_z w32 z
read_number (pos n) h =
    ap (λ b. cond b ((2 ^ 32 - digits_after 0 (drop 1 (decimal n))) % 2 ^ 32) (digits_after 0 (decimal n))) (no_sign n 45 (omega arith) (omega arith))
    ∙ digits_decimal n (omega arith)
read_number (negsuc n) h = ap (λ k. (2 ^ 32 - k) % 2 ^ 32) (digits_decimal (suc n) (omega arith)) ∙ omega arith
