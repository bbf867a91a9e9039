-- Shifts by as many places as a word has, and more.
-- Assumes nothing.
use Rattle.std.proofs.Common.{◌≡◌, ℕ, ◌-◌, ◌*◌, ◌/◌, ◌%◌, ◌^◌, ◌<◌, ◌≤◌, min, ℤ, pos, negsuc, sym, ap, ◌∙◌, ⊎_elim, lt_of_lt_of_le, mul_assoc, sub-add_cancel, arith, lit<, lit≤, pow-add}
use Rattle.std.proofs.Math.Nat.{div-eq_of_lt, mul-mod_left, pow-le-pow_right}
use Rattle.std.specs.Int.Signed.{mag, shr_z}
use Rattle.std.proofs.lemmas.Bool.{cases_lt}

pub far_left : (b a : ℕ) → 64 ≤ a → (b * 2 ^ a) % 2 ^ 64 ≡ 0
far_left b a h =
    ap (λ k. (b * 2 ^ k) % 2 ^ 64) (sym (sub-add_cancel h))
    ∙ ap (λ k. (b * k) % 2 ^ 64) (pow-add 2 (a - 64) 64)
    ∙ ap (λ k. k % 2 ^ 64) (sym (mul_assoc b (2 ^ (a - 64)) (2 ^ 64)))
    ∙ mul-mod_left (b * 2 ^ (a - 64)) (2 ^ 64)

pub all_out : (b k a : ℕ) → b < 2 ^ k → k ≤ a → b / 2 ^ a ≡ 0
all_out b k a h g = div-eq_of_lt (lt_of_lt_of_le h (pow-le-pow_right (lit< tt) g))

pub far_right : (b a : ℕ) → b < 2 ^ 64 → 64 ≤ a → b / 2 ^ a ≡ 0
far_right b a h g = all_out b 64 a h g

far_signed : (z : ℤ) (a : ℕ) → mag z < 2 ^ 63 → 63 ≤ a → shr_z z (2 ^ 63) ≡ shr_z z (2 ^ a)
far_signed (pos n) a h g = ap pos (all_out n 63 63 h (lit≤ tt) ∙ sym (all_out n 63 a h g))
far_signed (negsuc n) a h g = ap negsuc (all_out n 63 63 h (lit≤ tt) ∙ sym (all_out n 63 a h g))

-- a number of 64 bits with a sign, shifted by a places, k being a or 63 if that is less
pub near_signed : (z : ℤ) (a k : ℕ) → mag z < 2 ^ 63 → k ≡ min a 63 → shr_z z (2 ^ k) ≡ shr_z z (2 ^ a)
near_signed z a k h e =
    ⊎_elim
    (λ l. let same : k ≡ a = omega arith in rw same)
    (λ g. let last : k ≡ 63 = omega arith in rw last (far_signed z a h g))
    (cases_lt a 63)
