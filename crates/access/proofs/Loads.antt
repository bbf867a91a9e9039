-- One more byte at the end of a number.
-- Assumes nothing.
use Rattle.std.proofs.Common.{◌≡◌, ℕ, ◌+◌, ◌*◌, ◌^◌, ◌<◌, ◌≤◌, List, length, get_or, drop, Ok, ap, ◌∙◌, mod-eq_of_lt, arith, lit<, length-drop}
use Rattle.std.proofs.Math.Nat.{pow-le-pow_right}
use Rattle.arith.specs.declared.width.Width.{Width}
use Rattle.arith.specs.Widths.{bytes_of}
use Rattle.memory.specs.Cells.{read_at}
use Rattle.access.specs.Transfers.{number_at}
use Rattle.std.proofs.lemmas.Nat.{pow-add}
use Rattle.std.proofs.lemmas.Int.Digits.{number_more}
use Rattle.std.proofs.lemmas.List.{get_or-drop}
use Rattle.std.proofs.lemmas.Bool.Decides.{nat_tests}

most : (w : Width) → bytes_of w ≤ 8
most w = grind arith

pub more : (v k b : ℕ) → v < 2 ^ (8 * k) → b < 256 → v * 256 + b < 2 ^ (8 * (k + 1))
more v k b h g = let e : 8 * (k + 1) ≡ 8 * k + 8 = omega arith in rw (e, pow-add) (omega arith)

pub next_fits : (w : Width) (v k b : ℕ) → v < 2 ^ (8 * k) → b < 256 → k < bytes_of w → v * 256 + b < 2 ^ 64
next_fits w v k b h g l =
    let size : 8 * (k + 1) ≤ 64 = omega (arith, most w) in
    let room : 2 ^ (8 * (k + 1)) ≤ 2 ^ 64 = pow-le-pow_right (lit< tt) size in
    omega (arith, more v k b h g)

pub number_next : (cells : List ℕ) (at k : ℕ) → at + k < length cells
    → number_at cells at (k + 1) ≡ number_at cells at k * 256 + get_or cells (at + k) 0
number_next cells at k h =
    number_more 256 (drop at cells) k (rw length-drop (omega arith))
    ∙ ap (λ b. number_at cells at k * 256 + b) (get_or-drop at cells k 0)

pub read_ok : (cells : List ℕ) (at b : ℕ) → Ok b ≡ read_at cells at → (at < length cells) × (b ≡ get_or cells at 0)
read_ok cells at b e = grind (arith, nat_tests)

-- a number that fits its width is its own low bytes
pub ruleset widening = mod-eq_of_lt
