-- How long the slices of a tray or a page may be.
-- Assumes nothing.
use Rattle.std.specs.Prelude.{ℕ, Bool, cond, ◌&&◌, Ok, Err, Result, nat_le}

-- slices of m and n bytes are both short enough
abbrev pub fit : ℕ → ℕ → Bool
fit m n = nat_le m 65536 && nat_le n 65536

-- how many of them are taken: all, or none where one is too long
abbrev pub usable_of : ℕ → ℕ → ℕ × ℕ
usable_of m n = cond (fit m n) (m, n) (0, 0)

abbrev pub check_says : ℕ → ℕ → Result Unit ℕ
check_says m n = cond (fit m n) (Ok tt) (Err 4)
