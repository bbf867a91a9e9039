-- A bank of 256 registers as a list.
-- Assumes nothing.
use Rattle.std.specs.Prelude.{ℕ, ◌+◌, ◌%◌, cond, List, ◌==◌, slice_index, slice_set}

-- register 0 reads as 0
unfoldable pub reg : List ℕ → ℕ → ℕ
reg regs n = cond (n == 0) 0 (slice_index regs n)

-- and drops what is written
unfoldable pub with_reg : List ℕ → ℕ → ℕ → List ℕ
with_reg regs n value = cond (n == 0) regs (slice_set regs n value)

-- the register k after one; the register after 255 is register 0
abbrev pub following : ℕ → ℕ → ℕ
following n k = (n + k) % 256
