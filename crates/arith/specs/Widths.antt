-- The sizes of data in bytes.
-- Assumes nothing.
use Rattle.std.specs.Prelude.{ℕ}
use Rattle.arith.specs.declared.width.Width.{Width}
use Rattle.arith.specs.declared.width.Width.TheVariants.{Byte, Word, Long, Quad}

abbrev pub bytes_of : Width → ℕ
bytes_of Byte = 1
bytes_of Word = 2
bytes_of Long = 4
bytes_of Quad = 8
