-- What the second register of an address is multiplied by.
-- Assumes nothing.
use Rattle.std.specs.Prelude.{ℕ}
use Rattle.isa.specs.declared.opcode.Scale.{Scale}

abbrev pub factor : Scale → ℕ
factor Scale.One = 1
factor Scale.Two = 2
factor Scale.Four = 4
factor Scale.Eight = 8
