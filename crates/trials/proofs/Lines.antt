-- The lines of the worked words, by computing them.

use Rattle.std.proofs.Common.{refl}
use Rattle.std.specs.Fmt.{digits}
use Rattle.isa.specs.Opcodes.{opcode_of}
use Rattle.lines.specs.Lines.{line_of}
use Rattle.trials.specs.Values.{WordValues}

pub word_values : WordValues
unfolding opcode_of line_of digits
word_values = ((_, refl, refl), (_, refl, refl), (_, refl, refl), (_, refl, refl), refl, refl)
