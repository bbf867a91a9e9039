-- The worked values hold.
-- Assumes nothing.
use Rattle.std.proofs.Common.{refl}
use Rattle.arith.specs.Flags.{sum_flags, difference_flags}
use Rattle.arith.specs.Values.{ArithmeticValues}

pub arithmetic_values : ArithmeticValues
unfolding sum_flags difference_flags
arithmetic_values = (refl, refl, refl, refl, refl, refl, refl)
