-- The numbers that refusals are told by.
-- Assumes nothing.
use Rattle.std.specs.Prelude.{ℕ}
use Rattle.memory.specs.declared.limits.Refusal.{Refusal}
use Rattle.memory.specs.declared.limits.Refusal.TheVariants.{TooLarge}

abbrev pub number : Refusal → ℕ
number TooLarge = 4
