-- The number of each refusal.
-- Assumes nothing.
use Rattle.std.specs.Prelude.{ℕ}
use Rattle.console.specs.Refusals as console
use Rattle.job.specs.declared.Refusal.{Refusal}
use Rattle.job.specs.declared.Refusal.TheVariants.{TooManySteps, Console}

abbrev pub number : Refusal → ℕ
number TooManySteps = 1
number (Console r) = console.number r
