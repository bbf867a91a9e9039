use Rattle.std.proofs.Common.{refl}
use Rattle.arith.proofs.Values.{arithmetic_values}
use Rattle.trials.proofs.Lines.{word_values}
use Rattle.trials.proofs.trial_words.Goals as goal

pub returns : goal.returns
returns c = record { words = refl; values = (word_values, arithmetic_values) }
