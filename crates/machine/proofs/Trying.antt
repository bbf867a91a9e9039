-- A try by its fetched word: the only file that opens it.
-- Assumes nothing.
use Rattle.std.proofs.Common.{◌≡◌, ℕ, Bool, List, Ok, Err, Result}
use Rattle.console.specs.Streams.{Con}
use Rattle.isa.specs.declared.instruction.Instruction.{Instruction}
use Rattle.isa.specs.Words.{decoded}
use Rattle.access.specs.Transfers.{fetched}
use Rattle.machine.specs.declared.fault.Fault.{Fault}
use Rattle.machine.specs.Cores.{Core, Act, faults}
use Rattle.machine.specs.Leavings.{Left, leaves}
use Rattle.machine.specs.Steps.{living, next}
use Rattle.machine.specs.Tries.{bytes_in, word_at, legal, executed, try}
use Rattle.machine.proofs.Answering.{TellsLeft, left_tells}

-- what the act leaves is what the try promises
pub attempted : (marks : List Bool) (c : Core) (k : Con) (a : Act) (l : Left) → try marks c ≡ a → l ≡ leaves a c k → TellsLeft c k (next marks (living c k)) l
attempted marks c k a l e is = rw (e, is) (left_tells c k a)

pub try_unfetched : (marks : List Bool) (c : Core) (fault : Fault) → Err fault ≡ word_at c.place (fetched c.cells c.place) → try marks c ≡ faults fault
unfolding try
try_unfetched marks c fault e = rw (← e)

pub try_word : (marks : List Bool) (c : Core) (w : ℕ) (r : Result Instruction Fault) → Ok w ≡ word_at c.place (fetched c.cells c.place)
    → r ≡ legal c.place w (decoded (bytes_in w)) → try marks c ≡ executed marks c w r
unfolding try
try_word marks c w r e d = rw (← e, ← d)
