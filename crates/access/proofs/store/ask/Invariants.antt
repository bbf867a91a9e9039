use Rattle.std.proofs.Common.{◌≡◌, true}
use Rattle.access.specs.Transfers.{all_open}
use Rattle.access.proofs.store.ask.Given as goal

abbrev pub invariant-loop-k : goal.invariant-loop-k
invariant-loop-k g l = all_open (g.M.Memory.marks l.memory) l.at l.k ≡ true
