use Rattle.std.proofs.Common.{◌≡◌}
use Rattle.arith.specs.Widths.{bytes_of}
use Rattle.memory.specs.Slices.{Kept}
use Rattle.access.specs.Transfers.{over}
use Rattle.access.proofs.store.put.Given as goal

abbrev pub invariant-loop-k : goal.invariant-loop-k
invariant-loop-k g l =
    Kept g.M.Memory.marks g.M.Memory.loans l.initial.memory l.memory
    × (over (g.M.Memory.cells l.memory) l.at l.k l.rest
    ≡ over (g.M.Memory.cells l.initial.memory) l.at (bytes_of l.fn.width) l.value)
