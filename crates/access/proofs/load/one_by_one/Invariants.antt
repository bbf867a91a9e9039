use Rattle.std.proofs.Common.{◌≡◌, ◌+◌, ◌*◌, ◌^◌, ◌<◌, ◌≤◌, length}
use Rattle.access.specs.Transfers.{number_at}
use Rattle.access.proofs.load.one_by_one.Given as goal

abbrev pub invariant-loop-k : goal.invariant-loop-k
invariant-loop-k g l =
    (l.number ≡ number_at (g.M.Memory.cells l.memory) l.at l.k)
    × (l.number < 2 ^ (8 * l.k))
    × (0 < l.k → l.at + l.k ≤ length (g.M.Memory.cells l.memory))
