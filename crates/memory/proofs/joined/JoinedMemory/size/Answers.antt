use Rattle.std.proofs.Common.{arith}
use Rattle.memory.specs.Laws.{length-join}
use Rattle.memory.proofs.joined.JoinedMemory.size.Goals as goal

pub returns : goal.returns
returns g c =
    omega (arith, c.min.ensures, length-join (g.F.Memory.cells c.args.self.now.first) (g.S.Memory.cells c.args.self.now.second))
