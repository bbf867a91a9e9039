use Rattle.std.proofs.Common.{arith}
use Rattle.memory.proofs.Stretches.{stretch-first, stretch-second}
use Rattle.memory.proofs.joined.JoinedMemory.stretch.Goals as goal

pub returns-in-Ok-First : goal.returns-in-Ok-First
returns-in-Ok-First g c = grind (arith, stretch-first, g.F.Memory.bounded c.args.self.now.first)

pub returns-in-Ok-Second : goal.returns-in-Ok-Second
returns-in-Ok-Second g c =
    let first = g.F.Memory.cells c.args.self.now.first in
    let second = g.S.Memory.cells c.args.self.now.second in
    let cells = c.stretch-in-Ok-Second.result.now in
    let lies = rw c.in-Ok-Second.field-0-is at c.in-Ok-Second.ensures in
    let stretch = rw (lies.2, c.size.ensures) at c.stretch-in-Ok-Second.ensures in
    rw c.front.ensures (stretch-second first second cells c.args.at (omega arith) lies.1 stretch)
