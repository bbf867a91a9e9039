use Rattle.std.proofs.Common.{sym, ◌∙◌, rules, arith}
use Rattle.memory.proofs.Borders.{says_first, says_second, says_neither}
use Rattle.memory.proofs.joined.JoinedMemory.writable.Goals as goal

pub returns-in_err-locate : goal.returns-in_err-locate
returns-in_err-locate g c = rw (says_neither _ _ c.args.at c.in_err-locate.ensures.0) (search rules)

pub returns-in-First : goal.returns-in-First
returns-in-First g c = let first = c.args.self.now.first in grind (arith, says_first, g.F.Memory.bounded first, g.F.Memory.marked first)

pub returns-in-Second : goal.returns-in-Second
returns-in-Second g c =
    let marked = g.F.Memory.marked c.args.self.now.first in
    let lies = rw c.in-Second.is at c.in_ok-locate.ensures in
    c.writable-in-Second.ensures ∙ sym (says_second _ _ c.args.at c.in-Second.place (omega arith) lies.1 (omega arith))
