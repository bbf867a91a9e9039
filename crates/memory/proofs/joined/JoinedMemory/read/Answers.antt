use Rattle.std.proofs.Common.{sym, ◌∙◌, rules, arith}
use Rattle.memory.proofs.Borders.{read_first, read_second, read_neither}
use Rattle.memory.proofs.joined.JoinedMemory.read.Goals as goal

pub returns-in_err-locate : goal.returns-in_err-locate
returns-in_err-locate g c = rw (read_neither _ _ c.args.at c.in_err-locate.ensures.0) (search rules)

pub returns-in-First : goal.returns-in-First
returns-in-First g c = grind (arith, read_first, g.F.Memory.bounded c.args.self.now.first)

pub returns-in-Second : goal.returns-in-Second
returns-in-Second g c =
    let lies = rw c.in-Second.is at c.in_ok-locate.ensures in
    c.read-in-Second.ensures ∙ sym (read_second _ _ c.args.at c.in-Second.place (omega arith) lies.1 (omega arith))
