use Rattle.std.proofs.Common.{sym, ◌∙◌, rules, arith}
use Rattle.memory.proofs.Borders.{says_first, says_second, says_neither, after_first, after-second, after_neither, loans_first, loans_second, rest-first, rest-second}
use Rattle.memory.proofs.joined.JoinedMemory.write.Goals as goal

pub returns-in_err-locate-clause-answer : goal.returns-in_err-locate-clause-answer
returns-in_err-locate-clause-answer g c = rw (says_neither _ _ c.args.at c.in_err-locate.ensures.0) (search rules)

pub returns-in_err-locate-clause-after : goal.returns-in_err-locate-clause-after
returns-in_err-locate-clause-after g c =
    let first = c.args.self.now.first in
    let second = c.args.self.now.second in
    sym (after_neither (g.F.Memory.marks first) (g.S.Memory.marks second) (g.F.Memory.cells first) (g.S.Memory.cells second) c.args.at c.args.byte c.in_err-locate.ensures.0)

pub returns-in-First-clause-answer : goal.returns-in-First-clause-answer
returns-in-First-clause-answer g c = let first = c.args.self.now.first in grind (arith, says_first, g.F.Memory.bounded first, g.F.Memory.marked first)

pub returns-in-First-clause-after : goal.returns-in-First-clause-after
returns-in-First-clause-after g c = let first = c.args.self.now.first in grind (arith, after_first, g.F.Memory.bounded first, g.F.Memory.marked first)

pub returns-in-First-clause-kept : goal.returns-in-First-clause-kept
returns-in-First-clause-kept g c = let first = c.args.self.now.first in grind (arith, loans_first, rest-first, g.F.Memory.bounded first, g.F.Memory.marked first)

pub returns-in-Second-clause-answer : goal.returns-in-Second-clause-answer
returns-in-Second-clause-answer g c =
    let marked = g.F.Memory.marked c.args.self.now.first in
    let lies = rw c.in-Second.is at c.in_ok-locate.ensures in
    c.write-in-Second.ensures.answer ∙ sym (says_second _ _ c.args.at c.in-Second.place (omega arith) lies.1 (omega arith))

pub returns-in-Second-clause-after : goal.returns-in-Second-clause-after
returns-in-Second-clause-after g c = grind (arith, after-second, g.F.Memory.marked c.args.self.now.first)

pub returns-in-Second-clause-kept : goal.returns-in-Second-clause-kept
returns-in-Second-clause-kept g c = grind (arith, loans_second, rest-second, g.F.Memory.marked c.args.self.now.first)
