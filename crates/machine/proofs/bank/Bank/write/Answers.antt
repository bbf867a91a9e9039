use Rattle.std.proofs.Common.{rules}
use Rattle.machine.specs.Registers.{with_reg}
use Rattle.machine.proofs.bank.Bank.write.Goals as goal

pub returns-then-to-ne0 : goal.returns-then-to-ne0
unfolding with_reg
returns-then-to-ne0 c = search rules

pub returns-else-to-ne0 : goal.returns-else-to-ne0
unfolding with_reg
returns-else-to-ne0 c = search rules
