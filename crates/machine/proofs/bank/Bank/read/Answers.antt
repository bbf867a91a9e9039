use Rattle.std.proofs.Common.{rules}
use Rattle.machine.specs.Registers.{reg}
use Rattle.machine.proofs.bank.Bank.read.Goals as goal

pub returns : goal.returns
unfolding reg
returns c = search rules
