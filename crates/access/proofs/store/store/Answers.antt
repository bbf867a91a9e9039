use Rattle.std.proofs.Common.{rules}
use Rattle.access.proofs.Keeps.{keeps}
use Rattle.access.proofs.store.store.Goals as goal

pub returns-clause-laws : goal.returns-clause-laws
returns-clause-laws g c =
    let memory = c.args.memory.now in
    keeps (g.M.Memory.marks memory) (g.M.Memory.cells memory) (g.M.Memory.marked memory) c.args.at c.args.width c.args.value
    _ _ (search rules) (search rules)
