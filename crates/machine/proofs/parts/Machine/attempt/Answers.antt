use Rattle.std.proofs.Common.{rules}
use Rattle.machine.proofs.Trying.{attempted, try_unfetched, try_word}
use Rattle.machine.proofs.parts.Machine.attempt.Goals as goal

pub returns-clause-tried : goal.returns-clause-tried
returns-clause-tried g c = attempted _ _ _ _ _ (try_word _ _ _ _ c.in_ok-word.ensures c.in_ok-instruction.ensures) c.execute.ensures.done

pub returns-in_err-instruction-clause-tried : goal.returns-in_err-instruction-clause-tried
returns-in_err-instruction-clause-tried g c = attempted _ _ _ _ _ (try_word _ _ _ _ c.in_ok-word.ensures c.in_err-instruction.ensures) (search rules)

pub returns-in_err-word-clause-tried : goal.returns-in_err-word-clause-tried
returns-in_err-word-clause-tried g c = attempted _ _ _ _ _ (try_unfetched _ _ _ c.in_err-word.ensures) (search rules)
