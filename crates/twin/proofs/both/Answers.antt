use Rattle.twin.proofs.Judged.{judged}
use Rattle.twin.proofs.both.Goals as goal

pub returns-clause-alike : goal.returns-clause-alike
returns-clause-alike g c = judged _ _ _ _ _ _ _ _ c.perform-first.ensures.performed c.perform-second.ensures.performed
