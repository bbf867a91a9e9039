use Rattle.calls.proofs.Makes.{took_made}
use Rattle.calls.proofs.make.Goals as goal

pub returns-in-Take-clause-made : goal.returns-in-Take-clause-made
returns-in-Take-clause-made g c = took_made _ _ _ _ c.in-Take.most _ _ _ _ c.in-Take.is c.take.ensures.taken
